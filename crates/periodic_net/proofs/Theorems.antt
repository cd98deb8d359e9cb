-- The theorems on periodic nets that other crates cite, each as its statement says it.
use Rattle.std.proofs.Common.{pos, refl, subst}
use Rattle.integers.{specs.Vectors.Vector, specs.Vectors.zero_vector, proofs.vectors.Laws.times_zero, proofs.numbers.Division.modulo_dimension}
use Rattle.periodic_net.specs.Laws.{BarycentricPlacementsTranslate, IsomorphismsCarry, IsomorphismsKeep, NormalPlacementIsOne, TranslationsAreGroup}
use Rattle.periodic_net.proofs.placements.OnePlacement.{placements_translate, translate_barycentric, normal_unique}
use Rattle.periodic_net.proofs.Translations.{whole_translation, translation_plus, translation_back}
use Rattle.periodic_net.proofs.isomorphisms.CarriedClasses.{linear_part, stable_carries, iso_translations, iso_share, iso_classes, stands_there}
use Rattle.periodic_net.specs.{Laws.MovesAlike, RefinementLaws.MovesAreTranslations, Graph.Graph, Graph.IsGraph, Placement.Placement, Maps.Iso}
use Rattle.periodic_net.specs.{Placement.IsStablePlacement, Placement.HasNoCollision, Classes.IsTranslation, Translations.move_to}
use Rattle.periodic_net.proofs.isomorphisms.{Periods.iso_connected, Periods.iso_turned, StableNets.iso_stable}
use Rattle.periodic_net.proofs.Translations as moves

-- barycentric placements are translates
pub barycentric_placements_translate : BarycentricPlacementsTranslate
barycentric_placements_translate = record { translates = placements_translate; barycentric = translate_barycentric }

-- the normal placement is one
pub normal_placement_is_one : NormalPlacementIsOne
normal_placement_is_one G g c p q n m = let s = normal_unique G g c p q n m in (s.denominator, s.each)

-- isomorphisms keep connectedness and stability
pub isomorphisms_keep : IsomorphismsKeep
isomorphisms_keep = record { connected = iso_connected; stable = iso_stable }

-- the move by 0 is a translation
pub zero_translation : (G : Graph) (p : Placement) → HasNoCollision G p → IsTranslation G p zero_vector
zero_translation G p n = subst (IsTranslation G p) (times_zero (pos p.denominator)) (whole_translation G p n zero_vector (λ d. refl))

-- translations are a group
pub translations_are_group : TranslationsAreGroup
translations_are_group = record { zero = zero_translation; sums = translation_plus; opposites = translation_back; shifts = whole_translation }

-- the image of a translation moves the images as the translation moves the vertices
pub isomorphism_carries : (G H : Graph) (p q : Placement) → IsGraph G → IsGraph H → IsStablePlacement G p → IsStablePlacement H q → (e : Iso G H)
    → (r : Vector) → IsTranslation G p r → (s : Vector) × IsTranslation H q s × MovesAlike G p q e.there r s
isomorphism_carries G H p q g h a b e r t =
    let c = stable_carries G H p q g h a b e in let m = (iso_translations G H p q g h a b e).0 r t in
    (m.image, m.translation, λ w x i j k. stands_there G H p q e.there e.back (linear_part G H e p q) c r m.image m.related m.translation.dimension w x i j k)

-- isomorphisms carry translations and classes, and so do the maps back
pub isomorphisms_carry : IsomorphismsCarry
isomorphisms_carry = record {
  translations = isomorphism_carries;
  translations_back = λ G H p q g h a b e s t. isomorphism_carries H G q p h g b a (iso_turned e) s t;
  classes = iso_share;
  class_graphs = λ G H p q g h a b e class_of class_of' K L k l.
      iso_classes G H p q class_of class_of' K L (record { graph = g; stable = a; classes = k }) (record { graph = h; stable = b; classes = l }) e;
}

pub moves_are_translations : MovesAreTranslations
moves_are_translations = record {
  moves = λ G p g s r. (
    (λ h. moves.leads_to G p g s.no_collision r h.0 h.1),
    (λ h. (
      moves.led_from G p g s.no_collision s.placement.barycentric.dimension h.0 h.1 h.2 r h.3,
      record {
        dimension = modulo_dimension G.dimension _ (move_to p h.0) r (moves.move_flat G p g s.no_collision s.placement.barycentric.dimension h.0 h.1) h.3;
        low = h.3.low;
        high = h.3.high;
      },
    )),
  );
  rest = λ G p g s. moves.boxed G p g s.no_collision s.placement.barycentric.positive;
}
