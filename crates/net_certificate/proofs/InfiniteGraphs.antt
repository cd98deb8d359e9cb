-- Keys that differ refute each bijection that joins alike, so the answer that nets are different does; and each other answer has equal keys.
use Rattle.std.proofs.Common.{◌≡◌, ℕ, ◌-◌, List, [], ◌∷◌, refl, subst, sym}
use Rattle.std.specs.Prelude.{◌↔◌}
use Rattle.periodic_net.specs.{Graph.Graph, Graph.IsGraph, Maps.BareIso}
use Rattle.key_theory.{specs.Key.Shape, proofs.CallerLemmas.keys_decide_bare, proofs.CallerLemmas.other_keys_refute}
use Rattle.least_key.specs.KeyedNets.{KeyedNet}
use Rattle.standard_map.specs.MapNumbers.{HaveOtherKeys, StandardTable}
use Rattle.net_certificate.specs.{Answers.shape_of, Answers.TellsGraphs, Items.ItemView, Items.Without, Laws.AnswersTellGraphs}
use Rattle.net_certificate.specs.NetItems.{AreItemsOf, AreToldApart, images_in, item_by}
use Rattle.net_certificate.specs.declared.maps.MapAnswer.{MapAnswer}
use Rattle.net_certificate.specs.declared.maps.MapAnswer.TheVariants.{Different, Found, LongMap, WideMap}
use Rattle.net_certificate.specs.declared.items.NoMap.TheVariants as why

-- keys that differ refute
refuted : (G H : Graph) (g : Shape G) (h : Shape H) → IsGraph G → IsGraph H → HaveOtherKeys G H g h → ¬ BareIso G H
refuted G H g h k l o = other_keys_refute G H g h o.key o.key' k l o.is_key o.is_key' o.differ

-- a standard map is there if the keys are equal
of_table : (G H : Graph) (g : Shape G) (h : Shape H) → IsGraph G → IsGraph H → StandardTable G H g h → BareIso G H
of_table G H g h k l t =
    let s = t.standard in
    (keys_decide_bare G H s.key s.key k l (record { shape = g; least = s.here.least_list }) (record { shape = h; least = s.there.least_list })).0 refl

-- so the answer tells
pub answers_tell_graphs : AnswersTellGraphs
answers_tell_graphs a b room Different m =
    refuted a.placed.graph b.placed.graph (shape_of a m.here) (shape_of b m.there) m.here.is_graph m.there.is_graph m.by
answers_tell_graphs a b room (LongMap entries) m =
    of_table a.placed.graph b.placed.graph (shape_of a m.here) (shape_of b m.there) m.here.is_graph m.there.is_graph m.by.table
answers_tell_graphs a b room (WideMap value) m =
    of_table a.placed.graph b.placed.graph (shape_of a m.here) (shape_of b m.there) m.here.is_graph m.there.is_graph m.by.table
answers_tell_graphs a b room (Found map) m =
    of_table a.placed.graph b.placed.graph (shape_of a m.here) (shape_of b m.there) m.here.is_graph m.there.is_graph m.by.table

-- the item by an answer says that the nets are different if and only if the answer does
different_by : (G H : Graph) (answer : MapAnswer) → TellsGraphs G H answer → (item_by H answer ≡ Without why.Different) ↔ (¬ BareIso G H)
different_by G H Different t = (λ e. t, λ n. refl)
different_by G H (LongMap entries) t = (λ e. absurd (cc), λ n. absurd (n t))
different_by G H (WideMap value) t = (λ e. absurd (cc), λ n. absurd (n t))
different_by G H (Found map) t = (λ e. absurd (cc), λ n. absurd (n t))

-- so do all items
pub items_apart : (first : KeyedNet) (room : ℕ) (nets : List KeyedNet) (items : List ItemView) → AreItemsOf first room nets items
    → AreToldApart first nets items
items_apart first room [] [] h = tt
items_apart first room (net ∷ nets) (item ∷ items) h = (
  subst (λ (i : ItemView). (i ≡ Without why.Different) ↔ (¬ BareIso first.placed.graph net.placed.graph)) (sym h.0.item_is)
      (different_by first.placed.graph net.placed.graph h.0.answer (answers_tell_graphs first net room h.0.answer h.0.is_answer)),
  items_apart first (room - images_in item) nets items h.1,
)
items_apart first room nets items h = absurd h
