-- The placement of a primitive graph is one, and so is the fault that is reported of it; and never both.
use Rattle.std.proofs.Common.{◌≡◌, ◌≢◌, ℕ, ◌<◌, ◌⊎◌, inl, inr, sym, ap, subst, ◌∙◌, refl, arith, get_or}
use Rattle.std.proofs.lemmas.List.{get_or_default}
use Rattle.integers.proofs.numbers.Order.{three_ways}
use Rattle.integers.specs.Vectors.{IsWithin}
use Rattle.periodic_net.specs.{Graph.Arc, Graph.arc, Graph.Graph, Graph.IsGraph, Limits.most_shift}
use Rattle.quotient_graph.specs.{NetClasses.NetClasses, PlacedNets.PlacedNet}
use Rattle.least_key.proofs.CallerLemmas.{one_placed, one_refusal, placed_is_not_refused}
use Rattle.least_key.specs.{KeyedNets.KeyedNet, Placings.IsPlacedAs}
use Rattle.least_key.specs.declared.refusal.Refusal.{Refusal}
use Rattle.least_key.specs.declared.refusal.Refusal.TheVariants.{NoMemory}
use Rattle.primitive_net.specs.Faults.{AreNarrow, IsFaultOf, IsFirstWide, IsUnplaced, no_memory}
use Rattle.primitive_net.specs.Laws.{OnePrimitiveFault, OnePrimitiveNet}
use Rattle.primitive_net.specs.PrimitiveNets.{IsPrimitiveNet}
use Rattle.primitive_net.specs.declared.fault.PrimitiveFault.{PrimitiveFault}
use Rattle.primitive_net.specs.declared.fault.PrimitiveFault.TheVariants.{WideShift, Refused}

-- of edges none of which is past the limit none is the first past it
not_wide : (P : Graph) (e : Arc) → AreNarrow P.edges → ¬ IsFirstWide P.edges e
not_wide P e narrow h = h.wide (subst (λ (a : Arc). IsWithin most_shift a.shift) h.stands (narrow h.place e h.inside))

-- the first past the limit is one
one_first_wide : (P : Graph) (e f : Arc) → IsFirstWide P.edges e → IsFirstWide P.edges f → e ≡ f
one_first_wide P e f a b = by (three_ways a.place b.place)
  where
    before : (x y : Arc) (p : IsFirstWide P.edges x) (q : IsFirstWide P.edges y) → p.place < q.place → x ≡ y
    before x y p q less = absurd (p.wide (subst (λ (z : Arc). IsWithin most_shift z.shift) p.stands (q.narrow p.place x less)))

    by : (a.place < b.place) ⊎ ((b.place < a.place) ⊎ (a.place ≡ b.place)) → e ≡ f
    by (inl less) = before e f a b less
    by (inr (inl more)) = sym (before f e b a more)
    by (inr (inr same)) = sym a.stands ∙ get_or_default P.edges a.place e f a.inside ∙ ap (λ (k : ℕ). get_or P.edges k f) same ∙ b.stands

-- a fault that is a refusal says what the refusal says
unplaced : (P : Graph) (refusal : Refusal) → refusal ≢ NoMemory → IsFaultOf P (Refused refusal) → IsUnplaced P refusal
unplaced P refusal n h = grind arith

told : (refusal : Refusal) → Refused refusal ≢ no_memory → refusal ≢ NoMemory
told refusal n e = n (ap Refused e)

-- if the graph is placed no fault is true of it
faultless : (n : KeyedNet) (p : PlacedNet) (c : NetClasses) (fault : PrimitiveFault) → IsGraph n.cell.graph → IsPrimitiveNet n p c
    → IsFaultOf n.cell.graph fault → fault ≡ no_memory
faultless n p c (WideShift u v s) g h k =
    let narrow = subst (λ (G : Graph). AreNarrow G.edges) h.graph h.small.shifts in absurd (not_wide n.cell.graph (arc u v s) narrow k)
faultless n p c (Refused NoMemory) g h k = refl
faultless n p c (Refused refusal) g h k = ap Refused (placed_is_not_refused n.cell.graph p refusal g h.settled.placed k.of_placing k.is_true)

-- as the laws say it
pub one_primitive_net : OnePrimitiveNet
one_primitive_net = record {
  one = λ m n p q c e g same h k.
      one_placed m.cell.graph g p q h.settled.placed (subst (λ (G : Graph). IsPlacedAs G q) (sym same) k.settled.placed);
  faultless = faultless;
}

pub one_primitive_fault : OnePrimitiveFault
one_primitive_fault P (WideShift u v s) (WideShift x y t) g a b n m =
    let e = one_first_wide P (arc u v s) (arc x y t) a b in λ i. WideShift (e i).from (e i).to (e i).shift
one_primitive_fault P (WideShift u v s) (Refused r) g a b n m = absurd (not_wide P (arc u v s) (unplaced P r (told r m) b).narrow a)
one_primitive_fault P (Refused r) (WideShift x y t) g a b n m = absurd (not_wide P (arc x y t) (unplaced P r (told r n) a).narrow b)
one_primitive_fault P (Refused q) (Refused r) g a b n m =
    ap Refused (one_refusal P q r g (unplaced P q (told q n) a).is_true (unplaced P r (told r m) b).is_true (told q n) (told r m))
