use Rattle.std.{proofs.Common.◌+◌, proofs.Common.◌<◌, specs.List.All, specs.List.AllPairs}
use Rattle.elimination.specs.{Listed.Level, Lines.AreWeights, Lines.AreJoinedVertices, Lines.IsSymmetric}
use Rattle.elimination.proofs.joined.joined_to.Given as goal

abbrev pub invariant-loop-i : goal.invariant-loop-i
invariant-loop-i g l = record {
  below : All (λ x. x.place < l.i) l.joined.items;
  rising : AllPairs (λ x y. x.place < y.place) l.joined.items;
  done : (v : Level) → AreWeights g.N.Exact.modulus g.N.Exact.value l.lines v (l.k + 1) l.k → IsSymmetric g.N.Exact.modulus v (l.k + 1)
      → AreJoinedVertices g.N.Exact.modulus g.N.Exact.value l.joined.items v 0 l.i l.k;
}
