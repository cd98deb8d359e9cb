use Rattle.std.proofs.Common.{sym, subst, ◌≤◌, ℕ, lit<, arith}
use Rattle.periodic_net.specs.Limits.{most_arcs}
use Rattle.quotient_graph.proofs.Stars.{joined_length}
use Rattle.quotient_graph.proofs.class_graph.ClassGraph.all_arcs.Goals as goal

pub arcs_in-requires : goal.arcs_in-requires
arcs_in-requires g c = (
  lit< tt,
  rw c.deref.ensures.value (subst (λ (n : ℕ). n ≤ most_arcs) (joined_length (λ s. s.items) c.self.inside.stars.items) c.self.invariant.small.few_arcs),
)

pub returns-clause-count : goal.returns-clause-count
returns-clause-count g c =
    rw (c.arcs_in.ensures, c.deref.ensures.value, ← c.self.view_is) (sym (joined_length (λ s. s.items) c.self.inside.stars.items))

pub returns-clause-few : goal.returns-clause-few
returns-clause-few g c =
    rw (c.arcs_in.ensures, c.deref.ensures.value) (rw (joined_length (λ s. s.items) c.self.inside.stars.items) at c.self.invariant.small.few_arcs)

pub overflow_cast-result : goal.overflow_cast-result
overflow_cast-result g c = let few = returns-clause-few g c in grind (arith, few)
