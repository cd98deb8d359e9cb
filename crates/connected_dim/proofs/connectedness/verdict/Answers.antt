use Rattle.std.proofs.Common.{None, Contains, ap, subst, ◌∙◌}
use Rattle.connected_dim.{specs.Quotient.part_colouring, proofs.Splits.part_refusal, proofs.Generated.part_split_is}
use Rattle.connected_dim.proofs.connectedness.verdict.Goals as goal

pub returns-then-not-all_found-clause-verdict : goal.returns-then-not-all_found-clause-verdict
returns-then-not-all_found-clause-verdict g c =
    let G = c.args.g.now in let found = c.in_ok-found.found.items in
    let missed = subst (λ xs. Contains xs None) c.deref.ensures.value (c.all_found.ensures.no c.if-not-all_found.true) in
    let split = c.in_ok-part_split.ensures.split ∙ ap part_colouring c.deref-then-not-all_found.ensures.value in
    part_refusal G c.in_ok-part_split.field-0 (part_colouring found) c.dimension-dim.ensures.is_graph
    (c.in_ok-part_split.ensures.dimension ∙ c.dimension-dim.ensures.value) split
    (part_split_is G found c.dimension-dim.ensures.is_graph c.in_ok-found.ensures.walks missed)
