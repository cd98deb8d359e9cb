use Rattle.std.proofs.Common.{◌<◌, ◌%◌, ap, ◌∙◌, arith}
use Rattle.std.specs.List.{list_all}
use Rattle.workload.{specs.BaseNets.is_base_edge, proofs.SmallText.all_base}
use Rattle.workload.proofs.text.push_edges.Goals as goal

pub push_lines-requires-clause-base : goal.push_lines-requires-clause-base
push_lines-requires-clause-base c =
    let few : c.args.i % 8 < 8 = omega arith in
    ap (list_all is_base_edge) (c.deref.ensures.value ∙ c.in_ok-edges.ensures) ∙ all_base (c.args.i % 8) few
