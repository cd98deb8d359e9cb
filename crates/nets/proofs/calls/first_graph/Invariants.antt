use Rattle.std.proofs.Common.{◌≡◌, drop}
use Rattle.cgd_read.specs.Views.{views}
use Rattle.nets.specs.Texts.{first_graph}
use Rattle.nets.proofs.calls.first_graph.Given as goal

abbrev pub invariant-loop-block : goal.invariant-loop-block
invariant-loop-block l = first_graph (views (drop l.block-index l.found)) ≡ first_graph (views l.found)
