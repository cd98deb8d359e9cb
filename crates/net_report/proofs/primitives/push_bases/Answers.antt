use Rattle.std.proofs.Common.{◌+◌, ◌∷◌, ap, drop, sym}
use Rattle.net_report.specs.Primitives.{bases_text, basis_text}
use Rattle.net_report.proofs.Growing.{line_more}
use Rattle.net_report.proofs.primitives.push_bases.Goals as goal

pub loop-v-preserved : goal.loop-v-preserved
loop-v-preserved g c =
    let D = g.row.D in let basis = c.args.basis.now in let i = c.loop-v.v-index in let v = c.v-item.result in
    let rest = drop (i + 1) basis in
    line_more (bases_text D) (basis_text D v) (bases_text D rest) basis i v c.loop-v.text.items c.push_basis.new.text.items _ c.loop-v-test.true
    c.in_ok-push_basis.ensures (ap (λ w. bases_text D (w ∷ rest)) (sym c.v-item.is)) c.loop-v.invariant
