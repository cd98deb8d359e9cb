use Rattle.std.proofs.{Common.◌∙◌, Common.sym, lemmas.Slice.Eq.bytes_eq-Decides}
use Rattle.net_archive.proofs.judge.same_sizes.Goals as goal

pub returns : goal.returns
returns c =
    let d = bytes_eq-Decides c.args.a.now c.args.b.now in
    ((λ e. d.0 (sym c.eq.ensures ∙ e)), (λ e. c.eq.ensures ∙ d.1 e))
