use Rattle.std.proofs.lemmas.List.{length_push}
use Rattle.std.proofs.{Common.◌+◌, Common.◌∙◌, Common.pos, Common.ap, lemmas.List.Elements.All-push}
use Rattle.exact.specs.Ratio.{Same, whole}
use Rattle.elimination.proofs.lines.zeros.Goals as goal

pub loop-preserved : goal.loop-preserved
loop-preserved g c =
    let n = g.N.Exact in let before = c.loop.invariant in let xs = c.loop.numbers.items in
    let zero = c.zero-zero.result in
    rw c.in_ok-push.ensures.items (record {
      count = length_push xs zero ∙ ap (λ k. k + 1) before.count;
      zero = All-push (λ (x : g.row.N.Denot). Same n.modulus (n.value x) (whole (pos 0))) xs zero before.zero c.zero-zero.ensures;
    })
