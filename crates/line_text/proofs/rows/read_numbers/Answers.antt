-- Of `read_numbers`: the loop over `rest`; the clause `every`.
use Rattle.std.proofs.Common.{ap, arith, length, refl, sym, ◌∙◌, [], ◌∷◌, ◌++◌, subst}
use Rattle.std.proofs.lemmas.{List.length-append, Int.to_z-of_z, Option.none-some}
use mir.Syntax.{w128}
use mir.Val.{of_z, to_z}
use Rattle.line_text.specs.{Lines.before, Lines.onwards, Reading.IsReadTo}
use Rattle.line_text.proofs.Texts.{pushed, stuck, too_many, finished, none_left, without_first}
use Rattle.line_text.proofs.rows.read_numbers.Goals as goal

pub loop-rest-preserved : goal.loop-rest-preserved
loop-rest-preserved c = (
  subst (λ items. IsReadTo c.args.mark c.args.text.now items c.cut.result.1.now)
      (sym (c.in_ok-push-in-Some.ensures.items ∙ ap (λ n. c.loop-rest.numbers.items ++ n ∷ []) (to_z-of_z w128 c.in-Some.n c.in-Some.ensures.wide)))
      (pushed c.args.mark c.requires c.args.text.now c.loop-rest.numbers.items c.loop-rest.rest.now c.in-Some.n c.cut.result.0.now c.cut.result.1.now
      c.loop-rest.invariant.0 c.in-len1-up.len_at_least c.if-first-mark.false
      (c.cut.ensures.first ∙ ap (before c.args.mark) (without_first c.loop-rest.rest.now))
      (c.cut.ensures.second ∙ ap (onwards c.args.mark) (without_first c.loop-rest.rest.now)) c.in-Some.ensures.spelling c.in-Some.ensures.wide
      c.in-Some.ensures.every),
  let long = ap length c.in_ok-push-in-Some.ensures.items ∙ length-append c.loop-rest.numbers.items (to_z w128 (of_z w128 c.in-Some.n) ∷ []) in
      omega (arith, long, c.loop-rest.invariant.1),
)

pub returns-then-first-mark-clause-every : goal.returns-then-first-mark-clause-every
returns-then-first-mark-clause-every c =
    λ zs all few e. absurd (stuck c.args.mark c.requires c.args.text.now c.loop-rest.numbers.items c.loop-rest.rest.now c.loop-rest.invariant.0
    c.in-len1-up.len_at_least (λ w wide begins field. c.if-first-mark.true begins) zs all e)

pub returns-then-len-most-clause-every : goal.returns-then-len-most-clause-every
returns-then-len-most-clause-every c =
    λ zs all few e. absurd (too_many c.args.mark c.requires c.args.most c.args.text.now c.loop-rest.numbers.items c.loop-rest.rest.now c.loop-rest.invariant.0
    c.in-len1-up.len_at_least (omega (arith, c.len.ensures, c.if-len-most.true)) zs all few e)

pub returns-in-None-clause-every : goal.returns-in-None-clause-every
returns-in-None-clause-every c =
    λ zs all few e. absurd (stuck c.args.mark c.requires c.args.text.now c.loop-rest.numbers.items c.loop-rest.rest.now c.loop-rest.invariant.0
    c.in-len1-up.len_at_least (λ w wide begins field. none-some w (c.in-None.ensures.every w wide
    (c.cut.ensures.first ∙ ap (before c.args.mark) (without_first c.loop-rest.rest.now) ∙ field))) zs all e)

pub returns-clause-every : goal.returns-clause-every
returns-clause-every c = λ zs all few e. (
  refl,
  finished c.args.mark c.requires c.args.text.now c.loop-rest.numbers.items c.loop-rest.rest.now c.loop-rest.invariant.0
      (none_left c.loop-rest.rest.now c.in_default.len_below) zs all e,
)
