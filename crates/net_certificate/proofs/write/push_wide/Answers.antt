use Rattle.std.proofs.Common.{ℤ, ◌++◌, ap, ◌∙◌}
use Rattle.std.{proofs.lemmas.Int.to_z-of_z, proofs.lemmas.Result.on_ok_weaker, specs.Fmt.signed_decimal}
use mir.Syntax.{w128}
use Rattle.net_certificate.proofs.WholeTexts.{wide_written}
use Rattle.net_certificate.proofs.write.push_wide.Goals as goal

pub returns : goal.returns
returns c = on_ok_weaker c.push_value.result
    (λ last. wide_written c.args.text.now.items c.extend_from_slice.new.self.items c.push_value.new.text.items c.args.value
    c.in_ok-extend_from_slice.ensures.items
    (last ∙ ap (λ (z : ℤ). c.extend_from_slice.new.self.items ++ signed_decimal z) (to_z-of_z w128 c.args.value c.requires))) c.push_value.ensures
