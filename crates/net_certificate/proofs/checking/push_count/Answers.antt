use Rattle.std.{specs.Prelude.codes, proofs.lemmas.Result.on_ok_weaker}
use Rattle.line_text.specs.Numbers.{field_text}
use Rattle.net_certificate.{specs.ResultLines.fault_text, proofs.WholeTexts.two_written}
use Rattle.net_certificate.proofs.checking.push_count.Goals as goal

pub returns : goal.returns
unfolding fault_text
returns c = on_ok_weaker c.push_product.result (λ last. two_written c.args.text.now.items c.push_field.new.text.items c.push_product.new.text.items
    (field_text (codes " refused 2 Count entries=") c.args.entries) (field_text (codes " product=") c.args.product) c.in_ok-push_field.ensures last)
    c.push_product.ensures
