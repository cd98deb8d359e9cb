use Rattle.std.proofs.lemmas.Result.{on_ok_weaker}
use Rattle.net_certificate.proofs.WholeTexts.{long_written}
use Rattle.net_certificate.proofs.write.push_long.Goals as goal

pub returns : goal.returns
returns c = on_ok_weaker c.push_count.result
    (λ last. long_written c.args.text.now.items c.extend_from_slice.new.self.items c.push_count.new.text.items c.args.entries
    c.in_ok-extend_from_slice.ensures.items last) c.push_count.ensures
