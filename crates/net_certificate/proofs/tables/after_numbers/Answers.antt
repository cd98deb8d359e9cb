use Rattle.std.proofs.lemmas.{Slice.Eq.strip_prefix_is, Bool.Decides.Decides-int_eq}
use Rattle.net_certificate.proofs.tables.after_numbers.Goals as goal

pub returns : goal.returns
returns c = strip_prefix_is Decides-int_eq c.args.numbers.now c.args.first.now c.strip_prefix.result c.strip_prefix.ensures.cases
