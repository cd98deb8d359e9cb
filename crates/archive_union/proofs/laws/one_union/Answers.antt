use Rattle.archive_union.proofs.OneUnion.{same_union, same_item, not_both}
use Rattle.archive_union.proofs.laws.one_union.Goals as goal

pub returns : goal.returns
returns c = record {
  theorem = record { one_union = same_union; one_item = same_item; not_both = not_both };
}
