use Rattle.archive_text.specs.Groups.{numbers_in}
use Rattle.answers.proofs.answer.groups_of.Goals as goal

pub returns : goal.returns
returns c = record {
  groups = numbers_in c.in_ok-groups.groups.items;
  are_groups = c.in_ok-groups.ensures.groups;
  isomorphic = c.in_ok-groups.ensures.isomorphic;
  bare = c.in_ok-groups.ensures.bare;
  text_is = rw (← c.entries.ensures.entries, ← c.deref.ensures.value) c.in_ok-text.ensures;
}
