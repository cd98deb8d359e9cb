use Rattle.std.proofs.Common.{refl, sym, ◌∙◌}
use Rattle.net_archive.proofs.Ahead.{no_version}
use Rattle.net_archive.proofs.reading.read_version.Goals as goal

pub returns-in-None-version_of : goal.returns-in-None-version_of
returns-in-None-version_of c = (
  refl,
  no_version c.args.text.now c.in-Some.line.now c.next.new.self.rest (c.requires.joined ∙ c.in-Some.ensures.line)
      (λ v others none e. (c.in-Some.ensures.every _ others none (sym c.requires.joined ∙ e)).0) c.in-None-version_of.ensures,
)
