use Rattle.std.proofs.Common.{◌≡◌, pos, ◌++◌, map, length, All}
use Rattle.archive_text.specs.Forms.{IsShort}
use Rattle.archive_text.proofs.shells.short_numbers.Given as goal

abbrev pub invariant-loop-left : goal.invariant-loop-left
invariant-loop-left l = (map pos l.sizes.items ++ l.left ≡ l.numbers) × All IsShort l.sizes.items

abbrev pub decreases-loop-left : goal.decreases-loop-left
decreases-loop-left l = length l.left
