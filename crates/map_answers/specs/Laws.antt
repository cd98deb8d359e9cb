-- What is due to the command `same` is one, and `verify` passes what it prints.
use Rattle.std.specs.Prelude.{◌≡◌, ℕ, ◌≤◌, List, [], length, map, Option, None, Some}
use Rattle.line_text.specs.Lines.{rows_text}
use Rattle.cgd_read.specs.Blocks.{most_blocks}
use Rattle.cgd_read.specs.Views.{BlockView}
use Rattle.map_check.specs.declared.verdict.Verdict.{Verdict}
use Rattle.map_check.specs.declared.verdict.Verdict.TheVariants.{Yes}
use Rattle.net_certificate.specs.Items.{ItemView, Without, With, Maps}
use Rattle.map_answers.specs.DueToVerify.{IsDueToVerify}
use Rattle.net_certificate.specs.Results.{result_rows}
use Rattle.net_report.specs.declared.status.Status.{Status}
use Rattle.net_report.specs.declared.status.Status.TheVariants.{Done}
use Rattle.map_answers.specs.Due.{AreMapped, IsSameAs}

-- two answers that are due to one list of blocks have one status and one text
abbrev pub OneSameness : Type 0
OneSameness = (blocks : List BlockView) (s t : Status) (x y : List ℕ) → IsSameAs blocks s x → IsSameAs blocks t y → (s ≡ t) × (x ≡ y)

-- the verdict on an item: Yes if it has a map, and none if it has not
abbrev pub passing : ItemView → Option Verdict
passing (Without why) = None
passing (With H map) = Some Yes

-- the lines that report these verdicts, one for each net after the first: `verified` if there is a map to it, and `unproved` if there is none
abbrev pub verified_text : Option Maps → List ℕ
verified_text None = []
verified_text (Some maps) = rows_text (result_rows 2 maps.first.dimension (map passing maps.items))

-- of the text that is printed of at most 4,096 blocks nothing else is due to `verify` than that each map in it is verified
abbrev pub SameIsVerified : Type 0
SameIsVerified =
    (blocks : List BlockView) (text : List ℕ) (same : AreMapped blocks text) → length blocks ≤ most_blocks
    → (status : Status) (told : List ℕ) → IsDueToVerify text status told → (status ≡ Done) × (told ≡ verified_text same.told.maps)
