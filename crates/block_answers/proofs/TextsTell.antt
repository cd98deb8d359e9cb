-- Reports of `key` are legible, so equal ones have isomorphic nets.
use Rattle.std.proofs.Common.{◌≡◌, ℕ, zero, suc, ◌+◌, ◌<◌, ℤ, List, [], ◌∷◌, length, Some, sym, ap, ◌∙◌, subst, arith}
use Rattle.std.specs.Prelude.{slice_index_or, unwrap_or, is_some}
use Rattle.std.proofs.lemmas.Bool.{true≢false}
use Rattle.line_text.specs.Lines.{HasNo}
use Rattle.cgd_read.specs.Blocks.{blocks_of}
use Rattle.cgd_read.specs.Views.{BlockView, BodyView, Net, Other}
use Rattle.cgd_read.specs.Views.{Faulty as ReadFaulty}
use Rattle.archive_text.specs.Entries.{EntryView}
use Rattle.net_report.specs.Telling.{AreEach, IsBodyOnLines, IsLegible, IsOnLine, ReportAlike, AreReportedAlike, AreAllReportedAlike}
use Rattle.net_report.specs.declared.{outcome.Outcome.Outcome, command.Command.Command, outcome.OutcomeBody.OutcomeBody}
use Rattle.net_report.specs.declared.outcome.OutcomeBody.TheVariants.{Unsupported, Malformed, Faulty, Refused, Checked, Located, Keyed, Identified, Lines}
use Rattle.net_report.specs.declared.command.Command.TheVariants.{Key}
use Rattle.net_report.proofs.CallerLemmas.{reports_tell}
use Rattle.block_answers.specs.Deciding.{key_told}
use Rattle.block_answers.specs.Outcomes.{AreOutcomesFrom, IsBodyOf}
use Rattle.block_answers.specs.Laws.{EqualReportsTell, ReportsAreLegible}
use Rattle.block_answers.proofs.OnLines.{IsBodyRead, IsReadOnLines, blocks_on_lines}
use Rattle.block_answers.proofs.KeysDecideNets.{bodies_decide, told_at}

-- of what was read on lines nothing is reported with a line feed
body_on_lines : (entries : List EntryView) (body : BodyView) (told : OutcomeBody) → IsBodyRead body → IsBodyOf entries Key body told → IsBodyOnLines told
body_on_lines entries (Other token) (Unsupported told) g h = subst (HasNo 10) (sym h) g
body_on_lines entries (ReadFaulty fault) (Malformed told) g h = tt
body_on_lines entries (Net raw) (Refused size names refusal) g h = subst (AreEach (HasNo 10)) (sym h.names_are) g
body_on_lines entries (Net raw) (Keyed size net) g h = tt
body_on_lines entries body told g h = absurd h

are_legible : (entries : List EntryView) (n : ℕ) (bs : List BlockView) (os : List Outcome) → AreEach IsReadOnLines bs → AreOutcomesFrom entries Key n bs os
    → AreEach IsLegible os
are_legible entries n [] [] g h = tt
are_legible entries n (b ∷ bs) (o ∷ os) g h = (
  record {
    whole = h.0.whole;
    name = subst IsOnLine (sym h.0.name) g.0.name;
    body = body_on_lines entries b.body o.body g.0.body h.0.body;
  },
  are_legible entries (n + 1) bs os g.1 h.1,
)
are_legible entries n bs os g h = absurd h

pub reports_are_legible : ReportsAreLegible
reports_are_legible entries file os h = are_legible entries 1 (blocks_of file) os (blocks_on_lines file) h

-- what is reported at each place is the same
alike_at : (entries : List EntryView) (command : Command) (n i : ℕ) (bs : List BlockView) (os ps : List Outcome) (o p : Outcome)
    → AreOutcomesFrom entries command n bs os → AreAllReportedAlike os ps → i < length bs → slice_index_or os i o ≡ o → slice_index_or ps i p ≡ p
    → AreReportedAlike o p
alike_at entries command n i [] os ps o p h k l e f = absurd (omega (arith, l))
alike_at entries command n i (b ∷ bs) [] ps o p h k l e f = absurd h
alike_at entries command n i (b ∷ bs) (x ∷ os) [] o p h k l e f = absurd k
alike_at entries command n zero (b ∷ bs) (x ∷ os) (y ∷ ps) o p h k l e f = subst (λ (z : Outcome). AreReportedAlike o z) f (subst (λ
    (z : Outcome). AreReportedAlike z y) e k.0)
alike_at entries command n (suc i) (b ∷ bs) (x ∷ os) (y ∷ ps) o p h k l e f = alike_at entries command (n + 1) i bs os ps o p h.1 k.1 (omega (arith, l)) e f

-- such bodies have one key, if both have keys
one_key_told : (b c : OutcomeBody) (xs ys : List ℤ) → ReportAlike b c → key_told b ≡ Some xs → key_told c ≡ Some ys → xs ≡ ys
one_key_told (Keyed s m) (Keyed t n) xs ys h e f = sym (ap (λ o. unwrap_or o xs) e) ∙ h.1 ∙ ap (λ o. unwrap_or o ys) f
one_key_told (Keyed s m) (Unsupported b) xs ys h e f = absurd h
one_key_told (Keyed s m) (Malformed b) xs ys h e f = absurd h
one_key_told (Keyed s m) (Faulty x y z) xs ys h e f = absurd h
one_key_told (Keyed s m) (Refused x y z) xs ys h e f = absurd h
one_key_told (Keyed s m) (Checked x) xs ys h e f = absurd h
one_key_told (Keyed s m) (Located x y z) xs ys h e f = absurd h
one_key_told (Keyed s m) (Identified x y z v w) xs ys h e f = absurd h
one_key_told (Keyed s m) (Lines x y) xs ys h e f = absurd h
one_key_told (Identified x y z v w) c xs ys h e f = absurd h
one_key_told b c xs ys h e f = absurd (true≢false (sym (ap is_some e)))

pub equal_reports_tell : EqualReportsTell
equal_reports_tell entries entries' file file' os ps h h' e i raw raw' xs ys k l =
    let bs = blocks_of file in let cs = blocks_of file' in
    let all = reports_tell os ps (reports_are_legible entries file os h) (reports_are_legible entries' file' ps h') e in
    let alike = alike_at entries Key 1 i bs os ps k.outcome l.outcome h all k.at.inside k.at.outcome_is l.at.outcome_is in
    let one = one_key_told k.outcome.body l.outcome.body xs ys alike.body k.told l.told in
    (bodies_decide entries entries' Key Key raw raw' k.outcome.body l.outcome.body xs ys (told_at entries Key bs os h i k.block k.outcome raw k.at k.graph)
    (told_at entries' Key cs ps h' i l.block l.outcome raw' l.at l.graph) k.told l.told).0 one
