-- What the text of an outcome says of it, if the outcome is legible.
use Rattle.std.specs.Prelude.{◌≡◌, ℕ, ◌<◌, ◌^◌, ℤ, List, [], ◌∷◌, All, Option, None, Some, option_copied}
use Rattle.line_text.specs.Lines.{HasNo}
use Rattle.line_text.specs.Numbers.{IsWide}
use Rattle.least_key.specs.AnyNets.{net_view}
use Rattle.net_report.specs.Headers.{fault_text}
use Rattle.net_report.specs.Keys.{key_text}
use Rattle.net_report.specs.Refusals.{refused_text}
use Rattle.net_report.specs.Reports.{report_text}
use Rattle.net_report.specs.declared.outcome.Size.{Size}
use Rattle.net_report.specs.declared.outcome.Outcome.{Outcome}
use Rattle.net_report.specs.declared.outcome.OutcomeBody.{OutcomeBody}
use Rattle.net_report.specs.declared.outcome.OutcomeBody.TheVariants.{Unsupported, Malformed, Faulty, Refused, Checked, Located, Keyed, Identified, Lines}

-- a number that is printed whole
abbrev pub IsShort : ℕ → Type 0
IsShort n = n < 10 ^ 64

-- sizes that are printed whole
pub record IsShortSize (s : Size) : Type 0 where
  pub dim : IsShort s.dim
  pub vertices : IsShort s.vertices
  pub edges : IsShort s.edges
  pub repeats : IsShort s.repeats

-- a name without a line feed, if there is one
abbrev pub IsOnLine : Option (List ℕ) → Type 0
IsOnLine None = Unit {0}
IsOnLine (Some name) = HasNo 10 name

-- each of these is so
abbrev pub AreEach : {X : Type 0} → (X → Type 0) → List X → Type 0
AreEach Good [] = Unit {0}
AreEach Good (x ∷ xs) = Good x × AreEach Good xs

-- the sizes, the numbers of lines and the key that are reported of a block are printed whole
abbrev pub IsBodyPrintedWhole : OutcomeBody → Type 0
IsBodyPrintedWhole (Unsupported token) = Unit {0}
IsBodyPrintedWhole (Malformed fault) = IsShort fault.line
IsBodyPrintedWhole (Faulty line number kind) = IsShort line × IsShort number
IsBodyPrintedWhole (Refused size names refusal) = IsShortSize size
IsBodyPrintedWhole (Checked size) = IsShortSize size
IsBodyPrintedWhole (Located size names placed) = IsShortSize size
IsBodyPrintedWhole (Keyed size net) = IsShortSize size × All IsWide (net_view net).key
IsBodyPrintedWhole (Identified size vertices net shells names) = IsShortSize size × All IsWide (net_view net).key
IsBodyPrintedWhole (Lines size lines) = IsShortSize size

-- and so are the number of the block and that of its line
pub record IsPrintedWhole (o : Outcome) : Type 0 where
  pub number : IsShort o.number
  pub line : IsShort o.line
  pub body : IsBodyPrintedWhole o.body

-- of what `key` reports of a block no token and no name of a vertex has a line feed
abbrev pub IsBodyOnLines : OutcomeBody → Type 0
IsBodyOnLines (Unsupported token) = HasNo 10 token.now
IsBodyOnLines (Malformed fault) = Unit {0}
IsBodyOnLines (Refused size names refusal) = AreEach (HasNo 10) names
IsBodyOnLines (Keyed size net) = Unit {0}
IsBodyOnLines body = ⊥

-- what `key` reports of a block, on lines: numbers are printed whole, and no name and no token has a line feed
pub record IsLegible (o : Outcome) : Type 0 where
  pub whole : IsPrintedWhole o
  pub name : IsOnLine (option_copied o.name)
  pub body : IsBodyOnLines o.body

-- two bodies report the same: the token, the line of the fault, the sizes and the line of the refusal, or the sizes and the key
abbrev pub ReportAlike : OutcomeBody → OutcomeBody → Type 0
ReportAlike (Unsupported a) (Unsupported b) = a.now ≡ b.now
ReportAlike (Malformed f) (Malformed g) = fault_text f ≡ fault_text g
ReportAlike (Refused s ms r) (Refused t ns q) = (s ≡ t) × (refused_text ms r ≡ refused_text ns q)
ReportAlike (Keyed s m) (Keyed t n) = (s ≡ t) × ((net_view m).key ≡ (net_view n).key)
ReportAlike body body' = ⊥

-- two outcomes have one number, one line, one name, and report the same
pub record AreReportedAlike (o p : Outcome) : Type 0 where
  pub number : o.number ≡ p.number
  pub line : o.line ≡ p.line
  pub name : option_copied o.name ≡ option_copied p.name
  pub body : ReportAlike o.body p.body

-- so do all, one after the other
abbrev pub AreAllReportedAlike : List Outcome → List Outcome → Type 0
AreAllReportedAlike [] [] = Unit {0}
AreAllReportedAlike (o ∷ os) (p ∷ ps) = AreReportedAlike o p × AreAllReportedAlike os ps
AreAllReportedAlike os ps = ⊥

-- two lines of keys are equal only if the keys are
abbrev pub KeyLinesTell : Type 0
KeyLinesTell = (xs ys : List ℤ) → All IsWide xs → All IsWide ys → key_text xs ≡ key_text ys → xs ≡ ys

-- two reports of `key` with one text have as many outcomes, in pairs that report the same
abbrev pub ReportsTell : Type 0
ReportsTell = (os ps : List Outcome) → AreEach IsLegible os → AreEach IsLegible ps → report_text os ≡ report_text ps → AreAllReportedAlike os ps
