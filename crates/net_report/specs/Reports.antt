-- The text of each outcome, and the whole report.
use Rattle.std.specs.Prelude.{◌≡◌, ℕ, List, [], ◌∷◌, ◌++◌, length, option_copied, codes}
use Rattle.net_report.specs.Headers.{header_text, size_text, unsupported_text, fault_text, faulty_text}
use Rattle.net_report.specs.Refusals.{refused_text, HasLine}
use Rattle.least_key.specs.AnyPlacements.{placed_view}
use Rattle.least_key.specs.AnyNets.{net_view}
use Rattle.net_report.specs.Identified.{identified_text}
use Rattle.net_report.specs.Keys.{key_text}
use Rattle.net_report.specs.Placements.{placement_text}
use Rattle.net_report.specs.declared.outcome.Outcome.{Outcome}
use Rattle.net_report.specs.declared.outcome.OutcomeBody.{OutcomeBody}
use Rattle.net_report.specs.declared.outcome.OutcomeBody.TheVariants.{Unsupported, Malformed, Faulty, Refused, Checked, Located, Keyed, Identified, Lines}

-- the lines after the header
abbrev pub body_text : OutcomeBody → List ℕ
body_text (Unsupported token) = unsupported_text token.now
body_text (Malformed fault) = fault_text fault
body_text (Faulty line number kind) = faulty_text line number kind.now
body_text (Refused size names refusal) = size_text size ++ refused_text names refusal
body_text (Checked size) = size_text size ++ codes "connected\n"
body_text (Located size names placed) = size_text size ++ placement_text names (placed_view placed)
body_text (Keyed size net) = size_text size ++ key_text (net_view net).key
body_text (Identified size vertices net shells names) = size_text size ++ identified_text vertices (net_view net) shells names
body_text (Lines size lines) = size_text size ++ lines

-- the header, and the lines after it
abbrev pub outcome_text : Outcome → List ℕ
outcome_text o = header_text o.number o.line (option_copied o.name) ++ body_text o.body

-- the texts of the outcomes, one after the other
abbrev pub report_text : List Outcome → List ℕ
report_text [] = []
report_text (o ∷ os) = outcome_text o ++ report_text os

-- a refusal has a line with the names beside it, and beside a placement there is a name for each vertex
abbrev pub IsPrintableBody : OutcomeBody → Type 0
IsPrintableBody (Unsupported token) = Unit {0}
IsPrintableBody (Malformed fault) = Unit {0}
IsPrintableBody (Faulty line number kind) = Unit {0}
IsPrintableBody (Refused size names refusal) = HasLine names refusal
IsPrintableBody (Checked size) = Unit {0}
IsPrintableBody (Located size names placed) = length names ≡ (placed_view placed).graph.vertices
IsPrintableBody (Keyed size net) = Unit {0}
IsPrintableBody (Identified size vertices net shells names) = length vertices ≡ (net_view net).placed.graph.vertices
IsPrintableBody (Lines size lines) = Unit {0}

-- an outcome has a text
abbrev pub IsPrintable : Outcome → Type 0
IsPrintable o = IsPrintableBody o.body
