-- Whether an outcome shows that its block was accepted.
use Rattle.std.specs.Prelude.{Bool, true, false}
use Rattle.net_report.specs.declared.outcome.Outcome.{Outcome}
use Rattle.net_report.specs.declared.outcome.OutcomeBody.{OutcomeBody}
use Rattle.net_report.specs.declared.outcome.OutcomeBody.TheVariants.{Unsupported, Malformed, Faulty, Refused, Checked, Located, Keyed, Identified, Lines}

-- whether what is reported shows that the block was accepted; lines do not show it
abbrev pub is_accepted_body : OutcomeBody → Bool
is_accepted_body (Unsupported token) = false
is_accepted_body (Malformed fault) = false
is_accepted_body (Faulty line number kind) = false
is_accepted_body (Refused size names refusal) = false
is_accepted_body (Checked size) = true
is_accepted_body (Located size names placed) = true
is_accepted_body (Keyed size net) = true
is_accepted_body (Identified size vertices net shells names) = true
is_accepted_body (Lines size lines) = false

abbrev pub is_accepted : Outcome → Bool
is_accepted o = is_accepted_body o.body
