-- The entries of the items that are reported with their keys.
use Rattle.std.specs.Prelude.{◌≡◌, ℕ, true, List, [], ◌∷◌, Option, Some, option_copied}
use Rattle.least_key.specs.AnyNets.{net_view}
use Rattle.line_text.specs.Names.{is_name}
use Rattle.net_archive.specs.Adding.{IsEntryOf}
use Rattle.archive_text.specs.Entries.{EntryView}
use Rattle.net_report.specs.declared.outcome.Outcome.{Outcome}
use Rattle.net_report.specs.declared.outcome.OutcomeBody.{OutcomeBody}
use Rattle.net_report.specs.declared.outcome.OutcomeBody.TheVariants.{Keyed}

-- a net is reported, with its key and under a name
abbrev pub IsUnderName : OutcomeBody → Option (List ℕ) → Type 0
IsUnderName (Keyed size net) (Some name) = is_name name ≡ true
IsUnderName body name = ⊥

abbrev pub HasNamedNet : Outcome → Type 0
HasNamedNet o = IsUnderName o.body (option_copied o.name)

-- e is the entry of that net, under that name
abbrev pub IsEntryAs : OutcomeBody → Option (List ℕ) → EntryView → Type 0
IsEntryAs (Keyed size net) (Some name) e = IsEntryOf name (net_view net) e
IsEntryAs body name e = ⊥

abbrev pub IsEntryTold : Outcome → EntryView → Type 0
IsEntryTold o e = IsEntryAs o.body (option_copied o.name) e

-- the entries of these, in their order
abbrev pub AreEntriesTold : List Outcome → List EntryView → Type 0
AreEntriesTold [] [] = Unit {0}
AreEntriesTold (o ∷ os) (e ∷ es) = IsEntryTold o e × AreEntriesTold os es
AreEntriesTold os es = ⊥
