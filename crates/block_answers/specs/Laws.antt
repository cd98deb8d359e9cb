-- What is reported of blocks is one, and a refusal of a net holds in each of its cells.
use Rattle.std.specs.Prelude.{◌≡◌, ◌↔◌, ℕ, ℤ, Bool, List, map, Result}
use Rattle.periodic_net.specs.Graph.{Graph, IsGraph}
use Rattle.integers.specs.Lists.{AreMatched}
use Rattle.periodic_net.specs.Maps.{BareIso, Iso}
use Rattle.key_theory.specs.Key.{IsKeyable}
use Rattle.cgd_read.specs.Views.{BlockView}
use Rattle.least_key.specs.Answers.{KeysTell}
use Rattle.least_key.specs.Truths.{IsTrueOf}
use Rattle.least_key.specs.declared.net.Net.{Net}
use Rattle.least_key.specs.declared.refusal.Refusal.{Refusal}
use Rattle.net_components.specs.declared.parts.Part.{Part}
use Rattle.archive_text.specs.Entries.{EntryView}
use Rattle.net_report.specs.declared.command.Command.{Command}
use Rattle.net_report.specs.declared.command.Command.TheVariants.{Key}
use Rattle.net_report.specs.declared.outcome.Outcome.{Outcome}
use Rattle.net_report.specs.{Keys.key_text, Reports.report_text, Telling.AreEach, Telling.IsLegible}
use Rattle.cgd_read.specs.{Blocks.blocks_of, Graphs.graph_of, Views.RawView}
use Rattle.block_answers.specs.Deciding.{HasKeyAt, IsOfNet}
use Rattle.block_answers.specs.Outcomes.{AreOutcomesFrom}
use Rattle.block_answers.specs.Reports.{IsReport}
use Rattle.block_answers.specs.ComponentLines.{IsAnswerOf}

-- two reports on the same blocks are one
abbrev pub OneReport : Type 0
OneReport = (command : Command) (entries : List EntryView) (blocks : List BlockView) (x y : Bool) (s t : List ℕ) → IsReport command entries blocks x s
    → IsReport command entries blocks y t
    → (x ≡ y) × (s ≡ t)

-- if a refusal of the net is true of a graph, no bijection between its vertices and those of a net with a key within the limits joins
-- images if and only if the vertices are joined
abbrev pub RefusalsTell : Type 0
RefusalsTell = (G H : Graph) (refusal : Refusal) → IsGraph G → IsGraph H → IsTrueOf G refusal → IsOfNet refusal → IsKeyable H → ¬ BareIso G H

-- the keys of two parts are equal if and only if their nets are isomorphic, by bijections with a period and by any
pub record PartsTell : Type 0 where
  pub isomorphic : (ps : List Part) (answers : List (Result Net Refusal)) → AreMatched IsAnswerOf ps answers
      → KeysTell Iso (map (λ (p : Part). p.graph) ps) answers
  pub bare : (ps : List Part) (answers : List (Result Net Refusal)) → AreMatched IsAnswerOf ps answers
      → KeysTell BareIso (map (λ (p : Part). p.graph) ps) answers

-- the printed lines of the keys of two nets, of one report or of two, are equal if and only if some bijection between the vertices of the nets
-- joins images if and only if the vertices are joined
abbrev pub KeyLinesDecide : Type 0
KeyLinesDecide = (entries entries' : List EntryView) (command command' : Command) (bs cs : List BlockView) (os ps : List Outcome)
    → AreOutcomesFrom entries command 1 bs os → AreOutcomesFrom entries' command' 1 cs ps
    → (i j : ℕ) (raw raw' : RawView) (xs ys : List ℤ) → HasKeyAt bs os i raw xs → HasKeyAt cs ps j raw' ys
    → (key_text xs ≡ key_text ys) ↔ BareIso (graph_of raw) (graph_of raw')

-- what `key` reports on the blocks of a text is legible
abbrev pub ReportsAreLegible : Type 0
ReportsAreLegible = (entries : List EntryView) (file : List ℕ) (os : List Outcome) → AreOutcomesFrom entries Key 1 (blocks_of file) os → AreEach IsLegible os

-- if two reports of `key`, on the blocks of two texts, are one text, the nets at each place with two keys are isomorphic
abbrev pub EqualReportsTell : Type 0
EqualReportsTell = (entries entries' : List EntryView) (file file' : List ℕ) (os ps : List Outcome) → AreOutcomesFrom entries Key 1 (blocks_of file) os
    → AreOutcomesFrom entries' Key 1 (blocks_of file') ps → report_text os ≡ report_text ps
    → (i : ℕ) (raw raw' : RawView) (xs ys : List ℤ) → HasKeyAt (blocks_of file) os i raw xs → HasKeyAt (blocks_of file') ps i raw' ys
    → BareIso (graph_of raw) (graph_of raw')
