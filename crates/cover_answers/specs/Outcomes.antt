-- What is reported of each block if some block is not covered.
use Rattle.std.specs.Prelude.{◌≡◌, ◌≢◌, ◌⊎◌, ℕ, ◌+◌, Bool, true, false, List, [], ◌∷◌, length, option_copied}
use Rattle.std.specs.List.{list_all}
use Rattle.periodic_net.specs.Graph.{Graph}
use Rattle.cgd_read.specs.Views.{RawView, BodyView, Net, Other, Faulty, BlockView}
use Rattle.net_cover.specs.Cells.{CellView, IsWritten}
use Rattle.net_cover.specs.Faults.{IsCoverFault}
use Rattle.net_cover.specs.declared.faults.CoverFault.{CoverFault}
use Rattle.net_cover.specs.declared.faults.CoverFault.TheVariants.{NoMemory}
use Rattle.cover_answers.specs.Lines.{covered_text, refused_text}
use Rattle.net_report.specs.Headers.{size_in}
use Rattle.net_report.specs.declared.outcome.Size.{Size}
use Rattle.net_report.specs.declared.outcome.Outcome.{Outcome}
use Rattle.net_report.specs.declared.outcome.OutcomeBody.{OutcomeBody}
use Rattle.net_report.specs.declared.outcome.OutcomeBody.TheVariants.{Unsupported, Malformed, Lines}
use Rattle.cover_answers.specs.Covers.{IsGraphOf, IsCoverOn}

-- the graph is covered, and its line has the sizes of the cover
pub record IsCoverTold (cell : CellView) (G : Graph) (covered : Bool) (line : List ℕ) : Type 0 where
  pub cover : Graph
  pub is_cover : IsCoverOn cell G cover
  pub is_covered : covered ≡ true
  pub line_is : line ≡ covered_text cover.vertices (length cover.edges)

-- the graph is not covered, and its line has a fault that is true; running out of memory is no such fault
pub record IsFaultTold (cell : CellView) (G : Graph) (covered : Bool) (line : List ℕ) : Type 0 where
  pub fault : CoverFault
  pub written : IsWritten cell
  pub is_fault : IsCoverFault G cell fault
  pub told : fault ≢ NoMemory
  pub refused : covered ≡ false
  pub line_is : line ≡ refused_text fault

-- what is reported of the graph that was read: its sizes, and whether it is covered
pub record IsNetTold (cell : CellView) (raw : RawView) (size : Size) (covered : Bool) (line : List ℕ) : Type 0 where
  pub graph : Graph
  pub read : IsGraphOf raw graph
  pub size_is : size ≡ size_in graph raw.repeats
  pub line_told : IsCoverTold cell graph covered line ⊎ IsFaultTold cell graph covered line

-- what is reported of what a block holds, and whether it is covered
abbrev pub IsBodyOf : CellView → BodyView → Bool → OutcomeBody → Type 0
IsBodyOf cell (Other token) covered (Unsupported told) = (covered ≡ false) × (told.now ≡ token)
IsBodyOf cell (Faulty fault) covered (Malformed told) = (covered ≡ false) × (told ≡ fault)
IsBodyOf cell (Net raw) covered (Lines size line) = IsNetTold cell raw size covered line
IsBodyOf cell body covered told = ⊥

-- the outcome of the block with this number, and whether the block is covered
pub record IsOutcomeOf (cell : CellView) (number : ℕ) (block : BlockView) (covered : Bool) (o : Outcome) : Type 0 where
  pub number_is : o.number ≡ number
  pub line : o.line ≡ block.line
  pub name : option_copied o.name ≡ block.name
  pub body : IsBodyOf cell block.body covered o.body

-- one outcome for each block, with the blocks numbered from this number on, and whether each of them is covered
abbrev pub AreOutcomesFrom : CellView → ℕ → List BlockView → List Bool → List Outcome → Type 0
AreOutcomesFrom cell number [] [] [] = Unit {0}
AreOutcomesFrom cell number (block ∷ blocks) (covered ∷ each) (o ∷ os) = IsOutcomeOf cell number block covered o
    × AreOutcomesFrom cell (number + 1) blocks each os
AreOutcomesFrom cell number blocks each os = ⊥

-- whether all of them are covered
abbrev pub all_of : List Bool → Bool
all_of each = list_all (λ (b : Bool). b) each
