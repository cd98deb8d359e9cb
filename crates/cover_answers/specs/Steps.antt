-- What is reported of a block, and the text of its cover, which is put last.
use Rattle.std.specs.Prelude.{◌≡◌, ℕ, Bool, true, List, ◌++◌, Option}
use Rattle.periodic_net.specs.Graph.{Graph}
use Rattle.cgd_read.specs.Views.{BodyView, BlockView}
use Rattle.net_cover.specs.Cells.{CellView}
use Rattle.cover_answers.specs.Blocks.{graph_text}
use Rattle.net_report.specs.declared.outcome.Outcome.{Outcome}
use Rattle.net_report.specs.declared.outcome.OutcomeBody.{OutcomeBody}
use Rattle.cover_answers.specs.Covers.{IsCoverOf}
use Rattle.cover_answers.specs.Outcomes.{IsBodyOf, IsOutcomeOf}

-- the text of the cover of what a block holds, put last under the name of the block
pub record IsCoverLast (cell : CellView) (name : Option (List ℕ)) (body : BodyView) (old new : List ℕ) : Type 0 where
  pub cover : Graph
  pub is_cover : IsCoverOf cell body cover
  pub text : new ≡ old ++ graph_text name cover

-- what is reported of what a block holds; if it is covered, its cover is put last
pub record IsBodyAnswered (cell : CellView) (name : Option (List ℕ)) (body : BodyView) (covered : Bool) (told : OutcomeBody) (old new : List ℕ) : Type 0 where
  pub body_told : IsBodyOf cell body covered told
  pub cover_last : covered ≡ true → IsCoverLast cell name body old new

-- the outcome of the block with this number; if it is covered, its cover is put last
pub record IsBlockAnswered (cell : CellView) (number : ℕ) (block : BlockView) (covered : Bool) (o : Outcome) (old new : List ℕ) : Type 0 where
  pub is_outcome : IsOutcomeOf cell number block covered o
  pub cover_last : covered ≡ true → IsCoverLast cell block.name block.body old new
