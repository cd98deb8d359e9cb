-- What the steps of the code report of a block.
use Rattle.std.specs.Prelude.{◌≡◌, ℕ, Bool, List, ◌++◌}
use Rattle.cgd_read.specs.Views.{BlockView}
use Rattle.symmetry_answers.specs.Due.{IsBlockTold}

-- the text of the block, put last, and whether it was accepted
pub record IsBlockAdded (number : ℕ) (block : BlockView) (accepted : Bool) (old new : List ℕ) : Type 0 where
  pub text : List ℕ
  pub told : IsBlockTold number block accepted text
  pub new_is : new ≡ old ++ text
