-- What a text of maps says is determined by its bytes alone.
use Rattle.std.specs.Prelude.{◌≡◌, ◌≢◌, ℕ, List, Option}
use Rattle.net_certificate.specs.Items.{Maps}
use Rattle.net_certificate.specs.FirstRows.{BeginsBefore, first_lines}
use Rattle.net_certificate.specs.Reading.{IsTextOf, HasBadLine}

-- a text is that of one list of maps at most, and has one first bad line at most, and never both
pub record TextsTellMaps : Type 0 where
  pub one_text : (text : List ℕ) (a b : Option Maps) → IsTextOf text a → IsTextOf text b → a ≡ b
  pub no_fault : (text : List ℕ) (a : Option Maps) (n : ℕ) → IsTextOf text a → ¬ HasBadLine text n
  pub one_fault : (text : List ℕ) (m n : ℕ) → HasBadLine text m → HasBadLine text n → m ≡ n

-- the first bad line is the first: no text of maps has the same lines up to it, and the lines before it break nothing
pub record BadLineIsFirst : Type 0 where
  pub no_text : (text other : List ℕ) (maps : Option Maps) (n : ℕ) → HasBadLine text n → IsTextOf other maps → first_lines n text ≢ first_lines n other
  pub before : (text : List ℕ) (n : ℕ) → HasBadLine text n → BeginsBefore text n
