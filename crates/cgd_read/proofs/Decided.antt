-- The blocks of a text from the left, and each graph block as what decides it.
use Rattle.std.proofs.Common.{◌≡◌, Bool, cond, List, [], ◌∷◌, ◌++◌, Some, refl, arith, true, false, ℕ}
use Rattle.std.proofs.lemmas.List.{append_assoc}
use Rattle.cgd_read.specs.Units.{first_true}
use Rattle.cgd_read.specs.Faults.{or_later, is_end}
use Rattle.cgd_read.specs.Blocks.{blocks_from, block_of, graph_units, graph_block, IsGraphBlock}
use Rattle.cgd_read.specs.{declared.block.BlockFaultKind.BlockFaultKind, Lines.LineView, Views.BlockView, Reading.after_end}
use Rattle.cgd_read.proofs.Units.{the_unit, only_unit}

-- the first of two tables is that of the first, or else that of the second
pub first_of_two : (as_ bs : List (BlockFaultKind × Bool)) → first_true (as_ ++ bs) ≡ or_later (first_true as_) (first_true bs)
first_of_two [] bs = refl
first_of_two (a ∷ as_) bs = by a.1 (first_of_two as_ bs)
  where
    by : (t : Bool) → first_true (as_ ++ bs) ≡ or_later (first_true as_) (first_true bs)
        → cond t (Some a.0) (first_true (as_ ++ bs)) ≡ or_later (cond t (Some a.0) (first_true as_)) (first_true bs)
    by t h = search arith

pub first_of_three : (as_ bs cs : List (BlockFaultKind × Bool)) → first_true (as_ ++ (bs ++ cs)) ≡ or_later (or_later (first_true as_) (first_true bs))
    (first_true cs)
first_of_three as_ bs cs = search (arith, first_of_two)

-- Blocks from the left.

-- a block is passed over up to its end
pub passed_over : (lines : List LineView) → blocks_from true lines ≡ blocks_from false (after_end lines)
passed_over [] = refl
passed_over (line ∷ lines) = by (is_end line.kind) (passed_over lines)
  where
    by : (t : Bool) → blocks_from true lines ≡ blocks_from false (after_end lines)
        → cond t (blocks_from false lines) (blocks_from true lines) ≡ blocks_from false (cond t lines (after_end lines))
    by t h = search arith

-- a line other than END opens a block
pub one_block : (line : LineView) (lines : List LineView) → is_end line.kind ≡ false
    → blocks_from false (line ∷ lines) ≡ block_of line lines ∷ blocks_from false (after_end lines)
one_block line lines e = search (arith, passed_over)

-- the blocks so far with one more, and those after it
pub next_block : (found : List BlockView) (line : LineView) (lines left : List LineView) → is_end line.kind ≡ false → left ≡ after_end lines
    → (found ++ block_of line lines ∷ []) ++ blocks_from false left ≡ found ++ blocks_from false (line ∷ lines)
next_block found line lines left e h = search (arith, append_assoc, one_block)

-- a graph block is what its first faulty line, its end or the end of the text decides
pub the_block : (opening : ℕ) (lines : List LineView) → IsGraphBlock opening lines (graph_block opening [] lines)
the_block opening lines = the_unit graph_units opening lines

-- and nothing else
pub only_block : (opening : ℕ) (lines : List LineView) (block : BlockView) → IsGraphBlock opening lines block → block ≡ graph_block opening [] lines
only_block opening lines block b = only_unit graph_units opening lines block b
