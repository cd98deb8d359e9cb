-- The report grows by the text of the next block.
use Rattle.std.proofs.Common.{◌≡◌, ◌&&◌, ℕ, ◌+◌, ◌<◌, ◌≤◌, Bool, true, false, List, [], ◌∷◌, ◌++◌, length, take, get_or, refl, sym, ap, subst, ◌∙◌, arith}
use Rattle.std.proofs.lemmas.List.{append_assoc, append-nil, length-map, length-take-le}
use Rattle.std.{proofs.lemmas.List.Folds.list_all-append, proofs.lemmas.Grind.common_steps, proofs.Math.Bool.and-true, specs.List.list_all}
use Rattle.cgd_read.specs.Views.{BlockView, block_view, views}
use Rattle.cgd_read.specs.declared.block.Block.{Block}
use Rattle.block_answers.proofs.Listing.{all_taken, next_taken}
use Rattle.net_report.specs.Statuses.{ending_of}
use Rattle.symmetry_answers.specs.{Blocks.IsBlockAdded, Due.AreBlocksTold, Due.IsBlockTold, Due.IsReportOn, Due.IsSymmetryAs}

-- one more block at the end
told_last : (number : ℕ) (bs : List BlockView) (each : List Bool) (text more : List ℕ) (b : BlockView) (this : Bool) → AreBlocksTold number bs each text
    → IsBlockTold (number + length bs) b this more → AreBlocksTold number (bs ++ b ∷ []) (each ++ this ∷ []) (text ++ more)
told_last number [] [] text more b this h k =
    (more, [], subst (λ (n : ℕ). IsBlockTold n b this more) (omega arith) k, refl, ap (λ (t : List ℕ). t ++ more) h ∙ sym (append-nil more))
told_last number (c ∷ bs) (x ∷ each) text more b this h k =
    let further : number + length (c ∷ bs) ≡ (number + 1) + length bs = grind (arith, common_steps) in (
      h.0,
      h.1 ++ more,
      h.2,
      told_last (number + 1) bs each h.1 more b this h.3 (subst (λ (n : ℕ). IsBlockTold n b this more) further k),
      ap (λ (t : List ℕ). t ++ more) h.4 ∙ append_assoc h.0 h.1 more,
    )
told_last number bs each text more b this h k = absurd h

-- the first i blocks are reported, and it is the turn of the next number
pub record AreToldOn (bs : List BlockView) (i number : ℕ) (accepted : Bool) (text : List ℕ) : Type 0 where
  pub number_is : number ≡ i + 1
  pub each : List Bool
  pub are_told : AreBlocksTold 1 (take i bs) each text
  pub all : accepted ≡ list_all (λ (b : Bool). b) each

-- at first none is
pub told_none : (bs : List BlockView) → AreToldOn bs 0 1 true []
told_none bs = record { number_is = refl; each = []; are_told = refl; all = refl }

all_last : (each : List Bool) (this : Bool) → list_all (λ (b : Bool). b) (each ++ this ∷ []) ≡ (list_all (λ (b : Bool). b) each && this)
all_last each this = list_all-append (λ (b : Bool). b) each (this ∷ []) ∙ ap (λ (b : Bool). list_all (λ (c : Bool). c) each && b) (and-true this)

-- the next block is reported
pub told_next : (found : List Block) (i number : ℕ) (accepted this : Bool) (text new : List ℕ) (block : Block) → i < length found
    → block ≡ get_or found i block → AreToldOn (views found) i number accepted text → IsBlockAdded number (block_view block) this text new
    → AreToldOn (views found) (i + 1) (number + 1) (accepted && this) new
told_next found i number accepted this text new block l is h t =
    let bs = views found in
    let inside : i < length bs = subst (λ (n : ℕ). i < n) (sym (length-map found block_view)) l in
    let count = length-take-le i bs (omega (arith, inside)) in let n = h.number_is in
    let place : number ≡ 1 + length (take i bs) = omega (arith, n, count) in
    record {
      number_is = omega (arith, n);
      each = h.each ++ this ∷ [];
      are_told = subst (λ (cs : List BlockView). AreBlocksTold 1 cs (h.each ++ this ∷ []) new) (sym (next_taken found i block l is))
          (subst (AreBlocksTold 1 (take i bs ++ block_view block ∷ []) (h.each ++ this ∷ [])) (sym t.new_is)
          (told_last 1 (take i bs) h.each text t.text (block_view block) this h.are_told
          (subst (λ (m : ℕ). IsBlockTold m (block_view block) this t.text) place t.told)));
      all = ap (λ (b : Bool). b && this) h.all ∙ sym (all_last h.each this);
    }

-- all blocks are reported
told_whole : (found : List Block) (i number : ℕ) (accepted : Bool) (text : List ℕ) → length found ≤ i → AreToldOn (views found) i number accepted text
    → IsReportOn (views found) accepted text
told_whole found i number accepted text l h = record {
  each = h.each;
  are_told = subst (λ (bs : List BlockView). AreBlocksTold 1 bs h.each text) (all_taken found i l) h.are_told;
  all = h.all;
}

-- so it is due, with the status that goes with it
pub ends_so : (found : List Block) (i number : ℕ) (accepted : Bool) (text : List ℕ) → length found ≤ i → AreToldOn (views found) i number accepted text
    → IsSymmetryAs (views found) (ending_of accepted) text
ends_so found i number true text l h = told_whole found i number true text l h
ends_so found i number false text l h = told_whole found i number false text l h
