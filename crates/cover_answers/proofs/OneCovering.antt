-- The outcomes of blocks and the texts of their covers, one block after another; what is due to a cell and to blocks is one.
use Rattle.std.proofs.Common.{◌≡◌, ◌∙◌, ◌&&◌, ℕ, ◌+◌, ◌<◌, ◌≤◌, Bool, true, false, List, [], ◌∷◌, ◌++◌, length, take, get_or, All, Result, Ok, Err, sym, ap}
use Rattle.std.proofs.Common.{subst, add-one, arith, append_assoc, ◌≢◌, inr, refl, ◌⊎◌, inl}
use Rattle.std.proofs.lemmas.List.{get_or-map, length-map, take_all}
use Rattle.std.proofs.lemmas.List.Elements.{All-append, All-cons, All-nil}
use Rattle.std.{proofs.lemmas.List.Folds.list_all-append, proofs.Math.Bool.and-true, proofs.Math.Seq.take-suc, specs.Prelude.IfOk, specs.Prelude.Option}
use Rattle.std.{proofs.lemmas.Bool.and_parts, proofs.lemmas.Bool.false≢true, proofs.lemmas.Grind.common_steps}
use Rattle.periodic_net.specs.Graph.{Graph}
use Rattle.cgd_read.specs.Views.{BlockView, block_view, views, RawView, BodyView, Net, Other, Faulty}
use Rattle.cgd_read.specs.{declared.block.Block.Block, Graphs.graph_of}
use Rattle.net_cover.proofs.CallerLemmas.{cover_is_not_refused, one_cover, one_cover_fault}
use Rattle.net_cover.specs.{Cells.CellView, Cells.IsWritten, Faults.IsCoverFault, declared.faults.CoverFault.CoverFault}
use Rattle.net_cover.specs.{declared.faults.CoverFault.TheVariants.NoMemory}
use Rattle.net_report.specs.Reports.{IsPrintable, report_text, body_text, outcome_text}
use Rattle.net_report.specs.declared.outcome.OutcomeBody.TheVariants.{Lines, Unsupported, Malformed}
use Rattle.net_report.specs.Headers.{fault_text, header_text, size_text, unsupported_text}
use Rattle.net_report.specs.declared.{outcome.Outcome.Outcome, outcome.OutcomeBody.OutcomeBody, outcome.Size.Size, answer.Answer.Answer}
use Rattle.net_report.specs.declared.{status.Status.TheVariants.Done, status.Status.TheVariants.SomeRefused}
use Rattle.quotient_graph.proofs.CallerLemmas.{one_in_order}
use Rattle.cover_answers.specs.Covers.{AreCovered, AreCoversOf, IsCoverOf, covers_text, IsGraphOf, IsCoverOn}
use Rattle.net_report.specs.Headers.{size_in}
use Rattle.cover_answers.specs.Outcomes.{AreOutcomesFrom, IsOutcomeOf, all_of, IsBodyOf, IsCoverTold, IsFaultTold, IsNetTold}
use Rattle.cover_answers.specs.Steps.{IsBlockAnswered, IsCoverLast, IsBodyAnswered}
use Rattle.cover_answers.specs.{Blocks.graph_text, Laws.OneCovering, Due.IsCoveredAs, Due.AreReported, Lines.refused_text, Lines.covered_text}

-- one more block and its outcome at the end
outcomes_last : (cell : CellView) (n : ℕ) (bs : List BlockView) (cs : List Bool) (os : List Outcome) (b : BlockView) (c : Bool) (o : Outcome)
    → AreOutcomesFrom cell n bs cs os → IsOutcomeOf cell (n + length bs) b c o
    → AreOutcomesFrom cell n (bs ++ b ∷ []) (cs ++ c ∷ []) (os ++ o ∷ [])
outcomes_last cell n [] [] [] b c o h k = (subst (λ m. IsOutcomeOf cell m b c o) (omega arith) k, tt)
outcomes_last cell n (a ∷ bs) (d ∷ cs) (x ∷ os) b c o h k =
    let further : n + length (a ∷ bs) ≡ (n + 1) + length bs = grind (arith, common_steps) in
    (h.0, outcomes_last cell (n + 1) bs cs os b c o h.1 (subst (λ m. IsOutcomeOf cell m b c o) further k))
outcomes_last cell n bs cs os b c o h k = absurd h

-- one more block and its cover
covers_last : (cell : CellView) (bs : List BlockView) (Cs : List Graph) (b : BlockView) (C : Graph) → AreCoversOf cell bs Cs → IsCoverOf cell b.body C
    → AreCoversOf cell (bs ++ b ∷ []) (Cs ++ C ∷ [])
covers_last cell [] [] b C h k = (k, tt)
covers_last cell (c ∷ bs) (D ∷ Cs) b C h k = (h.0, covers_last cell bs Cs b C h.1 k)
covers_last cell bs Cs b C h k = absurd h

-- and its text
text_last : (cell : CellView) (bs : List BlockView) (Cs : List Graph) (b : BlockView) (C : Graph) → AreCoversOf cell bs Cs
    → covers_text (bs ++ b ∷ []) (Cs ++ C ∷ []) ≡ covers_text bs Cs ++ graph_text b.name C
text_last cell [] [] b C h = grind (arith, common_steps)
text_last cell (c ∷ bs) (D ∷ Cs) b C h =
    ap (λ (t : List ℕ). graph_text c.name D ++ t) (text_last cell bs Cs b C h.1)
    ∙ sym (append_assoc (graph_text c.name D) (covers_text bs Cs) (graph_text b.name C))
text_last cell bs Cs b C h = absurd h

-- the text of the covers grows by that of one more block
covered_last : (cell : CellView) (bs : List BlockView) (b : BlockView) (text new : List ℕ) → AreCovered cell bs text → IsCoverLast cell b.name b.body text new
    → AreCovered cell (bs ++ b ∷ []) new
covered_last cell bs b text new h k = record {
  covers = h.covers ++ k.cover ∷ [];
  are_covers = covers_last cell bs h.covers b k.cover h.are_covers k.is_cover;
  text_is = k.text ∙ ap (λ (t : List ℕ). t ++ graph_text b.name k.cover) h.text_is ∙ sym (text_last cell bs h.covers b k.cover h.are_covers);
}

-- each of them is covered, and this one
all_last : (cs : List Bool) (c : Bool) → all_of (cs ++ c ∷ []) ≡ (all_of cs && c)
all_last cs c = list_all-append (λ (b : Bool). b) cs (c ∷ []) ∙ ap (λ (b : Bool). all_of cs && b) (and-true c)

-- the outcomes of the first i blocks, whether all of them are covered, and then the text of their covers
pub record AreAnsweredOn (cell : CellView) (bs : List BlockView) (i number : ℕ) (all : Bool) (os : List Outcome) (text : List ℕ) : Type 0 where
  pub each : List Bool
  pub outcomes : AreOutcomesFrom cell 1 (take i bs) each os
  pub all_is : all ≡ all_of each
  pub number_is : number ≡ i + 1
  pub printable : All IsPrintable os
  pub covered : all ≡ true → AreCovered cell (take i bs) text

-- at first no block is answered
pub answered_none : (cell : CellView) (bs : List BlockView) → AreAnsweredOn cell bs 0 1 true [] []
answered_none cell bs = search arith

-- the next block
answered_more : (cell : CellView) (bs : List BlockView) (i number : ℕ) (all c : Bool) (os : List Outcome) (text new : List ℕ) (b : BlockView) (o : Outcome)
    → i < length bs → get_or bs i b ≡ b
    → AreAnsweredOn cell bs i number all os text → IsBlockAnswered cell number b c o text new → IsPrintable o
    → AreAnsweredOn cell bs (i + 1) (number + 1) (all && c) (os ++ o ∷ []) new
answered_more cell bs i number all c os text new b o l is h k p =
    let longer : take (i + 1) bs ≡ take i bs ++ b ∷ [] = ap (λ (n : ℕ). take n bs) (add-one i) ∙ take-suc bs i b l
    ∙ ap (λ (x : BlockView). take i bs ++ x ∷ []) is in
    let count : length (take i bs) ≡ i = grind (arith, common_steps) in
    let place : number ≡ 1 + length (take i bs) = let n = h.number_is in omega arith in
    record {
      each = h.each ++ c ∷ [];
      outcomes = subst (λ as'. AreOutcomesFrom cell 1 as' (h.each ++ c ∷ []) (os ++ o ∷ [])) (sym longer)
          (outcomes_last cell 1 (take i bs) h.each os b c o h.outcomes (subst (λ m. IsOutcomeOf cell m b c o) place k.is_outcome));
      all_is = ap (λ (a : Bool). a && c) h.all_is ∙ sym (all_last h.each c);
      number_is = let n = h.number_is in omega arith;
      printable = All-append IsPrintable os (o ∷ []) h.printable (All-cons IsPrintable o [] p (All-nil IsPrintable));
      covered = λ e. let both = and_parts all c e in
          subst (λ as'. AreCovered cell as' new) (sym longer) (covered_last cell (take i bs) b text new (h.covered both.0) (k.cover_last both.1));
    }

-- the next block of those that were read
pub answered_next : (cell : CellView) (found : List Block) (i number : ℕ) (all c : Bool) (os : List Outcome) (text new : List ℕ) (block : Block) (o : Outcome)
    → i < length found → block ≡ get_or found i block
    → AreAnsweredOn cell (views found) i number all os text → IsBlockAnswered cell number (block_view block) c o text new → IsPrintable o
    → AreAnsweredOn cell (views found) (i + 1) (number + 1) (all && c) (os ++ o ∷ []) new
answered_next cell found i number all c os text new block o l is h k p =
    let inside : i < length (views found) = subst (λ (n : ℕ). i < n) (sym (length-map found block_view)) l in
    let there = get_or-map block_view found i block (block_view block) l ∙ ap block_view (sym is) in
    answered_more cell (views found) i number all c os text new (block_view block) o inside there h k p

-- what is answered to all blocks, by whether each of them is covered
answer_due : (cell : CellView) (bs : List BlockView) (cs : List Bool) (os : List Outcome) (text : List ℕ) (a : Answer) (all : Bool) → all ≡ all_of cs
    → AreOutcomesFrom cell 1 bs cs os → (all ≡ true → AreCovered cell bs text)
    → (all ≡ true → (a.status ≡ Done) × (a.text.items ≡ text)) → (all ≡ false → (a.status ≡ SomeRefused) × (a.text.items ≡ report_text os))
    → IsCoveredAs cell bs a.status a.text.items
answer_due cell bs cs os text a all k l p q u = grind arith

-- all blocks are answered
pub answered_whole : {E : Type 0} (cell : CellView) (found : List Block) (i number : ℕ) (all : Bool) (os : List Outcome) (text : List ℕ) (r : Result Answer E)
    → length found ≤ i → AreAnsweredOn cell (views found) i number all os text
    → IfOk r (λ a. all ≡ true → (a.status ≡ Done) × (a.text.items ≡ text))
    → IfOk r (λ a. all ≡ false → (a.status ≡ SomeRefused) × (a.text.items ≡ report_text os))
    → IfOk r (λ a. IsCoveredAs cell (views found) a.status a.text.items)
answered_whole cell found i number all os text (Ok a) l h done refused =
    let past : length (views found) ≤ i = subst (λ (n : ℕ). n ≤ i) (sym (length-map found block_view)) l in
    let whole = take_all i (views found) past in
    answer_due cell (views found) h.each os text a all h.all_is (subst (λ bs. AreOutcomesFrom cell 1 bs h.each os) whole h.outcomes)
    (λ e. subst (λ bs. AreCovered cell bs text) whole (h.covered e)) done refused
answered_whole cell found i number all os text (Err e) l h done refused = done

-- a body that is not covered puts no cover last
pub not_covered : (cell : CellView) (name : Option (List ℕ)) (body : BodyView) (told : OutcomeBody) (old new : List ℕ) → IsBodyOf cell body false told
    → IsBodyAnswered cell name body false told old new
not_covered cell name body told old new h = record { body_told = h; cover_last = λ c. absurd (false≢true c) }

-- a graph that is not covered, with the line of its fault
pub refused_net : (cell : CellView) (name : Option (List ℕ)) (raw : RawView) (size : Size) (G : Graph) (fault : CoverFault) (old new : List ℕ)
    (body : OutcomeBody)
    → IsGraphOf raw G → size ≡ size_in G raw.repeats → IsWritten cell → IsCoverFault G cell fault
    → body ≡ Lines size (refused_text fault) → fault ≢ NoMemory → IsBodyAnswered cell name (Net raw) false body old new
refused_net cell name raw size G fault old new body read s w f told some =
    subst (λ (b : OutcomeBody). IsBodyAnswered cell name (Net raw) false b old new) (sym told)
    (not_covered cell name (Net raw) (Lines size (refused_text fault)) old new
    (record {
      graph = G;
      read = read;
      size_is = s;
      line_told =
          inr (record { fault = fault; written = w; is_fault = f; told = some; refused = refl; line_is = refl });
    }))

-- the graph of a block is one
same_graph : (raw : RawView) (G H : Graph) → IsGraphOf raw G → IsGraphOf raw H → G ≡ H
same_graph raw G H g h = one_in_order (graph_of raw) G H g.in_order h.in_order

module _ (cell : CellView) where
  -- so is its cover
  same_cover : (G H C D : Graph) → G ≡ H → IsCoverOn cell G C → IsCoverOn cell H D → C ≡ D
  same_cover G H C D e c d =
      let moved = subst (λ K. IsCoverOn cell K D) (sym e) d in
      one_cover G C D cell.rows c.cover c.rising moved.cover moved.rising

  -- and a graph that is covered has no fault that is reported
  cover_or_fault : (raw : RawView) (G H C : Graph) (x : Bool) (line : List ℕ) → IsGraphOf raw G → IsGraphOf raw H → IsCoverOn cell G C
      → ¬ IsFaultTold cell H x line
  cover_or_fault raw G H C x line g h c f =
      f.told (cover_is_not_refused G cell f.fault g.is_graph c.coverable (subst (λ K. IsCoverFault K cell f.fault) (same_graph raw H G h g) f.is_fault))

  -- what is reported of the graph of a block is one
  one_line : (raw : RawView) (G H : Graph) (x y : Bool) (s t : List ℕ) → IsGraphOf raw G → IsGraphOf raw H
      → IsCoverTold cell G x s ⊎ IsFaultTold cell G x s → IsCoverTold cell H y t ⊎ IsFaultTold cell H y t → (x ≡ y) × (s ≡ t)
  one_line raw G H x y s t g h (inl a) (inl b) =
      let cover = same_cover G H a.cover b.cover (same_graph raw G H g h) a.is_cover b.is_cover in
      (a.is_covered ∙ sym b.is_covered, a.line_is ∙ ap (λ (C : Graph). covered_text C.vertices (length C.edges)) cover ∙ sym b.line_is)
  one_line raw G H x y s t g h (inl a) (inr b) = absurd (cover_or_fault raw G H a.cover y t g h a.is_cover b)
  one_line raw G H x y s t g h (inr a) (inl b) = absurd (cover_or_fault raw H G b.cover x s h g b.is_cover a)
  one_line raw G H x y s t g h (inr a) (inr b) =
      let moved = subst (λ K. IsCoverFault K cell b.fault) (same_graph raw H G h g) b.is_fault in
      let fault = one_cover_fault G cell a.fault b.fault g.is_graph a.written a.is_fault moved a.told b.told in
      (a.refused ∙ sym b.refused, a.line_is ∙ ap refused_text fault ∙ sym b.line_is)

  one_net : (raw : RawView) (s t : Size) (x y : Bool) (xs ys : List ℕ) → IsNetTold cell raw s x xs → IsNetTold cell raw t y ys
      → body_text (Lines s xs) ≡ body_text (Lines t ys)
  one_net raw s t x y xs ys a b =
      let size = a.size_is ∙ ap (λ (G : Graph). size_in G raw.repeats) (same_graph raw a.graph b.graph a.read b.read) ∙ sym b.size_is in
      let line = one_line raw a.graph b.graph x y xs ys a.read b.read a.line_told b.line_told in
      λ i. size_text (size i) ++ line.1 i

  -- what is reported of what a block holds is one
  one_body : (body : BodyView) (x y : Bool) (a b : OutcomeBody) → IsBodyOf cell body x a → IsBodyOf cell body y b → body_text a ≡ body_text b
  one_body (Other token) x y (Unsupported t) (Unsupported u) h k = ap unsupported_text (h.1 ∙ sym k.1)
  one_body (Other token) x y (Unsupported t) b h k = absurd k
  one_body (Faulty fault) x y (Malformed t) (Malformed u) h k = ap fault_text (h.1 ∙ sym k.1)
  one_body (Faulty fault) x y (Malformed t) b h k = absurd k
  one_body (Net raw) x y (Lines s xs) (Lines t ys) h k = one_net raw s t x y xs ys h k
  one_body (Net raw) x y (Lines s xs) b h k = absurd k
  one_body body x y a b h k = absurd h

  -- an outcome has one text
  one_text : (number : ℕ) (block : BlockView) (x y : Bool) (o p : Outcome) → IsOutcomeOf cell number block x o → IsOutcomeOf cell number block y p
      → outcome_text o ≡ outcome_text p
  one_text number block x y o p h k =
      let n = h.number_is ∙ sym k.number_is in let line = h.line ∙ sym k.line in
      let name = h.name ∙ sym k.name in let body = one_body block.body x y o.body p.body h.body k.body in
      λ i. header_text (n i) (line i) (name i) ++ body i

  -- and so has the report
  one_report : (n : ℕ) (bs : List BlockView) (xs ys : List Bool) (os ps : List Outcome) → AreOutcomesFrom cell n bs xs os → AreOutcomesFrom cell n bs ys ps
      → report_text os ≡ report_text ps
  one_report n [] [] [] [] [] h k = refl
  one_report n [] [] ys (o ∷ os) ps h k = absurd h
  one_report n [] (x ∷ xs) ys os ps h k = absurd h
  one_report n (b ∷ bs) [] ys os ps h k = absurd h
  one_report n (b ∷ bs) (x ∷ xs) ys [] ps h k = absurd h
  one_report n (b ∷ bs) (x ∷ xs) (y ∷ ys) (o ∷ os) (p ∷ ps) h k =
      let first = one_text n b x y o p h.0 k.0 in let rest = one_report (n + 1) bs xs ys os ps h.1 k.1 in
      λ i. first i ++ rest i
  one_report n bs xs ys os ps h k = absurd k

  -- the cover of what a block holds is one
  one_cover_of : (body : BodyView) (C D : Graph) → IsCoverOf cell body C → IsCoverOf cell body D → C ≡ D
  one_cover_of (Net raw) C D c d = same_cover c.graph d.graph C D (same_graph raw c.graph d.graph c.read d.read) c.is_cover d.is_cover
  one_cover_of body C D c d = absurd c

  -- so the covers of blocks have one text
  one_covers_text : (bs : List BlockView) (Cs Ds : List Graph) → AreCoversOf cell bs Cs → AreCoversOf cell bs Ds → covers_text bs Cs ≡ covers_text bs Ds
  one_covers_text [] Cs Ds h k = refl
  one_covers_text (b ∷ bs) [] Ds h k = absurd h
  one_covers_text (b ∷ bs) (C ∷ Cs) [] h k = absurd k
  one_covers_text (b ∷ bs) (C ∷ Cs) (D ∷ Ds) h k =
      let first = one_cover_of b.body C D h.0 k.0 in let rest = one_covers_text bs Cs Ds h.1 k.1 in
      λ i. graph_text b.name (first i) ++ rest i

  -- what is reported of a graph that is covered says so
  told_covered : (body : BodyView) (C : Graph) (x : Bool) (told : OutcomeBody) → IsCoverOf cell body C → IsBodyOf cell body x told → x ≡ true
  told_covered (Net raw) C x (Lines s xs) c h = by h.line_told
    where
      by : IsCoverTold cell h.graph x xs ⊎ IsFaultTold cell h.graph x xs → x ≡ true
      by (inl a) = a.is_covered
      by (inr b) = absurd (cover_or_fault raw c.graph h.graph C x xs c.read h.read c.is_cover b)
  told_covered (Net raw) C x told c h = absurd h
  told_covered body C x told c h = absurd c

  -- so if each block is covered none is reported otherwise
  all_covered : (n : ℕ) (bs : List BlockView) (Cs : List Graph) (xs : List Bool) (os : List Outcome) → AreCoversOf cell bs Cs → AreOutcomesFrom cell n bs xs os
      → all_of xs ≡ true
  all_covered n [] Cs [] os h k = refl
  all_covered n (b ∷ bs) [] xs os h k = absurd h
  all_covered n (b ∷ bs) (C ∷ Cs) (x ∷ xs) (o ∷ os) h k =
      let first = told_covered b.body C x o.body h.0 k.0.body in
      let rest = all_covered (n + 1) bs Cs xs os h.1 k.1 in
      λ i. first i && rest i
  all_covered n bs Cs xs os h k = absurd k

  covered_or_reported : (bs : List BlockView) (s t : List ℕ) → AreCovered cell bs s → ¬ AreReported cell bs t
  covered_or_reported bs s t a b = false≢true (sym b.some_refused ∙ all_covered 1 bs a.covers b.each b.outcomes a.are_covers b.are_outcomes)

-- what is due is one
pub one_covering : OneCovering
one_covering h k l p q r u v = grind (arith, one_covers_text, covered_or_reported, one_report)
