-- What is due to `symmetry` is one.
use Rattle.std.proofs.Common.{◌≡◌, ◌∙◌, ◌++◌, ◌+◌, ℕ, Bool, true, false, List, [], ◌∷◌, length, refl, sym, ap, subst, true≢false}
use Rattle.std.specs.{List.list_all}
use Rattle.periodic_net.specs.Graph.{Graph, IsGraph}
use Rattle.cgd_read.specs.Graphs.{graph_of}
use Rattle.cgd_read.specs.Views.{BlockView, BodyView, Faulty, Net, Other, RawView}
use Rattle.quotient_graph.{proofs.CallerLemmas.one_in_order, specs.PlacedNets.PlacedNet}
use Rattle.least_key.proofs.CallerLemmas.{one_net}
use Rattle.least_key.specs.{AnyNets.net_view, KeyedNets.IsKeyed, KeyedNets.KeyedNet, Laws.TellAlike, declared.net.Net.Net as AnyNet}
use Rattle.primitive_net.proofs.CallerLemmas.{one_primitive_fault, one_primitive_net}
use Rattle.primitive_net.specs.Faults.{IsFaultOf}
use Rattle.net_operations.specs.Groups.{IsGroupOf}
use Rattle.net_operations.proofs.OneGroup.{one_group}
use Rattle.net_report.specs.Headers.{header_text, size_text}
use Rattle.net_report.specs.{Keys.key_text, Primitives.bases_text, Primitives.edges_text, Primitives.sizes_text}
use Rattle.net_report.specs.declared.command.Command.TheVariants.{Key}
use Rattle.net_report.specs.declared.{outcome.OutcomeBody.OutcomeBody, outcome.Size.Size}
use Rattle.net_report.specs.declared.outcome.OutcomeBody.TheVariants.{Keyed, Malformed, Refused, Unsupported}
use Rattle.net_report.specs.declared.status.Status.TheVariants.{Done, SomeRefused}
use Rattle.block_answers.proofs.OneOutcome.{one_body}
use Rattle.block_answers.specs.Outcomes.{IsBodyOf, IsKeyedAs}
use Rattle.symmetry_answers.specs.Due.{AreBlocksTold, IsBlockTold, IsBodyTold, IsFaultTold, IsGroupTold, IsReportOn, IsSymmetryTold}
use Rattle.symmetry_answers.specs.GroupTexts.{group_text}
use Rattle.symmetry_answers.specs.Laws.{OneSymmetry}
use Rattle.symmetry_answers.specs.Texts.{cell_text, fault_text, placing_text}

module _ (m n : KeyedNet) (k : IsKeyed m) (l : IsKeyed n) (same : TellAlike m n) where
  -- the primitive graph is one, and so are its lines
  g : IsGraph m.cell.graph
  g = k.cell.divided.is_graph

  one_cell : cell_text m ≡ cell_text n
  one_cell = λ i. (sizes_text (same.cell i).vertices (length (same.cell i).edges) ++ bases_text (same.cell i).dimension (same.basis i)
      ++ edges_text (same.cell i).dimension (same.cell i).edges) ++ key_text (same.key i)

  -- the lines of its group
  one_told : (x y : List ℕ) → IsGroupTold m x → IsGroupTold n y → x ≡ y
  one_told x y a b =
      let placed = one_primitive_net.one m n a.placed b.placed a.classes b.classes g same.cell a.primitive b.primitive in
      let is_graph = subst IsGraph (sym a.primitive.graph) g in
      let of_one = subst (λ (p : PlacedNet). IsGroupOf p b.group) (sym placed) b.is_group in
      let group = one_group a.placed a.group b.group is_graph a.is_group of_one in
      a.text ∙ (λ i. one_cell i ++ placing_text (placed i) ++ group_text (placed i).graph.dimension (group i)) ∙ sym b.text

  -- the lines of its fault
  one_refused : (x y : List ℕ) → IsFaultTold m x → IsFaultTold n y → x ≡ y
  one_refused x y a b =
      let fault = one_primitive_fault m.cell.graph a.fault b.fault g a.is_fault
      (subst (λ (P : Graph). IsFaultOf P b.fault) (sym same.cell) b.is_fault) a.some b.some in
      a.text ∙ (λ i. one_cell i ++ fault_text (same.cell i).dimension (fault i)) ∙ sym b.text

  -- and never both
  told_or_refused : (x y : List ℕ) → IsGroupTold m x → ¬ IsFaultTold n y
  told_or_refused x y a b =
      b.some (one_primitive_net.faultless m a.placed a.classes b.fault g a.primitive
      (subst (λ (P : Graph). IsFaultOf P b.fault) (sym same.cell) b.is_fault))

-- the lines of a net are one
one_lines : (m n : KeyedNet) (s t : Bool) (x y : List ℕ) → IsKeyed m → IsKeyed n → TellAlike m n → TellAlike n m → IsSymmetryTold m s x
    → IsSymmetryTold n t y → (s ≡ t) × (x ≡ y)
one_lines m n true true x y k l same back a b = (refl, one_told m n k l same x y a b)
one_lines m n true false x y k l same back a b = absurd (told_or_refused m n k l same x y a b)
one_lines m n false true x y k l same back a b = absurd (told_or_refused n m l k back y x b a)
one_lines m n false false x y k l same back a b = (refl, one_refused m n k l same x y a b)

module _ (raw : RawView) where
  -- the net of a block is one
  same_net : (s t : Size) (m n : AnyNet) → IsKeyedAs raw s m → IsKeyedAs raw t n → TellAlike (net_view m) (net_view n)
  same_net s t m n a b =
      one_net (net_view m) (net_view n) a.keyed b.keyed
      (a.net_is ∙ one_in_order (graph_of raw) a.graph b.graph a.read.in_order b.read.in_order ∙ sym b.net_is)

  one_keyed : (s t : Size) (m n : AnyNet) (u v : Bool) (x y : List ℕ) → IsKeyedAs raw s m → IsKeyedAs raw t n → IsBodyTold (Keyed s m) u x
      → IsBodyTold (Keyed t n) v y → (u ≡ v) × (x ≡ y)
  one_keyed s t m n u v x y a b h k =
      let lines = one_lines (net_view m) (net_view n) u v h.0 k.0 a.keyed b.keyed (same_net s t m n a b) (same_net t s n m b a) h.1 k.1 in
      let size = a.read.size_is ∙ sym b.read.size_is in
      (lines.0, h.2 ∙ (λ i. size_text (size i) ++ lines.1 i) ∙ sym k.2)

-- the lines after the header of a block are one
one_told_body : (body : BodyView) (p q : OutcomeBody) (u v : Bool) (x y : List ℕ) → IsBodyOf [] Key body p → IsBodyOf [] Key body q → IsBodyTold p u x
    → IsBodyTold q v y → (u ≡ v) × (x ≡ y)
one_told_body (Other token) (Unsupported a) (Unsupported b) u v x y h k s t =
    (s.0 ∙ sym t.0, s.1 ∙ (one_body [] Key (Other token) (Unsupported a) (Unsupported b) h k).text ∙ sym t.1)
one_told_body (Other token) (Unsupported a) q u v x y h k s t = absurd k
one_told_body (Faulty fault) (Malformed a) (Malformed b) u v x y h k s t =
    (s.0 ∙ sym t.0, s.1 ∙ (one_body [] Key (Faulty fault) (Malformed a) (Malformed b) h k).text ∙ sym t.1)
one_told_body (Faulty fault) (Malformed a) q u v x y h k s t = absurd k
one_told_body (Net raw) (Refused a ms r) (Refused b ns w) u v x y h k s t =
    (s.0 ∙ sym t.0, s.1 ∙ (one_body [] Key (Net raw) (Refused a ms r) (Refused b ns w) h k).text ∙ sym t.1)
one_told_body (Net raw) (Refused a ms r) (Keyed b n) u v x y h k s t =
    absurd (true≢false (sym (one_body [] Key (Net raw) (Refused a ms r) (Keyed b n) h k).accepted))
one_told_body (Net raw) (Refused a ms r) q u v x y h k s t = absurd k
one_told_body (Net raw) (Keyed a m) (Refused b ns w) u v x y h k s t =
    absurd (true≢false (one_body [] Key (Net raw) (Keyed a m) (Refused b ns w) h k).accepted)
one_told_body (Net raw) (Keyed a m) (Keyed b n) u v x y h k s t = one_keyed raw a b m n u v x y h k s t
one_told_body (Net raw) (Keyed a m) q u v x y h k s t = absurd k
one_told_body body p q u v x y h k s t = absurd h

-- the text of a block is one
one_block : (number : ℕ) (block : BlockView) (u v : Bool) (x y : List ℕ) → IsBlockTold number block u x → IsBlockTold number block v y → (u ≡ v) × (x ≡ y)
one_block number block u v x y a b =
    let o = a.is_outcome in let q = b.is_outcome in
    let body = one_told_body block.body a.outcome.body b.outcome.body u v a.body b.body o.body q.body a.is_body b.is_body in
    let number = o.number_is ∙ sym q.number_is in let line = o.line ∙ sym q.line in let name = o.name ∙ sym q.name in
    (body.0, a.text_is ∙ (λ i. header_text (number i) (line i) (name i) ++ body.1 i) ∙ sym b.text_is)

-- so are the texts of blocks
one_blocks : (number : ℕ) (bs : List BlockView) (us vs : List Bool) (x y : List ℕ) → AreBlocksTold number bs us x → AreBlocksTold number bs vs y
    → (us ≡ vs) × (x ≡ y)
one_blocks number [] [] [] x y h k = (refl, h ∙ sym k)
one_blocks number [] [] (v ∷ vs) x y h k = absurd k
one_blocks number (b ∷ bs) (u ∷ us) [] x y h k = absurd k
one_blocks number (b ∷ bs) (u ∷ us) (v ∷ vs) x y h k =
    let first = one_block number b u v h.0 k.0 h.2 k.2 in let others = one_blocks (number + 1) bs us vs h.1 k.1 h.3 k.3 in
    (λ i. first.0 i ∷ others.0 i, h.4 ∙ (λ i. first.1 i ++ others.1 i) ∙ sym k.4)
one_blocks number bs us vs x y h k = absurd h

-- the report is one
one_report : (bs : List BlockView) (u v : Bool) (x y : List ℕ) → IsReportOn bs u x → IsReportOn bs v y → (u ≡ v) × (x ≡ y)
one_report bs u v x y a b =
    let r = one_blocks 1 bs a.each b.each x y a.are_told b.are_told in
    (a.all ∙ ap (list_all (λ (c : Bool). c)) r.0 ∙ sym b.all, r.1)

-- as the law says it
pub one_symmetry : OneSymmetry
one_symmetry bs Done Done x y a b = (refl, (one_report bs true true x y a b).1)
one_symmetry bs Done SomeRefused x y a b = absurd (true≢false (one_report bs true false x y a b).0)
one_symmetry bs SomeRefused Done x y a b = absurd (true≢false (sym (one_report bs false true x y a b).0))
one_symmetry bs SomeRefused SomeRefused x y a b = (refl, (one_report bs false false x y a b).1)
one_symmetry bs Done other x y a b = absurd b
one_symmetry bs SomeRefused other x y a b = absurd b
one_symmetry bs status other x y a b = absurd a
