-- Of `check_items`: the loop over `alloc`; what it ensures; what `push_result` requires; that numbers fit. `item_read`, `less` and `counted` are what they
-- share.
use Rattle.std.proofs.Common.{◌≡◌, ◌<◌, ◌+◌, ℕ, List, [], Bool, length, refl, sym, ap, ◌∙◌, arith}
use Rattle.std.proofs.lemmas.Result.{err_from_is_err_and}
use Rattle.quotient_graph.specs.AnyGraphs.{graph_view}
use Rattle.line_text.{specs.Faults.IfBadLine, proofs.CallerLemmas.handed_on}
use Rattle.net_certificate.specs.Reading.{IsBegun, IsIn, HasBadLine}
use Rattle.net_certificate.specs.Stages.{Listed, drawing_of, with_item}
use Rattle.net_certificate.specs.{Items.IsFormedItem, Items.item_view, Checks.AreAll, Results.is_refused, Results.one_where}
use Rattle.net_certificate.proofs.WholeTexts.{last_of, one_more, plus_none}
use Rattle.net_certificate.proofs.checking.check_items.Goals.{In_ok-item, Joined-branch, then-branch, else-branch}
use Rattle.net_certificate.proofs.Places.{formed_in, of_graph, shorter_in}
use Rattle.net_certificate.proofs.checking.check_items.Goals as goal

-- where the lines stand after the item
item_read : (c : In_ok-item) (text : List ℕ) → let G = graph_view c.args.first.now in IsBegun G text c.args.lines.now
    → IsIn text (Listed (drawing_of G) (with_item c.loop-alloc.invariant.0.items (item_view c.in_ok-item.item))) c.read_item.new.lines
item_read c text is =
    let p = c.loop-alloc.invariant.0 in
    of_graph (λ text g items. IsIn text (Listed g (with_item items (item_view c.in_ok-item.item))) c.read_item.new.lines) (graph_view c.args.first.now)
    c.size_of-size.result c.size_of-size.ensures c.loop-alloc.k c.loop-alloc.lines c.in_ok-item.ensures text p.items p.number (p.at text is)

-- less is left
less : (c : In_ok-item) → length c.read_item.new.lines.rest < length c.loop-alloc.lines.rest
less c =
    let p = c.loop-alloc.invariant.0 in let begun = c.requires.begun in
    shorter_in begun.0 (drawing_of (graph_view c.args.first.now)) p.items (item_view c.in_ok-item.item) c.loop-alloc.lines c.read_item.new.lines
    (p.at begun.0 begun.1) (item_read c begun.0 begun.1)

-- one more is refused, if the item is
counted : (c : Joined-branch) → c.if-branch.refused ≡ c.loop-alloc.refused + one_where (is_refused c.in_ok-push_result.ensures.verdict)
counted c =
    let more = λ (b : Bool). c.loop-alloc.refused + one_where b in
    let added : c.if-branch.refused ≡ more c.in_ok-push_result.field-0 = elim c.if-branch.branch [
      | then-branch w ↦ w.refused-is ∙ ap more (sym w.if-branch.true)
      | else-branch w ↦ w.refused-is ∙ plus_none c.loop-alloc.refused ∙ ap more (sym w.if-branch.false)
    ] in
    added ∙ ap more c.in_ok-push_result.ensures.refused_is

pub loop-alloc-init : goal.loop-alloc-init
loop-alloc-init c = (
  record {
    items = [];
    at = λ whole is. is;
    tells = record { verdicts = []; are = tt; text_is = c.new-text.ensures.items; refused_is = refl };
    number = refl;
    few = omega arith;
  },
  omega (arith, c.requires.few),
)

pub overflow_add-k : goal.overflow_add-k
overflow_add-k c = omega (arith, c.loop-alloc.invariant.1)

pub overflow_add-refused : goal.overflow_add-refused
overflow_add-refused c = let few = c.loop-alloc.invariant.0.few in omega (arith, few, c.loop-alloc.invariant.1)

pub returns-in_err-push_result : goal.returns-in_err-push_result
returns-in_err-push_result c = λ text is.
    let told = err_from_is_err_and c.from_residual-in_err-push_result.result c.from_residual-in_err-push_result.ensures.1 in rw (told.1, told.2) tt

pub returns-in_err-item : goal.returns-in_err-item
returns-in_err-item c = λ text is.
    let G = graph_view c.args.first.now in
    let p = c.loop-alloc.invariant.0 in let fault = c.in_err-item.field-0.0 in
    handed_on (AreAll text G c.read_item.new.lines) (HasBadLine text) fault c.from_residual.result c.from_residual.ensures.1
    (of_graph (λ text g items. IfBadLine (HasBadLine text) fault) G c.size_of-size.result c.size_of-size.ensures c.loop-alloc.k c.loop-alloc.lines
    c.in_err-item.ensures text p.items p.number (p.at text is))

pub push_result-requires : goal.push_result-requires
push_result-requires c =
    let G = graph_view c.args.first.now in let items = c.loop-alloc.invariant.0.items in
    let item = item_view c.in_ok-item.item in let begun = c.requires.begun in
    let formed = formed_in begun.0 (Listed (drawing_of G) (with_item items item)) c.read_item.new.lines
    (item_read (goal.at.push_result-requires c).In_ok-item begun.0 begun.1) in
    last_of (IsFormedItem G) items item formed.each

pub loop-alloc-smaller : goal.loop-alloc-smaller
loop-alloc-smaller c = less (goal.at.loop-alloc-smaller c).In_ok-item

pub loop-alloc-smaller-after-branch : goal.loop-alloc-smaller-after-branch
loop-alloc-smaller-after-branch c = less (goal.at.loop-alloc-smaller-after-branch c).In_ok-item

pub loop-alloc-preserved : goal.loop-alloc-preserved
loop-alloc-preserved c =
    let has = c.in_ok-push_result.ensures in let read = (goal.at.loop-alloc-preserved c).In_ok-item in
    let shorter = less read in (
      one_more (graph_view c.args.first.now) c.args.lines.now c.loop-alloc.lines c.read_item.new.lines c.loop-alloc.k c.loop-alloc.text.items
          c.push_result.new.text.items c.loop-alloc.refused c.if-branch.refused (item_view c.in_ok-item.item) has.verdict c.loop-alloc.invariant.0
          (item_read read) has.is has.text_is (counted (goal.at.loop-alloc-preserved c).Joined-branch),
      omega (arith, shorter, c.loop-alloc.invariant.1),
    )

pub loop-alloc-preserved-after-branch : goal.loop-alloc-preserved-after-branch
loop-alloc-preserved-after-branch c =
    let has = c.in_ok-push_result.ensures in
    let read = (goal.at.loop-alloc-preserved-after-branch c).In_ok-item in
    let shorter = less read in (
      one_more (graph_view c.args.first.now) c.args.lines.now c.loop-alloc.lines c.read_item.new.lines c.loop-alloc.k c.loop-alloc.text.items
          c.push_result.new.text.items c.loop-alloc.refused c.if-branch.refused (item_view c.in_ok-item.item) has.verdict c.loop-alloc.invariant.0
          (item_read read) has.is has.text_is (counted (goal.at.loop-alloc-preserved-after-branch c).Joined-branch),
      omega (arith, shorter, c.loop-alloc.invariant.1),
    )
