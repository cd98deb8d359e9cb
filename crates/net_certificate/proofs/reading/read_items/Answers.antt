-- Of `read_items`: the loop over `size`; what it ensures. `next_is`, `item_read` and `less` are what they share.
use Rattle.std.proofs.Common.{◌≡◌, ◌<◌, ◌+◌, ℕ, List, [], ◌∷◌, length, sym, ap, ◌∙◌, subst, arith}
use Rattle.std.proofs.lemmas.List.{length-append, length-map}
use Rattle.quotient_graph.specs.AnyGraphs.{graph_view}
use Rattle.line_text.{specs.Faults.IfBadLine, proofs.CallerLemmas.handed_on}
use Rattle.net_certificate.specs.Reading.{IsBegun, IsIn, HasItems, HasBadLine}
use Rattle.net_certificate.specs.Stages.{Listed, drawing_of, with_item, next_number}
use Rattle.net_certificate.proofs.Places.{of_graph, shorter_in, views_more}
use Rattle.net_certificate.{specs.declared.items.Item.Item, specs.Items.item_view, specs.Items.item_views, proofs.reading.read_items.Goals.In_ok-item}
use Rattle.net_certificate.proofs.reading.read_items.Goals as goal

-- the item is the next one
next_is : (items : List Item) (k : ℕ) → k ≡ length items + 2 → k ≡ next_number (item_views items)
next_is items k is = let count = length-map items item_view in omega (arith, count, is)

-- where the lines stand after it
item_read : (c : In_ok-item) (text : List ℕ) → let G = graph_view c.args.first.now in IsBegun G text c.args.lines.now
    → IsIn text (Listed (drawing_of G) (with_item (item_views c.loop-size.items) (item_view c.in_ok-item.item))) c.read_item.new.lines
item_read c text is =
    of_graph (λ text g items. IsIn text (Listed g (with_item items (item_view c.in_ok-item.item))) c.read_item.new.lines) (graph_view c.args.first.now)
    c.size_of-size.result c.size_of-size.ensures c.loop-size.k c.loop-size.lines c.in_ok-item.ensures text (item_views c.loop-size.items)
    (next_is c.loop-size.items c.loop-size.k c.loop-size.invariant.1) (c.loop-size.invariant.0 text is)

-- less is left
less : (c : In_ok-item) → length c.read_item.new.lines.rest < length c.loop-size.lines.rest
less c =
    let begun = c.requires.begun in
    shorter_in begun.0 (drawing_of (graph_view c.args.first.now)) (item_views c.loop-size.items) (item_view c.in_ok-item.item) c.loop-size.lines
    c.read_item.new.lines (c.loop-size.invariant.0 begun.0 begun.1) (item_read c begun.0 begun.1)

pub loop-size-init : goal.loop-size-init
loop-size-init c =
    let G = graph_view c.args.first.now in (
      (λ text is. subst (λ (l : List Item). IsIn text (Listed (drawing_of G) (item_views l)) c.args.lines.now) (sym c.new-items.ensures) is),
      ap (λ (l : List Item). length l + 2) (sym c.new-items.ensures),
      omega (arith, c.requires.few),
    )

pub returns-in_err-item : goal.returns-in_err-item
returns-in_err-item c = λ text is.
    let G = graph_view c.args.first.now in let fault = c.in_err-item.field-0.0 in
    handed_on (λ (items : List Item). HasItems text G c.read_item.new.lines (item_views items)) (HasBadLine text) fault c.from_residual.result
    c.from_residual.ensures.1
    (of_graph (λ text g items. IfBadLine (HasBadLine text) fault) G c.size_of-size.result c.size_of-size.ensures c.loop-size.k c.loop-size.lines
    c.in_err-item.ensures text (item_views c.loop-size.items) (next_is c.loop-size.items c.loop-size.k c.loop-size.invariant.1)
    (c.loop-size.invariant.0 text is))

pub loop-size-smaller : goal.loop-size-smaller
loop-size-smaller c = less (goal.at.loop-size-smaller c).In_ok-item

pub loop-size-preserved : goal.loop-size-preserved
loop-size-preserved c =
    let item = c.in_ok-item.item in let read = (goal.at.loop-size-preserved c).In_ok-item in
    let shorter = less read in (
      (λ text is. subst (λ l. IsIn text (Listed (drawing_of (graph_view c.args.first.now)) l) c.read_item.new.lines)
          (sym (ap item_views c.in_ok-push.ensures.ok ∙ views_more c.loop-size.items item)) (item_read read text is)),
      (let long = ap length c.in_ok-push.ensures.ok ∙ length-append c.loop-size.items (item ∷ []) in omega (arith, long, c.loop-size.invariant.1)),
      omega (arith, shorter, c.loop-size.invariant.2),
    )
