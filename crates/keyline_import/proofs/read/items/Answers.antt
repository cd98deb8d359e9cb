-- Of `items`: the loop over `head`; the clauses `only` and `few`.
use Rattle.std.proofs.Common.{◌∙◌, ◌++◌, ◌∷◌, ◌≤◌, [], List, false, sym, ap, subst, length, arith, rules}
use Rattle.std.proofs.lemmas.{Grind.common_steps, List.length-append}
use Rattle.cgd_lex.specs.Lines.{rest_of_line, after_line}
use Rattle.keyline_import.specs.Items.{ItemView, items_from, item_of, after_end}
use Rattle.keyline_import.specs.{Lines.LineView, Lines.lines_in, Reading.line_view, Views.AreRead, declared.item.Item.Item}
use Rattle.keyline_import.proofs.ItemLists.{only_item, one_item, next_item, as_many, some_more}
use Rattle.keyline_import.proofs.read.items.Goals as goal

pub loop-head-init : goal.loop-head-init
loop-head-init c =
    let none = c.new-found.ensures.items in
    record {
      views = [];
      whole = ap (λ tokens. items_from false (lines_in tokens)) c.new-lexer.ensures.tokens;
      read = subst (λ (items : List Item). AreRead [] items) (sym none) tt;
      few = omega (arith, ap length none);
      room = omega (arith, c.new-lexer.ensures.few, c.requires);
    }

pub loop-head-preserved : goal.loop-head-preserved
loop-head-preserved c =
    let i = c.loop-head.invariant in
    let line = line_view c.in-Some.head (rest_of_line c.next_head.new.lexer) in
    let lines = lines_in (after_line c.next_head.new.lexer) in let left = lines_in c.add_item.new.lexer in
    let begins = sym c.begins_item.ensures ∙ c.if-not-begins_item.false in let e = c.in_ok-add_item.ensures in
    record {
      views = i.views ++ item_of line lines ∷ [];
      whole =
          next_item i.views line lines left begins e.lines
          ∙ ap (λ (ls : List LineView). i.views ++ items_from false ls) (sym c.in-Some.ensures.lines)
          ∙ i.whole;
      read = e.added i.views i.read;
      few = grind (arith, common_steps, e.count);
      room = omega (arith, e.shorter, c.in-Some.ensures.shorter, i.room);
    }

pub returns-then-len-eq-MOST_ITEMS-clause-too_many :
    goal.returns-then-len-eq-MOST_ITEMS-clause-too_many
returns-then-len-eq-MOST_ITEMS-clause-too_many c = λ told.
    let i = c.loop-head.invariant in
    let line = line_view c.in-Some.head (rest_of_line c.next_head.new.lexer) in
    let lines = lines_in (after_line c.next_head.new.lexer) in
    let begins = sym c.begins_item.ensures ∙ c.if-not-begins_item.false in
    let whole = ap (λ (items : List ItemView). i.views ++ items) (sym (one_item line lines begins))
    ∙ ap (λ (ls : List LineView). i.views ++ items_from false ls) (sym c.in-Some.ensures.lines) ∙ i.whole in
    let count : 4096 ≤ length c.loop-head.found.items = search rules in
    let full : 4096 ≤ length i.views = omega (arith, as_many i.views c.loop-head.found.items i.read, count) in
    some_more i.views (item_of line lines) (items_from false (after_end lines)) _ full whole

pub returns-then-len-eq-MOST_ITEMS-clause-only : goal.returns-then-len-eq-MOST_ITEMS-clause-only
returns-then-len-eq-MOST_ITEMS-clause-only c = only_item

pub returns-in_err-add_item-clause-only : goal.returns-in_err-add_item-clause-only
returns-in_err-add_item-clause-only c = only_item

pub returns-clause-few : goal.returns-clause-few
returns-clause-few c =
    let i = c.loop-head.invariant in
    let none = ap (λ (ls : List LineView). length (items_from false ls)) c.in_default.ensures.lines in
    omega (
      arith,
      as_many i.views c.loop-head.found.items i.read,
      i.few,
      ap length i.whole,
      length-append i.views
          (items_from false (lines_in c.loop-head.lexer)),
      none,
    )

pub returns-clause-only : goal.returns-clause-only
returns-clause-only c = only_item
