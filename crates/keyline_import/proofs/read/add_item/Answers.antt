use Rattle.std.proofs.Common.{◌++◌, ◌∷◌, [], List, sym, subst}
use Rattle.cgd_lex.specs.Lines.{rest_of_line, after_line}
use Rattle.keyline_import.specs.{Lines.lines_in, Items.item_of, Reading.line_view, Views.AreRead, declared.item.Item.Item}
use Rattle.keyline_import.proofs.ItemLists.{one_more}
use Rattle.keyline_import.proofs.read.add_item.Goals as goal

pub returns-clause-added : goal.returns-clause-added
returns-clause-added c = λ views read.
    let view = item_of (line_view c.args.opening.now (rest_of_line c.args.lexer.now)) (lines_in (after_line c.args.lexer.now)) in
    subst (λ (items : List Item). AreRead (views ++ view ∷ []) items) (sym c.in_ok-push.ensures.items)
    (one_more views c.args.found.now.items view c.in_ok-item.item read c.in_ok-item.ensures.item)
