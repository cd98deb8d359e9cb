-- Of `read_lines`: the clause `item`; the loop over `head`; what `ended_item` requires.
use Rattle.std.proofs.Common.{[], ◌∷◌, ◌∙◌, refl, sym, ap, subst}
use Rattle.cgd_lex.specs.Lines.{rest_of_line, after_line}
use Rattle.keyline_import.specs.Items.{ItemView, item_after, after_end}
use Rattle.keyline_import.specs.{Lines.lines_in, Faults.key_of, Reading.line_view, Views.IsItemRead}
use Rattle.keyline_import.proofs.{ItemLists.first_fault, ItemLists.first_passes, KeyGraphs.lines_within, KeyGraphs.kept_within}
use Rattle.keyline_import.proofs.read.read_lines.Goals as goal

pub returns-in-Some-clause-item : goal.returns-in-Some-clause-item
returns-in-Some-clause-item c =
    let line = line_view c.args.opening.now (rest_of_line c.args.lexer.now) in
    let fault = sym (c.in_ok-kind.ensures.fault [] c.requires.new) ∙ c.in-Some.is in
    subst (λ (i : ItemView). IsItemRead i c.faulty_item.result) (sym (first_fault line (lines_in (after_line c.args.lexer.now)) c.in-Some.kind fault))
    (c.faulty_item.ensures [] refl)

pub loop-head-init : goal.loop-head-init
loop-head-init c =
    let line = line_view c.args.opening.now (rest_of_line c.args.lexer.now) in
    let none = c.in_default.is in let e = c.in_ok-kind.ensures in
    let fault = sym (e.fault [] c.requires.new) ∙ none in
    record {
      earlier = line ∷ [];
      stands = e.stands none [] c.requires.new;
      item = ap (λ tokens. item_after line.number (line ∷ []) (lines_in tokens)) e.after
          ∙ sym (first_passes line (lines_in (after_line c.args.lexer.now)) c.requires.begins fault);
      lines = ap (λ tokens. after_end (lines_in tokens)) e.after;
      shorter = e.shorter;
    }

pub ended_item-requires : goal.ended_item-requires
ended_item-requires c =
    let i = c.loop-head.invariant in
    let line = line_view c.in-Some-next_head.head (rest_of_line c.next_head.new.lexer) in
    let stands = c.in_ok-kind-2.ensures.stands c.in_default-2.is i.earlier i.stands in
    kept_within c.judge-in-Some-next_head.new.self.key (key_of (line ∷ i.earlier)) stands.key (lines_within (line ∷ i.earlier))
