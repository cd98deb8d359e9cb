-- Of `new`: the clauses `slices`, `order`, `forms`, `lines`, `cut`, `only_cut` and `few`.
use Rattle.std.proofs.Common.{length, arith, refl, []}
use Rattle.cgd_lex.{specs.Tokens.tokens_of, proofs.Cuts.is_cut, proofs.Cuts.one_cut, proofs.Places.placed, proofs.LineLists.few_tokens}
use Rattle.cgd_lex.proofs.lexer.Lexer.new.Goals as goal

pub returns-clause-slices : goal.returns-clause-slices
returns-clause-slices c = (placed (length c.args.text.now) [] c.args.text.now 0 0 1 (omega arith) refl refl (omega arith)).slices

pub returns-clause-order : goal.returns-clause-order
returns-clause-order c = (placed (length c.args.text.now) [] c.args.text.now 0 0 1 (omega arith) refl refl (omega arith)).order

pub returns-clause-forms : goal.returns-clause-forms
returns-clause-forms c = (placed (length c.args.text.now) [] c.args.text.now 0 0 1 (omega arith) refl refl (omega arith)).forms

pub returns-clause-lines : goal.returns-clause-lines
returns-clause-lines c = (placed (length c.args.text.now) [] c.args.text.now 0 0 1 (omega arith) refl refl (omega arith)).lines

pub returns-clause-cut : goal.returns-clause-cut
returns-clause-cut c = λ line. is_cut (length line) line (omega arith)

pub returns-clause-only_cut : goal.returns-clause-only_cut
returns-clause-only_cut c = λ line pieces cut. one_cut pieces line cut

pub returns-clause-few : goal.returns-clause-few
returns-clause-few c =
    let p = placed (length c.args.text.now) [] c.args.text.now 0 0 1 (omega arith) refl refl (omega arith) in
    few_tokens c.args.text.now (tokens_of c.args.text.now) p.order p.slices p.forms
