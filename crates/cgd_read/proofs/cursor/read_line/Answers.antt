use Rattle.std.proofs.Common.{◌∙◌, ap, fold}
use Rattle.cgd_lex.specs.{Views.token_view, Lines.rest_of_line}
use Rattle.cgd_read.specs.Lines.{FieldsView, LineView, fields_of, fields_from, is_bare}
use Rattle.cgd_read.{specs.Reading.with_field, specs.declared.line.LineKind.LineKind, proofs.FieldLists.fields_after, proofs.FieldLists.line_is_flat}
use Rattle.cgd_read.proofs.cursor.read_line.Goals as goal

pub returns-clause-line : goal.returns-clause-line
returns-clause-line c =
    let first = token_view c.args.first.now in let others = rest_of_line c.args.lexer.now in
    let line : LineKind → FieldsView → LineView = λ kind fields. record { number = first.line; kind = kind; first = first.text; fields = fields } in
    ap (line c.of-kind.result)
    (c.read_fields.ensures.fields ∙ ap (λ fields. fold with_field fields others) c.first_field.ensures.fields
    ∙ fields_after (is_bare c.of-kind.result) first others)
    ∙ ap (λ kind. line kind (fields_of (fields_from kind first others))) c.of-kind.ensures

pub returns-clause-flat : goal.returns-clause-flat
returns-clause-flat c = line_is_flat _ (token_view c.args.first.now) (rest_of_line c.args.lexer.now) (returns-clause-line c)
