-- Of `read_rest`: the clause `rest`.
use Rattle.std.proofs.{Common.◌++◌, Common.map, Common.sym, Common.◌∙◌, lemmas.Bool.true≢false}
use Rattle.cgd_read.specs.Spelling.{edge_of}
use Rattle.archive_text.specs.{Rows.row_lines, Parts.part_rows, Parts.end_part, Reading.HasForm, Reading.HasBadLine}
use Rattle.line_text.proofs.CallerLemmas.{handed_on}
use Rattle.archive_text.proofs.BadLines.{bad_end}
use Rattle.archive_text.proofs.rest.read_rest.Goals as goal

pub returns-in_err-keyed-clause-rest : goal.returns-in_err-keyed-clause-rest
returns-in_err-keyed-clause-rest c = λ text rows name is at.
    handed_on (HasForm c.args.version text rows name c.read_keyed.new.lines)
    (HasBadLine c.args.version text rows name) c.in_err-keyed.field-0.0 c.from_residual.result c.from_residual.ensures.1
    (c.in_err-keyed.ensures c.args.version text rows name is at)

pub returns-in_err-shells-clause-rest : goal.returns-in_err-shells-clause-rest
returns-in_err-shells-clause-rest c = λ text rows name is at.
    let k = c.in_ok-keyed.keyed in let v = c.args.version in
    let has = c.in_ok-keyed.ensures v text rows name is at in
    handed_on (HasForm v text rows name c.read_shells.new.lines) (HasBadLine v text rows name) c.in_err-shells.field-0.0 c.from_residual-in_err-shells.result
    c.from_residual-in_err-shells.ensures.1
    (c.in_err-shells.ensures.rest text rows name k.size (map edge_of k.edges.items) k.key has.formed has.at)

pub returns-then-next_end-clause-rest : goal.returns-then-next_end-clause-rest
returns-then-next_end-clause-rest c = λ text rows name named at.
    let k = c.in_ok-keyed.keyed in let v = c.args.version in let lists = c.in_ok-shells.shells in
    let has = c.in_ok-keyed.ensures v text rows name named at in
    let whole = c.in_ok-shells.ensures.rest text rows name k.size (map edge_of k.edges.items) k.key has.formed has.at in
    record {
      before_end = c.read_shells.new.lines;
      whole = whole;
      ends = c.next_end.ensures.line c.if-next_end.true;
      at_end = c.next_end.ensures.place text (rows ++ row_lines (part_rows (end_part v name k.size (map edge_of k.edges.items) k.key lists))) whole.at
          c.if-next_end.true;
      line = has.line;
      within = has.within;
    }

pub returns-else-next_end-clause-rest : goal.returns-else-next_end-clause-rest
returns-else-next_end-clause-rest c = λ text rows name named at.
    let k = c.in_ok-keyed.keyed in let v = c.args.version in let lists = c.in_ok-shells.shells in
    let has = c.in_ok-keyed.ensures v text rows name named at in
    let whole = c.in_ok-shells.ensures.rest text rows name k.size (map edge_of k.edges.items) k.key has.formed has.at in
    bad_end v text rows name k.size (map edge_of k.edges.items) k.key lists c.read_shells.new.lines c.number-end_line.result whole
    c.number-end_line.ensures.number
    (λ rest e. true≢false (sym (c.next_end.ensures.none rest e) ∙ c.if-next_end.false))
