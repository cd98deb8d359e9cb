-- Of `read_keyed`: what it ensures.
use Rattle.std.proofs.Common.{◌≡◌, [], ◌∷◌, ◌++◌, length, map, subst, arith}
use Rattle.std.proofs.lemmas.List.{length-append, length-map}
use Rattle.line_text.specs.Lines.{IsAt}
use Rattle.cgd_read.specs.Spelling.{edge_of}
use Rattle.archive_text.specs.Reading.{NoKey, HasBadLine, HasKeyed}
use Rattle.archive_text.specs.{Rows.name_row, Rows.key_row, Forms.IsKeyList}
use Rattle.archive_text.proofs.BadLines.{heads, keyed_same, lines_count, bad_size, bad_edge, bad_key, is_keyed}
use Rattle.graph_rows.specs.Reading.{HasBadEdge, HasEdges, NoSize}
use Rattle.graph_rows.specs.{Rows.size_row, Rows.edge_lines, Forms.IsSize}
use Rattle.line_text.proofs.CallerLemmas.{at_none, at_some, bad_line_from, handed_on}
use Rattle.archive_text.proofs.rest.read_keyed.Goals as goal

pub returns-in_default : goal.returns-in_default
returns-in_default c = λ v text rows name is at. bad_size v text rows name c.args.lines.now c.number-size_line.result is at c.number-size_line.ensures.number
    (at_none c.in_ok-size.field-0 (NoSize c.args.lines.now.rest) c.in_default.is c.in_ok-size.ensures.none)

pub returns-in_err-edges : goal.returns-in_err-edges
returns-in_err-edges c = λ v text rows name is at.
    let s = c.in-Some.size in let fault = c.in_err-edges.field-0.0 in
    handed_on (HasKeyed text rows name c.read_edges.new.lines) (HasBadLine v text rows name) fault c.from_residual-in_err-edges.result
    c.from_residual-in_err-edges.ensures.1
    (bad_line_from fault (HasBadEdge text (heads rows name s) s) (HasBadLine v text rows name)
    (λ n bad. bad_edge v text rows name s n is (at_some c.in_ok-size.field-0 IsSize s c.in-Some.is c.in_ok-size.ensures.form) bad)
    (c.in_err-edges.ensures.edges text (heads rows name s) (at_some c.in_ok-size.field-0
    (λ t. IsAt text ((rows ++ name_row name ∷ []) ++ size_row t ∷ []) c.next_size.new.lines) s c.in-Some.is
    (c.in_ok-size.ensures.place text (rows ++ name_row name ∷ []) at))))

pub returns-in_default-2 : goal.returns-in_default-2
returns-in_default-2 c = λ v text rows name is at.
    let s = c.in-Some.size in
    let has : HasEdges text (heads rows name s) s (map edge_of c.in_ok-edges.edges.items) c.read_edges.new.lines =
    c.in_ok-edges.ensures.edges text (heads rows name s)
    (at_some c.in_ok-size.field-0 (λ t. IsAt text ((rows ++ name_row name ∷ []) ++ size_row t ∷ []) c.next_size.new.lines) s c.in-Some.is
    (c.in_ok-size.ensures.place text (rows ++ name_row name ∷ []) at)) in
    bad_key v text rows name s (map edge_of c.in_ok-edges.edges.items) c.read_edges.new.lines c.number-key_line.result is
    (at_some c.in_ok-size.field-0 IsSize s c.in-Some.is c.in_ok-size.ensures.form) has c.number-key_line.ensures.number
    (at_none c.in_ok-key.field-0 (NoKey c.read_edges.new.lines.rest) c.in_default-2.is c.in_ok-key.ensures.none)

pub returns : goal.returns
returns c = λ v text rows name is at.
    let s = c.in-Some.size in let edges = map edge_of c.in_ok-edges.edges.items in
    let key = c.in-Some-2.key in
    let has : HasEdges text (heads rows name s) s edges c.read_edges.new.lines = c.in_ok-edges.ensures.edges text (heads rows name s)
    (at_some c.in_ok-size.field-0 (λ t. IsAt text ((rows ++ name_row name ∷ []) ++ size_row t ∷ []) c.next_size.new.lines) s c.in-Some.is
    (c.in_ok-size.ensures.place text (rows ++ name_row name ∷ []) at)) in
    let keyed : IsAt text ((heads rows name s ++ edge_lines s.dim edges) ++ key_row key ∷ []) c.next_key.new.lines =
    at_some c.in_ok-key.field-0 (λ k. IsAt text ((heads rows name s ++ edge_lines s.dim edges) ++ key_row k ∷ []) c.next_key.new.lines) key c.in-Some-2.is
    (c.in_ok-key.ensures.place text (heads rows name s ++ edge_lines s.dim edges) has.at) in
    let one = length-append rows (name_row name ∷ []) in
    let two = length-append (rows ++ name_row name ∷ []) (size_row s ∷ []) in
    let three = length-append (heads rows name s) (edge_lines s.dim edges) in
    let four : length (edge_lines s.dim edges) ≡ length edges = lines_count s.dim edges in
    let five = length-map c.in_ok-edges.edges.items edge_of in
    record {
      at = subst (λ l. IsAt text l c.next_key.new.lines) (keyed_same rows name s edges key) keyed;
      formed = is_keyed text (heads rows name s) name s edges key c.read_edges.new.lines is
          (at_some c.in_ok-size.field-0 IsSize s c.in-Some.is c.in_ok-size.ensures.form) has
          (at_some c.in_ok-key.field-0 IsKeyList key c.in-Some-2.is c.in_ok-key.ensures.form);
      line = let number = has.at.number in omega (arith, c.number-key_line.ensures.number, number, one, two, three, four, five);
      within = c.number-key_line.ensures.within;
    }
