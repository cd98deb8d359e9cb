-- The faults of a line in a graph block: each is a sentence about the line and the lines of its block before it,
-- the nearest first.
use Rattle.std.specs.Prelude.{ℕ, Bool, true, false, ◌||◌, ◌&&◌, ◌==◌, not, nat_lt, is_some, is_none, List, [], ◌∷◌, ◌++◌, length, Option, None, Some}
use Rattle.std.specs.Prelude.{if◌then◌else◌}
use Rattle.periodic_net.specs.Limits.{most_vertices, most_edges}
use Rattle.cgd_read.specs.Lines.{FieldsView, LineView, is_bare}
use Rattle.cgd_read.specs.Units.{first_true}
use Rattle.cgd_read.specs.Edges.{vertices_of, edges_of, is_self_edge, first_size, has_rows}
use Rattle.cgd_read.specs.declared.line.LineKind.{LineKind}
use Rattle.cgd_read.specs.declared.line.LineKind.TheVariants.{Opening, Name, Edges, End, Unknown, Bare, Broken}
use Rattle.cgd_read.specs.declared.block.BlockFaultKind.{BlockFaultKind}
use Rattle.cgd_read.specs.declared.block.BlockFaultKind.TheVariants.{BadToken, RowLength, MixedDimension, UnknownField, NoEdges, SelfEdge, ShiftRange}
use Rattle.cgd_read.specs.declared.block.BlockFaultKind.TheVariants.{TooManyVertices, TooManyEdges, NameTooLong, TwoNames, NoEnd}

-- a line of this kind names the block
abbrev pub is_name : LineKind → Bool
is_name Name = true
is_name _ = false

-- a line of this kind ends the block
abbrev pub is_end : LineKind → Bool
is_end End = true
is_end _ = false

-- a line of this kind begins with a bad token
abbrev pub is_broken : LineKind → Bool
is_broken Broken = true
is_broken _ = false

-- in a block the word that opens one is no keyword
abbrev pub is_unknown : LineKind → Bool
is_unknown Unknown = true
is_unknown Opening = true
is_unknown _ = false

-- a line of this kind has a row, if it has fields
abbrev pub may_have_row : LineKind → Bool
may_have_row Edges = true
may_have_row Bare = true
may_have_row _ = false

-- the fields of the line are a row
abbrev pub has_row : LineView → Bool
has_row line = may_have_row line.kind && nat_lt 0 line.fields.size

-- what is known of the lines before

-- the rows of these lines
abbrev pub rows_in : List LineView → List FieldsView
rows_in [] = []
rows_in (line ∷ earlier) = if has_row line then line.fields ∷ rows_in earlier else rows_in earlier

-- whether the last keyword line is one of edges, after a line of this kind
abbrev pub under_after : LineKind → Bool → Bool
under_after Name before = false
under_after Edges before = true
under_after _ before = before

-- the last keyword line is one of edges
abbrev pub under_edges : List LineView → Bool
under_edges [] = false
under_edges (line ∷ earlier) = under_after line.kind (under_edges earlier)

-- the name so far, after a line of this kind that gives the first of these names
abbrev pub name_after : LineKind → Option (List ℕ) → Option (List ℕ) → Option (List ℕ)
name_after Name name before = name
name_after _ name before = before

-- the block's name so far
abbrev pub name_of : List LineView → Option (List ℕ)
name_of [] = None
name_of (line ∷ earlier) = name_after line.kind line.fields.name (name_of earlier)

-- the sentences

-- a name line in a block that has a name already; a name line that gives none has a fault itself
abbrev pub is_second_name : List LineView → LineView → Bool
is_second_name earlier line = is_name line.kind && is_some (name_of earlier)

-- the line begins with a bad token; or begins with a field but follows no line of edges; or is a name line without one
-- good field; or has a row with a token that may not stand there
abbrev pub has_bad_token : List LineView → LineView → Bool
has_bad_token earlier line =
    is_broken line.kind
    || ((is_bare line.kind && not (under_edges earlier))
    || ((is_name line.kind && is_none line.fields.name)
    || (has_row line && (line.fields.has_strange || line.fields.has_late_quote))))

-- more than 200 bytes
abbrev pub is_long : List ℕ → Bool
is_long bytes = nat_lt 200 (length bytes)

-- there is a name, and it is too long
abbrev pub is_long_name : Option (List ℕ) → Bool
is_long_name None = false
is_long_name (Some name) = is_long name

-- the name on the line, or a vertex of its row, is too long
abbrev pub has_long_name : LineView → Bool
has_long_name line = (is_name line.kind && is_long_name line.fields.name) || (has_row line && (is_long line.fields.u || is_long line.fields.v))

-- a row with neither four nor five fields
abbrev pub has_wrong_length : LineView → Bool
has_wrong_length line = has_row line && not (line.fields.size == 4 || line.fields.size == 5)

-- a row with another number of fields than the first
abbrev pub has_other_length : List LineView → LineView → Bool
has_other_length earlier line = has_row line && (has_rows (rows_in earlier) && not (line.fields.size == first_size (rows_in earlier)))

-- a row with a part of its shift out of the limits
abbrev pub has_far_shift : LineView → Bool
has_far_shift line = has_row line && line.fields.has_far_part

-- a row that joins a vertex to itself, by the shift 0
abbrev pub has_self_edge : LineView → Bool
has_self_edge line = has_row line && is_self_edge line.fields

-- with this line there are more vertices than may be
abbrev pub brings_many_vertices : List LineView → LineView → Bool
brings_many_vertices earlier line = nat_lt most_vertices (length (vertices_of (rows_in (line ∷ earlier))))

-- with this line there are more edges than may be
abbrev pub brings_many_edges : List LineView → LineView → Bool
brings_many_edges earlier line = nat_lt most_edges (length (edges_of (rows_in (line ∷ earlier))))

-- the block ends, and there was no row
abbrev pub ends_without_rows : List LineView → LineView → Bool
ends_without_rows earlier line = is_end line.kind && not (has_rows (rows_in earlier))

-- the table of the faults, in its order

-- the sentences about the words of a line
abbrev pub word_tests : List LineView → LineView → List (BlockFaultKind × Bool)
word_tests earlier line =
    (UnknownField, is_unknown line.kind)
    ∷ (TwoNames, is_second_name earlier line)
    ∷ (BadToken, has_bad_token earlier line)
    ∷ (NameTooLong, has_long_name line)
    ∷ []

-- the sentences about its row
abbrev pub row_tests : List LineView → LineView → List (BlockFaultKind × Bool)
row_tests earlier line =
    (RowLength, has_wrong_length line)
    ∷ (MixedDimension, has_other_length earlier line)
    ∷ (ShiftRange, has_far_shift line)
    ∷ (SelfEdge, has_self_edge line)
    ∷ []

-- the sentences about what there is with this line
abbrev pub count_tests : List LineView → LineView → List (BlockFaultKind × Bool)
count_tests earlier line =
    (TooManyVertices, brings_many_vertices earlier line)
    ∷ (TooManyEdges, brings_many_edges earlier line)
    ∷ (NoEdges, ends_without_rows earlier line)
    ∷ []

-- all sentences, in their order
abbrev pub table : List LineView → LineView → List (BlockFaultKind × Bool)
table earlier line = word_tests earlier line ++ (row_tests earlier line ++ count_tests earlier line)

-- the fault of a line: the first of the table whose sentence is true
abbrev pub fault_of : List LineView → LineView → Option BlockFaultKind
fault_of earlier line = first_true (table earlier line)

-- the first answer, or else the later one
abbrev pub or_later : {X : Type 0} → Option X → Option X → Option X
or_later (Some x) later = Some x
or_later None later = later

-- the number of a kind of fault
abbrev pub number_of_kind : BlockFaultKind → ℕ
number_of_kind BadToken = 1
number_of_kind RowLength = 2
number_of_kind MixedDimension = 3
number_of_kind UnknownField = 4
number_of_kind NoEdges = 5
number_of_kind SelfEdge = 6
number_of_kind ShiftRange = 7
number_of_kind TooManyVertices = 8
number_of_kind TooManyEdges = 9
number_of_kind NameTooLong = 10
number_of_kind NoEnd = 11
number_of_kind TwoNames = 12
