-- The text of an archive.
pub use Rattle.line_text.specs.Lines.{most_bytes}
use Rattle.std.specs.Prelude.{ℕ, List, [], ◌∷◌, ◌++◌, flat_map}
use Rattle.line_text.specs.Lines.{rows_text}
use Rattle.archive_text.specs.Entries.{EntryView}
use Rattle.archive_text.specs.declared.version.Version.{Version}
use Rattle.archive_text.specs.Rows.{Row, OfEnd, row_lines, first_row}
use Rattle.graph_rows.specs.Rows.{size_of_graph}
use Rattle.archive_text.specs.Parts.{Part, end_part, part_rows}

-- the entry without its end
abbrev pub whole_part : Version → EntryView → Part
whole_part v e = end_part v e.name (size_of_graph e.graph) e.graph.edges e.key e.shells

-- the rows of an entry
abbrev pub entry_rows : Version → EntryView → List Row
entry_rows v e = part_rows (whole_part v e) ++ OfEnd ∷ []

-- the rows of entries, as bytes
abbrev pub entry_lines : Version → List EntryView → List (List ℕ)
entry_lines v entries = flat_map (λ e. row_lines (entry_rows v e)) entries

-- the rows before an entry
abbrev pub rows_before : Version → List EntryView → List (List ℕ)
rows_before v entries = first_row v ∷ entry_lines v entries

-- the text of an archive
abbrev pub text_of : Version → List EntryView → List ℕ
text_of v entries = rows_text (rows_before v entries)
