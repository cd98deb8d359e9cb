-- The blocks of a text, which are runs of its lines, and what decides a graph block.
use Rattle.std.specs.Prelude.{◌≡◌, ℕ, Bool, true, false, ◌==◌, List, [], ◌∷◌, if◌then◌else◌}
use Rattle.cgd_lex.specs.Tokens.{tokens_of}
use Rattle.cgd_read.specs.Lines.{LineView, token_lines}
use Rattle.cgd_read.specs.Units.{Units, unit_after, IsUnit}
use Rattle.cgd_read.specs.Faults.{is_end, rows_in, name_of, table}
use Rattle.cgd_read.specs.Views.{BodyView, Net, Other, Faulty, BlockView, raw_view}
use Rattle.cgd_read.specs.Graphs.{net_of, IsReadGraph}
use Rattle.cgd_read.specs.declared.block.BlockFaultKind.{BlockFaultKind}
use Rattle.cgd_read.specs.declared.block.BlockFaultKind.TheVariants.{BadToken, NoEnd}
use Rattle.cgd_read.specs.declared.line.LineKind.{LineKind}
use Rattle.cgd_read.specs.declared.line.LineKind.TheVariants.{Opening}
use Rattle.cgd_read.specs.declared.block.Body.{Body}
use Rattle.cgd_read.specs.declared.block.Body.TheVariants.{Graph, Unsupported, Malformed}

-- the block that opens at this line, with this body, after these lines, the nearest first
abbrev pub with_body : ℕ → List LineView → BodyView → BlockView
with_body opening earlier body = record { name = name_of earlier; line = opening; body = body }

-- the fault of this kind in this line
abbrev pub malformed : ℕ → BlockFaultKind → BodyView
malformed line kind = Faulty record { line = line; kind = kind }

-- how graph blocks are read
abbrev pub graph_units : Units LineView BlockFaultKind BlockView
graph_units = record {
  table = table;
  ends = λ line. is_end line.kind;
  faulty = λ opening earlier line kind. with_body opening earlier (malformed line.number kind);
  ended = λ opening earlier line. with_body opening earlier (Net (net_of (rows_in earlier)));
  open_ = λ opening earlier. with_body opening earlier (malformed opening NoEnd);
}

-- a graph block after its opening line: its first line with a fault decides, or the end of the block, or of the text
abbrev pub graph_block : ℕ → List LineView → List LineView → BlockView
graph_block opening earlier lines = unit_after graph_units opening earlier lines

-- the block that a line opens; the line of a graph block has no further token
abbrev pub block_by : LineKind → LineView → List LineView → BlockView
block_by Opening line lines = if line.fields.size == 0 then graph_block line.number [] lines else with_body line.number [] (malformed line.number BadToken)
block_by _ line lines = with_body line.number [] (Other line.first)

-- the block that a line opens, before these lines
abbrev pub block_of : LineView → List LineView → BlockView
block_of line lines = block_by line.kind line lines

-- the blocks from these lines on, which begin inside a block or not; a block is passed over up to its end
abbrev pub blocks_from : Bool → List LineView → List BlockView
blocks_from inside [] = []
blocks_from true (line ∷ lines) = if is_end line.kind then blocks_from false lines else blocks_from true lines
blocks_from false (line ∷ lines) = if is_end line.kind then blocks_from false lines else block_of line lines ∷ blocks_from true lines

-- the blocks of a text
abbrev pub blocks_of : List ℕ → List BlockView
blocks_of text = blocks_from false (token_lines (tokens_of text))

-- blocks of a text that is read
abbrev pub most_blocks : ℕ
most_blocks = 4096

-- these are the blocks of the text: each text has exactly one list of blocks
abbrev pub AreBlocksOf : List ℕ → List BlockView → Type 0
AreBlocksOf text blocks = blocks ≡ blocks_of text

-- the graph block that opens at this line, before these lines
abbrev pub IsGraphBlock : ℕ → List LineView → BlockView → Type 0
IsGraphBlock opening lines block = IsUnit graph_units opening lines block

-- if the body is a graph, it is one that may be read
abbrev pub IsReadBody : Body → Type 0
IsReadBody (Graph raw) = IsReadGraph (raw_view raw)
IsReadBody (Unsupported token) = Unit {0}
IsReadBody (Malformed fault) = Unit {0}
