-- Entries, as contracts see them.
use Rattle.std.specs.Prelude.{ℕ, ℤ, List, map}
use Rattle.periodic_net.specs.Graph.{Graph}
use Rattle.quotient_graph.specs.AnyGraphs.{graph_view}
use Rattle.archive_text.specs.declared.entry.Entry.{Entry}

-- a name, a graph, a key, and for each class its coordination sequence
pub record EntryView : Type 0 where
  pub name : List ℕ
  pub graph : Graph
  pub key : List ℤ
  pub shells : List (List ℕ)

-- what an entry has
abbrev pub entry_view : Entry → EntryView
entry_view e = record { name = e.name.items; graph = graph_view e.graph; key = e.key; shells = e.shells }

-- what each of these entries has
abbrev pub entry_views : List Entry → List EntryView
entry_views entries = map entry_view entries
