-- What is kept of the lines of a block so far.
use Rattle.std.specs.Prelude.{ℕ, ◌≡◌, List, map}
use Rattle.std.specs.Borrow.{Bor}
use Rattle.indexmap.specs.IndexSet.{IndexSet}
use Rattle.cgd_read.specs.Lines.{FieldsView, LineView}
use Rattle.cgd_read.specs.Edges.{vertices_of, edges_of, first_size, repeats_of}
use Rattle.cgd_read.specs.declared.partial.PartialGraph.{PartialGraph}
use Rattle.std.specs.Option.{option_copied}
use Rattle.cgd_read.specs.Faults.{rows_in, under_edges, name_of}
use Rattle.cgd_read.specs.declared.state.State.{State}

-- the names in a set of slices
abbrev pub names_in : {S : Type 0} → IndexSet (Bor (List ℕ)) S → List (List ℕ)
names_in names = map (λ (b : Bor (List ℕ)). b.now) names.keys

-- the graph of these rows, the nearest first
pub record IsGraphOfRows (graph : PartialGraph) (rows : List FieldsView) : Type 0 where
  pub size : graph.size ≡ first_size rows
  pub repeats : graph.repeats ≡ repeats_of rows
  pub names : names_in graph.names ≡ vertices_of rows
  pub edges : graph.edges.keys ≡ edges_of rows

-- what is kept after these lines, the nearest first
pub record IsStateAfter (state : State) (earlier : List LineView) : Type 0 where
  pub name : option_copied state.name ≡ name_of earlier
  pub under : state.under_edges ≡ under_edges earlier
  pub graph : IsGraphOfRows state.graph (rows_in earlier)
