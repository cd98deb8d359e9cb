use Rattle.std.{proofs.Common.List, specs.List.between}
use Rattle.periodic_net.specs.Graph.{Graph, Vertex}
use Rattle.coordination.{specs.BoxSearches.IsSearchable, proofs.BoxSearch.IsSearching}
use Rattle.coordination.proofs.box_search.next_shell.Given as goal

abbrev pub invariant-loop-i : goal.invariant-loop-i
invariant-loop-i l = (P : Graph) (vertices : List Vertex) → IsSearchable P l.net_box vertices l.initial.marks l.initial.found.items l.begin
    → IsSearching P l.net_box vertices (between l.begin l.i vertices) l.marks l.found.items
