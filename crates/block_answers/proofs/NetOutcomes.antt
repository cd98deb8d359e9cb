-- What is reported of the graph of a block: the only placement but for its translates, and what stands beside an archive.
use Rattle.std.proofs.Common.{◌≡◌, ◌⊎◌, ℕ, ◌≤◌, sym, subst, List, ◌≢◌, Result, Ok, Err, refl, arith}
use Rattle.std.{proofs.lemmas.List.Elements.All-weaker, proofs.lemmas.List.Sorted.All-permutation, specs.List.All, specs.Prelude.IfOk}
use Rattle.integers.{proofs.lists.Permutations.permuted_pairs}
use Rattle.periodic_net.specs.Graph.{Arc, Graph, IsEdge, IsGraph}
use Rattle.periodic_net.specs.Maps.{BareIso, Iso}
use Rattle.periodic_net.proofs.CallerLemmas.{barycentric_placements_translate}
use Rattle.quotient_graph.specs.{PlacedNets.PlacedNet, Stars.IsInOrder}
use Rattle.cgd_read.specs.{Graphs.graph_of, Views.RawView, Views.Net}
use Rattle.least_key.specs.Truths.{IsTrueOf, IsOfConnecting, IsOfPlacing}
use Rattle.least_key.{specs.Placings.IsPlacedAs, specs.declared.net.Net.Net as AnyNet, specs.AnyNets.net_view, specs.declared.refusal.Refusal.Refusal}
use Rattle.least_key.{specs.declared.refusal.Refusal.TheVariants.NoMemory, proofs.CallerLemmas.key_of_graph}
use Rattle.key_theory.{specs.Key.IsKeyOf, proofs.CallerLemmas.keys_decide, proofs.CallerLemmas.keys_decide_bare}
use Rattle.coordination.specs.Sequences.{AreSequencesOf}
use Rattle.archive_text.specs.{Entries.EntryView, Lookups.names_with}
use Rattle.net_archive.{specs.Archives.IsEntry, specs.Deciding.AreBareNamesOf, specs.Deciding.AreNamesOf, proofs.CallerLemmas.names_found}
use Rattle.net_report.specs.declared.command.Command.TheVariants.{Check, Place, Key, Identify}
use Rattle.net_report.specs.declared.{outcome.Size.Size, outcome.OutcomeBody.OutcomeBody, command.Command.Command, outcome.OutcomeBody.TheVariants.Refused}
use Rattle.block_answers.specs.Outcomes.{IsOnlyPlacement, IsIdentifiedAs, IsKeyedAs, size_of, MayTell, IsBodyOf, IsGraphOf}

-- a graph with its edges in order is a graph
pub is_graph_in : (raw : RawView) (H : Graph) → IsGraph (graph_of raw) → IsInOrder (graph_of raw) H → IsGraph H
is_graph_in raw H g o =
    let G = graph_of raw in
    record {
      dimension = subst (λ (d : ℕ). (d ≡ 2) ⊎ (d ≡ 3)) (sym o.dimension) g.dimension;
      vertices = subst (λ (n : ℕ). 1 ≤ n) (sym o.vertices) g.vertices;
      edges = All-permutation (IsEdge H) G.edges H.edges o.edges (All-weaker (IsEdge G) (IsEdge H)
          (λ e h. same_edge G H o.dimension o.vertices e h) G.edges g.edges);
      different = permuted_pairs G.edges H.edges o.edges g.different;
    }
  where
    -- an edge of the one is an edge of the other
    same_edge : (G H : Graph) → H.dimension ≡ G.dimension → H.vertices ≡ G.vertices → (e : Arc) → IsEdge G e → IsEdge H e
    same_edge G H d v e h = grind arith

-- and the one that was read from the block
pub graph_read : {raw : RawView} {size : Size} {H : Graph} → size ≡ size_of raw → IsGraph (graph_of raw) → IsInOrder (graph_of raw) H → IsGraphOf raw size H
graph_read {raw} {size} {H} e g o = record { size_is = e; in_order = o; is_graph = is_graph_in raw H g o }

-- of a placed graph
pub only_placement : (G : Graph) (p : PlacedNet) → IsGraph G → IsPlacedAs G p → IsOnlyPlacement G p.placement
only_placement G p g h = λ q b. barycentric_placements_translate.translates G g h.connected p.placement q h.normal.barycentric b

-- a net with its key and sequences is reported with the names that its key finds
pub identified_as : (entries : List EntryView) (raw : RawView) (size : Size) (vertices : List (List ℕ)) (net : AnyNet) (shells names : List (List ℕ))
    → IsKeyedAs raw size net → vertices ≡ raw.names
    → AreSequencesOf (net_view net).placed.graph shells → All IsEntry entries → names ≡ names_with (net_view net).key entries
    → IsIdentifiedAs entries raw size vertices net shells names
identified_as entries raw size vertices net shells names h v s good found =
    let n = net_view net in let is_graph = subst IsGraph h.net_is h.keyed.is_graph in
    let key = subst (λ (G : Graph). IsKeyOf G n.key) h.net_is (key_of_graph n h.keyed) in
    let placed = subst (λ (G : Graph). IsPlacedAs G n.placed) h.net_is h.keyed.settled.placed in
    record {
      keyed = h;
      vertices_are = v;
      only = only_placement h.graph n.placed is_graph placed;
      shells_are = subst (λ (G : Graph). AreSequencesOf G shells) h.net_is s;
      names_are = subst (AreNamesOf h.graph entries) (sym found) (names_found Iso keys_decide h.graph is_graph n.key key entries good);
      bare_names_are = subst (AreBareNamesOf h.graph entries) (sym found) (names_found BareIso keys_decide_bare h.graph is_graph n.key key entries good);
    }

-- a test for connectedness may report its refusals
pub check_may : (refusal : Refusal) → IsOfConnecting refusal → refusal ≢ NoMemory → MayTell Check refusal
check_may refusal k l = search arith

-- so may a placing
pub place_may : (refusal : Refusal) → IsOfPlacing refusal → refusal ≢ NoMemory → MayTell Place refusal
place_may refusal k l = search arith

-- and the search for a key may report all
pub key_may : (refusal : Refusal) → refusal ≢ NoMemory → MayTell Key refusal
key_may refusal h = search arith

-- also where it is sought in an archive
pub identify_may : (refusal : Refusal) → refusal ≢ NoMemory → MayTell Identify refusal
identify_may refusal h = search arith

-- the body of a refusal is one that the command reports
pub refused_told : (entries : List EntryView) (command : Command) (raw : RawView) (G : Graph) (refusal : Refusal) (body : OutcomeBody)
    → IsGraph (graph_of raw) → IsInOrder (graph_of raw) G → IsTrueOf G refusal → (refusal ≢ NoMemory → MayTell command refusal)
    → body ≡ Refused (size_of raw) raw.names refusal → refusal ≢ NoMemory → IsBodyOf entries command (Net raw) body
refused_told entries command raw G refusal body g o t m e n =
    subst (IsBodyOf entries command (Net raw)) (sym e)
    (record { graph = G; read = graph_read refl g o; names_are = refl; may = m n; is_true = t })

-- so is one that was made of a refusal
pub refused_as : {E : Type 0} (command : Command) (raw : RawView) (G : Graph) (refusal : Refusal) (r : Result OutcomeBody E)
    → IsGraph (graph_of raw) → IsInOrder (graph_of raw) G → IsTrueOf G refusal → (refusal ≢ NoMemory → MayTell command refusal)
    → IfOk r (λ body. body ≡ Refused (size_of raw) raw.names refusal) → IfOk r (λ body. refusal ≢ NoMemory)
    → IfOk r (λ body. (entries : List EntryView) → IsBodyOf entries command (Net raw) body)
refused_as command raw G refusal (Ok body) g o t m e n = λ entries. refused_told entries command raw G refusal body g o t m e n
refused_as command raw G refusal (Err d) g o t m e n = e
