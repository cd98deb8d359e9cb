-- If all blocks of a text are covered, the text of the covers is read as the nets that were given.
use Rattle.std.proofs.Common.{◌≡◌, inl, inr, ℕ, ◌*◌, List, [], ◌∷◌, ◌++◌, refl, sym, ap, subst, ◌∙◌}
use Rattle.std.proofs.lemmas.List.{Elements.All-from_recursion, Sorted.length_permutation}
use Rattle.std.specs.List.{AllByRecursion, Contains}
use Rattle.integers.proofs.lists.Members.{IsIn, AreApart, contains_from_in}
use Rattle.periodic_net.{specs.Graph.Graph, specs.Graph.Arc, proofs.CallerLemmas.iso_transitive}
use Rattle.sublattice.specs.Sublattices.{index_of}
use Rattle.cgd_read.specs.{Views.RawView, Views.BodyView, Views.Net, Views.BlockView, Blocks.blocks_of, Graphs.graph_of}
use Rattle.net_cover.specs.Cells.{CellView}
use Rattle.cover_answers.specs.Printed.{MayBePrinted, NamedGraph, blocks_text, named_graph}
use Rattle.cover_answers.specs.ReadBack.{AreReadBack, IsReadBack, new_number, order_of}
use Rattle.cover_answers.specs.Covers.{AreCoversOf, IsCoverOf, IsCoverOfNet, covers_text}
use Rattle.cover_answers.specs.{Blocks.graph_text, RoundLaws.CoversAreReadBack, Rounds.AreReadAsCovers, Rounds.IsReadAsCover}
use Rattle.cover_answers.proofs.RowEdges.{IsFlatBlock, IsFlatBody, IsFlatNet, blocks_flat, IsReadEdge, same_edges, same_vertices}
use Rattle.cover_answers.proofs.{ReadBack.blocks_are_read_back, ReadBlocks.covers_may_be_printed, RowEdges.graph_apart, RowEdges.graph_edge}
use Rattle.quotient_graph.proofs.CallerLemmas.{in_order_iso}

-- what is known of the graph of a net that was read

net_apart : (raw : RawView) → IsFlatNet raw → AreApart (graph_of raw).edges
net_apart raw h = subst (λ (net : RawView). AreApart (graph_of net).edges) (sym h.is) (graph_apart h.rows)

net_edges : (raw : RawView) → IsFlatNet raw → (y : Arc) → IsIn (graph_of raw).edges y → IsReadEdge (graph_of raw) y
net_edges raw h = subst (λ (net : RawView). (y : Arc) → IsIn (graph_of net).edges y → IsReadEdge (graph_of net) y) (sym h.is) (graph_edge h.rows h.flat)

-- the covers under the names of their blocks
abbrev all_named : List BlockView → List Graph → List NamedGraph
all_named (block ∷ blocks) (C ∷ covers) = named_graph block.name C ∷ all_named blocks covers
all_named blocks covers = []

module _ (cell : CellView) where
  -- the cover of a block may be printed
  printed : (file : List ℕ) (block : BlockView) (C : Graph) (body : BodyView) → Contains (blocks_of file) block → block.body ≡ body → IsCoverOf cell body C
      → MayBePrinted (named_graph block.name C)
  printed file block C (Net raw) there is c =
      covers_may_be_printed file block raw c.graph C there is c.read.in_order c.read.is_graph c.is_cover.iso c.is_cover.cover.is_graph c.is_cover.small
  printed file block C body there is c = absurd c

  all_printed : (file : List ℕ) (blocks : List BlockView) (covers : List Graph) → ((block : BlockView) → IsIn blocks block → Contains (blocks_of file) block)
      → AreCoversOf cell blocks covers
      → AllByRecursion MayBePrinted (all_named blocks covers)
  all_printed file (block ∷ blocks) (C ∷ covers) there c =
      (printed file block C block.body (there block (inl refl)) refl c.0, all_printed file blocks covers (λ b i. there b (inr i)) c.1)
  all_printed file blocks covers there c = tt

  -- what is read of the cover of a net
  net_back : (block back : BlockView) (C : Graph) (given : RawView) → block.body ≡ Net given → IsCoverOfNet cell given C → IsFlatBlock back
      → IsReadBack (named_graph block.name C) back
      → IsReadAsCover cell block back
  net_back block back C given is c h r =
      let G = c.graph in let H = graph_of r.raw in let o = c.read.in_order in
      let net = subst IsFlatBody r.body h in let new = new_number (order_of C.edges) in
      let vertices = same_vertices C H new r.iso r.there in
      let edges = same_edges C H new r.iso r.there c.is_cover.cover.is_graph (net_apart r.raw net) (net_edges r.raw net) in
      let length_is = length_permutation (graph_of given).edges G.edges o.edges in
      record {
        given = given;
        cover = r.raw;
        given_is = is;
        cover_is = r.body;
        name = r.name;
        iso = iso_transitive (graph_of given) G H (in_order_iso (graph_of given) G o) (iso_transitive G C H c.is_cover.iso r.iso);
        size = record {
          vertices = sym vertices ∙ c.is_cover.size.vertices ∙ (λ t. o.vertices t * index_of (o.dimension t) cell.rows);
          edges = sym edges ∙ c.is_cover.size.edges ∙ (λ t. length_is t * index_of (o.dimension t) cell.rows);
        };
        repeats = r.repeats;
      }

  block_back : (block back : BlockView) (C : Graph) (body : BodyView) → block.body ≡ body → IsCoverOf cell body C → IsFlatBlock back
      → IsReadBack (named_graph block.name C) back → IsReadAsCover cell block back
  block_back block back C (Net given) is c h r = net_back block back C given is c h r
  block_back block back C body is c h r = absurd c

  -- block by block
  all_back : (blocks : List BlockView) (covers : List Graph) (backs : List BlockView) → AreCoversOf cell blocks covers → AllByRecursion IsFlatBlock backs
      → AreReadBack (all_named blocks covers) backs → AreReadAsCovers cell blocks backs
  all_back [] [] [] c h r = tt
  all_back [] (C ∷ covers) backs c h r = absurd c
  all_back (block ∷ blocks) [] backs c h r = absurd c
  all_back (block ∷ blocks) (C ∷ covers) (back ∷ backs) c h r = (block_back block back C block.body refl c.0 h.0 r.0, all_back blocks covers backs c.1 h.1 r.1)
  all_back blocks covers backs c h r = r

-- the text of the covers is that of the blocks of printed graphs
texts_same : (blocks : List BlockView) (covers : List Graph) → covers_text blocks covers ≡ blocks_text (all_named blocks covers)
texts_same (block ∷ blocks) (C ∷ covers) = ap (λ (text : List ℕ). graph_text block.name C ++ text) (texts_same blocks covers)
texts_same blocks covers = refl

pub covers_are_read_back : CoversAreReadBack
covers_are_read_back cell file text c =
    let blocks = blocks_of file in let same = c.text_is ∙ texts_same blocks c.covers in
    let may = All-from_recursion MayBePrinted (all_named blocks c.covers)
    (all_printed cell file blocks c.covers (λ b i. contains_from_in blocks b i) c.are_covers) in
    let back = subst (λ (t : List ℕ). AreReadBack (all_named blocks c.covers) (blocks_of t)) (sym same)
    (blocks_are_read_back (all_named blocks c.covers) may) in
    all_back cell blocks c.covers (blocks_of text) c.are_covers (blocks_flat text) back
