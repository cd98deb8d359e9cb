-- Rows that are passed one by one, the first bad line, and graphs that are read in a text.
use Rattle.std.proofs.Common.{◌≡◌, ◌<◌, ℕ, List, ◌∷◌, ◌++◌, length, sym, ap, ◌∙◌, arith, ◌≢◌, [], refl, subst, ◌≤◌, ◌+◌, ◌^◌, All, map, ◌==◌, false, inl}
use Rattle.std.proofs.Common.{inr}
use Rattle.std.proofs.lemmas.List.{length-map, append-nil, length-append, append_cancel_left}
use Rattle.std.proofs.lemmas.{List.Elements.All-head, List.Elements.All-tail, Bool.true≢false}
use mathlib.Core.List.{append_assoc}
use Rattle.graph_rows.specs.Reading.{NoSize, NoEdge, IsFormedGraph, HasGraph, HasBadGraph, HasBadEdge}
use Rattle.graph_rows.specs.Rows.{size_of_graph, size_row, edge_row, edge_lines, graph_lines}
use Rattle.graph_rows.{specs.declared.size.GraphSize.GraphSize, specs.Forms.IsEdgeOfSize, proofs.CallerLemmas.rising_front, proofs.CallerLemmas.rows_joined}
use Rattle.graph_rows.proofs.CallerLemmas.{rows_mapped}
use Rattle.map_check.specs.{Layouts.vertex_at, declared.map.PeriodicMap.PeriodicMap, Conditions.IsImage, Conditions.IsShift}
use Rattle.line_text.specs.Lines.{Place, IsAt, rows_text}
use Rattle.line_text.proofs.CallerLemmas.{less_left}
use Rattle.integers.specs.Vectors.{Vector}
use Rattle.periodic_net.specs.Graph.{Graph, Arc, Vertex}
use Rattle.quotient_graph.specs.Order.{AreRising}
use Rattle.net_certificate.specs.Rows.{OfEdge, OfReason, OfMap, title_row, end_row, reason_row, map_row, Row, row_line, row_lines, OfTitle, OfBase, OfEnd}
use Rattle.net_certificate.specs.Rows.{OfSize}
use Rattle.net_certificate.specs.Stages.{IsNextOf, Start, Titled, Listed, Opened, Drawn, Mapped, Drawing, IsWhole, next_number, image_count, NoneFollows}
use Rattle.net_certificate.specs.Stages.{Stage, MayFollow, MayEnd, stage_with, Walk, drawing, drawing_of, drawn_graph, with_item, begun_map, map_with}
use Rattle.net_certificate.specs.Items.{ItemView, Without, With, Maps, AreFormed, IsFormedItem, IsFormedMap, item_view, item_views}
use Rattle.net_certificate.proofs.Walks.{image_there, walk_formed, item_rows_more, walk_rows}
use Rattle.net_certificate.specs.Texts.{graph_rows, image_rows, table_rows, map_rows, item_rows, items_rows}
use Rattle.net_certificate.specs.{declared.items.Item.Item, Pairs.NoPair, declared.reading.Heading.TheVariants.Reason, declared.reading.Heading.TheVariants.Map}
use Rattle.std.{proofs.Common.None, proofs.Common.Option, proofs.Common.Some, specs.Prelude.MatchOption}
use Rattle.quotient_graph.specs.{AnyGraphs.graph_view, declared.any_graph.AnyGraph.AnyGraph}
use Rattle.net_certificate.specs.Reading.{HasNoGraph, IsBegun}
use Rattle.net_certificate.specs.{Steps.NoImage, Steps.NoShift, Reading.IsIn, Reading.HasBadLine, FirstRows.IsFormed, FirstRows.listed_rows}

-- Where no row that may follow stands.

pub no_title : (left : List ℕ) → ((rest : List ℕ) → left ≡ title_row ++ 10 ∷ rest → ⊥) → NoneFollows Start left
no_title left h k l p q = search arith

pub no_first_size : (left : List ℕ) → NoSize left → NoneFollows Titled left
no_first_size left h k l p q = search arith

pub no_first_edge : (g : Drawing) (items : List ItemView) (left : List ℕ) → length g.edges < g.size.edges → NoEdge g.size g.edges left
    → NoneFollows (Listed g items) left
no_first_edge g items left h l p q s t = search arith

-- after a whole graph and items only the next item may begin
pub no_pair : (g : Drawing) (items : List ItemView) (k : ℕ) (left : List ℕ) → IsWhole g → k ≡ next_number items → NoPair k left
    → NoneFollows (Listed g items) left
no_pair g items k left whole at none (OfEdge d e) rest may is = absurd (omega (arith, may.1, whole))
no_pair g items k left whole at none (OfReason l why) rest may is = none (Reason why) rest may.2
    (is ∙ ap (λ n. reason_row n why ++ 10 ∷ rest) (may.1.0 ∙ sym at))
no_pair g items k left whole at none (OfMap l) rest may is = none Map rest tt (is ∙ ap (λ n. map_row n ++ 10 ∷ rest) (may.1.0 ∙ sym at))
no_pair g items k left whole at none r rest may is = may

pub no_second_size : (g : Drawing) (items : List ItemView) (left : List ℕ) → NoSize left → NoneFollows (Opened g items) left
no_second_size g items left h k l p q = search arith

pub no_second_edge : (g : Drawing) (items : List ItemView) (h : Drawing) (left : List ℕ) → length h.edges < h.size.edges → NoEdge h.size h.edges left
    → NoneFollows (Drawn g items h) left
no_second_edge g items h left k l p q s t = search arith

pub no_image : (g : Drawing) (items : List ItemView) (h : Drawing) (M : PeriodicMap) (left : List ℕ) → length M.images < image_count g M
    → NoImage g.size.dim (vertex_at g.size.dim M.m (length M.images)) h.size left
    → NoneFollows (Mapped g items h M) left
no_image g items h M left k l p q s t = grind (arith, image_there)

pub no_shift : (g : Drawing) (items : List ItemView) (h : Drawing) (M : PeriodicMap) (left : List ℕ) → length M.images ≡ image_count g M
    → length M.base < g.size.dim → NoShift h.size.dim left → NoneFollows (Mapped g items h M) left
no_shift g items h M left k l p q s t u = search arith

pub no_end : (g : Drawing) (items : List ItemView) (h : Drawing) (M : PeriodicMap) (left : List ℕ) → length M.images ≡ image_count g M
    → length M.base ≡ g.size.dim → ((rest : List ℕ) → left ≡ end_row ++ 10 ∷ rest → ⊥) → NoneFollows (Mapped g items h M) left
no_end g items h M left k l p q s t u = search arith

-- one walk after another
pub walk_on : (p q r : Stage) (xs ys : List Row) → Walk p xs q → Walk q ys r → Walk p (xs ++ ys) r
walk_on p q r [] ys one two = subst (λ o. Walk o ys r) (sym one) two
walk_on p q r (x ∷ xs) ys one two = (one.0, walk_on (stage_with p x) q r xs ys one.1 two)

-- the bytes of two lists of rows
pub lines_of_sum : (xs ys : List Row) → row_lines (xs ++ ys) ≡ row_lines xs ++ row_lines ys
lines_of_sum = rows_joined row_line row_lines refl (λ x xs. refl)

-- more rows are passed, whatever was passed before
abbrev pub ArePassed : List ℕ → List Row → Place → Place → Type 0
ArePassed text more before after = (rows : List (List ℕ)) → IsAt text rows before → IsAt text (rows ++ row_lines more) after

pub rows_in : (text : List ℕ) (p q : Stage) (more : List Row) (before after : Place) → IsIn text p before → Walk p more q → ArePassed text more before after
    → IsIn text q after
rows_in text p q more before after is walk passed = record {
  rows = is.rows ++ more;
  walk = walk_on Start p q is.rows more is.walk walk;
  at = subst (λ l. IsAt text l after) (sym (lines_of_sum is.rows more)) (passed (row_lines is.rows) is.at);
}

pub row_in : (text : List ℕ) (p : Stage) (r : Row) (before after : Place) → IsIn text p before → MayFollow p r → ArePassed text (r ∷ []) before after
    → IsIn text (stage_with p r) after
row_in text p r before after is may passed = rows_in text p (stage_with p r) (r ∷ []) before after is (may, refl) passed

-- what stands here may not follow, or is missing
pub bad_in : (text : List ℕ) (p : Stage) (place : Place) (n : ℕ) → IsIn text p place → n ≡ place.number → NoneFollows p place.rest
    → (MayEnd p → place.rest ≢ []) → HasBadLine text n
bad_in text p place n is number h more = grind (arith, length-map)

-- the stage has its form
pub formed_in : (text : List ℕ) (p : Stage) (place : Place) → IsIn text p place → IsFormed p
formed_in text p place is = walk_formed Start p is.rows tt is.walk

-- more edges may follow the first ones
pub record AreMore (s : GraphSize) (done more : List Arc) : Type 0 where
  pub each : All (IsEdgeOfSize s) more
  pub rising : AreRising (done ++ more)
  pub few : length (done ++ more) ≤ s.edges

next_edge : (s : GraphSize) (done es : List Arc) (e : Arc) → AreMore s done (e ∷ es) → IsNextOf (drawing s done) s.dim e
next_edge s done es e are =
    let long = length-append done (e ∷ es) in (
      refl,
      (let few = are.few in omega (arith, long, few)),
      record {
        is_edge = All-head (IsEdgeOfSize s) e es are.each;
        rising = rising_front (done ++ e ∷ []) es (subst AreRising (sym (append_assoc done (e ∷ []) es)) are.rising);
      },
    )

others : (s : GraphSize) (done es : List Arc) (e : Arc) → AreMore s done (e ∷ es) → AreMore s (done ++ e ∷ []) es
others s done es e are = record {
  each = All-tail (IsEdgeOfSize s) e es are.each;
  rising = subst AreRising (sym (append_assoc done (e ∷ []) es)) are.rising;
  few = subst (λ l. length l ≤ s.edges) (sym (append_assoc done (e ∷ []) es)) are.few;
}

pub first_edges_walk : (s : GraphSize) (done more : List Arc) → AreMore s done more
    → Walk (Listed (drawing s done) []) (map (OfEdge s.dim) more) (Listed (drawing s (done ++ more)) [])
first_edges_walk s done [] are = ap (λ l. Listed (drawing s l) []) (sym (append-nil done))
first_edges_walk s done (e ∷ es) are = (
  next_edge s done es e are,
  subst (λ l. Walk (Listed (drawing s (done ++ e ∷ [])) []) (map (OfEdge s.dim) es) (Listed (drawing s l) [])) (append_assoc done (e ∷ []) es)
      (first_edges_walk s (done ++ e ∷ []) es (others s done es e are)),
)

pub second_edges_walk : (g : Drawing) (items : List ItemView) (s : GraphSize) (done more : List Arc) → AreMore s done more
    → Walk (Drawn g items (drawing s done)) (map (OfEdge s.dim) more) (Drawn g items (drawing s (done ++ more)))
second_edges_walk g items s done [] are = ap (λ l. Drawn g items (drawing s l)) (sym (append-nil done))
second_edges_walk g items s done (e ∷ es) are = (
  next_edge s done es e are,
  subst (λ l. Walk (Drawn g items (drawing s (done ++ e ∷ []))) (map (OfEdge s.dim) es) (Drawn g items (drawing s l))) (append_assoc done (e ∷ []) es)
      (second_edges_walk g items s (done ++ e ∷ []) es (others s done es e are)),
)

all_more : (G : Graph) → IsFormedGraph G → AreMore (size_of_graph G) [] G.edges
all_more G formed = record { each = formed.each; rising = formed.rising; few = omega arith }

-- the rows of the first graph
pub first_walk : (G : Graph) → IsFormedGraph G → Walk Titled (graph_rows G) (Listed (drawing_of G) [])
first_walk G formed = (formed.is_size, first_edges_walk (size_of_graph G) [] G.edges (all_more G formed))

-- the rows of a second graph
pub second_walk : (g : Drawing) (items : List ItemView) (H : Graph) → IsFormedGraph H → Walk (Opened g items) (graph_rows H) (Drawn g items (drawing_of H))
second_walk g items H formed = (formed.is_size, second_edges_walk g items (size_of_graph H) [] H.edges (all_more H formed))

images_walk : (g : Drawing) (items : List ItemView) (h : Drawing) (m i : ℕ) (done more : List Vertex) → i ≡ length done
    → All (IsImage h.size.dim h.size.vertices) more → length (done ++ more) ≡ image_count g (begun_map m)
    → Walk (Mapped g items h (map_with m done [])) (image_rows g.size.dim h.size.dim m i more) (Mapped g items h (map_with m (done ++ more) []))
images_walk g items h m i done [] at all count = ap (λ l. Mapped g items h (map_with m l [])) (sym (append-nil done))
images_walk g items h m i done (x ∷ xs) at all count =
    let long = length-append done (x ∷ xs) in let one = length-append done (x ∷ []) in
    let same = append_assoc done (x ∷ []) xs in (
      (refl, refl, ap (λ n. vertex_at g.size.dim m n) at, omega (arith, long, count), All-head (IsImage h.size.dim h.size.vertices) x xs all),
      subst (λ l. Walk (Mapped g items h (map_with m (done ++ x ∷ []) [])) (image_rows g.size.dim h.size.dim m (i + 1) xs)
          (Mapped g items h (map_with m l []))) same
          (images_walk g items h m (i + 1) (done ++ x ∷ []) xs (omega (arith, at, one)) (All-tail (IsImage h.size.dim h.size.vertices) x xs all)
          (ap length same ∙ count)),
    )

shifts_walk : (g : Drawing) (items : List ItemView) (h : Drawing) (m : ℕ) (images : List Vertex) (done more : List Vector)
    → length images ≡ image_count g (begun_map m) → All (IsShift h.size.dim) more → length (done ++ more) ≡ g.size.dim
    → Walk (Mapped g items h (map_with m images done)) (map (OfBase h.size.dim) more) (Mapped g items h (map_with m images (done ++ more)))
shifts_walk g items h m images done [] whole all count = ap (λ l. Mapped g items h (map_with m images l)) (sym (append-nil done))
shifts_walk g items h m images done (v ∷ vs) whole all count =
    let long = length-append done (v ∷ vs) in
    let same = append_assoc done (v ∷ []) vs in (
      (refl, whole, omega (arith, long, count), All-head (IsShift h.size.dim) v vs all),
      subst (λ l. Walk (Mapped g items h (map_with m images (done ++ v ∷ []))) (map (OfBase h.size.dim) vs) (Mapped g items h (map_with m images l))) same
          (shifts_walk g items h m images (done ++ v ∷ []) vs whole (All-tail (IsShift h.size.dim) v vs all) (ap length same ∙ count)),
    )

-- the rows of a map, and the end
map_walk : (g : Drawing) (items : List ItemView) (H : Graph) (M : PeriodicMap) → IsFormedMap (drawn_graph g) H M
    → Walk (Drawn g items (drawing_of H)) (map_rows g.size.dim H.dimension M ++ OfEnd ∷ []) (Listed g (with_item items (With H M)))
map_walk g items H M formed =
    let h = drawing_of H in
    let suits = formed.suits in (
      (refl, record { from = suits.period_from; to = suits.period_to; few = let count = suits.count in let few = suits.few in omega (arith, count, few) }),
      walk_on (Mapped g items h (begun_map M.m)) (Mapped g items h M) (Listed g (with_item items (With H M)))
          (table_rows g.size.dim H.dimension M.m M.images M.base) (OfEnd ∷ [])
          (walk_on (Mapped g items h (begun_map M.m)) (Mapped g items h (map_with M.m M.images [])) (Mapped g items h M)
          (image_rows g.size.dim H.dimension M.m 0 M.images) (map (OfBase H.dimension) M.base)
          (images_walk g items h M.m 0 [] M.images refl suits.each_image suits.count)
          (shifts_walk g items h M.m M.images [] M.base suits.count suits.each_row suits.rows_count))
          ((suits.count, suits.rows_count), refl),
    )

-- the rows of an item
pub item_walk : (g : Drawing) (items : List ItemView) (item : ItemView) → length g.edges ≡ g.size.edges → next_number items < 2 ^ 32
    → IsFormedItem (drawn_graph g) item → Walk (Listed g items) (item_rows g.size.dim (next_number items) item) (Listed g (with_item items item))
item_walk g items (Without why) whole short formed = ((whole, (refl, short), formed), refl)
item_walk g items (With H M) whole short formed = (
  (whole, (refl, short)),
  walk_on (Opened g items) (Drawn g items (drawing_of H)) (Listed g (with_item items (With H M))) (graph_rows H)
      (map_rows g.size.dim H.dimension M ++ OfEnd ∷ []) (second_walk g items H formed.graph) (map_walk g items H M formed),
)

items_walk : (g : Drawing) (k : ℕ) (done more : List ItemView) → k ≡ next_number done → length g.edges ≡ g.size.edges → length (done ++ more) + 1 < 2 ^ 32
    → All (IsFormedItem (drawn_graph g)) more → Walk (Listed g done) (items_rows g.size.dim k more) (Listed g (done ++ more))
items_walk g k done [] at whole short all = ap (Listed g) (sym (append-nil done))
items_walk g k done (i ∷ is) at whole short all =
    let long = length-append done (i ∷ is) in let one = length-append done (i ∷ []) in
    let same = append_assoc done (i ∷ []) is in
    walk_on (Listed g done) (Listed g (done ++ i ∷ [])) (Listed g (done ++ i ∷ is)) (item_rows g.size.dim k i) (items_rows g.size.dim (k + 1) is)
    (subst (λ n. Walk (Listed g done) (item_rows g.size.dim n i) (Listed g (done ++ i ∷ []))) (sym at)
    (item_walk g done i whole (omega (arith, long, short)) (All-head (IsFormedItem (drawn_graph g)) i is all)))
    (subst (λ l. Walk (Listed g (done ++ i ∷ [])) (items_rows g.size.dim (k + 1) is) (Listed g l)) same
    (items_walk g (k + 1) (done ++ i ∷ []) is (omega (arith, at, one)) whole (subst (λ l. length l + 1 < 2 ^ 32) (sym same) short)
    (All-tail (IsFormedItem (drawn_graph g)) i is all)))

-- the stage after a whole text
abbrev pub end_stage : Maps → Stage
end_stage maps = Listed (drawing_of maps.first) maps.items

-- the rows of a text lead to its end
pub maps_walk : (maps : Maps) → AreFormed maps → Walk Start (OfTitle ∷ (graph_rows maps.first ++ items_rows maps.first.dimension 2 maps.items)) (end_stage maps)
maps_walk maps are = (
  tt,
  walk_on Titled (Listed (drawing_of maps.first) []) (end_stage maps) (graph_rows maps.first) (items_rows maps.first.dimension 2 maps.items)
      (first_walk maps.first are.first)
      (items_walk (drawing_of maps.first) 2 [] maps.items refl refl are.few are.items),
)

-- If one more item was read; less is left.

-- an item has a row
record HasRow (rows : List Row) : Type 0 where
  pub first : Row
  pub others : List Row
  pub is : rows ≡ first ∷ others

has_row : (d k : ℕ) (item : ItemView) → HasRow (item_rows d k item)
has_row d k item = search arith

-- the rows that were passed are those that lead to the stage
passed : (text : List ℕ) (g : Drawing) (items : List ItemView) (place : Place) → IsIn text (Listed g items) place
    → IsAt text (row_lines (listed_rows g items)) place
passed text g items place is = subst (λ l. IsAt text (row_lines l) place) (sym (walk_rows Start (Listed g items) is.rows tt is.walk)) is.at

pub shorter_in : (text : List ℕ) (g : Drawing) (items : List ItemView) (item : ItemView) (before after : Place) → IsIn text (Listed g items) before
    → IsIn text (Listed g (with_item items item)) after → length after.rest < length before.rest
shorter_in text g items item before after one two =
    let row = has_row g.size.dim (next_number items) item in
    less_left text (row_lines (listed_rows g items)) (row_lines row.others) (row_line row.first) before after (passed text g items before one)
    (subst (λ l. IsAt text l after)
    (ap row_lines (item_rows_more g items item ∙ ap (λ l. listed_rows g items ++ l) row.is) ∙ lines_of_sum (listed_rows g items) (row.first ∷ row.others))
    (passed text g (with_item items item) after two))

-- what reading says of the items of a graph of this size, said of the graph
pub of_graph : (P : List ℕ → Drawing → List ItemView → Type 0) (G : Graph) (s : GraphSize) → s ≡ size_of_graph G → (k : ℕ) (place : Place)
    → ((text : List ℕ) (items : List ItemView) (edges : List Arc) → length edges ≡ s.edges → k ≡ next_number items
    → IsIn text (Listed (drawing s edges) items) place → P text (drawing s edges) items)
    → (text : List ℕ) (items : List ItemView) → k ≡ next_number items → IsIn text (Listed (drawing_of G) items) place → P text (drawing_of G) items
of_graph P G s is k place reads text items h l = search arith

-- no more is left than there was
pub left_few : (text : List ℕ) (p : Stage) (place : Place) (n : ℕ) → IsIn text p place → length text ≤ n → length place.rest ≤ n
left_few text p place n is few = search (arith, length-append)

-- items in memory with one more
pub views_more : (items : List Item) (item : Item) → item_views (items ++ item ∷ []) ≡ with_item (item_views items) (item_view item)
views_more [] item = refl
views_more (i ∷ items) item = ap (λ l. item_view i ∷ l) (views_more items item)

-- the rows of edges and of a graph, as bytes
edges_same : (d : ℕ) (edges : List Arc) → row_lines (map (OfEdge d) edges) ≡ edge_lines d edges
edges_same d = rows_mapped (OfEdge d) (edge_row d) row_lines (edge_lines d) refl (λ e rows. refl) (λ e es. refl)

pub graph_same : (G : Graph) → row_lines (graph_rows G) ≡ graph_lines G
graph_same G = ap (λ l. size_row (size_of_graph G) ∷ l) (edges_same G.dimension G.edges)

-- a size, and the first edges
size_same : (s : GraphSize) (edges : List Arc) → row_lines (OfSize s ∷ map (OfEdge s.dim) edges) ≡ size_row s ∷ edge_lines s.dim edges
size_same s edges = ap (λ l. size_row s ∷ l) (edges_same s.dim edges)

-- the first graph
pub first_in : (text : List ℕ) (G : Graph) (before after : Place) → IsFormedGraph G → IsIn text Titled before
    → ((rows : List (List ℕ)) → IsAt text rows before → HasGraph text rows after G) → IsIn text (Listed (drawing_of G) []) after
first_in text G before after formed is read = rows_in text Titled (Listed (drawing_of G) []) (graph_rows G) before after is (first_walk G formed)
    (λ rows at. subst (λ l. IsAt text (rows ++ l) after) (sym (graph_same G)) (read rows at).at)

-- a second graph
pub second_in : (text : List ℕ) (g : Drawing) (items : List ItemView) (H : Graph) (before after : Place) → IsFormedGraph H → IsIn text (Opened g items) before
    → ((rows : List (List ℕ)) → IsAt text rows before → HasGraph text rows after H) → IsIn text (Drawn g items (drawing_of H)) after
second_in text g items H before after formed is read = rows_in text (Opened g items) (Drawn g items (drawing_of H)) (graph_rows H) before after is
    (second_walk g items H formed)
    (λ rows at. subst (λ l. IsAt text (rows ++ l) after) (sym (graph_same H)) (read rows at).at)

-- if p has a size and then edges, and the first of them were read
cut_in : (text : List ℕ) (p q : Stage) (before : Place) (is : IsIn text p before) (s : GraphSize) (edges : List Arc) (place : Place)
    → Walk p (OfSize s ∷ map (OfEdge s.dim) edges) q
    → IsAt text ((row_lines is.rows ++ size_row s ∷ []) ++ edge_lines s.dim edges) place → IsIn text q place
cut_in text p q before is s edges place walk at = record {
  rows = is.rows ++ OfSize s ∷ map (OfEdge s.dim) edges;
  walk = walk_on Start p q is.rows (OfSize s ∷ map (OfEdge s.dim) edges) is.walk walk;
  at = subst (λ l. IsAt text l place) (append_assoc (row_lines is.rows) (size_row s ∷ []) (edge_lines s.dim edges)
      ∙ ap (λ l. row_lines is.rows ++ l) (sym (size_same s edges)) ∙ sym (lines_of_sum is.rows (OfSize s ∷ map (OfEdge s.dim) edges))) at;
}

some_edges : (s : GraphSize) (text : List ℕ) (rows : List (List ℕ)) (n : ℕ) → (bad : HasBadEdge text rows s n) → AreMore s [] bad.edges
some_edges s text rows n bad = record { each = bad.each; rising = bad.rising; few = let few = bad.few in omega (arith, few) }

-- after the same rows the same is left
same_rest : (text : List ℕ) (rows : List (List ℕ)) (p q : Place) → IsAt text rows p → IsAt text rows q → p.rest ≡ q.rest
same_rest text rows p q one two = append_cancel_left (rows_text rows) p.rest q.rest (sym one.joined ∙ two.joined)

-- the first graph has a bad line
pub first_bad : (text : List ℕ) (before : Place) (n : ℕ) → (is : IsIn text Titled before) → before.rest ≢ [] → HasBadGraph text (row_lines is.rows) n
    → HasBadLine text n
first_bad text before n is left (inl bad) = bad_in text Titled bad.place n (record { rows = is.rows; walk = is.walk; at = bad.at }) bad.number
    (no_first_size bad.place.rest bad.none)
    (λ may none. left (same_rest text (row_lines is.rows) before bad.place is.at bad.at ∙ none))
first_bad text before n is left (inr bad) =
    let s = bad.size in let edges = bad.bad.edges in let q = Listed (drawing s edges) [] in
    bad_in text q bad.bad.place n (cut_in text Titled q before is s edges bad.bad.place
    (bad.is_size, first_edges_walk s [] edges (some_edges s text (row_lines is.rows ++ size_row s ∷ []) n bad.bad)) bad.bad.at) bad.bad.number
    (no_first_edge (drawing s edges) [] bad.bad.place.rest bad.bad.few bad.bad.none) (λ may none. let few = bad.bad.few in omega (arith, may, few))

-- a second graph has one
pub second_bad : (text : List ℕ) (g : Drawing) (items : List ItemView) (before : Place) (n : ℕ) → (is : IsIn text (Opened g items) before)
    → HasBadGraph text (row_lines is.rows) n → HasBadLine text n
second_bad text g items before n is (inl bad) = bad_in text (Opened g items) bad.place n (record { rows = is.rows; walk = is.walk; at = bad.at }) bad.number
    (no_second_size g items bad.place.rest bad.none) (λ may. absurd may)
second_bad text g items before n is (inr bad) =
    let s = bad.size in let edges = bad.bad.edges in let q = Drawn g items (drawing s edges) in
    bad_in text q bad.bad.place n (cut_in text (Opened g items) q before is s edges bad.bad.place
    (bad.is_size, second_edges_walk g items s [] edges (some_edges s text (row_lines is.rows ++ size_row s ∷ []) n bad.bad)) bad.bad.at) bad.bad.number
    (no_second_edge g items (drawing s edges) bad.bad.place.rest bad.bad.few bad.bad.none) (λ may. absurd may)

-- and something if one is
pub something : (xs : List ℕ) → (length xs == 0) ≡ false → xs ≢ []
something xs e none = true≢false (sym (ap (λ l. length l == 0) none) ∙ e)

-- the lines of a text at its begin
pub at_begin : (text : List ℕ) (place : Place) → place.rest ≡ text → place.number ≡ 1 → IsAt text [] place
at_begin text place rest number = record { joined = sym rest; number = number }

-- what is said of the first graph of a text, which was read there
abbrev pub IsFirstRead : Place → Place → Option AnyGraph → Type 0
IsFirstRead opened place first =
    (text : List ℕ) → IsAt text [] opened → MatchOption first (HasNoGraph text place) (λ (g : AnyGraph). IsBegun (graph_view g) text place)

-- there is one
pub some_begun : (text : List ℕ) (opened place : Place) → opened.rest ≡ text → opened.number ≡ 1 → (first : Option AnyGraph) (g : AnyGraph)
    → first ≡ Some g → IsFirstRead opened place first → IsBegun (graph_view g) text place
some_begun text opened place rest number first g is read = subst (IsFirstRead opened place) is read text (at_begin text opened rest number)

-- or none
pub none_begun : (text : List ℕ) (opened place : Place) → opened.rest ≡ text → opened.number ≡ 1 → (first : Option AnyGraph) → first ≡ None
    → IsFirstRead opened place first → HasNoGraph text place
none_begun text opened place rest number first is read = subst (IsFirstRead opened place) is read text (at_begin text opened rest number)
