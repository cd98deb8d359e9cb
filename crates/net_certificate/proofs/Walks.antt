-- The rows that lead to a stage, and rows that may follow one another.
use Rattle.std.proofs.Common.{◌≡◌, ◌<◌, ℕ, List, [], ◌∷◌, All, length, refl, sym, subst, arith, ◌+◌, ◌++◌, map, ap, ◌∙◌, ◌≤◌, ◌^◌}
use Rattle.std.proofs.lemmas.List.{length-append, append-nil, Elements.All-nil, Elements.All-push}
use mathlib.Core.List.{append_assoc}
use Rattle.integers.specs.Vectors.{Vector}
use Rattle.periodic_net.specs.Graph.{Arc, Vertex}
use Rattle.graph_rows.specs.{declared.size.GraphSize.GraphSize, Reading.IsFormedGraph, Rows.edge_row}
use Rattle.graph_rows.specs.Forms.{IsSize, IsEdgeOfSize}
use Rattle.graph_rows.proofs.CallerLemmas.{none_rises, size_none, edge_none, same_size, same_edge}
use Rattle.map_check.specs.Conditions.{IsImage, IsShift, most_images}
use Rattle.map_check.specs.{declared.map.PeriodicMap.PeriodicMap, Layouts.vertex_at}
use Rattle.line_text.{specs.Lines.HasNo, specs.Lines.rows_text, proofs.CallerLemmas.same_row}
use Rattle.net_certificate.specs.Items.{ItemView, Without, With, IsPeriod, IsFormedMap, IsFormedItem}
use Rattle.net_certificate.specs.Rows.{Row, OfSize, OfEdge, OfReason, OfMap, OfPeriod, OfImage, OfBase, OfEnd, OfTitle, row_line, reason_row}
use Rattle.net_certificate.specs.{Rows.image_row, Rows.base_row, Rows.row_lines, Stages.next_number, Stages.Walk}
use Rattle.net_certificate.specs.FirstRows.{IsDrawing, AreItems, IsOpened, IsMapping, IsFormed, drawing_rows, listed_rows, stage_rows}
use Rattle.net_certificate.specs.Stages.{Stage, Start, Titled, Listed, Opened, Drawn, Mapped, Drawing, drawn_graph, IsWhole, IsNextPair, with_edge}
use Rattle.net_certificate.specs.Stages.{with_item, with_image, with_shift, begun_map, begun_drawing, image_count, stage_with, IsNextOf, MayFollow}
use Rattle.net_certificate.specs.Texts.{graph_rows, image_rows, map_rows, item_rows, items_rows}
use Rattle.net_certificate.proofs.RowForms.{title_none, reason_row_none, map_row_none, period_none, image_none, base_none, end_none, same_reason}
use Rattle.net_certificate.proofs.RowForms.{no_reason, same_period, same_image, same_base}

-- The form of each stage, and that a row that may follow keeps it.

-- a graph that is wholly drawn
pub whole_graph : (g : Drawing) → IsDrawing g → IsWhole g → IsFormedGraph (drawn_graph g)
whole_graph g is whole = grind arith

drawing_begun : (s : GraphSize) → IsSize s → IsDrawing (begun_drawing s)
drawing_begun s is = record { is_size = is; each = All-nil (IsEdgeOfSize s); rising = none_rises; few = omega arith }

edge_drawn : (g : Drawing) (d : ℕ) (e : Arc) → IsDrawing g → IsNextOf g d e → IsDrawing (with_edge g e)
edge_drawn g d e is next = record {
  is_size = is.is_size;
  each = All-push (IsEdgeOfSize g.size) g.edges e is.each next.2.is_edge;
  rising = next.2.rising;
  few = let long = length-append g.edges (e ∷ []) in omega (arith, long, next.1);
}

-- an item whose graph has one more edge: there is none
edge_listed : (g : Drawing) (items : List ItemView) (d : ℕ) (e : Arc) → AreItems g items → IsNextOf g d e → AreItems (with_edge g e) items
edge_listed g items d e are next = record {
  drawing = edge_drawn g d e are.drawing next;
  after = λ less. are.after next.1;
  each = subst (λ l. All (IsFormedItem (drawn_graph (with_edge g e))) l) (sym (are.after next.1)) (All-nil (IsFormedItem (drawn_graph (with_edge g e))));
  few = are.few;
}

item_listed : (g : Drawing) (items : List ItemView) (item : ItemView) → IsOpened g items → IsFormedItem (drawn_graph g) item → AreItems g (with_item items item)
item_listed g items item opened is = record {
  drawing = opened.items_are.drawing;
  after = λ less. let whole = opened.whole in absurd (omega (arith, less, whole));
  each = All-push (IsFormedItem (drawn_graph g)) items item opened.items_are.each is;
  few = let long = length-append items (item ∷ []) in let short = opened.short in omega (arith, long, short);
}

-- the next item may begin
opens : (g : Drawing) (items : List ItemView) (k : ℕ) → AreItems g items → IsWhole g → IsNextPair items k → IsOpened g items
opens g items k are whole next = record { items_are = are; whole = whole; short = omega (arith, next.0, next.1) }

map_begun : (g h : Drawing) (m : ℕ) → IsDrawing h → IsWhole h → IsPeriod g.size m → IsMapping g h (begun_map m)
map_begun g h m graph whole period = grind arith

image_mapped : (g h : Drawing) (M : PeriodicMap) (x : Vertex) → IsMapping g h M → length M.images < image_count g M → IsImage h.size.dim h.size.vertices x
    → IsMapping g h (with_image M x)
image_mapped g h M x is less image = record {
  graph = is.graph;
  whole = is.whole;
  period = is.period;
  images = All-push (IsImage h.size.dim h.size.vertices) M.images x is.images image;
  images_few = let long = length-append M.images (x ∷ []) in omega (arith, long, less);
  shifts = is.shifts;
  shifts_few = is.shifts_few;
  after = λ more. is.after less;
}

shift_mapped : (g h : Drawing) (M : PeriodicMap) (v : Vector) → IsMapping g h M → length M.images ≡ image_count g M → length M.base < g.size.dim
    → IsShift h.size.dim v → IsMapping g h (with_shift M v)
shift_mapped g h M v is all more shift = record {
  graph = is.graph;
  whole = is.whole;
  period = is.period;
  images = is.images;
  images_few = is.images_few;
  shifts = All-push (IsShift h.size.dim) M.base v is.shifts shift;
  shifts_few = let long = length-append M.base (v ∷ []) in omega (arith, long, more);
  after = λ less. absurd (omega (arith, less, all));
}

map_whole : (g h : Drawing) (M : PeriodicMap) → IsMapping g h M → length M.images ≡ image_count g M → length M.base ≡ g.size.dim
    → IsFormedMap (drawn_graph g) (drawn_graph h) M
map_whole g h M is images base = grind (arith, whole_graph)

-- a row that may follow makes a stage of its form
pub formed_with : (p : Stage) (r : Row) → IsFormed p → MayFollow p r → IsFormed (stage_with p r)
formed_with Titled (OfSize s) formed may = record {
  drawing = drawing_begun s may;
  after = λ less. refl;
  each =
      All-nil (IsFormedItem (drawn_graph (begun_drawing s)));
  few = omega arith;
}
formed_with (Listed g items) (OfEdge d e) formed may = edge_listed g items d e formed may
formed_with (Listed g items) (OfReason k why) formed may = item_listed g items (Without why) (opens g items k formed may.0 may.1) may.2
formed_with (Listed g items) (OfMap k) formed may = opens g items k formed may.0 may.1
formed_with (Opened g items) (OfSize s) formed may = (formed, drawing_begun s may)
formed_with (Drawn g items h) (OfEdge d e) formed may = (formed.0, edge_drawn h d e formed.1 may)
formed_with (Drawn g items h) (OfPeriod m) formed may = (formed.0, map_begun g h m formed.1 may.0 may.1)
formed_with (Mapped g items h M) (OfImage d e w x) formed may = (formed.0, image_mapped g h M x formed.1 may.3 may.4)
formed_with (Mapped g items h M) (OfBase e v) formed may = (formed.0, shift_mapped g h M v formed.1 may.1 may.2 (subst (λ n. IsShift n v) may.0 may.3))
formed_with (Mapped g items h M) OfEnd formed may = item_listed g items (With (drawn_graph h) M) formed.0 (map_whole g h M formed.1 may.0 may.1)
formed_with p r formed may = tt

-- the rows of a graph that is wholly drawn
pub rows_of_whole : (g : Drawing) → IsWhole g → drawing_rows g ≡ graph_rows (drawn_graph g)
rows_of_whole g whole = ap (λ n. OfSize (record { dim = g.size.dim; vertices = g.size.vertices; edges = n }) ∷ map (OfEdge g.size.dim) g.edges) (sym whole)

mapped_more : {X : Type 0} (f : X → Row) (xs : List X) (x : X) → map f (xs ++ x ∷ []) ≡ map f xs ++ f x ∷ []
mapped_more f [] x = refl
mapped_more f (y ∷ xs) x = ap (λ l. f y ∷ l) (mapped_more f xs x)

edge_rows : (g : Drawing) (d : ℕ) (e : Arc) → d ≡ g.size.dim → drawing_rows (with_edge g e) ≡ drawing_rows g ++ OfEdge d e ∷ []
edge_rows g d e dim = grind (arith, mapped_more)

items_more : (d k : ℕ) (items : List ItemView) (item : ItemView) → items_rows d k (items ++ item ∷ []) ≡ items_rows d k items
    ++ item_rows d (length items + k) item
items_more d k [] item = append-nil (item_rows d k item) ∙ ap (λ n. item_rows d n item) (omega arith)
items_more d k (i ∷ items) item = ap (λ l. item_rows d k i ++ l) (items_more d (k + 1) items item
    ∙ ap (λ n. items_rows d (k + 1) items ++ item_rows d n item) (omega arith))
    ∙ sym (append_assoc (item_rows d k i) (items_rows d (k + 1) items) (item_rows d (length (i ∷ items) + k) item))

images_more : (d e m i : ℕ) (images : List Vertex) (x : Vertex) → image_rows d e m i (images ++ x ∷ []) ≡ image_rows d e m i images
    ++ OfImage d e (vertex_at d m (length images + i)) x ∷ []
images_more d e m i [] x = ap (λ n. OfImage d e (vertex_at d m n) x ∷ []) (omega arith)
images_more d e m i (y ∷ images) x = ap (λ l. OfImage d e (vertex_at d m i) y ∷ l)
    (images_more d e m (i + 1) images x ∙ ap (λ n. image_rows d e m (i + 1) images ++ OfImage d e (vertex_at d m n) x ∷ []) (omega arith))

pub item_rows_more : (g : Drawing) (items : List ItemView) (item : ItemView)
    → listed_rows g (with_item items item) ≡ listed_rows g items ++ item_rows g.size.dim (next_number items) item
item_rows_more g items item = ap (λ l. OfTitle ∷ (drawing_rows g ++ l)) (items_more g.size.dim 2 items item)
    ∙ ap (λ l. OfTitle ∷ l) (sym (append_assoc (drawing_rows g) (items_rows g.size.dim 2 items) (item_rows g.size.dim (next_number items) item)))

map_image_rows : (d e : ℕ) (M : PeriodicMap) (x : Vertex) → M.base ≡ []
    → map_rows d e (with_image M x) ≡ map_rows d e M ++ OfImage d e (vertex_at d M.m (length M.images)) x ∷ []
map_image_rows d e M x none =
    let images = image_rows d e M.m 0 M.images in
    let row = OfImage d e (vertex_at d M.m (length M.images)) x in
    ap (λ l. OfPeriod M.m ∷ (image_rows d e M.m 0 (M.images ++ x ∷ []) ++ map (OfBase e) l)) none
    ∙ ap (λ l. OfPeriod M.m ∷ l) (append-nil (image_rows d e M.m 0 (M.images ++ x ∷ [])) ∙ images_more d e M.m 0 M.images x
    ∙ ap (λ n. images ++ OfImage d e (vertex_at d M.m n) x ∷ []) (omega arith))
    ∙ ap (λ l. OfPeriod M.m ∷ (l ++ row ∷ [])) (sym (append-nil images)) ∙ ap (λ l. OfPeriod M.m ∷ ((images ++ map (OfBase e) l) ++ row ∷ [])) (sym none)

map_shift_rows : (d e : ℕ) (M : PeriodicMap) (v : Vector) → map_rows d e (with_shift M v) ≡ map_rows d e M ++ OfBase e v ∷ []
map_shift_rows d e M v =
    ap (λ l. OfPeriod M.m ∷ (image_rows d e M.m 0 M.images ++ l)) (mapped_more (OfBase e) M.base v)
    ∙ ap (λ l. OfPeriod M.m ∷ l) (sym (append_assoc (image_rows d e M.m 0 M.images) (map (OfBase e) M.base) (OfBase e v ∷ [])))

-- a first graph without items has one more edge
listed_edge_rows : (g : Drawing) (items : List ItemView) (d : ℕ) (e : Arc) → items ≡ [] → d ≡ g.size.dim
    → listed_rows (with_edge g e) items ≡ listed_rows g items ++ OfEdge d e ∷ []
listed_edge_rows g items d e h dim = grind (arith, append-nil, edge_rows)

-- a second graph, or a map, has one more row
item_part_rows : (g : Drawing) (items : List ItemView) (now more : List Row) (r : Row) → more ≡ now ++ r ∷ []
    → listed_rows g items ++ OfMap (next_number items) ∷ more ≡ (listed_rows g items ++ OfMap (next_number items) ∷ now) ++ r ∷ []
item_part_rows g items now more r is = ap (λ l. listed_rows g items ++ OfMap (next_number items) ∷ l) is
    ∙ sym (append_assoc (listed_rows g items) (OfMap (next_number items) ∷ now) (r ∷ []))

after_drawing : (h : Drawing) (now more : List Row) (r : Row) → more ≡ now ++ r ∷ [] → drawing_rows h ++ more ≡ (drawing_rows h ++ now) ++ r ∷ []
after_drawing h now more r is = ap (λ l. drawing_rows h ++ l) is ∙ sym (append_assoc (drawing_rows h) now (r ∷ []))

whole_item_rows : (g : Drawing) (items : List ItemView) (h : Drawing) (M : PeriodicMap) → IsWhole h
    → listed_rows g (with_item items (With (drawn_graph h) M)) ≡ stage_rows (Mapped g items h M) ++ OfEnd ∷ []
whole_item_rows g items h M whole =
    let k = next_number items in let rows = map_rows g.size.dim h.size.dim M in
    item_rows_more g items (With (drawn_graph h) M)
    ∙ ap (λ l. listed_rows g items ++ OfMap k ∷ (l ++ (rows ++ OfEnd ∷ []))) (sym (rows_of_whole h whole))
    ∙ ap (λ l. listed_rows g items ++ OfMap k ∷ l) (sym (append_assoc (drawing_rows h) rows (OfEnd ∷ [])))
    ∙ sym (append_assoc (listed_rows g items) (OfMap k ∷ (drawing_rows h ++ rows)) (OfEnd ∷ []))

-- a row that may follow is the last of the rows that lead to the stage with it
pub rows_with : (p : Stage) (r : Row) → IsFormed p → MayFollow p r → stage_rows (stage_with p r) ≡ stage_rows p ++ r ∷ []
rows_with Start OfTitle formed may = refl
rows_with Titled (OfSize s) formed may = refl
rows_with (Listed g items) (OfEdge d e) formed may = listed_edge_rows g items d e (formed.after may.1) may.0
rows_with (Listed g items) (OfReason k why) formed may = item_rows_more g items (Without why)
    ∙ ap (λ n. listed_rows g items ++ OfReason n why ∷ []) (sym may.1.0)
rows_with (Listed g items) (OfMap k) formed may = ap (λ n. listed_rows g items ++ OfMap n ∷ []) (sym may.1.0)
rows_with (Opened g items) (OfSize s) formed may = item_part_rows g items [] (OfSize s ∷ []) (OfSize s) refl
rows_with (Drawn g items h) (OfEdge d e) formed may = item_part_rows g items (drawing_rows h) (drawing_rows (with_edge h e)) (OfEdge d e)
    (edge_rows h d e may.0)
rows_with (Drawn g items h) (OfPeriod m) formed may = item_part_rows g items (drawing_rows h) (drawing_rows h ++ OfPeriod m ∷ []) (OfPeriod m) refl
rows_with (Mapped g items h M) (OfImage d e w x) formed may =
    let d' = g.size.dim in let e' = h.size.dim in
    let row : OfImage d' e' (vertex_at d' M.m (length M.images)) x ≡ OfImage d e w x =
    ap (λ n. OfImage n e' (vertex_at n M.m (length M.images)) x) (sym may.0) ∙ ap (λ n. OfImage d n (vertex_at d M.m (length M.images)) x) (sym may.1)
    ∙ ap (λ v. OfImage d e v x) (sym may.2) in
    item_part_rows g items (drawing_rows h ++ map_rows d' e' M) (drawing_rows h ++ map_rows d' e' (with_image M x)) (OfImage d e w x)
    (after_drawing h (map_rows d' e' M) (map_rows d' e' (with_image M x)) (OfImage d e w x)
    (map_image_rows d' e' M x (formed.1.after may.3) ∙ ap (λ r. map_rows d' e' M ++ r ∷ []) row))
rows_with (Mapped g items h M) (OfBase e v) formed may =
    let d' = g.size.dim in let e' = h.size.dim in
    item_part_rows g items (drawing_rows h ++ map_rows d' e' M) (drawing_rows h ++ map_rows d' e' (with_shift M v)) (OfBase e v)
    (after_drawing h (map_rows d' e' M) (map_rows d' e' (with_shift M v)) (OfBase e v)
    (map_shift_rows d' e' M v ∙ ap (λ n. map_rows d' e' M ++ OfBase n v ∷ []) (sym may.0)))
rows_with (Mapped g items h M) OfEnd formed may = whole_item_rows g items h M formed.1.whole
rows_with p r formed may = absurd may

-- the rows of a walk
pub walk_rows : (p q : Stage) (rows : List Row) → IsFormed p → Walk p rows q → stage_rows q ≡ stage_rows p ++ rows
walk_rows p q [] formed walk = ap stage_rows (sym walk) ∙ sym (append-nil (stage_rows p))
walk_rows p q (r ∷ rows) formed walk =
    walk_rows (stage_with p r) q rows (formed_with p r formed walk.0) walk.1 ∙ ap (λ l. l ++ rows) (rows_with p r formed walk.0)
    ∙ append_assoc (stage_rows p) (r ∷ []) rows

-- a walk keeps the form
pub walk_formed : (p q : Stage) (rows : List Row) → IsFormed p → Walk p rows q → IsFormed q
walk_formed p q [] formed walk = subst IsFormed walk formed
walk_formed p q (r ∷ rows) formed walk = walk_formed (stage_with p r) q rows (formed_with p r formed walk.0) walk.1

-- the place of an image is below the number of all
place_few : (g h : Drawing) (M : PeriodicMap) → IsMapping g h M → length M.images < image_count g M → length M.images ≤ most_images
place_few g h M is less = let few = is.period.few in omega (arith, less, few)

vertices_few : (h : Drawing) → IsDrawing h → h.size.vertices < 2 ^ 32
vertices_few h is = omega (arith, is.is_size.vertices.1)

next_none : (g : Drawing) (d : ℕ) (e : Arc) → IsDrawing g → IsNextOf g d e → HasNo 10 (edge_row d e)
next_none g d e is next = subst (λ n. HasNo 10 (edge_row n e)) (sym next.0) (edge_none g.size e is.is_size next.2.is_edge)

-- a row that may follow has no line feed
pub row_none : (p : Stage) (r : Row) → IsFormed p → MayFollow p r → HasNo 10 (row_line r)
row_none Start OfTitle formed may = title_none
row_none Titled (OfSize s) formed may = size_none s may
row_none (Listed g items) (OfEdge d e) formed may = next_none g d e formed.drawing may
row_none (Listed g items) (OfReason k why) formed may = reason_row_none k why may.1.1 may.2
row_none (Listed g items) (OfMap k) formed may = map_row_none k may.1.1
row_none (Opened g items) (OfSize s) formed may = size_none s may
row_none (Drawn g items h) (OfEdge d e) formed may = next_none h d e formed.1 may
row_none (Drawn g items h) (OfPeriod m) formed may = period_none m may.1.to
row_none (Mapped g items h M) (OfImage d e w x) formed may = subst (λ v. HasNo 10 (image_row d e v x)) (sym may.2)
    (image_none d e M.m (length M.images) h.size.vertices x (place_few g h M formed.1 may.3) (vertices_few h formed.1.graph)
    (subst (λ n. IsImage n h.size.vertices x) (sym may.1) may.4))
row_none (Mapped g items h M) (OfBase e v) formed may = base_none e v may.3
row_none (Mapped g items h M) OfEnd formed may = end_none
row_none p r formed may = absurd may

next_same : (g : Drawing) (d d' : ℕ) (a b : Arc) → IsDrawing g → IsNextOf g d a → IsNextOf g d' b → edge_row d a ≡ edge_row d' b → OfEdge d a ≡ OfEdge d' b
next_same g d d' a b is ha hb e =
    let first = ap (λ n. edge_row n a) ha.0 in let second = ap (λ n. edge_row n b) hb.0 in
    ap (λ n. OfEdge n a) (ha.0 ∙ sym hb.0) ∙ ap (OfEdge d') (same_edge g.size a b is.is_size ha.2.is_edge hb.2.is_edge (sym first ∙ e ∙ second))

-- the row of the next image, if one may follow
pub image_there : (g : Drawing) (items : List ItemView) (h : Drawing) (M : PeriodicMap) (d b : ℕ) (w x : Vertex)
    → MayFollow (Mapped g items h M) (OfImage d b w x) → OfImage d b w x ≡ OfImage g.size.dim h.size.dim (vertex_at g.size.dim M.m (length M.images)) x
image_there g items h M d b w x may = cc

-- the images of one vertex
one_image : (g : Drawing) (items : List ItemView) (h : Drawing) (M : PeriodicMap) (d b : ℕ) (w x : Vertex) (d' b' : ℕ) (w' y : Vertex) → IsMapping g h M
    → MayFollow (Mapped g items h M) (OfImage d b w x) → MayFollow (Mapped g items h M) (OfImage d' b' w' y) → image_row d b w x ≡ image_row d' b' w' y
    → OfImage d b w x ≡ OfImage d' b' w' y
one_image g items h M d b w x d' b' w' y is ha hb e =
    let first = image_there g items h M d b w x ha in let second = image_there g items h M d' b' w' y hb in
    let image : x ≡ y = same_image g.size.dim h.size.dim M.m (length M.images) h.size.vertices x y (place_few g h M is ha.3) (vertices_few h is.graph) ha.4 hb.4
    (sym (ap row_line first) ∙ e ∙ ap row_line second) in
    first ∙ ap (OfImage g.size.dim h.size.dim (vertex_at g.size.dim M.m (length M.images))) image ∙ sym second

-- two rows that may follow and have the same bytes are one
pub same_row_of : (p : Stage) (r t : Row) → IsFormed p → MayFollow p r → MayFollow p t → row_line r ≡ row_line t → r ≡ t
same_row_of Start OfTitle OfTitle formed ha hb e = refl
same_row_of Start OfTitle t formed ha hb e = absurd hb
same_row_of Titled (OfSize a) (OfSize b) formed ha hb e = ap OfSize (same_size a b ha hb e)
same_row_of Titled (OfSize a) t formed ha hb e = absurd hb
same_row_of (Listed g items) (OfEdge d a) (OfEdge d' b) formed ha hb e = next_same g d d' a b formed.drawing ha hb e
same_row_of (Listed g items) (OfEdge d a) (OfReason k why) formed ha hb e = absurd (omega (arith, ha.1, hb.0))
same_row_of (Listed g items) (OfEdge d a) (OfMap k) formed ha hb e = absurd (omega (arith, ha.1, hb.0))
same_row_of (Listed g items) (OfReason k why) (OfEdge d b) formed ha hb e = absurd (omega (arith, hb.1, ha.0))
same_row_of (Listed g items) (OfMap k) (OfEdge d b) formed ha hb e = absurd (omega (arith, hb.1, ha.0))
same_row_of (Listed g items) (OfReason k a) (OfReason l b) formed ha hb e =
    let same : k ≡ l = ha.1.0 ∙ sym hb.1.0 in
    ap (λ n. OfReason n a) same ∙ ap (OfReason l) (same_reason l a b ha.2 hb.2 (ap (λ n. reason_row n a) (sym same) ∙ e))
same_row_of (Listed g items) (OfReason k a) (OfMap l) formed ha hb e = absurd (no_reason l a (ap (λ n. reason_row n a) (hb.1.0 ∙ sym ha.1.0) ∙ e))
same_row_of (Listed g items) (OfMap k) (OfReason l b) formed ha hb e = absurd (no_reason k b (ap (λ n. reason_row n b) (ha.1.0 ∙ sym hb.1.0) ∙ sym e))
same_row_of (Listed g items) (OfMap k) (OfMap l) formed ha hb e = ap OfMap (ha.1.0 ∙ sym hb.1.0)
same_row_of (Listed g items) (OfEdge d a) t formed ha hb e = absurd hb
same_row_of (Listed g items) (OfReason k a) t formed ha hb e = absurd hb
same_row_of (Listed g items) (OfMap k) t formed ha hb e = absurd hb
same_row_of (Opened g items) (OfSize a) (OfSize b) formed ha hb e = ap OfSize (same_size a b ha hb e)
same_row_of (Opened g items) (OfSize a) t formed ha hb e = absurd hb
same_row_of (Drawn g items h) (OfEdge d a) (OfEdge d' b) formed ha hb e = next_same h d d' a b formed.1 ha hb e
same_row_of (Drawn g items h) (OfEdge d a) (OfPeriod m) formed ha hb e = absurd (omega (arith, ha.1, hb.0))
same_row_of (Drawn g items h) (OfPeriod m) (OfEdge d b) formed ha hb e = absurd (omega (arith, hb.1, ha.0))
same_row_of (Drawn g items h) (OfPeriod m) (OfPeriod n) formed ha hb e = ap OfPeriod (same_period m n ha.1.to hb.1.to e)
same_row_of (Drawn g items h) (OfEdge d a) t formed ha hb e = absurd hb
same_row_of (Drawn g items h) (OfPeriod m) t formed ha hb e = absurd hb
same_row_of (Mapped g items h M) (OfImage d b w x) (OfImage d' b' w' y) formed ha hb e = one_image g items h M d b w x d' b' w' y formed.1 ha hb e
same_row_of (Mapped g items h M) (OfImage d b w x) (OfBase c v) formed ha hb e = absurd (omega (arith, ha.3, hb.1))
same_row_of (Mapped g items h M) (OfImage d b w x) OfEnd formed ha hb e = absurd (omega (arith, ha.3, hb.0))
same_row_of (Mapped g items h M) (OfBase c v) (OfImage d b w x) formed ha hb e = absurd (omega (arith, hb.3, ha.1))
same_row_of (Mapped g items h M) OfEnd (OfImage d b w x) formed ha hb e = absurd (omega (arith, hb.3, ha.0))
same_row_of (Mapped g items h M) (OfBase c v) (OfBase c' v') formed ha hb e =
    let same : c ≡ c' = ha.0 ∙ sym hb.0 in
    ap (λ n. OfBase n v) same ∙ ap (OfBase c') (same_base c' v v' (subst (λ n. IsShift n v) same ha.3) hb.3 (ap (λ n. base_row n v) (sym same) ∙ e))
same_row_of (Mapped g items h M) (OfBase c v) OfEnd formed ha hb e = absurd (omega (arith, ha.2, hb.1))
same_row_of (Mapped g items h M) OfEnd (OfBase c v) formed ha hb e = absurd (omega (arith, hb.2, ha.1))
same_row_of (Mapped g items h M) OfEnd OfEnd formed ha hb e = refl
same_row_of (Mapped g items h M) (OfImage d b w x) t formed ha hb e = absurd hb
same_row_of (Mapped g items h M) (OfBase c v) t formed ha hb e = absurd hb
same_row_of (Mapped g items h M) OfEnd t formed ha hb e = absurd hb
same_row_of p r t formed ha hb e = absurd ha

-- Two walks of one text meet: the shorter is the beginning of the longer.

-- of two first parts of one text one goes on from the other
pub data Meet (p q : Stage) (xs ys : List Row) (rest left : List ℕ) : Type 0 where
  -- the second walk is longer
  Further : (r : Row) (others : List Row) → Walk p (r ∷ others) q → ys ≡ xs ++ r ∷ others → rest ≡ rows_text (row_lines (r ∷ others)) ++ left
      → Meet p q xs ys rest left
  -- the first is longer
  Nearer : (r : Row) (others : List Row) → Walk q (r ∷ others) p → xs ≡ ys ++ r ∷ others → left ≡ rows_text (row_lines (r ∷ others)) ++ rest
      → Meet p q xs ys rest left
  Same : p ≡ q → xs ≡ ys → rest ≡ left → Meet p q xs ys rest left

pub meet : (p q q' : Stage) (xs ys : List Row) (rest left : List ℕ) → IsFormed p → Walk p xs q → Walk p ys q'
    → rows_text (row_lines xs) ++ rest ≡ rows_text (row_lines ys) ++ left → Meet q q' xs ys rest left
meet p q q' [] [] rest left formed one two e = Same (sym one ∙ two) refl e
meet p q q' [] (t ∷ ts) rest left formed one two e = Further t ts (subst (λ o. Walk o (t ∷ ts) q') one two) refl e
meet p q q' (r ∷ rs) [] rest left formed one two e = Nearer r rs (subst (λ o. Walk o (r ∷ rs) q) two one) refl (sym e)
meet p q q' (r ∷ rs) (t ∷ ts) rest left formed one two e =
    let lines = same_row (row_line r) (row_line t) (rows_text (row_lines rs) ++ rest) (rows_text (row_lines ts) ++ left) (row_none p r formed one.0)
    (row_none p t formed two.0)
    (sym (append_assoc (row_line r) (10 ∷ rows_text (row_lines rs)) rest) ∙ e ∙ append_assoc (row_line t) (10 ∷ rows_text (row_lines ts)) left) in
    let same = same_row_of p r t formed one.0 two.0 lines.0 in
    longer r t q q' rs ts rest left same (meet (stage_with p r) q q' rs ts rest left (formed_with p r formed one.0) one.1
    (subst (λ x. Walk (stage_with p x) ts q') (sym same) two.1) lines.1)
  where
    longer : (r t : Row) (q q' : Stage) (rs ts : List Row) (rest left : List ℕ) → r ≡ t → Meet q q' rs ts rest left → Meet q q' (r ∷ rs) (t ∷ ts) rest left
    longer r t q q' rs ts rest left same (Further s others walk is tail) =
        Further s others walk (ap (λ l. t ∷ l) is ∙ ap (λ x. x ∷ (rs ++ s ∷ others)) (sym same)) tail
    longer r t q q' rs ts rest left same (Nearer s others walk is tail) = Nearer s others walk (ap (λ l. r ∷ l) is ∙ ap (λ x. x ∷ (ts ++ s ∷ others)) same) tail
    longer r t q q' rs ts rest left same (Same one is tail) = Same one (ap (λ l. r ∷ l) is ∙ ap (λ x. x ∷ ts) same) tail
