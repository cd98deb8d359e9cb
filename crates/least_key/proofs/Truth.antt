-- What the faults of the steps report is true as a refusal, and what accepted graphs report decides of their nets.
use Rattle.std.proofs.Common.{◌≡◌, ℕ, Result, refl, subst, arith, ◌∙◌, sym, ap, zero, suc, ◌+◌, ◌<◌, List, [], ◌∷◌, ◌++◌, length, take, Ok}
use Rattle.std.specs.Prelude.{IfErr, IsErrAnd, ◌↔◌, slice_index_or}
use Rattle.std.{specs.List.AllZip, proofs.Math.ListN.get_or, proofs.lemmas.List.take_more}
use Rattle.periodic_net.specs.{Classes.ClassGraph, Graph.Graph, Maps.BareIso, Maps.Iso}
use Rattle.key_theory.specs.{Frames.IsWorkPast, Key.Shape, Key.IsKeyOf, Laws.KeysDecideBy}
use Rattle.key_theory.proofs.CallerLemmas.{keys_decide, keys_decide_bare}
use Rattle.quotient_graph.specs.NetClasses.{NetClasses, AreClasses, class_at}
use Rattle.quotient_graph.specs.{PlacedNets.PlacedNet, AnyGraphs.graph_view, declared.any_graph.AnyGraph.AnyGraph}
use Rattle.edge_frames.specs.declared.work.KeyWork.{KeyWork}
use Rattle.connected_dim.specs.{declared.connectedness.Unconnected.TheVariants.NoMemory, Refusals.IsRefused, declared.connectedness.Unconnected.Unconnected}
use Rattle.least_key.specs.Answers.{IsAnswerTo, AreAnswers, KeysTell}
use Rattle.least_key.specs.{Causes.unconnected_refusal, Causes.work_refusal, Truths.HasTooMuchWork, Truths.IsTrueOf, Placings.IsSettledAs, AnyNets.net_view}
use Rattle.least_key.specs.{KeyedNets.KeyedNet, KeyedNets.IsKeyed, declared.net.Net.Net, declared.refusal.Refusal.Refusal}
use Rattle.edge_frames.specs.declared.work.KeyWork.TheVariants as work

-- if the net is not connected
pub unconnected_true : {D : ℕ} (G : Graph) (u : Unconnected D) → IsRefused G u → IsTrueOf G (unconnected_refusal u)
unconnected_true G (NoMemory graph) h = tt
unconnected_true G u h = h.1

-- the shape of a net, from its classes in memory
abbrev pub shape_of : (n : NetClasses) → AreClasses n → Shape n.graph
shape_of n h = record { placement = h.placement; stable = h.at.stable; class_of = class_at n.numbers; classes = n.classes; is_classes = h.at.is_classes }

-- if the key work of its class graph is past the limit
too_much : (G : Graph) (p : PlacedNet) → IsSettledAs G p → (n : NetClasses) → AreClasses n → n.graph ≡ G → (done counted : ℕ)
    → IsWorkPast n.classes done counted → HasTooMuchWork G done counted
too_much G p settled n h e done counted w =
    let pair = subst (λ (H : Graph). (t : Shape H) × IsWorkPast t.classes done counted) e (shape_of n h, w) in
    record { net = p; settled = settled; shape = pair.0; past = pair.1 }

-- if the key work is not counted
pub work_true : (G : Graph) (p : PlacedNet) → IsSettledAs G p → (n : NetClasses) → AreClasses n → n.graph ≡ G → (K : ClassGraph) → K ≡ n.classes
    → (fault : KeyWork)
    → ((done counted : ℕ) → fault ≡ work.TooMuch done counted → IsWorkPast K done counted) → IsTrueOf G (work_refusal fault)
work_true G p settled n h e K k (work.TooMuch done counted) past =
    too_much G p settled n h e done counted (subst (λ (L : ClassGraph). IsWorkPast L done counted) k (past done counted refl))
work_true G p settled n h e K k work.NoMemory past = tt

-- an error that is known has what holds of it
pub known_error : {A E : Type 0} (P : E → Type 0) (x : E) (r : Result A E) → IsErrAnd r (λ e. e ≡ x) → P x → IfErr r P
known_error P x r k l = search arith

-- Accepted graphs have equal keys if and only if their nets are isomorphic.

-- the key of a keyed net is the key of its graph
pub key_of_graph : (n : KeyedNet) → IsKeyed n → IsKeyOf n.placed.graph n.key
key_of_graph n h =
    subst (λ (G : Graph). IsKeyOf G n.key) h.same_graph
    (record { shape = shape_of n.classes (record { placement = n.placed.placement; at = h.classes }); least = h.key })

-- the keys of two keyed nets are equal if and only if the nets are the same in this sense
pub nets_decide : (Same : Graph → Graph → Type 0) → KeysDecideBy Same → (m n : KeyedNet) → IsKeyed m → IsKeyed n
    → (m.key ≡ n.key) ↔ Same m.placed.graph n.placed.graph
nets_decide Same decide m n h k = decide m.placed.graph n.placed.graph m.key n.key h.is_graph k.is_graph (key_of_graph m h) (key_of_graph n k)

-- one pair more
zip_more : {A B : Type 0} (R : A → B → Type 0) (xs : List A) (ys : List B) (x : A) (y : B) → AllZip R xs ys → R x y → AllZip R (xs ++ x ∷ []) (ys ++ y ∷ [])
zip_more R [] [] x y h r = (r, tt)
zip_more R (w ∷ xs) (z ∷ ys) x y h r = (h.0, zip_more R xs ys x y h.1 r)
zip_more R xs ys x y h r = absurd h

-- one answer more
pub answers_more : (graphs : List AnyGraph) (answers : List (Result Net Refusal)) (i : ℕ) (g : AnyGraph) (r : Result Net Refusal) → i < length graphs
    → g ≡ get_or graphs i g
    → AreAnswers (take i graphs) answers → IsAnswerTo g r → AreAnswers (take (i + 1) graphs) (answers ++ r ∷ [])
answers_more graphs answers i g r l e h k =
    let longer : take (i + 1) graphs ≡ take i graphs ++ g ∷ [] = take_more graphs i g l ∙ ap (λ (x : AnyGraph). take i graphs ++ x ∷ []) (sym e) in
    subst (λ (gs : List AnyGraph). AreAnswers gs (answers ++ r ∷ [])) (sym longer) (zip_more IsAnswerTo (take i graphs) answers g r h k)

-- the answer at a place
answer_at : (graphs : List AnyGraph) (answers : List (Result Net Refusal)) → AreAnswers graphs answers → (i : ℕ) (g : AnyGraph) (r : Result Net Refusal)
    → i < length graphs → slice_index_or graphs i g ≡ g → slice_index_or answers i r ≡ r → IsAnswerTo g r
answer_at [] answers h i g r l e f = absurd (omega (arith, l))
answer_at (x ∷ graphs) [] h i g r l e f = absurd h
answer_at (x ∷ graphs) (y ∷ answers) h zero g r l e f = subst (IsAnswerTo g) f (subst (λ (a : AnyGraph). IsAnswerTo a y) e h.0)
answer_at (x ∷ graphs) (y ∷ answers) h (suc i) g r l e f = answer_at graphs answers h.1 i g r (omega (arith, l)) e f

-- the keys of accepted graphs
keys_tell_by : (Same : Graph → Graph → Type 0) → KeysDecideBy Same → (graphs : List AnyGraph) (answers : List (Result Net Refusal))
    → AreAnswers graphs answers → KeysTell Same graphs answers
keys_tell_by Same decide graphs answers a i j g h m n k l =
    let p = answer_at graphs answers a i g (Ok m) k.inside k.graph k.answer in
    let q = answer_at graphs answers a j h (Ok n) l.inside l.graph l.answer in
    subst (λ (H : Graph). ((net_view m).key ≡ (net_view n).key) ↔ Same (graph_view g) H) q.0
    (subst (λ (G : Graph). ((net_view m).key ≡ (net_view n).key) ↔ Same G (net_view n).placed.graph) p.0
    (nets_decide Same decide (net_view m) (net_view n) p.1 q.1))

-- decide by bijections with a period
pub keys_tell : (graphs : List AnyGraph) (answers : List (Result Net Refusal)) → AreAnswers graphs answers → KeysTell Iso graphs answers
keys_tell = keys_tell_by Iso keys_decide

-- and by any
pub keys_tell_bare : (graphs : List AnyGraph) (answers : List (Result Net Refusal)) → AreAnswers graphs answers → KeysTell BareIso graphs answers
keys_tell_bare = keys_tell_by BareIso keys_decide_bare
