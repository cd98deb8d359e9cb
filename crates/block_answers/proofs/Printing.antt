-- What is reported of a block can be printed: vertices, parts, faults and refusals have lines with the names of the vertices.
use Rattle.std.proofs.Common.{◌≡◌, ℕ, ◌+◌, ◌-◌, ◌<◌, List, [], ◌∷◌, ◌++◌, length, take, get_or, Some, sym, ap, ◌∙◌, ◌≤◌, All, subst, arith, ◌≢◌, inl, refl}
use Rattle.std.proofs.Common.{ℤ}
use Rattle.std.proofs.lemmas.List.{get_or_default, map-append, length-map}
use Rattle.std.{proofs.lemmas.Option.get_or_from_slice_get, proofs.lemmas.List.Elements.All-contains, specs.List.slice_get}
use Rattle.net_components.specs.Parts.{vertex_at, root_of, IsPartOf, AreParts}
use Rattle.net_components.specs.declared.fault.PartFault.TheVariants.{LowRank, WideShift, NoMemory as NoMemoryLeft}
use Rattle.net_components.{proofs.CallerLemmas.take_more, proofs.CallerLemmas.part_graph, specs.declared.parts.Part.Part}
use Rattle.net_components.{specs.declared.fault.PartFault.PartFault, specs.Faults.IsPartFault, specs.Faults.no_memory}
use Rattle.periodic_net.specs.Graph.{Graph, IsGraph, arc, Arc, IsEdge, IsQuotientVertex}
use Rattle.periodic_net.{specs.Placement.Placement, proofs.CallerLemmas.arc_inside}
use Rattle.quotient_graph.specs.{AnyGraphs.graph_view, Stars.IsInOrder}
use Rattle.integers.proofs.lists.Members.{IsIn, contains_from_in, append_right}
use Rattle.net_report.specs.declared.outcome.OutcomeBody.TheVariants.{Unsupported, Malformed, Refused, Checked, Located, Keyed, Identified, Lines}
use Rattle.net_report.specs.{Numbers.IsNamed, Reports.IsPrintableBody, Refusals.AreNamed, Refusals.HasLine, declared.outcome.OutcomeBody.OutcomeBody}
use Rattle.net_report.specs.{declared.command.Command.Command, declared.command.Command.TheVariants.Place, declared.command.Command.TheVariants.Identify}
use Rattle.barycentre.specs.declared.faults.WideSite.TheVariants.{Denominator, ArcPart, Beyond}
use Rattle.barycentre.specs.{PlaceFaults.IsWideOf, WidePlacements.IsWideAt, declared.faults.WidePlacement.WidePlacement, declared.faults.WideSite.WideSite}
use Rattle.least_key.specs.declared.refusal.Refusal.TheVariants.{NoMemory}
use Rattle.least_key.specs.{Truths.IsTrueOf, declared.refusal.Refusal.Refusal}
use Rattle.cgd_read.specs.Views.{RawView, BodyView, Net, Other, Faulty}
use Rattle.cgd_read.specs.Graphs.{graph_of}
use Rattle.archive_text.specs.Entries.{EntryView}
use Rattle.block_answers.specs.{Texts.names_of, Texts.HasFaultLine, ComponentLines.IsNamedPart, Outcomes.MayTell, Outcomes.IsBodyOf}
use Rattle.net_report.specs.declared.outcome.OutcomeBody.TheVariants.{Faulty as FaultyItem}

-- one vertex more
pub names_more : (ns : List (List ℕ)) (us : List ℕ) (i u : ℕ) → i < length us → get_or us i u ≡ u
    → names_of ns (take (i + 1) us) ≡ names_of ns (take i us) ++ get_or ns (u - 1) [] ∷ []
names_more ns us i u l at = ap (names_of ns) (take_more us i u l at) ∙ map-append (λ v. get_or ns (v - 1) []) (take i us) (u ∷ [])

-- as many names as vertices
pub names_count : (ns : List (List ℕ)) (us : List ℕ) → length (names_of ns us) ≡ length us
names_count ns us = length-map us (λ v. get_or ns (v - 1) [])

-- the same, of the name that stands at a vertex's place
pub names_at : (ns : List (List ℕ)) (us : List ℕ) (i : ℕ) (x : List ℕ) → i < length us → slice_get ns (get_or us i 0 - 1) ≡ Some x
    → names_of ns (take (i + 1) us) ≡ names_of ns (take i us) ++ x ∷ []
names_at ns us i x l e =
    names_more ns us i (get_or us i 0) l (sym (get_or_default us i 0 (get_or us i 0) l))
    ∙ ap (λ y. names_of ns (take i us) ++ y ∷ []) (get_or_from_slice_get ns (get_or us i 0 - 1) x [] e)

module _ (names : List (List ℕ)) (G : Graph) (g : IsGraph G) (count : length names ≡ G.vertices) where
  -- the part of a component
  named_part : (a : ℕ) (p : Part) → IsPartOf G a p → IsNamedPart names p
  named_part a p h = record {
    named = λ k d l.
        let e = h.count in let u = (h.part.vertices (k + 1) (omega arith, omega (arith, l, e))).vertex in
        let at = ap (λ i. get_or p.vertices i 0) (less k) ∙ get_or_default p.vertices k 0 d l in
        subst (λ v. (1 ≤ v) × (v ≤ length names)) at (u.0, subst (λ n. vertex_at p.vertices (k + 1) ≤ n) (sym count) u.1);
    count = h.count;
    few = let e = h.count in let l = h.small.vertices in omega (arith, e, l);
    is_graph = part_graph G g a h.T h.stairs (vertex_at p.vertices) (graph_view p.graph) h.part;
  }
    where
      less : (k : ℕ) → k + 1 - 1 ≡ k
      less k = omega arith

  -- so do all
  pub named_parts : (ps : List Part) → AreParts G ps → All (IsNamedPart names) ps
  named_parts ps h k d l = named_part (root_of (get_or ps k d)) (get_or ps k d) (h.each k d l)

module _ (names : List (List ℕ)) (G : Graph) (g : IsGraph G) (count : length names ≡ G.vertices) where
  -- each vertex has a name
  named_vertex : (u : ℕ) → IsQuotientVertex G u → IsNamed names u
  named_vertex u v = λ some. (v.0, subst (λ n. u ≤ n) (sym count) v.1)

  -- so the fault has a line
  pub fault_line : (fault : PartFault) → IsPartFault G fault → fault ≢ no_memory → HasFaultLine names fault
  fault_line (LowRank u c) h n = named_vertex u h.least.vertex
  fault_line (WideShift u v s c value) h n =
      let e = arc u v s in
      let i = contains_from_in G.edges e (subst (λ (es : List Arc). IsIn es e) (sym h.wide.edges)
      (append_right h.wide.before (e ∷ h.wide.after) e (inl refl))) in
      let edge = All-contains (IsEdge G) G.edges e g.edges i in
      (named_vertex u edge.from, named_vertex v edge.to)
  fault_line NoMemoryLeft h n = absurd (n refl)

  named_site : (p : Placement) (site : WideSite) (value : ℤ) → IsWideAt G p site value → AreNamed names site
  named_site p (Denominator u c) value h = named_vertex u h.2.vertex
  named_site p (Beyond at) value h = tt
  named_site p (ArcPart u v s c) value h = let i = arc_inside G g (arc u v s) h.is_arc in (named_vertex u i.from, named_vertex v i.to)

  named_wide : (w : WidePlacement) (site : WideSite) → site ≡ w.site → IsWideOf G w site → AreNamed names site
  named_wide w (Denominator u c) e h = named_site h.1.placement (Denominator u c) w.value (subst (λ s. IsWideAt G h.1.placement s w.value) (sym e) h.1.wide)
  named_wide w (ArcPart u v s c) e h = named_site h.1.placement (ArcPart u v s c) w.value (subst (λ s. IsWideAt G h.1.placement s w.value) (sym e) h.1.wide)
  named_wide w (Beyond at) e h = tt

  -- so the refusal has a line
  pub refusal_line : (refusal : Refusal) → IsTrueOf G refusal → refusal ≢ NoMemory → HasLine names refusal
  refusal_line refusal k l = grind (arith, named_wide, named_vertex)

-- a true refusal that may be reported has a line with the names of the block
line_of : (command : Command) (raw : RawView) (H : Graph) (refusal : Refusal) → IsGraph H → IsInOrder (graph_of raw) H
    → MayTell command refusal → IsTrueOf H refusal → HasLine raw.names refusal
line_of command raw H refusal g o m h = refusal_line raw.names H g (sym o.vertices) refusal h (λ e. subst (λ (r : Refusal). MayTell command r) e m)

-- what a command reports on a body can be printed
pub told_of_body : (entries : List EntryView) (command : Command) (body : BodyView) (told : OutcomeBody) → IsBodyOf entries command body told
    → IsPrintableBody told
told_of_body entries command body (Unsupported token) h = tt
told_of_body entries command body (Malformed fault) h = tt
told_of_body entries command body (Checked size) h = tt
told_of_body entries command body (Keyed size net) h = tt
told_of_body entries command body (Lines size lines) h = tt
told_of_body entries command body (FaultyItem line number kind) h = tt
told_of_body entries command (Net raw) (Refused size names refusal) h =
    subst (λ ns. HasLine ns refusal) (sym h.names_are) (line_of command raw h.graph refusal h.read.is_graph h.read.in_order h.may h.is_true)
told_of_body entries Place (Net raw) (Located size names placed) h = ap length h.names_are
    ∙ sym (ap (λ (G : Graph). G.vertices) h.placed_as.graph ∙ h.read.in_order.vertices)
told_of_body entries Identify (Net raw) (Identified size vertices net shells names) h =
    ap length h.vertices_are ∙ sym (ap (λ (G : Graph). G.vertices) h.keyed.net_is ∙ h.keyed.read.in_order.vertices)
told_of_body entries command (Net raw) told h = absurd h
told_of_body entries command (Other token) told h = absurd h
told_of_body entries command (Faulty fault) told h = absurd h
