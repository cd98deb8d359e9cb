-- Of `sequences`: what `box_sequences` requires; the clauses `sequences` and `few`.
use Rattle.std.proofs.Common.{◌≤◌, List, ℕ, ap, subst, sym, ◌∙◌, lit<}
use Rattle.std.specs.Prelude.{Option, IfSome}
use Rattle.periodic_net.specs.{Classes.ClassGraph, Limits.most_vertices}
use Rattle.coordination.specs.BoxSearches.{AreListsOf}
use Rattle.coordination.proofs.ClassShells.{shell_kinds, cell_divides, cell_sequences, same_count}
use Rattle.coordination.proofs.all_classes.sequences.Goals as goal

pub box_sequences-requires : goal.box_sequences-requires
box_sequences-requires g c =
    let count = same_count c.args.classes.now c.args.cell.now c.net.ensures.is_graph c.requires.cell c.net.ensures.classes in
    let classes = ap (λ (K : ClassGraph). K.count) c.net.ensures.net in
    let few = subst (λ n. n ≤ most_vertices) (classes ∙ sym count) c.recall.ensures.small.few in
    let kinds = shell_kinds c.args.classes.now c.args.cell.now c.net.ensures.is_graph c.requires.cell c.net.ensures.classes c.args.kinds.now c.requires.kinds in
    (lit< tt, ((cell_divides c.args.classes.now c.args.cell.now c.net.ensures.is_graph c.requires.cell).is_graph, (few, kinds)))

pub returns-in-Some-clause-sequences : goal.returns-in-Some-clause-sequences
returns-in-Some-clause-sequences g c =
    let lists = subst (λ (o : Option (List (List ℕ))). IfSome o (AreListsOf c.args.cell.now.graph)) c.in-Some.is c.in_ok-lists.ensures in
    cell_sequences c.args.classes.now c.args.cell.now c.net.ensures.is_graph c.requires.cell c.net.ensures.classes c.in-Some.lists lists

pub returns-in-Some-clause-few : goal.returns-in-Some-clause-few
returns-in-Some-clause-few g c =
    let lists = subst (λ (o : Option (List (List ℕ))). IfSome o (AreListsOf c.args.cell.now.graph)) c.in-Some.is c.in_ok-lists.ensures in
    let count = same_count c.args.classes.now c.args.cell.now c.net.ensures.is_graph c.requires.cell c.net.ensures.classes in
    let classes = ap (λ (K : ClassGraph). K.count) c.net.ensures.net in
    subst (λ n. n ≤ most_vertices) (classes ∙ sym count ∙ sym lists.count) c.recall.ensures.small.few
