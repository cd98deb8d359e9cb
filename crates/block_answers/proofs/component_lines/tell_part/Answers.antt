use Rattle.std.proofs.Common.{◌≤◌, ◌++◌, ℕ, ℤ, List, length, All, Ok, Err, ap, refl, sym, subst, ◌∙◌}
use Rattle.std.proofs.lemmas.List.{append_assoc}
use Rattle.net_report.specs.{Keys.key_text, Refusals.HasLine, Refusals.refused_text}
use Rattle.periodic_net.specs.Graph.{Graph}
use Rattle.quotient_graph.specs.AnyGraphs.{graph_view}
use Rattle.least_key.specs.{AnyNets.net_view, Truths.IsTrueOf}
use Rattle.block_answers.{specs.Texts.names_of, specs.Texts.part_line, proofs.Printing.names_count, proofs.Printing.refusal_line}
use Rattle.block_answers.proofs.component_lines.tell_part.Goals as goal

pub push_refusal-pushed-requires-clause-named : goal.push_refusal-pushed-requires-clause-named
push_refusal-pushed-requires-clause-named c = subst (λ (us : List ℕ). All (λ u. (1 ≤ u) × (u ≤ length c.args.names.now)) us)
    (sym c.as_slice.ensures) c.requires.named

pub push_refusal-pushed-requires-clause-line : goal.push_refusal-pushed-requires-clause-line
push_refusal-pushed-requires-clause-line c =
    let names = c.args.names.now in let p = c.args.part.now in
    subst (λ (us : List ℕ). HasLine (names_of names us) c.in-Err.refusal) (sym c.as_slice.ensures)
    (refusal_line (names_of names p.vertices) (graph_view p.graph) c.requires.is_graph (names_count names p.vertices ∙ c.requires.count) c.in-Err.refusal
    (subst (λ (H : Graph). IsTrueOf H c.in-Err.refusal) c.in_ok-copy.ensures.graph c.in-Err.ensures.refused) (c.is_told.ensures c.if-not-is_told.false))

pub returns-in_ok-pushed-in-Ok : goal.returns-in_ok-pushed-in-Ok
returns-in_ok-pushed-in-Ok c =
    let p = c.args.part.now in let key = key_text (net_view c.in-Ok.net).key in
    let line = c.in_ok-push_part_line.ensures ∙ ap (λ n. c.args.text.now.items ++ part_line c.args.number n p.copies) c.len.ensures in
    record {
      answer = Ok c.in-Ok.net;
      is_answer = (c.in-Ok.ensures.graph ∙ c.in_ok-copy.ensures.graph, c.in-Ok.ensures.keyed);
      keyed_is = refl;
      text = c.in_ok-pushed-in-Ok.ensures ∙ ap (λ (xs : List ℤ). c.push_part_line.new.text.items ++ key_text xs) c.key.ensures.key
          ∙ ap (λ (t : List ℕ). t ++ key) line ∙ append_assoc c.args.text.now.items (part_line c.args.number (length p.vertices) p.copies) key;
    }

pub returns-in_ok-pushed-in-Err : goal.returns-in_ok-pushed-in-Err
returns-in_ok-pushed-in-Err c =
    let p = c.args.part.now in let refusal = c.in-Err.refusal in
    let refused = λ (us : List ℕ). refused_text (names_of c.args.names.now us) refusal in
    let line = c.in_ok-push_part_line.ensures ∙ ap (λ n. c.args.text.now.items ++ part_line c.args.number n p.copies) c.len.ensures in
    record {
      answer = Err refusal;
      is_answer = (subst (λ (H : Graph). IsTrueOf H refusal) c.in_ok-copy.ensures.graph c.in-Err.ensures.refused, c.is_told.ensures c.if-not-is_told.false);
      keyed_is = refl;
      text = c.in_ok-pushed-in-Err.ensures ∙ ap (λ (us : List ℕ). c.push_part_line.new.text.items ++ refused us) c.as_slice.ensures
          ∙ ap (λ (t : List ℕ). t ++ refused p.vertices) line
          ∙ append_assoc c.args.text.now.items (part_line c.args.number (length p.vertices) p.copies) (refused p.vertices);
    }
