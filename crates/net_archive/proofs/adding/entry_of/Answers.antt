-- Of `entry_of`: the clause `is_entry`.
use Rattle.std.proofs.Common.{◌∙◌, sym, subst}
use Rattle.periodic_net.specs.Graph.{Graph}
use Rattle.coordination.specs.Sequences.{AreSequencesOf}
use Rattle.quotient_graph.specs.AnyGraphs.{graph_view}
use Rattle.least_key.specs.AnyNets.{net_view}
use Rattle.archive_text.specs.Entries.{EntryView}
use Rattle.net_archive.{specs.Adding.IsEntryOf, proofs.NewEntry.entry_of_net}
use Rattle.net_archive.proofs.adding.entry_of.Goals as goal

pub returns-clause-is_entry : goal.returns-clause-is_entry
returns-clause-is_entry c named =
    let graph = c.in_ok-graph.ensures in let key = c.in_ok-key.ensures in
    let shells = c.in_ok-shells.ensures in
    let e : EntryView = record {
      name = c.in_ok-name.name.items;
      graph = graph_view c.in_ok-graph.graph;
      key = c.in_ok-key.key;
      shells =
          c.in_ok-shells.shells;
    } in
    let of : IsEntryOf c.args.name.now (net_view c.args.net.now) e = record {
      name_is = c.in_ok-name.ensures.items;
      graph = graph.graph;
      key = key.same ∙ c.key.ensures.key;
      shells = subst (λ (G : Graph). AreSequencesOf G e.shells) (sym graph.graph) shells.sequences;
    } in
    entry_of_net c.args.name.now (net_view c.args.net.now) e named c.key.ensures.keyed of graph.small graph.rising key.wide
