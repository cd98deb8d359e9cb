use Rattle.std.proofs.{Common.IfOk, Common.sym, Common.subst, lemmas.Result.IfOk-weaker}
use Rattle.quotient_graph.specs.AnyGraphs.{graph_view}
use Rattle.net_certificate.specs.{Items.With, Items.item_view, Results.HasMapResult, Results.HasResult}
use Rattle.net_certificate.proofs.WholeTexts.{with_result}
use Rattle.net_certificate.proofs.checking.push_result.Goals as goal

pub returns-in-With : goal.returns-in-With
returns-in-With c =
    let G = graph_view c.args.first.now in let H = graph_view c.in-With.second in
    let before = c.args.text.now.items in let after = c.push_map_result.new.text.items in
    subst (λ i. IfOk c.push_map_result.result (HasResult G c.args.k (item_view i) before after)) (sym c.in-With.is)
    (IfOk-weaker c.push_map_result.result (HasMapResult G H c.in-With.map c.args.k before after) (HasResult G c.args.k (With H c.in-With.map) before after)
    (λ refused. with_result G H c.in-With.map c.args.k before after refused) c.push_map_result.ensures)
