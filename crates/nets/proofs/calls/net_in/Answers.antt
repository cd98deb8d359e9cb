use Rattle.std.proofs.Common.{Some, rules}
use Rattle.cgd_read.specs.Views.{raw_view}
use Rattle.nets.{specs.Texts.IsFirstIn, proofs.TextFaults.refused_in}
use Rattle.nets.proofs.calls.net_in.Goals as goal

pub returns-in_err-net-clause-fault : goal.returns-in_err-net-clause-fault
returns-in_err-net-clause-fault c =
    let raw = raw_view c.in-Some.raw.now in let first : IsFirstIn c.args.text.now (Some raw) = search rules in
    refused_in c.from_residual-in_err-net.result c.args.text.now raw c.in_err-net.field-0.0 first c.in_err-net.ensures.refused
    c.from_residual-in_err-net.ensures.1

pub returns-clause-net : goal.returns-clause-net
returns-clause-net c =
    let raw = raw_view c.in-Some.raw.now in let first : IsFirstIn c.args.text.now (Some raw) = search rules in
    record { raw = raw; first = first; in_order = c.in_ok-net.ensures.net }
