-- Of `same_blocks`: what `maps_text_of` requires; what it ensures.
use Rattle.std.proofs.Common.{◌≡◌, ◌∙◌, Bor, List, [], length, map, sym, ap, subst, arith}
use Rattle.std.proofs.lemmas.List.{length-map}
use Rattle.cgd_read.specs.Views.{block_view, views}
use Rattle.least_key.specs.{AnyNets.net_view, KeyedNets.KeyedNet, declared.net.Net.Net as NetInMemory}
use Rattle.net_certificate.specs.NetItems.{IsMapsTextOf}
use Rattle.map_answers.{specs.Steps.nets_told, proofs.Sameness.as_many, proofs.Sameness.nets_of_blocks}
use Rattle.map_answers.proofs.answers.same_blocks.Goals as goal

pub maps_text_of-requires : goal.maps_text_of-requires
maps_text_of-requires c =
    let os = c.in_ok-keyed.keyed.outcomes in let each = c.in_ok-keyed.ensures.outcomes.each in
    let many = as_many [] 1 (views c.args.found.now) os each in
    let long = length-map c.args.found.now block_view in let few = c.requires.few in
    let slice : length c.as_slice.result.now ≡ length os = ap length c.as_slice.ensures in
    let told = c.in_ok-nets.ensures.few in
    let nets : length c.as_slice-2.result.now ≡ length c.in_ok-nets.nets.items = ap length c.as_slice-2.ensures.value in
    record { few = omega (arith, many, long, few, slice, told, nets) }

pub returns : goal.returns
returns c =
    let os = c.in_ok-keyed.keyed.outcomes in let each = c.in_ok-keyed.ensures.outcomes.each in
    let nets : map (λ (n : Bor NetInMemory). net_view n.now) c.as_slice-2.result.now ≡ nets_told os =
    ap (map (λ (n : Bor NetInMemory). net_view n.now)) c.as_slice-2.ensures.value ∙ c.in_ok-nets.ensures.nets ∙ ap nets_told c.as_slice.ensures in
    record {
      nets = nets_told os;
      are_nets = nets_of_blocks [] 1 c.args.found.now os c.requires.graphs each (sym c.if-not-are_accepted.ensures);
      told = subst (λ (ns : List KeyedNet). IsMapsTextOf ns c.in_ok-maps_text_of.field-0.items) nets c.in_ok-maps_text_of.ensures;
    }
