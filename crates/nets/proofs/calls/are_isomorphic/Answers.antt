-- Of `are_isomorphic`: both clauses, from the keys.
use Rattle.std.proofs.{Common.sym, Common.◌∙◌, lemmas.Slice.Eq.slice_eq-Decides, lemmas.Bool.Decides.Decides-int_eq}
use Rattle.periodic_net.specs.Maps.{BareIso, Iso}
use Rattle.key_theory.proofs.CallerLemmas.{keys_decide, keys_decide_bare}
use Rattle.least_key.{specs.AnyNets.net_view, proofs.CallerLemmas.nets_decide}
use Rattle.nets.proofs.calls.are_isomorphic.Goals as goal

pub returns-clause-isomorphic : goal.returns-clause-isomorphic
returns-clause-isomorphic c =
    let same = slice_eq-Decides Decides-int_eq c.numbers.result.now c.numbers-2.result.now c.eq.result c.eq.ensures in
    let decide = nets_decide Iso keys_decide (net_view c.args.a.now) (net_view c.args.b.now) c.key.ensures.keyed c.key-2.ensures.keyed in
    let left = sym c.key.ensures.key ∙ sym c.numbers.ensures in
    let right = c.numbers-2.ensures ∙ c.key-2.ensures.key in
    ((λ t. decide.0 (left ∙ same.0 t ∙ right)), (λ iso. same.1 (sym left ∙ decide.1 iso ∙ sym right)))

pub returns-clause-bare : goal.returns-clause-bare
returns-clause-bare c =
    let same = slice_eq-Decides Decides-int_eq c.numbers.result.now c.numbers-2.result.now c.eq.result c.eq.ensures in
    let decide = nets_decide BareIso keys_decide_bare (net_view c.args.a.now) (net_view c.args.b.now) c.key.ensures.keyed c.key-2.ensures.keyed in
    let left = sym c.key.ensures.key ∙ sym c.numbers.ensures in
    let right = c.numbers-2.ensures ∙ c.key-2.ensures.key in
    ((λ t. decide.0 (left ∙ same.0 t ∙ right)), (λ iso. same.1 (sym left ∙ decide.1 iso ∙ sym right)))
