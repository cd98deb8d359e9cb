use Rattle.std.proofs.Common.{◌-◌, ◌++◌, ◌∙◌, ℕ, List, [], ◌∷◌, length, map, take, drop, sym, ap, subst}
use Rattle.line_text.specs.Lines.{rows_text}
use Rattle.least_key.specs.{AnyNets.net_view, KeyedNets.KeyedNet}
use Rattle.net_certificate.{specs.Rows.title_row, specs.NetItems.IsMapsTextOf, proofs.WholeTexts.first_and_others, proofs.WholeTexts.maps_written}
use Rattle.net_certificate.proofs.items.maps_text_of.Goals as goal

pub returns : goal.returns
returns g c =
    let f = g.T.LendsNet.net in let lenders = c.args.nets.now in
    let others = map f (take (length lenders - 1) (drop 1 lenders)) in
    let title = c.in_ok-push_title.ensures ∙ ap (λ (l : List ℕ). l ++ rows_text (title_row ∷ [])) c.new-text.ensures.items in
    let text = c.push_maps.new.text.items in
    let written = maps_written (net_view c.net-first.result.now) others c.push_title.new.text.items c.push_net.new.text.items text title
    c.in_ok-push_net.ensures c.in_ok-push_maps.ensures in
    subst (λ (nets : List KeyedNet). IsMapsTextOf nets text) (sym (first_and_others f lenders c.lender-item.result c.in-len1-up.len_at_least c.lender-item.is))
    (subst (λ (first : KeyedNet). IsMapsTextOf (first ∷ others) text) c.net-first.ensures written)
