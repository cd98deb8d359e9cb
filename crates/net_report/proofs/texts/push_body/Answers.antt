use Rattle.std.proofs.Common.{◌≡◌, ◌++◌, ℕ, ℤ, List, Result, ap, refl, sym, subst}
use Rattle.std.specs.Prelude.{OnOk, codes}
use Rattle.least_key.specs.{AnyNets.net_view, AnyPlacements.placed_view}
use Rattle.net_report.specs.{Headers.size_text, Identified.identified_text, Keys.key_text, Placements.placement_text, Refusals.refused_text}
use Rattle.net_report.specs.{Reports.body_text, declared.outcome.OutcomeBody.OutcomeBody}
use Rattle.net_report.proofs.Growing.{slice_part, two_parts}
use Rattle.net_report.proofs.texts.push_body.Goals as goal

-- a body that is told in two parts
told : {A E : Type 0} (r : Result A E) (text one last first second : List ℕ) (body same : OutcomeBody) → body ≡ same → body_text same ≡ first ++ second
    → one ≡ text ++ first → OnOk r (last ≡ one ++ second) → OnOk r (last ≡ text ++ body_text body)
told r text one last first second body same is e f g =
    subst (λ (b : OutcomeBody). OnOk r (last ≡ text ++ body_text b)) (sym is)
    (subst (λ (t : List ℕ). OnOk r (last ≡ text ++ t)) (sym e) (two_parts r text one last first second f g))

pub returns-in_ok-push_size-in-Refused : goal.returns-in_ok-push_size-in-Refused
returns-in_ok-push_size-in-Refused c =
    let i = c.in-Refused in
    told c.push_refused.result c.args.text.now.items _ _ (size_text i.size) (refused_text i.names i.refusal) _ _ i.is refl
    c.in_ok-push_size-in-Refused.ensures c.push_refused.ensures

pub returns-in_ok-push_size-in-Checked : goal.returns-in_ok-push_size-in-Checked
returns-in_ok-push_size-in-Checked c =
    let i = c.in-Checked in
    told c.extend_from_slice.result c.args.text.now.items _ _ (size_text i.size) (codes "connected\n") _ _ i.is refl c.in_ok-push_size-in-Checked.ensures
    (slice_part c.extend_from_slice.result _ _ _ c.extend_from_slice.ensures.items)

pub returns-in_ok-push_size-in-Located : goal.returns-in_ok-push_size-in-Located
returns-in_ok-push_size-in-Located c =
    let i = c.in-Located in
    told c.push_placement.result c.args.text.now.items _ _ (size_text i.size) (placement_text i.names (placed_view i.placed)) _ _ i.is refl
    c.in_ok-push_size-in-Located.ensures c.push_placement.ensures

pub returns-in_ok-push_size-in-Keyed : goal.returns-in_ok-push_size-in-Keyed
returns-in_ok-push_size-in-Keyed c =
    let i = c.in-Keyed in
    told c.push_key.result c.args.text.now.items _ _ (size_text i.size) (key_text c.key.result.now) _ _ i.is
    (ap (λ (xs : List ℤ). size_text i.size ++ key_text xs) (sym c.key.ensures.key))
    c.in_ok-push_size-in-Keyed.ensures c.push_key.ensures

pub returns-in_ok-push_size-in-Identified : goal.returns-in_ok-push_size-in-Identified
returns-in_ok-push_size-in-Identified c =
    let i = c.in-Identified in
    told c.push_identified.result c.args.text.now.items _ _ (size_text i.size) (identified_text i.vertices (net_view i.net) i.shells i.names) _ _ i.is refl
    c.in_ok-push_size-in-Identified.ensures c.push_identified.ensures
