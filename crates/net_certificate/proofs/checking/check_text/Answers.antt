-- Of `check_text`: what it ensures; what `check_items` requires. `begun` says where the lines stand after the first graph.
use Rattle.std.proofs.Common.{None, [], refl}
use Rattle.quotient_graph.specs.{AnyGraphs.graph_view}
use Rattle.line_text.{specs.Faults.IfBadLine, proofs.CallerLemmas.handed_on, proofs.CallerLemmas.result_from}
use Rattle.net_certificate.specs.Reading.{IsBegun, HasBadLine}
use Rattle.net_certificate.specs.Stages.{Titled, Listed, drawing_of}
use Rattle.net_certificate.{specs.Texts.most_bytes, specs.Checks.AreAll, specs.Checks.IsChecked, proofs.checking.check_text.Goals.In-Some}
use Rattle.net_certificate.proofs.Places.{at_begin, left_few, none_begun, some_begun}
use Rattle.net_certificate.{proofs.WholeTexts.text_said, proofs.WholeTexts.all_checked}
use Rattle.net_certificate.proofs.checking.check_text.Goals as goal

begun : (c : In-Some) → IsBegun (graph_view c.in-Some.first) c.args.text.now c.read_first.new.lines
begun c = some_begun c.args.text.now c.new-lines.result _ c.new-lines.ensures.rest c.new-lines.ensures.number _ _ c.in-Some.is c.in_ok-first.ensures.first

pub returns-in_default : goal.returns-in_default
returns-in_default c =
    let text = c.args.text.now in let place = c.read_first.new.lines in
    let has = none_begun text c.new-lines.result place c.new-lines.ensures.rest c.new-lines.ensures.number _ c.in_default.is c.in_ok-first.ensures.first in
    record { maps = None; is = text_said text Titled place has.at tt has.none; tells = (c.new-text.ensures.items, refl) }

pub returns-in_err-first : goal.returns-in_err-first
returns-in_err-first c =
    let text = c.args.text.now in
    let opened = at_begin text c.new-lines.result c.new-lines.ensures.rest c.new-lines.ensures.number in
    handed_on (IsChecked text) (HasBadLine text) c.in_err-first.field-0.0 c.from_residual.result c.from_residual.ensures.1
    (c.in_err-first.ensures.first text opened)

pub check_items-requires-clause-begun : goal.check_items-requires-clause-begun
check_items-requires-clause-begun c = (c.args.text.now, begun (goal.at.check_items-requires-clause-begun c).In-Some)

pub check_items-requires-clause-few : goal.check_items-requires-clause-few
check_items-requires-clause-few c =
    left_few c.args.text.now (Listed (drawing_of (graph_view c.in-Some.first)) []) c.read_first.new.lines most_bytes
    (begun (goal.at.check_items-requires-clause-few c).In-Some) c.requires

pub returns : goal.returns
returns c =
    let text = c.args.text.now in let G = graph_view c.in-Some.first in
    result_from c.check_items.result (AreAll text G c.check_items.new.lines) (IsChecked text) (IfBadLine (HasBadLine text)) (IfBadLine (HasBadLine text))
    (all_checked text G c.check_items.new.lines) (λ fault bad. bad) (c.check_items.ensures text (begun (goal.at.returns c).In-Some))
