-- Of `read`: the clauses `read` and `every`; what `read_items` requires. `begun` says where the lines stand after the first graph.
use Rattle.std.proofs.Common.{◌≡◌, ℕ, List, Option, None, Some, [], refl}
use Rattle.quotient_graph.specs.{AnyGraphs.graph_view}
use Rattle.line_text.{specs.Faults.IfBadLine, specs.declared.faults.RowFault.RowFault, proofs.CallerLemmas.bad_line_from}
use Rattle.line_text.{proofs.CallerLemmas.handed_on}
use Rattle.net_certificate.specs.Items.{Maps, item_views, maps_in}
use Rattle.net_certificate.specs.Reading.{IsBegun, IsTextOf, HasBadLine}
use Rattle.net_certificate.specs.Stages.{Titled, Listed, drawing_of}
use Rattle.net_certificate.proofs.WholeTexts.{text_said, one_text, no_fault}
use Rattle.net_certificate.proofs.Places.{at_begin, left_few, none_begun, some_begun}
use Rattle.net_certificate.{specs.declared.items.MapsText.MapsText, specs.Texts.most_bytes, proofs.reading.read.Goals.In-Some}
use Rattle.net_certificate.proofs.reading.read.Goals as goal

begun : (c : In-Some) → IsBegun (graph_view c.in-Some.first) c.args.text.now c.read_first.new.lines
begun c = some_begun c.args.text.now c.new-lines.result _ c.new-lines.ensures.rest c.new-lines.ensures.number _ _ c.in-Some.is c.in_ok-first.ensures.first

-- if a line is bad, the text is that of no maps
none_told : (text : List ℕ) (maps : Option Maps) → IsTextOf text maps → (fault : RowFault) → IfBadLine (HasBadLine text) fault → IfBadLine (λ (n : ℕ). ⊥) fault
none_told text maps said fault bad = bad_line_from fault (HasBadLine text) (λ (n : ℕ). ⊥) (λ n b. no_fault text maps n said b) bad

pub returns-in_default-clause-read : goal.returns-in_default-clause-read
returns-in_default-clause-read c =
    let text = c.args.text.now in let place = c.read_first.new.lines in
    let has = none_begun text c.new-lines.result place c.new-lines.ensures.rest c.new-lines.ensures.number _ c.in_default.is c.in_ok-first.ensures.first in
    text_said text Titled place has.at tt has.none

pub returns-in_default-clause-every : goal.returns-in_default-clause-every
returns-in_default-clause-every c = λ maps said. one_text c.args.text.now None maps (returns-in_default-clause-read c) said

pub returns-in_err-first-clause-read : goal.returns-in_err-first-clause-read
returns-in_err-first-clause-read c =
    let text = c.args.text.now in
    let opened = at_begin text c.new-lines.result c.new-lines.ensures.rest c.new-lines.ensures.number in
    handed_on (λ (maps : Option MapsText). IsTextOf text (maps_in maps)) (HasBadLine text) c.in_err-first.field-0.0 c.from_residual.result
    c.from_residual.ensures.1 (c.in_err-first.ensures.first text opened)

pub returns-in_err-first-clause-every : goal.returns-in_err-first-clause-every
returns-in_err-first-clause-every c = λ maps said.
    let text = c.args.text.now in let fault = c.in_err-first.field-0.0 in
    let opened = at_begin text c.new-lines.result c.new-lines.ensures.rest c.new-lines.ensures.number in
    handed_on (λ (found : Option MapsText). maps_in found ≡ maps) (λ (n : ℕ). ⊥) fault c.from_residual.result c.from_residual.ensures.1
    (none_told text maps said fault (c.in_err-first.ensures.first text opened))

pub read_items-requires-clause-begun : goal.read_items-requires-clause-begun
read_items-requires-clause-begun c = (c.args.text.now, begun (goal.at.read_items-requires-clause-begun c).In-Some)

pub read_items-requires-clause-few : goal.read_items-requires-clause-few
read_items-requires-clause-few c =
    left_few c.args.text.now (Listed (drawing_of (graph_view c.in-Some.first)) []) c.read_first.new.lines most_bytes
    (begun (goal.at.read_items-requires-clause-few c).In-Some) c.requires

pub returns-clause-read : goal.returns-clause-read
returns-clause-read c =
    let text = c.args.text.now in
    let has = c.in_ok-items.ensures text (begun (goal.at.returns-clause-read c).In-Some) in
    text_said text (Listed (drawing_of (graph_view c.in-Some.first)) (item_views c.in_ok-items.items)) c.read_items.new.lines has.at refl has.none

pub returns-clause-every : goal.returns-clause-every
returns-clause-every c = λ maps said.
    one_text c.args.text.now (Some (record { first = graph_view c.in-Some.first; items = item_views c.in_ok-items.items })) maps (returns-clause-read c) said

pub returns-in_err-items-clause-read : goal.returns-in_err-items-clause-read
returns-in_err-items-clause-read c =
    let text = c.args.text.now in
    handed_on (λ (maps : Option MapsText). IsTextOf text (maps_in maps)) (HasBadLine text) c.in_err-items.field-0.0 c.from_residual-in_err-items.result
    c.from_residual-in_err-items.ensures.1 (c.in_err-items.ensures text (begun (goal.at.returns-in_err-items-clause-read c).In-Some))

pub returns-in_err-items-clause-every : goal.returns-in_err-items-clause-every
returns-in_err-items-clause-every c = λ maps said.
    let text = c.args.text.now in let fault = c.in_err-items.field-0.0 in
    handed_on (λ (found : Option MapsText). maps_in found ≡ maps) (λ (n : ℕ). ⊥) fault c.from_residual-in_err-items.result
    c.from_residual-in_err-items.ensures.1
    (none_told text maps said fault (c.in_err-items.ensures text (begun (goal.at.returns-in_err-items-clause-every c).In-Some)))
