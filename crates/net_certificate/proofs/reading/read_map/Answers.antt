-- Of `read_map`: what it ensures. `begun` says where the lines stand after the period.
use Rattle.std.proofs.Common.{◌≡◌, ℕ, List, [], ◌∷◌, ◌++◌, length}
use Rattle.periodic_net.specs.Graph.{Arc}
use Rattle.line_text.{specs.Lines.IsAt, proofs.CallerLemmas.at_some, proofs.CallerLemmas.handed_on}
use Rattle.net_certificate.specs.Reading.{IsIn, HasMap, HasBadLine}
use Rattle.net_certificate.specs.Stages.{Drawn, Mapped, drawing, begun_map}
use Rattle.net_certificate.specs.{Items.ItemView, Items.IsPeriod, Rows.OfPeriod, Rows.period_row}
use Rattle.net_certificate.proofs.{Places.row_in, reading.read_map.Goals.In-Some}
use Rattle.net_certificate.proofs.reading.read_map.Goals as goal

begun : (c : In-Some) (text : List ℕ) (items : List ItemView) (edges others : List Arc)
    → let g = drawing c.args.first.now edges in let h = drawing c.args.second.now others in length others ≡ c.args.second.now.edges
    → IsIn text (Drawn g items h) c.args.lines.now → IsIn text (Mapped g items h (begun_map c.in-Some.m)) c.next_period.new.lines
begun c text items edges others whole is =
    let s = c.args.first.now in let m = c.in-Some.m in
    row_in text (Drawn (drawing s edges) items (drawing c.args.second.now others)) (OfPeriod m) c.args.lines.now c.next_period.new.lines is
    (whole, at_some c.in_ok-m.field-0 (IsPeriod s) m c.in-Some.is c.in_ok-m.ensures.form)
    (λ rows at. at_some c.in_ok-m.field-0 (λ (k : ℕ). IsAt text (rows ++ period_row k ∷ []) c.next_period.new.lines) m c.in-Some.is
    (c.in_ok-m.ensures.place text rows at))

pub returns-in_err-images : goal.returns-in_err-images
returns-in_err-images c = λ text items edges others whole is.
    let has = HasMap text (drawing c.args.first.now edges) items (drawing c.args.second.now others) c.read_images.new.lines in
    handed_on has (HasBadLine text) c.in_err-images.field-0.0 c.from_residual-in_err-images.result c.from_residual-in_err-images.ensures.1
    (c.in_err-images.ensures.images text items edges others (begun (goal.at.returns-in_err-images c).In-Some text items edges others whole is))

pub returns-in_err-base : goal.returns-in_err-base
returns-in_err-base c = λ text items edges others whole is.
    let has = HasMap text (drawing c.args.first.now edges) items (drawing c.args.second.now others) c.read_shifts.new.lines in
    let imaged = c.in_ok-images.ensures.images text items edges others (begun (goal.at.returns-in_err-base c).In-Some text items edges others whole is) in
    handed_on has (HasBadLine text) c.in_err-base.field-0.0 c.from_residual-in_err-base.result c.from_residual-in_err-base.ensures.1
    (c.in_err-base.ensures.shifts text items edges others c.in-Some.m c.in_ok-images.images c.in_ok-images.ensures.count imaged)

pub returns : goal.returns
returns c = λ text items edges others whole is.
    let imaged = c.in_ok-images.ensures.images text items edges others (begun (goal.at.returns c).In-Some text items edges others whole is) in
    record {
      at = c.in_ok-base.ensures.shifts text items edges others c.in-Some.m c.in_ok-images.images c.in_ok-images.ensures.count imaged;
      images = c.in_ok-images.ensures.count;
      base = c.in_ok-base.ensures.count;
    }
