use Rattle.std.proofs.Common.{◌++◌}
use Rattle.std.specs.Prelude.{codes}
use Rattle.line_text.specs.Numbers.{field_text}
use Rattle.net_report.proofs.Growing.{next_part, slice_part, three_parts}
use Rattle.net_report.proofs.headers.push_faulty.Goals as goal

pub returns : goal.returns
returns c =
    let text = c.args.text.now.items in let line = field_text (codes "malformed line=") c.args.line in let number = field_text (codes " ") c.args.number in
    let two = next_part text _ _ line number c.in_ok-push_field.ensures c.in_ok-push_field-2.ensures in
    let three = next_part text _ _ (line ++ number) (codes " ") two c.in_ok-extend_from_slice.ensures.items in
    three_parts c.extend_from_slice-3.result text _ _ _ (line ++ number ++ codes " ") c.args.kind.now (codes "\n") three
    c.in_ok-extend_from_slice-2.ensures.items (slice_part c.extend_from_slice-3.result _ _ _ c.extend_from_slice-3.ensures.items)
