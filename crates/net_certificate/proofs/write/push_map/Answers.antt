use Rattle.std.proofs.{Common.◌++◌, Common.map, Common.ap, Common.◌∙◌, lemmas.Result.on_ok_weaker}
use Rattle.line_text.specs.Lines.{rows_text}
use Rattle.net_certificate.{specs.Rows.OfBase, specs.Rows.row_lines, proofs.WholeTexts.map_written}
use Rattle.net_certificate.proofs.write.push_map.Goals as goal

pub returns : goal.returns
returns c = on_ok_weaker c.push_shifts.result
    (λ last. map_written c.args.text.now.items c.push_period.new.text.items c.push_images.new.text.items c.push_shifts.new.text.items c.args.dim c.args.other
    c.args.map.now
    c.in_ok-push_period.ensures c.in_ok-push_images.ensures
    (last ∙ ap (λ l. c.push_images.new.text.items ++ rows_text (row_lines (map (OfBase c.args.other) l))) c.as_slice.ensures)) c.push_shifts.ensures
