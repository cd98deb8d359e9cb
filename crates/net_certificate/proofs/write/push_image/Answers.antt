use Rattle.std.proofs.{Common.◌++◌, Common.ap, Common.◌∙◌, lemmas.Result.on_ok_weaker}
use Rattle.periodic_net.specs.Graph.{Vertex}
use Rattle.line_text.specs.Numbers.{numbers_text}
use Rattle.net_certificate.{specs.Rows.vertex_numbers, proofs.WholeTexts.image_written}
use Rattle.net_certificate.proofs.write.push_image.Goals as goal

pub returns : goal.returns
returns c =
    let word = c.extend_from_slice.new.self.items in
    let first = c.in_ok-push_vertex.ensures ∙ ap (λ (v : Vertex). word ++ numbers_text (vertex_numbers c.args.dim v)) c.w.view_is in
    let second = c.in_ok-push_vertex-2.ensures ∙ ap (λ (v : Vertex). c.push_vertex.new.text.items ++ numbers_text (vertex_numbers c.args.other v))
    c.x.view_is in
    on_ok_weaker c.push_end_of_line.result
    (λ last. image_written c.args.text.now.items word c.push_vertex.new.text.items c.push_vertex-2.new.text.items c.push_end_of_line.new.text.items c.args.dim
    c.args.other c.args.w.now c.args.x.now
    c.in_ok-extend_from_slice.ensures.items first second last) c.push_end_of_line.ensures
