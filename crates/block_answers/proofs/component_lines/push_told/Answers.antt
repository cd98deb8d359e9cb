use Rattle.std.proofs.Common.{[], List, refl, subst, sym}
use Rattle.std.proofs.lemmas.List.{append-nil, take_all}
use Rattle.net_components.specs.declared.parts.Part.{Part}
use Rattle.block_answers.{specs.ComponentLines.ArePartsToldFrom, proofs.Listing.part_told_next}
use Rattle.block_answers.proofs.component_lines.push_told.Goals as goal

pub loop-part-init : goal.loop-part-init
loop-part-init c = record {
  number_is = refl;
  told = record { answers = []; are_answers = tt; all = refl; text = sym (append-nil c.args.text.now.items) };
}

pub loop-part-preserved : goal.loop-part-preserved
loop-part-preserved c =
    part_told_next c.args.names.now c.args.parts.now c.loop-part.part-index c.loop-part.number c.loop-part.accepted c.in_ok-accepted.field-0
    c.args.text.now.items c.loop-part.text.items c.tell_part.new.text.items c.part-item.result c.loop-part-test.true
    c.part-item.is c.loop-part.invariant c.in_ok-accepted.ensures

pub returns : goal.returns
returns c =
    subst (λ (ps : List Part). ArePartsToldFrom c.args.names.now 1 ps c.loop-part.accepted c.args.text.now.items c.loop-part.text.items)
    (take_all c.loop-part.part-index c.args.parts.now c.loop-part-test.false) c.loop-part.invariant.told
