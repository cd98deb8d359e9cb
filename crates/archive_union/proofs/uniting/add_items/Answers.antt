use Rattle.std.proofs.Common.{◌≡◌, ◌∙◌, ◌++◌, ◌∷◌, [], List, length, sym, ap, subst, arith}
use Rattle.std.{proofs.lemmas.List.append_assoc, proofs.lemmas.List.length-append, specs.Vec.Iter.into_iter_items}
use Rattle.archive_text.specs.{Entries.entry_views, declared.entry.Entry.Entry}
use Rattle.archive_union.{specs.Faults.IsUniteFault, specs.declared.uniting.UniteFault.UniteFault, proofs.OneUnion.fault_is, proofs.OneUnion.item_on}
use Rattle.archive_union.proofs.uniting.add_items.Goals as goal

pub returns-in-Err-clause-fault : goal.returns-in-Err-clause-fault
returns-in-Err-clause-fault c =
    let at = c.loop-item in let later = into_iter_items c.next.new.self in
    let whole : c.args.items.items ≡ at.yielded ++ c.in-Some.item ∷ later = sym at.invariant.all
    ∙ ap (λ (l : List Entry). at.yielded ++ l) c.in-Some.ensures.steps.0 in
    subst (λ (f : UniteFault). IsUniteFault c.args.archive.now (entry_views c.args.items.items) f) (sym c.not_added.ensures)
    (fault_is c.args.archive.now at.archive at.yielded c.in-Some.item at.invariant.archive c.args.items.items later at.number c.in-Err.fault whole
    at.invariant.number c.in-Err.ensures.refused)

pub loop-item-preserved : goal.loop-item-preserved
loop-item-preserved c =
    let at = c.loop-item in let x = c.in-Some.item in let later = into_iter_items c.next.new.self in
    let steps = c.in-Some.ensures.steps in
    record {
      all = append_assoc at.yielded (x ∷ []) later ∙ ap (λ (l : List Entry). at.yielded ++ l) (sym steps.0) ∙ at.invariant.all;
      left = let was = at.invariant.left in let gone = steps.1 in let short = ap length steps.0 in omega (arith, was, gone, short);
      number = let was = at.invariant.number in let long = length-append at.yielded (x ∷ []) in omega (arith, was, long);
      archive = item_on c.args.archive.now at.archive at.yielded x at.invariant.archive c.add_item.new.archive c.in_default.ensures.added;
    }
