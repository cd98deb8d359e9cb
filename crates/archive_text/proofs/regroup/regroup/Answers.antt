-- Of `regroup`: the loop over `grouped`.
use Rattle.std.proofs.Common.{◌≡◌, ◌∙◌, ◌<◌, ◌++◌, ◌∷◌, [], List, sym, ap, length, get_or, map, arith}
use Rattle.std.proofs.lemmas.List.{map-append, length-map, length-append}
use Rattle.std.proofs.{Math.ListN.get_or-map, lemmas.List.Edits.length-remove}
use Rattle.archive_text.proofs.Regrouping.{map-remove, next_on}
use Rattle.archive_text.specs.{Entries.EntryView, Regrouped.last_of, Regrouped.going_on, Regrouped.next_place}
use Rattle.archive_text.proofs.regroup.regroup.Goals as goal

pub loop-grouped-preserved : goal.loop-grouped-preserved
loop-grouped-preserved g c =
    let f = g.T.Keyed.entry in let i = c.loop-grouped.invariant in
    let grouped = c.loop-grouped.grouped.items in let left = c.loop-grouped.items.items in
    let n = c.next_place-place.result in let x = c.remove-item.result in
    let place : n ≡ next_place (map f grouped) (map f left) =
    c.next_place-place.ensures.next
    ∙ ap (λ ls. next_place (map f c.deref.result.now) (map f ls)) c.deref-in-loop-grouped.ensures.value
    ∙ ap (λ gs. next_place (map f gs) (map f left)) c.deref.ensures.value in
    let within : n < length left = omega (arith, c.next_place-place.ensures.within, ap length c.deref-in-loop-grouped.ensures.value) in
    let some : 0 < length (map f left) = omega (arith, within, length-map left f) in
    let is : f x ≡ get_or (map f left) n (f x) = ap f c.remove-item.ensures.value ∙ sym (get_or-map f left n x) in
    let pushed : map f c.push.new.self.items ≡ map f grouped ++ f x ∷ [] = ap (map f) c.in-Ok.ensures.items ∙ map-append f grouped (x ∷ []) in
    let rest = ap (map f) c.remove-item.ensures.items ∙ map-remove f left n in
    record {
      whole =
          ap (λ (es : List EntryView). es ++ going_on (last_of es) (map f c.remove-item.new.self.items)) pushed
          ∙ ap (λ (es : List EntryView). (map f grouped ++ f x ∷ []) ++ going_on (last_of (map f grouped ++ f x ∷ [])) es) rest
          ∙ next_on (map f grouped) (map f left) n (f x) place some is
          ∙ i.whole;
      room = omega (
        arith,
        i.room,
        within,
        ap length c.in-Ok.ensures.items,
        length-append grouped (x ∷ []),
        ap length c.remove-item.ensures.items,
        length-remove left n within,
        c.in-Ok.ensures.capacity,
      );
    }
