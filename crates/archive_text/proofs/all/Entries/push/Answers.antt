-- Of `push`: that the entries are indexed after it, and if a fingerprint is refused.
use Rattle.std.proofs.Common.{◌≡◌, ◌∙◌, ◌+◌, ◌<◌, ◌^◌, ◌++◌, ◌∷◌, [], ap, arith, length, map, sym, subst, ℕ, List}
use Rattle.std.proofs.lemmas.List.{length-map, length_push, map_push}
use Rattle.archive_text.specs.{Entries.EntryView, Entries.entry_view, Entries.entry_views, Lookups.AreIndexed, declared.entry.Entry.Entry}
use Rattle.archive_text.{specs.Fingerprints.key_print, specs.Fingerprints.name_print, proofs.KeyNumbers.undone}
use Rattle.archive_text.proofs.all.Entries.push.Goals as goal

-- entries with one more are indexed
indexed_more : (items new : List Entry) (names keys more_names more_keys : List ℕ) (e : Entry) → AreIndexed (entry_views items) names keys
    → length items + 1 < 2 ^ 32 → new ≡ items ++ e ∷ [] → more_names ≡ names ++ name_print e.name.items ∷ [] → more_keys ≡ keys ++ key_print e.key ∷ []
    → AreIndexed (entry_views new) more_names more_keys
indexed_more items new names keys more_names more_keys e h few put named keyed =
    let v = entry_view e in let views : entry_views new ≡ entry_views items ++ v ∷ [] = ap entry_views put ∙ map_push entry_view items e in
    let name : EntryView → ℕ = λ x. name_print x.name in let key : EntryView → ℕ = λ x. key_print x.key in
    record {
      few = let long = ap length views ∙ length_push (entry_views items) v in let same = length-map items entry_view in omega (arith, long, same, few);
      by_name = named ∙ ap (λ ns. ns ++ name v ∷ []) h.by_name ∙ sym (map_push name (entry_views items) v) ∙ ap (map name) (sym views);
      by_key = keyed ∙ ap (λ ks. ks ++ key v ∷ []) h.by_key ∙ sym (map_push key (entry_views items) v) ∙ ap (map key) (sym views);
    }

pub invariant_of-self-in-Err : goal.invariant_of-self-in-Err
invariant_of-self-in-Err c =
    let items = c.in_ok-reserve.ensures.items in
    let names = undone c.self.inside.names c.push.new.self c.pop.new.self c.name_print.result c.pop.result c.in_ok-push.ensures.ok c.pop.ensures.last
    c.pop.ensures.none in
    let keys = c.in-Err.ensures.err in
    subst (λ (es : List Entry). AreIndexed (entry_views es) c.pop.new.self c.push-2.new.self) (sym items)
    (subst (λ (ns : List ℕ). AreIndexed (entry_views c.self.inside.items.items) ns c.push-2.new.self) (sym names)
    (subst (λ (ks : List ℕ). AreIndexed (entry_views c.self.inside.items.items) c.self.inside.names ks) (sym keys) c.self.invariant))

pub invariant_of-self-in_err-push : goal.invariant_of-self-in_err-push
invariant_of-self-in_err-push c =
    subst (λ (es : List Entry). AreIndexed (entry_views es) c.push.new.self c.self.inside.keys) (sym c.in_ok-reserve.ensures.items)
    (subst (λ (ns : List ℕ). AreIndexed (entry_views c.self.inside.items.items) ns c.self.inside.keys) (sym c.in_err-push.ensures.err) c.self.invariant)

pub invariant_of-self-2 : goal.invariant_of-self-2
invariant_of-self-2 c =
    let items = c.self.inside.items.items in let names = c.self.inside.names in let keys = c.self.inside.keys in let e = c.args.entry in
    indexed_more items c.push-3.new.self.items names keys c.push.new.self c.push-2.new.self e c.self.invariant
    (omega (arith, c.if-len.false, c.len.ensures)) (c.in-Ok.ensures.items ∙ ap (λ es. es ++ e ∷ []) c.in_ok-reserve.ensures.items)
    (c.in_ok-push.ensures.ok ∙ ap (λ n. names ++ n ∷ []) (c.name_print.ensures ∙ ap name_print c.deref.ensures.value))
    (c.in_default.ensures.ok ∙ ap (λ n. keys ++ n ∷ []) (c.key_print.ensures ∙ ap key_print c.numbers.ensures))
