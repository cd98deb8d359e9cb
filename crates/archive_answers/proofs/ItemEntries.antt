-- The entries of items that are accepted; they are one list.
use Rattle.std.proofs.Common.{◌≡◌, ◌&&◌, ℕ, ◌+◌, true, false, List, [], ◌∷◌, Option, refl, sym, ap, subst, ◌∙◌, true≢false, ◌<◌, ◌≤◌, ◌++◌, length}
use Rattle.std.proofs.Common.{get_or, take, None, Some, arith}
use Rattle.std.specs.{List.list_all, List.All, Prelude.unwrap_or, Option.option_copied}
use Rattle.std.proofs.lemmas.{Bool.and_parts, List.take_more, List.length-map, List.map-append}
use Rattle.std.proofs.lemmas.List.Elements.{All-cons, All-get_or, All-head, All-nil, All-tail}
use Rattle.keyline_import.specs.{Keys.graph_of_key, declared.item.Item.Item, Views.AreRead, Rows.KeyView}
use Rattle.least_key.specs.KeyedNets.{IsKeyed, KeyedNet}
use Rattle.least_key.specs.{Laws.TellAlike, Truths.IsTrueOf, declared.refusal.Refusal.Refusal, AnyNets.net_view}
use Rattle.least_key.proofs.CallerLemmas.{certain_is_not_refused, keyed_is_certain, one_net}
use Rattle.net_archive.{specs.Adding.IsEntryOf, specs.Archives.most_entries, proofs.CallerLemmas.one_entry}
use Rattle.archive_text.specs.{Entries.EntryView, Entries.entry_view, Entries.entry_views, declared.entry.Entry.Entry}
use Rattle.quotient_graph.{proofs.CallerLemmas.one_in_order, specs.Stars.IsInOrder}
use Rattle.net_report.specs.declared.outcome.{Outcome.Outcome, OutcomeBody.OutcomeBody, Size.Size}
use Rattle.net_report.specs.declared.outcome.OutcomeBody.TheVariants.{Keyed, Refused, Faulty}
use Rattle.keyline_import.specs.Items.{BodyView, Net, Faulty as FaultyView, ItemView, items_of, most_items}
use Rattle.keyline_import.{specs.NetNames.IsNamed, specs.NetNames.IsNamedAs, proofs.CallerLemmas.nets_are_named}
use Rattle.net_report.specs.Accepting.{is_accepted, is_accepted_body}
use Rattle.archive_answers.specs.Outcomes.{AreItemOutcomesFrom, IsItemBodyOf, IsRefusedAs}
use Rattle.archive_answers.specs.{Reports.IsItemReport, Unions.AreEntriesOfItems, Unions.IsEntryOfItem}
use Rattle.archive_answers.specs.ItemEntries.{AreEntriesTold, HasNamedNet, IsEntryAs, IsEntryTold, IsUnderName}

-- the key that a body has, if it has one
abbrev key_or : KeyView → BodyView → KeyView
key_or d (Net key) = key
key_or d (FaultyView fault) = d

-- the net of an item is one
same_net : (item : ItemView) (e f : EntryView) (a : IsEntryOfItem item e) (b : IsEntryOfItem item f) → TellAlike a.net b.net
same_net item e f a b =
    let key : a.key ≡ b.key = ap (key_or a.key) (sym a.body ∙ b.body) in
    let there = subst (λ (k : KeyView). IsInOrder (graph_of_key k) b.net.placed.graph) (sym key) b.read in
    one_net a.net b.net a.keyed b.keyed (one_in_order (graph_of_key a.key) a.net.placed.graph b.net.placed.graph a.read there)

-- and so is its entry
one_entry_of_item : (item : ItemView) (e f : EntryView) → IsEntryOfItem item e → IsEntryOfItem item f → e ≡ f
one_entry_of_item item e f a b =
    let name : f.name ≡ e.name = ap (λ (o : Option (List ℕ)). unwrap_or o e.name) (sym b.name ∙ a.name) in
    one_entry e.name a.net b.net e f a.keyed.is_graph (same_net item e f a b) a.entry (subst (λ (n : List ℕ). IsEntryOf n b.net f) name b.entry)

-- the entries of items are one list
pub one_list_of_entries : (items : List ItemView) (es fs : List EntryView) → AreEntriesOfItems items es → AreEntriesOfItems items fs → es ≡ fs
one_list_of_entries [] [] [] h k = refl
one_list_of_entries [] (e ∷ es) fs h k = absurd h
one_list_of_entries (item ∷ items) [] fs h k = absurd h
one_list_of_entries (item ∷ items) (e ∷ es) (f ∷ fs) h k =
    let first = one_entry_of_item item e f h.0 k.0 in let rest = one_list_of_entries items es fs h.1 k.1 in
    λ i. first i ∷ rest i
one_list_of_entries items es fs h k = absurd k

-- a net with its key is not refused
not_refused : (key : KeyView) (net : KeyedNet) (size : Size) (names : List (List ℕ)) (r : Refusal) → IsInOrder (graph_of_key key) net.placed.graph
    → IsKeyed net → ¬ IsRefusedAs key size names r
not_refused key net size names r read keyed b =
    let graph = one_in_order (graph_of_key key) net.placed.graph b.graph read b.read.in_order in
    b.known (certain_is_not_refused net.placed.graph r keyed.is_graph (keyed_is_certain net keyed) (subst (λ G. IsTrueOf G r) (sym graph) b.is_true))

-- a net with its key is accepted
accepted_body : (key : KeyView) (net : KeyedNet) (told : OutcomeBody) → IsInOrder (graph_of_key key) net.placed.graph → IsKeyed net
    → IsItemBodyOf (Net key) told → is_accepted_body told ≡ true
accepted_body key net (Keyed size known) read keyed h = refl
accepted_body key net (Refused size names refusal) read keyed h = absurd (not_refused key net size names refusal read keyed h)
accepted_body key net told read keyed h = absurd h

accepted : (item : ItemView) (e : EntryView) (told : OutcomeBody) → IsEntryOfItem item e → IsItemBodyOf item.body told → is_accepted_body told ≡ true
accepted item e told a h = accepted_body a.key a.net told a.read a.keyed (subst (λ (b : BodyView). IsItemBodyOf b told) a.body h)

all_accepted : (n : ℕ) (items : List ItemView) (es : List EntryView) (os : List Outcome) → AreEntriesOfItems items es → AreItemOutcomesFrom n items os
    → list_all is_accepted os ≡ true
all_accepted n [] es [] h k = refl
all_accepted n (item ∷ items) [] os h k = absurd h
all_accepted n (item ∷ items) (e ∷ es) (o ∷ os) h k =
    let first = accepted item e o.body h.0 k.0.body in let rest = all_accepted (n + 1) items es os h.1 k.1 in
    λ i. first i && rest i
all_accepted n items es os h k = absurd k

-- items that have entries have no report that says otherwise
pub entries_or_report : (items : List ItemView) (es : List EntryView) (text : List ℕ) → AreEntriesOfItems items es → ¬ IsItemReport items false text
entries_or_report items es text h r = true≢false (sym (r.all ∙ all_accepted 1 items es r.outcomes h r.are_outcomes))

-- one entry more
entries_last : (os : List Outcome) (es : List EntryView) (o : Outcome) (e : EntryView) → AreEntriesTold os es → IsEntryTold o e
    → AreEntriesTold (os ++ o ∷ []) (es ++ e ∷ [])
entries_last [] [] o e h k = (k, tt)
entries_last (p ∷ os) (x ∷ es) o e h k = (h.0, entries_last os es o e h.1 k)
entries_last os es o e h k = absurd h

pub entries_next : (os : List Outcome) (i : ℕ) (o : Outcome) (entries : List Entry) (e : Entry) → i < length os → get_or os i o ≡ o
    → AreEntriesTold (take i os) (entry_views entries) → IsEntryTold o (entry_view e)
    → AreEntriesTold (take (i + 1) os) (entry_views (entries ++ e ∷ []))
entries_next os i o entries e l at h k =
    let longer : take (i + 1) os ≡ take i os ++ o ∷ [] = take_more os i o l ∙ ap (λ (x : Outcome). take i os ++ x ∷ []) at in
    let more = entries_last (take i os) (entry_views entries) o (entry_view e) h k in
    subst (λ (ps : List Outcome). AreEntriesTold ps (entry_views (entries ++ e ∷ []))) (sym longer)
    (subst (AreEntriesTold (take i os ++ o ∷ [])) (sym (map-append entry_view entries (e ∷ []))) more)

-- there are as many entries as outcomes
as_many : (os : List Outcome) (es : List EntryView) → AreEntriesTold os es → length es ≡ length os
as_many [] [] h = refl
as_many (o ∷ os) (x ∷ es) h = let n = as_many os es h.1 in omega (arith, n)
as_many os es h = absurd h

pub as_many_entries : (os : List Outcome) (entries : List Entry) → AreEntriesTold os (entry_views entries) → length entries ≡ length os
as_many_entries os entries h = sym (length-map entries entry_view) ∙ as_many os (entry_views entries) h

-- an item that is accepted is a net under its name
named : (body : BodyView) (name : Option (List ℕ)) (told : OutcomeBody) → IsItemBodyOf body told → IsNamedAs body name → is_accepted_body told ≡ true
    → IsUnderName told name
named body name told l p q = search arith

pub all_named : (n : ℕ) (items : List ItemView) (os : List Outcome) → AreItemOutcomesFrom n items os → All IsNamed items → list_all is_accepted os ≡ true
    → All HasNamedNet os
all_named n [] [] h k a = All-nil HasNamedNet
all_named n (item ∷ items) (o ∷ os) h k a =
    let tests = and_parts (is_accepted o) (list_all is_accepted os) a in
    let name = subst (IsNamedAs item.body) (sym h.0.name) (All-head IsNamed item items k) in
    All-cons HasNamedNet o os (named item.body (option_copied o.name) o.body h.0.body name tests.0)
    (all_named (n + 1) items os h.1 (All-tail IsNamed item items k) tests.1)
all_named n items os h k a = absurd h

-- so it is of the items of a text
pub named_nets : (text : List ℕ) (os : List Outcome) → AreItemOutcomesFrom 1 (items_of text) os → list_all is_accepted os ≡ true → All HasNamedNet os
named_nets text os h a = all_named 1 (items_of text) os h (nets_are_named text) a

-- and of each of them
pub named_at : (os : List Outcome) (i : ℕ) (o : Outcome) → i < length os → get_or os i o ≡ o → All HasNamedNet os → HasNamedNet o
named_at os i o l at h = subst HasNamedNet at (All-get_or HasNamedNet os i o l h)

-- what is reported of a net with its key is its entry
entry_of_net : (item : ItemView) (body : BodyView) (name : Option (List ℕ)) (told : OutcomeBody) (e : EntryView) → item.body ≡ body → name ≡ item.name
    → IsItemBodyOf body told → IsEntryAs told name e → IsEntryOfItem item e
entry_of_net item (Net key) (Some name) (Keyed size net) e b n h k = record {
  key = key;
  body = b;
  name = sym n ∙ ap (λ (x : List ℕ). Some x) (sym k.name_is);
  net = net_view net;
  read = subst (IsInOrder (graph_of_key key)) (sym h.net_is) h.read.in_order;
  keyed = h.keyed;
  entry = subst (λ (x : List ℕ). IsEntryOf x (net_view net) e) (sym k.name_is) k;
}
entry_of_net item (Net key) None (Keyed size net) e b n h k = absurd k
entry_of_net item (Net key) name (Refused size names refusal) e b n h k = absurd k
entry_of_net item (FaultyView fault) name (Faulty line number kind) e b n h k = absurd k
entry_of_net item body name told e b n h k = absurd h

-- and so it is of all items
pub entries_of_items : (n : ℕ) (items : List ItemView) (os : List Outcome) (es : List EntryView) → AreItemOutcomesFrom n items os → AreEntriesTold os es
    → AreEntriesOfItems items es
entries_of_items n [] [] [] h k = tt
entries_of_items n [] (o ∷ os) es h k = absurd h
entries_of_items n (item ∷ items) [] es h k = absurd h
entries_of_items n (item ∷ items) (o ∷ os) (e ∷ es) h k =
    (entry_of_net item item.body (option_copied o.name) o.body e refl h.0.name h.0.body k.0, entries_of_items (n + 1) items os es h.1 k.1)
entries_of_items n items os es h k = absurd k

-- as many items are read as there are
pub as_many_read : (views : List ItemView) (items : List Item) → AreRead views items → length items ≡ length views
as_many_read [] [] h = refl
as_many_read (view ∷ views) (item ∷ items) h = let n = as_many_read views items h.1 in omega (arith, n)
as_many_read views items h = absurd h

as_many_outcomes : (n : ℕ) (items : List ItemView) (os : List Outcome) → AreItemOutcomesFrom n items os → length os ≡ length items
as_many_outcomes n [] [] h = refl
as_many_outcomes n (item ∷ items) (o ∷ os) h = let m = as_many_outcomes (n + 1) items os h.1 in omega (arith, m)
as_many_outcomes n items os h = absurd h

-- and so there are no more entries than there may be
pub few_entries : (items : List ItemView) (os : List Outcome) (entries : List Entry) → AreItemOutcomesFrom 1 items os → AreEntriesTold os (entry_views entries)
    → length items ≤ most_items → length entries ≤ most_entries
few_entries items os entries h k few = omega (arith, as_many_outcomes, as_many_entries)

pub few_read : (views : List ItemView) (items : List Item) → AreRead views items → length views ≤ most_items → length items ≤ most_items
few_read views items h few = let n = as_many_read views items h in omega (arith, n, few)
