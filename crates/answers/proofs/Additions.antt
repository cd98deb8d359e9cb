-- Blocks that are added to an archive, in turn with their outcomes, and that what becomes of them is one.
use Rattle.std.proofs.Common.{◌≡◌, ℕ, zero, suc, ◌+◌, ◌<◌, true, List, [], ◌∷◌, length, get_or, Some, refl, sym, subst, true≢false, arith, ◌-◌, Option}
use Rattle.std.proofs.Common.{None, ap, ◌∙◌, ◌≤◌, ◌++◌, take, drop, append_assoc, ◌≢◌, ◌⊎◌, inl, inr, ◌&&◌, false}
use Rattle.std.proofs.lemmas.List.Elements.{All-cons, All-nil, All-head, All-tail}
use Rattle.std.proofs.lemmas.List.{get_or-map, length-map, append-nil, take_more, take_all, take-append-drop, drop_more, length-take-le}
use Rattle.std.{proofs.lemmas.Bool.and_parts, specs.List.list_all, specs.Prelude.is_some, specs.Prelude.unwrap_or}
use Rattle.cgd_read.specs.Views.{BodyView, BlockView, block_view, views, RawView}
use Rattle.cgd_read.specs.{Graphs.graph_of, declared.block.Block.Block}
use Rattle.quotient_graph.{specs.Stars.IsInOrder, proofs.CallerLemmas.one_in_order}
use Rattle.least_key.{specs.AnyNets.net_view, specs.KeyedNets.KeyedNet, specs.KeyedNets.HasKinds, specs.Laws.TellAlike, proofs.CallerLemmas.one_net}
use Rattle.archive_text.specs.Entries.{EntryView}
use Rattle.net_report.{specs.declared.command.Command.TheVariants.Key, specs.KindsTold.AreKindsOfAll, specs.KindsTold.AreKindsTold}
use Rattle.net_report.{proofs.CallerLemmas.as_many_kinds, proofs.CallerLemmas.kinds_at}
use Rattle.block_answers.specs.Outcomes.{Outcome, OutcomeBody, AreOutcomesFrom, IsBodyOf, is_accepted, net_told}
use Rattle.block_answers.{specs.Reports.IsReport, proofs.CallerLemmas.keyed_is_accepted, proofs.CallerLemmas.told_net, proofs.CallerLemmas.IsToldNet}
use Rattle.answers.specs.Due.{HasFirstOf, HasThoseBefore}
use Rattle.answers.specs.Due.{AreAccepted, IsNetOf, AreEntriesOf, IsAdded, IsEntryOfBlock, IsNotAdded, given_after, name_to_add, with_entries}
use Rattle.net_archive.specs.Archives.{ArchiveView, IsArchive, with_entry}
use Rattle.net_archive.proofs.CallerLemmas.{added_no_fault, one_add_fault, one_entry}
use Rattle.net_archive.specs.{Adding.IsEntryOf, Adding.IsAddFault, declared.faults.AddFault.AddFault}
use Rattle.least_key.specs.declared.net.Net.{Net as NetInCode}
use Rattle.net_archive.specs.declared.faults.AddFault.TheVariants as add
pub use Rattle.map_answers.proofs.CallerLemmas.{as_many}

-- the net that is reported of a block is its net
net_of : (block : BlockView) (body : OutcomeBody) (t : IsToldNet block.body body) → IsNetOf block (net_view t.net)
net_of block body t = record { raw = t.raw; graph = t.graph; read = t.read; keyed = t.keyed }

-- what is reported at each place
pub told_at : (entries : List EntryView) (n i : ℕ) (bs : List BlockView) (os : List Outcome) (b : BlockView) (o : Outcome)
    → AreOutcomesFrom entries Key n bs os → list_all is_accepted os ≡ true → i < length bs → get_or bs i b ≡ b
    → get_or os i o ≡ o → IsToldNet b.body o.body
told_at entries n i [] os b o h a l e f = absurd (omega (arith, l))
told_at entries n i (c ∷ bs) [] b o h a l e f = absurd h
told_at entries n zero (c ∷ bs) (x ∷ os) b o h a l e f =
    let first = told_net entries c.body x.body h.0.body (and_parts (is_accepted x) (list_all is_accepted os) a).0 in
    subst (λ (y : Outcome). IsToldNet b.body y.body) f (subst (λ (y : BlockView). IsToldNet y.body x.body) e first)
told_at entries n (suc i) (c ∷ bs) (x ∷ os) b o h a l e f =
    told_at entries (n + 1) i bs os b o h.1 (and_parts (is_accepted x) (list_all is_accepted os) a).1 (omega (arith, l)) e f

-- so each block is accepted
pub all_accepted : (entries : List EntryView) (n : ℕ) (bs : List BlockView) (os : List Outcome) → AreOutcomesFrom entries Key n bs os
    → list_all is_accepted os ≡ true → AreAccepted bs
all_accepted entries n [] os h a = All-nil (λ (block : BlockView). (net : KeyedNet) × IsNetOf block net)
all_accepted entries n (c ∷ bs) [] h a = absurd h
all_accepted entries n (c ∷ bs) (x ∷ os) h a =
    let tests = and_parts (is_accepted x) (list_all is_accepted os) a in
    let first = told_net entries c.body x.body h.0.body tests.0 in
    All-cons (λ (block : BlockView). (net : KeyedNet) × IsNetOf block net) c bs (net_view first.net, net_of c x.body first)
    (all_accepted entries (n + 1) bs os h.1 tests.1)

-- A block and its outcome, as they come in turn.

-- at place i stand this block and this outcome, and the net of the block is reported
pub record IsTurn (found : List Block) (os : List Outcome) (i : ℕ) (block : Block) (o : Outcome) : Type 0 where
  pub inside : i < length (views found)
  pub at : get_or (views found) i (block_view block) ≡ block_view block
  pub there : i < length os
  pub is : o ≡ get_or os i o
  pub told : IsToldNet (block_view block).body o.body

pub turn_is : (entries : List EntryView) (found : List Block) (os : List Outcome) (i : ℕ) (block : Block) (o : Outcome) → i < length found
    → block ≡ get_or found i block → o ≡ get_or os i o
    → AreOutcomesFrom entries Key 1 (views found) os → list_all is_accepted os ≡ true → IsTurn found os i block o
turn_is entries found os i block o l b e h a =
    let inside : i < length (views found) = subst (λ (n : ℕ). i < n) (sym (length-map found block_view)) l in
    let at : get_or (views found) i (block_view block) ≡ block_view block = get_or-map block_view found i block (block_view block) l ∙ ap block_view (sym b) in
    let many = as_many entries 1 (views found) os h in
    record {
      inside = inside;
      at = at;
      there = omega (arith, inside, many);
      is = e;
      told = told_at entries 1 i (views found) os (block_view block) o h a inside at (sym e);
    }

-- so is the one that is told
pub net_is : (block : BlockView) (o : Outcome) (net : NetInCode) → IsToldNet block.body o.body → Some net ≡ net_told o.body → IsNetOf block (net_view net)
net_is block o net h e =
    subst (λ (n : NetInCode). IsNetOf block (net_view n)) (ap (λ (t : Option NetInCode). unwrap_or t net) (sym h.told_is ∙ sym e)) (net_of block o.body h)

-- and one is reported
pub one_told : (block : BlockView) (o : Outcome) → IsToldNet block.body o.body → None ≡ net_told o.body → ⊥
one_told block o h e = true≢false (ap is_some (sym h.told_is ∙ sym e))

-- kinds beside the net that is reported are kinds of its classes
kinds_told : (body : OutcomeBody) (net : NetInCode) (ks : List ℕ) → AreKindsTold body ks → Some net ≡ net_told body → HasKinds (net_view net) ks
kinds_told body net ks k l = grind arith

-- the kinds of the outcome with this number, and that it has them
pub kinds_inside : (os : List Outcome) (kinds : List (List ℕ)) (i number : ℕ) → AreKindsOfAll os kinds → i < length os → number ≡ i + 1
    → number - 1 < length kinds
kinds_inside os kinds i number h l n = let m = as_many_kinds os kinds h in omega (arith, m, l, n)

pub kinds_are : (os : List Outcome) (kinds : List (List ℕ)) (i number : ℕ) (o : Outcome) (net : NetInCode) (ks : List ℕ)
    → AreKindsOfAll os kinds → i < length os
    → o ≡ get_or os i o → number ≡ i + 1 → ks ≡ get_or kinds (number - 1) ks
    → Some net ≡ net_told o.body → HasKinds (net_view net) ks
kinds_are os kinds i number o net ks h l e n s t =
    let place : number - 1 ≡ i = omega (arith, n) in
    let at = sym (s ∙ ap (λ (k : ℕ). get_or kinds k ks) place) in
    kinds_told o.body net ks (kinds_at os kinds i o ks h l (sym e) at) t

-- The archive grows by the entry of the next block.

-- if none is given, none is given after some blocks
pub none_after : (bs : List BlockView) → given_after None bs ≡ None
none_after bs = search arith

-- after a block none is given
none_past : (given : Option (List ℕ)) (bs : List BlockView) (b : BlockView) → given_after given (bs ++ b ∷ []) ≡ None
none_past given [] b = refl
none_past given (c ∷ bs) b = refl

-- the entry of one more block
entries_last : (given : Option (List ℕ)) (bs : List BlockView) (es : List EntryView) (b : BlockView) (e : EntryView) → AreEntriesOf given bs es
    → IsEntryOfBlock (name_to_add (given_after given bs) b) b e
    → AreEntriesOf given (bs ++ b ∷ []) (es ++ e ∷ [])
entries_last given [] [] b e h k = (k, tt)
entries_last given [] (x ∷ es) b e h k = absurd h
entries_last given (c ∷ bs) [] b e h k = absurd h
entries_last given (c ∷ bs) (x ∷ es) b e h k =
    (h.0, entries_last None bs es b e h.1 (subst (λ (g : Option (List ℕ)). IsEntryOfBlock (name_to_add g b) b e) (sym (none_after bs)) k))

-- no block adds nothing
added_none : (given : Option (List ℕ)) (a : ArchiveView) → IsArchive a → IsAdded given [] a a
added_none given a h = search (arith, append-nil)

-- one more block is added after the others
added_more : (given : Option (List ℕ)) (bs : List BlockView) (a b c : ArchiveView) (block : BlockView) (e : EntryView) → IsAdded given bs a b
    → IsEntryOfBlock (name_to_add (given_after given bs) block) block e
    → c ≡ with_entry b e → IsArchive c → IsAdded given (bs ++ block ∷ []) a c
added_more given bs a b c block e h k w good = record {
  more = h.more ++ e ∷ [];
  are_entries = entries_last given bs h.more block e h.are_entries k;
  longer = w ∙ ap (λ (x : ArchiveView). with_entry x e) h.longer
      ∙ ap (λ (es : List EntryView). record { version = a.version; entries = es }) (append_assoc a.entries h.more (e ∷ []));
  is_archive = good;
}

-- the first i blocks are added to a, which makes b, and next is the name for the next block, which has this number
pub record AreAddedTo (given : Option (List ℕ)) (bs : List BlockView) (a : ArchiveView) (i : ℕ) (next : Option (List ℕ)) (number : ℕ)
    (b : ArchiveView) : Type 0 where
  pub added : IsAdded given (take i bs) a b
  pub next_is : next ≡ given_after given (take i bs)
  pub number_is : number ≡ i + 1

pub added_first : (given : Option (List ℕ)) (bs : List BlockView) (a : ArchiveView) → IsArchive a → AreAddedTo given bs a 0 given 1 a
added_first given bs a h = record { added = added_none given a h; next_is = refl; number_is = refl }

pub added_next : (given : Option (List ℕ)) (bs : List BlockView) (a b c : ArchiveView) (i number : ℕ) (next : Option (List ℕ)) (block : BlockView)
    (net : KeyedNet) (e : EntryView)
    → AreAddedTo given bs a i next number b → i < length bs → get_or bs i block ≡ block → IsNetOf block net → IsEntryOf (name_to_add next block) net e
    → c ≡ with_entry b e → IsArchive c
    → AreAddedTo given bs a (i + 1) None (number + 1) c
added_next given bs a b c i number next block net e h l at is k w good =
    let longer : take (i + 1) bs ≡ take i bs ++ block ∷ [] = take_more bs i block l ∙ ap (λ (x : BlockView). take i bs ++ x ∷ []) at in
    let entry : IsEntryOfBlock (name_to_add (given_after given (take i bs)) block) block e =
    subst (λ (g : Option (List ℕ)). IsEntryOfBlock (name_to_add g block) block e) h.next_is (record { net = net; is_net = is; entry = k }) in
    record {
      added = subst (λ (cs : List BlockView). IsAdded given cs a c) (sym longer) (added_more given (take i bs) a b c block e h.added entry w good);
      next_is = sym (ap (given_after given) longer ∙ none_past given (take i bs) block);
      number_is = let n = h.number_is in omega arith;
    }

-- the next block cannot be added
pub not_added : (given : Option (List ℕ)) (bs : List BlockView) (a b : ArchiveView) (i number : ℕ) (next : Option (List ℕ)) (block : BlockView)
    (net : KeyedNet) (fault : AddFault)
    → AreAddedTo given bs a i next number b → i < length bs → get_or bs i block ≡ block → IsNetOf block net → IsAddFault b (name_to_add next block) net fault
    → HasThoseBefore given bs a number fault b
not_added given bs a b i number next block net fault h l at is f = (refused, refl)
  where
    refused : IsNotAdded given bs a number fault
    refused = record {
      before = take i bs;
      block = block;
      after = drop (i + 1) bs;
      split = sym (take-append-drop i bs)
          ∙ ap (λ (cs : List BlockView). take i bs ++ cs) (drop_more bs i block l ∙ ap (λ (x : BlockView). x ∷ drop (i + 1) bs) at);
      number_is = let n = h.number_is in let m = length-take-le i bs (omega arith) in omega arith;
      longer = b;
      added = h.added;
      net = net;
      is_net = is;
      cause = subst (λ (g : Option (List ℕ)). IsAddFault b (name_to_add g block) net fault) h.next_is f;
    }

-- the blocks before it are added
pub first_added : (given : Option (List ℕ)) (bs : List BlockView) (a b : ArchiveView) (i number : ℕ) (next : Option (List ℕ))
    → AreAddedTo given bs a i next number b → HasFirstOf given bs a b
first_added given bs a b i number next h = (take i bs, drop i bs, sym (take-append-drop i bs), h.added)

-- none of them are, if nothing is added
pub none_are_first : (given : Option (List ℕ)) (bs : List BlockView) (a : ArchiveView) → IsArchive a → HasFirstOf given bs a a
none_are_first given bs a h = ([], bs, refl, added_none given a h)

-- all of them are the first of them
pub all_are_first : (given : Option (List ℕ)) (bs : List BlockView) (a b : ArchiveView) → IsAdded given bs a b → HasFirstOf given bs a b
all_are_first given bs a b h = (bs, [], sym (append-nil bs), h)

-- no block is left
pub all_added : (given : Option (List ℕ)) (bs : List BlockView) (a b : ArchiveView) (i number : ℕ) (next : Option (List ℕ))
    → AreAddedTo given bs a i next number b → length bs ≤ i → IsAdded given bs a b
all_added given bs a b i number next h l = subst (λ (cs : List BlockView). IsAdded given cs a b) (take_all i bs l) h.added

-- What becomes of an addition is one.

-- the net of a block is one
same_net : (block : BlockView) (m n : KeyedNet) → IsNetOf block m → IsNetOf block n → TellAlike m n
same_net block m n a b =
    let raw : b.raw ≡ a.raw = cc in
    let there = subst (λ (r : RawView). IsInOrder (graph_of r) n.placed.graph) raw b.read in
    one_net m n a.keyed b.keyed (one_in_order (graph_of a.raw) m.placed.graph n.placed.graph a.read there)

-- and so is its entry under a name
one_entry_of_block : (name : List ℕ) (block : BlockView) (e f : EntryView) → IsEntryOfBlock name block e → IsEntryOfBlock name block f → e ≡ f
one_entry_of_block name block e f a b = one_entry name a.net b.net e f a.is_net.keyed.is_graph (same_net block a.net b.net a.is_net b.is_net) a.entry b.entry

-- the entries of blocks are one list
one_list_of_entries : (given : Option (List ℕ)) (bs : List BlockView) (es fs : List EntryView) → AreEntriesOf given bs es → AreEntriesOf given bs fs → es ≡ fs
one_list_of_entries given [] [] [] h k = refl
one_list_of_entries given [] [] (f ∷ fs) h k = absurd k
one_list_of_entries given [] (e ∷ es) fs h k = absurd h
one_list_of_entries given (b ∷ bs) [] fs h k = absurd h
one_list_of_entries given (b ∷ bs) (e ∷ es) [] h k = absurd k
one_list_of_entries given (b ∷ bs) (e ∷ es) (f ∷ fs) h k =
    let first = one_entry_of_block (name_to_add given b) b e f h.0 k.0 in
    let rest = one_list_of_entries None bs es fs h.1 k.1 in
    λ i. first i ∷ rest i

-- and the longer archive is one
pub one_longer : (given : Option (List ℕ)) (bs : List BlockView) (a b c : ArchiveView) → IsAdded given bs a b → IsAdded given bs a c → b ≡ c
one_longer given bs a b c h k = h.longer ∙ ap (with_entries a) (one_list_of_entries given bs h.more k.more h.are_entries k.are_entries) ∙ sym k.longer

-- the entries of some blocks, and of one more after them
record Parts (given : Option (List ℕ)) (before : List BlockView) (block : BlockView) (es : List EntryView) : Type 0 where
  front : List EntryView
  entry : EntryView
  later : List EntryView
  is : es ≡ front ++ entry ∷ later
  of_front : AreEntriesOf given before front
  of_block : IsEntryOfBlock (name_to_add (given_after given before) block) block entry

parts_of : (given : Option (List ℕ)) (before : List BlockView) (block : BlockView) (after : List BlockView) (es : List EntryView)
    → AreEntriesOf given (before ++ block ∷ after) es → Parts given before block es
parts_of given [] block after [] h = absurd h
parts_of given [] block after (e ∷ es) h = record { front = []; entry = e; later = es; is = refl; of_front = tt; of_block = h.0 }
parts_of given (c ∷ cs) block after [] h = absurd h
parts_of given (c ∷ cs) block after (e ∷ es) h =
    let r = parts_of None cs block after es h.1 in
    record {
      front = e ∷ r.front;
      entry = r.entry;
      later = r.later;
      is = ap (λ l. e ∷ l) r.is;
      of_front = (h.0, r.of_front);
      of_block = subst (λ (g : Option (List ℕ)). IsEntryOfBlock (name_to_add g block) block r.entry) (none_after cs) r.of_block;
    }

-- a block that is added can be added
added_not_refused : (given : Option (List ℕ)) (a b longer : ArchiveView) (before : List BlockView) (block : BlockView) (after : List BlockView)
    (net : KeyedNet) (fault : AddFault) → IsAdded given (before ++ block ∷ after) a b
    → IsAdded given before a longer → IsNetOf block net → IsAddFault longer (name_to_add (given_after given before) block) net fault → fault ≡ add.NoMemory
added_not_refused given a b longer before block after net fault all some is cause =
    added_no_fault longer b name net r.entry r.later whole all.is_archive r.of_block.entry.name_is
    (λ x of. one_entry name net r.of_block.net x r.entry is.keyed.is_graph (same_net block net r.of_block.net is r.of_block.is_net) of r.of_block.entry) fault
    cause
  where
    name : List ℕ
    name = name_to_add (given_after given before) block

    r : Parts given before block all.more
    r = parts_of given before block after all.more all.are_entries

    -- the archive before the block
    so_far : longer ≡ with_entries a r.front
    so_far = some.longer ∙ ap (with_entries a) (one_list_of_entries given before some.more r.front some.are_entries r.of_front)

    whole : b ≡ record { version = longer.version; entries = longer.entries ++ r.entry ∷ r.later }
    whole =
        all.longer ∙ ap (with_entries a) r.is ∙ ap (λ (es : List EntryView). record { version = a.version; entries = es })
        (sym (append_assoc a.entries r.front (r.entry ∷ r.later)))
        ∙ ap (λ (c : ArchiveView). record { version = c.version; entries = c.entries ++ r.entry ∷ r.later }) (sym so_far)

-- if all blocks are added, none is refused
pub all_or_one : (given : Option (List ℕ)) (bs : List BlockView) (a b : ArchiveView) (number : ℕ) (fault : AddFault) → IsAdded given bs a b
    → IsNotAdded given bs a number fault → fault ≡ add.NoMemory
all_or_one given bs a b number fault h k = added_not_refused given a b k.longer k.before k.block k.after k.net fault
    (subst (λ (cs : List BlockView). IsAdded given cs a b) k.split h) k.added k.is_net k.cause

-- of two places in a list one comes before the other, or they are one
abbrev Order : List BlockView → BlockView → List BlockView → BlockView → Type 0
Order before block before' block' =
    ((mid : List BlockView) × (before' ≡ before ++ block ∷ mid)) ⊎ (((mid : List BlockView) × (before ≡ before' ++ block' ∷ mid))
    ⊎ ((before ≡ before') × (block ≡ block')))

order : (before : List BlockView) (block : BlockView) (after before' : List BlockView) (block' : BlockView) (after' : List BlockView)
    → before ++ block ∷ after ≡ before' ++ block' ∷ after' → Order before block before' block'
order [] block after [] block' after' e = inr (inr (refl, ap (λ l. get_or l 0 block) e))
order [] block after (c ∷ cs) block' after' e = inl (cs, ap (λ b. b ∷ cs) (sym (ap (λ l. get_or l 0 block) e)))
order (c ∷ cs) block after [] block' after' e = inr (inl (cs, ap (λ b. b ∷ cs) (ap (λ l. get_or l 0 c) e)))
order (c ∷ cs) block after (d ∷ ds) block' after' e = by (order cs block after ds block' after' (ap (drop 1) e))
  where
    first : c ≡ d
    first = ap (λ l. get_or l 0 c) e

    by : Order cs block ds block' → Order (c ∷ cs) block (d ∷ ds) block'
    by (inl m) = inl (m.0, λ i. sym first i ∷ m.1 i)
    by (inr (inl m)) = inr (inl (m.0, λ i. first i ∷ m.1 i))
    by (inr (inr m)) = inr (inr ((λ i. first i ∷ m.0 i), m.1))

-- the first block that is refused is one, and so is the cause
pub one_not_added : (given : Option (List ℕ)) (bs : List BlockView) (a : ArchiveView) (m n : ℕ) (f g : AddFault) → IsNotAdded given bs a m f
    → IsNotAdded given bs a n g → f ≢ add.NoMemory → g ≢ add.NoMemory → (m ≡ n) × (f ≡ g)
one_not_added given bs a m n f g h k p q = by (order h.before h.block h.after k.before k.block k.after (sym h.split ∙ k.split))
  where
    by : Order h.before h.block k.before k.block → (m ≡ n) × (f ≡ g)
    by (inl (mid, e)) = absurd (p (added_not_refused given a k.longer h.longer h.before h.block mid h.net f
        (subst (λ (cs : List BlockView). IsAdded given cs a k.longer) e k.added) h.added h.is_net h.cause))
    by (inr (inl (mid, e))) = absurd
        (q (added_not_refused given a h.longer k.longer k.before k.block mid k.net g
        (subst (λ (cs : List BlockView). IsAdded given cs a h.longer) e h.added) k.added k.is_net k.cause))
    by (inr (inr (e, b))) =
        let longer : h.longer ≡ k.longer = one_longer given h.before a h.longer k.longer h.added
        (subst (λ (cs : List BlockView). IsAdded given cs a k.longer) (sym e) k.added) in
        let name : name_to_add (given_after given h.before) h.block ≡ name_to_add (given_after given k.before) k.block =
        λ i. name_to_add (given_after given (e i)) (b i) in
        let cause = subst (λ (c : ArchiveView). IsAddFault c (name_to_add (given_after given h.before) h.block) k.net g) (sym longer)
        (subst (λ l. IsAddFault k.longer l k.net g) (sym name) k.cause) in (
          h.number_is ∙ ap (λ (cs : List BlockView). length cs + 1) e ∙ sym k.number_is,
          one_add_fault h.longer (name_to_add (given_after given h.before) h.block) h.net k.net f g h.cause cause p q,
        )

-- blocks that are added are accepted
pub entries_accepted : (given : Option (List ℕ)) (bs : List BlockView) (es : List EntryView) → AreEntriesOf given bs es → AreAccepted bs
entries_accepted given [] [] h = All-nil (λ (block : BlockView). (net : KeyedNet) × IsNetOf block net)
entries_accepted given [] (e ∷ es) h = absurd h
entries_accepted given (b ∷ bs) [] h = absurd h
entries_accepted given (b ∷ bs) (e ∷ es) h = All-cons (λ (block : BlockView). (net : KeyedNet) × IsNetOf block net) b bs (h.0.net, h.0.is_net)
    (entries_accepted None bs es h.1)

-- if all blocks are accepted the outcomes say so
all_told : (n : ℕ) (bs : List BlockView) (os : List Outcome) → AreOutcomesFrom [] Key n bs os → AreAccepted bs → list_all is_accepted os ≡ true
all_told n [] [] h a = refl
all_told n [] (o ∷ os) h a = absurd h
all_told n (b ∷ bs) [] h a = absurd h
all_told n (b ∷ bs) (o ∷ os) h a =
    let first = All-head (λ (block : BlockView). (net : KeyedNet) × IsNetOf block net) b bs a in
    let told = subst (λ (view : BodyView). IsBodyOf [] Key view o.body) first.1.graph h.0.body in
    let here = keyed_is_accepted first.1.raw [] first.0 o.body first.1.read first.1.keyed told in
    let rest = all_told (n + 1) bs os h.1 (All-tail (λ (block : BlockView). (net : KeyedNet) × IsNetOf block net) b bs a) in
    λ i. here i && rest i

-- so a report that some block is not accepted is none if all are
pub accepted_or_reported : (bs : List BlockView) (text : List ℕ) → AreAccepted bs → ¬ IsReport Key [] bs false text
accepted_or_reported bs text a r = true≢false (sym (all_told 1 bs r.outcomes r.are_outcomes.each a) ∙ sym r.all)
