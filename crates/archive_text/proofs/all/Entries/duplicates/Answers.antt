-- Of `duplicates`: the loop over `place`; what `group_from` requires; what it ensures.
use Rattle.std.proofs.Common.{◌≡◌, ℕ, ◌+◌, ◌≤◌, ap, sym, subst, ◌∙◌, List, length, Option, IfNone, IfSome, Vec, arith}
use Rattle.std.{proofs.lemmas.List.length-map, specs.declared.alloc.Global.Global}
use Rattle.archive_text.specs.{Entries.entry_view, Groups.IsGroupFrom, Groups.numbers_in}
use Rattle.archive_text.proofs.KeyNumbers.{AreGroupsTo, no_groups, all_groups, no_more, one_more, one_vector_more}
use Rattle.archive_text.proofs.all.Entries.duplicates.Goals.{in-Some+in_ok-push, in_default}
use Rattle.archive_text.proofs.all.Entries.duplicates.Goals as goal

pub loop-place-init : goal.loop-place-init
loop-place-init c = no_groups c.args.self.now (numbers_in c.new-groups.result.items) (ap numbers_in c.new-groups.ensures.items)

pub group_from-requires : goal.group_from-requires
group_from-requires c =
    let count : length c.args.self.now ≡ length c.self.inside.items.items = ap length (sym c.self.view_is) ∙ length-map c.self.inside.items.items entry_view in
    omega (arith, count, c.len-place-end.ensures, c.loop-place-test.true)

pub loop-place-preserved : goal.loop-place-preserved
loop-place-preserved c =
    let es = c.args.self.now in let n = c.loop-place.place in
    elim c.match-branch-2.branch [
      | in-Some+in_ok-push w ↦
          let group = subst (λ (r : Option (Vec ℕ Global)). IfSome r (λ g. IsGroupFrom es (n + 1) g.items)) w.in-Some.is c.in_ok-group.ensures.some in
          let pushed = ap (λ (v : Vec (Vec ℕ Global) Global). v.items) w.groups-is ∙ w.in_ok-push.ensures.items in
          one_more es n (numbers_in c.loop-place.groups.items) (numbers_in c.match-branch-2.groups.items) w.in-Some.group.items c.loop-place.invariant group
          (one_vector_more c.loop-place.groups.items c.match-branch-2.groups.items w.in-Some.group pushed)
      | in_default w ↦
          let none = subst (λ (r : Option (Vec ℕ Global)). IfNone r ((g : List ℕ) → IsGroupFrom es (n + 1) g → ⊥)) w.in_default.is c.in_ok-group.ensures.none in
          subst (λ (v : Vec (Vec ℕ Global) Global). AreGroupsTo es (n + 1) (numbers_in v.items)) (sym w.groups-is)
          (no_more es n (numbers_in c.loop-place.groups.items) c.loop-place.invariant none)
    ]

pub returns : goal.returns
returns c =
    let items = c.self.inside.items.items in
    let count : length c.args.self.now ≡ length items = ap length (sym c.self.view_is) ∙ length-map items entry_view in
    let ends : length c.args.self.now ≤ c.loop-place.place = omega (arith, count, c.len-place-end.ensures, c.loop-place-test.false) in
    all_groups c.args.self.now c.loop-place.place (numbers_in c.loop-place.groups.items) ends c.loop-place.invariant
