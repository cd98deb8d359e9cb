-- Of `add_all`: the loop over `block`; the clauses `fault`, `first` and `added`; what `add_block` requires; that numbers fit. `turn` is what most
-- of them share.
use Rattle.std.proofs.Common.{◌≡◌, ◌∙◌, length, arith, subst, sym}
use Rattle.std.{proofs.lemmas.List.length-map, proofs.lemmas.List.length_push, proofs.lemmas.Slice.Zip.zip_turn, proofs.lemmas.Slice.Zip.zip_end}
use Rattle.std.{specs.Prelude.option_copied}
use Rattle.cgd_read.specs.Views.{block_view, views}
use Rattle.least_key.specs.AnyNets.{net_view}
use Rattle.answers.proofs.Additions.{added_first, added_next, all_added, as_many, first_added, not_added, turn_is}
use Rattle.answers.proofs.Additions.{IsTurn, kinds_are, kinds_inside, net_is, one_told}
use Rattle.answers.specs.Due.{HasFirstOf}
use Rattle.answers.proofs.adding.add_all.Goals.{In-Some, in-Some-net_told+in_default-add_block, in_default}
use Rattle.answers.proofs.adding.add_all.Goals as goal

-- a block and its outcome come in turn
turn : (c : In-Some) → IsTurn c.args.found.now c.args.outcomes.now (length c.loop-block.yielded) c.in-Some.block.now c.in-Some.outcome.now
turn c =
    let found = c.args.found.now in let outcomes = c.args.outcomes.now in
    let pairs = c.into_iter-block-iterator in
    let first : pairs.result.a.rest.now ≡ found = cc (pairs.ensures.into_iter_gives, c.zip-block-items.ensures.first, c.iter.ensures.rest) in
    let second : pairs.result.b.rest.now ≡ outcomes = cc (pairs.ensures.into_iter_gives, c.zip-block-items.ensures.second.0) in
    let t = zip_turn found outcomes c.loop-block.yielded pairs.result c.loop-block.block-iterator c.next.new.self c.next.result first second
    c.loop-block.yielded_by (c.in-Some.block, c.in-Some.outcome) c.in-Some.is c.next.ensures.steps in
    turn_is _ found outcomes (length c.loop-block.yielded) c.in-Some.block.now c.in-Some.outcome.now t.0 (t.2 c.in-Some.block.now)
    (t.3 c.in-Some.outcome.now) c.requires.outcomes c.requires.accepted

pub loop-block-init : goal.loop-block-init
loop-block-init c = added_first _ _ c.args.archive.now c.recall.ensures

pub returns-in-Err-clause-fault : goal.returns-in-Err-clause-fault
returns-in-Err-clause-fault c = λ told.
    let block = block_view c.in-Some.block.now in let net = c.in-Some-net_told.net.now in
    let t = turn (goal.at.returns-in-Err-clause-fault c).In-Some in
    let before = c.loop-block.archive in
    let refused = not_added (option_copied c.args.given) (views c.args.found.now) c.args.archive.now before (length c.loop-block.yielded)
    c.loop-block.number (option_copied c.loop-block.given) block (net_view net) c.in-Err.fault c.loop-block.invariant t.inside t.at
    (net_is block c.in-Some.outcome.now net t.told c.in-Some-net_told.ensures) c.in-Err.ensures.fault in
    (refused.0, c.in-Err.ensures.same ∙ refused.1)

pub returns-in-Err-clause-first : goal.returns-in-Err-clause-first
returns-in-Err-clause-first c =
    subst (HasFirstOf (option_copied c.args.given) (views c.args.found.now) c.args.archive.now) (sym c.in-Err.ensures.same)
    (first_added (option_copied c.args.given) (views c.args.found.now) c.args.archive.now c.loop-block.archive (length c.loop-block.yielded)
    c.loop-block.number (option_copied c.loop-block.given) c.loop-block.invariant)

pub loop-block-preserved : goal.loop-block-preserved
loop-block-preserved c =
    let block = block_view c.in-Some.block.now in let outcome = c.in-Some.outcome.now in
    let t = turn (goal.at.loop-block-preserved c).In-Some in
    elim c.match-net_told.branch [
      | in-Some-net_told+in_default-add_block w ↦
          let net = w.in-Some-net_told.net.now in let e = w.in_default-add_block.ensures.added in
          rw (w.archive-is, length_push c.loop-block.yielded (c.in-Some.block, c.in-Some.outcome))
          (added_next (option_copied c.args.given) (views c.args.found.now) c.args.archive.now c.loop-block.archive w.add_block.new.archive
          (length c.loop-block.yielded) c.loop-block.number (option_copied c.loop-block.given) block (net_view net) e.0 c.loop-block.invariant
          t.inside t.at (net_is block outcome net t.told w.in-Some-net_told.ensures) e.1 e.2 w.add_block.ensures.archive)
      | in_default w ↦ elim (one_told block outcome t.told w.in_default.ensures) [ ]
    ]

pub returns-clause-added : goal.returns-clause-added
returns-clause-added c =
    let found = c.args.found.now in let outcomes = c.args.outcomes.now in
    let pairs = c.into_iter-block-iterator in
    let first : pairs.result.a.rest.now ≡ found = cc (pairs.ensures.into_iter_gives, c.zip-block-items.ensures.first, c.iter.ensures.rest) in
    let second : pairs.result.b.rest.now ≡ outcomes = cc (pairs.ensures.into_iter_gives, c.zip-block-items.ensures.second.0) in
    let end = zip_end found outcomes c.loop-block.yielded pairs.result c.loop-block.block-iterator c.next.new.self c.next.result first second
    c.loop-block.yielded_by c.in-None.is c.next.ensures.steps in
    let many = as_many _ 1 (views found) outcomes c.requires.outcomes in
    let long = length-map found block_view in
    all_added (option_copied c.args.given) (views found) c.args.archive.now c.loop-block.archive (length c.loop-block.yielded) c.loop-block.number
    (option_copied c.loop-block.given) c.loop-block.invariant (omega arith)

pub overflow_sub-place : goal.overflow_sub-place
overflow_sub-place c = let n = c.loop-block.invariant.number_is in omega (arith, n)

pub bounds-kinds-place : goal.bounds-kinds-place
bounds-kinds-place c =
    kinds_inside c.args.outcomes.now c.args.kinds.now (length c.loop-block.yielded) c.loop-block.number c.requires.kinds
    (turn (goal.at.bounds-kinds-place c).In-Some).there c.loop-block.invariant.number_is

pub add_block-requires : goal.add_block-requires
add_block-requires c =
    let t = turn (goal.at.add_block-requires c).In-Some in
    kinds_are c.args.outcomes.now c.args.kinds.now (length c.loop-block.yielded) c.loop-block.number c.in-Some.outcome.now c.in-Some-net_told.net.now
    c.index-kinds-place.result c.requires.kinds t.there t.is c.loop-block.invariant.number_is c.index-kinds-place.is c.in-Some-net_told.ensures
