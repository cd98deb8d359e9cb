-- Of `by_two_steps`: what it ensures; what `left_rows` and `tested` require. The clause `none` says that there is no placement within the limits.
use Rattle.std.proofs.lemmas.Result.{err_from_is_err_and}
use Rattle.std.proofs.Common.{lit<, ◌≡◌, ◌∙◌, ◌<◌, ℕ, ℤ, List, length, map, subst, Option, Result, IfOk, MatchOption, arith}
use Rattle.std.{proofs.lemmas.List.length-map, specs.Prelude.⊤}
use Rattle.periodic_net.specs.Graph.{Graph}
use Rattle.vecdim.specs.declared.rows.Row.{Row}
use Rattle.fraction.specs.{declared.numbers.Fraction.Fraction, Values.fraction_value}
use Rattle.elimination.specs.{RightHand.SolveWith, Rows.value_in}
use Rattle.residue.specs.declared.numbers.Residue.{Residue}
use Rattle.barycentre.specs.ResidueRows.{residue_value, residue_at, residue_vector}
use Rattle.barycentre.specs.{TwoSteps.AreTwoSteps, Reached.AreNotWithin, Left.AreLeftRows, Tested.AreNotPlaced}
use Rattle.barycentre.specs.Recovered.{AreRecovered, LacksRow}
use Rattle.barycentre.proofs.Stages.{in_reach, divided, steps, quotient, are_fractions, no_lack, is_scaled}
use Rattle.barycentre.proofs.steps.by_two_steps.{Given.Over, Goals.In_ok-nexts}
use Rattle.barycentre.proofs.steps.by_two_steps.Goals as goal

none_of : {A E : Type 0} (B C : Type 0) (r : Result (Option A) E) → (B → C) → IfOk r (λ o. MatchOption o B (λ t. ⊤)) → IfOk r (λ o. MatchOption o C (λ t. ⊤))
none_of B C r k l = search arith

-- what the solution of the rows that are left tells
module _ (g : Over) (c : In_ok-nexts g) where
  abbrev G : Graph
  G = c.args.g.now

  abbrev firsts : List (Row (Residue g.row.M) g.row.D)
  firsts = c.args.firsts.now

  abbrev lefts : List (Row (Residue g.row.M) g.row.D)
  lefts = c.in_ok-left.left.items

  abbrev nexts : List (Row (Residue g.row.M) g.row.D)
  nexts = c.in_ok-nexts.nexts.items

  -- what is divided by M
  abbrev rest : ℕ → ℕ → ℤ
  rest = quotient c.requires.least G c.recall.ensures.is_graph c.recall.ensures.parameter firsts c.requires.solved c.requires.flat

  two : (k : ℕ) → k < G.dimension → AreTwoSteps g.row.M G k (residue_at firsts k) (residue_at nexts k) (residue_at lefts k) (rest k)
  two =
      let at_is : c.deref.result.now ≡ map residue_vector firsts = c.deref.ensures.value ∙ c.in_ok-at.ensures in
      let next : SolveWith g.row.M residue_value G lefts nexts = rw c.deref-2.ensures.value at c.in_ok-nexts.ensures.solved in
      steps c.requires.least G c.recall.ensures.is_graph c.recall.ensures.parameter firsts c.requires.solved c.requires.flat lefts nexts
      c.in_ok-left.ensures.count (subst (λ v. AreLeftRows G v lefts G.vertices) at_is c.in_ok-left.ensures.left) c.requires.only next

  not_placed : (rows : List (Row Fraction g.row.D)) → length rows ≡ G.vertices → AreRecovered firsts nexts rows (length firsts)
      → AreNotPlaced G (value_in fraction_value rows) → AreNotWithin G
  not_placed rows n recovered h = λ P normal limits. h P c.requires.connected normal limits
      (is_scaled G c.recall.ensures.is_graph c.recall.ensures.parameter firsts nexts c.requires.count c.in_ok-nexts.ensures.count c.requires.least lefts
      rest two c.requires.connected c.recall.ensures.small P normal limits rows n recovered)

  lacking : LacksRow firsts nexts → AreNotWithin G
  lacking h = λ P normal limits.
      no_lack G c.recall.ensures.is_graph c.recall.ensures.parameter firsts nexts c.requires.count c.in_ok-nexts.ensures.count c.requires.least lefts
      rest two c.requires.connected c.recall.ensures.small P normal limits h

pub left_rows-requires : goal.left_rows-requires
left_rows-requires g c =
    let k = c.recall.ensures in let firsts = c.args.firsts.now in
    let at_is : c.deref.result.now ≡ map residue_vector firsts = c.deref.ensures.value ∙ c.in_ok-at.ensures in
    let count = length-map firsts residue_vector ∙ c.requires.count in
    let divides = divided c.requires.least c.args.g.now k.is_graph k.parameter firsts c.requires.solved c.requires.flat in
    rw at_is (lit< tt, (lit< tt, (lit< tt, (c.requires.least, (c.requires.most, (count, (in_reach firsts, divides)))))))

pub tested-requires : goal.tested-requires
tested-requires g c =
    let k = c.recall.ensures in let h = rw c.in-Some.is at c.in_ok-rows.ensures.count in
    let recovered = rw (c.in-Some.is, c.deref-3.ensures.value) at c.in_ok-rows.ensures.rows in
    let fractions = are_fractions c.args.g.now k.is_graph k.parameter c.args.firsts.now c.in_ok-nexts.nexts.items c.requires.count
    c.in_ok-nexts.ensures.count c.in-Some.rows.items (h ∙ c.requires.count) recovered in
    rw c.deref-in-Some.ensures.value (lit< tt, (lit< tt, (h ∙ c.requires.count, fractions)))

pub returns-in-Some : goal.returns-in-Some
returns-in-Some g c =
    let G = c.args.g.now in let rows = c.in-Some.rows.items in
    let h = rw c.in-Some.is at c.in_ok-rows.ensures.count in
    let recovered = rw (c.in-Some.is, c.deref-3.ensures.value) at c.in_ok-rows.ensures.rows in
    let e = c.tested.ensures in
    record {
      positive = e.positive;
      normal = e.normal;
      limits = e.limits;
      none = none_of (AreNotPlaced G (value_in fraction_value rows)) (AreNotWithin G) c.tested.result
          (not_placed g (goal.at.returns-in-Some g c).In_ok-nexts rows (h ∙ c.requires.count) recovered) (rw c.deref-in-Some.ensures.value at e.none);
    }

pub returns : goal.returns
returns g c = record {
  positive = tt;
  normal = tt;
  limits = tt;
  none = lacking g (goal.at.returns g c).In_ok-nexts (rw (c.in-None.is, c.deref-3.ensures.value) at c.in_ok-rows.ensures.rows);
}

pub returns-in_err-at : goal.returns-in_err-at
returns-in_err-at g c =
    let told = err_from_is_err_and c.from_residual.result c.from_residual.ensures.1 in
    record { positive = rw told.1 tt; normal = rw told.1 tt; limits = rw told.1 tt; none = rw told.1 tt }

pub returns-in_err-left : goal.returns-in_err-left
returns-in_err-left g c =
    let told = err_from_is_err_and c.from_residual-in_err-left.result c.from_residual-in_err-left.ensures.1 in
    record { positive = rw told.1 tt; normal = rw told.1 tt; limits = rw told.1 tt; none = rw told.1 tt }

pub returns-in_err-nexts : goal.returns-in_err-nexts
returns-in_err-nexts g c =
    let told = err_from_is_err_and c.from_residual-in_err-nexts.result c.from_residual-in_err-nexts.ensures.1 in
    record { positive = rw told.1 tt; normal = rw told.1 tt; limits = rw told.1 tt; none = rw told.1 tt }

pub returns-in_err-rows : goal.returns-in_err-rows
returns-in_err-rows g c =
    let told = err_from_is_err_and c.from_residual-in_err-rows.result c.from_residual-in_err-rows.ensures.1 in
    record { positive = rw told.1 tt; normal = rw told.1 tt; limits = rw told.1 tt; none = rw told.1 tt }
