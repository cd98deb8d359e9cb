-- Of `solve_lines`: what it ensures.
use Rattle.std.proofs.Common.{subst}
use Rattle.elimination.specs.{Faults.AreGood, Faults.IsFault, Gone.gone_entries, Gone.placed_entries}
use Rattle.elimination.proofs.Firsts.{fault_after, fault_before, good_append, handed_on, match_map}
use Rattle.elimination.proofs.Gone.{in_turn}
use Rattle.elimination.proofs.solution.solve_lines.Goals as goal

pub returns-in_err-gone : goal.returns-in_err-gone
returns-in_err-gone g c =
    let n = g.N.Exact in let D = g.row.D in let k = c.args.k in let told = c.from_residual.ensures.1 in let fault = c.in_err-gone.field-0.0 in
    record {
      count = handed_on _ _ _ _ told tt;
      values = λ v h s. handed_on _ _ _ _ told (subst (λ es. IsFault n.modulus n.fits n.value es fault) (in_turn D k v)
          (fault_before n.modulus n.fits n.value (gone_entries D k v) (placed_entries D k v) fault (c.in_err-gone.ensures.values v h s)));
    }

pub returns : goal.returns
returns g c =
    let n = g.N.Exact in let D = g.row.D in let k = c.args.k in
    record {
      count = c.place_all.ensures.count;
      values = λ v h s.
          let gone = c.in_ok-gone.ensures.values v h s in
          match_map _ _ _ _ c.place_all.result (c.place_all.ensures.values v gone.0)
          (λ rows q. (q.0, subst (AreGood n.modulus n.fits) (in_turn D k v) (good_append (gone_entries D k v) (placed_entries D k v) gone.1 q.1)))
          (λ f e. subst (λ es. IsFault n.modulus n.fits n.value es f) (in_turn D k v)
          (fault_after n.modulus n.fits n.value (gone_entries D k v) (placed_entries D k v) f gone.1 e));
    }
