-- Of `vector_of`: what `vector_between` requires; the clause `within`.
use Rattle.std.proofs.{Common.◌-◌, Common.◌^◌, Common.arith, Common.ap, Common.lit<, Common.sym, Common.subst, lemmas.Int.to_z-of_z}
use Rattle.integers.specs.Vectors.{IsWithin}
use Rattle.periodic_net.specs.{Graph.Arc, Limits.most_shift}
use Rattle.barycentre.proofs.limits.vector_of.Goals as goal

pub returns-clause-within : goal.returns-clause-within
returns-clause-within g c n h =
    let a = c.arc.inside in let tail = ap (λ (b : Arc). b.from) c.arc.view_is in
    let head = ap (λ (b : Arc). b.to) c.arc.view_is in let f = c.requires.from in let t = c.requires.to in
    let from = subst (IsWithin n) (sym c.index-at-arc.is) (h (a.from - 1) c.index-at-arc.result (let p = f.0 in let q = f.1 in omega (arith, tail, p, q))) in
    let to = subst (IsWithin n) (sym c.index-at-arc-2.is) (h (a.to - 1) c.index-at-arc-2.result (let p = t.0 in let q = t.1 in omega (arith, head, p, q))) in
    c.vector_between.ensures.within n from to

pub vector_between-requires : goal.vector_between-requires
vector_between-requires g c =
    let rd = c.ranges.d0 in let a = c.arc.inside in let h = c.requires.reach.positions in
    let tail = ap (λ (b : Arc). b.from) c.arc.view_is in let head = ap (λ (b : Arc). b.to) c.arc.view_is in
    let f = c.requires.from in let t = c.requires.to in
    let from = subst (IsWithin (2 ^ 102)) (sym c.index-at-arc.is) (h (a.from - 1) c.index-at-arc.result (omega (arith, tail, f.0, f.1))) in
    let to = subst (IsWithin (2 ^ 102)) (sym c.index-at-arc-2.is) (h (a.to - 1) c.index-at-arc-2.result (omega (arith, head, t.0, t.1))) in
    let shift = subst (IsWithin most_shift) (ap (λ (b : Arc). b.shift) (sym c.arc.view_is)) c.requires.shift in
    (lit< tt, (from, (to, (simp to_z-of_z c.requires.reach.denominator, shift))))
