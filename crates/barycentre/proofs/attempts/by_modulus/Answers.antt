use Rattle.std.proofs.Common.{lit<, ℕ, arith, ◌*◌, ◌<◌, ◌^◌}
use Rattle.std.proofs.{Math.Nat.mul-le-mul, lemmas.Bool.cases_lt}
use Rattle.barycentre.proofs.attempts.by_modulus.Goals as goal

-- the square of a number up to 2^57 is at most 2^114
large_modulus : (m : ℕ) → 2 ^ 117 < m * m → 2 ^ 57 < m
large_modulus m h = search (arith, mul-le-mul, cases_lt)

pub by_two_steps-requires : goal.by_two_steps-requires
by_two_steps-requires g c =
    let e = c.in-Ok.ensures in let r = c.requires in
    rw c.deref-2.ensures.value (lit< tt, (lit< tt, (lit< tt, (r.least, (r.most, (r.large, (r.connected, (e.count, (e.solved, (e.only, (e.flat, e.fit)))))))))))

pub by_one_step-requires : goal.by_one_step-requires
by_one_step-requires g c =
    let r = c.requires in
    rw c.deref.ensures.value (lit< tt, (lit< tt, (lit< tt, (large_modulus g.row.M r.large, (r.most, c.in-Ok.ensures.count)))))
