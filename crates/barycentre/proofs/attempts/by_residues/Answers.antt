-- Of `by_residues`: what it ensures.
use Rattle.std.proofs.{Common.inl, Common.inr, lemmas.Result.err_from_is_err_and}
use Rattle.barycentre.proofs.attempts.by_residues.Goals as goal

pub returns-in_err-k : goal.returns-in_err-k
returns-in_err-k g c = let told = err_from_is_err_and c.from_residual.result c.from_residual.ensures.1 in rw told.1 tt

pub returns-in-Failed : goal.returns-in-Failed
returns-in-Failed g c = let h = rw c.in-Failed.is at c.in_ok-k.ensures in (inl h.0, h.1)

pub returns-in-Found : goal.returns-in-Found
returns-in-Found g c = let h = rw c.in-Found.is at c.in_ok-k.ensures in (inl h.0, h.1)

pub returns-in_err-k-2 : goal.returns-in_err-k-2
returns-in_err-k-2 g c =
    let told = err_from_is_err_and c.from_residual-in_err-k-2.result c.from_residual-in_err-k-2.ensures.1 in rw told.1 tt

pub returns-in-Failed-2 : goal.returns-in-Failed-2
returns-in-Failed-2 g c = let h = rw c.in-Failed-2.is at c.in_ok-k-2.ensures in (inr (inl h.0), h.1)

pub returns-in-Found-2 : goal.returns-in-Found-2
returns-in-Found-2 g c = let h = rw c.in-Found-2.is at c.in_ok-k-2.ensures in (inr (inl h.0), h.1)

pub returns-in_err-k-3 : goal.returns-in_err-k-3
returns-in_err-k-3 g c =
    let told = err_from_is_err_and c.from_residual-in_err-k-3.result c.from_residual-in_err-k-3.ensures.1 in rw told.1 tt

pub returns-in-Failed-3 : goal.returns-in-Failed-3
returns-in-Failed-3 g c = let h = rw c.in-Failed-3.is at c.in_ok-k-3.ensures in (inr (inr h.0), h.1)

pub returns-in-Found-3 : goal.returns-in-Found-3
returns-in-Found-3 g c = let h = rw c.in-Found-3.is at c.in_ok-k-3.ensures in (inr (inr h.0), h.1)

pub returns : goal.returns
returns g c = (rw c.in-NoInverse.is at c.in_ok-k.ensures, rw c.in-NoInverse-2.is at c.in_ok-k-2.ensures, rw c.in-NoInverse-3.is at c.in_ok-k-3.ensures)
