-- Of `units_of`: what it ensures.
use Rattle.std.proofs.{Common.inl, Common.inr, lemmas.Result.err_from_is_err_and, lemmas.Result.IfOk-weaker}
use Rattle.barycentre.specs.Reached.{AreNarrow, IsReachable}
use Rattle.barycentre.proofs.placing.units_of.Goals as goal

pub returns-in_err-units : goal.returns-in_err-units
returns-in_err-units g c =
    let told = err_from_is_err_and c.from_residual.result c.from_residual.ensures.1 in
    record { positive = rw told.1 tt; normal = rw told.1 tt; limits = rw told.1 tt; reached = rw told.1 tt; fault = rw (told.1, told.2) tt }

pub returns-in-Found : goal.returns-in-Found
returns-in-Found g c =
    let h = rw c.in-Found.is at c.in_ok-units.ensures in
    record { positive = h.1.0; normal = h.1.1; limits = h.1.2; reached = inr h.0; fault = tt }

pub returns-in-Failed : goal.returns-in-Failed
returns-in-Failed g c =
    let e = c.by_fractions.ensures in let G = c.args.g.now in
    record {
      positive = e.positive;
      normal = e.normal;
      limits = e.limits;
      reached = IfOk-weaker c.by_fractions.result (λ _. AreNarrow G) (λ _. IsReachable G) (λ _ h. inl h) e.reached;
      fault = e.fault;
    }

pub returns-in-NoModulus : goal.returns-in-NoModulus
returns-in-NoModulus g c =
    let e = c.by_fractions-in-NoModulus.ensures in let G = c.args.g.now in
    record {
      positive = e.positive;
      normal = e.normal;
      limits = e.limits;
      reached = IfOk-weaker c.by_fractions-in-NoModulus.result (λ _. AreNarrow G) (λ _. IsReachable G) (λ _ h. inl h) e.reached;
      fault = e.fault;
    }
