-- Of `rest_of`: what `less_times` requires; the clauses `less`, `rest` and `same`.
use Rattle.std.proofs.{Common.rules, Common.arith, lemmas.Int.ints}
use Rattle.vecdim.proofs.Lattice.{exchange_step}
use Rattle.vecdim.proofs.columns.rest_of.Goals as goal

pub less_times-requires-clause-q_to : goal.less_times-requires-clause-q_to
less_times-requires-clause-q_to c = omega (arith, ints)

pub less_times-requires-2-clause-q_to : goal.less_times-requires-2-clause-q_to
less_times-requires-2-clause-q_to c = omega (arith, ints)

pub returns-clause-less : goal.returns-clause-less
returns-clause-less c = omega (arith, ints)

pub returns-clause-rest : goal.returns-clause-rest
returns-clause-rest c = record {
  x_from = omega (arith, ints);
  x_to = omega (arith, ints);
  y_from = search rules;
  y_to = search rules;
  z_from = search rules;
  z_to = search rules;
}

pub returns-clause-same : goal.returns-clause-same
returns-clause-same c =
    let y = c.less_times.ensures.same in let z = c.less_times-2.ensures.same in
    exchange_step c.divide-parts.result.quotient y.0 z.0 (search rules) (search rules) (search rules)
