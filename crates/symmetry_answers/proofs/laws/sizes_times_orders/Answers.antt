use Rattle.symmetry_answers.proofs.Counts.{sizes_times_orders}
use Rattle.symmetry_answers.proofs.laws.sizes_times_orders.Goals as goal

pub returns : goal.returns
returns c = record { theorem = sizes_times_orders }
