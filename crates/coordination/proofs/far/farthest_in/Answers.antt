use Rattle.coordination.proofs.Boxes.{farthest_of}
use Rattle.coordination.proofs.far.farthest_in.Goals as goal

pub returns-clause-walks : goal.returns-clause-walks
returns-clause-walks g c = farthest_of c.args.cell.now.graph c.requires.graph c.args.axis c.raise_ten_times.new.far c.greatest.result c.raise_ten_times.ensures
    c.greatest.ensures.all
