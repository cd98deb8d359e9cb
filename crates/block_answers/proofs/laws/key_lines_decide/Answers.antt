use Rattle.block_answers.proofs.KeysDecideNets as nets
use Rattle.block_answers.proofs.laws.key_lines_decide.Goals as goal

pub returns : goal.returns
returns c = record { theorem = nets.key_lines_decide }
