-- What the steps of the code report.
use Rattle.std.specs.Prelude.{List, [], ◌∷◌, Option, None, Some}
use Rattle.least_key.specs.AnyNets.{net_view}
use Rattle.least_key.specs.KeyedNets.{KeyedNet}
use Rattle.least_key.specs.declared.net.Net.{Net as NetInMemory}
use Rattle.block_answers.specs.Outcomes.{Outcome, net_told}

-- the net that is reported of a block, if one is, before those of other blocks
abbrev pub with_net : Option NetInMemory → List KeyedNet → List KeyedNet
with_net None nets = nets
with_net (Some net) nets = net_view net ∷ nets

-- the nets that are reported of blocks
abbrev pub nets_told : List Outcome → List KeyedNet
nets_told [] = []
nets_told (outcome ∷ outcomes) = with_net (net_told outcome.body) (nets_told outcomes)
