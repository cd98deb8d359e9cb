-- A net with its key, of either dimension.
use Rattle.least_key.specs.KeyedNets.{KeyedNet}
use Rattle.least_key.specs.declared.net.Net.{Net}
use Rattle.least_key.specs.declared.net.Net.TheVariants.{Flat, Space}

-- the net
abbrev pub net_view : Net → KeyedNet
net_view (Flat n) = n
net_view (Space n) = n
