-- What is found of a graph whose quotient graph is connected or not.
use Rattle.periodic_net.specs.Graph.{Graph, IsConnected}
use Rattle.connected_dim.specs.Refusals.{IsDisconnectedBy, IsDegenerateBy}
use Rattle.connected_dim.specs.declared.verdicts.Verdict.{Verdict}
use Rattle.connected_dim.specs.declared.verdicts.Verdict.TheVariants.{Whole, Parted, Flat}

abbrev pub IsVerdict : Graph → Verdict → Type 0
IsVerdict G Whole = IsConnected G
IsVerdict G (Parted split) = IsDisconnectedBy G split
IsVerdict G (Flat split) = IsDegenerateBy G split
