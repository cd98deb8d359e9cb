use Rattle.net_certificate.proofs.laws.found_maps_pass.Goals as goal
use Rattle.net_certificate.proofs.FoundMaps.{found_maps_pass}

pub returns : goal.returns
returns c = record { theorem = found_maps_pass }
