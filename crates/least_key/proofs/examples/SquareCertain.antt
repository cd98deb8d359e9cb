-- The square net is certain: its elimination forms no number.
use Rattle.std.proofs.{Common.inl, lemmas.List.Elements.All-nil}
use Rattle.periodic_net.specs.Examples.{square_net}
use Rattle.key_theory.proofs.CallerLemmas.{square_keyable}
use Rattle.elimination.specs.Faults.{IsGood}
use Rattle.fraction.specs.Reduced.{IsNarrow}
use Rattle.least_key.specs.Certain.{IsCertain}

pub square_certain : IsCertain square_net
square_certain = record { keyable = square_keyable; reached = inl (record { all = All-nil (IsGood 0 IsNarrow) }) }
