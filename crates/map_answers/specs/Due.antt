-- What is due to the command `same`, of the blocks of a file.
use Rattle.std.specs.Prelude.{ℕ, false, List, []}
use Rattle.cgd_read.specs.Views.{BlockView}
use Rattle.least_key.specs.KeyedNets.{KeyedNet}
use Rattle.net_report.specs.declared.command.Command.TheVariants.{Key}
use Rattle.block_answers.specs.Reports.{IsReport}
use Rattle.net_report.specs.declared.status.Status.{Status}
use Rattle.net_report.specs.declared.status.Status.TheVariants.{Done, SomeRefused}
use Rattle.map_answers.specs.Nets.{AreNetsOf}
use Rattle.net_certificate.specs.NetItems.{IsMapsTextOf}

-- each block is a graph that has its key, and this is the text of the maps from the net of the first to those of the others
pub record AreMapped (blocks : List BlockView) (text : List ℕ) : Type 0 where
  pub nets : List KeyedNet
  pub are_nets : AreNetsOf blocks nets
  pub told : IsMapsTextOf nets text

-- the text of the maps if each block is accepted, and else the report of `key`, by the status that goes with it
abbrev pub IsSameAs : List BlockView → Status → List ℕ → Type 0
IsSameAs blocks Done text = AreMapped blocks text
IsSameAs blocks SomeRefused text = IsReport Key [] blocks false text
IsSameAs blocks status text = ⊥
