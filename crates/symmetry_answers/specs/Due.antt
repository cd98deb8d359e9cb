-- What is due to the command `symmetry`, of the blocks of a file.
use Rattle.std.specs.Prelude.{◌≡◌, ◌≢◌, ℕ, ◌+◌, Bool, true, false, List, [], ◌∷◌, ◌++◌, option_copied}
use Rattle.std.specs.List.{list_all}
use Rattle.cgd_read.specs.Views.{BlockView}
use Rattle.quotient_graph.specs.{NetClasses.NetClasses, PlacedNets.PlacedNet}
use Rattle.least_key.specs.{AnyNets.net_view, KeyedNets.KeyedNet}
use Rattle.primitive_net.specs.Faults.{IsFaultOf, no_memory}
use Rattle.primitive_net.specs.PrimitiveNets.{IsPrimitiveNet}
use Rattle.primitive_net.specs.declared.fault.PrimitiveFault.{PrimitiveFault}
use Rattle.net_operations.specs.Groups.{Group, IsGroupOf}
use Rattle.net_report.specs.Headers.{header_text, size_text}
use Rattle.net_report.specs.Reports.{body_text}
use Rattle.net_report.specs.declared.command.Command.TheVariants.{Key}
use Rattle.net_report.specs.declared.outcome.Outcome.{Outcome}
use Rattle.net_report.specs.declared.outcome.OutcomeBody.{OutcomeBody}
use Rattle.net_report.specs.declared.outcome.OutcomeBody.TheVariants.{Keyed}
use Rattle.net_report.specs.declared.status.Status.{Status}
use Rattle.net_report.specs.declared.status.Status.TheVariants.{Done, SomeRefused}
use Rattle.block_answers.specs.Outcomes.{IsOutcomeOf}
use Rattle.symmetry_answers.specs.Carried.{AreSymmetriesOver}
use Rattle.symmetry_answers.specs.Texts.{refusing_text, symmetry_text}

-- the primitive graph of the net, its placement and its group are reported: the operations are all symmetries of the net itself, each
-- carried over to its primitive graph, and each once up to moves by whole cells of that
pub record IsGroupTold (n : KeyedNet) (lines : List ℕ) : Type 0 where
  pub placed : PlacedNet
  pub classes : NetClasses
  pub primitive : IsPrimitiveNet n placed classes
  pub group : Group
  pub is_group : IsGroupOf placed group
  pub of_net : AreSymmetriesOver n.placed.graph placed.graph primitive.net is_group.operations
  pub text : lines ≡ symmetry_text n placed group

-- the primitive graph of the net is reported, and why it is not placed
pub record IsFaultTold (n : KeyedNet) (lines : List ℕ) : Type 0 where
  pub fault : PrimitiveFault
  pub is_fault : IsFaultOf n.cell.graph fault
  pub some : fault ≢ no_memory
  pub text : lines ≡ refusing_text n fault

-- what is reported of a net with its key, which is accepted if it has its group
abbrev pub IsSymmetryTold : KeyedNet → Bool → List ℕ → Type 0
IsSymmetryTold n true lines = IsGroupTold n lines
IsSymmetryTold n false lines = IsFaultTold n lines

-- the lines after the header, of a block of which `key` reports this: those of a net with its key are others, and all else stays
abbrev pub IsBodyTold : OutcomeBody → Bool → List ℕ → Type 0
IsBodyTold (Keyed size net) accepted text = (lines : List ℕ) × IsSymmetryTold (net_view net) accepted lines × (text ≡ size_text size ++ lines)
IsBodyTold body accepted text = (accepted ≡ false) × (text ≡ body_text body)

-- the text of the block with this number, and whether it was accepted
pub record IsBlockTold (number : ℕ) (block : BlockView) (accepted : Bool) (text : List ℕ) : Type 0 where
  pub outcome : Outcome
  pub is_outcome : IsOutcomeOf [] Key number block outcome
  pub body : List ℕ
  pub is_body : IsBodyTold outcome.body accepted body
  pub text_is : text ≡ header_text outcome.number outcome.line (option_copied outcome.name) ++ body

-- the texts of the blocks, one after the other, with the blocks numbered from this number on
abbrev pub AreBlocksTold : ℕ → List BlockView → List Bool → List ℕ → Type 0
AreBlocksTold number [] [] text = text ≡ []
AreBlocksTold number (block ∷ blocks) (accepted ∷ each) text = (first : List ℕ) × (others : List ℕ) × IsBlockTold number block accepted first
    × AreBlocksTold (number + 1) blocks each others
    × (text ≡ first ++ others)
AreBlocksTold number blocks each text = ⊥

-- the report on all blocks, and whether each was accepted
pub record IsReportOn (blocks : List BlockView) (accepted : Bool) (text : List ℕ) : Type 0 where
  pub each : List Bool
  pub are_told : AreBlocksTold 1 blocks each text
  pub all : accepted ≡ list_all (λ (b : Bool). b) each

-- the report, by the status that goes with it
abbrev pub IsSymmetryAs : List BlockView → Status → List ℕ → Type 0
IsSymmetryAs blocks Done text = IsReportOn blocks true text
IsSymmetryAs blocks SomeRefused text = IsReportOn blocks false text
IsSymmetryAs blocks status text = ⊥
