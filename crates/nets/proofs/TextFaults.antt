-- The fault that comes of a refusal.
use Rattle.std.proofs.Common.{◌≢◌, ℕ, List, Result, Some, sym, subst, arith}
use Rattle.std.specs.{Prelude.IfErr, Result.IsErrAnd}
use Rattle.periodic_net.specs.Graph.{Graph}
use Rattle.cgd_read.specs.{Graphs.graph_of, Views.RawView}
use Rattle.least_key.specs.declared.refusal.Refusal.{Refusal}
use Rattle.nets.specs.declared.text_fault.TextFault.TheVariants.{NoGraph, TooManyBlocks, Refused, NoMemory}
use Rattle.nets.specs.{Refused.IsRefusedBy, Refused.IsTrueInOrder, Texts.IsFirstIn, Texts.IsTextFaultIn, TextFaults.IsFrom}
use Rattle.nets.specs.declared.text_fault.TextFault.{TextFault}
use Rattle.least_key.specs.declared.refusal.Refusal.TheVariants as refusal

-- what a refusal reports is true, unless memory was refused
true_in_order : (G : Graph) (given : Refusal) → IsRefusedBy G given → given ≢ refusal.NoMemory → IsTrueInOrder G given
true_in_order G given k l = search arith

-- a text whose first graph is refused gives the fault of the refusal
fault_in : (text : List ℕ) (raw : RawView) (given : Refusal) (fault : TextFault) → IsFirstIn text (Some raw) → IsRefusedBy (graph_of raw) given
    → IsFrom given fault → IsTextFaultIn text fault
fault_in text raw given NoGraph first h from = absurd from
fault_in text raw given TooManyBlocks first h from = absurd from
fault_in text raw given (Refused told) first h from =
    subst (λ (r : Refusal). IsTextFaultIn text (Refused r)) (sym from.0) (record
    { raw = raw; first = first; is_true = true_in_order (graph_of raw) given h from.1; told = from.1 })
fault_in text raw given NoMemory first h from = tt

-- so does a result that is that fault
pub refused_in : {X : Type 0} (result : Result X TextFault) (text : List ℕ) (raw : RawView) (given : Refusal) → IsFirstIn text (Some raw)
    → IsRefusedBy (graph_of raw) given → IsErrAnd result (IsFrom given)
    → IfErr result (IsTextFaultIn text)
refused_in result text raw given k l p = search (arith, fault_in)
