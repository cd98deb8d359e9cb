-- The names of the kinds of faults, as they are printed.
use Rattle.std.specs.Prelude.{ℕ, List, codes}
use Rattle.cgd_read.specs.declared.block.BlockFaultKind.{BlockFaultKind}
use Rattle.cgd_read.specs.declared.block.BlockFaultKind.TheVariants.{BadToken, RowLength, MixedDimension, UnknownField, NoEdges, SelfEdge, ShiftRange}
use Rattle.cgd_read.specs.declared.block.BlockFaultKind.TheVariants.{TooManyVertices, TooManyEdges, NameTooLong, NoEnd, TwoNames}

abbrev pub kind_name : BlockFaultKind → List ℕ
kind_name BadToken = codes "BadToken"
kind_name RowLength = codes "RowLength"
kind_name MixedDimension = codes "MixedDimension"
kind_name UnknownField = codes "UnknownField"
kind_name NoEdges = codes "NoEdges"
kind_name SelfEdge = codes "SelfEdge"
kind_name ShiftRange = codes "ShiftRange"
kind_name TooManyVertices = codes "TooManyVertices"
kind_name TooManyEdges = codes "TooManyEdges"
kind_name NameTooLong = codes "NameTooLong"
kind_name NoEnd = codes "NoEnd"
kind_name TwoNames = codes "TwoNames"
