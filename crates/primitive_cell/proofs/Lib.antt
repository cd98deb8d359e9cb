pub mod GivenEdges
pub mod MadePrimitive
pub mod WholeGraph
