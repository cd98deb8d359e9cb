-- Finite sets that are counted by numberings, and the pigeonhole principle.
pub mod Numbering
