pub mod CaseA
pub mod Cases
pub mod Pieces
pub mod Edges
pub mod LabelTable
