-- Worked rows, by computation.
pub mod Samples
pub mod Rows
pub mod UseRows
mod FurtherRows
pub mod OutcomeRows
pub mod SettledRows
pub mod Probed
pub mod ProbedMarks
mod MarkRows
pub mod ExpansionRows
pub mod WithinRows
