pub mod Refused
pub mod Tellings
pub mod Covered
mod CoveringRows
pub mod Counted
mod WordingRows
pub mod Observing
mod ObservedRows
pub mod Writing
mod FoldedLines
mod ListedLines
mod ListedRows
