-- What holds of each world of a run.
pub mod Walks
pub mod Invariant
pub mod FirstStates
