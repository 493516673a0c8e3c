pub mod Errors
pub mod FaultResults
