-- What a step does lies in an outcome of its instruction.
pub mod Outcomes
pub mod CallOutcomes
pub mod TakenOutcomes
pub mod Plain
pub mod Failing
