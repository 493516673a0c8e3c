pub mod Lines
pub mod Refusals
