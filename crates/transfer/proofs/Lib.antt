pub mod UseTests
pub mod Repeated
pub mod Keeping
pub mod EachTested
pub mod Known
pub mod Failures
pub mod NothingPassed
pub mod Stepping
