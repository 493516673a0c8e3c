-- Each step of a living process owes what it should.
pub mod Owing
pub mod OwedCalls
pub mod OwedChanges
pub mod OwedTests
pub mod OwedLookups
pub mod QuietCalls
pub mod UseCalls
pub mod TableCalls
pub mod FileCalls
pub mod LookCalls
pub mod NameCalls
pub mod MoveCalls
pub mod OpenCalls
pub mod PassingCalls
