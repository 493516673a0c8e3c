pub mod Paths
pub mod Entries
pub mod Watching
pub mod Samples
pub mod MoreSamples
pub mod Excuses
