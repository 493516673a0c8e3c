-- What is known of what a lookup finds.
pub mod Findings
pub mod OpenedPaths
pub mod FoundIn
pub mod LooksIn
