-- Processes of marked programs in the mode, whatever they do.
pub mod Unsaid
pub mod Ceilings
pub mod Confining
pub mod Parts
pub mod Calls
pub mod Leaves
pub mod Entering
pub mod About
