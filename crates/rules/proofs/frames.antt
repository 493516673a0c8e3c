-- What a step of a process leaves of a world, by kinds of change.
pub mod KeptTrees
pub mod GrantPlaces
pub mod KeptWalks
pub mod Frames
pub mod ChangeKinds
pub mod PairClasses
pub mod Arrivals
pub mod Bounded
pub mod OwnRows
pub mod OwnTables
