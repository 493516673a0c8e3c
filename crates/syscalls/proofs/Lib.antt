pub mod Tests
pub mod Numbers
pub mod Pairing
mod Growth
pub mod Finding
pub mod Walked
pub mod AtOnce
pub mod Unwaiting
pub mod Forking
pub mod Queues
pub mod Targets
pub mod Keeping
pub mod Removing
pub mod Renaming
pub mod Calling
pub mod Settling
pub mod Using
