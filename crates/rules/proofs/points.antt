-- What the rules say at the point where a process stands.
pub mod Asked
pub mod AskedCalls
pub mod Marked
pub mod Stands
pub mod Uses
pub mod Known
pub mod Taken
