pub mod Faults
pub mod FaultViews
pub mod Files
pub mod Statuses
pub mod Told
