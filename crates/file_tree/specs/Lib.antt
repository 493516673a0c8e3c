pub mod Places
pub mod PlaceViews
pub mod Nodes
pub mod Changes
pub mod Refusals
pub mod WellFormed
pub mod Views
