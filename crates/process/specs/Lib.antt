pub mod State
pub mod Views
