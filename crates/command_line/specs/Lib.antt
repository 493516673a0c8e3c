pub mod Commands
pub mod OrderViews
pub mod Orders
