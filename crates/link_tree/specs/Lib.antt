pub mod LinkViews
pub mod Links
pub mod MatchViews
