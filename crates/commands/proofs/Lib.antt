pub mod Rows
pub mod Accepted
pub mod Attacked
pub mod Listings
pub mod Begun
pub mod Verdicts
