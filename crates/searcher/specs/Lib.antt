pub mod Versions
pub mod Flat
pub mod Shortening
pub mod PointStateViews
