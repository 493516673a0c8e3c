pub mod PlaceLaws
pub mod NearLaws
pub mod TextLaws
mod Rows
