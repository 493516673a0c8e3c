pub mod Lists
pub mod Steps
pub mod Listing
mod Rows
mod ListedRows
pub mod BeyondRows
mod UnneededRows
mod WarningRows
mod CallLaws
