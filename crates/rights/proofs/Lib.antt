pub mod Subsets
pub mod Changes
pub mod Taken
pub mod Lists
pub mod Tests
pub mod Numbers
pub mod NeedTable
mod UseRows
pub mod Words
