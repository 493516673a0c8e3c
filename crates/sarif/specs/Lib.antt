pub mod Logs
pub mod Documents
pub mod Uris
pub mod LogViews
