pub mod UriLaws
pub mod LogLaws
mod Rows
