mod FlatRows
pub mod Behind
pub mod Valid
pub mod Taken
pub mod FlatGrows
pub mod KnownLimits
pub mod VersionLaws
pub mod Authorities
pub mod Shortened
pub mod Short
pub mod Widened
pub mod ToldFlat
