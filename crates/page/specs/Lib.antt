pub mod Escaping
pub mod Layout
pub mod FrameViews
pub mod WireViews
pub mod Letters
