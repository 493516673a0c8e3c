pub mod EscapingLaws
pub mod FrameLaws
pub mod Pushes
pub mod SafeTexts
pub mod StopLaws
pub mod WireLaws
