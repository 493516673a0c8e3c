-- Expansions of certificates of versions 2 and 3.
pub mod Expanded
pub mod Channelled
pub mod Goes
pub mod Arriving
pub mod FitBounds
pub mod FitOutcomes
pub mod RisingPoints
pub mod GrownExpansions
pub mod Twice
