-- What bounds say of values, and of a table.
pub mod IntervalLaws
pub mod Describing
pub mod Numbers
