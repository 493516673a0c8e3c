pub mod Same
pub mod SetLaws
pub mod FlagLaws
pub mod RightRows
mod RoleLaws
mod TextRows
