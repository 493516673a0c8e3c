pub mod AnswerViews
pub mod CallViews
pub mod MayCall
pub mod Shows
pub mod Views
