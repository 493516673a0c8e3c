pub mod CheckViews
