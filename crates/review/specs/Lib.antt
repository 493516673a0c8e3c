pub mod PlayedViews
