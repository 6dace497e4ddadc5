pub mod StatusFacts
pub mod ReadBack
pub mod Within
