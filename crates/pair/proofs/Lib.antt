pub mod Untaken
pub mod Lends
pub mod Following
pub mod Continued
