pub mod Rule
pub mod WordRule
