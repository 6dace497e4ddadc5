pub mod Firm
pub mod Beginnings
