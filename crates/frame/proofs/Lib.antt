pub mod Parts
pub mod Filled
pub mod Tested
pub mod Laws
pub mod Made
