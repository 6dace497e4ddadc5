pub mod Laws
pub mod Opening
