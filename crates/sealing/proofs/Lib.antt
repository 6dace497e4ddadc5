pub mod Body
pub mod Known
