pub mod Digits
pub mod Pairs
pub mod Written
pub mod HexWritten
