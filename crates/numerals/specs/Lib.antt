pub mod Decimal
pub mod Hexadecimal
