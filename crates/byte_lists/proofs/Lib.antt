pub mod Facts
pub mod Written
pub mod Tables
pub mod Digits
