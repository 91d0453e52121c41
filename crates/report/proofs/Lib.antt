pub mod Written
pub mod Lines
pub mod Filled
pub mod Longer
