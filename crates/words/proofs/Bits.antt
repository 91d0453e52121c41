-- Laws of the bits of numbers and of bytes.
pub mod Numbers
pub mod Bytes
