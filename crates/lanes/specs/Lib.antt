-- Nothing in this crate has to be believed: what its functions give.
pub mod Steps
