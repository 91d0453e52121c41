-- Laws of words place by place: tests, counting, distances, storing.
pub mod Tests
pub mod Counting
pub mod Differences
pub mod Filling
pub mod Placing
