-- Fields of characteristic two and what their power sums tell: the minimum distance, and the polynomials that have the locators of errors for roots.
pub mod Field
pub mod PowerSums
pub mod Vandermonde
pub mod Support
pub mod Locators
pub mod Distance
pub mod Elements
pub mod Tables
pub mod Values
pub mod MinimumDistance
