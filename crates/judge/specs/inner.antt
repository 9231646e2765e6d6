-- What only contracts inside this crate cite. No promise to a caller rests on it.
pub mod MarginSays
pub mod Raise
pub mod Scan
pub mod Steps
pub mod Tried
pub mod Whole
