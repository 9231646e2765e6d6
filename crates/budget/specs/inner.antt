-- What only contracts inside this crate cite. No promise to a caller rests on it.
pub mod Edits
pub mod Stored
