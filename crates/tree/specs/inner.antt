-- What only contracts of inner functions cite, of this crate and of the crates above. No promise to a caller rests on it.
pub mod Below
pub mod Known
pub mod Told
