-- What the contracts of `calls` cite.
pub mod Counts
