-- What the definitions of this crate speak of, in the numbers of RULES 12; beside them stands how what the code answers is read as such.
pub mod Load
pub mod Loaded
pub mod Offer
pub mod Outcome
pub mod Placed
pub mod Turn
