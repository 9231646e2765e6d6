-- The judge's answers as numbers (RULES 7, 8, 12): a refusal is its number, and each part of an answer says by itself that it was refused. The definitions
-- and the theorems speak of these; a reading says which of them each answer of the program is.
pub mod Answer
pub mod Judged
pub mod Margined
pub mod Smallest
pub mod Tight
