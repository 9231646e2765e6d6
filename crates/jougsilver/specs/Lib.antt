pub mod Answer
pub mod Host
