pub mod Writing
pub mod Reading
pub mod ReadAt
pub mod Pairing
pub mod RoundTrip
pub mod Reply
