pub mod Lines
pub mod Listing
pub mod Text
pub mod inner
