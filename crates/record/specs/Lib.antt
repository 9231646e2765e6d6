pub mod Field
pub mod Row
pub mod Record
pub mod Layout
pub mod Writing
pub mod Reply
pub mod inner
