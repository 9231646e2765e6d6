pub mod Demand3
pub mod Figures
pub mod Ground
pub mod Judging
pub mod Synchronous
pub mod inner
