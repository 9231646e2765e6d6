pub mod Answer
pub mod Legal
pub mod SupplyIsLeast
pub mod Units
pub mod WorstTrace
