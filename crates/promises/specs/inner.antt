-- What the promises are reached by. None of it is said in a promise.
pub mod Core
pub mod Serving
