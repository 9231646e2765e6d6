-- What only contracts inside this crate cite. A caller's promise rests on none of it.
pub mod Paged
