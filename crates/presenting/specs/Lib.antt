-- What the answers of the sends say.
pub mod Said
pub mod Inner
