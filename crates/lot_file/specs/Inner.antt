-- What functions below the calls are held to: no sentence of 02, and used by no definition outside such folders.
pub mod Search
pub mod Contents
pub mod Moving
