-- What functions of the reader are held to beside the format: used by no definition outside this folder.
pub mod Within
pub mod Word
pub mod Kind
pub mod Line
