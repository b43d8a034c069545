-- What functions of the player are held to beside what a line does: used by no definition outside this folder.
pub mod Play
