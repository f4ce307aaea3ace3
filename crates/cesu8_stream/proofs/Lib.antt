-- The lemmas, in reading order. A folder has the proofs of the functions of a source file.
pub mod Characters
pub mod Shapes
pub mod Completions
pub mod Utf8Completions
pub mod Joined
pub mod First
pub mod Utf8
pub mod States
pub mod Pieces
pub mod Cuts
pub mod LossyWindows
pub mod LossyReadings
pub mod InPieces
