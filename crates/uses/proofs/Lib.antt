-- The lemmas of this crate, one module for each use that needs some.
pub mod JoinedTexts
pub mod LostBytes
pub mod OrderedKeys
pub mod CopiedStrings
pub mod FilledArena
pub mod ReadPieces
