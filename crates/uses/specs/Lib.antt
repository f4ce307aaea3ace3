-- The definitions that the contracts of this crate cite, one module for each use.
pub mod ClassFile
pub mod Texts
pub mod KeyStore
pub mod Repair
pub mod StringFile
pub mod Entry
pub mod Arena
pub mod Pieces
