-- The lemmas of this crate, in reading order.
pub mod Forms
pub mod Lawful
pub mod FormSlices
