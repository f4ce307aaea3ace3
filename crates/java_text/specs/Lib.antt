-- The definitions that the contracts of this crate cite, in reading order.
pub mod Form
pub mod Fault
pub mod Read
pub mod Slices
pub mod Laws
