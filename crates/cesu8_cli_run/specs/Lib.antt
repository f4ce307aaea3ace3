-- The definitions of what the program writes: its commands, their output, and its errors.
pub mod Command
pub mod Answer
pub mod Faults
