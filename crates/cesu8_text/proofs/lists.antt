-- Lists of bytes, without reference to an encoding.
pub mod Elements
