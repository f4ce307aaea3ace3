-- The definitions that the public contracts cite, in reading order. Those of the crates below are
-- public here, so that callers need to know this crate alone.
pub use Rattle.cesu8_text.specs.Text
pub use Rattle.cesu8_text.specs.Utf16
pub use Rattle.cesu8_text.specs.Encoding
pub use Rattle.cesu8_encode.specs.EncodedOffsets
pub use Rattle.cesu8_text.specs.Class
pub use Rattle.cesu8_bytes.specs.Kernels
pub use Rattle.cesu8_text.specs.Reading
pub use Rattle.cesu8_decode.specs.DecodedOffsets
pub use Rattle.cesu8_text.specs.Fronts
pub use Rattle.cesu8_text.specs.Cutting
pub mod Cow
pub mod Counted
pub mod Fault
pub mod Slices
pub mod Codec
pub use Rattle.cesu8_bytes.specs.Pairs
pub use Rattle.cesu8_bytes.specs.Packing
pub use Rattle.cesu8_bytes.specs.TextChunks
pub use Rattle.cesu8_text.specs.Order
pub use Rattle.cesu8_text.specs.Laws
pub mod Calls
