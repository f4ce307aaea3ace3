-- The order of encodings and of UTF-8 ranks, and the laws that combine several lemmas.
pub mod Below
pub mod UnitOrder
pub mod Lawful
pub mod RankOrder
