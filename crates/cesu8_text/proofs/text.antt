-- The UTF-8 of a scalar value by its number of bytes (`Shapes`), and a test of the definitions with
-- the first and last scalar value of each number (`Borders`).
pub mod Shapes
pub mod Borders
