-- In reading order: lists of bytes, the lanes of vectors, and surrogate pairs as words.
--
-- These functions of the kit are in many statements, also of the crates above:
-- - `get_or xs i d` is element i of the list xs, or d if there is none.
-- - `chunk a n xs` is the n elements from a on: a load. `put_chunk a xs ys` is xs with ys in place
--   of the elements from a on: a store.
-- - `zip2 f xs ys` applies f lane by lane. `sel_l ts xs ys` has the lane of xs if the test in ts
--   holds, and otherwise that of ys.
-- - `pick_l` and `swz_l` shuffle: they have the elements of a list at given indices. In `swz_l`,
--   an index of 128 or more gives 0.
-- - `mask_l ts` is the number whose bits are the tests ts, the first in the lowest bit.
-- - `top 7 b` is whether the highest bit of the byte b is set.
-- - `Each1 P xs` says that P holds of each element.
pub mod lists
pub mod vectors
pub mod chunks
