-- Fewer than sixteen bytes as one vector, made of their first and their last bytes: the result of
-- `ends` in `lanes/padded.rt`. The width n of an end is more than half of the length, so the two
-- ends have all bytes. The bytes in the middle are in both ends: `IN_ENDS` there selects each byte
-- once. An offset after the end counts as a zero, so the vector of no bytes is all zeros.
use Rattle.std.specs.Prelude.{ℕ, ◌*◌, ◌-◌, nat_le, if◌then◌else◌, List, ◌++◌, length, take, drop, map, replicate, slice_index}
use Rattle.std.specs.List.{range_with_len}

-- The first n bytes and the last n, followed by copies of the first byte up to sixteen.
abbrev pub two_ends : ℕ → List ℕ → List ℕ
two_ends n bytes =
    let both = take n bytes ++ drop (length bytes - n) bytes in
    map (slice_index both) (range_with_len 0 (2 * n)) ++ replicate (16 - 2 * n) (slice_index both 0)

-- `two_ends` for the greatest width of 8, 4, 2 and 1 that the bytes have.
abbrev pub ends_of : List ℕ → List ℕ
ends_of bytes =
    if nat_le 8 (length bytes) then two_ends 8 bytes
    else if nat_le 4 (length bytes) then two_ends 4 bytes
    else if nat_le 2 (length bytes) then two_ends 2 bytes
    else replicate 16 (slice_index bytes 0)
