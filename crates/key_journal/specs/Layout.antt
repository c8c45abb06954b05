-- The places and lengths of a journal's file (this project's profile).
use Rattle.std.specs.Prelude.{ℕ}

-- each of the two areas
abbrev pub area_size : ℕ
area_size = 8388600

-- where the first area begins, behind the gate of the file, the selector and the magic
abbrev pub first_start : ℕ
first_start = 16

-- where the second area begins, and the first one ends
abbrev pub second_start : ℕ
second_start = 8388616

-- the largest body of a frame
abbrev pub largest_body : ℕ
largest_body = 4194304
