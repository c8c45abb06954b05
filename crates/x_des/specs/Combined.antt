-- The combined tables (this project's profile): each S-box of FIPS 46 followed by its P.
use Rattle.std.specs.Prelude.{ℕ, ◌-◌, ◌*◌, ◌++◌, [], Bool, false, List, replicate, slice_index_or}
use Rattle.x_des.specs.Tables.{permutation, s_boxes}
use Rattle.x_des.specs.Bits.{bits_of, number, pick}
use Rattle.x_des.specs.Des.{substituted}

-- a list of 32 bits with these four in the places of S-box `which + 1` and zeros elsewhere
abbrev pub placed : ℕ → List Bool → List Bool
placed which four = replicate (4 * which) false ++ four ++ replicate (28 - 4 * which) false

-- P of the output of S-box `which + 1` for six bits, in the box's places among zeros
unfoldable pub box_and_permutation_of : ℕ → ℕ → ℕ
box_and_permutation_of which six = number (pick permutation (placed which (substituted (slice_index_or s_boxes which []) (bits_of 6 six))))
