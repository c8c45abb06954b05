-- What the bytes from a gate on say.
use Rattle.std.specs.Prelude.{ℕ, ◌≤◌, ◌+◌, ◌*◌, ◌==◌, nat_le, if◌then◌else◌, ◌&&◌, List, slice_index}
use Rattle.key_journal.specs.Layout.{largest_body}
use Rattle.key_journal.specs.Opening.{is_open, is_whole, stated}
use Rattle.key_journal.specs.declared.judge.Judged.{Judged}
use Rattle.key_journal.specs.declared.judge.Judged.TheVariants as kind

-- the length behind the gate, most significant byte first
abbrev pub number : List ℕ → ℕ
number front = slice_index front 1 * 16777216 + slice_index front 2 * 65536 + slice_index front 3 * 256 + slice_index front 4

abbrev pub judged : List ℕ → ℕ → ℕ → ℕ → Judged
judged front gate end size = if slice_index front 0 == 1
    then (if (nat_le 1 (number front) && nat_le (number front) largest_body) && (nat_le (gate + 6 + number front) size && nat_le (gate + 6 + number front) end)
    then kind.Frame (number front) else kind.Damaged)
    else kind.Closed

abbrev pub IfBody : Judged → (ℕ → Type 0) → Type 0
IfBody kind.Closed P = Unit {0}
IfBody (kind.Frame n) P = P n
IfBody kind.Damaged P = Unit {0}

-- the frame behind the gate lies within the file and the area
pub record IsSized (gate end size n : ℕ) : Type 0 where
  pub some : 1 ≤ n
  pub small : n ≤ largest_body
  pub in_file : gate + 6 + n ≤ size
  pub in_area : gate + 6 + n ≤ end

-- the same of an image
abbrev pub judged_at : List ℕ → ℕ → ℕ → Judged
judged_at image gate end = if is_open image gate then (if is_whole image gate end then kind.Frame (stated image gate) else kind.Damaged) else kind.Closed
