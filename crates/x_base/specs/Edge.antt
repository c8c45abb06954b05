-- What one call of a source or a sink does: to the bytes where they are shown, and to the count of
-- faults (this project's profile).
use Rattle.std.specs.Prelude.{◌≡◌, ◌≤◌, ◌<◌, ◌+◌, ◌^◌, ◌⊎◌, ◌++◌, ℕ, List, [], length, take, drop, Option, Some, IfSome, Result, IfOk, OnErr}

-- a count of faults rose in a call, or stands at the end of a u64, where it can rise no more
abbrev pub Rose : ℕ → ℕ → Type 0
Rose before after = (before < after) ⊎ (2 ^ 64 ≤ after + 1)

-- the first `n` bytes that were left are now the first `n` of the buffer; none only at the end
abbrev pub TakesFront : Option (List ℕ) → Option (List ℕ) → ℕ → List ℕ → Type 0
TakesFront before after n buf = IfSome before (λ xs. (after ≡ Some (drop n xs)) × (n ≤ length xs)
    × (take n buf ≡ take n xs) × (n ≡ 0 → xs ≡ []))

-- what was written grew by these bytes
abbrev pub AppendsTo : Option (List ℕ) → Option (List ℕ) → List ℕ → Type 0
AppendsTo before after piece = IfSome before (λ xs. after ≡ Some (xs ++ piece))

-- of this text a prefix was written
abbrev pub WrotePrefix : Option (List ℕ) → Option (List ℕ) → List ℕ → Type 0
WrotePrefix before after text = IfSome before (λ xs. (n : ℕ) × (n ≤ length text) × (after ≡ Some (xs ++ take n text)))

-- a call of a source with this buffer behind it: what it answers, what is left, and the count of faults
pub record IsTake {E : Type 0} (buf : List ℕ) (result : Result ℕ E) (before after : Option (List ℕ)) (faults later : ℕ) : Type 0 where
  pub bound : IfOk result (λ n. n ≤ length buf)
  pub front : IfOk result (λ n. TakesFront before after n buf)
  pub fault : OnErr result (Rose faults later)
  pub kept : OnErr result (after ≡ before)
  pub climbs : faults ≤ later

-- a call of a sink with this piece: how much it takes of it, what was written, and the count of faults
pub record IsPut {E : Type 0} (piece : List ℕ) (result : Result ℕ E) (before after : Option (List ℕ)) (faults later : ℕ) : Type 0 where
  pub bound : IfOk result (λ n. n ≤ length piece)
  pub moves : 0 < length piece → IfOk result (λ n. 0 < n)
  pub appends : IfOk result (λ n. AppendsTo before after (take n piece))
  pub fault : OnErr result (Rose faults later)
  pub kept : OnErr result (after ≡ before)
  pub climbs : faults ≤ later
