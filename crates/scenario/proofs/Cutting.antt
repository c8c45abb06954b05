-- The first word of a line and the first line of a text.
use Rattle.std.proofs.Common.{◌≡◌, ◌≢◌, ◌==◌, ℕ, zero, suc, ◌+◌, ◌-◌, ◌<◌, ◌≤◌, Bool, true, false, List, [], ◌∷◌, length, take, drop, Some, None, arith, refl, sym, ap, ◌∙◌}
use Rattle.std.specs.List.{onto_first, position, position_or_len}
use Rattle.std.proofs.lemmas.Bool.Decides.{nat_tests}
use Rattle.std.proofs.lemmas.List.{take_rest}
use Rattle.scenario.specs.Words.{is_blank, words_of, words_behind}
use Rattle.scenario.specs.Rows.{Row, put_before, rows_of}

suc_more : (n : ℕ) → suc n + 1 ≡ suc (n + 1)
suc_more n = omega arith

module _ (test : ℕ → Bool) where
  -- where the first byte that passes stands
  first_at : (bytes : List ℕ) (at : ℕ) → position test bytes ≡ Some at → (position_or_len test bytes ≡ at) × (at < length bytes)
  first_at bytes at e = grind (arith, nat_tests)

  none_at : (bytes : List ℕ) → position test bytes ≡ None → length bytes ≤ position_or_len test bytes
  none_at bytes e = grind (arith, nat_tests)

-- ---- words

word_alone_step : (b : ℕ) (bs : List ℕ) (t : Bool) → is_blank b ≡ t → length (b ∷ bs) ≤ position_or_len is_blank (b ∷ bs)
    → (length bs ≤ position_or_len is_blank bs → words_of bs ≡ bs ∷ []) → words_of (b ∷ bs) ≡ (b ∷ bs) ∷ []
word_alone_step b bs true e h next = absurd (let k = rw e at h in omega arith)
word_alone_step b bs false e h next = rw e (ap (onto_first b) (next (let k = rw e at h in omega arith)))

whole_word : (bytes : List ℕ) → length bytes ≤ position_or_len is_blank bytes → words_of bytes ≡ bytes ∷ []
whole_word [] h = refl
whole_word (b ∷ bs) h = word_alone_step b bs (is_blank b) refl h (whole_word bs)

pub word_alone : (bytes : List ℕ) → position is_blank bytes ≡ None → words_of bytes ≡ bytes ∷ words_behind []
word_alone bytes e = whole_word bytes (none_at is_blank bytes e)

word_step : (b : ℕ) (bs : List ℕ) (at : ℕ) (t : Bool) → is_blank b ≡ t → position_or_len is_blank (b ∷ bs) ≡ at
    → ((m : ℕ) → position_or_len is_blank bs ≡ m → words_of bs ≡ take m bs ∷ words_behind (drop m bs))
    → words_of (b ∷ bs) ≡ take at (b ∷ bs) ∷ words_behind (drop at (b ∷ bs))
word_step b bs zero true e p next = rw e refl
word_step b bs (suc at) true e p next = absurd (let k = rw e at p in omega arith)
word_step b bs zero false e p next = absurd (let k = rw e at p in omega arith)
word_step b bs (suc at) false e p next = rw e (ap (onto_first b) (next at (let k = rw e at p in omega arith)))

word_first : (bytes : List ℕ) (at : ℕ) → position_or_len is_blank bytes ≡ at → words_of bytes ≡ take at bytes ∷ words_behind (drop at bytes)
word_first [] zero p = refl
word_first [] (suc at) p = absurd (omega arith)
word_first (b ∷ bs) at p = word_step b bs at (is_blank b) refl p (word_first bs)

pub word_at : (bytes : List ℕ) (at : ℕ) → position is_blank bytes ≡ Some at → words_of bytes ≡ take at bytes ∷ words_behind (take (length bytes - at) (drop at bytes))
word_at bytes at e = rw take_rest (word_first bytes at (first_at is_blank bytes at e).0)

-- ---- lines

abbrev is_feed : ℕ → Bool
is_feed b = b == 10

whole_step : (b : ℕ) (bs : List ℕ) (t : Bool) → is_feed b ≡ t → length (b ∷ bs) ≤ position_or_len is_feed (b ∷ bs)
    → (length bs ≤ position_or_len is_feed bs → bs ≢ [] → rows_of bs ≡ record { line = bs; ended = false } ∷ [])
    → rows_of (b ∷ bs) ≡ record { line = b ∷ bs; ended = false } ∷ []
whole_step b bs true e h next = absurd (let k = rw e at h in omega arith)
whole_step b [] false e h next = rw e refl
whole_step b (c ∷ bs) false e h next = rw e (ap (put_before b) (next (let k = rw e at h in omega arith) (λ p. cc)))

whole : (bytes : List ℕ) → length bytes ≤ position_or_len is_feed bytes → bytes ≢ [] → rows_of bytes ≡ record { line = bytes; ended = false } ∷ []
whole [] h filled = absurd (filled refl)
whole (b ∷ bs) h filled = whole_step b bs (is_feed b) refl h (whole bs)

pub last_row : (bytes : List ℕ) → position is_feed bytes ≡ None → bytes ≢ [] → rows_of bytes ≡ record { line = bytes; ended = false } ∷ []
last_row bytes e filled = whole bytes (none_at is_feed bytes e) filled

-- an ended line, and the lines of these bytes
abbrev fed_row : List ℕ → List ℕ → List Row
fed_row front rest = record { line = front; ended = true } ∷ rows_of rest

feed_step : (b : ℕ) (bs : List ℕ) (at : ℕ) (t : Bool) → is_feed b ≡ t → position_or_len is_feed (b ∷ bs) ≡ at → at < length (b ∷ bs)
    → ((m : ℕ) → position_or_len is_feed bs ≡ m → m < length bs → rows_of bs ≡ record { line = take m bs; ended = true } ∷ rows_of (drop (m + 1) bs))
    → rows_of (b ∷ bs) ≡ record { line = take at (b ∷ bs); ended = true } ∷ rows_of (drop (at + 1) (b ∷ bs))
feed_step b bs zero true e p h next = rw e refl
feed_step b bs (suc at) true e p h next = absurd (let k = rw e at p in omega arith)
feed_step b bs zero false e p h next = absurd (let k = rw e at p in omega arith)
feed_step b bs (suc at) false e p h next =
    let first : rows_of (b ∷ bs) ≡ fed_row (take (suc at) (b ∷ bs)) (drop (suc (at + 1)) (b ∷ bs)) =
    rw e (ap (put_before b) (next at (let k = rw e at p in omega arith) (omega arith))) in
    first ∙ ap (λ (k : ℕ). fed_row (take (suc at) (b ∷ bs)) (drop k (b ∷ bs))) (sym (suc_more at))

fed : (bytes : List ℕ) (at : ℕ) → position_or_len is_feed bytes ≡ at → at < length bytes → rows_of bytes ≡ record { line = take at bytes; ended = true } ∷ rows_of (drop (at + 1) bytes)
fed [] at p h = absurd (omega arith)
fed (b ∷ bs) at p h = feed_step b bs at (is_feed b) refl p h (fed bs)

pub ended_row : (bytes : List ℕ) (at : ℕ) → position is_feed bytes ≡ Some at
    → rows_of bytes ≡ record { line = take at bytes; ended = true } ∷ rows_of (take (length bytes - (at + 1)) (drop (at + 1) bytes))
ended_row bytes at e = let found = first_at is_feed bytes at e in rw take_rest (fed bytes at found.0 found.1)
