-- A literal is read byte by byte.
use Rattle.std.proofs.Common.{◌≡◌, ℕ, zero, suc, ◌<◌, List, [], ◌∷◌, ◌++◌, length, take, Some, refl, sym, ap, ◌∙◌, append_assoc, arith, get_or}
use Rattle.std.specs.Prelude.{slice_get}
use Rattle.std.proofs.lemmas.List.{append_cancel_left}
use Rattle.pay_auth.specs.Scanning.{Stops, literal_form}

-- the byte at a place, and what is behind it
parted : (text : List ℕ) (i byte : ℕ) → slice_get text i ≡ Some byte → (mid : List ℕ) × (text ≡ take i text ++ byte ∷ mid)
parted [] i byte is = absurd (cc is)
parted (b ∷ text) zero byte is = let same : b ≡ byte = cc is in (text, ap (λ (x : ℕ). x ∷ text) same)
parted (b ∷ text) (suc i) byte is = let rest = parted text i byte is in (rest.0, ap (λ (l : List ℕ). b ∷ l) rest.1)

module _ (text old : List ℕ) (i : ℕ) where
  -- the next byte is another, or there is none
  pub literal_stops : (now : List ℕ) (byte : ℕ) → slice_get text i ≡ Some byte → old ≡ take i text ++ now → ((after : List ℕ) → now ≡ byte ∷ after → ⊥) → Stops (literal_form text) old now
  literal_stops now byte at was other =
      let part = parted text i byte at in
      record {
        lacks = record {
          none = λ x more fits is.
              other (part.0 ++ more)
              (append_cancel_left (take i text) now (byte ∷ (part.0 ++ more))
              (sym was ∙ (is ∙ (ap (λ (l : List ℕ). l ++ more) part.1 ∙ append_assoc (take i text) (byte ∷ part.0) more))));
        };
        front = take i text;
        is = was;
        begins = record { value = tt; rest = byte ∷ part.0; fits = tt; is = sym part.1 };
        longest = λ b after is e.
            let tails : b ∷ e.rest ≡ byte ∷ part.0 = append_cancel_left (take i text) (b ∷ e.rest) (byte ∷ part.0) (sym (append_assoc (take i text) (b ∷ []) e.rest) ∙ (e.is ∙ part.1)) in
            let same : b ≡ byte = cc tails in
            other after (is ∙ ap (λ (x : ℕ). x ∷ after) same);
      }

pub some_at : (text : List ℕ) (i : ℕ) → i < length text → slice_get text i ≡ Some (get_or text i 0)
some_at [] i few = absurd (omega (arith, few))
some_at (b ∷ text) zero few = refl
some_at (b ∷ text) (suc i) few = some_at text i (omega (arith, few))
