-- The separators in front of bytes.
use Rattle.std.proofs.Common.{◌≡◌, ℕ, zero, suc, ◌+◌, ◌≤◌, Bool, true, false, List, [], ◌∷◌, length, take, drop, refl, sym, ◌∙◌, ap, subst, arith}
use Rattle.std.specs.List.{prefix_len}
use Rattle.std.proofs.lemmas.Bool.{and_from}
use Rattle.std.proofs.lemmas.List.Sums.{prefix_len-le-length}
use Rattle.csm_grammar.specs.Spelling.{is_separator, AreSeparators}
use Rattle.csm_feed.specs.Streams.{IsBegun}

one_front : (b : ℕ) (bs : List ℕ) → is_separator b ≡ true → prefix_len is_separator (b ∷ bs) ≡ suc (prefix_len is_separator bs)
one_front b bs e = rw e (let k : 1 + prefix_len is_separator bs ≡ suc (prefix_len is_separator bs) = omega arith in k)

none_front : (b : ℕ) (bs : List ℕ) → is_separator b ≡ false → prefix_len is_separator (b ∷ bs) ≡ 0
none_front b bs e = rw e refl

pub span_separators : (b : List ℕ) → AreSeparators (take (prefix_len is_separator b) b)
span_separators [] = refl
span_separators (b ∷ bs) = go (is_separator b) refl (span_separators bs) where
  go : (c : Bool) → is_separator b ≡ c → AreSeparators (take (prefix_len is_separator bs) bs) → AreSeparators (take (prefix_len is_separator (b ∷ bs)) (b ∷ bs))
  go true e k = subst (λ (n : ℕ). AreSeparators (take n (b ∷ bs))) (sym (one_front b bs e)) (and_from (is_separator b) _ e k)
  go false e k = subst (λ (n : ℕ). AreSeparators (take n (b ∷ bs))) (sym (none_front b bs e)) refl

pub span_begun : (b : List ℕ) → IsBegun (drop (prefix_len is_separator b) b)
span_begun [] = tt
span_begun (b ∷ bs) = go (is_separator b) refl (span_begun bs) where
  go : (c : Bool) → is_separator b ≡ c → IsBegun (drop (prefix_len is_separator bs) bs) → IsBegun (drop (prefix_len is_separator (b ∷ bs)) (b ∷ bs))
  go true e k = subst (λ (n : ℕ). IsBegun (drop n (b ∷ bs))) (sym (one_front b bs e)) k
  go false e k = subst (λ (n : ℕ). IsBegun (drop n (b ∷ bs))) (sym (none_front b bs e)) e

pub span_take : (n : ℕ) (b : List ℕ) → prefix_len is_separator b ≤ n → prefix_len is_separator (take n b) ≡ prefix_len is_separator b
span_take zero [] h = refl
span_take zero (b ∷ bs) h = let k : prefix_len is_separator (b ∷ bs) ≡ 0 = omega (arith, h) in sym k
span_take (suc n) [] h = refl
span_take (suc n) (b ∷ bs) h = go (is_separator b) refl (span_take n bs) where
  go : (c : Bool) → is_separator b ≡ c → (prefix_len is_separator bs ≤ n → prefix_len is_separator (take n bs) ≡ prefix_len is_separator bs) → prefix_len is_separator (take (suc n) (b ∷ bs)) ≡ prefix_len is_separator (b ∷ bs)
  go true e k =
      let one = one_front b bs e in
      one_front b (take n bs) e ∙ ap suc (k (omega (arith, h, one))) ∙ sym one
  go false e k = none_front b (take n bs) e ∙ sym (none_front b bs e)

pub span_within : (b : List ℕ) → prefix_len is_separator b ≤ length b
span_within b = prefix_len-le-length is_separator b
