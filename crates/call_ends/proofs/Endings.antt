-- A text and its ending are put one behind the other.
use Rattle.std.proofs.Common.{◌≡◌, inl, inr, ℕ, ◌+◌, ◌≤◌, ◌++◌, List, length, take, Option, Some, None, ap, refl, ◌∙◌, arith, append_assoc, length-append}
use Rattle.std.proofs.lemmas.List.{take-append-le}
use Rattle.std.proofs.Math.Seq.{take-append-add}
use Rattle.x_base.specs.Edge.{Rose, AppendsTo, WrotePrefix}

pub both_whole : (before mid after : Option (List ℕ)) (text ending : List ℕ) → AppendsTo before mid text → AppendsTo mid after ending → AppendsTo before after (text ++ ending)
both_whole None mid after text ending first second = tt
both_whole (Some xs) mid after text ending first second = go mid first second where
  go : (mid : Option (List ℕ)) → mid ≡ Some (xs ++ text) → AppendsTo mid after ending → after ≡ Some (xs ++ (text ++ ending))
  go None first second = cc
  go (Some ys) first second = let y : ys ≡ xs ++ text = cc in rw (second, y, append_assoc) refl

pub first_part : (before after : Option (List ℕ)) (text ending : List ℕ) → WrotePrefix before after text → WrotePrefix before after (text ++ ending)
first_part None after text ending part = tt
first_part (Some xs) after text ending part =
    let n = part.0 in
    let short : n ≤ length text = part.1 in
    (n, omega (arith, length-append text ending, short), rw take-append-le part.2)

pub second_part : (before mid after : Option (List ℕ)) (text ending : List ℕ) → AppendsTo before mid text → WrotePrefix mid after ending → WrotePrefix before after (text ++ ending)
second_part None mid after text ending first second = tt
second_part (Some xs) mid after text ending first second = go mid first second where
  go : (mid : Option (List ℕ)) → mid ≡ Some (xs ++ text) → WrotePrefix mid after ending → (n : ℕ) × (n ≤ length (text ++ ending)) × (after ≡ Some (xs ++ take n (text ++ ending)))
  go None first second = cc
  go (Some ys) first second =
      let y : ys ≡ xs ++ text = cc in
      (length text + second.0, omega (arith, length-append text ending, second.1), second.2 ∙ ap Some (rw (y, append_assoc, take-append-add) refl))

pub rose_later : (first mid last : ℕ) → first ≤ mid → Rose mid last → Rose first last
rose_later first mid last le (inl less) = inl (omega (arith, le, less))
rose_later first mid last le (inr most) = inr most
