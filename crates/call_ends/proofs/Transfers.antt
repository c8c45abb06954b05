-- One more piece taken.
use Rattle.std.proofs.Common.{◌≡◌, ◌≤◌, ◌+◌, ◌++◌, ℕ, List, [], length, take, drop, arith, refl, sym, subst, ap, ◌∙◌, ◌<◌, inl, inr, append_assoc, length-append, Option, Some, None}
use Rattle.std.proofs.lemmas.List.{take-append-drop, take-append-le, take_all, append-nil, length-take}
use Rattle.std.specs.Prelude.{◌⊎◌}
use Rattle.std.proofs.lemmas.Bool.{cases_lt}
use Rattle.std.proofs.Math.Seq.{take-append-add}
use Rattle.x_base.specs.Edge.{TakesFront}
use Rattle.call_ends.specs.Transfer.{Took, TookAtMost, IsAtEnd, IsFront}

pub took_none : (before : Option (List ℕ)) → Took before before []
took_none None = tt
took_none (Some all) = refl

split : (all text rest : List ℕ) (n : ℕ) (more : List ℕ) → all ≡ text ++ rest → more ≡ take n rest
    → all ≡ (text ++ more) ++ drop n rest
split all text rest n more e m = rw (e, m, append_assoc, take-append-drop) refl

pub took_more : (before mid after : Option (List ℕ)) (text : List ℕ) (n : ℕ) (buf : List ℕ)
    → Took before mid text → TakesFront mid after n buf → Took before after (text ++ take n buf)
took_more None mid after text n buf t f = tt
took_more (Some all) None after text n buf t f = absurd t
took_more (Some all) (Some rest) after text n buf t f =
    rw f.0 (split all text rest n (take n buf) t f.2)

-- a piece was taken, and no memory was left for it
pub took_piece : (before mid after : Option (List ℕ)) (text : List ℕ) (n limit : ℕ) (buf : List ℕ)
    → Took before mid text → TakesFront mid after n buf → length text + n ≤ limit → TookAtMost limit before after
took_piece before mid after text n limit buf t f h =
    let whole = length-append text (take n buf) in
    let piece = length-take n buf in
    (text ++ take n buf, omega (arith, whole, piece), took_more before mid after text n buf t f)

-- the end: no byte came
pub ended : (before mid after : Option (List ℕ)) (text buf : List ℕ)
    → Took before mid text → TakesFront mid after 0 buf → IsAtEnd before after
ended None mid after text buf t f = tt
ended (Some all) None after text buf t f = absurd t
ended (Some all) (Some rest) after text buf t f = f.0 ∙ ap Some (f.3 refl)

-- a piece was taken into the buffer behind the bytes that came
pub took_into : (before mid after : Option (List ℕ)) (count n : ℕ) (came buf rest : List ℕ)
    → length came ≡ count → Took before mid came → TakesFront mid after n buf → n ≤ length buf → Took before after (take (count + n) (came ++ (buf ++ rest)))
took_into before mid after count n came buf rest size t f h =
    subst (λ (k : ℕ). Took before after (take (k + n) (came ++ (buf ++ rest)))) size
    (subst (λ (l : List ℕ). Took before after l) (sym (take-append-add came (buf ++ rest) n ∙ ap (λ (l : List ℕ). came ++ l) (take-append-le n buf rest h)))
    (took_more before mid after came n buf t f))

-- where the source is at its end before the limit, what was taken is the front up to it
pub front_of : (limit : ℕ) (before after : Option (List ℕ)) (text : List ℕ)
    → Took before after text → length text ≤ limit → (length text < limit → IsAtEnd before after) → IsFront limit before text
front_of limit None after text t bound end = tt
front_of limit (Some all) None text t bound end = absurd t
front_of limit (Some all) (Some rest) text t bound end = sym (ap (take limit) t ∙ go (cases_lt (length text) limit)) where
  go : (length text < limit) ⊎ (limit ≤ length text) → take limit (text ++ rest) ≡ text
  go (inl lt) =
      let e : Some rest ≡ Some [] = end lt in
      let none : rest ≡ [] = cc in
      ap (λ (l : List ℕ). take limit (text ++ l)) none ∙ ap (take limit) (append-nil text) ∙ take_all limit text bound
  go (inr ge) = take-append-le limit text rest ge ∙ take_all limit text bound
