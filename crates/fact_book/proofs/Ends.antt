-- Where the texts in one list of bytes begin and end.
use Rattle.std.proofs.Common.{arith, ◌≡◌, ◌≤◌, ◌+◌, ◌-◌, ℕ, zero, suc, Some, List, [], ◌∷◌, ◌++◌, length, take, drop, slice_get, slice_index, slice_range, refl, sym, ◌∙◌, ap, ap₂}
use Rattle.std.specs.Prelude.{option_map}
use Rattle.std.proofs.lemmas.List.{take_all, take-append-le, drop-append-le, drop_at, length-drop}
use Rattle.fact_book.specs.Texts.{AreTextEnds, texts_from}

pub length_texts : (start : ℕ) (ends bytes : List ℕ) → length (texts_from start ends bytes) ≡ length ends
length_texts start [] bytes = refl
length_texts start (e ∷ es) bytes = ap suc (length_texts e es bytes)

-- the text at a place lies between the end of the one before it and its own
pub text_at : (start : ℕ) (ends bytes : List ℕ) (i : ℕ) → slice_get (texts_from start ends bytes) i ≡ option_map (slice_range bytes (slice_index (start ∷ ends) i)) (slice_get ends i)
text_at start [] bytes i = refl
text_at start (e ∷ es) bytes zero = refl
text_at start (e ∷ es) bytes (suc i) = text_at e es bytes i

start_within : (start : ℕ) (ends : List ℕ) (size : ℕ) → AreTextEnds start ends size → start ≤ size
start_within start [] size r = omega (arith, r)
start_within start (e ∷ es) size r = (let l = r.0 in let n = start_within e es size r.1 in omega (arith, l, n))

pub end_within : (start : ℕ) (ends : List ℕ) (size i end : ℕ) → AreTextEnds start ends size → slice_get ends i ≡ Some end → (slice_index (start ∷ ends) i ≤ end) × (end ≤ size)
end_within start [] size i end r h = absurd (cc)
end_within start (e ∷ es) size zero end r h =
    let is : e ≡ end = cc in
    let l = r.0 in
    let n = start_within e es size r.1 in
    (omega (arith, is, l), omega (arith, is, n))
end_within start (e ∷ es) size (suc i) end r h = end_within e es size i end r.1 h

-- an end is put behind the others
pub ends_push : (start : ℕ) (ends : List ℕ) (size end : ℕ) → AreTextEnds start ends size → size ≤ end → AreTextEnds start (ends ++ end ∷ []) end
ends_push start [] size end r l = (omega (arith, r, l), refl)
ends_push start (e ∷ es) size end r l = (r.0, ends_push e es size end r.1 l)

-- a text is put behind the others
pub texts_push : (start : ℕ) (ends bytes text : List ℕ) → AreTextEnds start ends (length bytes) → texts_from start (ends ++ (length bytes + length text) ∷ []) (bytes ++ text) ≡ texts_from start ends bytes ++ text ∷ []
texts_push start [] bytes text r =
    ap (λ t. t ∷ []) (ap (take (length bytes + length text - start)) (drop_at bytes text start (sym r)) ∙ take_all (length bytes + length text - start) text (omega (arith, r)))
texts_push start (e ∷ es) bytes text r = ap₂ (λ t ts. t ∷ ts) same (texts_push e es bytes text r.1)
  where
    n : e ≤ length bytes
    n = start_within e es (length bytes) r.1

    same : slice_range (bytes ++ text) start e ≡ slice_range bytes start e
    same =
        ap (take (e - start)) (drop-append-le start bytes text (let l = r.0 in let m = n in omega (arith, l, m)))
        ∙ take-append-le (e - start) (drop start bytes) text (let l = r.0 in let m = n in let size = length-drop start bytes in omega (arith, l, m, size))
