-- The tokens of a text (this project's profile).
use Rattle.std.specs.Prelude.{ℕ, ◌+◌, ◌==◌, ◌&&◌, ◌||◌, Bool, List, [], ◌∷◌, ◌++◌, length, take, drop, Option, Some, None, bytes_eq, if◌then◌else◌}
use Rattle.std.specs.List.{before_first, after_first}
use Rattle.csm_grammar.specs.Tags.{tag_name}
use Rattle.csm_grammar.specs.declared.tag.Tag.TheVariants.{Mac, Edc}
use Rattle.csm_grammar.specs.Values.{is_hex}
use Rattle.csm_grammar.specs.Spelling.{is_separator, message_limit}

-- bytes other than separators and `)`, and the separator or `)` that ends them. There may be none
-- where one end stands directly behind another
pub record Stretch : Type 0 where
  pub place : ℕ
  pub text : List ℕ
  pub end : ℕ

-- one byte more in front of the first stretch
abbrev pub longer : ℕ → ℕ → List Stretch → List Stretch
longer place b [] = []
longer place b (s ∷ ss) = record { place = place; text = b ∷ s.text; end = s.end } ∷ ss

-- the stretches of bytes that stand at a place, up to `)`; bytes that nothing ends are in none
unfoldable pub stretches : ℕ → List ℕ → List Stretch
stretches place [] = []
stretches place (b ∷ bs) =
    if b == 41 then record { place = place; text = []; end = b } ∷ []
    else if is_separator b then record { place = place; text = []; end = b } ∷ stretches (place + 1) bs
    else longer place b (stretches (place + 1) bs)

-- the place of `)`
abbrev pub end_place : List Stretch → Option ℕ
end_place [] = None
end_place (s ∷ ss) = if s.end == 41 then Some (s.place + length s.text) else end_place ss

-- a token, or the two halves of a code, and its place
pub record Standing : Type 0 where
  pub place : ℕ
  pub text : List ℕ

-- what stands before the first `/`, and what behind it
abbrev pub tag_text : List ℕ → List ℕ
tag_text t = before_first (λ b. b == 47) t

abbrev pub contents_text : List ℕ → List ℕ
contents_text t = after_first (λ b. b == 47) t

-- `MAC/` or `EDC/` with exactly four digits
abbrev pub is_half : List ℕ → Bool
is_half t = (bytes_eq (tag_text t) (tag_name Mac) || bytes_eq (tag_text t) (tag_name Edc)) && is_hex 4 (contents_text t)

-- a stretch with bytes is a token
abbrev pub put : Stretch → List Standing → List Standing
put s us = unless_empty s.text where
  unless_empty : List ℕ → List Standing
  unless_empty [] = us
  unless_empty (b ∷ bs) = record { place = s.place; text = b ∷ bs } ∷ us

-- half a code and one blank wait for what the next end ends
abbrev pub waits : Stretch → Bool
waits s = is_half s.text && (s.end == 32)

-- the tokens, each as it is judged. Four digits behind half a code and one blank are its other half
unfoldable pub units : List Stretch → List Standing
units [] = []
units (s ∷ []) = if waits s then [] else put s []
units (s ∷ t ∷ ss) =
    if waits s && is_hex 4 t.text
    then record { place = s.place; text = s.text ++ 32 ∷ t.text } ∷ units ss
    else put s (units (t ∷ ss))

-- the stretches of a text behind `CSM(`: only the first 1,024 bytes are judged
abbrev pub stretches_of : List ℕ → List Stretch
stretches_of b = stretches 4 (drop 4 (take message_limit b))

abbrev pub units_of : List ℕ → List Standing
units_of b = units (stretches_of b)
