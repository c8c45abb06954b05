-- Texts in lanes, and codes that are made (this project's profile).
use Rattle.std.specs.Prelude.{◌≡◌, ◌<◌, ℕ, ◌+◌, ◌*◌, List, [], Option, Some, None, IfSome, length, drop, slice_index_or}
use Rattle.x_mac.specs.Code.{edc_of}
use Rattle.edc_slices.specs.Chains.{chain_after}
use Rattle.edc_slices.specs.Ends.{text_before_end}
use Rattle.edc_slices.specs.declared.lanes.Lane.{Lane}

-- this is the chain over some first blocks of the text, and the rest of it stands behind these
pub record IsChain (text rest : List ℕ) (chain : ℕ) : Type 0 where
  pub count : ℕ
  pub left : rest ≡ drop (8 * count) text
  pub so_far : chain ≡ chain_after text count
  pub within : 8 * count < length text + 8

-- the text of a body
abbrev pub text_of : List (List ℕ) → ℕ → List ℕ
text_of bodies n = text_before_end (slice_index_or bodies n [])

-- this is the chain of a lane, if it has a text
abbrev pub HasChain : List (List ℕ) → Lane → ℕ → Type 0
HasChain bodies lane chain = IfSome lane.text (λ n. (n < length bodies) × IsChain (text_of bodies n) lane.rest.now chain)

-- each lane has its chain (what is read past the end of a list means nothing)
abbrev pub HaveChains : List (List ℕ) → List Lane → List ℕ → Type 0
HaveChains bodies lanes chains = (l : ℕ) → l < 128 → (other : Lane) → HasChain bodies (slice_index_or lanes l other) (slice_index_or chains l 0)

-- a lane before the first block of its text, if it has one
abbrev pub IsAtStart : List (List ℕ) → Lane → Type 0
IsAtStart bodies lane = IfSome lane.text (λ n. (n < length bodies) × (lane.rest.now ≡ text_of bodies n) × (0 < length lane.rest.now))

-- the codes that are made are those of the texts
abbrev pub AreMade : List (Option ℕ) → List (List ℕ) → Type 0
AreMade codes bodies = (i code : ℕ) → i < length bodies → slice_index_or codes i None ≡ Some code → code ≡ edc_of (text_of bodies i)
