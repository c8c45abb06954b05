-- What the image of a journal stands for (this project's profile).
use Rattle.std.specs.Prelude.{◌≡◌, ◌≢◌, ℕ, ◌+◌, ◌/◌, ◌%◌, ◌<◌, ◌≤◌, ◌==◌, nat_le, if◌then◌else◌, Bool, not, ◌||◌, List, [], ◌∷◌, ◌++◌, length, slice_index, take, drop, bytes_eq}
use Rattle.key_journal.specs.Layout.{area_size, second_start, first_start, largest_body}

-- `X917-KEYSTORE1`
abbrev pub magic : List ℕ
magic = 88 ∷ 57 ∷ 49 ∷ 55 ∷ 45 ∷ 75 ∷ 69 ∷ 89 ∷ 83 ∷ 84 ∷ 79 ∷ 82 ∷ 69 ∷ 49 ∷ []

-- most significant byte first
abbrev pub four_bytes : ℕ → List ℕ
four_bytes n = n / 16777216 % 256 ∷ n / 65536 % 256 ∷ n / 256 % 256 ∷ n % 256 ∷ []

-- the text of a frame: the length, the body, and the closed gate of what comes next
abbrev pub frame_of : List ℕ → List ℕ
frame_of body = four_bytes (length body) ++ body ++ 0 ∷ []

-- frames with an open gate each
abbrev pub frames : List (List ℕ) → List ℕ
frames [] = []
frames (body ∷ bodies) = 1 ∷ four_bytes (length body) ++ body ++ frames bodies

pub record IsBody (body : List ℕ) : Type 0 where
  pub some : 1 ≤ length body
  pub small : length body ≤ largest_body

abbrev pub AreBodies : List (List ℕ) → Type 0
AreBodies [] = Unit {0}
AreBodies (body ∷ bodies) = IsBody body × AreBodies bodies

abbrev pub is_blank : List ℕ → Bool
is_blank image = nat_le (length image) 1 || not (slice_index image 0 == 1)

abbrev pub has_magic : List ℕ → Bool
has_magic image = bytes_eq (take 14 (drop 2 image)) magic

-- where the selected area begins
abbrev pub start : List ℕ → ℕ
start image = if slice_index image 1 == 1 then second_start else first_start

abbrev pub area_of : List ℕ → List ℕ
area_of image = take area_size (drop (start image) image)

-- an area of these bodies, and then a gate that isn't open
pub record IsArea (bodies : List (List ℕ)) (area : List ℕ) : Type 0 where
  pub some : 0 < length bodies
  pub all : AreBodies bodies
  pub gate : ℕ
  pub rest : List ℕ
  pub closed : gate ≢ 1
  pub whole : area ≡ frames bodies ++ gate ∷ rest

-- the image stands for these bodies
pub record HoldsBodies (image : List ℕ) (bodies : List (List ℕ)) : Type 0 where
  pub opened : take 1 image ≡ 1 ∷ []
  pub magic : take 14 (drop 2 image) ≡ magic
  pub area : IsArea bodies (area_of image)

-- the place of the gate behind the bodies
abbrev pub gate_place : List ℕ → List (List ℕ) → ℕ
gate_place image bodies = start image + length (frames bodies)

-- a frame with this body lies behind the closed gate
pub record Stages (image : List ℕ) (bodies : List (List ℕ)) (body : List ℕ) : Type 0 where
  pub holds : HoldsBodies image bodies
  pub is_body : IsBody body
  pub behind : take (length body + 5) (drop (gate_place image bodies + 1) image) ≡ frame_of body
  pub fits : length (frames bodies) + 6 + length body ≤ area_size

-- the selected area begins with the frames of these bodies, and their last gate is at this place
pub record Begins (image : List ℕ) (bodies : List (List ℕ)) (gate : ℕ) : Type 0 where
  pub opened : take 1 image ≡ 1 ∷ []
  pub magic : take 14 (drop 2 image) ≡ magic
  pub all : AreBodies bodies
  pub place : gate ≡ gate_place image bodies
  pub front : take (length (frames bodies)) (drop (start image) image) ≡ frames bodies
  pub room : length (frames bodies) + 1 ≤ area_size
  pub within : 0 < length bodies → gate < length image
