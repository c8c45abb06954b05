-- An image that isn't blank stands for one list of bodies or has one first damage.
use Rattle.std.proofs.Common.{◌≡◌, ◌⊎◌, inl, inr, ℕ, zero, suc, ◌+◌, ◌*◌, ◌/◌, ◌%◌, ◌≤◌, ◌<◌, ◌==◌, nat_lt, nat_le, ◌&&◌, if◌then◌else◌, Bool, true, false, List, [], ◌∷◌, ◌++◌, length, get_or, take, drop, bytes_eq, Option, Some, None, Ok, Err, refl, sym, ◌∙◌, ap, subst, arith, append_assoc}
use Rattle.key_journal.specs.Layout.{area_size, largest_body}
use mathlib.Core.Logic.{◌≢◌}
use Rattle.std.proofs.lemmas.List.{drop_more, append-nil}
use Rattle.std.proofs.lemmas.Bool.Decides.{nat_tests}
use Rattle.x_disk.specs.Disk.{View}
use Rattle.key_journal.specs.Journal.{magic, four_bytes, frames, AreBodies, is_blank, has_magic, start, HoldsBodies, Begins}
use Rattle.key_journal.specs.Opening.{AreBytes, IsDamagedAt, IsDamagedGate, IsJudged, IsOpen, is_open, is_whole, stated, found_at, refusal_of}
use Rattle.key_journal.specs.States.{AreFirst}
use Rattle.key_journal.specs.declared.cause.Cause.{Cause}
use Rattle.key_journal.specs.declared.cause.Cause.TheVariants as cause
use Rattle.key_journal.proofs.ReadLemmas.{behind, same_parts, same_length, frames-append, same_back, second_body, room_of, frame_found, found_by, begins_none, begins_more, all_read, undamaged}
use Rattle.key_journal.proofs.OpenLemmas.{found_first, open_by_front, some_before}

-- of two lists of frames from one place on, one is the front of the other
one_first : (bs cs : List (List ℕ)) (r s : List ℕ) → AreBodies bs → AreBodies cs → frames bs ++ r ≡ frames cs ++ s → AreFirst bs cs ⊎ AreFirst cs bs
one_first [] cs r s all_b all_c is = inl (record { rest = cs; whole = refl })
one_first (b ∷ bs) [] r s all_b all_c is = inr (record { rest = b ∷ bs; whole = refl })
one_first (b ∷ bs) (c ∷ cs) r s all_b all_c is =
    let high : length b / 65536 % 256 ≡ length c / 65536 % 256 = cc in
    let mid : length b / 256 % 256 ≡ length c / 256 % 256 = cc in
    let low : length b % 256 ≡ length c % 256 = cc in
    let tails : (b ++ frames bs) ++ r ≡ (c ++ frames cs) ++ s = cc in
    let parts = same_parts b c (frames bs ++ r) (frames cs ++ s) (same_length (length b) (length c) all_b.0.small all_c.0.small high mid low) (sym (append_assoc b (frames bs) r) ∙ tails ∙ append_assoc c (frames cs) s) in
    let first : b ≡ c = parts.0 in
    elim (one_first bs cs r s all_b.1 all_c.1 parts.1) [
      | inl more ↦ inl (record { rest = more.rest; whole = ap (λ (x : List ℕ). x ∷ cs) (sym first) ∙ ap (λ (l : List (List ℕ)). b ∷ l) more.whole })
      | inr more ↦ inr (record { rest = more.rest; whole = ap (λ (x : List ℕ). x ∷ bs) first ∙ ap (λ (l : List (List ℕ)). c ∷ l) more.whole })
    ]

-- damage at a gate ends each list of frames that begins with those before it
damage_ends : (image : List ℕ) (bodies all rest : List (List ℕ)) (gate last : ℕ) → all ≡ bodies ++ rest → Begins image bodies gate → Begins image all last → found_at image gate (start image + area_size) ≡ Err (cause.Damaged gate) → gate ≡ last
damage_ends image bodies all [] gate last whole b a damage =
    let same : all ≡ bodies = whole ∙ append-nil bodies in
    let long : length (frames all) ≡ length (frames bodies) = ap (λ (bs : List (List ℕ)). length (frames bs)) same in
    omega (arith, a.place, b.place, long)
damage_ends image bodies all (body ∷ rest) gate last whole b a damage =
    let long : length (frames all) ≡ length (frames bodies) + length body + 5 + length (frames rest) = ap (λ (bs : List (List ℕ)). length (frames bs)) whole ∙ room_of bodies body rest in
    let is_body = second_body bodies body rest (subst AreBodies whole a.all) in
    let tail = frames rest ++ drop last image in
    let all_behind : frames bodies ++ drop gate image ≡ frames bodies ++ (frames (body ∷ rest) ++ drop last image) =
    sym (behind image bodies gate b) ∙ behind image all last a ∙ ap (λ (bs : List (List ℕ)). frames bs ++ drop last image) whole ∙ frames-append bodies (body ∷ rest) (drop last image) in
    let front : drop gate image ≡ 1 ∷ (four_bytes (length body) ++ (body ++ tail)) =
    same_back (frames bodies) (drop gate image) (frames (body ∷ rest) ++ drop last image) all_behind ∙ ap (λ (l : List ℕ). 1 ∷ (four_bytes (length body) ++ l)) (append_assoc body (frames rest) (drop last image)) in
    let within = a.within (some_of all bodies body rest whole) in
    let found = frame_found image body tail gate (start image + area_size) is_body front (omega (arith, within, a.place, b.place, long)) (omega (arith, a.room, b.place, long)) in
    let both : Ok (Some body) ≡ Err (cause.Damaged gate) = sym found ∙ damage in
    absurd (cc both)
  where
    some_of : (all bodies : List (List ℕ)) (body : List ℕ) (rest : List (List ℕ)) → all ≡ bodies ++ body ∷ rest → 0 < length all
    some_of (x ∷ all) bodies body rest is = omega arith
    some_of [] [] body rest is = let none : 0 ≡ suc (length rest) = ap length is in absurd (omega (arith, none))
    some_of [] (y ∷ bodies) body rest is = let none : 0 ≡ suc (length (bodies ++ body ∷ rest)) = ap length is in absurd (omega (arith, none))

-- the magic stands or it doesn't
not_both : (t : Bool) → t ≡ true → t ≡ false → ⊥
not_both true is not = cc not
not_both false is not = cc is

pub one_damage : (image : List ℕ) (first second : ℕ) → IsDamagedAt image first → IsDamagedAt image second → first ≡ second
one_damage image first second a b = either a.damage b.damage
  where
    gates : IsDamagedGate image first → IsDamagedGate image second → first ≡ second
    gates x y = elim (one_first x.bodies y.bodies (drop first image) (drop second image) x.begins.all y.begins.all (sym (behind image x.bodies first x.begins) ∙ behind image y.bodies second y.begins)) [
      | inl front ↦ damage_ends image x.bodies y.bodies front.rest first second front.whole x.begins y.begins x.damage
      | inr front ↦ sym (damage_ends image y.bodies x.bodies front.rest second first front.whole y.begins x.begins y.damage)
    ]

    either : ((has_magic image ≡ false) × (first ≡ 2)) ⊎ ((has_magic image ≡ true) × IsDamagedGate image first) → ((has_magic image ≡ false) × (second ≡ 2)) ⊎ ((has_magic image ≡ true) × IsDamagedGate image second) → first ≡ second
    either (inl x) (inl y) = x.1 ∙ sym y.1
    either (inl x) (inr y) = absurd (not_both (has_magic image) y.0 x.0)
    either (inr x) (inl y) = absurd (not_both (has_magic image) x.0 y.0)
    either (inr x) (inr y) = gates x.1 y.1

pub sound_or_damaged : (image : List ℕ) (bodies : List (List ℕ)) (place : ℕ) → HoldsBodies image bodies → IsDamagedAt image place → ⊥
sound_or_damaged image bodies place h d = either d.damage
  where
    gate : IsDamagedGate image place → ⊥
    gate x =
        let reads = undamaged image x.bodies bodies place (start image + area_size) x.begins h refl in
        let both : Ok reads.body ≡ Err (cause.Damaged place) = sym reads.is ∙ x.damage in
        cc both

    either : ((has_magic image ≡ false) × (place ≡ 2)) ⊎ ((has_magic image ≡ true) × IsDamagedGate image place) → ⊥
    either (inl x) = not_both (has_magic image) (ap (λ (l : List ℕ). bytes_eq l magic) h.magic) x.0
    either (inr x) = gate x.1

-- an open gate and the bytes behind it are those of the length that they state
four_of : (a b c d : ℕ) → a < 256 → b < 256 → c < 256 → d < 256 → let n = a * 16777216 + b * 65536 + c * 256 + d in a ∷ b ∷ c ∷ d ∷ [] ≡ four_bytes n
four_of a b c d la lb lc ld =
    let n = a * 16777216 + b * 65536 + c * 256 + d in
    let first : a ≡ n / 16777216 % 256 = omega arith in
    let second : b ≡ n / 65536 % 256 = omega arith in
    let third : c ≡ n / 256 % 256 = omega arith in
    let fourth : d ≡ n % 256 = omega arith in
    ap (λ (x : ℕ). x ∷ b ∷ c ∷ d ∷ []) first ∙ ap (λ (x : ℕ). n / 16777216 % 256 ∷ x ∷ c ∷ d ∷ []) second
    ∙ ap (λ (x : ℕ). n / 16777216 % 256 ∷ n / 65536 % 256 ∷ x ∷ d ∷ []) third ∙ ap (λ (x : ℕ). n / 16777216 % 256 ∷ n / 65536 % 256 ∷ n / 256 % 256 ∷ x ∷ []) fourth

byte_at : (image : List ℕ) (place next : ℕ) → next ≡ place + 1 → next ≤ length image → drop place image ≡ get_or image place 0 ∷ drop next image
byte_at image place next is within = drop_more image place 0 (omega (arith, is, within)) ∙ ap (λ (p : ℕ). get_or image place 0 ∷ drop p image) (sym is)

five_at : (image : List ℕ) (gate : ℕ) → gate + 5 ≤ length image → take 5 (drop gate image) ≡ get_or image gate 0 ∷ get_or image (gate + 1) 0 ∷ get_or image (gate + 2) 0 ∷ get_or image (gate + 3) 0 ∷ get_or image (gate + 4) 0 ∷ []
five_at image gate within =
    let a = byte_at image gate (gate + 1) refl (omega (arith, within)) in
    let b = byte_at image (gate + 1) (gate + 2) (omega arith) (omega (arith, within)) in
    let c = byte_at image (gate + 2) (gate + 3) (omega arith) (omega (arith, within)) in
    let d = byte_at image (gate + 3) (gate + 4) (omega arith) (omega (arith, within)) in
    let e = byte_at image (gate + 4) (gate + 5) (omega arith) within in
    ap (λ (l : List ℕ). take 5 l) a ∙ ap (λ (l : List ℕ). get_or image gate 0 ∷ take 4 l) b ∙ ap (λ (l : List ℕ). get_or image gate 0 ∷ get_or image (gate + 1) 0 ∷ take 3 l) c
    ∙ ap (λ (l : List ℕ). get_or image gate 0 ∷ get_or image (gate + 1) 0 ∷ get_or image (gate + 2) 0 ∷ take 2 l) d
    ∙ ap (λ (l : List ℕ). get_or image gate 0 ∷ get_or image (gate + 1) 0 ∷ get_or image (gate + 2) 0 ∷ get_or image (gate + 3) 0 ∷ take 1 l) e

open_parts : (gate size x : ℕ) → nat_lt gate size && (x == 1) ≡ true → (gate < size) × (x ≡ 1)
open_parts gate size x is = (grind (arith, nat_tests), grind (arith, nat_tests))

pub record IsWhole (n gate size end : ℕ) : Type 0 where
  pub some : 1 ≤ n
  pub small : n ≤ largest_body
  pub in_file : gate + 6 + n ≤ size
  pub in_area : gate + 6 + n ≤ end

whole_parts : (n gate size end : ℕ) → (nat_le 1 n && nat_le n largest_body) && (nat_le (gate + 6 + n) size && nat_le (gate + 6 + n) end) ≡ true → IsWhole n gate size end
whole_parts n gate size end is = record { some = grind (arith, nat_tests); small = grind (arith, nat_tests); in_file = grind (arith, nat_tests); in_area = grind (arith, nat_tests) }

head_at : (image : List ℕ) (gate : ℕ) → AreBytes image → gate + 5 ≤ length image → get_or image gate 0 ≡ 1 → take 5 (drop gate image) ≡ 1 ∷ four_bytes (stated image gate)
head_at image gate bytes within one =
    five_at image gate within ∙ ap (λ (x : ℕ). x ∷ get_or image (gate + 1) 0 ∷ get_or image (gate + 2) 0 ∷ get_or image (gate + 3) 0 ∷ get_or image (gate + 4) 0 ∷ []) one
    ∙ ap (λ (l : List ℕ). 1 ∷ l) (four_of (get_or image (gate + 1) 0) (get_or image (gate + 2) 0) (get_or image (gate + 3) 0) (get_or image (gate + 4) 0) (bytes (gate + 1)) (bytes (gate + 2)) (bytes (gate + 3)) (bytes (gate + 4)))

found_torn : (b : List ℕ) (gate end : ℕ) → is_open b gate ≡ true → is_whole b gate end ≡ false → found_at b gate end ≡ Err (cause.Damaged gate)
found_torn b gate end opened whole =
    ap (λ (t : Bool). found_by t (is_whole b gate end) (gate == start b) gate (take (stated b gate) (drop (gate + 5) b))) opened
    ∙ ap (λ (t : Bool). found_by true t (gate == start b) gate (take (stated b gate) (drop (gate + 5) b))) whole

-- what the frames from a gate on come to
abbrev Outcome : List ℕ → Type 0
Outcome image = ((bodies : List (List ℕ)) × HoldsBodies image bodies) ⊎ ((place : ℕ) × IsDamagedGate image place)

ended_gate : (image : List ℕ) (bodies : List (List ℕ)) (gate : ℕ) → Begins image bodies gate → is_open image gate ≡ false → Outcome image
ended_gate image [] gate b not_open = inr (gate, record { bodies = []; begins = b; damage = found_first image gate (start image + area_size) not_open (omega (arith, b.place)) })
ended_gate image (body ∷ bodies) gate b not_open = inl (body ∷ bodies, all_read image (body ∷ bodies) gate b not_open (omega arith))

-- a whole frame lies at the gate, and the next gate further on
record Onward (image : List ℕ) (gate : ℕ) : Type 0 where
  bodies : List (List ℕ)
  next : ℕ
  begins : Begins image bodies next
  further : gate < next
  within : next < length image

onward : (image : List ℕ) (bodies : List (List ℕ)) (gate : ℕ) → AreBytes image → Begins image bodies gate → is_open image gate ≡ true → is_whole image gate (start image + area_size) ≡ true → Onward image gate
onward image bodies gate bytes b opened is =
    let n = stated image gate in
    let whole = whole_parts n gate (length image) (start image + area_size) is in
    let head = head_at image gate bytes (omega (arith, whole.in_file)) (open_parts gate (length image) (get_or image gate 0) opened).1 in
    record {
      bodies = bodies ++ take n (drop (gate + 5) image) ∷ [];
      next = gate + (5 + n);
      begins = begins_more image bodies gate (gate + (5 + n)) (start image + area_size) n (take n (drop (gate + 5) image)) b refl head whole.some whole.small whole.in_file whole.in_area refl refl;
      further = omega arith;
      within = omega (arith, whole.in_file);
    }

step : (image : List ℕ) (bodies : List (List ℕ)) (gate : ℕ) → AreBytes image → Begins image bodies gate → Outcome image ⊎ Onward image gate
step image bodies gate bytes b = by_gate (is_open image gate) refl
  where
    by_whole : (t : Bool) → is_whole image gate (start image + area_size) ≡ t → is_open image gate ≡ true → Outcome image ⊎ Onward image gate
    by_whole true whole opened = inr (onward image bodies gate bytes b opened whole)
    by_whole false torn opened = inl (inr (gate, record { bodies = bodies; begins = b; damage = found_torn image gate (start image + area_size) opened torn }))

    by_gate : (t : Bool) → is_open image gate ≡ t → Outcome image ⊎ Onward image gate
    by_gate true opened = by_whole (is_whole image gate (start image + area_size)) refl opened
    by_gate false not_open = inl (ended_gate image bodies gate b not_open)

walk : (fuel : ℕ) (image : List ℕ) (bodies : List (List ℕ)) (gate : ℕ) → AreBytes image → Begins image bodies gate → length image ≤ gate + fuel → Outcome image
walk zero image bodies gate bytes b enough = elim (step image bodies gate bytes b) [
  | inl outcome ↦ outcome
  | inr on ↦ absurd (omega (arith, on.further, on.within, enough))
]
walk (suc fuel) image bodies gate bytes b enough = elim (step image bodies gate bytes b) [
  | inl outcome ↦ outcome
  | inr on ↦ walk fuel image on.bodies on.next bytes on.begins (omega (arith, on.further, enough))
]

abbrev refusal_by : Bool → Bool → Option Cause
refusal_by blank magic = if blank then Some cause.Blank else (if magic then None else Some (cause.Damaged 2))

pub judged_image : (image : List ℕ) → AreBytes image → IsJudged image
judged_image image bytes = by_blank (is_blank image) refl
  where
    by_magic : (t : Bool) → has_magic image ≡ t → is_blank image ≡ false → IsJudged image
    by_magic false none not_blank = inr (inr (2, record { not_blank = not_blank; damage = inl (none, refl) }))
    by_magic true stands not_blank =
        let fine : refusal_of image ≡ None = ap (λ (t : Bool). refusal_by t (has_magic image)) not_blank ∙ ap (λ (t : Bool). refusal_by false t) stands in
        elim (walk (length image) image [] (start image) bytes (begins_none image fine) (omega arith)) [
          | inl sound ↦ inr (inl sound)
          | inr damaged ↦ inr (inr (damaged.0, record { not_blank = not_blank; damage = inr (stands, damaged.1) }))
        ]

    by_blank : (t : Bool) → is_blank image ≡ t → IsJudged image
    by_blank true blank = inl blank
    by_blank false not_blank = by_magic (has_magic image) refl not_blank

pub sound_or_blank : (image : List ℕ) (bodies : List (List ℕ)) → is_blank image ≡ true → HoldsBodies image bodies → ⊥
sound_or_blank image bodies blank h =
    let refused : refusal_of image ≡ Some cause.Blank = ap (λ (t : Bool). refusal_by t (has_magic image)) blank in
    let both : Some cause.Blank ≡ None = sym refused ∙ open_by_front image h.opened h.magic in
    cc both

-- what refuses an image with a damage is that damage
pub first_refusal : (image : List ℕ) (place : ℕ) (reason : Cause) → IsDamagedAt image place → refusal_of image ≡ Some reason → reason ≡ cause.Damaged place
first_refusal image place reason d refused = either d.damage
  where
    said : (t : Bool) → has_magic image ≡ t → Some reason ≡ refusal_by false t
    said t is = sym refused ∙ ap (λ (b : Bool). refusal_by b (has_magic image)) d.not_blank ∙ ap (λ (m : Bool). refusal_by false m) is

    either : ((has_magic image ≡ false) × (place ≡ 2)) ⊎ ((has_magic image ≡ true) × IsDamagedGate image place) → reason ≡ cause.Damaged place
    either (inl x) =
        let it : Some reason ≡ Some (cause.Damaged 2) = said false x.0 in
        let same : reason ≡ cause.Damaged 2 = cc it in
        same ∙ ap (λ (n : ℕ). cause.Damaged n) (sym x.1)
    either (inr x) = let it : Some reason ≡ None = said true x.0 in absurd (cc it)

-- a list of frames doesn't end in an image with a damage
pub unended : (v : View) (size gate end : ℕ) (ended : Bool) → IsOpen v size gate end ended → ((b : List ℕ) → v.now ≡ Some b → (is_open b gate ≡ false) × (gate ≢ start b))
    → (place : ℕ) (b : List ℕ) → v.now ≡ Some b → IsDamagedAt b place → ⊥
unended v size gate end ended o not_open place b now d =
    let r = o.journal b now in
    let closed = not_open b now in
    sound_or_damaged b r.bodies place (all_read b r.bodies gate r.begins closed.0 (some_before b r.bodies gate r.begins closed.1)) d
