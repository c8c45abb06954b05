-- How the frames of an image are read one after the other.
use Rattle.std.proofs.Common.{◌≡◌, ◌⊎◌, inl, inr, ℕ, ◌+◌, ◌*◌, ◌/◌, ◌%◌, ◌-◌, ◌≤◌, ◌<◌, ◌==◌, nat_lt, nat_le, min, if◌then◌else◌, Bool, true, false, ◌&&◌, not, List, [], ◌∷◌, ◌++◌, length, get_or, take, drop, Option, Some, None, Result, Ok, Err, refl, sym, ◌∙◌, ap, subst, arith, append_assoc, length-append, length-drop, take-append-drop}
use Rattle.key_journal.specs.Layout.{area_size, largest_body}
use mathlib.Core.Logic.{◌≢◌}
use Rattle.std.proofs.lemmas.List.{take_at, drop_at, drop_more, get_or-take, get_or-drop, get_or_past, length-take-le}
use Rattle.std.proofs.Math.Seq.{drop-drop}
use Rattle.std.proofs.lemmas.Bool.Decides.{nat_tests}
use Rattle.std.proofs.lemmas.Slice.Eq.{bytes_eq-Decides}
use Rattle.key_journal.specs.Journal.{magic, four_bytes, frames, IsBody, AreBodies, is_blank, has_magic, start, HoldsBodies, Begins}
use Rattle.key_journal.specs.Opening.{is_open, stated, is_whole, found_at, refusal_of}
use Rattle.key_journal.specs.Judged.{number, judged, judged_at}
use Rattle.key_journal.specs.States.{AreFirst}
use Rattle.key_journal.specs.declared.judge.Judged.{Judged}
use Rattle.key_journal.specs.declared.judge.Judged.TheVariants as kind
use Rattle.key_journal.specs.declared.cause.Cause.{Cause}
use Rattle.key_journal.specs.declared.cause.Cause.TheVariants as cause
use Rattle.key_journal.proofs.ImageLemmas.{whole_of, area_is, rest_of, frames-push, length-frames-push, AreBodies-push}

-- an image that can be opened
one_front : (image : List ℕ) → 1 ≤ length image → get_or image 0 0 ≡ 1 → take 1 image ≡ 1 ∷ []
one_front [] some is = absurd (omega (arith, some))
one_front (x ∷ image) some is = ap (λ (y : ℕ). y ∷ []) is

pub not_blank : (image : List ℕ) → is_blank image ≡ false → (2 ≤ length image) × (get_or image 0 0 ≡ 1)
not_blank image is = (grind (arith, nat_tests), grind (arith, nat_tests))

pub refused_by : (blank magic : Bool) → (if blank then Some cause.Blank else (if magic then None else Some (cause.Damaged 2))) ≡ None → (blank ≡ false) × (magic ≡ true)
refused_by true m is = absurd (cc is)
refused_by false true is = (refl, refl)
refused_by false false is = absurd (cc is)

pub begins_none : (image : List ℕ) → refusal_of image ≡ None → Begins image [] (start image)
begins_none image is =
    let parts = refused_by (is_blank image) (has_magic image) is in
    let front = not_blank image parts.0 in
    record {
      opened = one_front image (omega (arith, front.0)) front.1;
      magic = (bytes_eq-Decides (take 14 (drop 2 image)) magic).0 parts.1;
      all = tt;
      place = omega arith;
      front = refl;
      room = omega arith;
      within = λ some. absurd (omega (arith, some));
    }

-- what lies from the selected area's beginning on
pub behind : (image : List ℕ) (bodies : List (List ℕ)) (gate : ℕ) → Begins image bodies gate → drop (start image) image ≡ frames bodies ++ drop gate image
behind image bodies gate b =
    sym (take-append-drop (length (frames bodies)) (drop (start image) image)) ∙ ap (λ (l : List ℕ). l ++ drop (length (frames bodies)) (drop (start image) image)) b.front
    ∙ ap (λ (l : List ℕ). frames bodies ++ l) (drop-drop (length (frames bodies)) (start image) image ∙ ap (λ (n : ℕ). drop n image) (omega (arith, b.place)))

pub begins_more : (image : List ℕ) (bodies : List (List ℕ)) (gate next end n : ℕ) (body : List ℕ) → Begins image bodies gate → end ≡ start image + area_size → take 5 (drop gate image) ≡ 1 ∷ four_bytes n
    → 1 ≤ n → n ≤ largest_body → gate + 6 + n ≤ length image → gate + 6 + n ≤ end → body ≡ take n (drop (gate + 5) image) → next ≡ gate + (5 + n) → Begins image (bodies ++ body ∷ []) next
begins_more image bodies gate next end n body b last head some small in_file in_area is place =
    let size : length body ≡ n = ap length is ∙ length-take-le n (drop (gate + 5) image) (omega (arith, in_file, length-drop (gate + 5) image)) in
    let rest = drop (gate + 5 + n) image in
    let tail : drop (gate + 5) image ≡ body ++ rest =
    sym (take-append-drop n (drop (gate + 5) image)) ∙ ap (λ (l : List ℕ). l ++ drop n (drop (gate + 5) image)) (sym is) ∙ ap (λ (l : List ℕ). body ++ l) (drop-drop n (gate + 5) image) in
    let at_gate : drop gate image ≡ 1 ∷ (four_bytes (length body) ++ (body ++ rest)) =
    sym (take-append-drop 5 (drop gate image)) ∙ ap (λ (l : List ℕ). l ++ drop 5 (drop gate image)) head ∙ ap (λ (l : List ℕ). (1 ∷ four_bytes n) ++ l) (drop-drop 5 gate image ∙ tail) ∙ ap (λ (m : ℕ). 1 ∷ (four_bytes m ++ (body ++ rest))) (sym size) in
    let all : drop (start image) image ≡ frames (bodies ++ body ∷ []) ++ rest = behind image bodies gate b ∙ ap (λ (l : List ℕ). frames bodies ++ l) at_gate ∙ sym (frames-push bodies body rest) in
    let long = length-frames-push bodies body in
    record {
      opened = b.opened;
      magic = b.magic;
      all = AreBodies-push bodies body b.all (record { some = omega (arith, size, some); small = omega (arith, size, small) });
      place = omega (arith, place, b.place, long, size);
      front = ap (λ (l : List ℕ). take (length (frames (bodies ++ body ∷ []))) l) all ∙ take_at (frames (bodies ++ body ∷ [])) rest (length (frames (bodies ++ body ∷ []))) refl;
      room = omega (arith, long, size, in_area, last, b.place);
      within = λ more. omega (arith, place, in_file);
    }

closed_gate : (image : List ℕ) (gate : ℕ) → gate < length image → is_open image gate ≡ false → get_or image gate 0 ≢ 1
closed_gate image gate within closed = grind (arith, nat_tests)

pub all_read : (image : List ℕ) (bodies : List (List ℕ)) (gate : ℕ) → Begins image bodies gate → is_open image gate ≡ false → 0 < length bodies → HoldsBodies image bodies
all_read image bodies gate b not_open some =
    let within = b.within some in
    let at_gate : drop gate image ≡ get_or image gate 0 ∷ drop (gate + 1) image = drop_more image gate 0 within in
    let all : drop (start image) image ≡ frames bodies ++ get_or image gate 0 ∷ drop (gate + 1) image = behind image bodies gate b ∙ ap (λ (l : List ℕ). frames bodies ++ l) at_gate in
    record {
      opened = b.opened;
      magic = b.magic;
      area = record {
        some = some;
        all = b.all;
        gate = get_or image gate 0;
        rest = take (area_size - (length (frames bodies) + 1)) (drop (gate + 1) image);
        closed = closed_gate image gate within not_open;
        whole = area_is area_size (area_size - (length (frames bodies) + 1)) (frames bodies) (get_or image gate 0) (drop (gate + 1) image) (drop (start image) image) all (rest_of area_size (length (frames bodies)) b.room);
      };
    }

pub same_length : (m n : ℕ) → m ≤ largest_body → n ≤ largest_body → m / 65536 % 256 ≡ n / 65536 % 256 → m / 256 % 256 ≡ n / 256 % 256 → m % 256 ≡ n % 256 → m ≡ n
same_length m n le_m le_n high mid low = omega arith

pub same_parts : (xs ys us vs : List ℕ) → length xs ≡ length ys → xs ++ us ≡ ys ++ vs → (xs ≡ ys) × (us ≡ vs)
same_parts xs ys us vs long is = (
  sym (take_at xs us (length xs) refl) ∙ ap (λ (l : List ℕ). take (length xs) l) is ∙ take_at ys vs (length xs) (sym long),
  sym (drop_at xs us (length xs) refl) ∙ ap (λ (l : List ℕ). drop (length xs) l) is ∙ drop_at ys vs (length xs) (sym long),
)

-- two lists of frames from one place on: the one that ends at a closed gate is the longer
longer : (bs all : List (List ℕ)) (g : ℕ) (r s : List ℕ) → AreBodies bs → AreBodies all → g ≢ 1 → frames bs ++ r ≡ frames all ++ g ∷ s → AreFirst bs all
longer [] all g r s all_b all_a not_open is = record { rest = all; whole = refl }
longer (b ∷ bs) [] g r s all_b all_a not_open is = let one : g ≡ 1 = cc in absurd (not_open one)
longer (b ∷ bs) (c ∷ all) g r s all_b all_a not_open is =
    let high : length b / 65536 % 256 ≡ length c / 65536 % 256 = cc in
    let mid : length b / 256 % 256 ≡ length c / 256 % 256 = cc in
    let low : length b % 256 ≡ length c % 256 = cc in
    let tails : (b ++ frames bs) ++ r ≡ (c ++ frames all) ++ g ∷ s = cc in
    let parts = same_parts b c (frames bs ++ r) (frames all ++ g ∷ s) (same_length (length b) (length c) all_b.0.small all_a.0.small high mid low) (sym (append_assoc b (frames bs) r) ∙ tails ∙ append_assoc c (frames all) (g ∷ s)) in
    let first : b ≡ c = parts.0 in
    let more = longer bs all g r s all_b.1 all_a.1 not_open parts.1 in
    record { rest = more.rest; whole = ap (λ (x : List ℕ). x ∷ all) (sym first) ∙ ap (λ (l : List (List ℕ)). b ∷ l) more.whole }

pub first_bodies : (image : List ℕ) (bodies all : List (List ℕ)) (gate : ℕ) → Begins image bodies gate → HoldsBodies image all → AreFirst bodies all
first_bodies image bodies all gate b h =
    let w = whole_of image all h in
    longer bodies all w.gate (drop gate image) w.tail b.all h.area.all w.closed (sym (behind image bodies gate b) ∙ w.whole)

-- the frames behind the first ones
pub frames-append : (bs cs : List (List ℕ)) (r : List ℕ) → frames (bs ++ cs) ++ r ≡ frames bs ++ (frames cs ++ r)
frames-append [] cs r = refl
frames-append (b ∷ bs) cs r =
    ap (λ (l : List ℕ). 1 ∷ (four_bytes (length b) ++ l))
    (append_assoc b (frames (bs ++ cs)) r ∙ ap (λ (l : List ℕ). b ++ l) (frames-append bs cs r) ∙ sym (append_assoc b (frames bs) (frames cs ++ r)))

pub same_back : (xs us vs : List ℕ) → xs ++ us ≡ xs ++ vs → us ≡ vs
same_back xs us vs is = (same_parts xs xs us vs refl is).1

-- what stands at the gate of an image that stands for bodies
at_gate : (image : List ℕ) (bodies rest : List (List ℕ)) (gate : ℕ) (b : Begins image bodies gate) (h : HoldsBodies image (bodies ++ rest)) → let w = whole_of image (bodies ++ rest) h in drop gate image ≡ frames rest ++ w.gate ∷ w.tail
at_gate image bodies rest gate b h =
    let w = whole_of image (bodies ++ rest) h in
    same_back (frames bodies) (drop gate image) (frames rest ++ w.gate ∷ w.tail) (sym (behind image bodies gate b) ∙ w.whole ∙ frames-append bodies rest (w.gate ∷ w.tail))

pub get_at : (image front : List ℕ) (gate i : ℕ) → drop gate image ≡ front → get_or image (gate + i) 0 ≡ get_or front i 0
get_at image front gate i is = sym (get_or-drop gate image i 0) ∙ ap (λ (l : List ℕ). get_or l i 0) is

number_of : (n : ℕ) → n ≤ largest_body → n / 16777216 % 256 * 16777216 + n / 65536 % 256 * 65536 + n / 256 % 256 * 256 + n % 256 ≡ n
number_of n le = omega arith

pub stated_is : (image : List ℕ) (gate n : ℕ) (tail : List ℕ) → n ≤ largest_body → drop gate image ≡ 1 ∷ (four_bytes n ++ tail) → stated image gate ≡ n
stated_is image gate n tail small is =
    let a = get_at image (1 ∷ (four_bytes n ++ tail)) gate 1 is in
    let b = get_at image (1 ∷ (four_bytes n ++ tail)) gate 2 is in
    let c = get_at image (1 ∷ (four_bytes n ++ tail)) gate 3 is in
    let d = get_at image (1 ∷ (four_bytes n ++ tail)) gate 4 is in
    ap (λ (x : ℕ). x * 16777216 + get_or image (gate + 2) 0 * 65536 + get_or image (gate + 3) 0 * 256 + get_or image (gate + 4) 0) a
    ∙ ap (λ (x : ℕ). n / 16777216 % 256 * 16777216 + x * 65536 + get_or image (gate + 3) 0 * 256 + get_or image (gate + 4) 0) b
    ∙ ap (λ (x : ℕ). n / 16777216 % 256 * 16777216 + n / 65536 % 256 * 65536 + x * 256 + get_or image (gate + 4) 0) c
    ∙ ap (λ (x : ℕ). n / 16777216 % 256 * 16777216 + n / 65536 % 256 * 65536 + n / 256 % 256 * 256 + x) d
    ∙ number_of n small

-- what is found, by what the gate and the length say
abbrev pub found_by : Bool → Bool → Bool → ℕ → List ℕ → Result (Option (List ℕ)) Cause
found_by opened whole first gate body = if opened then (if whole then Ok (Some body) else Err (cause.Damaged gate)) else (if first then Err (cause.Damaged gate) else Ok None)

pub frames_some : (bodies : List (List ℕ)) → 0 < length bodies → 0 < length (frames bodies)
frames_some [] some = some
frames_some (b ∷ bodies) some = omega arith

-- nothing is damaged where the image stands for bodies
pub record Reads (image : List ℕ) (gate end : ℕ) : Type 0 where
  pub body : Option (List ℕ)
  pub is : found_at image gate end ≡ Ok body

pub open_by : (gate size x : ℕ) → gate < size → x ≡ 1 → nat_lt gate size && (x == 1) ≡ true
open_by gate size x within is = grind (arith, nat_tests)

not_open_by : (gate size x : ℕ) → x ≢ 1 → nat_lt gate size && (x == 1) ≡ false
not_open_by gate size x not = grind (arith, nat_tests)

pub whole_by : (n gate size end : ℕ) → 1 ≤ n → n ≤ largest_body → gate + 6 + n ≤ size → gate + 6 + n ≤ end → (nat_le 1 n && nat_le n largest_body) && (nat_le (gate + 6 + n) size && nat_le (gate + 6 + n) end) ≡ true
whole_by n gate size end some small in_file in_area = grind (arith, nat_tests)

apart_by : (gate first : ℕ) → first < gate → (gate == first) ≡ false
apart_by gate first lt = grind (arith, nat_tests)

pub second_body : (bodies : List (List ℕ)) (body : List ℕ) (rest : List (List ℕ)) → AreBodies (bodies ++ body ∷ rest) → IsBody body
second_body [] body rest all = all.0
second_body (b ∷ bodies) body rest all = second_body bodies body rest all.1

pub room_of : (bodies : List (List ℕ)) (body : List ℕ) (rest : List (List ℕ)) → length (frames (bodies ++ body ∷ rest)) ≡ length (frames bodies) + length body + 5 + length (frames rest)
room_of [] body rest = omega (arith, length-append body (frames rest))
room_of (b ∷ bodies) body rest = omega (arith, length-append b (frames (bodies ++ body ∷ rest)), length-append b (frames bodies), room_of bodies body rest)

-- a whole frame lies at the gate
pub frame_found : (image body tail : List ℕ) (gate end : ℕ) → IsBody body → drop gate image ≡ 1 ∷ (four_bytes (length body) ++ (body ++ tail)) → gate + 6 + length body ≤ length image → gate + 6 + length body ≤ end
    → found_at image gate end ≡ Ok (Some body)
frame_found image body tail gate end is_body front in_file in_area =
    let n = length body in
    let number = stated_is image gate n (body ++ tail) is_body.small front in
    let opened = open_by gate (length image) (get_or image gate 0) (omega (arith, in_file)) (ap (λ (m : ℕ). get_or image m 0) (omega arith) ∙ get_at image (1 ∷ (four_bytes n ++ (body ++ tail))) gate 0 front) in
    let within = ap (λ (m : ℕ). (nat_le 1 m && nat_le m largest_body) && (nat_le (gate + 6 + m) (length image) && nat_le (gate + 6 + m) end)) number ∙ whole_by n gate (length image) end is_body.some is_body.small in_file in_area in
    let text : take (stated image gate) (drop (gate + 5) image) ≡ body =
    ap (λ (m : ℕ). take m (drop (gate + 5) image)) number ∙ ap (λ (l : List ℕ). take n l) (sym (drop-drop 5 gate image) ∙ ap (λ (l : List ℕ). drop 5 l) front) ∙ take_at body tail n refl in
    ap (λ (t : Bool). found_by t (is_whole image gate end) (gate == start image) gate (take (stated image gate) (drop (gate + 5) image))) opened
    ∙ ap (λ (t : Bool). found_by true t (gate == start image) gate (take (stated image gate) (drop (gate + 5) image))) within
    ∙ ap (λ (l : List ℕ). found_by true true (gate == start image) gate l) text

-- the end of the list
pub found_none : (image : List ℕ) (bodies : List (List ℕ)) (gate end : ℕ) → Begins image bodies gate → HoldsBodies image (bodies ++ []) → found_at image gate end ≡ Ok None
found_none image bodies gate end b h =
    let w = whole_of image (bodies ++ []) h in
    let front = at_gate image bodies [] gate b h in
    let some : 0 < length bodies = omega (arith, h.area.some, length-append bodies []) in
    let not_open = not_open_by gate (length image) (get_or image gate 0) (λ one. w.closed (sym (get_at image (w.gate ∷ w.tail) gate 0 front) ∙ ap (λ (n : ℕ). get_or image n 0) (omega arith) ∙ one)) in
    let apart = apart_by gate (start image) (omega (arith, b.place, frames_some bodies some)) in
    ap (λ (t : Bool). found_by t (is_whole image gate end) (gate == start image) gate (take (stated image gate) (drop (gate + 5) image))) not_open
    ∙ ap (λ (t : Bool). found_by false (is_whole image gate end) t gate (take (stated image gate) (drop (gate + 5) image))) apart

reads_rest : (image : List ℕ) (bodies rest : List (List ℕ)) (gate end : ℕ) → Begins image bodies gate → HoldsBodies image (bodies ++ rest) → end ≡ start image + area_size → Reads image gate end
reads_rest image bodies [] gate end b h last = record { body = None; is = found_none image bodies gate end b h }
reads_rest image bodies (body ∷ rest) gate end b h last =
    let w = whole_of image (bodies ++ body ∷ rest) h in
    let n = length body in
    let tail = frames rest ++ w.gate ∷ w.tail in
    let front : drop gate image ≡ 1 ∷ (four_bytes n ++ (body ++ tail)) = at_gate image bodies (body ∷ rest) gate b h ∙ ap (λ (l : List ℕ). 1 ∷ (four_bytes n ++ l)) (append_assoc body (frames rest) (w.gate ∷ w.tail)) in
    let size : length image - gate ≡ length body + length (frames rest) + length w.tail + 6 =
    sym (length-drop gate image) ∙ ap length front ∙ omega (arith, length-append body tail, length-append (frames rest) (w.gate ∷ w.tail)) in
    record {
      body = Some body;
      is = frame_found image body tail gate end (second_body bodies body rest h.area.all) front (omega (arith, size)) (omega (arith, last, b.place, w.room, room_of bodies body rest));
    }

pub undamaged : (image : List ℕ) (bodies all : List (List ℕ)) (gate end : ℕ) → Begins image bodies gate → HoldsBodies image all → end ≡ start image + area_size → Reads image gate end
undamaged image bodies all gate end b h last =
    let first = first_bodies image bodies all gate b h in
    reads_rest image bodies first.rest gate end b (subst (λ (l : List (List ℕ)). HoldsBodies image l) first.whole h) last

cases_lt_le : (a b : ℕ) → (a < b) ⊎ (b ≤ a)
cases_lt_le a b = by_test (nat_lt a b) refl
  where
    by_test : (t : Bool) → nat_lt a b ≡ t → (a < b) ⊎ (b ≤ a)
    by_test true is = inl (grind (arith, nat_tests))
    by_test false is = inr (grind (arith, nat_tests))

-- the bytes from a gate on say what the image says
front_is : (image front : List ℕ) (gate size k i : ℕ) → size ≡ length image → front ≡ take k (drop gate image) → k ≡ length front → min 5 (size - gate) ≤ k → i < 5 → get_or front i 0 ≡ get_or image (gate + i) 0
front_is image front gate size k i long is count enough small = elim (cases_lt_le i k) [
  | inl within ↦ ap (λ (l : List ℕ). get_or l i 0) is ∙ get_or-take k (drop gate image) i 0 within ∙ get_or-drop gate image i 0
  | inr past ↦ get_or_past front i 0 (omega (arith, past, count)) ∙ sym (get_or_past image (gate + i) 0 (omega (arith, past, enough, small, long)))
]

abbrev judge_by : ℕ → ℕ → ℕ → ℕ → ℕ → Judged
judge_by first n gate end size = if first == 1
    then (if (nat_le 1 n && nat_le n largest_body) && (nat_le (gate + 6 + n) size && nat_le (gate + 6 + n) end) then kind.Frame n else kind.Damaged)
    else kind.Closed

abbrev judged_by : Bool → ℕ → ℕ → ℕ → ℕ → ℕ → Judged
judged_by inside first n gate end size = if inside && (first == 1)
    then (if (nat_le 1 n && nat_le n largest_body) && (nat_le (gate + 6 + n) size && nat_le (gate + 6 + n) end) then kind.Frame n else kind.Damaged)
    else kind.Closed

pub judged_same : (image front : List ℕ) (gate end size : ℕ) → size ≡ length image → gate < size → front ≡ take (length front) (drop gate image) → min 5 (size - gate) ≤ length front → judged front gate end size ≡ judged_at image gate end
judged_same image front gate end size long within is enough =
    let at : (i : ℕ) → i < 5 → get_or front i 0 ≡ get_or image (gate + i) 0 = λ i small. front_is image front gate size (length front) i long is (omega arith) enough small in
    let number_is : number front ≡ stated image gate =
    ap (λ (x : ℕ). x * 16777216 + get_or front 2 0 * 65536 + get_or front 3 0 * 256 + get_or front 4 0) (at 1 (omega arith))
    ∙ ap (λ (x : ℕ). get_or image (gate + 1) 0 * 16777216 + x * 65536 + get_or front 3 0 * 256 + get_or front 4 0) (at 2 (omega arith))
    ∙ ap (λ (x : ℕ). get_or image (gate + 1) 0 * 16777216 + get_or image (gate + 2) 0 * 65536 + x * 256 + get_or front 4 0) (at 3 (omega arith))
    ∙ ap (λ (x : ℕ). get_or image (gate + 1) 0 * 16777216 + get_or image (gate + 2) 0 * 65536 + get_or image (gate + 3) 0 * 256 + x) (at 4 (omega arith)) in
    let first : get_or front 0 0 ≡ get_or image gate 0 = at 0 (omega arith) ∙ ap (λ (n : ℕ). get_or image n 0) (omega arith) in
    let inside : nat_lt gate size ≡ true = lt_true gate size within in
    ap (λ (x : ℕ). judge_by x (number front) gate end size) first ∙ ap (λ (n : ℕ). judge_by (get_or image gate 0) n gate end size) number_is
    ∙ ap (λ (t : Bool). judged_by t (get_or image gate 0) (stated image gate) gate end size) (sym inside) ∙ ap (λ (n : ℕ). judged_by (nat_lt gate n) (get_or image gate 0) (stated image gate) gate end n) long
  where
    lt_true : (a b : ℕ) → a < b → nat_lt a b ≡ true
    lt_true a b lt = grind (arith, nat_tests)
