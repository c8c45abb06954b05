-- What a header says of its image, and what is known of a journal that is read.
use Rattle.std.proofs.Common.{◌≡◌, ◌⊎◌, inl, inr, ℕ, ◌+◌, ◌-◌, ◌≤◌, ◌<◌, ◌==◌, nat_le, ◌||◌, min, if◌then◌else◌, Bool, true, false, not, List, [], ◌∷◌, ◌++◌, length, get_or, take, drop, bytes_eq, Option, Some, None, Ok, Err, refl, sym, ◌∙◌, ap, subst, arith, length-append, length-drop}
use Rattle.key_journal.specs.Layout.{area_size, second_start, first_start}
use mathlib.Core.Logic.{◌≢◌}
use Rattle.std.proofs.Math.Seq.{drop-drop, take-add}
use Rattle.std.proofs.lemmas.List.{take_at, get_or-take, take-take, drop-take, take_min, length-take, length-take-le}
use Rattle.std.proofs.lemmas.Bool.Decides.{nat_tests}
use Rattle.x_disk.specs.Disk.{View, IsDurable, IsStill, disk_size}
use Rattle.key_journal.specs.Journal.{magic, four_bytes, is_blank, has_magic, start, HoldsBodies, Begins}
use Rattle.key_journal.specs.Judged.{judged_at, IsSized}
use Rattle.key_journal.specs.Opening.{IsHeaderOf, IsRefusedOpening, IsOpened, IsOpen, IsDamagedAt, refusal_of, is_open, is_whole, stated, found_at}
use Rattle.key_journal.specs.States.{IsReady, HasBodies, HasRead, AreFirst}
use Rattle.key_journal.specs.declared.judge.Judged.TheVariants as kind
use Rattle.key_journal.specs.declared.cause.Cause.{Cause}
use Rattle.key_journal.specs.declared.cause.Cause.TheVariants as cause
use Rattle.key_journal.proofs.SameLemmas.{same_holds}
use Rattle.key_journal.proofs.ReadLemmas.{begins_none, begins_more, all_read, first_bodies, undamaged, found_by, frames_some, not_blank, refused_by}

pub header_is : (size held : ℕ) (buf zeros b : List ℕ) → size ≡ length b → held ≡ min size 16 → length buf ≡ held → buf ≡ take held b → IsHeaderOf size (buf ++ zeros) b
header_is size held buf zeros b long is filled read = record {
  long = long;
  front = ap (λ (n : ℕ). take n (buf ++ zeros)) (sym is) ∙ take_at buf zeros held filled ∙ read ∙ ap (λ (n : ℕ). take n b) (omega (arith, is, long)) ∙ take_min 16 b;
}

-- the same, of a buffer of which a part was read
pub header_read : (size held : ℕ) (buf zeros all b : List ℕ) → size ≡ length b → held ≡ min size 16 → length all ≡ 16 → length buf ≡ length (take held all) → buf ≡ take (length (take held all)) b → IsHeaderOf size (buf ++ zeros) b
header_read size held buf zeros all b long is full filled read =
    let count : length (take held all) ≡ held = length-take-le held all (omega (arith, full, is)) in
    header_is size held buf zeros b long is (filled ∙ count) (read ∙ ap (λ (n : ℕ). take n b) count)

pub long_enough : (b : List ℕ) → refusal_of b ≡ None → 2 ≤ length b
long_enough b is = (not_blank b (refused_by (is_blank b) (has_magic b) is).0).0

pub opened_state : (v : View) (size gate end : ℕ) → IsDurable v → (gate ≡ first_start) ⊎ (gate ≡ second_start) → end ≡ gate + area_size → ((b : List ℕ) → v.now ≡ Some b → size ≡ length b)
    → ((b : List ℕ) → v.now ≡ Some b → refusal_of b ≡ None) → ((b : List ℕ) → v.now ≡ Some b → gate ≡ start b) → IsOpen v size gate end false
opened_state v size gate end durable bounds last long fine first = record {
  durable = durable;
  within = either bounds;
  first = omega (arith, last);
  room = omega (arith, last);
  long = long;
  journal = λ image now. record {
    bodies = [];
    begins = subst (λ (g : ℕ). Begins image [] g) (sym (first image now)) (begins_none image (fine image now));
    last = omega (arith, last, first image now);
    closed = λ no. absurd (cc no);
  };
}
  where
    either : (gate ≡ first_start) ⊎ (gate ≡ second_start) → end ≤ disk_size
    either (inl low) = omega (arith, last, low)
    either (inr high) = omega (arith, last, high)

pub ready_state : (v : View) (size gate end : ℕ) (ended : Bool) → IsOpen v size gate end ended → ended ≡ true → IsReady v gate end
ready_state v size gate end ended o done = record {
  room = o.room;
  within = o.within;
  durable = o.durable;
  journal = λ image now.
      let r = o.journal image now in
      let not_open = r.closed done in
      record { bodies = r.bodies; holds = all_read image r.bodies gate r.begins not_open.0 not_open.1; place = r.begins.place; last = r.last };
}

-- what is still, stays on the disk
pub still_durable : (old new : View) → IsStill old new → IsDurable old → IsDurable new
still_durable old new still durable = record {
  only = λ b c now left. durable.only b c (sym still.now ∙ now) (still.images c left);
  stable = still.stable ∙ durable.stable ∙ sym still.now;
}

pub still_both : (old mid new : View) → IsStill old mid → IsStill mid new → IsStill old new
still_both old mid new first second = record {
  now = second.now ∙ first.now;
  stable = second.stable ∙ first.stable;
  moment = second.moment ∙ first.moment;
  images = λ c left. first.images c (second.images c left);
  images_stay = λ c left. second.images_stay c (first.images_stay c left);
  since = λ t c left. first.since t c (second.since t c left);
  since_stays = λ t c left. second.since_stays t c (first.since_stays t c left);
}

-- a piece more of a text
pub piece_long : (text piece : List ℕ) (done len : ℕ) → length text ≡ done → len ≤ length piece → length (text ++ take len piece) ≡ done + len
piece_long text piece done len long within = length-append text (take len piece) ∙ omega (arith, long, length-take-le len piece within)

pub piece_more : (b text piece : List ℕ) (at done len : ℕ) → text ≡ take done (drop at b) → piece ≡ take (length piece) (drop (at + done) b) → len ≤ length piece → text ++ take len piece ≡ take (done + len) (drop at b)
piece_more b text piece at done len so_far is within =
    let part : take len piece ≡ take len (drop done (drop at b)) =
    ap (λ (l : List ℕ). take len l) is ∙ take-take len (length piece) (drop (at + done) b) within ∙ ap (λ (l : List ℕ). take len l) (sym (drop-drop done at b)) in
    ap (λ (l : List ℕ). l ++ take len piece) so_far ∙ ap (λ (l : List ℕ). take done (drop at b) ++ l) part ∙ sym (take-add done len (drop at b))

take_own : (k : ℕ) (xs ys : List ℕ) → ys ≡ take k xs → ys ≡ take (length ys) xs
take_own k xs ys is = is ∙ sym (ap (λ (n : ℕ). take n xs) (ap length is ∙ length-take k xs) ∙ take_min k xs)

pub window_part : (buffer b : List ℕ) (from held at : ℕ) → take held buffer ≡ take held (drop from b) → from ≤ at → at ≤ from + held
    → take (held - (at - from)) (drop (at - from) buffer) ≡ take (length (take (held - (at - from)) (drop (at - from) buffer))) (drop at b)
window_part buffer b from held at same low high =
    let a = at - from in
    let n = held - a in
    let all : held ≡ a + n = omega (arith, low, high) in
    let moved : take n (drop a buffer) ≡ take n (drop at b) =
    sym (drop-take a n buffer) ∙ ap (λ (m : ℕ). drop a (take m buffer)) (sym all) ∙ ap (λ (l : List ℕ). drop a l) same ∙ ap (λ (m : ℕ). drop a (take m (drop from b))) all
    ∙ drop-take a n (drop from b) ∙ ap (λ (l : List ℕ). take n l) (drop-drop a from b ∙ ap (λ (m : ℕ). drop m b) (omega (arith, low))) in
    take_own n (drop at b) (take n (drop a buffer)) moved

pub refused_is : (old new : View) (reason : Cause) → new.now ≡ old.now → (reason ≡ cause.Blank) ⊎ (reason ≡ cause.Damaged 2) → ((b : List ℕ) → old.now ≡ Some b → refusal_of b ≡ Some reason) → IsRefusedOpening old new reason
refused_is old new reason now names is = record {
  now = now;
  fault = λ fault. absurd (not_fault names fault);
  names = inr names;
  exact = λ b told. inr (is b told);
}
  where
    not_fault : (reason ≡ cause.Blank) ⊎ (reason ≡ cause.Damaged 2) → reason ≡ cause.Fault → ⊥
    not_fault (inl blank) fault = let both : cause.Blank ≡ cause.Fault = sym blank ∙ fault in cc both
    not_fault (inr damaged) fault = let both : cause.Damaged 2 ≡ cause.Fault = sym damaged ∙ fault in cc both

pub opened_is : (old new : View) (size gate end : ℕ) → new.now ≡ old.now → IsDurable new → IsOpen new size gate end false → ((b : List ℕ) → old.now ≡ Some b → refusal_of b ≡ None) → ((b : List ℕ) → old.now ≡ Some b → gate ≡ start b)
    → IsOpened old new gate end false
opened_is old new size gate end now durable o fine first = record {
  now = now;
  durable = durable;
  fresh = refl;
  exact = fine;
  begins = λ b is. subst (λ (g : ℕ). Begins b [] g) (sym (first b is)) (begins_none b (fine b is));
  last = λ b is. (o.journal b (now ∙ is)).last;
}

-- what two facts of one disk say of its images
told_once : (v : View) (b c : List ℕ) → v.now ≡ Some b → v.now ≡ Some c → b ≡ c
told_once v b c first second = let both : Some b ≡ Some c = sym first ∙ second in cc both

pub first_of : (v : View) (bodies all : List (List ℕ)) (gate : ℕ) → HasRead v bodies gate → HasBodies v all → AreFirst bodies all
first_of v bodies all gate read has =
    first_bodies read.image bodies all gate read.begins (subst (λ (l : List ℕ). HoldsBodies l all) (told_once v has.image read.image has.now read.now) has.holds)

-- what was judged says what is found
closed_by : (opened whole : Bool) (n : ℕ) → (if opened then (if whole then kind.Frame n else kind.Damaged) else kind.Closed) ≡ kind.Closed → opened ≡ false
closed_by true true n is = absurd (cc is)
closed_by true false n is = absurd (cc is)
closed_by false whole n is = refl

frame_by : (opened whole : Bool) (m n : ℕ) → (if opened then (if whole then kind.Frame m else kind.Damaged) else kind.Closed) ≡ kind.Frame n → (opened ≡ true) × ((whole ≡ true) × (m ≡ n))
frame_by true true m n is = (refl, (refl, cc is))
frame_by true false m n is = absurd (cc is)
frame_by false whole m n is = absurd (cc is)

damaged_by : (opened whole : Bool) (n : ℕ) → (if opened then (if whole then kind.Frame n else kind.Damaged) else kind.Closed) ≡ kind.Damaged → (opened ≡ true) × (whole ≡ false)
damaged_by true true n is = absurd (cc is)
damaged_by true false n is = (refl, refl)
damaged_by false whole n is = absurd (cc is)

pub closed_is : (b : List ℕ) (gate end : ℕ) → kind.Closed ≡ judged_at b gate end → is_open b gate ≡ false
closed_is b gate end is = closed_by (is_open b gate) (is_whole b gate end) (stated b gate) (sym is)

pub found_end : (b : List ℕ) (gate end : ℕ) → is_open b gate ≡ false → gate ≢ start b → found_at b gate end ≡ Ok None
found_end b gate end not_open not =
    ap (λ (t : Bool). found_by t (is_whole b gate end) (gate == start b) gate (take (stated b gate) (drop (gate + 5) b))) not_open
    ∙ ap (λ (t : Bool). found_by false (is_whole b gate end) t gate (take (stated b gate) (drop (gate + 5) b))) (differ gate (start b) not)
  where
    differ : (m n : ℕ) → m ≢ n → (m == n) ≡ false
    differ m n not = grind (arith, nat_tests)

pub found_first : (b : List ℕ) (gate end : ℕ) → is_open b gate ≡ false → gate ≡ start b → found_at b gate end ≡ Err (cause.Damaged gate)
found_first b gate end not_open first =
    ap (λ (t : Bool). found_by t (is_whole b gate end) (gate == start b) gate (take (stated b gate) (drop (gate + 5) b))) not_open
    ∙ ap (λ (t : Bool). found_by false (is_whole b gate end) t gate (take (stated b gate) (drop (gate + 5) b))) (same gate (start b) first)
  where
    same : (m n : ℕ) → m ≡ n → (m == n) ≡ true
    same m n is = grind (arith, nat_tests)

pub found_damage : (b : List ℕ) (gate end : ℕ) → kind.Damaged ≡ judged_at b gate end → found_at b gate end ≡ Err (cause.Damaged gate)
found_damage b gate end is =
    let parts = damaged_by (is_open b gate) (is_whole b gate end) (stated b gate) (sym is) in
    ap (λ (t : Bool). found_by t (is_whole b gate end) (gate == start b) gate (take (stated b gate) (drop (gate + 5) b))) parts.0
    ∙ ap (λ (t : Bool). found_by true t (gate == start b) gate (take (stated b gate) (drop (gate + 5) b))) parts.1

pub found_body : (b body : List ℕ) (gate end n : ℕ) → kind.Frame n ≡ judged_at b gate end → body ≡ take n (drop (gate + 5) b) → found_at b gate end ≡ Ok (Some body)
found_body b body gate end n is text =
    let parts = frame_by (is_open b gate) (is_whole b gate end) (stated b gate) n (sym is) in
    ap (λ (t : Bool). found_by t (is_whole b gate end) (gate == start b) gate (take (stated b gate) (drop (gate + 5) b))) parts.0
    ∙ ap (λ (t : Bool). found_by true t (gate == start b) gate (take (stated b gate) (drop (gate + 5) b))) parts.1.0
    ∙ ap (λ (m : ℕ). found_by true true (gate == start b) gate (take m (drop (gate + 5) b))) parts.1.1
    ∙ ap (λ (l : List ℕ). found_by true true (gate == start b) gate l) (sym text)

module _ (v : View) (size gate end : ℕ) (ended : Bool) (o : IsOpen v size gate end ended) where
  -- the list ended here before
  pub ended_at : ended ≡ true → (b : List ℕ) → v.now ≡ Some b → (is_open b gate ≡ false) × (gate ≢ start b)
  ended_at done b now =
      let r = o.journal b now in
      let not_open = r.closed done in
      let long = frames_some r.bodies not_open.1 in
      (not_open.0, λ first. absurd (omega (arith, r.begins.place, long, first)))

  -- damage isn't found in an image that stands for bodies
  pub undamaged_at : (bodies : List (List ℕ)) → HasBodies v bodies → ((b : List ℕ) → v.now ≡ Some b → found_at b gate end ≡ Err (cause.Damaged gate)) → ⊥
  undamaged_at bodies has damage =
      let r = o.journal has.image has.now in
      let reads = undamaged has.image r.bodies bodies gate end r.begins has.holds r.last in
      let both : Ok reads.body ≡ Err (cause.Damaged gate) = sym reads.is ∙ damage has.image has.now in
      cc both

  pub more_of : (new : View) (next n : ℕ) (body : List ℕ) → new.now ≡ v.now → next ≡ gate + (5 + n) → IsSized gate end size n → ((b : List ℕ) → v.now ≡ Some b → take 5 (drop gate b) ≡ 1 ∷ four_bytes n)
      → ((b : List ℕ) → v.now ≡ Some b → body ≡ take n (drop (gate + 5) b)) → (bodies : List (List ℕ)) → HasRead v bodies gate → HasRead new (bodies ++ body ∷ []) next
  more_of new next n body now place sized front text bodies read =
      let r = o.journal read.image read.now in
      record {
        image = read.image;
        now = now ∙ read.now;
        begins = begins_more read.image bodies gate next end n body read.begins r.last (front read.image read.now) sized.some sized.small (omega (arith, sized.in_file, o.long read.image read.now)) sized.in_area (text read.image read.now) place;
      }

  pub more_state : (new : View) (size_too next n : ℕ) (body : List ℕ) → IsStill v new → size_too ≡ size → ended ≡ false → next ≡ gate + (5 + n) → IsSized gate end size n → ((b : List ℕ) → v.now ≡ Some b → take 5 (drop gate b) ≡ 1 ∷ four_bytes n)
      → ((b : List ℕ) → v.now ≡ Some b → body ≡ take n (drop (gate + 5) b)) → IsOpen new size_too next end ended
  more_state new size_too next n body still same going place sized front text = record {
    durable = still_durable v new still o.durable;
    within = o.within;
    first = omega (arith, o.first, place);
    room = omega (arith, sized.in_area, place);
    long = λ b now. same ∙ o.long b (sym still.now ∙ now);
    journal = λ b now.
        let was = sym still.now ∙ now in
        let r = o.journal b was in
        record {
          bodies = r.bodies ++ body ∷ [];
          begins = begins_more b r.bodies gate next end n body r.begins r.last (front b was) sized.some sized.small (omega (arith, sized.in_file, o.long b was)) sized.in_area (text b was) place;
          last = r.last;
          closed = λ done. let both : true ≡ false = sym done ∙ going in absurd (cc both);
        };
  }

  pub closed_state : (new : View) (size_too : ℕ) → IsStill v new → size_too ≡ size → ((b : List ℕ) → v.now ≡ Some b → is_open b gate ≡ false) → gate + area_size ≢ end → IsOpen new size_too gate end true
  closed_state new size_too still same not_open not_first = record {
    durable = still_durable v new still o.durable;
    within = o.within;
    first = o.first;
    room = o.room;
    long = λ b now. same ∙ o.long b (sym still.now ∙ now);
    journal = λ b now.
        let was = sym still.now ∙ now in
        let r = o.journal b was in
        record {
          bodies = r.bodies;
          begins = r.begins;
          last = r.last;
          closed = λ done. (not_open b was, some_in_front b r.bodies r.begins r.last);
        };
  }
    where
      some_in_front : (b : List ℕ) (bodies : List (List ℕ)) → Begins b bodies gate → end ≡ start b + area_size → 0 < length bodies
      some_in_front b [] begins last = absurd (not_first (omega (arith, begins.place, last)))
      some_in_front b (x ∷ bodies) begins last = omega arith

  -- the area's first gate, by its place
  pub first_gate : (b : List ℕ) → v.now ≡ Some b → gate + area_size ≡ end → gate ≡ start b
  first_gate b now is = let r = o.journal b now in omega (arith, r.last, is)

  pub later_gate : (b : List ℕ) → v.now ≡ Some b → gate + area_size ≢ end → gate ≢ start b
  later_gate b now not first = let r = o.journal b now in not (omega (arith, r.last, first))

-- a gate that isn't the area's first has a frame before it
pub some_before : (image : List ℕ) (bodies : List (List ℕ)) (gate : ℕ) → Begins image bodies gate → gate ≢ start image → 0 < length bodies
some_before image [] gate begins not = absurd (not (omega (arith, begins.place)))
some_before image (x ∷ bodies) gate begins not = omega arith

-- the list of frames that ended at this gate is the image's
pub all_of : (old new : View) (bodies : List (List ℕ)) (gate : ℕ) → new.now ≡ old.now → ((b : List ℕ) → old.now ≡ Some b → (is_open b gate ≡ false) × (gate ≢ start b)) → HasRead old bodies gate → HasBodies new bodies
all_of old new bodies gate now not_open read =
    let closed = not_open read.image read.now in
    record { image = read.image; now = now ∙ read.now; holds = all_read read.image bodies gate read.begins closed.0 (some_before read.image bodies gate read.begins closed.1) }

pub none_of : (o : Option Cause) → ((x : Cause) → o ≡ Some x → ⊥) → o ≡ None
none_of None not = refl
none_of (Some x) not = absurd (not x refl)

-- an image that stands for bodies is refused by nothing
blank_by : (n x : ℕ) → 2 ≤ n → x ≡ 1 → nat_le n 1 || not (x == 1) ≡ false
blank_by n x long is = grind (arith, nat_tests)

abbrev refusal_by : Bool → Bool → Option Cause
refusal_by blank magic = if blank then Some cause.Blank else (if magic then None else Some (cause.Damaged 2))

pub open_by_front : (image : List ℕ) → take 1 image ≡ 1 ∷ [] → take 14 (drop 2 image) ≡ magic → refusal_of image ≡ None
open_by_front image opened is =
    let long : 2 ≤ length image = omega (arith, ap length is, length-take 14 (drop 2 image), length-drop 2 image) in
    let first : get_or image 0 0 ≡ 1 = sym (get_or-take 1 image 0 0 (omega arith)) ∙ ap (λ (l : List ℕ). get_or l 0 0) opened in
    ap (λ (t : Bool). refusal_by t (has_magic image)) (blank_by (length image) (get_or image 0 0) long first)
    ∙ ap (λ (l : List ℕ). refusal_by false (bytes_eq l magic)) is

pub undamaged_header : (v : View) (bodies : List (List ℕ)) (reason : Cause) → HasBodies v bodies → ((b : List ℕ) → v.now ≡ Some b → refusal_of b ≡ Some reason) → ⊥
undamaged_header v bodies reason has refused =
    let both : Some reason ≡ None = sym (refused has.image has.now) ∙ open_by_front has.image has.holds.opened has.holds.magic in
    cc both

-- the list that a disk tells is one
pub one_list : (old new : View) (bodies all : List (List ℕ)) → new.now ≡ old.now → HasBodies new bodies → HasBodies old all → all ≡ bodies
one_list old new bodies all now has other =
    same_holds has.image all bodies (subst (λ (l : List ℕ). HoldsBodies l all) (told_once new other.image has.image (now ∙ other.now) has.now) other.holds) has.holds

-- where damage is told
refused_twice : (blank magic : Bool) (place : ℕ) → refusal_by blank magic ≡ Some (cause.Damaged place) → (blank ≡ false) × ((magic ≡ false) × (place ≡ 2))
refused_twice true m place is = absurd (cc is)
refused_twice false true place is = absurd (cc is)
refused_twice false false place is = (refl, (refl, cc is))

pub damaged_header : (image : List ℕ) (place : ℕ) → refusal_of image ≡ Some (cause.Damaged place) → IsDamagedAt image place
damaged_header image place is =
    let parts = refused_twice (is_blank image) (has_magic image) place is in
    record { not_blank = parts.0; damage = inl parts.1 }

pub damaged_gate : (v : View) (size gate end : ℕ) (ended : Bool) → IsOpen v size gate end ended → ((b : List ℕ) → v.now ≡ Some b → found_at b gate end ≡ Err (cause.Damaged gate))
    → (place : ℕ) → cause.Damaged gate ≡ cause.Damaged place → (b : List ℕ) → v.now ≡ Some b → IsDamagedAt b place
damaged_gate v size gate end ended o found place is b now =
    let r = o.journal b now in
    let same : gate ≡ place = cc is in
    let parts = refused_by (is_blank b) (has_magic b) (open_by_front b r.begins.opened r.begins.magic) in
    subst (λ (p : ℕ). IsDamagedAt b p) same (record {
      not_blank = parts.0;
      damage = inr (parts.1, record { bodies = r.bodies; begins = r.begins; damage = subst (λ (e : ℕ). found_at b gate e ≡ Err (cause.Damaged gate)) r.last (found b now) });
    })
