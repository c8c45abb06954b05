-- What images stand for after a write behind the last gate, and after that gate is opened.
use Rattle.std.proofs.Common.{◌≡◌, ◌⊎◌, inl, inr, ℕ, suc, ◌+◌, ◌-◌, ◌≤◌, ◌<◌, ◌==◌, if◌then◌else◌, List, [], ◌∷◌, ◌++◌, length, get_or, take, drop, replicate, refl, sym, ◌∙◌, ap, subst, arith, append_assoc, length-append, length-drop, take-append-drop}
use Rattle.key_journal.specs.Layout.{area_size, second_start}
use mathlib.Core.Logic.{◌≢◌}
use Rattle.std.proofs.Math.Seq.{take-append-add}
use Rattle.std.proofs.lemmas.List.{take_at, drop_at, drop_more, append-nil, take-take, drop-take, drop-append-le, get_or-take, length-take-le, length-take}
use Rattle.std.proofs.lemmas.Bool.{cases_eq}
use Rattle.std.proofs.lemmas.Bool.Decides.{nat_tests}
use Rattle.x_disk.specs.Disk.{IsTornAt, overwrite}
use Rattle.key_journal.specs.Journal.{magic, four_bytes, frame_of, frames, IsBody, AreBodies, start, HoldsBodies, gate_place, Stages}

pub start_in : (image : List ℕ) → (16 ≤ start image) × (start image ≤ second_start)
start_in image = elim (cases_eq (get_or image 1 0) 1) [
  | inl is ↦ grind (arith, nat_tests)
  | inr not ↦ grind (arith, nat_tests)
]

-- the selected area and all behind it
pub record Whole (image : List ℕ) (bodies : List (List ℕ)) : Type 0 where
  pub gate : ℕ
  pub tail : List ℕ
  pub closed : gate ≢ 1
  pub whole : drop (start image) image ≡ frames bodies ++ gate ∷ tail
  pub room : length (frames bodies) + 1 ≤ area_size

-- the area is the front of what lies from its beginning on
pub record AreaParts (size : ℕ) (behind fr : List ℕ) (gate : ℕ) (rest : List ℕ) : Type 0 where
  pub whole : behind ≡ fr ++ gate ∷ (rest ++ drop size behind)
  pub room : length fr + 1 ≤ size

area_parts : (size : ℕ) (behind fr : List ℕ) (gate : ℕ) (rest : List ℕ) → take size behind ≡ fr ++ gate ∷ rest → AreaParts size behind fr gate rest
area_parts size behind fr gate rest is =
    let long : length (take size behind) ≡ length fr + (length rest + 1) = ap length is ∙ length-append fr (gate ∷ rest) ∙ omega arith in
    record {
      whole = sym (take-append-drop size behind) ∙ ap (λ (l : List ℕ). l ++ drop size behind) is ∙ append_assoc fr (gate ∷ rest) (drop size behind);
      room = omega (arith, long, length-take size behind);
    }

pub whole_of : (image : List ℕ) (bodies : List (List ℕ)) → HoldsBodies image bodies → Whole image bodies
whole_of image bodies h =
    let a = h.area in
    let parts = area_parts area_size (drop (start image) image) (frames bodies) a.gate a.rest a.whole in
    record { gate = a.gate; tail = a.rest ++ drop area_size (drop (start image) image); closed = a.closed; whole = parts.whole; room = parts.room }

pub area_is : (size k : ℕ) (fr : List ℕ) (gate : ℕ) (tail behind : List ℕ) → behind ≡ fr ++ gate ∷ tail → size ≡ length fr + suc k → take size behind ≡ fr ++ gate ∷ take k tail
area_is size k fr gate tail behind is room =
    ap (λ (l : List ℕ). take size l) is ∙ ap (λ (n : ℕ). take n (fr ++ gate ∷ tail)) room ∙ take-append-add fr (gate ∷ tail) (suc k)

pub rest_of : (size m : ℕ) → m + 1 ≤ size → size ≡ m + suc (size - (m + 1))
rest_of size m le = omega arith

-- the same first sixteen bytes
pub record SameHead (image c : List ℕ) : Type 0 where
  pub head : take 16 c ≡ take 16 image

pub head_start : (image c : List ℕ) → SameHead image c → start c ≡ start image
head_start image c same =
    let at : get_or c 1 0 ≡ get_or image 1 0 = sym (get_or-take 16 c 1 0 (omega arith)) ∙ ap (λ (l : List ℕ). get_or l 1 0) same.head ∙ get_or-take 16 image 1 0 (omega arith) in
    ap (λ (n : ℕ). if n == 1 then second_start else 16) at

pub holds_by : (c : List ℕ) (bodies : List (List ℕ)) (gate : ℕ) (tail : List ℕ) → take 1 c ≡ 1 ∷ [] → take 14 (drop 2 c) ≡ magic → gate ≢ 1 → drop (start c) c ≡ frames bodies ++ gate ∷ tail
    → length (frames bodies) + 1 ≤ area_size → 0 < length bodies → AreBodies bodies → HoldsBodies c bodies
holds_by c bodies gate tail opened is closed whole room some all = record {
  opened = opened;
  magic = is;
  area = record {
    some = some;
    all = all;
    gate = gate;
    rest = take (area_size - (length (frames bodies) + 1)) tail;
    closed = closed;
    whole = area_is area_size (area_size - (length (frames bodies) + 1)) (frames bodies) gate tail (drop (start c) c) whole (rest_of area_size (length (frames bodies)) room);
  };
}

pub holds_of : (image c : List ℕ) (bodies more : List (List ℕ)) (gate : ℕ) (tail : List ℕ) → HoldsBodies image bodies → SameHead image c → gate ≢ 1
    → drop (start image) c ≡ frames more ++ gate ∷ tail → length (frames more) + 1 ≤ area_size → 0 < length more → AreBodies more → HoldsBodies c more
holds_of image c bodies more gate tail h same closed is room some all =
    holds_by c more gate tail (sym (take-take 1 16 c (omega arith)) ∙ ap (λ (l : List ℕ). take 1 l) same.head ∙ take-take 1 16 image (omega arith) ∙ h.opened)
    (sym (drop-take 2 14 c) ∙ ap (λ (l : List ℕ). drop 2 l) same.head ∙ drop-take 2 14 image ∙ h.magic) closed (ap (λ (n : ℕ). drop n c) (head_start image c same) ∙ is) room some all

pub same_head : (n : ℕ) (image c : List ℕ) → 16 ≤ n → take n c ≡ take n image → SameHead image c
same_head n image c le is = record { head = sym (take-take 16 n c le) ∙ ap (λ (l : List ℕ). take 16 l) is ∙ take-take 16 n image le }

-- a list from its parts
pub drop_join : (s m : ℕ) (c front : List ℕ) → take (s + m) c ≡ front → s ≤ length front → drop s c ≡ drop s front ++ drop (s + m) c
drop_join s m c front is le =
    ap (λ (l : List ℕ). drop s l) (sym (take-append-drop (s + m) c) ∙ ap (λ (l : List ℕ). l ++ drop (s + m) c) is) ∙ drop-append-le s front (drop (s + m) c) le

-- the same bytes up to and with the closed gate
pub same_front : (image c : List ℕ) (bodies : List (List ℕ)) → HoldsBodies image bodies → take (gate_place image bodies + 1) c ≡ take (gate_place image bodies + 1) image → HoldsBodies c bodies
same_front image c bodies h is =
    let w = whole_of image bodies h in
    let s = start image in
    let fr = frames bodies in
    let m = length fr + 1 in
    let low = start_in image in
    let long : length image - s ≡ length fr + (length w.tail + 1) = sym (length-drop s image) ∙ ap length w.whole ∙ length-append fr (w.gate ∷ w.tail) ∙ omega arith in
    let same_place : gate_place image bodies + 1 ≡ s + m = omega arith in
    let is' : take (s + m) c ≡ take (s + m) image = subst (λ (n : ℕ). take n c ≡ take n image) same_place is in
    let front : drop s (take (s + m) image) ≡ fr ++ w.gate ∷ [] =
    drop-take s m image ∙ ap (λ (l : List ℕ). take m l) w.whole ∙ take-append-add fr (w.gate ∷ w.tail) 1 in
    let all : drop s c ≡ fr ++ w.gate ∷ drop (s + m) c =
    drop_join s m c (take (s + m) image) is' (omega (arith, length-take (s + m) image, long)) ∙ ap (λ (l : List ℕ). l ++ drop (s + m) c) front ∙ append_assoc fr (w.gate ∷ []) (drop (s + m) c) in
    holds_of image c bodies bodies w.gate (drop (s + m) c) h (same_head (s + m) image c (omega (arith, low)) is') w.closed all w.room h.area.some h.area.all

pub frames-push : (bodies : List (List ℕ)) (body rest : List ℕ) → frames (bodies ++ body ∷ []) ++ rest ≡ frames bodies ++ 1 ∷ (four_bytes (length body) ++ (body ++ rest))
frames-push [] body rest = ap (λ (l : List ℕ). 1 ∷ (four_bytes (length body) ++ (l ++ rest))) (append-nil body)
frames-push (b ∷ bodies) body rest =
    ap (λ (l : List ℕ). 1 ∷ (four_bytes (length b) ++ l))
    (append_assoc b (frames (bodies ++ body ∷ [])) rest ∙ ap (λ (l : List ℕ). b ++ l) (frames-push bodies body rest) ∙ sym (append_assoc b (frames bodies) (1 ∷ (four_bytes (length body) ++ (body ++ rest)))))

pub length-frames-push : (bodies : List (List ℕ)) (body : List ℕ) → length (frames (bodies ++ body ∷ [])) ≡ length (frames bodies) + length body + 5
length-frames-push bodies body =
    ap length (sym (append-nil (frames (bodies ++ body ∷ []))) ∙ frames-push bodies body [])
    ∙ length-append (frames bodies) (1 ∷ (four_bytes (length body) ++ (body ++ [])))
    ∙ omega (arith, length-append body [])

pub AreBodies-push : (bodies : List (List ℕ)) (body : List ℕ) → AreBodies bodies → IsBody body → AreBodies (bodies ++ body ∷ [])
AreBodies-push [] body all is = (is, tt)
AreBodies-push (b ∷ bodies) body all is = (all.0, AreBodies-push bodies body all.1 is)

pub length-frame_of : (body : List ℕ) → length (frame_of body) ≡ length body + 5
length-frame_of body = omega (arith, length-append body (0 ∷ []))

-- the bytes from the gate's place on
pub record GateIs (gate : ℕ) (image c : List ℕ) (place : ℕ) : Type 0 where
  pub front : take place c ≡ take place image
  pub back : drop place c ≡ gate ∷ drop (place + 1) image

pub gate_long : (image : List ℕ) (bodies : List (List ℕ)) (body : List ℕ) → Stages image bodies body → gate_place image bodies + 1 ≤ length image
gate_long image bodies body staged =
    omega (arith, ap length staged.behind, length-frame_of body, length-take (length body + 5) (drop (gate_place image bodies + 1) image), length-drop (gate_place image bodies + 1) image)

behind_gate : (gate : ℕ) (image c : List ℕ) (bodies : List (List ℕ)) → HoldsBodies image bodies → gate_place image bodies + 1 ≤ length image → GateIs gate image c (gate_place image bodies)
    → drop (start image) c ≡ frames bodies ++ gate ∷ drop (gate_place image bodies + 1) image
behind_gate gate image c bodies h long is =
    let w = whole_of image bodies h in
    let s = start image in
    let fr = frames bodies in
    let front : drop s (take (s + length fr) image) ≡ fr = drop-take s (length fr) image ∙ ap (λ (l : List ℕ). take (length fr) l) w.whole ∙ take_at fr (w.gate ∷ w.tail) (length fr) refl in
    drop_join s (length fr) c (take (s + length fr) image) is.front (omega (arith, length-take (s + length fr) image, long)) ∙ ap (λ (l : List ℕ). l ++ drop (s + length fr) c) front ∙ ap (λ (l : List ℕ). fr ++ l) is.back

module _ (image : List ℕ) (bodies : List (List ℕ)) (body : List ℕ) (staged : Stages image bodies body) where
  abbrev e : ℕ
  e = gate_place image bodies

  long : e + 1 ≤ length image
  long = gate_long image bodies body staged

  head : (gate : ℕ) (c : List ℕ) → GateIs gate image c e → SameHead image c
  head gate c is = same_head e image c (omega (arith, start_in image)) is.front

  pub gate_not_open : (gate : ℕ) (c : List ℕ) → GateIs gate image c e → gate ≢ 1 → HoldsBodies c bodies
  gate_not_open gate c is not_open =
      let w = whole_of image bodies staged.holds in
      holds_of image c bodies bodies gate (drop (e + 1) image) staged.holds (head gate c is) not_open (behind_gate gate image c bodies staged.holds long is) w.room staged.holds.area.some staged.holds.area.all

  pub gate_open : (c : List ℕ) → GateIs 1 image c e → HoldsBodies c (bodies ++ body ∷ [])
  gate_open c is =
      let tail = drop (length body + 5) (drop (e + 1) image) in
      let frame : drop (e + 1) image ≡ four_bytes (length body) ++ (body ++ 0 ∷ tail) =
      sym (take-append-drop (length body + 5) (drop (e + 1) image)) ∙ ap (λ (l : List ℕ). l ++ tail) staged.behind ∙ ap (λ (l : List ℕ). four_bytes (length body) ++ l) (append_assoc body (0 ∷ []) tail) in
      let all : drop (start image) c ≡ frames (bodies ++ body ∷ []) ++ 0 ∷ tail =
      behind_gate 1 image c bodies staged.holds long is ∙ ap (λ (l : List ℕ). frames bodies ++ 1 ∷ l) frame ∙ sym (frames-push bodies body (0 ∷ tail)) in
      holds_of image c bodies (bodies ++ body ∷ []) 0 tail staged.holds (head 1 c is) (omega arith) all (omega (arith, length-frames-push bodies body, staged.fits)) (omega (arith, length-append bodies (body ∷ []))) (AreBodies-push bodies body staged.holds.area.all staged.is_body)

  -- a crash in the write of the gate
  pub gate_torn : (c : List ℕ) → IsTornAt e 1 image c → HoldsBodies c bodies ⊎ HoldsBodies c (bodies ++ body ∷ [])
  gate_torn c torn =
      let gate = get_or c e 0 in
      let front : take e c ≡ take e image = sym (take-take e (length image) c (omega (arith, long))) ∙ torn.before in
      let is : GateIs gate image c e = record { front = front; back = drop_more c e 0 (omega (arith, torn.no_shorter, long)) ∙ ap (λ (l : List ℕ). gate ∷ l) torn.after } in
      elim (cases_eq gate 1) [
        | inl open_gate ↦ inr (gate_open c (subst (λ (g : ℕ). GateIs g image c e) open_gate is))
        | inr not_open ↦ inl (gate_not_open gate c is not_open)
      ]

pub overwrite_in : (at : ℕ) (bytes old : List ℕ) → at ≤ length old → overwrite at bytes old ≡ take at old ++ (bytes ++ drop (at + length bytes) old)
overwrite_in at bytes old le =
    let none : at - length old ≡ 0 = omega arith in
    let same : old ++ replicate (at - length old) 0 ≡ old = ap (λ (n : ℕ). old ++ replicate n 0) none ∙ append-nil old in
    ap (λ (l : List ℕ). take at l ++ bytes ++ drop (at + length bytes) old) same ∙ append_assoc (take at old) bytes (drop (at + length bytes) old)

-- the gate is written
pub gate_written : (image : List ℕ) (bodies : List (List ℕ)) (body : List ℕ) → Stages image bodies body → HoldsBodies (overwrite (gate_place image bodies) (1 ∷ []) image) (bodies ++ body ∷ [])
gate_written image bodies body staged =
    let e = gate_place image bodies in
    let le : e ≤ length image = omega (arith, gate_long image bodies body staged) in
    let is : overwrite e (1 ∷ []) image ≡ take e image ++ (1 ∷ drop (e + 1) image) = overwrite_in e (1 ∷ []) image le in
    let size : length (take e image) ≡ e = length-take-le e image le in
    gate_open image bodies body staged (overwrite e (1 ∷ []) image) (record {
      front = ap (λ (l : List ℕ). take e l) is ∙ take_at (take e image) (1 ∷ drop (e + 1) image) e size;
      back = ap (λ (l : List ℕ). drop e l) is ∙ drop_at (take e image) (1 ∷ drop (e + 1) image) e size;
    })

pub gate_in : (image : List ℕ) (bodies : List (List ℕ)) → HoldsBodies image bodies → gate_place image bodies + 1 ≤ length image
gate_in image bodies h =
    let w = whole_of image bodies h in
    omega (arith, length-drop (start image) image, ap length w.whole, length-append (frames bodies) (w.gate ∷ w.tail))

-- a crash in the write of a frame
pub frame_torn : (image : List ℕ) (bodies : List (List ℕ)) (n : ℕ) (c : List ℕ) → HoldsBodies image bodies → IsTornAt (gate_place image bodies + 1) n image c → HoldsBodies c bodies
frame_torn image bodies n c h torn =
    let e = gate_place image bodies in
    same_front image c bodies h (sym (take-take (e + 1) (length image) c (gate_in image bodies h)) ∙ torn.before)

-- the frame is written
pub frame_written : (image : List ℕ) (bodies : List (List ℕ)) (body : List ℕ) → HoldsBodies image bodies → IsBody body → gate_place image bodies + length (frame_of body) + 1 ≤ start image + area_size
    → Stages (overwrite (gate_place image bodies + 1) (frame_of body) image) bodies body
frame_written image bodies body h is_body fits =
    let at = gate_place image bodies + 1 in
    let frame = frame_of body in
    let le = gate_in image bodies h in
    let back = drop (at + length frame) image in
    let is : overwrite at frame image ≡ take at image ++ (frame ++ back) = overwrite_in at frame image le in
    let size : length (take at image) ≡ at = length-take-le at image le in
    let front : take at (overwrite at frame image) ≡ take at image = ap (λ (l : List ℕ). take at l) is ∙ take_at (take at image) (frame ++ back) at size in
    let behind : drop at (overwrite at frame image) ≡ frame ++ back = ap (λ (l : List ℕ). drop at l) is ∙ drop_at (take at image) (frame ++ back) at size in
    let same_start : start (overwrite at frame image) ≡ start image = head_start image (overwrite at frame image) (same_head at image (overwrite at frame image) (omega (arith, start_in image)) front) in
    let same_place : gate_place (overwrite at frame image) bodies + 1 ≡ at = omega (arith, same_start) in
    record {
      holds = same_front image (overwrite at frame image) bodies h front;
      is_body = is_body;
      behind = ap (λ (n : ℕ). take (length body + 5) (drop n (overwrite at frame image))) same_place ∙ ap (λ (l : List ℕ). take (length body + 5) l) behind ∙ take_at frame back (length body + 5) (length-frame_of body);
      fits = omega (arith, fits, length-frame_of body);
    }

pub start_kept : (at : ℕ) (bytes image : List ℕ) → 16 ≤ at → at ≤ length image → start (overwrite at bytes image) ≡ start image
start_kept at bytes image low le =
    let is = overwrite_in at bytes image le in
    let front : take at (overwrite at bytes image) ≡ take at image = ap (λ (l : List ℕ). take at l) is ∙ take_at (take at image) (bytes ++ drop (at + length bytes) image) at (length-take-le at image le) in
    head_start image (overwrite at bytes image) (same_head at image (overwrite at bytes image) low front)

pub fits_area : (image : List ℕ) (bodies : List (List ℕ)) → HoldsBodies image bodies → length (frames bodies) + 1 ≤ area_size
fits_area image bodies h = (whole_of image bodies h).room
