-- What images a journal passes through while its other area is written and then selected.
use Rattle.std.proofs.Common.{◌≡◌, ◌⊎◌, inl, inr, ℕ, zero, suc, ◌+◌, ◌-◌, ◌≤◌, ◌==◌, if◌then◌else◌, List, [], ◌∷◌, ◌++◌, length, get_or, take, drop, replicate, Some, is_some, refl, sym, ◌∙◌, ap, subst, arith, append_assoc, length-append}
use Rattle.key_journal.specs.Layout.{area_size, second_start, first_start}
use mathlib.Core.Logic.{◌≢◌}
use Rattle.std.proofs.Math.Seq.{drop-drop}
use Rattle.std.proofs.lemmas.List.{drop_at, take-take, drop-take, take-append-le, get_or-drop, length-take-le, length-replicate}
use Rattle.std.proofs.lemmas.Bool.{cases_eq}
use Rattle.std.proofs.lemmas.Bool.Decides.{nat_tests}
use Rattle.x_disk.specs.Disk.{View, IsTornAt, IsDurable, IsWritten, LeavesOnly, IsSound, Tells, overwrite, disk_size}
use Rattle.x_disk.proofs.Runs.{weaker, joined}
use Rattle.key_journal.specs.Journal.{magic, frame_of, frames, IsBody, start, HoldsBodies, gate_place}
use Rattle.key_journal.specs.States.{HasBodies, IsAt, IsReady, MayTear, IsOldOrAlone, other_start, selector_of}
use Rattle.key_journal.proofs.ImageLemmas.{whole_of, same_front, holds_of, holds_by, drop_join, start_in, head_start, gate_in, fits_area, length-frame_of}
use Rattle.key_journal.proofs.StepLemmas.{told_before, torn_from_now}
use Rattle.key_journal.proofs.MakeLemmas.{some_of, alone_front}

filled_size : (at : ℕ) (old : List ℕ) → length (take at (old ++ replicate (at - length old) 0)) ≡ at
filled_size at old = length-take-le at (old ++ replicate (at - length old) 0) (omega (arith, length-append old (replicate (at - length old) 0), length-replicate {A = ℕ} (at - length old) 0))

-- what a write makes of the bytes in front of it and from it on
pub overwrite_front : (k at : ℕ) (bytes old : List ℕ) → k ≤ at → k ≤ length old → take k (overwrite at bytes old) ≡ take k old
overwrite_front k at bytes old low le =
    let filled = old ++ replicate (at - length old) 0 in
    let size : length (take at filled) ≡ at = filled_size at old in
    ap (λ (l : List ℕ). take k l) (append_assoc (take at filled) bytes (drop (at + length bytes) old))
    ∙ take-append-le k (take at filled) (bytes ++ drop (at + length bytes) old) (omega (arith, size, low))
    ∙ take-take k at filled low ∙ take-append-le k old (replicate (at - length old) 0) le

pub overwrite_back : (at : ℕ) (bytes old : List ℕ) → drop at (overwrite at bytes old) ≡ bytes ++ drop (at + length bytes) old
overwrite_back at bytes old =
    let filled = old ++ replicate (at - length old) 0 in
    let size : length (take at filled) ≡ at = filled_size at old in
    ap (λ (l : List ℕ). drop at l) (append_assoc (take at filled) bytes (drop (at + length bytes) old)) ∙ drop_at (take at filled) (bytes ++ drop (at + length bytes) old) at size

pub overwrite_long : (at : ℕ) (bytes old : List ℕ) → at + length bytes ≤ length (overwrite at bytes old)
overwrite_long at bytes old =
    let filled = old ++ replicate (at - length old) 0 in
    let size : length (take at filled) ≡ at = filled_size at old in
    omega (arith, size, ap length (append_assoc (take at filled) bytes (drop (at + length bytes) old)), length-append (take at filled) (bytes ++ drop (at + length bytes) old), length-append bytes (drop (at + length bytes) old))

-- the image with the other area written
abbrev pub beside : ℕ → List ℕ → List ℕ → List ℕ
beside other frame b = overwrite (other + 1) frame (overwrite other (1 ∷ []) b)

beside_front : (k other : ℕ) (frame b : List ℕ) → k ≤ other → k ≤ length b → take k (beside other frame b) ≡ take k b
beside_front k other frame b low le =
    overwrite_front k (other + 1) frame (overwrite other (1 ∷ []) b) (omega (arith, low)) (omega (arith, low, overwrite_long other (1 ∷ []) b))
    ∙ overwrite_front k other (1 ∷ []) b low le

beside_area : (other : ℕ) (frame b : List ℕ) → (tail : List ℕ) × (drop other (beside other frame b) ≡ 1 ∷ (frame ++ tail))
beside_area other frame b =
    let x = overwrite other (1 ∷ []) b in
    let long : other + 1 ≤ length x = overwrite_long other (1 ∷ []) b in
    let whole = beside other frame b in
    let front : take (other + 1) whole ≡ take (other + 1) x = overwrite_front (other + 1) (other + 1) frame x (omega arith) long in
    let gate : drop other (take (other + 1) x) ≡ 1 ∷ [] = drop-take other 1 x ∙ ap (λ (l : List ℕ). take 1 l) (overwrite_back other (1 ∷ []) b) in
    let size : length (take (other + 1) x) ≡ other + 1 = length-take-le (other + 1) x long in (
      drop (other + 1 + length frame) x,
      drop_join other 1 whole (take (other + 1) x) front (omega (arith, size)) ∙ ap (λ (l : List ℕ). l ++ drop (other + 1) whole) gate ∙ ap (λ (l : List ℕ). 1 ∷ l) (overwrite_back (other + 1) frame x),
    )

-- the areas lie beside each other
pub record Apart (image : List ℕ) (other : ℕ) : Type 0 where
  pub which : ((start image ≡ first_start) × (other ≡ second_start)) ⊎ ((start image ≡ second_start) × (other ≡ first_start))

-- the same bytes from a place on are the same from each later one
pub behind_same : (s m : ℕ) (b c : List ℕ) → m ≤ s → drop m c ≡ drop m b → drop s c ≡ drop s b
behind_same s m b c le is =
    let sum : m + (s - m) ≡ s = omega (arith, le) in
    ap (λ (k : ℕ). drop k c) (sym sum) ∙ sym (drop-drop (s - m) m c) ∙ ap (λ (l : List ℕ). drop (s - m) l) is ∙ drop-drop (s - m) m b ∙ ap (λ (k : ℕ). drop k b) sum

-- a torn write in the other area leaves the selected one
pub other_torn : (image : List ℕ) (bodies : List (List ℕ)) (other n : ℕ) (c : List ℕ) → HoldsBodies image bodies → Apart image other → n ≤ area_size → IsTornAt other n image c → HoldsBodies c bodies
other_torn image bodies other n c h apart small torn = either apart.which
  where
    either : ((start image ≡ first_start) × (other ≡ second_start)) ⊎ ((start image ≡ second_start) × (other ≡ first_start)) → HoldsBodies c bodies
    either (inl low) =
        let g = gate_place image bodies + 1 in
        let le : g ≤ other = omega (arith, fits_area image bodies h, low.0, low.1) in
        same_front image c bodies h
        (sym (take-take g (length image) c (gate_in image bodies h)) ∙ sym (take-take g other (take (length image) c) le) ∙ ap (λ (l : List ℕ). take g l) torn.before ∙ take-take g other image le)
    either (inr high) =
        let w = whole_of image bodies h in
        let s = start image in
        let long : 16 ≤ length image = omega (arith, gate_in image bodies h, start_in image) in
        let le : other + n ≤ s = omega (arith, high.0, high.1, small) in
        let back : drop s c ≡ drop s image = behind_same s (other + n) image c le torn.after in
        let head : take 16 c ≡ take 16 image = sym (take-take 16 (length image) c long) ∙ subst (λ (o : ℕ). take o (take (length image) c) ≡ take o image) high.1 torn.before in
        holds_of image c bodies bodies w.gate w.tail h (record { head = head }) w.closed (back ∙ w.whole) w.room h.area.some h.area.all

-- two torn writes, one behind the other
pub take_swap : (m n : ℕ) (xs : List ℕ) → take m (take n xs) ≡ take n (take m xs)
take_swap zero zero xs = refl
take_swap zero (suc n) [] = refl
take_swap zero (suc n) (x ∷ xs) = refl
take_swap (suc m) zero [] = refl
take_swap (suc m) zero (x ∷ xs) = refl
take_swap (suc m) (suc n) [] = refl
take_swap (suc m) (suc n) (x ∷ xs) = ap (λ (l : List ℕ). x ∷ l) (take_swap m n xs)

pub torn_twice : (at n : ℕ) (b d c : List ℕ) → IsTornAt at 1 b d → IsTornAt (at + 1) n d c → IsTornAt at (1 + n) b c
torn_twice at n b d c first second =
    let near : take at (take (length d) c) ≡ take at d =
    sym (take-take at (at + 1) (take (length d) c) (omega arith)) ∙ ap (λ (l : List ℕ). take at l) second.before ∙ take-take at (at + 1) d (omega arith) in
    record {
      before = ap (λ (l : List ℕ). take at l) (sym (take-take (length b) (length d) c first.no_shorter)) ∙ take_swap at (length b) (take (length d) c) ∙ ap (λ (l : List ℕ). take (length b) l) near
          ∙ take_swap (length b) at d ∙ first.before;
      after = ap (λ (k : ℕ). drop k c) (omega arith) ∙ second.after ∙ sym (drop-drop n (at + 1) d) ∙ ap (λ (l : List ℕ). drop n l) first.after ∙ drop-drop n (at + 1) b ∙ ap (λ (k : ℕ). drop k b) (omega arith);
      no_shorter = omega (arith, first.no_shorter, second.no_shorter);
      no_longer = omega (arith, first.no_longer, second.no_longer);
    }

-- the journal stands for its bodies, and one frame lies in the other area
pub record HasBeside (image : List ℕ) (bodies : List (List ℕ)) (other : ℕ) (body : List ℕ) : Type 0 where
  pub holds : HoldsBodies image bodies
  pub apart : Apart image other
  pub is_body : IsBody body
  pub tail : List ℕ
  pub area : drop other image ≡ 1 ∷ (frame_of body ++ tail)

-- the same bytes but for the selector
pub record SameButSelector (image c : List ℕ) : Type 0 where
  pub gate : take 1 c ≡ take 1 image
  pub behind : drop 2 c ≡ drop 2 image

selector_magic : (image c : List ℕ) (bodies : List (List ℕ)) → HoldsBodies image bodies → SameButSelector image c → take 14 (drop 2 c) ≡ magic
selector_magic image c bodies h same = ap (λ (l : List ℕ). take 14 l) same.behind ∙ h.magic

selector_area : (s : ℕ) (image c : List ℕ) → 2 ≤ s → SameButSelector image c → drop s c ≡ drop s image
selector_area s image c le same = behind_same s 2 image c le same.behind

selected_old : (image c : List ℕ) (bodies : List (List ℕ)) → HoldsBodies image bodies → SameButSelector image c → start c ≡ start image → HoldsBodies c bodies
selected_old image c bodies h same is =
    let w = whole_of image bodies h in
    holds_by c bodies w.gate w.tail (same.gate ∙ h.opened) (selector_magic image c bodies h same) w.closed
    (ap (λ (k : ℕ). drop k c) is ∙ selector_area (start image) image c (omega (arith, start_in image)) same ∙ w.whole) w.room h.area.some h.area.all

selected_new : (image c : List ℕ) (bodies : List (List ℕ)) (other : ℕ) (body : List ℕ) → HasBeside image bodies other body → SameButSelector image c → start c ≡ other → HoldsBodies c (body ∷ [])
selected_new image c bodies other body h same is =
    let front : 1 ∷ (frame_of body ++ h.tail) ≡ frames (body ∷ []) ++ 0 ∷ h.tail = alone_front body h.tail in
    holds_by c (body ∷ []) 0 h.tail (same.gate ∙ h.holds.opened) (selector_magic image c bodies h.holds same) (omega arith)
    (ap (λ (k : ℕ). drop k c) is ∙ selector_area other image c (omega (arith, is, start_in c)) same ∙ h.area ∙ front) (omega (arith, h.is_body.small, length-append body [])) (omega arith) (h.is_body, tt)

start_one : (c : List ℕ) → get_or c 1 0 ≡ 1 → start c ≡ second_start
start_one c is = ap (λ (n : ℕ). if n == 1 then second_start else 16) is

start_else : (c : List ℕ) → get_or c 1 0 ≢ 1 → start c ≡ 16
start_else c not = by_byte (get_or c 1 0) not
  where
    by_byte : (n : ℕ) → n ≢ 1 → ◌≡◌ {A = ℕ} (if n == 1 then second_start else 16) 16
    by_byte n not = grind (arith, nat_tests)

-- a crash in the write of the selector
selected : (image c : List ℕ) (bodies : List (List ℕ)) (other : ℕ) (body : List ℕ) → HasBeside image bodies other body → SameButSelector image c → HoldsBodies c bodies ⊎ HoldsBodies c (body ∷ [])
selected image c bodies other body h same = either h.apart.which (cases_eq (get_or c 1 0) 1)
  where
    either : ((start image ≡ first_start) × (other ≡ second_start)) ⊎ ((start image ≡ second_start) × (other ≡ first_start)) → (get_or c 1 0 ≡ 1) ⊎ (get_or c 1 0 ≢ 1) → HoldsBodies c bodies ⊎ HoldsBodies c (body ∷ [])
    either (inl low) (inl one) = inr (selected_new image c bodies other body h same (start_one c one ∙ sym low.1))
    either (inl low) (inr low_area) = inl (selected_old image c bodies h.holds same (start_else c low_area ∙ sym low.0))
    either (inr high) (inl one) = inl (selected_old image c bodies h.holds same (start_one c one ∙ sym high.0))
    either (inr high) (inr low_area) = inr (selected_new image c bodies other body h same (start_else c low_area ∙ sym high.1))

selector_torn : (image c : List ℕ) → 1 ≤ length image → IsTornAt 1 1 image c → SameButSelector image c
selector_torn image c some torn = record { gate = sym (take-take 1 (length image) c some) ∙ torn.before; behind = torn.after }

start_is : (image : List ℕ) → (start image ≡ first_start) ⊎ (start image ≡ second_start)
start_is image = elim (cases_eq (get_or image 1 0) 1) [
  | inl one ↦ inr (start_one image one)
  | inr not ↦ inl (start_else image not)
]

pub apart_by : (image : List ℕ) (end : ℕ) → end ≡ start image + area_size → Apart image (other_start end)
apart_by image end last = record { which = either (start_is image) }
  where
    either : (start image ≡ first_start) ⊎ (start image ≡ second_start) → ((start image ≡ first_start) × (other_start end ≡ second_start)) ⊎ ((start image ≡ second_start) × (other_start end ≡ first_start))
    either (inl low) = let is : end ≡ second_start = omega (arith, last, low) in inl (low, ap other_start is)
    either (inr high) = let is : end ≡ disk_size = omega (arith, last, high) in inr (high, ap other_start is)

pub other_in : (end : ℕ) → (16 ≤ other_start end) × (other_start end ≤ second_start)
other_in end = elim (cases_eq end second_start) [
  | inl is ↦ let it : other_start end ≡ second_start = ap other_start is in (omega (arith, it), omega (arith, it))
  | inr not ↦ let it : other_start end ≡ 16 = other_else end not in (omega (arith, it), omega (arith, it))
]
  where
    other_else : (n : ℕ) → n ≢ second_start → other_start n ≡ 16
    other_else n not = grind (arith, nat_tests)

-- the selector is written
selector_same : (byte : ℕ) (image : List ℕ) → 1 ≤ length image → SameButSelector image (overwrite 1 (byte ∷ []) image)
selector_same byte image some = record {
  gate = overwrite_front 1 1 (byte ∷ []) image (omega arith) some;
  behind = sym (drop-drop 1 1 (overwrite 1 (byte ∷ []) image)) ∙ ap (λ (l : List ℕ). drop 1 l) (overwrite_back 1 (byte ∷ []) image);
}

selector_is : (byte : ℕ) (image : List ℕ) → get_or (overwrite 1 (byte ∷ []) image) 1 0 ≡ byte
selector_is byte image = sym (get_or-drop 1 (overwrite 1 (byte ∷ []) image) 0 0) ∙ ap (λ (l : List ℕ). get_or l 0 0) (overwrite_back 1 (byte ∷ []) image)

selector_start : (image : List ℕ) (other : ℕ) → (other ≡ second_start) ⊎ (other ≡ first_start) → start (overwrite 1 (selector_of other ∷ []) image) ≡ other
selector_start image other (inl high) = start_one (overwrite 1 (selector_of other ∷ []) image) (selector_is (selector_of other) image ∙ ap selector_of high) ∙ sym high
selector_start image other (inr low) =
    let byte : get_or (overwrite 1 (selector_of other ∷ []) image) 1 0 ≡ 0 = selector_is (selector_of other) image ∙ ap selector_of low in
    start_else (overwrite 1 (selector_of other ∷ []) image) (λ one. absurd (omega (arith, byte, one))) ∙ sym low

module _ (old mid new : View) (gate end other : ℕ) (is_other : other ≡ other_start end) (frame body : List ℕ) where
  apart : (image : List ℕ) → end ≡ start image + area_size → Apart image other
  apart image last = subst (λ (o : ℕ). Apart image o) (sym is_other) (apart_by image end last)

  abbrev Laid : Type 0
  Laid = (b : List ℕ) → old.now ≡ Some b → mid.now ≡ Some (beside other frame b)

  frame_size : IsBody body → frame ≡ frame_of body → (length frame ≡ length body + 5) × (1 + length frame ≤ area_size)
  frame_size is_body is =
      let size : length frame ≡ length body + 5 = ap length is ∙ length-frame_of body in
      (size, omega (arith, size, is_body.small))

  pub beside_moment : IsReady old gate end → IsBody body → frame ≡ frame_of body → LeavesOnly old mid (MayTear old other (1 + length frame)) → (bodies : List (List ℕ)) → HasBodies old bodies → LeavesOnly old mid (λ c. HoldsBodies c bodies)
  beside_moment ready is_body is run bodies has =
      let at = ready.journal has.image has.now in
      weaker old mid (MayTear old other (1 + length frame)) (λ c. HoldsBodies c bodies) run
      (λ c torn. other_torn has.image bodies other (1 + length frame) c has.holds (apart has.image at.last) (frame_size is_body is).1 (torn_from_now old other (1 + length frame) has.image c ready.durable has.now torn))

  has_beside : IsReady old gate end → IsSound mid → IsBody body → frame ≡ frame_of body → LeavesOnly old mid (MayTear old other (1 + length frame)) → Laid → (bodies : List (List ℕ)) (has : HasBodies old bodies)
      → HasBeside (beside other frame has.image) bodies other body
  has_beside ready sound is_body is run laid bodies has =
      let image = beside other frame has.image in
      let at = ready.journal has.image has.now in
      let now = laid has.image has.now in
      let first = beside_moment ready is_body is run bodies has in
      let holds : HoldsBodies image bodies = first.each image (sound.counts_now old.moment image first.later (sound.now_among image now)) in
      let long : 16 ≤ length has.image = omega (arith, gate_in has.image bodies has.holds, start_in has.image) in
      let same : start image ≡ start has.image = head_start has.image image (record { head = beside_front 16 other frame has.image (omega (arith, (other_in end).0, is_other)) long }) in
      let area = beside_area other frame has.image in
      record {
        holds = holds;
        apart = apart image (omega (arith, at.last, same));
        is_body = is_body;
        tail = area.0;
        area = area.1 ∙ ap (λ (f : List ℕ). 1 ∷ (f ++ area.0)) is;
      }

  pub switch_moment : IsReady old gate end → IsSound mid → IsBody body → frame ≡ frame_of body → LeavesOnly old mid (MayTear old other (1 + length frame)) → Laid → IsDurable mid → LeavesOnly mid new (MayTear mid 1 1)
      → (bodies : List (List ℕ)) → HasBodies old bodies → LeavesOnly old new (IsOldOrAlone bodies body)
  switch_moment ready sound is_body is run laid durable second bodies has =
      let h = has_beside ready sound is_body is run laid bodies has in
      let image = beside other frame has.image in
      let some : 1 ≤ length image = omega (arith, gate_in image bodies h.holds) in
      joined old mid new (IsOldOrAlone bodies body) (weaker old mid (λ c. HoldsBodies c bodies) (IsOldOrAlone bodies body) (beside_moment ready is_body is run bodies has) (λ c holds. inl holds))
      (weaker mid new (MayTear mid 1 1) (IsOldOrAlone bodies body) second
      (λ c torn. selected image c bodies other body h (selector_torn image c some (torn_from_now mid 1 1 image c durable (laid has.image has.now) torn))))

  -- what a read gives in the end
  switch_image : IsReady old gate end → IsSound mid → IsBody body → frame ≡ frame_of body → LeavesOnly old mid (MayTear old other (1 + length frame)) → Laid → (bodies : List (List ℕ)) (has : HasBodies old bodies)
      → let c = overwrite 1 (selector_of other ∷ []) (beside other frame has.image) in HoldsBodies c (body ∷ []) × (start c ≡ other)
  switch_image ready sound is_body is run laid bodies has =
      let h = has_beside ready sound is_body is run laid bodies has in
      let image = beside other frame has.image in
      let some : 1 ≤ length image = omega (arith, gate_in image bodies h.holds) in
      let first = selector_start image other (which h.apart.which) in (
        selected_new image (overwrite 1 (selector_of other ∷ []) image) bodies other body h (selector_same (selector_of other) image some) first,
        first,
      )
    where
      which : {s o : ℕ} → ((s ≡ first_start) × (o ≡ second_start)) ⊎ ((s ≡ second_start) × (o ≡ first_start)) → (o ≡ second_start) ⊎ (o ≡ first_start)
      which (inl low) = inl low.1
      which (inr high) = inr high.1

  pub switched : IsReady old gate end → IsSound mid → IsBody body → frame ≡ frame_of body → LeavesOnly old mid (MayTear old other (1 + length frame)) → Laid → IsWritten 1 (selector_of other ∷ []) mid new → Tells old
      → HasBodies new (body ∷ [])
  switched ready sound is_body is run laid written tells =
      let b = some_of old.now tells in
      let at = ready.journal b.0 b.1 in
      record {
        image = overwrite 1 (selector_of other ∷ []) (beside other frame b.0);
        now = written (beside other frame b.0) (laid b.0 b.1);
        holds = (switch_image ready sound is_body is run laid at.bodies (record { image = b.0; now = b.1; holds = at.holds })).0;
      }

  -- what is written, and where
  pub switch_written : Laid → IsWritten 1 (selector_of other ∷ []) mid new → (b : List ℕ) → old.now ≡ Some b
      → new.now ≡ Some (overwrite 1 (selector_of (other_start end) ∷ []) (beside (other_start end) frame b))
  switch_written laid written b now =
      subst (λ (o : ℕ). new.now ≡ Some (overwrite 1 (selector_of o ∷ []) (beside o frame b))) is_other (written (beside other frame b) (laid b now))

  pub switch_ready : IsReady old gate end → IsSound mid → IsBody body → frame ≡ frame_of body → LeavesOnly old mid (MayTear old other (1 + length frame)) → Laid → IsWritten 1 (selector_of other ∷ []) mid new
      → is_some mid.now ≡ is_some old.now → is_some new.now ≡ is_some mid.now → IsDurable new → IsReady new (other + length frame) (other + area_size)
  switch_ready ready sound is_body is run laid written tells tells_too durable = record {
    room = omega (arith, frame_size is_body is);
    within = omega (arith, (other_in end).1, is_other);
    durable = durable;
    journal = λ image now.
        let mid_was = told_before mid.now new.now image tells_too now in
        let was = told_before old.now mid.now mid_was.0 tells mid_was.1 in
        let at = ready.journal was.0 was.1 in
        let c = overwrite 1 (selector_of other ∷ []) (beside other frame was.0) in
        let done = switch_image ready sound is_body is run laid at.bodies (record { image = was.0; now = was.1; holds = at.holds }) in
        let there : Some c ≡ Some image = sym (written (beside other frame was.0) (laid was.0 was.1)) ∙ now in
        let same : c ≡ image = cc there in
        subst (λ (l : List ℕ). IsAt l (other + length frame) (other + area_size)) same
        (record { bodies = body ∷ []; holds = done.0; place = omega (arith, done.1, (frame_size is_body is).0, length-append body []); last = omega (arith, done.1) });
  }

-- the image at the last sync is one that a crash may leave
pub stable_has : (old new : View) (P : List ℕ → Type 0) → IsSound new → LeavesOnly old new P → (image : List ℕ) → new.stable ≡ Some image → P image
stable_has old new P sound run image is = run.each image (sound.counts_now old.moment image run.later (sound.stable_among image is))
