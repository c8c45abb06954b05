-- What images a journal passes through while it is made.
use Rattle.std.proofs.Common.{◌≡◌, ◌⊎◌, inl, inr, ℕ, ◌+◌, ◌-◌, ◌≤◌, if◌then◌else◌, ◌==◌, nat_le, true, ◌||◌, not, List, [], ◌∷◌, ◌++◌, length, get_or, take, drop, Option, Some, None, is_some, refl, sym, ◌∙◌, ap, subst, arith, append_assoc, length-append}
use Rattle.key_journal.specs.Layout.{area_size, second_start, first_start}
use mathlib.Core.Logic.{◌≢◌}
use Rattle.std.proofs.lemmas.List.{take_at, append-nil, take-take, length-take-le}
use Rattle.std.proofs.lemmas.Bool.{cases_eq}
use Rattle.std.proofs.lemmas.Bool.Decides.{nat_tests}
use Rattle.x_disk.specs.Disk.{View, IsTornAt, IsDurable, IsWritten, LeavesOnly, Tells, overwrite}
use Rattle.x_disk.proofs.Runs.{weaker, joined}
use Rattle.key_journal.specs.Journal.{magic, four_bytes, frame_of, frames, IsBody, is_blank, start, HoldsBodies}
use Rattle.key_journal.specs.States.{HasClosedGate, IsEmpty, IsAt, IsReady, HasBodies, MayTear, IsBlankOrFirst}
use Rattle.key_journal.proofs.ImageLemmas.{area_is, rest_of, overwrite_in, length-frame_of}
use Rattle.key_journal.proofs.StepLemmas.{told_before, torn_from_now}

-- the selector of area 0, the magic, and an open gate
abbrev pub head : List ℕ
head = 0 ∷ magic ++ 1 ∷ []

-- a torn write behind byte 0 leaves it
pub gate_stays : (at n : ℕ) (d c : List ℕ) → 1 ≤ at → 1 ≤ length d → IsTornAt at n d c → take 1 c ≡ take 1 d
gate_stays at n d c low some torn =
    sym (take-take 1 (length d) c some) ∙ sym (take-take 1 at (take (length d) c) low) ∙ ap (λ (l : List ℕ). take 1 l) torn.before ∙ take-take 1 at d low

pub some_gate : (d b : List ℕ) → 1 ≤ length b → take 1 d ≡ take 1 b → 1 ≤ length d
some_gate [] (x ∷ b) some same = let none : 0 ≡ 1 = ap length same in absurd (cc none)
some_gate [] [] some same = some
some_gate (x ∷ d) b some same = omega arith

-- a closed gate makes an image blank
pub blank_gate : (b c : List ℕ) → HasClosedGate b → take 1 c ≡ take 1 b → is_blank c ≡ true
blank_gate b [] not_open same = refl
blank_gate [] (y ∷ c) not_open same = absurd (omega (arith, not_open.some))
blank_gate (x ∷ b) (y ∷ c) not_open same =
    let first : y ≡ x = cc in
    blank_by (length (y ∷ c)) y (λ one. not_open.closed (sym first ∙ one))
  where
    blank_by : (n y : ℕ) → y ≢ 1 → nat_le n 1 || not (y == 1) ≡ true
    blank_by n y not_one = grind (arith, nat_tests)

pub short_blank : (c : List ℕ) → length c ≤ 1 → is_blank c ≡ true
short_blank c short = grind (arith, nat_tests)

-- what is made of a file of at most one byte
pub short_made : (b : List ℕ) → length b ≤ 1 → overwrite 0 (0 ∷ []) b ≡ (if nat_le (length b) 1 then 0 ∷ [] else b)
short_made [] short = refl
short_made (x ∷ []) short = refl
short_made (x ∷ y ∷ b) short = absurd (omega (arith, short))

-- prepare, on a file of at most one byte
pub closed_written : (old new : View) (size : ℕ) → IsDurable new → IsWritten 0 (0 ∷ []) old new → is_some new.now ≡ is_some old.now → IsEmpty new
closed_written old new size durable written tells = record {
  durable = durable;
  closed = λ image now.
      let was = told_before old.now new.now image tells now in
      let there : Some (overwrite 0 (0 ∷ []) was.0) ≡ Some image = sym (written was.0 was.1) ∙ now in
      let same : 0 ∷ drop 1 was.0 ≡ image = cc there in
      subst HasClosedGate same (record { some = omega arith; closed = omega arith });
}

pub prepare_moment : (old mid new : View) → (P : List ℕ → Type 0) → LeavesOnly old mid P → IsDurable mid → (b : List ℕ) → mid.now ≡ Some b → length b ≤ 1 → LeavesOnly mid new (MayTear mid 0 1)
    → LeavesOnly old new (λ c. (is_blank c ≡ true) ⊎ P c)
prepare_moment old mid new P first durable b now short second =
    joined old mid new (λ c. (is_blank c ≡ true) ⊎ P c) (weaker old mid P (λ c. (is_blank c ≡ true) ⊎ P c) first (λ c p. inr p))
    (weaker mid new (MayTear mid 0 1) (λ c. (is_blank c ≡ true) ⊎ P c) second
    (λ c torn.
    let it = torn_from_now mid 0 1 b c durable now torn in
    inl (short_blank c (omega (arith, it.no_longer, short)))))

-- the image with all but the file's gate
abbrev pub laid : List ℕ → List ℕ → List ℕ
laid frame b = overwrite 17 frame (overwrite 1 head b)

laid_is : (frame b : List ℕ) → 1 ≤ length b → (tail : List ℕ) × (laid frame b ≡ take 1 b ++ (head ++ (frame ++ tail)))
laid_is frame b some =
    let first : overwrite 1 head b ≡ take 1 b ++ (head ++ drop 17 b) = overwrite_in 1 head b some in
    let size : length (take 1 b ++ head) ≡ 17 = length-append (take 1 b) head ∙ omega (arith, length-take-le 1 b some) in
    let x = (take 1 b ++ head) ++ drop 17 b in
    let whole : overwrite 1 head b ≡ x = first ∙ sym (append_assoc (take 1 b) head (drop 17 b)) in
    let tail = drop (17 + length frame) x in
    let le : 17 ≤ length x = omega (arith, length-append (take 1 b ++ head) (drop 17 b), size) in (
      tail,
      ap (λ (l : List ℕ). overwrite 17 frame l) whole ∙ overwrite_in 17 frame x le ∙ ap (λ (l : List ℕ). l ++ (frame ++ tail)) (take_at (take 1 b ++ head) (drop 17 b) 17 size)
          ∙ append_assoc (take 1 b) head (frame ++ tail),
    )

-- an area of one frame
pub alone_front : (body tail : List ℕ) → 1 ∷ (frame_of body ++ tail) ≡ frames (body ∷ []) ++ 0 ∷ tail
alone_front body tail = ap (λ (l : List ℕ). 1 ∷ (four_bytes (length body) ++ l)) (append_assoc body (0 ∷ []) tail ∙ ap (λ (l : List ℕ). l ++ 0 ∷ tail) (sym (append-nil body)))

pub holds_first : (body tail : List ℕ) → IsBody body → HoldsBodies (1 ∷ (head ++ (frame_of body ++ tail))) (body ∷ [])
holds_first body tail is = record {
  opened = refl;
  magic = refl;
  area = record {
    some = omega arith;
    all = (is, tt);
    gate = 0;
    rest = take (area_size - (length (frames (body ∷ [])) + 1)) tail;
    closed = omega arith;
    whole = area_is area_size (area_size - (length (frames (body ∷ [])) + 1)) (frames (body ∷ [])) 0 tail (1 ∷ (frame_of body ++ tail)) (alone_front body tail) (rest_of area_size (length (frames (body ∷ []))) (omega (arith, is.small, length-append body [])));
  };
}

head_cons : (c rest : List ℕ) → 1 ≤ length c → drop 1 c ≡ rest → c ≡ get_or c 0 0 ∷ rest
head_cons [] rest some is = absurd (omega (arith, some))
head_cons (x ∷ c) rest some is = ap (λ (l : List ℕ). x ∷ l) is

drop_first : (b rest : List ℕ) → 1 ≤ length b → drop 1 (take 1 b ++ rest) ≡ rest
drop_first [] rest some = absurd (omega (arith, some))
drop_first (x ∷ b) rest some = refl

-- a crash in the write of the file's gate
pub made_torn : (body b c : List ℕ) → IsBody body → 1 ≤ length b → IsTornAt 0 1 (laid (frame_of body) b) c → IsBlankOrFirst body c
made_torn body b c is some torn =
    let l = laid_is (frame_of body) b some in
    let rest = head ++ (frame_of body ++ l.0) in
    let back : drop 1 c ≡ rest = torn.after ∙ ap (λ (x : List ℕ). drop 1 x) l.1 ∙ drop_first b rest some in
    let long : 1 ≤ length c = omega (arith, torn.no_shorter, ap length l.1, length-append (take 1 b) rest, length-take-le 1 b some) in
    let all : c ≡ get_or c 0 0 ∷ rest = head_cons c rest long back in
    elim (cases_eq (get_or c 0 0) 1) [
      | inl one ↦ inr (subst (λ (x : List ℕ). HoldsBodies x (body ∷ [])) (sym (all ∙ ap (λ (g : ℕ). g ∷ rest) one)) (holds_first body l.0 is))
      | inr not_open ↦ inl (blank_gate c c (record { some = long; closed = not_open }) refl)
    ]

pub made_written : (body b : List ℕ) → IsBody body → 1 ≤ length b → HoldsBodies (overwrite 0 (1 ∷ []) (laid (frame_of body) b)) (body ∷ [])
made_written body b is some =
    let l = laid_is (frame_of body) b some in
    let rest = head ++ (frame_of body ++ l.0) in
    subst (λ (x : List ℕ). HoldsBodies x (body ∷ [])) (sym (ap (λ (x : List ℕ). 1 ∷ drop 1 x) l.1 ∙ ap (λ (x : List ℕ). 1 ∷ x) (drop_first b rest some))) (holds_first body l.0 is)

made_start : (body b : List ℕ) → 1 ≤ length b → start (overwrite 0 (1 ∷ []) (laid (frame_of body) b)) ≡ 16
made_start body b some =
    let l = laid_is (frame_of body) b some in
    ap (λ (x : List ℕ). start (1 ∷ drop 1 x)) l.1 ∙ ap (λ (x : List ℕ). start (1 ∷ x)) (drop_first b (head ++ (frame_of body ++ l.0)) some)

-- the bytes of a disk that tells them
pub some_of : (o : Option (List ℕ)) → is_some o ≡ true → (b : List ℕ) × (o ≡ Some b)
some_of (Some b) is = (b, refl)
some_of None is = absurd (cc is)

module _ (old mid new : View) (frame body : List ℕ) where
  pub lay_moment : IsEmpty old → Tells old → ((b : List ℕ) → old.now ≡ Some b → IsDurable old → 1 ≤ length b → LeavesOnly old mid (λ c. take 1 c ≡ take 1 b)) → LeavesOnly old mid (IsBlankOrFirst body)
  lay_moment empty tells run =
      let b = some_of old.now tells in
      let not_open = empty.closed b.0 b.1 in
      weaker old mid (λ c. take 1 c ≡ take 1 b.0) (IsBlankOrFirst body) (run b.0 b.1 empty.durable not_open.some) (λ c same. inl (blank_gate b.0 c not_open same))

  pub made_moment : IsEmpty old → Tells old → LeavesOnly old mid (IsBlankOrFirst body) → IsDurable mid → ((b : List ℕ) → old.now ≡ Some b → mid.now ≡ Some (laid frame b)) → LeavesOnly mid new (MayTear mid 0 1)
      → frame ≡ frame_of body → IsBody body → LeavesOnly old new (IsBlankOrFirst body)
  made_moment empty tells first durable written second is is_body =
      let b = some_of old.now tells in
      let now : mid.now ≡ Some (laid (frame_of body) b.0) = written b.0 b.1 ∙ ap (λ (f : List ℕ). Some (laid f b.0)) is in
      joined old mid new (IsBlankOrFirst body) first
      (weaker mid new (MayTear mid 0 1) (IsBlankOrFirst body) second (λ c torn. made_torn body b.0 c is_body (empty.closed b.0 b.1).some (torn_from_now mid 0 1 (laid (frame_of body) b.0) c durable now torn)))

  made_at : (b : List ℕ) → old.now ≡ Some b → IsEmpty old → ((b : List ℕ) → old.now ≡ Some b → mid.now ≡ Some (laid frame b)) → IsWritten 0 (1 ∷ []) mid new → frame ≡ frame_of body → new.now ≡ Some (overwrite 0 (1 ∷ []) (laid (frame_of body) b))
  made_at b was empty written opened is = opened (laid (frame_of body) b) (written b was ∙ ap (λ (f : List ℕ). Some (laid f b)) is)

  pub made_bodies : IsEmpty old → Tells old → ((b : List ℕ) → old.now ≡ Some b → mid.now ≡ Some (laid frame b)) → IsWritten 0 (1 ∷ []) mid new → frame ≡ frame_of body → IsBody body → HasBodies new (body ∷ [])
  made_bodies empty tells written opened is is_body =
      let b = some_of old.now tells in
      record { image = overwrite 0 (1 ∷ []) (laid (frame_of body) b.0); now = made_at b.0 b.1 empty written opened is; holds = made_written body b.0 is_body (empty.closed b.0 b.1).some }

  pub made_ready : IsEmpty old → ((b : List ℕ) → old.now ≡ Some b → mid.now ≡ Some (laid frame b)) → IsWritten 0 (1 ∷ []) mid new → is_some mid.now ≡ is_some old.now → is_some new.now ≡ is_some mid.now
      → frame ≡ frame_of body → IsBody body → IsDurable new → IsReady new (first_start + length frame) second_start
  made_ready empty written opened tells tells_too is is_body durable = record {
    room = omega (arith, size, is_body.small);
    within = omega arith;
    durable = durable;
    journal = λ image now.
        let mid_was = told_before mid.now new.now image tells_too now in
        let was = told_before old.now mid.now mid_was.0 tells mid_was.1 in
        let some = (empty.closed was.0 was.1).some in
        let there : Some (overwrite 0 (1 ∷ []) (laid (frame_of body) was.0)) ≡ Some image = sym (made_at was.0 was.1 empty written opened is) ∙ now in
        let same : overwrite 0 (1 ∷ []) (laid (frame_of body) was.0) ≡ image = cc there in
        let first : start (overwrite 0 (1 ∷ []) (laid (frame_of body) was.0)) ≡ 16 = made_start body was.0 some in
        subst (λ (l : List ℕ). IsAt l (first_start + length frame) second_start) same (record {
          bodies = body ∷ [];
          holds = made_written body was.0 is_body some;
          place = omega (arith, first, size, length-append body []);
          last = omega (arith, first);
        });
  }
    where
      size : length frame ≡ length body + 5
      size = ap length is ∙ length-frame_of body

-- an image whose gate isn't open is blank
pub closed_is_blank : (image : List ℕ) → HasClosedGate image → is_blank image ≡ true
closed_is_blank image is = by_gate (length image) (get_or image 0 0) is.closed
  where
    by_gate : (n x : ℕ) → x ≢ 1 → nat_le n 1 || not (x == 1) ≡ true
    by_gate n x not_open = grind (arith, nat_tests)
