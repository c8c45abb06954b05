-- What images a journal passes through while what doesn't count is overwritten.
use Rattle.std.proofs.Common.{◌≡◌, ◌⊎◌, inl, inr, ℕ, ◌+◌, ◌-◌, ◌<◌, ◌≤◌, ◌==◌, if◌then◌else◌, List, ◌++◌, length, get_or, take, drop, replicate, Some, is_some, refl, sym, ◌∙◌, ap, subst, arith, length-append, length-drop}
use Rattle.std.specs.Prelude.{min}
use Rattle.std.proofs.Math.ListN.{get_or-append}
use Rattle.std.proofs.lemmas.Bool.{cases_lt}
use Rattle.std.proofs.lemmas.List.{take-take, get_or-take, get_or-drop, get_or_past, get_or-replicate, length-replicate}
use Rattle.x_disk.specs.Disk.{View, IsTornAt, IsDurable, IsWritten, IsStill, Elapses, LeavesOnly, IsSound, overwrite, disk_size}
use Rattle.x_disk.proofs.Runs.{began, stays, weaker, joined, goes_on}
use Rattle.key_journal.specs.Layout.{area_size, first_start, second_start}
use Rattle.key_journal.specs.Journal.{start, HoldsBodies, gate_place}
use Rattle.key_journal.specs.States.{IsReady, MayTear, other_start}
use Rattle.key_journal.specs.Wiping.{PlaceCounts, KeepsCounting, IsWiped, Wipes, LeavesCounting, HasZeros}
use Rattle.key_journal.proofs.ImageLemmas.{same_front, holds_of, whole_of, gate_in, start_in, fits_area}
use Rattle.key_journal.proofs.StepLemmas.{told_before, torn_from_now, ready_place}
use Rattle.key_journal.proofs.SwitchLemmas.{apart_by, take_swap, behind_same, overwrite_front, overwrite_back, overwrite_long}

-- ---- what a torn write leaves at a place outside of its range

torn_before : (at n p : ℕ) (b c : List ℕ) → IsTornAt at n b c → p < at → p < length b → get_or c p 0 ≡ get_or b p 0
torn_before at n p b c torn low within =
    sym (get_or-take (length b) c p 0 within) ∙ sym (get_or-take at (take (length b) c) p 0 low)
    ∙ ap (λ (l : List ℕ). get_or l p 0) torn.before ∙ get_or-take at b p 0 low

torn_behind : (at n p : ℕ) (b c : List ℕ) → IsTornAt at n b c → at + n ≤ p → get_or c p 0 ≡ get_or b p 0
torn_behind at n p b c torn high =
    let sum : (at + n) + (p - (at + n)) ≡ p = omega (arith, high) in
    ap (λ (k : ℕ). get_or c k 0) (sym sum) ∙ sym (get_or-drop (at + n) c (p - (at + n)) 0)
    ∙ ap (λ (l : List ℕ). get_or l (p - (at + n)) 0) torn.after
    ∙ get_or-drop (at + n) b (p - (at + n)) 0 ∙ ap (λ (k : ℕ). get_or b k 0) sum

torn_long : (at n : ℕ) (b c : List ℕ) → IsTornAt at n b c → at + n ≤ length b → length c ≡ length b
torn_long at n b c torn within = omega (arith, torn.no_shorter, torn.no_longer, within)

-- a torn write within the range of another
pub torn_within : (from m at n : ℕ) (b d c : List ℕ) → IsTornAt from m b d → IsTornAt at n d c → from ≤ at → at + n ≤ from + m → IsTornAt from m b c
torn_within from m at n b d c first second low high =
    let near : take from (take (length d) c) ≡ take from d =
    sym (take-take from at (take (length d) c) low) ∙ ap (λ (l : List ℕ). take from l) second.before ∙ take-take from at d low in
    record {
      before = ap (λ (l : List ℕ). take from l) (sym (take-take (length b) (length d) c first.no_shorter)) ∙ take_swap from (length b) (take (length d) c) ∙ ap (λ (l : List ℕ). take (length b) l) near
          ∙ take_swap (length b) from d ∙ first.before;
      after = behind_same (from + m) (at + n) d c high second.after ∙ first.after;
      no_shorter = omega (arith, first.no_shorter, second.no_shorter);
      no_longer = omega (arith, first.no_longer, second.no_longer, high);
    }

-- ---- ranges in which no byte counts

pub record IsIdle (image : List ℕ) (bodies : List (List ℕ)) (at n : ℕ) : Type 0 where
  pub within : at + n ≤ length image
  pub apart : (gate_place image bodies + 1 ≤ at) ⊎ ((first_start ≤ at) × (at + n ≤ start image))

idle_holds : (image : List ℕ) (bodies : List (List ℕ)) (at n : ℕ) (c : List ℕ) → HoldsBodies image bodies → IsIdle image bodies at n → IsTornAt at n image c → HoldsBodies c bodies
idle_holds image bodies at n c h idle torn = either idle.apart
  where
    either : (gate_place image bodies + 1 ≤ at) ⊎ ((first_start ≤ at) × (at + n ≤ start image)) → HoldsBodies c bodies
    either (inl low) =
        let g = gate_place image bodies + 1 in
        same_front image c bodies h
        (sym (take-take g (length image) c (gate_in image bodies h)) ∙ sym (take-take g at (take (length image) c) low) ∙ ap (λ (l : List ℕ). take g l) torn.before ∙ take-take g at image low)
    either (inr high) =
        let w = whole_of image bodies h in
        let s = start image in
        let long : 16 ≤ length image = omega (arith, gate_in image bodies h, start_in image) in
        let back : drop s c ≡ drop s image = behind_same s (at + n) image c high.1 torn.after in
        let head : take 16 c ≡ take 16 image =
        sym (take-take 16 (length image) c long) ∙ sym (take-take 16 at (take (length image) c) high.0) ∙ ap (λ (l : List ℕ). take 16 l) torn.before ∙ take-take 16 at image high.0 in
        holds_of image c bodies bodies w.gate w.tail h (record { head = head }) w.closed (back ∙ w.whole) w.room h.area.some h.area.all

pub idle_keeps : (image : List ℕ) (bodies : List (List ℕ)) (at n : ℕ) (c : List ℕ) → HoldsBodies image bodies → IsIdle image bodies at n → IsTornAt at n image c → KeepsCounting image bodies c
idle_keeps image bodies at n c h idle torn = record {
  holds = idle_holds image bodies at n c h idle torn;
  long = torn_long at n image c torn idle.within;
  same = λ place counts. both idle.apart place counts;
}
  where
    within : gate_place image bodies + 1 ≤ length image
    within = gate_in image bodies h

    low : (16 ≤ start image) × (start image ≤ second_start)
    low = start_in image

    both : (gate_place image bodies + 1 ≤ at) ⊎ ((first_start ≤ at) × (at + n ≤ start image)) → (place : ℕ) → PlaceCounts image bodies place → get_or c place 0 ≡ get_or image place 0
    both (inl before) place (inl head) = torn_before at n place image c torn (omega (arith, before, head, low)) (omega (arith, within, head, low))
    both (inl before) place (inr area) = torn_before at n place image c torn (omega (arith, before, area.1)) (omega (arith, within, area.1))
    both (inr behind) place (inl head) = torn_before at n place image c torn (omega (arith, behind.0, head)) (omega (arith, within, head, low))
    both (inr behind) place (inr area) = torn_behind at n place image c torn (omega (arith, behind.1, area.0))

same_start : (image d : List ℕ) (bodies : List (List ℕ)) → KeepsCounting image bodies d → start d ≡ start image
same_start image d bodies keeps = ap (λ (n : ℕ). if n == 1 then second_start else first_start) (keeps.same 1 (inl (omega arith)))

pub keeps_both : (image d c : List ℕ) (bodies : List (List ℕ)) → KeepsCounting image bodies d → KeepsCounting d bodies c → KeepsCounting image bodies c
keeps_both image d c bodies first second = record {
  holds = second.holds;
  long = second.long ∙ first.long;
  same = λ place counts. second.same place (counts_too place counts) ∙ first.same place counts;
}
  where
    counts_too : (place : ℕ) → PlaceCounts image bodies place → PlaceCounts d bodies place
    counts_too place (inl head) = inl head
    counts_too place (inr area) = inr (omega (arith, area.0, same_start image d bodies first), omega (arith, area.1, same_start image d bodies first))

-- ---- zeros are written, piece by piece

module _ (from at n : ℕ) (b c bytes : List ℕ) (so_far : HasZeros from at b c) (within : at + n ≤ length b) (are_zeros : bytes ≡ replicate n 0) where
  abbrev written : List ℕ
  written = overwrite at bytes c

  size : length bytes ≡ n
  size = ap length are_zeros ∙ length-replicate n 0

  back : drop at written ≡ bytes ++ drop (at + length bytes) c
  back = overwrite_back at bytes c

  zero_before : (place : ℕ) → from ≤ place → place < at → get_or written place 0 ≡ 0
  zero_before place low high =
      let front : take at written ≡ take at c = overwrite_front at at bytes c (omega arith) (omega (arith, within, so_far.no_shorter)) in
      sym (get_or-take at written place 0 high) ∙ ap (λ (l : List ℕ). get_or l place 0) front ∙ get_or-take at c place 0 high ∙ so_far.zero place low high

  zero_in : (i : ℕ) → i < n → get_or written (at + i) 0 ≡ 0
  zero_in i low =
      sym (get_or-drop at written i 0) ∙ ap (λ (l : List ℕ). get_or l i 0) back ∙ get_or-append bytes (drop (at + length bytes) c) 0 i (omega (arith, size, low))
      ∙ ap (λ (l : List ℕ). get_or l i 0) are_zeros ∙ get_or-replicate n i 0 0 low

  pub zeros_more : HasZeros from (at + n) b (overwrite at bytes c)
  zeros_more = record {
    no_shorter = omega (arith, within, size, so_far.no_shorter, overwrite_long at bytes c, sym (length-drop at written) ∙ ap length back ∙ length-append bytes (drop (at + length bytes) c), length-drop (at + length bytes) c);
    zero = λ place low high. elim (cases_lt place at) [
      | inl before ↦ zero_before place low before
      | inr behind ↦ ap (λ (k : ℕ). get_or written k 0) (omega (arith, behind)) ∙ zero_in (place - at) (omega (arith, behind, high))
    ];
  }

-- a disk's view while zeros are written
module _ (old mid new : View) (from to at n : ℕ) (bytes : List ℕ) (low : from ≤ at) (high : at + n ≤ to) (are_zeros : bytes ≡ replicate n 0) where
  pub clear_more : (run : (b c : List ℕ) → old.now ≡ Some b → mid.now ≡ Some c → to ≤ length b → HasZeros from at b c) → is_some mid.now ≡ is_some old.now → IsWritten at bytes mid new
      → (b c : List ℕ) → old.now ≡ Some b → new.now ≡ Some c → to ≤ length b → HasZeros from (at + n) b c
  clear_more run tells written b c was is long =
      let d = told_before mid.now old.now b (sym tells) was in
      let there : Some (overwrite at bytes d.0) ≡ Some c = sym (written d.0 d.1) ∙ is in
      let same : overwrite at bytes d.0 ≡ c = cc there in
      subst (λ (l : List ℕ). HasZeros from (at + n) b l) same
      (zeros_more from at n b d.0 bytes (run b d.0 was d.1 long) (omega (arith, high, long)) are_zeros)

  pub clear_leaves : LeavesOnly old mid (MayTear old from (to - from)) → IsSound mid → Elapses mid new → ((c : List ℕ) → new.may_leave c → (d : List ℕ) × mid.may_leave d × IsTornAt at (length bytes) d c)
      → LeavesOnly old new (MayTear old from (to - from))
  clear_leaves so_far sound time crash =
      let size : length bytes ≡ n = ap length are_zeros ∙ length-replicate n 0 in
      goes_on old mid new (MayTear old from (to - from)) so_far time (λ c left.
      let from_image = crash c left in
      let was = so_far.each from_image.0 (sound.counts_now old.moment from_image.0 so_far.later from_image.1) in
      (was.0, was.1, torn_within from (to - from) at (length bytes) was.0 from_image.0 c was.2 from_image.2 low (omega (arith, high, low, size))))

-- ---- both ranges

-- up to where zeros are written, from which places on, in a file of this length
pub record Ranges (size gate end : ℕ) (other from to first last : ℕ) : Type 0 where
  pub other_is : other ≡ other_start end
  pub from_is : from ≡ min size other
  pub to_is : to ≡ min size (other + area_size)
  pub first_is : first ≡ min size (gate + 1)
  pub last_is : last ≡ min size end

module _ (image : List ℕ) (bodies : List (List ℕ)) (gate end size other from to first last : ℕ) (ranges : Ranges size gate end other from to first last)
    (h : HoldsBodies image bodies) (place : gate ≡ gate_place image bodies) (area_end : end ≡ start image + area_size) (long : size ≡ length image) where
  abbrev Lower : Type 0
  Lower = (start image ≡ first_start) × (other ≡ second_start)

  abbrev Upper : Type 0
  Upper = (start image ≡ second_start) × (other ≡ first_start)

  which : Lower ⊎ Upper
  which = subst (λ (o : ℕ). ((start image ≡ first_start) × (o ≡ second_start)) ⊎ ((start image ≡ second_start) × (o ≡ first_start))) (sym ranges.other_is) (apart_by image end area_end).which

  gate_within : gate + 1 ≤ size
  gate_within = omega (arith, place, long, gate_in image bodies h)

  gate_fits : gate + 1 ≤ end
  gate_fits = omega (arith, place, area_end, fits_area image bodies h)

  pub idle_other : IsIdle image bodies from (to - from)
  idle_other = record { within = omega (arith, long, ranges.from_is, ranges.to_is); apart = either which }
    where
      either : Lower ⊎ Upper → (gate_place image bodies + 1 ≤ from) ⊎ ((first_start ≤ from) × (from + (to - from) ≤ start image))
      either (inl lower) = inl (omega (arith, place, area_end, gate_within, gate_fits, lower.0, lower.1, ranges.from_is))
      either (inr upper) = inr (omega (arith, upper.1, gate_within, place, start_in image, ranges.from_is), omega (arith, upper.0, upper.1, ranges.from_is, ranges.to_is))

  pub idle_rest : IsIdle image bodies first (last - first)
  idle_rest = record { within = omega (arith, long, gate_fits, ranges.first_is, ranges.last_is); apart = inl (omega (arith, place, gate_within, ranges.first_is)) }

  -- first the other area, and then what lies behind the last gate
  module _ (d c : List ℕ) (keeps : KeepsCounting image bodies d) (keeps_too : KeepsCounting d bodies c) (beside : HasZeros from to image d)
      (torn : IsTornAt first (last - first) d c) (behind : HasZeros first last d c) where
    past : (p : ℕ) → size ≤ p → get_or c p 0 ≡ 0
    past p high = get_or_past c p 0 (omega (arith, high, long, keeps.long, keeps_too.long))

    -- in the other area, below the selected one
    below : (p : ℕ) → p ≤ gate → first_start ≤ p → p < start image → get_or c p 0 ≡ 0
    below p within low high = either which
      where
        either : Lower ⊎ Upper → get_or c p 0 ≡ 0
        either (inl lower) = absurd (omega (arith, low, high, lower.0))
        either (inr upper) = torn_before first (last - first) p d c torn (omega (arith, within, gate_within, ranges.first_is)) (omega (arith, within, gate_within, long, keeps.long))
            ∙ beside.zero p (omega (arith, upper.1, low, ranges.from_is)) (omega (arith, upper.0, upper.1, high, within, gate_within, ranges.to_is))

    -- and above it
    above : (p : ℕ) → end ≤ p → p < size → p < disk_size → get_or c p 0 ≡ 0
    above p low within in_disk = either which
      where
        either : Lower ⊎ Upper → get_or c p 0 ≡ 0
        either (inl lower) = torn_behind first (last - first) p d c torn (omega (arith, low, gate_fits, ranges.first_is, ranges.last_is))
            ∙ beside.zero p (omega (arith, lower.0, lower.1, area_end, low, ranges.from_is)) (omega (arith, lower.1, within, in_disk, ranges.to_is))
        either (inr upper) = absurd (omega (arith, upper.0, area_end, low, in_disk))

    zero : (p : ℕ) → p < disk_size → (PlaceCounts image bodies p → ⊥) → get_or c p 0 ≡ 0
    zero p in_disk idle = elim (cases_lt p size) [
      | inr high ↦ past p high
      | inl within ↦ elim (cases_lt gate p) [
        | inl later ↦ elim (cases_lt p end) [
          | inl in_area ↦ behind.zero p (omega (arith, later, gate_within, ranges.first_is)) (omega (arith, in_area, within, ranges.last_is))
          | inr out ↦ above p out within in_disk
        ]
        | inr earlier ↦ elim (cases_lt p first_start) [
          | inl head ↦ absurd (idle (inl head))
          | inr low ↦ elim (cases_lt p (start image)) [
            | inl beneath ↦ below p earlier low beneath
            | inr area ↦ absurd (idle (inr (area, omega (arith, place, earlier))))
          ]
        ]
      ]
    ]

    pub is_wiped : IsWiped image bodies c
    is_wiped = record { keeps = keeps_both image d c bodies keeps keeps_too; zero = zero }

keeps_self : (image : List ℕ) (bodies : List (List ℕ)) → HoldsBodies image bodies → KeepsCounting image bodies image
keeps_self image bodies h = record { holds = h; long = refl; same = λ place counts. refl }

-- ---- a disk's view: the length is told, the other area is overwritten, and then what lies behind the last gate

module _ (old v : View) (gate end : ℕ) (ready : IsReady old gate end) (sound : IsSound old) (still : IsStill old v) where
  durable_still : IsDurable v
  durable_still = record {
    only = λ b c now left. ready.durable.only b c (sym still.now ∙ now) (still.images c left);
    stable = still.stable ∙ (ready.durable.stable ∙ sym still.now);
  }

  pub measured_moment : LeavesCounting old v
  measured_moment = λ image bodies now holds.
      stays old old v (KeepsCounting image bodies)
      (began old (KeepsCounting image bodies) sound (λ c left. subst (KeepsCounting image bodies) (sym (ready.durable.only image c now left)) (keeps_self image bodies holds))) still

  module _ (mid : View) (size other from to first last : ℕ) (ranges : Ranges size gate end other from to first last) (value : (b : List ℕ) → old.now ≡ Some b → size ≡ length b)
      (sound_mid : IsSound mid) (run : LeavesOnly v mid (MayTear v from (to - from))) (tells : is_some mid.now ≡ is_some v.now) where
    pub other_moment : LeavesCounting old mid
    other_moment = λ image bodies now holds.
        let at = ready_place old v gate end ready bodies image now holds in
        let idle = idle_other image bodies gate end size other from to first last ranges holds at.0 at.1 (value image now) in
        joined old v mid (KeepsCounting image bodies) (measured_moment image bodies now holds)
        (weaker v mid (MayTear v from (to - from)) (KeepsCounting image bodies) run
        (λ c torn. idle_keeps image bodies from (to - from) c holds idle (torn_from_now v from (to - from) image c durable_still (still.now ∙ now) torn)))

    -- the image that is read then
    record Between (image : List ℕ) (bodies : List (List ℕ)) : Type 0 where
      pub d : List ℕ
      pub now : mid.now ≡ Some d
      pub keeps : KeepsCounting image bodies d
      pub idle : IsIdle d bodies first (last - first)

    between : (image : List ℕ) (bodies : List (List ℕ)) → old.now ≡ Some image → HoldsBodies image bodies → Between image bodies
    between image bodies now holds =
        let at = ready_place old v gate end ready bodies image now holds in
        let d = told_before mid.now v.now image (sym tells) (still.now ∙ now) in
        let all = other_moment image bodies now holds in
        let keeps : KeepsCounting image bodies d.0 = all.each d.0 (sound_mid.counts_now old.moment d.0 all.later (sound_mid.now_among d.0 d.1)) in
        let same = same_start image d.0 bodies keeps in
        record {
          d = d.0;
          now = d.1;
          keeps = keeps;
          idle = idle_rest d.0 bodies gate end size other from to first last ranges keeps.holds (omega (arith, at.0, same)) (omega (arith, at.1, same)) (omega (arith, value image now, keeps.long));
        }

    module _ (new : View) (sound_new : IsSound new) (durable : IsDurable mid) (more : LeavesOnly mid new (MayTear mid first (last - first))) (tells_too : is_some new.now ≡ is_some mid.now) where
      pub idle_moment : LeavesCounting old new
      idle_moment = λ image bodies now holds.
          let b = between image bodies now holds in
          joined old mid new (KeepsCounting image bodies) (other_moment image bodies now holds)
          (weaker mid new (MayTear mid first (last - first)) (KeepsCounting image bodies) more
          (λ c torn. keeps_both image b.d c bodies b.keeps (idle_keeps b.d bodies first (last - first) c b.keeps.holds b.idle (torn_from_now mid first (last - first) b.d c durable b.now torn))))

      pub idle_wiped : ((b c : List ℕ) → v.now ≡ Some b → mid.now ≡ Some c → to ≤ length b → HasZeros from to b c) → ((b c : List ℕ) → mid.now ≡ Some b → new.now ≡ Some c → last ≤ length b → HasZeros first last b c) → Wipes old new
      idle_wiped zeros zeros_too = λ image bodies now holds.
          let at = ready_place old v gate end ready bodies image now holds in
          let b = between image bodies now holds in
          let c = told_before new.now mid.now b.d (sym tells_too) b.now in
          let torn : IsTornAt first (last - first) b.d c.0 =
          torn_from_now mid first (last - first) b.d c.0 durable b.now (more.each c.0 (sound_new.counts_now mid.moment c.0 more.later (sound_new.now_among c.0 c.1))) in
          let long = value image now in (
            c.0,
            c.1,
            is_wiped image bodies gate end size other from to first last ranges holds at.0 at.1 long b.d c.0 b.keeps
                (idle_keeps b.d bodies first (last - first) c.0 b.keeps.holds b.idle torn)
                (zeros image b.d (still.now ∙ now) b.now (omega (arith, long, ranges.to_is))) torn
                (zeros_too b.d c.0 b.now c.1 (omega (arith, long, b.keeps.long, ranges.last_is))),
          )

-- a wiped journal is at rest
pub wiped_ready : (old new : View) (gate end : ℕ) → IsReady old gate end → Wipes old new → is_some new.now ≡ is_some old.now → IsDurable new → IsReady new gate end
wiped_ready old new gate end ready wiped tells durable = record {
  room = ready.room;
  within = ready.within;
  durable = durable;
  journal = λ c now.
      let was = told_before old.now new.now c tells now in
      let at = ready.journal was.0 was.1 in
      let done = wiped was.0 at.bodies was.1 at.holds in
      let there : Some done.0 ≡ Some c = sym done.1 ∙ now in
      let same : done.0 ≡ c = cc there in
      let keeps : KeepsCounting was.0 at.bodies c = subst (KeepsCounting was.0 at.bodies) same done.2.keeps in
      let begins = same_start was.0 c at.bodies keeps in
      record { bodies = at.bodies; holds = keeps.holds; place = omega (arith, at.place, begins); last = omega (arith, at.last, begins) };
}
