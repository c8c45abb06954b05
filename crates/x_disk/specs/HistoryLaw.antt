-- What each step makes of a disk in memory, and the law that it keeps.
use Rattle.std.proofs.Common.{◌≡◌, ◌⊎◌, inl, inr, ℕ, zero, suc, ◌+◌, ◌-◌, ◌<◌, ◌≤◌, if◌then◌else◌, Bool, true, false, ◌&&◌, ◌||◌, nat_lt, nat_le, max, min, List, [], ◌∷◌, ◌++◌, length, get_or, take, drop, Some, refl, sym, ◌∙◌, ap, subst, arith, length-append, length-drop}
use Rattle.std.proofs.lemmas.List.{take_all, places, length-take, length-replicate, get_or-take, get_or-drop, take-append-le, ext_get_or}
use Rattle.std.proofs.lemmas.Bool.Decides.{nat_tests}
use Rattle.x_disk.specs.Disk.{overwrite, IsTornAt, Follows, IsDurable, IsSound, Elapses, Ticks, IsWritten}
use Rattle.x_disk.specs.History.{Step, Write, Sync, PowerOff, History, and_then, State, covers_place, torn_byte, IsImage, torn_from, left_by, after_step, replay, state_of, view_of}

pub replay-push : (xs : List Step) (x : Step) (s : State) → replay (xs ++ x ∷ []) s ≡ after_step x (replay xs s)
replay-push [] x s = refl
replay-push (y ∷ xs) x s = replay-push xs x (after_step y s)

pub length-overwrite : (at : ℕ) (bytes old : List ℕ) → length (overwrite at bytes old) ≡ max (length old) (at + length bytes)
length-overwrite at bytes old =
    simp (length-append, length-take, length-drop, length-replicate) (omega arith)

-- a place outside the range
pub overwrite_elsewhere : (at : ℕ) (bytes old : List ℕ) (p : ℕ) → p < length old → (p < at) ⊎ (at + length bytes ≤ p) → get_or (overwrite at bytes old) p 0 ≡ get_or old p 0
overwrite_elsewhere at bytes old p within (inl below) = grind (arith, places)
overwrite_elsewhere at bytes old p within (inr above) = grind (arith, places)

pub outside_pushed : (ranges : List (ℕ × ℕ)) (at n p : ℕ) → covers_place (ranges ++ (at, n) ∷ []) p ≡ false → (covers_place ranges p ≡ false) × ((p < at) ⊎ (at + n ≤ p))
outside_pushed [] at n p is = (refl, outside_one at n p is)
  where
    outside_one : (at n p : ℕ) → (nat_le at p && nat_lt p (at + n)) || false ≡ false → (p < at) ⊎ (at + n ≤ p)
    outside_one at n p is = grind (arith, nat_tests)
outside_pushed (r ∷ ranges) at n p is =
    let parts = or_false (nat_le r.0 p && nat_lt p (r.0 + r.1)) (covers_place (ranges ++ (at, n) ∷ []) p) is in
    let rest = outside_pushed ranges at n p parts.1 in
    (ap (λ (b : Bool). b || covers_place ranges p) parts.0 ∙ rest.0, rest.1)
  where
    or_false : (a b : Bool) → a || b ≡ false → (a ≡ false) × (b ≡ false)
    or_false true b is = absurd (cc is)
    or_false false b is = (refl, is)

cases_lt : (a b : ℕ) → (a < b) ⊎ (b ≤ a)
cases_lt a b = by_test (nat_lt a b) refl
  where
    by_test : (t : Bool) → nat_lt a b ≡ t → (a < b) ⊎ (b ≤ a)
    by_test true is = inl (grind (arith, nat_tests))
    by_test false is = inr (grind (arith, nat_tests))

pushed_outside : (ranges : List (ℕ × ℕ)) (at n p : ℕ) → covers_place ranges p ≡ false → (p < at) ⊎ (at + n ≤ p) → covers_place (ranges ++ (at, n) ∷ []) p ≡ false
pushed_outside [] at n p free out = last at n p out
  where
    last : (at n p : ℕ) → (p < at) ⊎ (at + n ≤ p) → (nat_le at p && nat_lt p (at + n)) || false ≡ false
    last at n p (inl below) = grind (arith, nat_tests)
    last at n p (inr past) = grind (arith, nat_tests)
pushed_outside (r ∷ ranges) at n p free out =
    let parts = or_parts (nat_le r.0 p && nat_lt p (r.0 + r.1)) (covers_place ranges p) free in
    ap (λ (b : Bool). b || covers_place (ranges ++ (at, n) ∷ []) p) parts.0 ∙ pushed_outside ranges at n p parts.1 out
  where
    or_parts : (a b : Bool) → a || b ≡ false → (a ≡ false) × (b ≡ false)
    or_parts true b is = absurd (cc is)
    or_parts false b is = (refl, is)

-- what a read gives may be left
pub record IsWell (s : State) : Type 0 where
  pub image : IsImage s s.now

pub well_settled : (image : List ℕ) → IsWell (record { now = image; stable = image; pending = [] })
well_settled image = record { image = record { no_shorter = omega arith; no_longer = omega arith; kept = λ p le free. refl } }

pub well_written : (at : ℕ) (bytes : List ℕ) (s : State) → IsWell s → IsWell (after_step (Write at bytes) s)
well_written at bytes s well = record {
  image = record {
    no_shorter = omega (arith, well.image.no_shorter, length-overwrite at bytes s.now);
    no_longer = omega arith;
    kept = λ p le free.
        let out = outside_pushed s.pending at (length bytes) p free in
        overwrite_elsewhere at bytes s.now p (omega (arith, le, well.image.no_shorter)) out.1 ∙ well.image.kept p le out.0;
  };
}

pub well_step : (x : Step) (s : State) → IsWell s → IsWell (after_step x s)
well_step (Write at bytes) s well = well_written at bytes s well
well_step Sync s well = well_settled s.now
well_step (PowerOff choice) s well = well_settled (left_by choice s)

pub well_replay : (xs : List Step) (s : State) → IsWell s → IsWell (replay xs s)
well_replay [] s well = well
well_replay (x ∷ xs) s well = well_replay xs (after_step x s) (well_step x s well)

pub well_state : (xs : List Step) → IsWell (state_of xs)
well_state xs = well_replay xs (record { now = []; stable = []; pending = [] }) (well_settled [])

pub stable_image : (s : State) → IsWell s → IsImage s s.stable
stable_image s well = record { no_shorter = omega arith; no_longer = well.image.no_shorter; kept = λ p le free. refl }

pub length-torn_from : (choice : ℕ) (ranges : List (ℕ × ℕ)) (n p : ℕ) (xs : List ℕ) → length (torn_from choice ranges n p xs) ≡ length xs
length-torn_from choice ranges n p [] = refl
length-torn_from choice ranges n p (x ∷ xs) = ap suc (length-torn_from choice ranges n (suc p) xs)

get_or-torn_from : (choice : ℕ) (ranges : List (ℕ × ℕ)) (n q : ℕ) (xs : List ℕ) (i : ℕ) → i < length xs → covers_place ranges (q + i) ≡ false → q + i < n → get_or (torn_from choice ranges n q xs) i 0 ≡ get_or xs i 0
get_or-torn_from choice ranges n q [] i le free within = refl
get_or-torn_from choice ranges n q (x ∷ xs) zero le free within =
    let here : q + 0 ≡ q = omega arith in
    let free' : covers_place ranges q ≡ false = subst (λ (k : ℕ). covers_place ranges k ≡ false) here free in
    let low : nat_le n q ≡ false = below n q (omega arith) in
    ap (λ (b : Bool). if b || nat_le n q then torn_byte choice q else x) free' ∙ ap (λ (b : Bool). if b then torn_byte choice q else x) low
  where
    below : (n q : ℕ) → q < n → nat_le n q ≡ false
    below n q lt = grind (arith, nat_tests)
get_or-torn_from choice ranges n q (x ∷ xs) (suc i) le free within =
    let next : q + suc i ≡ suc q + i = omega arith in
    get_or-torn_from choice ranges n (suc q) xs i (omega arith) (subst (λ (k : ℕ). covers_place ranges k ≡ false) next free) (omega arith)

-- a power-off leaves one of the images
pub left_image : (choice : ℕ) (s : State) → IsWell s → IsImage s (left_by choice s)
left_image zero s well = stable_image s well
left_image (suc zero) s well = well.image
left_image (suc (suc n)) s well = record {
  no_shorter = omega (arith, well.image.no_shorter, length-torn_from (suc (suc n)) s.pending (length s.stable) 0 s.now);
  no_longer = omega (arith, length-torn_from (suc (suc n)) s.pending (length s.stable) 0 s.now);
  kept = λ p le free.
      let here : 0 + p ≡ p = omega arith in
      get_or-torn_from (suc (suc n)) s.pending (length s.stable) 0 s.now p (omega (arith, le, well.image.no_shorter)) (subst (λ (k : ℕ). covers_place s.pending k ≡ false) (sym here) free) (omega (arith, le)) ∙ well.image.kept p le free;
}

pub only_settled : (image c : List ℕ) → IsImage (record { now = image; stable = image; pending = [] }) c → c ≡ image
only_settled image c is = ext_get_or 0 c image (omega (arith, is.no_shorter, is.no_longer)) (λ i le. is.kept i (omega (arith, le, is.no_shorter, is.no_longer)) refl)

-- the image from which a torn write came
module _ (at : ℕ) (bytes : List ℕ) (s : State) (well : IsWell s) (c : List ℕ) (is : IsImage (after_step (Write at bytes) s) c) where
  abbrev m : ℕ
  m = min (length c) (length s.now)

  abbrev merged : List ℕ
  merged = take at (take m c) ++ (take (length bytes) (drop at (take m s.now)) ++ drop (at + length bytes) (take m c))

  length-merged : length merged ≡ m
  length-merged = simp (length-append, length-take, length-drop) (omega arith)

  merged_in : (p : ℕ) → p < m → at ≤ p → p < at + length bytes → get_or merged p 0 ≡ get_or s.now p 0
  merged_in p lt low high = grind (arith, places)

  merged_out : (p : ℕ) → p < m → (p < at) ⊎ (at + length bytes ≤ p) → get_or merged p 0 ≡ get_or c p 0
  merged_out p lt (inl below) = grind (arith, places)
  merged_out p lt (inr above) = grind (arith, places)

  long : length c ≤ max (length s.now) (at + length bytes)
  long = omega (arith, is.no_longer, length-overwrite at bytes s.now)

  front : (p : ℕ) → p < min at (min (length merged) (length c)) → get_or (take at (take (length merged) c)) p 0 ≡ get_or (take at merged) p 0
  front p lt =
      get_or-take at (take (length merged) c) p 0 (omega (arith, lt)) ∙ get_or-take (length merged) c p 0 (omega (arith, lt))
      ∙ sym (merged_out p (omega (arith, lt, length-merged)) (inl (omega (arith, lt)))) ∙ sym (get_or-take at merged p 0 (omega (arith, lt)))

  back : (p : ℕ) → p < length c - (at + length bytes) → get_or (drop (at + length bytes) c) p 0 ≡ get_or (drop (at + length bytes) merged) p 0
  back p lt =
      get_or-drop (at + length bytes) c p 0 ∙ sym (merged_out (at + length bytes + p) (omega (arith, lt, long)) (inr (omega arith))) ∙ sym (get_or-drop (at + length bytes) merged p 0)

  split : (p : ℕ) → ((p < at) ⊎ (at + length bytes ≤ p)) ⊎ ((at ≤ p) × (p < at + length bytes))
  split p = elim (cases_lt p at) [
    | inl below ↦ inl (inl below)
    | inr above ↦ elim (cases_lt p (at + length bytes)) [
      | inl within ↦ inr (above, within)
      | inr past ↦ inl (inr past)
    ]
  ]

  stays : (p : ℕ) → p < length s.stable → covers_place s.pending p ≡ false → ((p < at) ⊎ (at + length bytes ≤ p)) ⊎ ((at ≤ p) × (p < at + length bytes)) → get_or merged p 0 ≡ get_or s.stable p 0
  stays p le free (inl out) = merged_out p (omega (arith, le, is.no_shorter, well.image.no_shorter)) out ∙ is.kept p le (pushed_outside s.pending at (length bytes) p free out)
  stays p le free (inr within) = merged_in p (omega (arith, le, is.no_shorter, well.image.no_shorter)) within.0 within.1 ∙ well.image.kept p le free

  pub merged_torn : IsTornAt at (length bytes) merged c
  merged_torn = record {
    before = ext_get_or 0 (take at (take (length merged) c)) (take at merged) (simp (length-take) (omega (arith, length-merged))) (λ p lt. front p (simp length-take at lt));
    after = ext_get_or 0 (drop (at + length bytes) c) (drop (at + length bytes) merged) (simp (length-drop) (omega (arith, length-merged, long))) (λ p lt. back p (simp length-drop at lt));
    no_shorter = omega (arith, length-merged);
    no_longer = omega (arith, length-merged, long);
  }

  pub merged_image : IsImage s merged
  merged_image = record {
    no_shorter = omega (arith, length-merged, is.no_shorter, well.image.no_shorter);
    no_longer = omega (arith, length-merged);
    kept = λ p le free. stays p le free (split p);
  }

-- the clauses of each step, of what the disk tells
pub state_then : (h : History) (x : Step) → state_of (and_then h x).steps ≡ after_step x (state_of h.steps)
state_then h x = replay-push h.steps x (record { now = []; stable = []; pending = [] })

same_then : (h : History) (x : Step) (k : ℕ) → k ≤ length h.steps → take k (and_then h x).steps ≡ take k h.steps
same_then h x k le = take-append-le k h.steps (x ∷ []) le

all_then : (h : History) (x : Step) (k : ℕ) → k ≡ length h.steps + 1 → take k (and_then h x).steps ≡ (and_then h x).steps
all_then h x k is = take_all k (h.steps ++ x ∷ []) (omega (arith, is, length-append h.steps (x ∷ [])))

pub step_elapses : (h : History) (x : Step) → Elapses (view_of h) (view_of (and_then h x))
step_elapses h x = record {
  later = omega (arith, length-append h.steps (x ∷ []));
  nothing_else = λ t c le left. either t c left.0 left.1 left.2 left.3 (cases_lt left.0 (length h.steps + 1));
  keeps = λ t c le left. (left.0, left.1, omega (arith, left.2, length-append h.steps (x ∷ [])), subst (λ (l : List Step). IsImage (state_of l) c) (sym (same_then h x left.0 left.2)) left.3);
}
  where
    either : (t : ℕ) (c : List ℕ) (k : ℕ) → t ≤ k → k ≤ length (h.steps ++ x ∷ []) → IsImage (state_of (take k (h.steps ++ x ∷ []))) c → (k < length h.steps + 1) ⊎ (length h.steps + 1 ≤ k)
        → ((j : ℕ) × (t ≤ j) × (j ≤ length h.steps) × IsImage (state_of (take j h.steps)) c) ⊎ IsImage (state_of (h.steps ++ x ∷ [])) c
    either t c k le within is (inl lt) = inl (k, le, omega (arith, lt), subst (λ (l : List Step). IsImage (state_of l) c) (same_then h x k (omega (arith, lt))) is)
    either t c k le within is (inr ge) = inr (subst (λ (l : List Step). IsImage (state_of l) c) (all_then h x k (omega (arith, ge, within, length-append h.steps (x ∷ [])))) is)

pub step_ticks : (h : History) (x : Step) → Ticks (view_of h) (view_of (and_then h x))
step_ticks h x = λ tells. omega (arith, length-append h.steps (x ∷ []))

pub history_sound : (h : History) → IsSound (view_of h)
history_sound h = record {
  tells = refl;
  now_among = λ b is. let same : (state_of h.steps).now ≡ b = cc is in subst (λ (l : List ℕ). IsImage (state_of h.steps) l) same (well_state h.steps).image;
  stable_among = λ b is. let same : (state_of h.steps).stable ≡ b = cc is in subst (λ (l : List ℕ). IsImage (state_of h.steps) l) same (stable_image (state_of h.steps) (well_state h.steps));
  counts_now = λ t c le is. (length h.steps, le, omega arith, subst (λ (l : List Step). IsImage (state_of l) c) (sym (take_all (length h.steps) h.steps (omega arith))) is);
  only_now = λ c left. subst (λ (l : List Step). IsImage (state_of l) c) (take_all left.0 h.steps (omega (arith, left.1))) left.3;
  covers_less = λ end bytes calls less fewer covers le few. record { reaches = covers.reaches; holds = covers.holds; records = omega (arith, covers.records, le); counts = omega (arith, covers.counts, few) };
}

pub write_follows : (at : ℕ) (bytes : List ℕ) (h : History) → Follows (IsTornAt at (length bytes)) (view_of h) (view_of (and_then h (Write at bytes)))
write_follows at bytes h = λ c left.
    let is : IsImage (after_step (Write at bytes) (state_of h.steps)) c = subst (λ (s : State). IsImage s c) (state_then h (Write at bytes)) left in
    let well = well_state h.steps in
    (merged at bytes (state_of h.steps) well c is, merged_image at bytes (state_of h.steps) well c is, merged_torn at bytes (state_of h.steps) well c is)

pub write_written : (at : ℕ) (bytes : List ℕ) (h : History) → IsWritten at bytes (view_of h) (view_of (and_then h (Write at bytes)))
write_written at bytes h = λ b is.
    let same : (state_of h.steps).now ≡ b = cc is in
    ap (λ (s : State). Some s.now) (state_then h (Write at bytes)) ∙ ap (λ (l : List ℕ). Some (overwrite at bytes l)) same

pub settled_durable : (h : History) (x : Step) (image : List ℕ) → after_step x (state_of h.steps) ≡ record { now = image; stable = image; pending = [] } → IsDurable (view_of (and_then h x))
settled_durable h x image is =
    let all = state_then h x ∙ is in
    record {
      only = λ b c now left.
          let it : c ≡ image = only_settled image c (subst (λ (s : State). IsImage s c) all left) in
          let there : Some image ≡ Some b = sym (ap (λ (s : State). Some s.now) all) ∙ now in
          let same : image ≡ b = cc there in
          it ∙ same;
      stable = ap (λ (s : State). Some s.stable) all ∙ sym (ap (λ (s : State). Some s.now) all);
    }
