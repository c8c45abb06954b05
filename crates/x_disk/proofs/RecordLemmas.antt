-- The record of a disk in memory grows by one entry.
use Rattle.std.proofs.Common.{◌≡◌, ℕ, zero, suc, ◌+◌, ◌-◌, ◌≤◌, max, List, [], ◌∷◌, ◌++◌, length, get_or, take, drop, refl, sym, subst, ◌∙◌, ap, arith, length-append, length-drop}
use Rattle.std.proofs.lemmas.List.{take_all, drop_all, take-append-le, drop-append-le, nil_from_length, length-take-le}
use Rattle.x_disk.specs.Disk.{overwrite}
use Rattle.x_disk.specs.History.{Step, Write, Sync, PowerOff, State, state_of, after_step, all_bytes, left_by}
use Rattle.x_disk.specs.HistoryLaw.{replay-push, length-overwrite}
use Rattle.x_disk.specs.Record.{steps_of, lengths, ranges_of, written, IsMadeUpTo, Represents, IsApplied}
use Rattle.x_disk.specs.declared.disk_record.Entry.{Entry}
use Rattle.x_disk.specs.declared.disk_record.Entry.TheVariants as E

abbrev blank : State
blank = record { now = []; stable = []; pending = [] }

pub steps-push : (entries : List Entry) (payload : List ℕ) (at : ℕ) (bytes : List ℕ) → lengths entries ≡ length payload
    → steps_of (entries ++ E.Write at (length bytes) ∷ []) (payload ++ bytes) ≡ steps_of entries payload ++ Write at bytes ∷ []
steps-push [] payload at bytes size =
    let none : payload ≡ [] = nil_from_length payload (sym size) in
    ap (λ (l : List ℕ). Write at (take (length bytes) (l ++ bytes)) ∷ []) none ∙ ap (λ (l : List ℕ). Write at l ∷ []) (take_all (length bytes) bytes (omega arith))
steps-push (E.Write a len ∷ entries) payload at bytes size =
    let le : len ≤ length payload = omega (arith, size) in
    let rest : steps_of (entries ++ E.Write at (length bytes) ∷ []) (drop len payload ++ bytes) ≡ steps_of entries (drop len payload) ++ Write at bytes ∷ [] =
    steps-push entries (drop len payload) at bytes (omega (arith, size, length-drop len payload)) in
    ap (λ (l : List ℕ). Write a l ∷ steps_of (entries ++ E.Write at (length bytes) ∷ []) (drop len (payload ++ bytes))) (take-append-le len payload bytes le)
    ∙ ap (λ (l : List ℕ). Write a (take len payload) ∷ steps_of (entries ++ E.Write at (length bytes) ∷ []) l) (drop-append-le len payload bytes le)
    ∙ ap (λ (l : List Step). Write a (take len payload) ∷ l) rest
steps-push (E.Sync ∷ entries) payload at bytes size = ap (λ (l : List Step). Sync ∷ l) (steps-push entries payload at bytes size)
steps-push (E.PowerOff choice ∷ entries) payload at bytes size = ap (λ (l : List Step). PowerOff choice ∷ l) (steps-push entries payload at bytes size)

pub steps-sync : (entries : List Entry) (payload : List ℕ) → steps_of (entries ++ E.Sync ∷ []) payload ≡ steps_of entries payload ++ Sync ∷ []
steps-sync [] payload = refl
steps-sync (E.Write a len ∷ entries) payload = ap (λ (l : List Step). Write a (take len payload) ∷ l) (steps-sync entries (drop len payload))
steps-sync (E.Sync ∷ entries) payload = ap (λ (l : List Step). Sync ∷ l) (steps-sync entries payload)
steps-sync (E.PowerOff choice ∷ entries) payload = ap (λ (l : List Step). PowerOff choice ∷ l) (steps-sync entries payload)

pub lengths-append : (xs ys : List Entry) → lengths (xs ++ ys) ≡ lengths xs + lengths ys
lengths-append [] ys = omega arith
lengths-append (E.Write a len ∷ xs) ys = omega (arith, lengths-append xs ys)
lengths-append (E.Sync ∷ xs) ys = lengths-append xs ys
lengths-append (E.PowerOff choice ∷ xs) ys = lengths-append xs ys

ranges-append : (xs ys : List Entry) → ranges_of (xs ++ ys) ≡ ranges_of xs ++ ranges_of ys
ranges-append [] ys = refl
ranges-append (E.Write a len ∷ xs) ys = ap (λ (l : List (ℕ × ℕ)). (a, len) ∷ l) (ranges-append xs ys)
ranges-append (E.Sync ∷ xs) ys = ranges-append xs ys
ranges-append (E.PowerOff choice ∷ xs) ys = ranges-append xs ys

pub length-steps : (entries : List Entry) (payload : List ℕ) → length (steps_of entries payload) ≡ length entries
length-steps [] payload = refl
length-steps (E.Write a len ∷ entries) payload = ap suc (length-steps entries (drop len payload))
length-steps (E.Sync ∷ entries) payload = ap suc (length-steps entries payload)
length-steps (E.PowerOff choice ∷ entries) payload = ap suc (length-steps entries payload)

pub lengths-take : (n : ℕ) (xs : List Entry) → lengths (take n xs) ≤ lengths xs
lengths-take zero xs = omega arith
lengths-take (suc n) [] = omega arith
lengths-take (suc n) (E.Write a len ∷ xs) = omega (arith, lengths-take n xs)
lengths-take (suc n) (E.Sync ∷ xs) = lengths-take n xs
lengths-take (suc n) (E.PowerOff choice ∷ xs) = lengths-take n xs

-- bytes behind those of the entries don't count
written-more : (entries : List Entry) (payload more image : List ℕ) → lengths entries ≤ length payload → written entries (payload ++ more) image ≡ written entries payload image
written-more [] payload more image le = refl
written-more (E.Write a len ∷ entries) payload more image le =
    let within : len ≤ length payload = omega (arith, le) in
    ap (λ (l : List ℕ). written entries l (overwrite a (take len (payload ++ more)) image)) (drop-append-le len payload more within)
    ∙ ap (λ (l : List ℕ). written entries (drop len payload ++ more) (overwrite a l image)) (take-append-le len payload more within)
    ∙ written-more entries (drop len payload) more (overwrite a (take len payload) image) (omega (arith, le, length-drop len payload))
written-more (E.Sync ∷ entries) payload more image le = written-more entries payload more image le
written-more (E.PowerOff choice ∷ entries) payload more image le = written-more entries payload more image le

written-push : (entries : List Entry) (payload : List ℕ) (at : ℕ) (new image : List ℕ) → lengths entries ≡ length payload
    → written (entries ++ E.Write at (length new) ∷ []) (payload ++ new) image ≡ overwrite at new (written entries payload image)
written-push [] payload at new image size =
    let none : payload ≡ [] = nil_from_length payload (sym size) in
    ap (λ (l : List ℕ). overwrite at (take (length new) (l ++ new)) image) none ∙ ap (λ (l : List ℕ). overwrite at l image) (take_all (length new) new (omega arith))
written-push (E.Write a len ∷ entries) payload at new image size =
    let within : len ≤ length payload = omega (arith, size) in
    ap (λ (l : List ℕ). written (entries ++ E.Write at (length new) ∷ []) l (overwrite a (take len (payload ++ new)) image)) (drop-append-le len payload new within)
    ∙ ap (λ (l : List ℕ). written (entries ++ E.Write at (length new) ∷ []) (drop len payload ++ new) (overwrite a l image)) (take-append-le len payload new within)
    ∙ written-push entries (drop len payload) at new (overwrite a (take len payload) image) (omega (arith, size, length-drop len payload))
written-push (E.Sync ∷ entries) payload at new image size = written-push entries payload at new image size
written-push (E.PowerOff choice ∷ entries) payload at new image size = written-push entries payload at new image size

written-sync : (entries : List Entry) (payload image : List ℕ) → written (entries ++ E.Sync ∷ []) payload image ≡ written entries payload image
written-sync [] payload image = refl
written-sync (E.Write a len ∷ entries) payload image = written-sync entries (drop len payload) (overwrite a (take len payload) image)
written-sync (E.Sync ∷ entries) payload image = written-sync entries payload image
written-sync (E.PowerOff choice ∷ entries) payload image = written-sync entries payload image

-- an image that is made up is so behind one write more
made_write : (image : List ℕ) (entries : List Entry) (payload : List ℕ) (n m at : ℕ) (new : List ℕ) → lengths entries ≡ length payload → IsMadeUpTo image entries payload n m
    → IsMadeUpTo image (entries ++ E.Write at (length new) ∷ []) (payload ++ new) n m
made_write image entries payload n m at new size kept =
    let state : state_of (steps_of (entries ++ E.Write at (length new) ∷ []) (payload ++ new)) ≡ after_step (Write at new) (state_of (steps_of entries payload)) =
    ap state_of (steps-push entries payload at new size) ∙ replay-push (steps_of entries payload) (Write at new) blank in
    let rest = drop n entries in
    let left = drop m payload in
    let rest_is : drop n (entries ++ E.Write at (length new) ∷ []) ≡ rest ++ E.Write at (length new) ∷ [] = drop-append-le n entries (E.Write at (length new) ∷ []) kept.entries_in in
    let left_is : drop m (payload ++ new) ≡ left ++ new = drop-append-le m payload new kept.bytes_in in
    record {
      entries_in = omega (arith, kept.entries_in, length-append entries (E.Write at (length new) ∷ []));
      bytes_in = omega (arith, kept.bytes_in, length-append payload new);
      rest = ap lengths rest_is ∙ lengths-append rest (E.Write at (length new) ∷ []) ∙ omega (arith, kept.rest, length-append left new) ∙ ap (λ (l : List ℕ). length l) (sym left_is);
      now_made =
          ap (λ (l : List Entry). written l (drop m (payload ++ new)) image) rest_is ∙ ap (λ (l : List ℕ). written (rest ++ E.Write at (length new) ∷ []) l image) left_is
          ∙ written-push rest left at new image kept.rest ∙ ap (λ (l : List ℕ). overwrite at new l) kept.now_made ∙ ap (λ (s : State). s.now) (sym state);
    }

-- and behind a sync
made_sync : (image : List ℕ) (entries : List Entry) (payload : List ℕ) (n m : ℕ) → IsMadeUpTo image entries payload n m → IsMadeUpTo image (entries ++ E.Sync ∷ []) payload n m
made_sync image entries payload n m kept =
    let state : state_of (steps_of (entries ++ E.Sync ∷ []) payload) ≡ after_step Sync (state_of (steps_of entries payload)) =
    ap state_of (steps-sync entries payload) ∙ replay-push (steps_of entries payload) Sync blank in
    let rest = drop n entries in
    let rest_is : drop n (entries ++ E.Sync ∷ []) ≡ rest ++ E.Sync ∷ [] = drop-append-le n entries (E.Sync ∷ []) kept.entries_in in
    record {
      entries_in = omega (arith, kept.entries_in, length-append entries (E.Sync ∷ []));
      bytes_in = kept.bytes_in;
      rest = ap lengths rest_is ∙ lengths-append rest (E.Sync ∷ []) ∙ omega (arith, kept.rest);
      now_made = ap (λ (l : List Entry). written l (drop m payload) image) rest_is ∙ written-sync rest (drop m payload) image ∙ kept.now_made ∙ ap (λ (s : State). s.now) (sym state);
    }

-- an image with everything in it
pub made_all : (image : List ℕ) (entries : List Entry) (payload : List ℕ) → image ≡ (state_of (steps_of entries payload)).now → IsMadeUpTo image entries payload (length entries) (length payload)
made_all image entries payload is =
    let none : drop (length entries) entries ≡ [] = drop_all (length entries) entries (omega arith) in
    let over : drop (length payload) payload ≡ [] = drop_all (length payload) payload (omega arith) in
    record {
      entries_in = omega arith;
      bytes_in = omega arith;
      rest = ap lengths none ∙ ap (λ (l : List ℕ). length l) (sym over);
      now_made = ap (λ (l : List Entry). written l (drop (length payload) payload) image) none ∙ is;
    }

pub represents_write : (entries : List Entry) (payload : List ℕ) (first : ℕ) (base : List ℕ) (n m at : ℕ) (new : List ℕ) → Represents entries payload first base n m
    → Represents (entries ++ E.Write at (length new) ∷ []) (payload ++ new) first base n m
represents_write entries payload first base n m at new kept =
    let state : state_of (steps_of (entries ++ E.Write at (length new) ∷ []) (payload ++ new)) ≡ after_step (Write at new) (state_of (steps_of entries payload)) =
    ap state_of (steps-push entries payload at new kept.size) ∙ replay-push (steps_of entries payload) (Write at new) blank in
    let rest = drop n entries in
    let left = drop m payload in
    let rest_is : drop n (entries ++ E.Write at (length new) ∷ []) ≡ rest ++ E.Write at (length new) ∷ [] = drop-append-le n entries (E.Write at (length new) ∷ []) kept.made.entries_in in
    let left_is : drop m (payload ++ new) ≡ left ++ new = drop-append-le m payload new kept.made.bytes_in in
    let part : take (first - n) (drop n (entries ++ E.Write at (length new) ∷ [])) ≡ take (first - n) rest =
    ap (λ (l : List Entry). take (first - n) l) rest_is ∙ take-append-le (first - n) rest (E.Write at (length new) ∷ []) (omega (arith, kept.within, kept.base_in, length-drop n entries)) in
    record {
      size = lengths-append entries (E.Write at (length new) ∷ []) ∙ omega (arith, kept.size, length-append payload new);
      within = omega (arith, kept.within, length-append entries (E.Write at (length new) ∷ []));
      pending_is =
          ap ranges_of (drop-append-le first entries (E.Write at (length new) ∷ []) kept.within) ∙ ranges-append (drop first entries) (E.Write at (length new) ∷ [])
          ∙ ap (λ (l : List (ℕ × ℕ)). l ++ (at, length new) ∷ []) kept.pending_is ∙ ap (λ (s : State). s.pending) (sym state);
      base_in = kept.base_in;
      made = made_write base entries payload n m at new kept.size kept.made;
      stable_made =
          ap (λ (l : List Entry). written l (drop m (payload ++ new)) base) part ∙ ap (λ (l : List ℕ). written (take (first - n) rest) l base) left_is
          ∙ written-more (take (first - n) rest) left new base (omega (arith, lengths-take (first - n) rest, kept.made.rest)) ∙ kept.stable_made ∙ ap (λ (s : State). s.stable) (sym state);
    }

pub represents_sync : (entries : List Entry) (payload : List ℕ) (first : ℕ) (base : List ℕ) (n m : ℕ) → Represents entries payload first base n m
    → Represents (entries ++ E.Sync ∷ []) payload (length (entries ++ E.Sync ∷ [])) base n m
represents_sync entries payload first base n m kept =
    let state : state_of (steps_of (entries ++ E.Sync ∷ []) payload) ≡ after_step Sync (state_of (steps_of entries payload)) =
    ap state_of (steps-sync entries payload) ∙ replay-push (steps_of entries payload) Sync blank in
    let all : take (length (entries ++ E.Sync ∷ []) - n) (drop n (entries ++ E.Sync ∷ [])) ≡ drop n (entries ++ E.Sync ∷ []) =
    take_all (length (entries ++ E.Sync ∷ []) - n) (drop n (entries ++ E.Sync ∷ [])) (omega (arith, length-drop n (entries ++ E.Sync ∷ []))) in
    let made = made_sync base entries payload n m kept.made in
    record {
      size = lengths-append entries (E.Sync ∷ []) ∙ omega (arith, kept.size);
      within = omega arith;
      pending_is = ap ranges_of (drop_all (length (entries ++ E.Sync ∷ [])) (entries ++ E.Sync ∷ []) (omega arith)) ∙ ap (λ (s : State). s.pending) (sym state);
      base_in = made.entries_in;
      made = made;
      stable_made = ap (λ (l : List Entry). written l (drop m payload) base) all ∙ made.now_made ∙ ap (λ (s : State). s.now) state ∙ ap (λ (s : State). s.stable) (sym state);
    }

pub bytes-steps : (entries : List Entry) (payload : List ℕ) → lengths entries ≡ length payload → all_bytes (steps_of entries payload) ≡ length payload
bytes-steps [] payload size = size
bytes-steps (E.Write a len ∷ entries) payload size =
    omega (arith, size, length-take-le len payload (omega (arith, size)), bytes-steps entries (drop len payload) (omega (arith, size, length-drop len payload)), length-drop len payload)
bytes-steps (E.Sync ∷ entries) payload size = omega (arith, bytes-steps entries payload size)
bytes-steps (E.PowerOff choice ∷ entries) payload size = omega (arith, bytes-steps entries payload size)

pub steps-power_off : (entries : List Entry) (payload : List ℕ) (choice : ℕ) → steps_of (entries ++ E.PowerOff choice ∷ []) payload ≡ steps_of entries payload ++ PowerOff choice ∷ []
steps-power_off [] payload choice = refl
steps-power_off (E.Write a len ∷ entries) payload choice = ap (λ (l : List Step). Write a (take len payload) ∷ l) (steps-power_off entries (drop len payload) choice)
steps-power_off (E.Sync ∷ entries) payload choice = ap (λ (l : List Step). Sync ∷ l) (steps-power_off entries payload choice)
steps-power_off (E.PowerOff a ∷ entries) payload choice = ap (λ (l : List Step). PowerOff a ∷ l) (steps-power_off entries payload choice)

-- what the power leaves of what a read gives
pub left_by_state : (now stable : List ℕ) (entries : List Entry) (payload : List ℕ) (first : ℕ) (base : List ℕ) (n m choice : ℕ) (image : List ℕ) → Represents entries payload first base n m
    → now ≡ (state_of (steps_of entries payload)).now → stable ≡ (state_of (steps_of entries payload)).stable → image ≡ left_by choice (record { now = now; stable = stable; pending = ranges_of (drop first entries) })
    → image ≡ left_by choice (state_of (steps_of entries payload))
left_by_state now stable entries payload first base n m choice image kept now_is stable_is is =
    let before : State = record { now = now; stable = stable; pending = ranges_of (drop first entries) } in
    let same : before ≡ state_of (steps_of entries payload) = λ i. record { now = now_is i; stable = stable_is i; pending = kept.pending_is i } in
    is ∙ ap (λ (t : State). left_by choice t) same

pub represents_power_off : (entries : List Entry) (payload : List ℕ) (choice : ℕ) (image : List ℕ) → lengths entries ≡ length payload → image ≡ left_by choice (state_of (steps_of entries payload))
    → Represents (entries ++ E.PowerOff choice ∷ []) payload (length (entries ++ E.PowerOff choice ∷ [])) image (length (entries ++ E.PowerOff choice ∷ [])) (length payload)
represents_power_off entries payload choice image size left =
    let s = state_of (steps_of entries payload) in
    let state : state_of (steps_of (entries ++ E.PowerOff choice ∷ []) payload) ≡ after_step (PowerOff choice) s =
    ap state_of (steps-power_off entries payload choice) ∙ replay-push (steps_of entries payload) (PowerOff choice) blank in
    let all = entries ++ E.PowerOff choice ∷ [] in
    let none : drop (length all) all ≡ [] = drop_all (length all) all (omega arith) in
    let taken : take (length all - length all) (drop (length all) all) ≡ [] = ap (λ (l : List Entry). take (length all - length all) l) none ∙ take_all (length all - length all) [] (omega arith) in
    record {
      size = lengths-append entries (E.PowerOff choice ∷ []) ∙ omega (arith, size);
      within = omega arith;
      pending_is = ap ranges_of none ∙ ap (λ (t : State). t.pending) (sym state);
      base_in = omega arith;
      made = made_all image all payload (left ∙ ap (λ (t : State). t.now) (sym state));
      stable_made = ap (λ (l : List Entry). written l (drop (length payload) payload) image) taken ∙ left ∙ ap (λ (t : State). t.stable) (sym state);
    }

-- what is made of an image isn't shorter
pub written-longer : (entries : List Entry) (payload image : List ℕ) → length image ≤ length (written entries payload image)
written-longer [] payload image = omega arith
written-longer (E.Write a len ∷ entries) payload image = omega (arith, written-longer entries (drop len payload) (overwrite a (take len payload) image), length-overwrite a (take len payload) image)
written-longer (E.Sync ∷ entries) payload image = written-longer entries payload image
written-longer (E.PowerOff choice ∷ entries) payload image = written-longer entries payload image

-- nor than the image over which the first entry wrote
pub first_longer : (entries : List Entry) (payload image : List ℕ) (at len : ℕ) → 1 ≤ length entries → get_or entries 0 (E.Write 0 0) ≡ E.Write at len
    → length (overwrite at (take len payload) image) ≤ length (written entries payload image)
first_longer [] payload image at len some first = absurd (omega (arith, some))
first_longer (entry ∷ entries) payload image at len some first =
    subst (λ (e : Entry). length (overwrite at (take len payload) image) ≤ length (written (e ∷ entries) payload image)) (sym first) (written-longer entries (drop len payload) (overwrite at (take len payload) image))

pub applied_write : (image : List ℕ) (entries : List Entry) (payload : List ℕ) (n m end at : ℕ) (new : List ℕ) → lengths entries ≡ length payload → IsApplied image entries payload n m end
    → IsApplied image (entries ++ E.Write at (length new) ∷ []) (payload ++ new) n m (max end (at + length new))
applied_write image entries payload n m end at new size kept =
    let state : state_of (steps_of (entries ++ E.Write at (length new) ∷ []) (payload ++ new)) ≡ after_step (Write at new) (state_of (steps_of entries payload)) =
    ap state_of (steps-push entries payload at new size) ∙ replay-push (steps_of entries payload) (Write at new) blank in
    let now : overwrite at new (state_of (steps_of entries payload)).now ≡ (state_of (steps_of (entries ++ E.Write at (length new) ∷ []) (payload ++ new))).now = ap (λ (s : State). s.now) (sym state) in
    record {
      made = made_write image entries payload n m at new size kept.made;
      end_is = omega (arith, kept.end_is, length-overwrite at new (state_of (steps_of entries payload)).now) ∙ ap (λ (l : List ℕ). length l) now;
    }

-- an image isn't longer than what a read gives
pub applied_short : (image : List ℕ) (entries : List Entry) (payload : List ℕ) (n m end : ℕ) → IsApplied image entries payload n m end → length image ≤ end
applied_short image entries payload n m end kept =
    let made = ap (λ (l : List ℕ). length l) kept.made.now_made in
    omega (arith, written-longer (drop n entries) (drop m payload) image, made, kept.end_is)

pub applied_sync : (image : List ℕ) (entries : List Entry) (payload : List ℕ) (n m end : ℕ) → IsApplied image entries payload n m end → IsApplied image (entries ++ E.Sync ∷ []) payload n m end
applied_sync image entries payload n m end kept =
    let state : state_of (steps_of (entries ++ E.Sync ∷ []) payload) ≡ after_step Sync (state_of (steps_of entries payload)) =
    ap state_of (steps-sync entries payload) ∙ replay-push (steps_of entries payload) Sync blank in
    record { made = made_sync image entries payload n m kept.made; end_is = kept.end_is ∙ ap (λ (s : State). length s.now) (sym state) }

-- an image with everything in it
pub applied_all : (image : List ℕ) (entries : List Entry) (payload : List ℕ) → image ≡ (state_of (steps_of entries payload)).now → IsApplied image entries payload (length entries) (length payload) (length image)
applied_all image entries payload is = record { made = made_all image entries payload is; end_is = ap (λ (l : List ℕ). length l) is }

pub now_power_off : (entries : List Entry) (payload : List ℕ) (choice : ℕ) (image : List ℕ) → image ≡ left_by choice (state_of (steps_of entries payload))
    → image ≡ (state_of (steps_of (entries ++ E.PowerOff choice ∷ []) payload)).now
now_power_off entries payload choice image left =
    let state : state_of (steps_of (entries ++ E.PowerOff choice ∷ []) payload) ≡ after_step (PowerOff choice) (state_of (steps_of entries payload)) =
    ap state_of (steps-power_off entries payload choice) ∙ replay-push (steps_of entries payload) (PowerOff choice) blank in
    left ∙ ap (λ (t : State). t.now) (sym state)
