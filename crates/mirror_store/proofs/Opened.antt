-- A pair of disks is opened: what the answer is, and what a crash leaves.
use Rattle.std.proofs.Common.{◌≡◌, ◌≢◌, ◌⊎◌, inl, inr, ℕ, ◌≤◌, List, true, false, Some, is_some, Result, Ok, Err, refl, sym, ◌∙◌, ap, subst, arith}
use Rattle.x_base.specs.Edge.{Rose}
use Rattle.x_disk.specs.Disk.{View, Tells, LeavesOnly, IsSound, IsUntouched}
use Rattle.x_disk.proofs.Runs.{weaker}
use Rattle.key_journal.specs.Journal.{is_blank}
use Rattle.key_journal.specs.Opening.{IsFree}
use Rattle.key_journal.specs.declared.cause.Cause.{Cause}
use Rattle.key_journal.specs.declared.cause.Cause.TheVariants as cause
use Rattle.key_journal.specs.declared.cause.Unmade.{Unmade}
use Rattle.party_state.specs.State.{Party}
use Rattle.change_code.specs.Cost.{space_of_whole}
use Rattle.change_code.specs.Whole.{IsTooLarge}
use Rattle.change_code.specs.declared.format.Format.TheVariants.{Two}
use Rattle.key_store.specs.Store.{Stored, Stands, StandsWith, StandsAnew, IsStore, IsRefusal, space}
use Rattle.key_store.specs.Loaded.{IsLoaded}
use Rattle.mirror_store.specs.Pairs.{PairStands, IsBlankOrLike, Recovers, Twin}
use Rattle.mirror_store.specs.Recovering.{IsPairFailure}
use Rattle.mirror_store.specs.Opening.{IsPairRefusal, IsPairOpened, LeavesParty, AreRead, HasSecondSpace}
use Rattle.mirror_store.specs.Beside.{IsBesideRefusal, IsBeside, IsBlankRefusal, IsOverBlank}
use Rattle.mirror_store.specs.Framing.{IsCopying, IsBlankOrBefore, IsUnsettled, IsSettled}
use Rattle.disk_pair.specs.declared.disks.Disks.{Disks}
use Rattle.mirror_store.specs.declared.pair.PairCause.{PairCause}
use Rattle.mirror_store.specs.declared.pair.PairCause.TheVariants.{First, Second, OtherParty, TooLarge}
use Rattle.mirror_store.specs.declared.pair.PairUnmade.{PairUnmade}
use Rattle.mirror_store.specs.declared.uncopied.Uncopied.TheVariants as uncopied
use Rattle.x_disk.proofs.Alike.{tells_by, untouched_self, untouched_then}
use Rattle.mirror_store.proofs.Moments.{rests, stands_for, store_left, stands_with, only_read, read_then}

pub rose_later : (a b c : ℕ) → a ≤ b → Rose b c → Rose a c
rose_later a b c le (inl less) = inl (omega (arith, le, less))
rose_later a b c le (inr most) = inr most

pub second_same : (a b : Cause) → Second a ≡ Second b → a ≡ b
second_same a b is = cc is

pub first_same : (a b : Cause) → First a ≡ First b → a ≡ b
first_same a b is = cc is

pub never_first : (a b : Cause) → Second a ≡ First b → ⊥
never_first a b is = cc is

pub never_second : (a b : Cause) → First a ≡ Second b → ⊥
never_second a b is = cc is

never_both : true ≡ false → ⊥
never_both is = cc is

-- what a crash leaves where the second disk is made to stand for the first one's party
abbrev IsSwitched : {D : Type 0} → Stored D → Stored D → List ℕ → Type 0
IsSwitched one two c = ((two.party ≢ one.party) × StandsAnew c one.party) ⊎ StandsWith c two.party (space two)

-- what a refusal of the second disk says beside the first
free_second : (one : Party) (j : List ℕ) (reason : Cause) → IsFree reason → IsBesideRefusal one j (Second reason)
free_second one j cause.Blank free = absurd free
free_second one j cause.NotEmpty free = absurd free
free_second one j (cause.Damaged place) free = absurd free
free_second one j cause.Fault free = tt
free_second one j cause.NoMemory free = tt

refused_second : (one : Party) (j : List ℕ) (reason : Cause) → (reason ≡ cause.Blank → ⊥) → IsRefusal j reason → IsBesideRefusal one j (Second reason)
refused_second one j cause.Blank other is = absurd (other refl)
refused_second one j cause.NotEmpty other is = absurd is
refused_second one j (cause.Damaged place) other is = is
refused_second one j cause.Fault other is = tt
refused_second one j cause.NoMemory other is = tt

refused_blank : (j : List ℕ) (reason : Cause) → (reason ≡ cause.Blank → ⊥) → IsRefusal j reason → IsBlankRefusal j (Second reason)
refused_blank j cause.Blank other is = absurd (other refl)
refused_blank j cause.NotEmpty other is = absurd is
refused_blank j (cause.Damaged place) other is = is
refused_blank j cause.Fault other is = tt
refused_blank j cause.NoMemory other is = tt

free_first : (j : List ℕ) (reason : Cause) → IsFree reason → IsBlankRefusal j (First reason)
free_first j cause.Blank free = absurd free
free_first j cause.NotEmpty free = absurd free
free_first j (cause.Damaged place) free = absurd free
free_first j cause.Fault free = tt
free_first j cause.NoMemory free = tt

refused_first : (i j : List ℕ) (reason : Cause) → (reason ≡ cause.Blank → ⊥) → IsRefusal i reason → IsPairRefusal i j (First reason)
refused_first i j cause.Blank other is = absurd (other refl)
refused_first i j cause.NotEmpty other is = absurd is
refused_first i j (cause.Damaged place) other is = is
refused_first i j cause.Fault other is = tt
refused_first i j cause.NoMemory other is = tt

-- a refusal beside the first disk, of the pair
pair_beside : (i j : List ℕ) (one : Party) (reason : PairCause) → Stands i one → IsBesideRefusal one j reason → IsPairRefusal i j reason
pair_beside i j one (First reason) stands is = absurd is
pair_beside i j one (Second cause.Blank) stands is = absurd is
pair_beside i j one (Second cause.NotEmpty) stands is = absurd is
pair_beside i j one (Second (cause.Damaged place)) stands is = (inr (one, stands), is)
pair_beside i j one (Second cause.Fault) stands is = tt
pair_beside i j one (Second cause.NoMemory) stands is = tt
pair_beside i j one (OtherParty a b) stands is = record { party = one; second_party = is.0; first_is = stands; second_is = is.1; one_is = is.2; other_is = is.3; apart = is.4 }
pair_beside i j one TooLarge stands is = record { party = one; recovers = inl (stands, is.1); apart = λ both. is.2 both.second_is; too_large = is.0 }

module _ (unique : (image : List ℕ) (p q : Party) → Stands image p → Stands image q → p ≡ q) (not_blank : (image : List ℕ) (p : Party) → Stands image p → is_blank image ≡ false) where
  blank_never : (i : List ℕ) (p : Party) → is_blank i ≡ true → Stands i p → ⊥
  blank_never i p blank stands = never_both (sym blank ∙ not_blank i p stands)

  -- a refusal over a blank first disk, of the pair
  pair_blank : (i j : List ℕ) (reason : PairCause) → is_blank i ≡ true → IsBlankRefusal j reason → IsPairRefusal i j reason
  pair_blank i j (First cause.Blank) blank is = (blank, is)
  pair_blank i j (First cause.NotEmpty) blank is = absurd is
  pair_blank i j (First (cause.Damaged place)) blank is = absurd is
  pair_blank i j (First cause.Fault) blank is = tt
  pair_blank i j (First cause.NoMemory) blank is = tt
  pair_blank i j (Second cause.Blank) blank is = absurd is
  pair_blank i j (Second cause.NotEmpty) blank is = absurd is
  pair_blank i j (Second (cause.Damaged place)) blank is = (inl blank, is)
  pair_blank i j (Second cause.Fault) blank is = tt
  pair_blank i j (Second cause.NoMemory) blank is = tt
  pair_blank i j (OtherParty a b) blank is = absurd is
  pair_blank i j TooLarge blank is = record { party = is.0; recovers = inr (blank, is.1); apart = λ both. blank_never i is.0 blank both.first_is; too_large = is.2 }

  unsettled : (one two : Party) (j : List ℕ) (reason : PairCause) → Stands j two → IsUnsettled one two reason → IsBesideRefusal one j reason
  unsettled one two j (First reason) stands is = absurd is
  unsettled one two j (Second reason) stands is = free_second one j reason is
  unsettled one two j (OtherParty a b) stands is = (two, stands, is.0, is.1, is.2)
  unsettled one two j TooLarge stands is = (is.2, inr (two, stands, is.0), λ other. is.1 (unique j two one stands other))

  module _ {D : Type 0} (told : D → View) where
    -- the second disk stands too
    settled_left : (one two new : Stored D) (old : D) → IsLoaded told old (Ok two) → ((two.party ≡ one.party) × (new ≡ two)) ⊎ ((two.party ≢ one.party) × (space new ≡ space_of_whole Two one.party))
        → (j : List ℕ) → (told old).now ≡ Some j → HasSecondSpace j one.party (space new)
    settled_left one two new old load (inl same) j now = inl (
        subst (λ (s : Stored D). StandsWith j one.party (space s)) (sym same.1)
        (subst (λ (p : Party). StandsWith j p (space two)) same.0 (stands_with (told two.disk) two.gate two.end two.format two.party load.stands j (load.now ∙ now)))
        )
    settled_left one two new old load (inr other) j now = inr (
      (λ stood. other.0 (unique j two.party one.party (stands_for j two.format two.party (load.stands.stands j (load.now ∙ now))) stood)),
      other.1,
    )

    settled_moments : (one two : Stored D) (old new : D) → IsLoaded told old (Ok two) → (Tells (told two.disk) → LeavesOnly (told two.disk) (told new) (IsSwitched one two))
        → (j : List ℕ) → (told old).now ≡ Some j → LeavesParty (told old) (told new) j one.party
    settled_moments one two old new load run j now =
        let same : (told two.disk).now ≡ Some j = load.now ∙ now in
        read_then (told old) (told two.disk) (told new) j one.party (IsSwitched one two) load.any_moment (run (tells_by (told two.disk).now j same))
        (λ c either. elim either [
          | inl is ↦ inl (inl ((λ stood. is.0 (unique j two.party one.party (stands_for j two.format two.party (load.stands.stands j same)) stood)), is.1))
          | inr is ↦ inl (inr (inr (two.party, space two, stands_with (told two.disk) two.gate two.end two.format two.party load.stands j same, is)))
        ])

    settled_quiet : (one two : Stored D) (old new : D) → IsLoaded told old (Ok two) → (two.party ≡ one.party → new ≡ two.disk)
        → (j : List ℕ) → (told old).now ≡ Some j → Stands j one.party → IsUntouched (told old) (told new)
    settled_quiet one two old new load quiet j now stands =
        let same : (told two.disk).now ≡ Some j = load.now ∙ now in
        subst (λ (d : D). IsUntouched (told old) (told d)) (sym (quiet (unique j two.party one.party (stands_for j two.format two.party (load.stands.stands j same)) stands)))
        (record { now = load.now; images = load.images; any_moment = load.any_moment })

    settled_stays : (one two : Stored D) (old new : D) → IsLoaded told old (Ok two) → ((two.party.own ≡ one.party.own → ⊥) → new ≡ two.disk)
        → (j : List ℕ) → (told old).now ≡ Some j → (IsBlankOrLike one.party j → ⊥) → IsUntouched (told old) (told new)
    settled_stays one two old new load apart j now unlike =
        subst (λ (d : D). IsUntouched (told old) (told d)) (sym (apart (λ own. unlike (inr (two.party, stands_for j two.format two.party (load.stands.stands j (load.now ∙ now)), own)))))
        (record { now = load.now; images = load.images; any_moment = load.any_moment })

    settled_too_large : (one two : Stored D) (old new : D) → IsLoaded told old (Ok two) → (IsTooLarge Two one.party → new ≡ two.disk) → IsTooLarge Two one.party → IsUntouched (told old) (told new)
    settled_too_large one two old new load still large =
        subst (λ (d : D). IsUntouched (told old) (told d)) (sym (still large)) (record { now = load.now; images = load.images; any_moment = load.any_moment })

    pub beside_settled : (one two : Stored D) (old : D) (result : Result (Twin D) (PairUnmade D)) → IsLoaded told old (Ok two) → IsSettled told one two result → IsBeside told one old result
    beside_settled one two old (Ok m) load s = record {
      stand = s.stand;
      party = s.party;
      same = s.same;
      small = λ j now apart. s.small (λ is. apart (subst (Stands j) is (stands_for j two.format two.party (load.stands.stands j (load.now ∙ now)))));
      exact = λ j now. inr (two.party, stands_for j two.format two.party (load.stands.stands j (load.now ∙ now)), s.own);
      second_left = settled_left one two m.second old load s.second_left;
      refused = tt;
      first = s.first;
      moments = settled_moments one two old m.second.disk load s.moments;
      quiet = settled_quiet one two old m.second.disk load s.quiet;
      stays = settled_stays one two old m.second.disk load s.apart;
      too_large = settled_too_large one two old m.second.disk load s.too_large;
      fault = tt;
      names = tt;
      faults = omega (arith, load.faults, s.faults);
      tells = s.tells ∙ ap is_some load.now;
    }
    beside_settled one two old (Err u) load s = record {
      stand = tt;
      party = tt;
      same = tt;
      small = tt;
      exact = tt;
      second_left = tt;
      refused = λ j now. unsettled one.party two.party j u.cause (stands_for j two.format two.party (load.stands.stands j (load.now ∙ now))) (s.refused j (load.now ∙ now));
      first = s.first;
      moments = settled_moments one two old u.disks.second load s.moments;
      quiet = settled_quiet one two old u.disks.second load s.quiet;
      stays = settled_stays one two old u.disks.second load s.apart;
      too_large = settled_too_large one two old u.disks.second load s.too_large;
      fault = λ is. rose_later (told old).faults (told two.disk).faults (told u.disks.second).faults load.faults (s.fault is);
      names = s.names;
      faults = omega (arith, load.faults, s.faults);
      tells = s.tells ∙ ap is_some load.now;
    }

    -- the second disk is blank
    module _ (one : Stored D) (old disk : D) (load : IsLoaded told old (Err (record { disk = disk; cause = cause.Blank }))) where
      blank_moments : (new : D) → (Tells (told disk) → LeavesOnly (told disk) (told new) (λ c. StandsAnew c one.party ⊎ IsBlankOrBefore (told disk) c))
          → (j : List ℕ) → (told old).now ≡ Some j → LeavesParty (told old) (told new) j one.party
      blank_moments new run j now =
          read_then (told old) (told disk) (told new) j one.party (λ c. StandsAnew c one.party ⊎ IsBlankOrBefore (told disk) c) load.any_moment (run (tells_by (told disk).now j (load.now ∙ now)))
          (λ c either. elim either [
            | inl is ↦ inl (inl (blank_never j one.party (load.refused j now), is))
            | inr (inl blank) ↦ inl (inr (inl (load.refused j now, blank)))
            | inr (inr left) ↦ inr (load.images c left)
          ])

      blank_quiet : (new : D) (j : List ℕ) → (told old).now ≡ Some j → Stands j one.party → IsUntouched (told old) (told new)
      blank_quiet new j now stands = absurd (blank_never j one.party (load.refused j now) stands)

      blank_stays : (new : D) (j : List ℕ) → (told old).now ≡ Some j → (IsBlankOrLike one.party j → ⊥) → IsUntouched (told old) (told new)
      blank_stays new j now unlike = absurd (unlike (inl (load.refused j now)))

      blank_too_large : (new : D) → (IsTooLarge Two one.party → new ≡ disk) → IsTooLarge Two one.party → IsUntouched (told old) (told new)
      blank_too_large new still large =
          subst (λ (d : D). IsUntouched (told old) (told d)) (sym (still large)) (record { now = load.now; images = load.images; any_moment = load.any_moment })

      pub beside_copied : (s : Stored D) → IsStore (told one.disk) one.gate one.end one.format one.party → IsCopying told disk (IsBlankOrBefore (told disk)) one.party (Ok s)
          → IsBeside told one old (Ok (record { first = one; second = s }))
      beside_copied s store copying = record {
        stand = record { first_stands = store; second_stands = copying.stands; same = copying.party };
        party = refl;
        same = refl;
        small = λ j now apart. copying.small;
        exact = λ j now. inl (load.refused j now);
        second_left = λ j now. inr (blank_never j one.party (load.refused j now), copying.left);
        refused = tt;
        first = refl;
        moments = blank_moments s.disk copying.moments;
        quiet = blank_quiet s.disk;
        stays = blank_stays s.disk;
        too_large = blank_too_large s.disk copying.stays;
        fault = tt;
        names = tt;
        faults = omega (arith, load.faults, copying.faults);
        tells = copying.tells ∙ ap is_some load.now;
      }

      pub beside_too_large : (new : D) → IsCopying told disk (IsBlankOrBefore (told disk)) one.party (Err (uncopied.TooLarge new))
          → IsBeside told one old (Err (record { disks = record { first = one.disk; second = new }; cause = TooLarge }))
      beside_too_large new copying = record {
        stand = tt;
        party = tt;
        same = tt;
        small = tt;
        exact = tt;
        second_left = tt;
        refused = λ j now. (copying.refused, inl (load.refused j now), λ stands. blank_never j one.party (load.refused j now) stands);
        first = refl;
        moments = blank_moments new copying.moments;
        quiet = blank_quiet new;
        stays = blank_stays new;
        too_large = blank_too_large new copying.stays;
        fault = λ is. absurd (cc is);
        names = λ is. cc is;
        faults = omega (arith, load.faults, copying.faults);
        tells = copying.tells ∙ ap is_some load.now;
      }

      pub beside_failed : (u : Unmade D) → IsCopying told disk (IsBlankOrBefore (told disk)) one.party (Err (uncopied.Failed u))
          → IsBeside told one old (Err (record { disks = record { first = one.disk; second = u.disk }; cause = Second u.cause }))
      beside_failed u copying = record {
        stand = tt;
        party = tt;
        same = tt;
        small = tt;
        exact = tt;
        second_left = tt;
        refused = λ j now. free_second one.party j u.cause (copying.refused.0 j (load.now ∙ now));
        first = refl;
        moments = blank_moments u.disk copying.moments;
        quiet = blank_quiet u.disk;
        stays = blank_stays u.disk;
        too_large = blank_too_large u.disk copying.stays;
        fault = λ is. rose_later (told old).faults (told disk).faults (told u.disk).faults load.faults (copying.refused.1 (second_same u.cause cause.Fault is));
        names = never_first u.cause cause.Fault;
        faults = omega (arith, load.faults, copying.faults);
        tells = copying.tells ∙ ap is_some load.now;
      }

    -- the second disk is neither
    pub beside_refused : (one : Stored D) (old : D) (u : Unmade D) → IsLoaded told old (Err u) → (u.cause ≡ cause.Blank → ⊥)
        → IsBeside told one old (Err (record { disks = record { first = one.disk; second = u.disk }; cause = Second u.cause }))
    beside_refused one old u load other = record {
      stand = tt;
      party = tt;
      same = tt;
      small = tt;
      exact = tt;
      second_left = tt;
      refused = λ j now. refused_second one.party j u.cause other (load.refused j now);
      first = refl;
      moments = λ j now. only_read (told old) (told u.disk) j one.party load.any_moment;
      quiet = λ j now stands. record { now = load.now; images = load.images; any_moment = load.any_moment };
      stays = λ j now unlike. record { now = load.now; images = load.images; any_moment = load.any_moment };
      too_large = λ large. record { now = load.now; images = load.images; any_moment = load.any_moment };
      fault = λ is. load.fault (second_same u.cause cause.Fault is);
      names = never_first u.cause cause.Fault;
      faults = load.faults;
      tells = ap is_some load.now;
    }

    -- the first disk is blank, and the second stands
    module _ (old : Disks D) (two : Stored D) (load : IsLoaded told old.second (Ok two)) (blank : (i : List ℕ) → (told old.first).now ≡ Some i → is_blank i ≡ true) where
      over_moments : (new : D) → (Tells (told old.first) → LeavesOnly (told old.first) (told new) (λ c. StandsAnew c two.party ⊎ IsBlankOrBefore (told old.first) c))
          → (i j : List ℕ) (party : Party) → (told old.first).now ≡ Some i → (told old.second).now ≡ Some j → Stands j party → LeavesParty (told old.first) (told new) i party
      over_moments new run i j party now_i now_j stands =
          let same : two.party ≡ party = unique j two.party party (stands_for j two.format two.party (load.stands.stands j (load.now ∙ now_j))) stands in
          weaker (told old.first) (told new) (λ c. StandsAnew c two.party ⊎ IsBlankOrBefore (told old.first) c) _ (run (tells_by (told old.first).now i now_i))
          (λ c either. elim either [
            | inl is ↦ inl (inl (blank_never i party (blank i now_i), subst (λ (p : Party). StandsAnew c p) same is))
            | inr (inl is_blank) ↦ inl (inr (inl (blank i now_i, is_blank)))
            | inr (inr left) ↦ inr left
          ])

      over_stays : (new : D) (j : List ℕ) → (told old.second).now ≡ Some j → ((party : Party) → Stands j party → ⊥) → IsUntouched (told old.first) (told new)
      over_stays new j now none = absurd (none two.party (stands_for j two.format two.party (load.stands.stands j (load.now ∙ now))))

      over_large : (new : D) → (IsTooLarge Two two.party → new ≡ old.first) → (j : List ℕ) (party : Party) → (told old.second).now ≡ Some j → Stands j party → IsTooLarge Two party → new ≡ old.first
      over_large new still j party now stands large =
          still (subst (IsTooLarge Two) (sym (unique j two.party party (stands_for j two.format two.party (load.stands.stands j (load.now ∙ now))) stands)) large)

      abbrev two_untouched : IsUntouched (told old.second) (told two.disk)
      two_untouched = record { now = load.now; images = load.images; any_moment = load.any_moment }

      pub over_copied : (s : Stored D) → IsCopying told old.first (IsBlankOrBefore (told old.first)) two.party (Ok s)
          → IsOverBlank told old (Ok (record { first = s; second = two }))
      over_copied s copying = record {
        stand = record { first_stands = copying.stands; second_stands = load.stands; same = sym copying.party };
        left = copying.left ∙ ap (space_of_whole Two) (sym copying.party);
        second_left = λ j now. subst (λ (p : Party). StandsWith j p (space two)) (sym copying.party) (stands_with (told two.disk) two.gate two.end two.format two.party load.stands j (load.now ∙ now));
        small = λ large. copying.small (subst (IsTooLarge Two) copying.party large);
        exact = λ j now. subst (λ (p : Party). Stands j p) (sym copying.party) (stands_for j two.format two.party (load.stands.stands j (load.now ∙ now)));
        refused = tt;
        moments = over_moments s.disk copying.moments;
        second = two_untouched;
        stays = over_stays s.disk;
        too_large = over_large s.disk copying.stays;
        fault = tt;
        keeps = record { first_faults = copying.faults; second_faults = load.faults; first_tells = copying.tells; second_tells = ap is_some load.now };
      }

      pub over_too_large : (new : D) → IsCopying told old.first (IsBlankOrBefore (told old.first)) two.party (Err (uncopied.TooLarge new))
          → IsOverBlank told old (Err (record { disks = record { first = new; second = two.disk }; cause = TooLarge }))
      over_too_large new copying = record {
        stand = tt;
        exact = tt;
        left = tt;
        second_left = tt;
        small = tt;
        refused = λ i j now_i now_j. (two.party, stands_for j two.format two.party (load.stands.stands j (load.now ∙ now_j)), copying.refused);
        moments = over_moments new copying.moments;
        second = two_untouched;
        stays = over_stays new;
        too_large = over_large new copying.stays;
        fault = record { first = λ is. absurd (cc is); second = λ is. absurd (cc is) };
        keeps = record { first_faults = copying.faults; second_faults = load.faults; first_tells = copying.tells; second_tells = ap is_some load.now };
      }

      pub over_failed : (u : Unmade D) → IsCopying told old.first (IsBlankOrBefore (told old.first)) two.party (Err (uncopied.Failed u))
          → IsOverBlank told old (Err (record { disks = record { first = u.disk; second = two.disk }; cause = First u.cause }))
      over_failed u copying = record {
        stand = tt;
        exact = tt;
        left = tt;
        second_left = tt;
        small = tt;
        refused = λ i j now_i now_j. free_first j u.cause (copying.refused.0 i now_i);
        moments = over_moments u.disk copying.moments;
        second = two_untouched;
        stays = over_stays u.disk;
        too_large = over_large u.disk copying.stays;
        fault = record { first = λ is. copying.refused.1 (first_same u.cause cause.Fault is); second = λ is. absurd (never_second u.cause cause.Fault is) };
        keeps = record { first_faults = copying.faults; second_faults = load.faults; first_tells = copying.tells; second_tells = ap is_some load.now };
      }

    -- the second disk doesn't stand either
    module _ (old : Disks D) (sound : IsSound (told old.first)) where
      still_moments : (i j : List ℕ) (party : Party) → (told old.first).now ≡ Some i → (told old.second).now ≡ Some j → Stands j party → LeavesParty (told old.first) (told old.first) i party
      still_moments i j party now_i now_j stands = only_read (told old.first) (told old.first) i party (untouched_self (told old.first) sound).any_moment

      pub over_blank : (disk : D) → IsLoaded told old.second (Err (record { disk = disk; cause = cause.Blank }))
          → IsOverBlank told old (Err (record { disks = record { first = old.first; second = disk }; cause = First cause.Blank }))
      over_blank disk load = record {
        stand = tt;
        exact = tt;
        left = tt;
        second_left = tt;
        small = tt;
        refused = λ i j now_i now_j. load.refused j now_j;
        moments = still_moments;
        second = record { now = load.now; images = load.images; any_moment = load.any_moment };
        stays = λ j now none. untouched_self (told old.first) sound;
        too_large = λ j party now stands large. refl;
        fault = record { first = λ is. absurd (cc is); second = λ is. absurd (cc is) };
        keeps = record { first_faults = omega arith; second_faults = load.faults; first_tells = refl; second_tells = ap is_some load.now };
      }

      pub over_refused : (u : Unmade D) → IsLoaded told old.second (Err u) → (u.cause ≡ cause.Blank → ⊥)
          → IsOverBlank told old (Err (record { disks = record { first = old.first; second = u.disk }; cause = Second u.cause }))
      over_refused u load other = record {
        stand = tt;
        exact = tt;
        left = tt;
        second_left = tt;
        small = tt;
        refused = λ i j now_i now_j. refused_blank j u.cause other (load.refused j now_j);
        moments = still_moments;
        second = record { now = load.now; images = load.images; any_moment = load.any_moment };
        stays = λ j now none. untouched_self (told old.first) sound;
        too_large = λ j party now stands large. refl;
        fault = record { first = λ is. absurd (never_first u.cause cause.Fault is); second = λ is. load.fault (second_same u.cause cause.Fault is) };
        keeps = record { first_faults = omega arith; second_faults = load.faults; first_tells = refl; second_tells = ap is_some load.now };
      }

    -- the first disk stands
    module _ (failure : (i j : List ℕ) (party : Party) (reason : PairCause) → Recovers i j party → IsPairRefusal i j reason → IsPairFailure party reason) (old : Disks D) (one : Stored D) (load : IsLoaded told old.first (Ok one)) where
      one_stands : (i : List ℕ) → (told old.first).now ≡ Some i → Stands i one.party
      one_stands i now = stands_for i one.format one.party (load.stands.stands i (load.now ∙ now))

      recovered : (i j : List ℕ) (party : Party) → (told old.first).now ≡ Some i → Recovers i j party → one.party ≡ party
      recovered i j party now (inl is) = load.exact i party now is.0
      recovered i j party now (inr is) = absurd (never_both (sym is.0 ∙ (load.marked i now).0))

      first_moments : (new : D) → new ≡ one.disk → (i j : List ℕ) (party : Party) → AreRead (told old.first) (told old.second) i j → Recovers i j party → LeavesParty (told old.first) (told new) i party
      first_moments new is i j party read recovers = subst (λ (d : D). LeavesParty (told old.first) (told d) i party) (sym is) (only_read (told old.first) (told one.disk) i party load.any_moment)

      second_moments : (new : D) → ((j : List ℕ) → (told old.second).now ≡ Some j → LeavesParty (told old.second) (told new) j one.party)
          → (i j : List ℕ) (party : Party) → AreRead (told old.first) (told old.second) i j → Recovers i j party → LeavesParty (told old.second) (told new) j party
      second_moments new run i j party read recovers = subst (λ (p : Party). LeavesParty (told old.second) (told new) j p) (recovered i j party read.first recovers) (run j read.second)

      first_untouched : (new : D) → new ≡ one.disk → IsUntouched (told old.first) (told new)
      first_untouched new is = subst (λ (d : D). IsUntouched (told old.first) (told d)) (sym is) (record { now = load.now; images = load.images; any_moment = load.any_moment })

      both_quiet : (new_first new_second : D) → new_first ≡ one.disk → ((j : List ℕ) → (told old.second).now ≡ Some j → Stands j one.party → IsUntouched (told old.second) (told new_second))
          → (i j : List ℕ) (party : Party) → AreRead (told old.first) (told old.second) i j → PairStands i j party → IsUntouched (told old.first) (told new_first) × IsUntouched (told old.second) (told new_second)
      both_quiet new_first new_second is quiet i j party read both = (
        subst (λ (d : D). IsUntouched (told old.first) (told d)) (sym is) (record { now = load.now; images = load.images; any_moment = load.any_moment }),
        quiet j read.second (subst (λ (p : Party). Stands j p) (sym (load.exact i party read.first both.first_is)) both.second_is),
      )

      both_stay : (new_first new_second : D) → new_first ≡ one.disk → ((j : List ℕ) → (told old.second).now ≡ Some j → (IsBlankOrLike one.party j → ⊥) → IsUntouched (told old.second) (told new_second))
          → (i j : List ℕ) → AreRead (told old.first) (told old.second) i j → ((party : Party) → Recovers i j party → ⊥) → IsUntouched (told old.first) (told new_first) × IsUntouched (told old.second) (told new_second)
      both_stay new_first new_second is stays i j read none = (
        subst (λ (d : D). IsUntouched (told old.first) (told d)) (sym is) (record { now = load.now; images = load.images; any_moment = load.any_moment }),
        stays j read.second (λ like. none one.party (inl (one_stands i read.first, like))),
      )

      both_too_large : (new_first new_second : D) → new_first ≡ one.disk → (IsTooLarge Two one.party → IsUntouched (told old.second) (told new_second))
          → (i j : List ℕ) (party : Party) → AreRead (told old.first) (told old.second) i j → Recovers i j party → IsTooLarge Two party → IsUntouched (told old.first) (told new_first) × IsUntouched (told old.second) (told new_second)
      both_too_large new_first new_second is still i j party read recovers large =
          (first_untouched new_first is, still (subst (IsTooLarge Two) (sym (recovered i j party read.first recovers)) large))

      pub opened_beside : (result : Result (Twin D) (PairUnmade D)) → IsBeside told one old.second result → IsPairOpened told old result
      opened_beside (Ok m) b = record {
        stand = b.stand;
        exact = λ i j read. subst (λ (p : Party). Recovers i j p) (sym b.party) (inl (one_stands i read.first, b.exact j read.second));
        left = λ i j read. inl (subst (λ (s : Stored D). StandsWith i s.party (space s)) (sym b.same) (stands_with (told one.disk) one.gate one.end one.format one.party load.stands i (load.now ∙ read.first)));
        second_left = λ i j read. subst (λ (p : Party). HasSecondSpace j p (space m.second)) (sym b.party) (b.second_left j read.second);
        small = λ i j read apart large. b.small j read.second
            (λ stands. apart (subst (PairStands i j) (sym b.party) (record { first_is = one_stands i read.first; second_is = stands })))
            (subst (IsTooLarge Two) b.party large);
        refused = tt;
        due = tt;
        first_moments = first_moments m.first.disk b.first;
        second_moments = second_moments m.second.disk b.moments;
        quiet = both_quiet m.first.disk m.second.disk b.first b.quiet;
        stays = both_stay m.first.disk m.second.disk b.first b.stays;
        too_large = both_too_large m.first.disk m.second.disk b.first b.too_large;
        first_stays = λ i j read stands. first_untouched m.first.disk b.first;
        second_stays = λ i j read blank. absurd (never_both (sym blank ∙ (load.marked i read.first).0));
        fault = tt;
        keeps = record {
          first_faults = subst (λ (d : D). (told old.first).faults ≤ (told d).faults) (sym b.first) load.faults;
          second_faults = b.faults;
          first_tells = subst (λ (d : D). is_some (told d).now ≡ is_some (told old.first).now) (sym b.first) (ap is_some load.now);
          second_tells = b.tells;
        };
      }
      opened_beside (Err u) b = record {
        stand = tt;
        exact = tt;
        left = tt;
        second_left = tt;
        small = tt;
        refused = λ i j read. pair_beside i j one.party u.cause (one_stands i read.first) (b.refused j read.second);
        due = λ i j party read recovers. failure i j party u.cause recovers (pair_beside i j one.party u.cause (one_stands i read.first) (b.refused j read.second));
        first_moments = first_moments u.disks.first b.first;
        second_moments = second_moments u.disks.second b.moments;
        quiet = both_quiet u.disks.first u.disks.second b.first b.quiet;
        stays = both_stay u.disks.first u.disks.second b.first b.stays;
        too_large = both_too_large u.disks.first u.disks.second b.first b.too_large;
        first_stays = λ i j read stands. first_untouched u.disks.first b.first;
        second_stays = λ i j read blank. absurd (never_both (sym blank ∙ (load.marked i read.first).0));
        fault = record { first = λ is. absurd (b.names is); second = λ is. b.fault is };
        keeps = record {
          first_faults = subst (λ (d : D). (told old.first).faults ≤ (told d).faults) (sym b.first) load.faults;
          second_faults = b.faults;
          first_tells = subst (λ (d : D). is_some (told d).now ≡ is_some (told old.first).now) (sym b.first) (ap is_some load.now);
          second_tells = b.tells;
        };
      }

    -- the first disk is blank
    module _ (failure : (i j : List ℕ) (party : Party) (reason : PairCause) → Recovers i j party → IsPairRefusal i j reason → IsPairFailure party reason) (old : Disks D) (disk : D) (load : IsLoaded told old.first (Err (record { disk = disk; cause = cause.Blank }))) where
      abbrev mid : Disks D
      mid = record { first = disk; second = old.second }

      never_stands : (i : List ℕ) (p : Party) → (told old.first).now ≡ Some i → Stands i p → ⊥
      never_stands i p now stands = blank_never i p (load.refused i now) stands

      blank_first : (new : D) → ((i j : List ℕ) (party : Party) → (told disk).now ≡ Some i → (told old.second).now ≡ Some j → Stands j party → LeavesParty (told disk) (told new) i party)
          → (i j : List ℕ) (party : Party) → AreRead (told old.first) (told old.second) i j → Recovers i j party → LeavesParty (told old.first) (told new) i party
      blank_first new run i j party read (inl is) = absurd (never_stands i party read.first is.0)
      blank_first new run i j party read (inr is) =
          read_then (told old.first) (told disk) (told new) i party _ load.any_moment (run i j party (load.now ∙ read.first) read.second is.1)
          (λ c either. elim either [ inl it ↦ inl it | inr left ↦ inr (load.images c left) ])

      blank_second : (new : D) → IsUntouched (told old.second) (told new)
          → (i j : List ℕ) (party : Party) → AreRead (told old.first) (told old.second) i j → Recovers i j party → LeavesParty (told old.second) (told new) j party
      blank_second new still i j party read recovers = only_read (told old.second) (told new) j party still.any_moment

      blank_quiet_pair : (new_first new_second : D) (i j : List ℕ) (party : Party) → AreRead (told old.first) (told old.second) i j → PairStands i j party → IsUntouched (told old.first) (told new_first) × IsUntouched (told old.second) (told new_second)
      blank_quiet_pair new_first new_second i j party read both = absurd (never_stands i party read.first both.first_is)

      blank_stay_pair : (new_first new_second : D) → ((j : List ℕ) → (told old.second).now ≡ Some j → ((party : Party) → Stands j party → ⊥) → IsUntouched (told disk) (told new_first)) → IsUntouched (told old.second) (told new_second)
          → (i j : List ℕ) → AreRead (told old.first) (told old.second) i j → ((party : Party) → Recovers i j party → ⊥) → IsUntouched (told old.first) (told new_first) × IsUntouched (told old.second) (told new_second)
      blank_stay_pair new_first new_second stays second i j read none = (
        untouched_then (told old.first) (told disk) (told new_first) (record { now = load.now; images = load.images; any_moment = load.any_moment })
            (stays j read.second (λ party stands. none party (inr (load.refused i read.first, stands)))),
        second,
      )

      blank_large_pair : (new_first new_second : D) → ((j : List ℕ) (party : Party) → (told old.second).now ≡ Some j → Stands j party → IsTooLarge Two party → new_first ≡ disk) → IsUntouched (told old.second) (told new_second)
          → (i j : List ℕ) (party : Party) → AreRead (told old.first) (told old.second) i j → Recovers i j party → IsTooLarge Two party → IsUntouched (told old.first) (told new_first) × IsUntouched (told old.second) (told new_second)
      blank_large_pair new_first new_second still second i j party read (inl is) large = absurd (never_stands i party read.first is.0)
      blank_large_pair new_first new_second still second i j party read (inr is) large = (
        subst (λ (d : D). IsUntouched (told old.first) (told d)) (sym (still j party read.second is.1 large)) (record { now = load.now; images = load.images; any_moment = load.any_moment }),
        second,
      )

      pub opened_over : (result : Result (Twin D) (PairUnmade D)) → IsOverBlank told mid result → IsPairOpened told old result
      opened_over (Ok m) b = record {
        stand = b.stand;
        exact = λ i j read. inr (load.refused i read.first, b.exact j read.second);
        left = λ i j read. inr (load.refused i read.first, b.left);
        second_left = λ i j read. inl (b.second_left j read.second);
        small = λ i j read apart large. b.small large;
        refused = tt;
        due = tt;
        first_moments = blank_first m.first.disk b.moments;
        second_moments = blank_second m.second.disk b.second;
        quiet = blank_quiet_pair m.first.disk m.second.disk;
        stays = blank_stay_pair m.first.disk m.second.disk b.stays b.second;
        too_large = blank_large_pair m.first.disk m.second.disk b.too_large b.second;
        first_stays = λ i j read stands. absurd (never_both (sym (load.refused i read.first) ∙ stands));
        second_stays = λ i j read blank. b.second;
        fault = tt;
        keeps = record { first_faults = omega (arith, load.faults, b.keeps.first_faults); second_faults = b.keeps.second_faults; first_tells = b.keeps.first_tells ∙ ap is_some load.now; second_tells = b.keeps.second_tells };
      }
      opened_over (Err u) b = record {
        stand = tt;
        exact = tt;
        left = tt;
        second_left = tt;
        small = tt;
        refused = λ i j read. pair_blank i j u.cause (load.refused i read.first) (b.refused i j (load.now ∙ read.first) read.second);
        due = λ i j party read recovers. failure i j party u.cause recovers (pair_blank i j u.cause (load.refused i read.first) (b.refused i j (load.now ∙ read.first) read.second));
        first_moments = blank_first u.disks.first b.moments;
        second_moments = blank_second u.disks.second b.second;
        quiet = blank_quiet_pair u.disks.first u.disks.second;
        stays = blank_stay_pair u.disks.first u.disks.second b.stays b.second;
        too_large = blank_large_pair u.disks.first u.disks.second b.too_large b.second;
        first_stays = λ i j read stands. absurd (never_both (sym (load.refused i read.first) ∙ stands));
        second_stays = λ i j read blank. b.second;
        fault = record { first = λ is. rose_later (told old.first).faults (told disk).faults (told u.disks.first).faults load.faults (b.fault.first is); second = b.fault.second };
        keeps = record { first_faults = omega (arith, load.faults, b.keeps.first_faults); second_faults = b.keeps.second_faults; first_tells = b.keeps.first_tells ∙ ap is_some load.now; second_tells = b.keeps.second_tells };
      }

    -- the first disk is neither
    pub opened_refused : (failure : (i j : List ℕ) (party : Party) (reason : PairCause) → Recovers i j party → IsPairRefusal i j reason → IsPairFailure party reason) → (old : Disks D) (u : Unmade D) → IsLoaded told old.first (Err u) → (u.cause ≡ cause.Blank → ⊥) → IsSound (told old.second)
        → IsPairOpened told old (Err (record { disks = record { first = u.disk; second = old.second }; cause = First u.cause }))
    opened_refused failure old u load other sound = record {
      stand = tt;
      exact = tt;
      left = tt;
      second_left = tt;
      small = tt;
      refused = λ i j read. refused_first i j u.cause other (load.refused i read.first);
      due = λ i j party read recovers. failure i j party (First u.cause) recovers (refused_first i j u.cause other (load.refused i read.first));
      first_moments = λ i j party read recovers. only_read (told old.first) (told u.disk) i party load.any_moment;
      second_moments = λ i j party read recovers. only_read (told old.second) (told old.second) j party (untouched_self (told old.second) sound).any_moment;
      quiet = λ i j party read both. (record { now = load.now; images = load.images; any_moment = load.any_moment }, untouched_self (told old.second) sound);
      stays = λ i j read none. (record { now = load.now; images = load.images; any_moment = load.any_moment }, untouched_self (told old.second) sound);
      too_large = λ i j party read recovers large. (record { now = load.now; images = load.images; any_moment = load.any_moment }, untouched_self (told old.second) sound);
      first_stays = λ i j read stands. record { now = load.now; images = load.images; any_moment = load.any_moment };
      second_stays = λ i j read blank. untouched_self (told old.second) sound;
      fault = record { first = λ is. load.fault (first_same u.cause cause.Fault is); second = λ is. absurd (never_second u.cause cause.Fault is) };
      keeps = record { first_faults = load.faults; second_faults = omega arith; first_tells = ap is_some load.now; second_tells = refl };
    }

-- the parts of what wasn't opened
pub unmade_is : {D : Type 0} (u : PairUnmade D) (f s new_first new_second : D) (reason : PairCause) → u.disks ≡ record { first = f; second = s } → u.cause ≡ reason → f ≡ new_first → s ≡ new_second
    → record { disks = record { first = new_first; second = new_second }; cause = reason } ≡ u
unmade_is u f s new_first new_second reason disks is first second =
    let pair : u.disks ≡ record { first = new_first; second = new_second } = disks ∙ (λ i. record { first = first i; second = second i }) in
    λ i. record { disks = sym pair i; cause = sym is i }

-- two stores are made one party's
module _ {D : Type 0} (told : D → View) (one two : Stored D) (one_store : IsStore (told one.disk) one.gate one.end one.format one.party) (two_store : IsStore (told two.disk) two.gate two.end two.format two.party) (sound : IsSound (told two.disk)) where
  stays : Tells (told two.disk) → LeavesOnly (told two.disk) (told two.disk) (IsSwitched one two)
  stays tells = rests (told two.disk) (IsSwitched one two) sound (λ c left. inr (store_left (told two.disk) two.gate two.end two.format two.party two_store tells c left))

  apart_moments : (two.party ≡ one.party → ⊥) → (new : D) → (Tells (told two.disk) → LeavesOnly (told two.disk) (told new) (λ c. StandsAnew c one.party ⊎ StandsWith c two.party (space two)))
      → Tells (told two.disk) → LeavesOnly (told two.disk) (told new) (IsSwitched one two)
  apart_moments apart new run tells = weaker (told two.disk) (told new) (λ c. StandsAnew c one.party ⊎ StandsWith c two.party (space two)) (IsSwitched one two) (run tells)
      (λ c either. elim either [ inl is ↦ inl (apart, is) | inr is ↦ inr is ])

  pub settled_other : (a b : List ℕ) → a ≡ one.party.own → b ≡ two.party.own → (a ≡ b → ⊥) → IsSettled told one two (Err (record { disks = record { first = one.disk; second = two.disk }; cause = OtherParty a b }))
  settled_other a b a_is b_is apart = record {
    stand = tt;
    party = tt;
    own = tt;
    same = tt;
    second_left = tt;
    small = tt;
    refused = λ image now. (a_is, b_is, apart);
    first = refl;
    quiet = λ same. refl;
    apart = λ differ. refl;
    too_large = λ large. refl;
    moments = stays;
    fault = λ is. absurd (cc is);
    names = λ is. cc is;
    faults = omega arith;
    tells = refl;
  }

  pub settled_same : two.party ≡ one.party → IsSettled told one two (Ok (record { first = one; second = two }))
  settled_same same = record {
    stand = record { first_stands = one_store; second_stands = two_store; same = same };
    party = refl;
    own = ap (λ (p : Party). p.own) same;
    same = refl;
    second_left = inl (same, refl);
    small = λ apart. absurd (apart same);
    refused = tt;
    first = refl;
    quiet = λ is. refl;
    apart = λ differ. refl;
    too_large = λ large. refl;
    moments = stays;
    fault = tt;
    names = tt;
    faults = omega arith;
    tells = refl;
  }

  pub settled_switched : (s : Stored D) → two.party.own ≡ one.party.own → (two.party ≡ one.party → ⊥) → IsCopying told two.disk (λ c. StandsWith c two.party (space two)) one.party (Ok s)
      → IsSettled told one two (Ok (record { first = one; second = s }))
  settled_switched s own apart copying = record {
    stand = record { first_stands = one_store; second_stands = copying.stands; same = copying.party };
    party = refl;
    own = own;
    same = refl;
    second_left = inr (apart, copying.left);
    small = λ differ. copying.small;
    refused = tt;
    first = refl;
    quiet = λ same. absurd (apart same);
    apart = λ differ. absurd (differ own);
    too_large = copying.stays;
    moments = apart_moments apart s.disk copying.moments;
    fault = tt;
    names = tt;
    faults = copying.faults;
    tells = copying.tells;
  }

  pub settled_failed : (u : Unmade D) → two.party.own ≡ one.party.own → (two.party ≡ one.party → ⊥) → IsCopying told two.disk (λ c. StandsWith c two.party (space two)) one.party (Err (uncopied.Failed u))
      → IsSettled told one two (Err (record { disks = record { first = one.disk; second = u.disk }; cause = Second u.cause }))
  settled_failed u own apart copying = record {
    stand = tt;
    party = tt;
    own = tt;
    same = tt;
    second_left = tt;
    small = tt;
    refused = λ image now. copying.refused.0 image now;
    first = refl;
    quiet = λ same. absurd (apart same);
    apart = λ differ. absurd (differ own);
    too_large = copying.stays;
    moments = apart_moments apart u.disk copying.moments;
    fault = λ is. copying.refused.1 (second_same u.cause cause.Fault is);
    names = never_first u.cause cause.Fault;
    faults = copying.faults;
    tells = copying.tells;
  }

  pub settled_large : (new : D) → two.party.own ≡ one.party.own → (two.party ≡ one.party → ⊥) → IsCopying told two.disk (λ c. StandsWith c two.party (space two)) one.party (Err (uncopied.TooLarge new))
      → IsSettled told one two (Err (record { disks = record { first = one.disk; second = new }; cause = TooLarge }))
  settled_large new own apart copying = record {
    stand = tt;
    party = tt;
    own = tt;
    same = tt;
    second_left = tt;
    small = tt;
    refused = λ image now. (own, apart, copying.refused);
    first = refl;
    quiet = λ same. absurd (apart same);
    apart = λ differ. absurd (differ own);
    too_large = copying.stays;
    moments = apart_moments apart new copying.moments;
    fault = λ is. absurd (cc is);
    names = λ is. cc is;
    faults = copying.faults;
    tells = copying.tells;
  }
