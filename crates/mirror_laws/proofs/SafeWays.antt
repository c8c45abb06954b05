-- By which events a member goes on to the images that a crash at any moment of a call over its two disks leaves.
use Rattle.std.proofs.Common.{◌≡◌, ◌⊎◌, inl, inr, ℕ, true, Option, Some, List, []}
use Rattle.x_disk.specs.Disk.{View, Tells, IsSound}
use Rattle.key_journal.specs.Journal.{is_blank}
use Rattle.change_code.specs.Whole.{IsTooLarge}
use Rattle.change_code.specs.declared.format.Format.TheVariants.{Two}
use Rattle.member.specs.Member.{Member}
use Rattle.mirror_store.specs.Opening.{AreRead, HasFirstSpace, IsTooLargeToWrite}
use Rattle.x_pair.specs.Outcomes.{IsSafePair, Work}
use Rattle.mirror_laws.specs.Runs.{PairEvent}
use Rattle.mirror_laws.proofs.Images.{MayBe, Known, told, fewer, never_blank}
use Rattle.mirror_laws.proofs.Ways.{Somebody, Way, FirstLeft, SecondLeft, untouched_way}
use Rattle.mirror_laws.proofs.LeftImages.{first_left, second_left}

-- what a read gives of both disks, which a crash may leave
pub record Reads (first second : View) : Type 0 where
  pub was_first : List ℕ
  pub was_second : List ℕ
  pub read : AreRead first second was_first was_second
  pub first_may : first.may_leave was_first
  pub second_may : second.may_leave was_second

pub reads_of : (first second : View) → IsSound first → IsSound second → Tells first → Tells second → Reads first second
reads_of first second first_sound second_sound first_tells second_tells =
    let first_now = told first first_tells in
    let second_now = told second second_tells in
    record {
      was_first = first_now.0;
      was_second = second_now.0;
      read = record { first = first_now.1; second = second_now.1 };
      first_may = first_sound.now_among first_now.0 first_now.1;
      second_may = second_sound.now_among second_now.0 second_now.1;
    }

-- where the first image is blank the party isn't on both
pub too_large : Known → (name c d : List ℕ) (k : Somebody name (Some c) d) → (is_blank c ≡ true) × IsTooLarge Two k.member.party → IsTooLargeToWrite c d
too_large known name c d k large = record {
  party = k.member.party;
  recovers = k.stands.recovers;
  apart = λ both. never_blank known c k.member.party large.0 both.first_is;
  too_large = large.1;
}

module _ (known : Known) (work : Work) (name : List ℕ) (first second first_after second_after : View) (now : Reads first second) (safe : IsSafePair work first second first_after second_after)
    (some : (f : Option (List ℕ)) (d : List ℕ) → MayBe first.may_leave second.may_leave f d → Somebody name f d) where
  abbrev here : Somebody name (Some now.was_first) now.was_second
  here = some (Some now.was_first) now.was_second (now.first_may, now.second_may)

  abbrev x : Member
  x = here.member

  -- among them is what may be left at its end
  pub left_at_end : IsSound first_after → IsSound second_after → (f : Option (List ℕ)) (d : List ℕ) → MayBe first_after.may_leave second_after.may_leave f d → MayBe (first_after.left_since first.moment) (second_after.left_since second.moment) f d
  left_at_end first_sound second_sound =
      fewer first_after.may_leave second_after.may_leave (first_after.left_since first.moment) (second_after.left_since second.moment)
      (λ c l. first_sound.counts_now first.moment c (safe.on_first now.was_first now.was_second x.party now.read here.stands.recovers).later l)
      (λ c l. second_sound.counts_now second.moment c (safe.on_second now.was_first now.was_second x.party now.read here.stands.recovers).later l)

  -- by events that lead to what is left of the member as it was and as it is then, or by none
  pub safe_way : (are : List PairEvent → Type 0) → are [] → (next : Member) (Change : Type 0) → (HasFirstSpace now.was_first x.party x.space → (y : Member) → work.May now.was_first x.party y → (y ≡ next) × Change)
      → ((f : Option (List ℕ)) (d : List ℕ) → MayBe (FirstLeft x next Change first.may_leave now.was_first) (SecondLeft x next Change second.may_leave now.was_second) f d → Way name first.may_leave second.may_leave some [] are f d)
      → (f : Option (List ℕ)) (d : List ℕ) → MayBe (first_after.left_since first.moment) (second_after.left_since second.moment) f d → Way name first.may_leave second.may_leave some [] are f d
  safe_way are none next Change next_is left f d since = go here.stands.space
    where
      go : HasFirstSpace now.was_first x.party x.space ⊎ ((is_blank now.was_first ≡ true) × IsTooLarge Two x.party) → Way name first.may_leave second.may_leave some [] are f d
      go (inl space) =
          left f d
          (fewer (first_after.left_since first.moment) (second_after.left_since second.moment) (FirstLeft x next Change first.may_leave now.was_first) (SecondLeft x next Change second.may_leave now.was_second)
          (λ c l. first_left known work x now.was_first now.was_second space next Change (next_is space) first.may_leave c ((safe.on_first now.was_first now.was_second x.party now.read here.stands.recovers).each c l))
          (λ c l. second_left known work x now.was_first now.was_second space next Change (next_is space) second.may_leave c ((safe.on_second now.was_first now.was_second x.party now.read here.stands.recovers).each c l)) f d since)
      go (inr large) =
          let stays = safe.too_large now.was_first now.was_second now.read (too_large known name now.was_first now.was_second here large) in
          untouched_way name first.may_leave second.may_leave some are none f d
          (fewer (first_after.left_since first.moment) (second_after.left_since second.moment) first.may_leave second.may_leave stays.0.any_moment.each stays.1.any_moment.each f d since)
