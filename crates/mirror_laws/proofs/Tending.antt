-- A disk of a party that is tended: what is left of it, and by which events the party goes on to that.
use Rattle.std.proofs.Common.{◌≡◌, ◌⊎◌, inl, inr, ℕ, ◌≤◌, Bool, true, false, cond, Option, Some, None, List, [], ◌∷◌, refl, sym, ◌∙◌, ap, subst}
use Rattle.x_disk.specs.Disk.{View, Tells, IsSound, LeavesOnly, IsUntouched}
use Rattle.x_disk.proofs.Runs.{weaker}
use Rattle.key_journal.specs.Journal.{is_blank}
use Rattle.key_journal.specs.declared.cause.Cause.TheVariants as cause
use Rattle.party_state.specs.State.{Party}
use Rattle.change_code.specs.Cost.{can_compact}
use Rattle.change_code.specs.Whole.{IsTooLarge}
use Rattle.change_code.specs.declared.format.Format.{Format}
use Rattle.change_code.specs.declared.space.Space.{Space}
use Rattle.key_store.specs.Store.{Stands, StandsWith}
use Rattle.member.specs.Member.{Member}
use Rattle.mirror_store.specs.Pairs.{Recovers}
use Rattle.mirror_store.specs.Opening.{IsPairRefusal}
use Rattle.mirror_store.specs.Recovering.{IsPairFailure}
use Rattle.mirror_store.specs.declared.pair.PairCause.{PairCause}
use Rattle.mirror_store.specs.declared.pair.PairCause.TheVariants.{First}
use Rattle.x_party.specs.Images.{OfParty}
use Rattle.x_party.specs.Outcomes.{IsSafeCall, IsTooLargeIn, FitsIn, space_in, IsRewritten, RewritesParty, IsOldOrRewritten, IsSafeRewriting}
use Rattle.x_party.specs.declared.outcome.Outcome.{Outcome}
use Rattle.x_party.specs.declared.outcome.Outcome.TheVariants as outcome
use Rattle.world_laws.specs.World.{World, member_at}
use Rattle.world_laws.specs.Events.{Action, Completion, Whole, CutNew, IsAction}
use Rattle.world_laws.specs.Steps.{world_after_action, world_rewritten, step, step_at}
use Rattle.call_laws.specs.Deeds.{event_of}
use Rattle.mirror_laws.specs.Runs.{PairEvent, Happens}
use Rattle.mirror_laws.specs.Deeds.{IsCutNewOrNone, IsRewritingOf}
use Rattle.mirror_laws.proofs.Moves.{Moved, written_whole, after_written, party_kept, written_moves, cut_written_moves}
use Rattle.mirror_laws.proofs.Images.{StandsFor, MayBe, IsLike, by_blank, told, fewer, stands_so, space_of, stands_with, Known, never_blank, opened_first, first_stands, like_opened, same_second}
use Rattle.mirror_laws.proofs.Ways.{Somebody, Going, Way, still_going, untouched_way}

-- the image stands for the party for which this one stood, or could be left before
abbrev pub IsSameOr : List ℕ → (List ℕ → Type 0) → List ℕ → Type 0
IsSameOr was P c = ((p : Party) × Stands was p × Stands c p) ⊎ P c

module _ (known : Known) (old new : View) (leaves : Party → Space → List ℕ → Type 0) (writes : Party → Space → Type 0) (safe : IsSafeCall old new leaves writes) (was : List ℕ) (now : old.now ≡ Some was) where
  -- a disk that is blank isn't written
  pub blank_stays : is_blank was ≡ true → IsUntouched old new
  blank_stays blank = safe.nobody was now (λ p stands. never_blank known was p blank stands)

  pub leaves_same : ((p : Party) (s : Space) (c : List ℕ) → leaves p s c → Stands c p) → (name : List ℕ) → IsLike name was → LeavesOnly old new (IsSameOr was old.may_leave)
  leaves_same same name (inl blank) = weaker old new old.may_leave (IsSameOr was old.may_leave) (blank_stays blank).any_moment (λ c left. inr left)
  leaves_same same name (inr (p, stands, own)) =
      let space : Space = space_of was p stands in
      weaker old new (λ c. leaves p space c ⊎ old.may_leave c) (IsSameOr was old.may_leave) (safe.party was p space now (stands_with was p stands)) (λ c left. elim left [
        | inl is ↦ inl (p, stands, same p space c is)
        | inr before ↦ inr before
      ])

-- ---- the second disk: whatever comes, no event

module _ (known : Known) (name : List ℕ) (P Q : List ℕ → Type 0) (some : (f : Option (List ℕ)) (d : List ℕ) → MayBe P Q f d → Somebody name f d) (are : List PairEvent → Type 0) (none : are []) (was : List ℕ) (left : Q was) where
  same_way : (f : Option (List ℕ)) (d : List ℕ) → MayBe P Q f was → (p : Party) → Stands was p → Stands d p → Way name P Q some [] are f d
  same_way f d possible p before now =
      let k : Somebody name f was = some f was possible in
      record { from_first = f; from_second = was; possible = possible; going = still_going name k.member are none f d (same_second known name f was d k.member k.own p before now k.stands) }

  beside_first : (c d : List ℕ) → P c → IsSameOr was Q d → Way name P Q some [] are (Some c) d
  beside_first c d may (inl (p, before, now)) = same_way (Some c) d (may, left) p before now
  beside_first c d may (inr could) = untouched_way name P Q some are none (Some c) d (may, could)

  alone : (d : List ℕ) → is_blank d ≡ false → IsSameOr was Q d → Way name P Q some [] are None d
  alone d not (inl (p, before, now)) = same_way None d (left, known.not_blank was p before) p before now
  alone d not (inr could) = untouched_way name P Q some are none None d (could, not)

  pub second_way : (f : Option (List ℕ)) (d : List ℕ) → MayBe P (IsSameOr was Q) f d → Way name P Q some [] are f d
  second_way (Some c) d may = beside_first c d may.0 may.1
  second_way None d may = alone d may.1 may.0

-- ---- the first disk

module _ (known : Known) (name : List ℕ) (first second first_after : View) (some : (f : Option (List ℕ)) (d : List ℕ) → MayBe first.may_leave second.may_leave f d → Somebody name f d)
    (was : List ℕ) (now : first.now ≡ Some was) (first_left : first.may_leave was) where
  abbrev here : (d : List ℕ) → second.may_leave d → Somebody name (Some was) d
  here d left = some (Some was) d (first_left, left)

  abbrev WayBy : (List PairEvent → Type 0) → Option (List ℕ) → List ℕ → Type 0
  WayBy are f d = Way name first.may_leave second.may_leave some [] are f d

  here_way : (are : List PairEvent → Type 0) (f : Option (List ℕ)) (d : List ℕ) (left : second.may_leave d) → Going name (here d left).member [] are f d → WayBy are f d
  here_way are f d left going = record { from_first = Some was; from_second = d; possible = (first_left, left); going = going }

  stood : (d : List ℕ) (left : second.may_leave d) → is_blank was ≡ false → StandsWith was (here d left).member.party (here d left).member.space
  stood d left not = first_stands known was d (here d left).member (here d left).stands not

  like : (d : List ℕ) → second.may_leave d → IsLike name d
  like d left = like_opened known was d name (here d left).member (here d left).own (here d left).stands

  -- it stands as it did
  old_way : (are : List PairEvent → Type 0) → are [] → (c d : List ℕ) (left : second.may_leave d) → StandsWith c (here d left).member.party (here d left).member.space → WayBy are (Some c) d
  old_way are none c d left stands =
      here_way are (Some c) d left (still_going name (here d left).member are none (Some c) d (opened_first known c d name (here d left).member (here d left).own stands (like d left)))

  -- it isn't written
  pub untouched_first_way : (are : List PairEvent → Type 0) → are [] → IsUntouched first first_after → (f : Option (List ℕ)) (d : List ℕ) → MayBe first_after.may_leave second.may_leave f d → WayBy are f d
  untouched_first_way are none still f d may =
      untouched_way name first.may_leave second.may_leave some are none f d (fewer first_after.may_leave second.may_leave first.may_leave second.may_leave still.images (λ e left. left) f d may)

  module _ (leaves : Party → Space → List ℕ → Type 0) (writes : Party → Space → Type 0) (safe : IsSafeCall first first_after leaves writes) where
    later : (d : List ℕ) → second.may_leave d → first.moment ≤ first_after.moment
    later d left = elim (by_blank was) [
      | inl blank ↦ (blank_stays known first first_after leaves writes safe was now blank).any_moment.later
      | inr not ↦ (safe.party was (here d left).member.party (here d left).member.space now (stood d left not)).later
    ]

    -- what may be left at the end of the call is among what may be left since it began
    pub since_way : IsSound first_after → (f : Option (List ℕ)) (d : List ℕ) → MayBe first_after.may_leave second.may_leave f d → MayBe (first_after.left_since first.moment) second.may_leave f d
    since_way sound (Some c) d may = (sound.counts_now first.moment c (later d may.1) may.0, may.1)
    since_way sound None d may = may

    -- by what is left of it where it stood
    pub stood_way : (are : List PairEvent → Type 0) → are []
        → ((c d : List ℕ) (left : second.may_leave d) → StandsWith was (here d left).member.party (here d left).member.space → first_after.left_since first.moment c → WayBy are (Some c) d)
        → (f : Option (List ℕ)) (d : List ℕ) → MayBe (first_after.left_since first.moment) second.may_leave f d → WayBy are f d
    stood_way are none ways (Some c) d may = elim (by_blank was) [
      | inl blank ↦
          untouched_way name first.may_leave second.may_leave some are none (Some c) d
          ((blank_stays known first first_after leaves writes safe was now blank).any_moment.each c may.0, may.1)
      | inr not ↦ ways c d may.1 (stood d may.1 not) may.0
    ]
    stood_way are none ways None d may = untouched_way name first.may_leave second.may_leave some are none None d may

  -- it is wiped
  module _ (writes : Party → Space → Type 0) (safe : IsSafeCall first first_after (λ party space c. StandsWith c party space) writes) where
    wiped : (c d : List ℕ) (left : second.may_leave d) → StandsWith was (here d left).member.party (here d left).member.space → first_after.left_since first.moment c → WayBy (λ es. es ≡ []) (Some c) d
    wiped c d left stands since = elim ((safe.party was (here d left).member.party (here d left).member.space now stands).each c since) [
      | inl as_before ↦ old_way (λ es. es ≡ []) refl c d left as_before
      | inr before ↦ untouched_way name first.may_leave second.may_leave some (λ es. es ≡ []) refl (Some c) d (before, left)
    ]

    pub wiped_way : (f : Option (List ℕ)) (d : List ℕ) → MayBe (first_after.left_since first.moment) second.may_leave f d → WayBy (λ es. es ≡ []) f d
    wiped_way = stood_way (λ party space c. StandsWith c party space) writes safe (λ es. es ≡ []) refl wiped

-- ---- the first disk is written whole

-- the action writes a party whole, in the format that its own calls for
abbrev pub Rewrites : (Format → Option Format) → Action → Type 0
Rewrites format action = (n : ℕ) (w : World) (x : Member) (moment : ℕ) (c : Completion) → world_after_action n w x moment c action ≡ world_rewritten (format x.space.format) w x c

-- the member has the space of that, or its party is too large for it
written_or_not : Known → (o : Option Format) (x : Member) → (after_written o x ≡ record { party = x.party; space = space_in o x.party x.space }) ⊎ (FitsIn o x.party → ⊥)
written_or_not known None x = inl refl
written_or_not known (Some f) x = go (can_compact f x.party) refl
  where
    go : (b : Bool) → can_compact f x.party ≡ b → (cond b (written_whole f x) x ≡ written_whole f x) ⊎ ((IsTooLarge f x.party → ⊥) → ⊥)
    go true is = inl refl
    go false is = inr (λ fits. fits (known.large f x.party is))

written : Known → (o : Option Format) (x : Member) → (IsTooLargeIn o x.party → ⊥) → after_written o x ≡ record { party = x.party; space = space_in o x.party x.space }
written known None x fits = refl
written known (Some f) x fits = elim (written_or_not known (Some f) x) [
  | inl is ↦ is
  | inr unfit ↦ absurd (unfit fits)
]

module _ (known : Known) (format : Format → Option Format) (action : Action) (gives : Rewrites format action) (is_action : IsAction action)
    (name : List ℕ) (moment : ℕ) (first second first_after : View) (some : (f : Option (List ℕ)) (d : List ℕ) → MayBe first.may_leave second.may_leave f d → Somebody name f d)
    (was : List ℕ) (now : first.now ≡ Some was) (first_left : first.may_leave was) (safe : IsSafeRewriting format first first_after) where
  abbrev who : (d : List ℕ) → second.may_leave d → Member
  who d left = (some (Some was) d (first_left, left)).member

  own : (d : List ℕ) (left : second.may_leave d) → (who d left).party.own ≡ name
  own d left = (some (Some was) d (first_left, left)).own

  abbrev next : Member → Member
  next x = after_written (format x.space.format) x

  next_own : (x : Member) → x.party.own ≡ name → (next x).party.own ≡ name
  next_own x is = ap (λ (p : Party). p.own) (party_kept (format x.space.format) x) ∙ is

  event_moves : (x y : Member) (c : Completion) (n : ℕ) (w : World) → member_at name w.members ≡ Some x → Moved name w (world_rewritten (format x.space.format) w x c) [] y → Moved name w (step n w (event_of name action moment c)) [] y
  event_moves x y c n w at moved =
      subst (λ (m : Option Member). Moved name w (step_at n w (event_of name action moment c) m) [] y) (sym at)
      (subst (λ (v : World). Moved name w v [] y) (sym (gives n w x moment c)) moved)

  event_going : (x : Member) (c : Completion) → ((n : ℕ) (w : World) → member_at name w.members ≡ Some x → Moved name w (world_rewritten (format x.space.format) w x c) [] (next x))
      → (are : List PairEvent → Type 0) → are (Happens (event_of name action moment c) ∷ []) → (f : Option (List ℕ)) (d : List ℕ) → StandsFor f d (next x) → Going name x [] are f d
  event_going x c moves are is f d stands = record {
    events = Happens (event_of name action moment c) ∷ [];
    is = is;
    are_events = (is_action, tt);
    arrives = λ n w at. record { member = next x; moved = event_moves x (next x) c n w at (moves n w at); stands = stands };
  }

  -- the image stands for the member after it
  next_stands : (c d : List ℕ) (left : second.may_leave d) → after_written (format (who d left).space.format) (who d left) ≡ record { party = (who d left).party; space = space_in (format (who d left).space.format) (who d left).party (who d left).space }
      → StandsWith c (who d left).party (space_in (format (who d left).space.format) (who d left).party (who d left).space) → StandsFor (Some c) d (next (who d left))
  next_stands c d left is stands =
      opened_first known c d name (next (who d left)) (next_own (who d left) (own d left)) (subst (λ (y : Member). StandsWith c y.party y.space) (sym is) stands)
      (like known name first second first_after some was now first_left d left)

  -- ---- it was done

  abbrev whole_event : PairEvent
  whole_event = Happens (event_of name action moment Whole)

  module _ (reply : Option (List ℕ)) (is : OfParty first (λ party space. IsRewritten first first_after (format space.format) party space reply)) (tells : Tells first_after) where
    rewritten : (p : Party) (s : Space) → StandsWith was p s → IsRewritten first first_after (format s.format) p s reply
    rewritten p s stands =
        let one = known.one_space was is.party p is.space s (is.reads was now) stands in
        subst (λ (r : Space). IsRewritten first first_after (format r.format) p r reply) one.1 (subst (λ (q : Party). IsRewritten first first_after (format is.space.format) q is.space reply) one.0 is.holds)

    not_blank : is_blank was ≡ false
    not_blank = known.not_blank was is.party (stands_so was is.party is.space (is.reads was now))

    here_done : (d : List ℕ) (left : second.may_leave d) → IsRewritten first first_after (format (who d left).space.format) (who d left).party (who d left).space reply
    here_done d left = rewritten (who d left).party (who d left).space (stood known name first second first_after some was now first_left d left not_blank)

    read_after : (b : List ℕ) × (first_after.now ≡ Some b)
    read_after = told first_after tells

    done_stands : (c d : List ℕ) (left : second.may_leave d) → first_after.may_leave c → StandsFor (Some c) d (next (who d left))
    done_stands c d left may =
        let h = here_done d left in
        let same : c ≡ read_after.0 = h.stands.durable.only read_after.0 c read_after.1 may in
        next_stands c d left (written known (format (who d left).space.format) (who d left) h.fits)
        (subst (λ (b : List ℕ). StandsWith b (who d left).party (space_in (format (who d left).space.format) (who d left).party (who d left).space)) (sym same) (h.stands.reads read_after.0 read_after.1))

    done_way : (f : Option (List ℕ)) (d : List ℕ) → MayBe first_after.may_leave second.may_leave f d → Way name first.may_leave second.may_leave some [] (λ es. es ≡ whole_event ∷ []) f d
    done_way (Some c) d may =
        here_way known name first second first_after some was now first_left (λ es. es ≡ whole_event ∷ []) (Some c) d may.1
        (event_going (who d may.1) Whole (λ n w at. written_moves name w (who d may.1) at (format (who d may.1).space.format)) (λ es. es ≡ whole_event ∷ []) refl (Some c) d (done_stands c d may.1 may.0))
    done_way None d may =
        let k : Somebody name None d = some None d may in
        record {
          from_first = None;
          from_second = d;
          possible = may;
          going = event_going k.member Whole (λ n w at. written_moves name w k.member at (format k.member.space.format)) (λ es. es ≡ whole_event ∷ []) refl None d
              (subst (Stands d) (sym (party_kept (format k.member.space.format) k.member)) k.stands);
        }

  -- ---- it failed, or was cut off

  abbrev CutOr : List PairEvent → Type 0
  CutOr es = IsCutNewOrNone name action moment es

  cut_from : (c d : List ℕ) (left : second.may_leave d) → StandsWith was (who d left).party (who d left).space → first_after.left_since first.moment c → Way name first.may_leave second.may_leave some [] CutOr (Some c) d
  cut_from c d left stands since = elim (written_or_not known (format (who d left).space.format) (who d left)) [
    | inl is ↦ by_left is ((safe.party was (who d left).party (who d left).space now stands).each c since)
    | inr unfit ↦ before ((safe.still was (who d left).party (who d left).space now stands unfit).any_moment.each c since)
  ]
    where
      before : first.may_leave c → Way name first.may_leave second.may_leave some [] CutOr (Some c) d
      before may = untouched_way name first.may_leave second.may_leave some CutOr (inl refl) (Some c) d (may, left)

      by_left : after_written (format (who d left).space.format) (who d left) ≡ record { party = (who d left).party; space = space_in (format (who d left).space.format) (who d left).party (who d left).space }
          → IsOldOrRewritten (format (who d left).space.format) (who d left).party (who d left).space c ⊎ first.may_leave c → Way name first.may_leave second.may_leave some [] CutOr (Some c) d
      by_left is (inl (inl as_before)) = old_way known name first second first_after some was now first_left CutOr (inl refl) c d left as_before
      by_left is (inl (inr anew)) =
          here_way known name first second first_after some was now first_left CutOr (Some c) d left
          (event_going (who d left) CutNew (λ n w at. cut_written_moves name w (who d left) at (format (who d left).space.format)) CutOr (inr refl) (Some c) d (next_stands c d left is anew))
      by_left is (inr may) = before may

  pub cut_way : (f : Option (List ℕ)) (d : List ℕ) → MayBe (first_after.left_since first.moment) second.may_leave f d → Way name first.may_leave second.may_leave some [] CutOr f d
  cut_way =
      stood_way known name first second first_after some was now first_left (λ party space. IsOldOrRewritten (format space.format) party space) (λ party space. FitsIn (format space.format) party) safe CutOr (inl refl) cut_from

  -- ---- it ended

  second_of : (P : List ℕ → Type 0) (f : Option (List ℕ)) (d : List ℕ) → MayBe P second.may_leave f d → second.may_leave d
  second_of P (Some c) d may = may.1
  second_of P None d may = may.0

  pub ended_way : ((i j : List ℕ) (p : Party) (reason : PairCause) → Recovers i j p → IsPairRefusal i j reason → IsPairFailure p reason) → IsSound first_after → Tells first_after
      → (f : Option (List ℕ)) (d : List ℕ) → MayBe first_after.may_leave second.may_leave f d → (o : Outcome) → RewritesParty format first first_after o
      → Way name first.may_leave second.may_leave some [] (IsRewritingOf o name action moment) f d
  ended_way refused sound tells f d may = by_outcome
    where
      untouched : IsUntouched first first_after → Way name first.may_leave second.may_leave some [] (λ es. es ≡ []) f d
      untouched still = untouched_first_way known name first second first_after some was now first_left (λ es. es ≡ []) refl still f d may

      failed : Way name first.may_leave second.may_leave some [] CutOr f d
      failed =
          cut_way f d
          (since_way known name first second first_after some was now first_left (λ party space. IsOldOrRewritten (format space.format) party space) (λ party space. FitsIn (format space.format) party) safe sound f d may)

      by_outcome : (o : Outcome) → RewritesParty format first first_after o → Way name first.may_leave second.may_leave some [] (IsRewritingOf o name action moment) f d
      by_outcome (outcome.Done reply) is = done_way reply is tells f d may
      by_outcome (outcome.Refused verdict reply) (inl is) = untouched is.holds.untouched
      by_outcome (outcome.Refused verdict reply) (inr nobody) = untouched nobody.untouched
      by_outcome (outcome.OtherParty asked found) is = absurd is
      by_outcome (outcome.Damaged place) is =
          let k : Somebody name (Some was) d = some (Some was) d (first_left, second_of first_after.may_leave f d may) in
          absurd (refused was d k.member.party (First (cause.Damaged place)) k.stands.recovers (is.first was now))
      by_outcome outcome.Fault is = failed
      by_outcome outcome.NoMemory is = failed
