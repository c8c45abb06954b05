-- A party that is opened of two disks acts.
use Rattle.std.proofs.Common.{◌≡◌, ◌≢◌, ◌⊎◌, inl, inr, ℕ, ◌-◌, ◌≤◌, true, false, List, [], ◌∷◌, Some, Ok, refl, sym, ◌∙◌, ap, subst, arith}
use Rattle.x_base.specs.Edge.{Rose}
use Rattle.x_disk.specs.Disk.{View, LeavesOnly, IsUntouched}
use Rattle.x_disk.proofs.Runs.{joined, weaker}
use Rattle.key_journal.specs.Journal.{is_blank}
use Rattle.key_journal.specs.declared.cause.Cause.TheVariants as cause
use Rattle.party_state.specs.declared.command.Input.{Input}
use Rattle.party_state.specs.declared.edit.Edit.{Edit}
use Rattle.party_state.specs.State.{Party}
use Rattle.party_show.specs.Show.{shown}
use Rattle.change_code.specs.Whole.{IsTooLarge}
use Rattle.change_code.specs.declared.format.Format.TheVariants.{Two}
use Rattle.key_store.specs.Store.{Stands, StandsWith, space}
use Rattle.key_store.specs.Replacing.{IsOldOrOther}
use Rattle.member.specs.Member.{Member, Plan, after}
use Rattle.node_core.specs.Turns.{member_of, IsOldOrNext}
use Rattle.disk_pair.specs.declared.disks.Disks.{Disks}
use Rattle.mirror_store.specs.Pairs.{PairStands, Recovers, Twin, IsTwin}
use Rattle.mirror_store.specs.Answers.{twin_disks, turn_disks}
use Rattle.mirror_store.specs.Opening.{AreRead, HasFirstSpace, HasSecondSpace, IsPairOpened}
use Rattle.mirror_store.specs.Turns.{HasFailed, IsKeptTwice, IsPairCut, IsPairTurn, pair_plan_at}
use Rattle.mirror_store.specs.declared.pair.PairCause.{PairCause}
use Rattle.mirror_store.specs.declared.pair.PairCause.TheVariants.{First, Second, OtherParty, TooLarge}
use Rattle.mirror_store.specs.declared.pair.PairUnmade.{PairUnmade}
use Rattle.mirror_store.specs.declared.mirror.PairTurn.{PairTurn}
use Rattle.mirror_store.specs.declared.mirror.PairTurn.TheVariants as turn
use Rattle.x_party.specs.Images.{DiskStandsFor}
use Rattle.x_party.specs.declared.outcome.Outcome.{Outcome}
use Rattle.x_party.specs.declared.outcome.Outcome.TheVariants as outcome
use Rattle.x_pair.specs.Outcomes.{Work, Changes, MakesOf, IsAsOpened, KeepsNext, MayLeave, Opened, After, AsItWas, left_on_first, left_on_second, showing, turning}
use Rattle.x_pair.specs.Steps.{HasActed, outcome_of_pair, outcome_of_turn}
use Rattle.x_disk.proofs.Alike.{tells_by}
use Rattle.x_party.proofs.Alike.{store_stands}
use Rattle.x_pair.proofs.Opened.{both_stand, opening_leaves, second_opened, rested}

-- a party of another name isn't asked
pub other : {D : Type 0} (told : D → View) (old : Disks D) (name : List ℕ) (i : Input) (moment : ℕ) (m : Twin D) → IsPairOpened told old (Ok m) → (new : Disks D) → new ≡ twin_disks m
    → (own : List ℕ) → own ≡ m.first.party.own → own ≢ name → HasActed (turning name i moment) told old new (outcome.OtherParty name own)
other told old name i moment m opened new is own own_is differs =
    rested told old (turning name i moment) m opened new is (outcome.OtherParty name own)
    (λ a b recovers at small stand. inl (record {
      member = member_of m.first;
      next = member_of m.first;
      recovers = recovers;
      space = at;
      small = small;
      says = record { called = refl; own = own_is; differs = differs; same = refl };
      stand = stand;
    })) (λ bad. cc bad)

-- the party is shown, or no memory is left for that
pub displayed : {D : Type 0} (told : D → View) (old : Disks D) (m : Twin D) → IsPairOpened told old (Ok m) → (new : Disks D) → new ≡ twin_disks m → (text : List ℕ) → text ≡ shown m.first.party
    → HasActed showing told old new (outcome.Done (Some text))
displayed told old m opened new is text text_is =
    rested told old showing m opened new is (outcome.Done (Some text))
    (λ a b recovers at small stand. record {
      member = member_of m.first;
      next = member_of m.first;
      recovers = recovers;
      space = at;
      small = small;
      says = (ap (λ (t : List ℕ). Some t) text_is, refl);
      stand = stand;
    }) (λ bad. cc bad)

pub not_displayed : {D : Type 0} (told : D → View) (old : Disks D) (w : Work) (m : Twin D) → IsPairOpened told old (Ok m) → (new : Disks D) → new ≡ twin_disks m → HasActed w told old new outcome.NoMemory
not_displayed told old w m opened new is = rested told old w m opened new is outcome.NoMemory (λ a b recovers at small stand. tt) (λ bad. cc bad)

-- of a failure nothing is said
failed_makes : {D : Type 0} (told : D → View) (old new : Disks D) (reason : PairCause) → HasFailed told old new reason → (w : Work) (i j : List ℕ) (a b : View) → MakesOf w i j a b (outcome_of_pair reason)
failed_makes told old new (First cause.Blank) failed w i j a b = absurd failed
failed_makes told old new (First cause.NotEmpty) failed w i j a b = absurd failed
failed_makes told old new (First (cause.Damaged place)) failed w i j a b = absurd failed
failed_makes told old new (First cause.Fault) failed w i j a b = tt
failed_makes told old new (First cause.NoMemory) failed w i j a b = tt
failed_makes told old new (Second cause.Blank) failed w i j a b = absurd failed
failed_makes told old new (Second cause.NotEmpty) failed w i j a b = absurd failed
failed_makes told old new (Second (cause.Damaged place)) failed w i j a b = absurd failed
failed_makes told old new (Second cause.Fault) failed w i j a b = tt
failed_makes told old new (Second cause.NoMemory) failed w i j a b = tt
failed_makes told old new (OtherParty one other) failed w i j a b = absurd failed
failed_makes told old new TooLarge failed w i j a b = absurd failed

failed_rose : {D : Type 0} (told : D → View) (old new : Disks D) (reason : PairCause) → HasFailed told old new reason → outcome_of_pair reason ≡ outcome.Fault
    → Rose (told old.first).faults (told new.first).faults ⊎ Rose (told old.second).faults (told new.second).faults
failed_rose told old new (First cause.Blank) failed is = absurd failed
failed_rose told old new (First cause.NotEmpty) failed is = absurd failed
failed_rose told old new (First (cause.Damaged place)) failed is = absurd failed
failed_rose told old new (First cause.Fault) failed is = inl failed
failed_rose told old new (First cause.NoMemory) failed is = absurd (cc is)
failed_rose told old new (Second cause.Blank) failed is = absurd failed
failed_rose told old new (Second cause.NotEmpty) failed is = absurd failed
failed_rose told old new (Second (cause.Damaged place)) failed is = absurd failed
failed_rose told old new (Second cause.Fault) failed is = inr failed
failed_rose told old new (Second cause.NoMemory) failed is = absurd (cc is)
failed_rose told old new (OtherParty one other) failed is = absurd failed
failed_rose told old new TooLarge failed is = absurd failed

rose_later : (a b c : ℕ) → a ≤ b → Rose b c → Rose a c
rose_later a b c le (inl less) = inl (omega (arith, le, less))
rose_later a b c le (inr most) = inr most

-- the member after edits that are kept, where there are any
room_kept : (room : ℕ) → room - 0 ≡ room
room_kept room = omega arith

stays : (x : Member) → x ≡ after x []
stays x = ap (λ (room : ℕ). record { party = x.party; space = record { format = x.space.format; room = room } }) (sym (room_kept x.space.room))

kept_next : {D : Type 0} (edits : List Edit) (old new : Twin D) → IsKeptTwice edits old new → member_of new.first ≡ after (member_of old.first) edits
kept_next {D = D} [] old new kept = ap (λ (n : Twin D). member_of n.first) kept ∙ stays (member_of old.first)
kept_next (e ∷ es) old new kept = kept.0

never_both : true ≡ false → ⊥
never_both is = cc is

some_edit : (e : Edit) (es : List Edit) → e ∷ es ≡ [] → ⊥
some_edit e es is = cc is

both_recover : (a b : List ℕ) (party : Party) → PairStands a b party → Recovers a b party
both_recover a b party stand = inl (stand.first_is, inr (party, stand.second_is, refl))

module _ {D : Type 0} (told : D → View) (old : Disks D) (name : List ℕ) (i : Input) (moment : ℕ)
    (one_party : (a b : List ℕ) (p q : Party) → Recovers a b p → Recovers a b q → p ≡ q) (not_blank : (image : List ℕ) (p : Party) → Stands image p → is_blank image ≡ false)
    (m : Twin D) (opened : IsPairOpened told old (Ok m)) (own : m.first.party.own ≡ name) where
  abbrev w : Work
  w = turning name i moment

  abbrev x : Member
  x = member_of m.first

  abbrev plan : Plan
  plan = pair_plan_at x i moment

  -- the member after the edits
  abbrev y : Member
  y = after x plan.edits

  -- it is another only where there are some
  changed : (first second : List ℕ) → HasFirstSpace first m.first.party (space m.first) → ((PairStands first second m.first.party → ⊥) → IsTooLarge Two m.first.party → ⊥)
      → (edits : List Edit) → plan.edits ≡ edits → edits ≢ [] → Changes w first second m.first.party y
  changed first second left small edits is some = record { may = record { own = own; space = space m.first; left = left; changes = λ none. some (sym is ∙ none); is = refl }; small = small }

  -- what a crash in a turn leaves of the party before it, on the first disk and on the second
  stood_first : (first second : List ℕ) → HasFirstSpace first m.first.party (space m.first) → (before : List ℕ → Type 0) (c : List ℕ) → StandsWith c m.first.party (space m.first)
      → MayLeave w left_on_first first second m.first.party first before c
  stood_first first second (inl there) before c stands = AsItWas (inr (m.first.party, space m.first, there, stands))
  stood_first first second (inr blank) before c stands =
      Opened ((λ stood. never_both (sym blank.0 ∙ not_blank first m.first.party stood)), subst (StandsWith c m.first.party) blank.1 stands)

  stood_second : (first second : List ℕ) → HasSecondSpace second m.first.party (space m.second) → (before : List ℕ → Type 0) (c : List ℕ) → StandsWith c m.first.party (space m.second)
      → MayLeave w left_on_second first second m.first.party second before c
  stood_second first second (inl there) before c stands = AsItWas (inr (m.first.party, space m.second, there, stands))
  stood_second first second (inr made) before c stands = Opened (made.0, subst (StandsWith c m.first.party) made.1 stands)

  -- and of the member after it
  first_left : (first second : List ℕ) → HasFirstSpace first m.first.party (space m.first) → Changes w first second m.first.party y → (party : Party) (before : List ℕ → Type 0) → m.first.party ≡ party
      → (c : List ℕ) → IsOldOrNext x y c → MayLeave w left_on_first first second party first before c
  first_left first second left changes party before same c (inl stood) = subst (λ (p : Party). MayLeave w left_on_first first second p first before c) same (stood_first first second left before c stood)
  first_left first second left changes party before same c (inr stands) = subst (λ (p : Party). MayLeave w left_on_first first second p first before c) same (After y changes stands)

  second_left : (first second : List ℕ) → HasSecondSpace second m.first.party (space m.second) → Changes w first second m.first.party y → (party : Party) (before : List ℕ → Type 0) → m.first.party ≡ party
      → (c : List ℕ) → IsOldOrOther m.first.party (space m.second) Two y.party c → MayLeave w left_on_second first second party second before c
  second_left first second left changes party before same c (inl stood) = subst (λ (p : Party). MayLeave w left_on_second first second p second before c) same (stood_second first second left before c stood)
  second_left first second left changes party before same c (inr stands) = subst (λ (p : Party). MayLeave w left_on_second first second p second before c) same (After y changes stands)

  -- where the party isn't changed, the disks stay as the opening left them
  no_edits : (first second : List ℕ) → HasFirstSpace first m.first.party (space m.first) → ((PairStands first second m.first.party → ⊥) → IsTooLarge Two m.first.party → ⊥) → ((next : Member) → Changes w first second m.first.party next → ⊥) → (edits : List Edit) → plan.edits ≡ edits → plan.edits ≡ []
  no_edits first second left small none [] is = is
  no_edits first second left small none (e ∷ es) is = absurd (none y (changed first second left small (e ∷ es) is (some_edit e es)))

  unturned : plan.edits ≡ [] → (t : PairTurn D) → IsPairTurn told m plan t → turn_disks t ≡ twin_disks m
  unturned none (turn.Done new reply under) is = ap (λ (n : Twin D). twin_disks n) (subst (λ (es : List Edit). IsKeptTwice es m new) none is.answer.kept)
  unturned none (turn.Refused new said reply under) is = ap (λ (n : Twin D). twin_disks n) is.answer.same
  unturned none (turn.Broken u) is = absurd (is.answer.changes none)
  unturned none (turn.NoMemory new) is = ap (λ (n : Twin D). twin_disks n) is.answer

  unchanged : (t : PairTurn D) → IsPairTurn told m plan t → (a b : List ℕ) (party : Party) → AreRead (told old.first) (told old.second) a b → Recovers a b party → ((next : Member) → Changes w a b party next → ⊥) → turn_disks t ≡ twin_disks m
  unchanged t is a b party read recovers none =
      let same : m.first.party ≡ party = one_party a b m.first.party party (opened.exact a b read) recovers in
      let nothing : (next : Member) → Changes w a b m.first.party next → ⊥ = subst (λ (p : Party). (next : Member) → Changes w a b p next → ⊥) (sym same) none in
      unturned (no_edits a b (opened.left a b read) (opened.small a b read) nothing plan.edits refl) t is

  -- what a crash leaves of the opening and the turn
  leaves_first : (t : PairTurn D) → IsPairTurn told m plan t → (a b : List ℕ) (party : Party) → AreRead (told old.first) (told old.second) a b → Recovers a b party → (edits : List Edit) → plan.edits ≡ edits
      → LeavesOnly (told old.first) (told (turn_disks t).first) (MayLeave w left_on_first a b party a (told old.first).may_leave)
  leaves_first t is a b party read recovers [] none =
      subst (λ (d : Disks D). LeavesOnly (told old.first) (told d.first) (MayLeave w left_on_first a b party a (told old.first).may_leave)) (sym (unturned none t is))
      (opening_leaves w left_on_first (told old.first) (told m.first.disk) a b a party (opened.first_moments a b party read recovers))
  leaves_first t is a b party read recovers (e ∷ es) some =
      joined (told old.first) (told m.first.disk) (told (turn_disks t).first) (MayLeave w left_on_first a b party a (told old.first).may_leave)
      (opening_leaves w left_on_first (told old.first) (told m.first.disk) a b a party (opened.first_moments a b party read recovers))
      (weaker (told m.first.disk) (told (turn_disks t).first) (IsOldOrNext x y) (MayLeave w left_on_first a b party a (told old.first).may_leave)
      (is.first_moments (opened.keeps.first_tells ∙ tells_by (told old.first).now a read.first))
      (first_left a b (opened.left a b read) (changed a b (opened.left a b read) (opened.small a b read) (e ∷ es) some (some_edit e es)) party (told old.first).may_leave
      (one_party a b m.first.party party (opened.exact a b read) recovers)))

  leaves_second : (t : PairTurn D) → IsPairTurn told m plan t → (a b : List ℕ) (party : Party) → AreRead (told old.first) (told old.second) a b → Recovers a b party → (edits : List Edit) → plan.edits ≡ edits
      → LeavesOnly (told old.second) (told (turn_disks t).second) (MayLeave w left_on_second a b party b (told old.second).may_leave)
  leaves_second t is a b party read recovers [] none =
      subst (λ (d : Disks D). LeavesOnly (told old.second) (told d.second) (MayLeave w left_on_second a b party b (told old.second).may_leave)) (sym (unturned none t is))
      (opening_leaves w left_on_second (told old.second) (told m.second.disk) a b b party (opened.second_moments a b party read recovers))
  leaves_second t is a b party read recovers (e ∷ es) some =
      joined (told old.second) (told m.second.disk) (told (turn_disks t).second) (MayLeave w left_on_second a b party b (told old.second).may_leave)
      (opening_leaves w left_on_second (told old.second) (told m.second.disk) a b b party (opened.second_moments a b party read recovers))
      (weaker (told m.second.disk) (told (turn_disks t).second) (IsOldOrOther m.first.party (space m.second) Two y.party) (MayLeave w left_on_second a b party b (told old.second).may_leave)
      (is.second_moments (opened.keeps.second_tells ∙ tells_by (told old.second).now b read.second))
      (second_left a b (opened.second_left a b read) (changed a b (opened.left a b read) (opened.small a b read) (e ∷ es) some (some_edit e es)) party (told old.second).may_leave
      (one_party a b m.first.party party (opened.exact a b read) recovers)))

  -- the second disk is as the opening left it, or the first has kept the edits
  abbrev IsInOrder : Disks D → Type 0
  IsInOrder d = (d.second ≡ m.second.disk) ⊎ ((plan.edits ≢ []) × DiskStandsFor (told d.first) y.party y.space)

  kept_first : (new : Twin D) → IsTwin told new → member_of new.first ≡ y → DiskStandsFor (told new.first.disk) y.party y.space
  kept_first new twin is =
      subst (λ (z : Member). DiskStandsFor (told new.first.disk) z.party z.space) is (store_stands (told new.first.disk) new.first.gate new.first.end new.first.format new.first.party twin.first_stands)

  done_order : (edits : List Edit) → plan.edits ≡ edits → (new : Twin D) → IsKeptTwice edits m new → DiskStandsFor (told new.first.disk) y.party y.space → IsInOrder (twin_disks new)
  done_order [] is new same stands = inl (ap (λ (n : Twin D). n.second.disk) same)
  done_order (e ∷ es) is new kept stands = inr ((λ none. some_edit e es (sym is ∙ none)), stands)

  cut_order : (u : PairUnmade D) → IsPairCut told m plan u → (reason : PairCause) → u.cause ≡ reason → IsInOrder u.disks
  cut_order u cut (First reason) is = inl (cut.order reason is)
  cut_order u cut (Second reason) is = inr (cut.changes, record { durable = cut.durable reason is; reads = cut.kept reason is })
  cut_order u cut (OtherParty one other) is = absurd (subst (λ (r : PairCause). HasFailed told (twin_disks m) u.disks r) is cut.failed)
  cut_order u cut TooLarge is = absurd (subst (λ (r : PairCause). HasFailed told (twin_disks m) u.disks r) is cut.failed)

  turn_order : (t : PairTurn D) → IsPairTurn told m plan t → IsInOrder (turn_disks t)
  turn_order (turn.Done new reply under) is = done_order plan.edits refl new is.answer.kept (kept_first new is.stand (kept_next plan.edits m new is.answer.kept))
  turn_order (turn.Refused new said reply under) is = inl (ap (λ (n : Twin D). n.second.disk) is.answer.same)
  turn_order (turn.Broken u) is = cut_order u is.answer u.cause refl
  turn_order (turn.NoMemory new) is = inl (ap (λ (n : Twin D). n.second.disk) is.answer)

  in_order : (t : PairTurn D) → IsPairTurn told m plan t → (a b : List ℕ) (party : Party) → AreRead (told old.first) (told old.second) a b → Recovers a b party
      → IsAsOpened (told old.second) (told (turn_disks t).second) a b party ⊎ KeepsNext w (told (turn_disks t).first) a b party
  in_order t is a b party read recovers = elim (turn_order t is) [
    | inl same ↦ inl (subst (λ (d : D). IsAsOpened (told old.second) (told d) a b party) (sym same) (second_opened told old (Ok m) opened a b party read recovers))
    | inr kept ↦ inr (subst (λ (p : Party). KeepsNext w (told (turn_disks t).first) a b p) (one_party a b m.first.party party (opened.exact a b read) recovers) (record {
      next = y;
      changes = changed a b (opened.left a b read) (opened.small a b read) plan.edits refl kept.0;
      kept = kept.1;
    }))
  ]

  makes_turn : (t : PairTurn D) → IsPairTurn told m plan t → (a b : List ℕ) → Recovers a b m.first.party → HasFirstSpace a m.first.party x.space → ((PairStands a b m.first.party → ⊥) → IsTooLarge Two m.first.party → ⊥) → MakesOf w a b (told (turn_disks t).first) (told (turn_disks t).second) (outcome_of_turn t)
  makes_turn (turn.Done new reply under) is a b recovers at small = record {
    member = x;
    next = member_of new.first;
    recovers = recovers;
    space = at;
    small = small;
    says = record { own = own; accepted = is.answer.accepted; written = is.answer.reply; next = kept_next plan.edits m new is.answer.kept };
    stand = both_stand told new is.stand;
  }
  makes_turn (turn.Refused new said reply under) is a b recovers at small = inl (record {
    member = x;
    next = member_of new.first;
    recovers = recovers;
    space = at;
    small = small;
    says = record { own = own; refused = is.answer.refused; said = is.answer.verdict; written = is.answer.reply; same = ap (λ (n : Twin D). member_of n.first) is.answer.same };
    stand = both_stand told new is.stand;
  })
  makes_turn (turn.Broken u) is a b recovers at small = failed_makes told (twin_disks m) u.disks u.cause is.answer.failed w a b (told u.disks.first) (told u.disks.second)
  makes_turn (turn.NoMemory new) is a b recovers at small = tt

  rose_turn : (t : PairTurn D) → IsPairTurn told m plan t → outcome_of_turn t ≡ outcome.Fault
      → Rose (told m.first.disk).faults (told (turn_disks t).first).faults ⊎ Rose (told m.second.disk).faults (told (turn_disks t).second).faults
  rose_turn (turn.Done new reply under) is fault = absurd (cc fault)
  rose_turn (turn.Refused new said reply under) is fault = absurd (cc fault)
  rose_turn (turn.Broken u) is fault = failed_rose told (twin_disks m) u.disks u.cause is.answer.failed fault
  rose_turn (turn.NoMemory new) is fault = absurd (cc fault)

  turned_of : (t : PairTurn D) → IsPairTurn told m plan t → HasActed w told old (turn_disks t) (outcome_of_turn t)
  turned_of t is = record {
    makes = λ a b read. makes_turn t is a b (opened.exact a b read) (opened.left a b read) (opened.small a b read);
    safe = record {
      on_first = λ a b party read recovers. leaves_first t is a b party read recovers plan.edits refl;
      on_second = λ a b party read recovers. leaves_second t is a b party read recovers plan.edits refl;
      order = λ a b party read recovers. in_order t is a b party read recovers;
      nobody = λ a b read none. absurd (none m.first.party (opened.exact a b read));
      quiet = λ a b party read stand none.
          subst (λ (d : Disks D). IsUntouched (told old.first) (told d.first) × IsUntouched (told old.second) (told d.second))
          (sym (unchanged t is a b party read (both_recover a b party stand) none)) (opened.quiet a b party read stand);
      first_stays = λ a b party read recovers none filled.
          subst (λ (d : Disks D). IsUntouched (told old.first) (told d.first)) (sym (unchanged t is a b party read recovers none)) (opened.first_stays a b read filled);
      second_stays = λ a b party read recovers none blank.
          subst (λ (d : Disks D). IsUntouched (told old.second) (told d.second)) (sym (unchanged t is a b party read recovers none)) (opened.second_stays a b read blank);
      too_large = λ a b read large.
          subst (λ (d : Disks D). IsUntouched (told old.first) (told d.first) × IsUntouched (told old.second) (told d.second))
          (sym (unchanged t is a b large.party read large.recovers (λ next changes. changes.small large.apart large.too_large))) (opened.too_large a b large.party read large.recovers large.too_large);
      first_tells = is.keeps.first_tells ∙ opened.keeps.first_tells;
      second_tells = is.keeps.second_tells ∙ opened.keeps.second_tells;
    };
    faults = record {
      first_later = omega (arith, opened.keeps.first_faults, is.keeps.first_faults);
      second_later = omega (arith, opened.keeps.second_faults, is.keeps.second_faults);
      fault = λ fault. elim (rose_turn t is fault) [
        | inl rose ↦ inl (rose_later (told old.first).faults (told m.first.disk).faults (told (turn_disks t).first).faults opened.keeps.first_faults rose)
        | inr rose ↦ inr (rose_later (told old.second).faults (told m.second.disk).faults (told (turn_disks t).second).faults opened.keeps.second_faults rose)
      ];
    };
  }

  -- what is handed on of a turn
  pub turned : (t : PairTurn D) → IsPairTurn told m plan t → (ended : Disks D × Outcome) → ended.0 ≡ turn_disks t → ended.1 ≡ outcome_of_turn t → HasActed w told old ended.0 ended.1
  turned t is ended disks_is outcome_is =
      subst (λ (o : Outcome). HasActed w told old ended.0 o) (sym outcome_is)
      (subst (λ (d : Disks D). HasActed w told old d (outcome_of_turn t)) (sym disks_is) (turned_of t is))
