-- A store takes over a state as one frame: what a crash leaves, and what stands behind it.
use Rattle.std.proofs.Common.{◌≡◌, ◌⊎◌, inl, ℕ, ◌+◌, ◌≤◌, List, length, true, false, Some, is_some, Result, Ok, Err, IfOk, refl, sym, ◌∙◌, ap, subst, arith}
use Rattle.x_base.specs.declared.party.Role.{Role}
use Rattle.x_gen.specs.declared.generator.Gen.{Gen}
use Rattle.x_disk.specs.Disk.{View, Tells, LeavesOnly}
use Rattle.key_journal.specs.Layout.{area_size, first_start, second_start}
use Rattle.key_journal.specs.Causes.{cause_of}
use Rattle.key_journal.specs.Journal.{frame_of, is_blank}
use Rattle.key_journal.specs.States.{Site, Failed, WritesOnlyToBlank, other_start}
use Rattle.key_journal.specs.States as journal
use Rattle.key_journal.specs.Writing.{IsSwitch, IsFirstFrame}
use Rattle.key_journal.specs.declared.cause.Unmade.{Unmade}
use Rattle.party_state.specs.State.{Party, begun}
use Rattle.change_code.specs.declared.format.Format.TheVariants.{Two}
use Rattle.change_code.specs.declared.space.Space.{Space}
use Rattle.change_code.specs.Cost.{cost}
use Rattle.change_code.specs.Whole.{whole_edits, whole_of}
use Rattle.key_store.specs.Store.{Stored, IsStore, IsBlankOrFirst}
use Rattle.key_store.specs.Creating.{IsNewStore}
use Rattle.key_store.specs.Replacing.{IsFramedState, IsReplacing, IsMadeAs}
use Rattle.key_store.proofs.Keeping.{frame_long, never_err, rose_later}
use Rattle.key_store.proofs.Making.{made, laid, free_cause, fault_of}
use Rattle.key_store.proofs.Wholes.{whole_room, switched_any, switched_stable, alone_space, five_pass}

area_end : (last : ℕ) → last ≡ second_start → last ≡ first_start + area_size
area_end last is = omega (arith, is)

module _ {D : Type 0} (told : D → View) (old : Stored D) (store : IsStore (told old.disk) old.gate old.end old.format old.party) (other : Party) (frame : List ℕ) (framed : IsFramedState frame other) where
  abbrev site : Site D
  site = record { disk = old.disk; gate = old.gate; end = old.end }

  pub other_store : (s : Site D) → IsSwitch told site frame (Ok s) → IsStore (told s.disk) s.gate s.end Two other
  other_store s switch = made (told old.disk) (told s.disk) s.gate s.end Two other (whole_of Two other) framed.fold switch.tells (λ tells. switch.switched (whole_of Two other) framed.body framed.is tells) switch.durable switch.room

  pub replaced : (s : Site D) → IsSwitch told site frame (Ok s) → IsReplacing told old other (Ok (record { disk = s.disk; gate = s.gate; end = s.end; format = Two; party = other }))
  replaced s switch = record {
    party = refl;
    left = alone_space Two other (other_start old.end) s.gate s.end frame framed.is switch.place.0 switch.place.1;
    stands = other_store s switch;
    any_moment = switched_any (told old.disk) old.gate old.end old.format Two old.party other store framed.body framed.fold (told s.disk) frame framed.is switch.any_moment;
    stable = tt;
    cause = tt;
    faults = switch.faults;
    tells = switch.tells;
    calls = record { calls_left = switch.calls_left; enough = λ calls calls_left. five_pass calls (λ few. never_err (switch.blows calls calls_left few)) };
    covered = tt;
  }

  pub replacing_failed : (b : Failed D) → IsSwitch told site frame (Err b) → IsReplacing told old other (Err b)
  replacing_failed b switch = record {
    party = tt;
    left = tt;
    stands = tt;
    any_moment = switched_any (told old.disk) old.gate old.end old.format Two old.party other store framed.body framed.fold (told b.disk) frame framed.is switch.any_moment;
    stable = switched_stable (told old.disk) old.gate old.end old.format Two old.party other store (told b.disk) switch.stable;
    cause = switch.cause;
    faults = switch.faults;
    tells = switch.tells;
    calls = tt;
    covered = λ end n calls covers in_end in_n wants.
        let size : length frame ≡ length (whole_of Two other) + 5 = ap length framed.is ∙ frame_long (whole_of Two other) in
        switch.covered end n calls covers (omega (arith, size, in_end)) (omega (arith, size, in_n)) wants;
  }

-- the place of the gate behind one frame
pub place_of : (state party : Party) → state ≡ party → (frame : List ℕ) → frame ≡ frame_of (whole_of Two state) → (gate end : ℕ) → (gate ≡ first_start + length frame) × (end ≡ second_start)
    → (gate ≡ first_start + cost Two (whole_edits party)) × (end ≡ second_start)
place_of state party same frame is gate end place =
    (place.0 ∙ ap (λ (n : ℕ). first_start + n) (ap length is ∙ (frame_long (whole_of Two state) ∙ ap (λ (p : Party). cost Two (whole_edits p)) same)), place.1)

-- a store is made on a blank disk
module _ {D : Type 0} (told : D → View) (old blank : D) (made_party : Party) (frame : List ℕ) (framed : IsFramedState frame made_party)
    (was_blank : (b : List ℕ) → (told old).now ≡ Some b → is_blank b ≡ true) (unless : WritesOnlyToBlank (told old) (told blank))
    (run : Tells (told old) → LeavesOnly (told old) (told blank) (λ c. (is_blank c ≡ true) ⊎ (told old).may_leave c)) (faults : (told old).faults ≤ (told blank).faults) (tells : is_some (told blank).now ≡ is_some (told old).now) where
  nothing : (new : D) → WritesOnlyToBlank (told old) (told new)
  nothing new image now not_blank = let no : true ≡ false = sym (was_blank image now) ∙ not_blank in absurd (cc no)

  made_moments : (new : D) → (Tells (told blank) → LeavesOnly (told blank) (told new) (journal.IsBlankOrFirst (whole_of Two made_party)))
      → Tells (told old) → LeavesOnly (told old) (told new) (λ c. IsBlankOrFirst made_party c ⊎ (told old).may_leave c)
  made_moments new create = laid (told old) (told blank) (told new) made_party (whole_of Two made_party) framed.fold (whole_room Two made_party) run tells create

  pub made_store : (s : Site D) → IsFirstFrame told (record { disk = blank }) frame (Ok s) → IsStore (told s.disk) s.gate s.end Two made_party
  made_store s first = made (told blank) (told s.disk) s.gate s.end Two made_party (whole_of Two made_party) framed.fold first.tells (first.created (whole_of Two made_party) framed.body framed.is) first.durable first.room

  pub made_as : (s : Site D) → IsFirstFrame told (record { disk = blank }) frame (Ok s) → IsMadeAs told made_party old (Ok (record { disk = s.disk; gate = s.gate; end = s.end; format = Two; party = made_party }))
  made_as s first = record {
    party = refl;
    left = alone_space Two made_party first_start s.gate s.end frame framed.is first.place.0 (area_end s.end first.place.1);
    stands = made_store s first;
    blank = was_blank;
    exact = tt;
    names = tt;
    nothing_written = nothing s.disk;
    any_moment = made_moments s.disk (first.any_moment (whole_of Two made_party) framed.body framed.is);
    fault = tt;
    faults = omega (arith, faults, first.faults);
    tells = first.tells ∙ tells;
  }

  pub making_failed : (b : Failed D) → IsFirstFrame told (record { disk = blank }) frame (Err b) → IsMadeAs told made_party old (Err (record { disk = b.disk; cause = cause_of b.cause }))
  making_failed b first = record {
    party = tt;
    left = tt;
    stands = tt;
    blank = tt;
    exact = λ image now. inl (free_cause b.cause);
    names = inl (free_cause b.cause);
    nothing_written = nothing b.disk;
    any_moment = made_moments b.disk (first.any_moment (whole_of Two made_party) framed.body framed.is);
    fault = λ is. rose_later (told old).faults (told blank).faults (told b.disk).faults faults (first.cause.fault (fault_of b.cause is));
    faults = omega (arith, faults, first.faults);
    tells = first.tells ∙ tells;
  }

-- a store is made of a party that begins
new_of : {D : Type 0} (told : D → View) (own : List ℕ) (role : Role) (generator : Gen) (old : D) (result : Result (Stored D) (Unmade D)) → IsMadeAs told (begun own role generator) old result
    → IfOk result (λ s. (s.gate ≡ first_start + cost Two (whole_edits (begun own role generator))) × (s.end ≡ second_start)) → IsNewStore told own role generator old result
new_of told own role generator old (Ok s) made place = record {
  party = made.party;
  format = ap (λ (left : Space). left.format) made.left;
  left = made.left;
  stands = made.stands;
  place = place;
  blank = made.blank;
  exact = tt;
  names = tt;
  nothing_written = made.nothing_written;
  any_moment = made.any_moment;
  fault = tt;
  faults = made.faults;
  tells = made.tells;
}
new_of told own role generator old (Err u) made place = record {
  party = tt;
  format = tt;
  left = tt;
  stands = tt;
  place = tt;
  blank = tt;
  exact = made.exact;
  names = made.names;
  nothing_written = made.nothing_written;
  any_moment = made.any_moment;
  fault = made.fault;
  faults = made.faults;
  tells = made.tells;
}

pub new_store : {D : Type 0} (told : D → View) (own : List ℕ) (role : Role) (generator : Gen) (old : D) (result : Result (Stored D) (Unmade D)) (framed : Party) → framed ≡ begun own role generator → IsMadeAs told framed old result
    → IfOk result (λ s. (s.gate ≡ first_start + cost Two (whole_edits framed)) × (s.end ≡ second_start)) → IsNewStore told own role generator old result
new_store told own role generator old result framed same made place =
    new_of told own role generator old result (subst (λ (p : Party). IsMadeAs told p old result) same made)
    (subst (λ (p : Party). IfOk result (λ s. (s.gate ≡ first_start + cost Two (whole_edits p)) × (s.end ≡ second_start))) same place)
