-- A party is written as one frame: what a crash leaves, and what stands behind it.
use Rattle.std.proofs.Common.{◌≡◌, inl, inr, ℕ, ◌+◌, ◌-◌, ◌<◌, ◌≤◌, List, [], ◌∷◌, ◌++◌, length, Some, Ok, Err, refl, sym, ◌∙◌, ap, subst, arith, length-append}
use Rattle.std.proofs.Math.Nat.{le_refl}
use Rattle.x_disk.specs.Disk.{View, Tells, LeavesOnly, IsSound}
use Rattle.x_disk.proofs.Runs.{weaker}
use Rattle.key_journal.specs.Layout.{area_size}
use Rattle.key_journal.specs.Journal.{HoldsBodies, IsBody, frame_of, frames, four_bytes}
use Rattle.key_journal.specs.States.{HasBodies, Site, Failed, FaultsRose, room_of, other_start}
use Rattle.key_journal.specs.Writing.{IsSwitch}
use Rattle.key_store.specs.declared.store.Kept.TheVariants as kept
use Rattle.key_journal.specs.States as journal
use Rattle.party_state.specs.State.{Party, begun, apply}
use Rattle.party_state.specs.Ranges.{HasNoBegin}
use Rattle.party_state.specs.Limits.{StaysWithinLimits}
use Rattle.change_code.specs.declared.format.Format.{Format}
use Rattle.change_code.specs.declared.space.Space.{Space}
use Rattle.change_code.specs.Code.{IsCode}
use Rattle.change_code.specs.Whole.{row_edits, whole_edits, whole_of, IsTooLarge}
use Rattle.key_store.specs.Store.{Stored, Fold, StandsWith, IsStore, space, space_between}
use Rattle.change_code.specs.Cost.{space_of_whole}
use Rattle.key_store.specs.Compacting.{IsOldOrWhole, IsWhole}
use Rattle.key_store.specs.Replacing.{IsOldOrOther}
use Rattle.key_store.specs.Keeping.{Makes}
use Rattle.key_store.proofs.Keeping.{here, frame_long, at_rest, never_err, done_same, broken_same}
use Rattle.key_store.proofs.Making.{made}

-- what makes the code of a party the first body of a journal that stands for it
pub record IsAnew (format : Format) (party : Party) : Type 0 where
  pub code : IsCode format (whole_of format party) (whole_edits party)
  pub body : IsBody (whole_of format party)
  pub anew : apply (row_edits party) (begun party.own party.role party.generator) ≡ party
  pub within : StaysWithinLimits (row_edits party) (begun party.own party.role party.generator)
  pub goes_on : HasNoBegin (row_edits party)

pub whole_fold : (format : Format) (party : Party) → IsAnew format party → Fold format (whole_of format party ∷ []) party
whole_fold format party is = (
  party,
  record { own = party.own; role = party.role; generator = party.generator; edits = row_edits party; code = is.code; go_on = record { goes_on = is.goes_on; within = is.within }; after = sym is.anew },
  refl,
)

one_frame : (body : List ℕ) → length (frames (body ∷ [])) ≡ length body + 5
one_frame body = omega (arith, length-append (four_bytes (length body)) (body ++ []), length-append body [])

pub whole_room : (format : Format) (party : Party) → room_of (whole_of format party ∷ []) ≡ (space_of_whole format party).room
whole_room format party = ap (λ (n : ℕ). area_size - n) (one_frame (whole_of format party))

-- the body of a frame that is written alone into the other area stands for this party
module _ (v0 : View) (gate end : ℕ) (old format : Format) (party other : Party) (store : IsStore v0 gate end old party) where
  one_of : (bodies : List (List ℕ)) (c : List ℕ) → Fold format (whole_of format other ∷ []) other → Fold old bodies party → room_of bodies ≡ end - gate → journal.IsOldOrAlone bodies (whole_of format other) c
      → IsOldOrOther party (space_between gate end old) format other c
  one_of bodies c alone fold left (inl holds) = inl (record { bodies = bodies; holds = holds; fold = fold; left = left })
  one_of bodies c alone fold left (inr holds) = inr (record { bodies = whole_of format other ∷ []; holds = holds; fold = alone; left = whole_room format other })

  -- a crash at any moment
  pub switched_any : IsBody (whole_of format other) → Fold format (whole_of format other ∷ []) other → (v1 : View) (frame : List ℕ) → frame ≡ frame_of (whole_of format other)
      → ((bodies : List (List ℕ)) (body : List ℕ) → HasBodies v0 bodies → IsBody body → frame ≡ frame_of body → LeavesOnly v0 v1 (journal.IsOldOrAlone bodies body))
      → Tells v0 → LeavesOnly v0 v1 (IsOldOrOther party (space_between gate end old) format other)
  switched_any body alone v1 frame is_frame switch tells =
      let h = here v0 gate end old party store tells in
      weaker v0 v1 (journal.IsOldOrAlone h.bodies (whole_of format other)) (IsOldOrOther party (space_between gate end old) format other) (switch h.bodies (whole_of format other) h.has body is_frame)
      (λ c either. one_of h.bodies c alone h.fold h.left either)

  -- where it failed, the image at the last sync
  pub switched_stable : (v1 : View) → ((bodies : List (List ℕ)) → HasBodies v0 bodies → (image : List ℕ) → v1.stable ≡ Some image → HoldsBodies image bodies)
      → Tells v0 → (image : List ℕ) → v1.stable ≡ Some image → StandsWith image party (space_between gate end old)
  switched_stable v1 holds tells image stable =
      let h = here v0 gate end old party store tells in
      record { bodies = h.bodies; holds = holds h.bodies h.has image stable; fold = h.fold; left = h.left }

-- the space that is left behind one frame
pub alone_space : (format : Format) (party : Party) (start after last : ℕ) (frame : List ℕ) → frame ≡ frame_of (whole_of format party) → after ≡ start + length frame → last ≡ start + area_size → space_between after last format ≡ space_of_whole format party
alone_space format party start after last frame is_frame at_gate at_end =
    let size : length frame ≡ length (whole_of format party) + 5 = ap length is_frame ∙ frame_long (whole_of format party) in
    let left : last - after ≡ (space_of_whole format party).room = omega (arith, size, at_gate, at_end) in
    let with_room : ℕ → Space = λ n. record { format = format; room = n } in
    ap with_room left

-- five calls pass, or more
pub five_pass : (calls : ℕ) → (calls < 5 → ⊥) → 5 ≤ calls
five_pass calls few = omega (arith, few)

full_same : {D : Type 0} (a b : Stored D) → kept.Full a ≡ kept.Full b → b ≡ a
full_same a b is = cc is

memory_same : {D : Type 0} (a b : Stored D) → kept.NoMemory a ≡ kept.NoMemory b → b ≡ a
memory_same a b is = cc is

-- what became of it, by the answer of the switch
module _ {D : Type 0} (told : D → View) (format : Format) (old : Stored D) (sound : IsSound (told old.disk)) (store : IsStore (told old.disk) old.gate old.end old.format old.party) where
  at_rest_either : Tells (told old.disk) → LeavesOnly (told old.disk) (told old.disk) (IsOldOrWhole old.party (space old) format)
  at_rest_either tells =
      weaker (told old.disk) (told old.disk) (λ c. StandsWith c old.party (space old)) (IsOldOrWhole old.party (space old) format) (at_rest (told old.disk) old.gate old.end old.format old.party sound store tells) (λ c stays. inl stays)

  pub too_large : IsTooLarge format old.party → IsWhole told format old (kept.Full old)
  too_large large = record {
    done = λ s is. absurd (cc is);
    stands = λ s is. absurd (cc is);
    fits = λ s is. absurd (cc is);
    full = λ s is. (full_same old s is, large);
    memory = λ s is. absurd (cc is);
    tried = λ b is. absurd (cc is);
    any_moment = at_rest_either;
    cause = λ b is. absurd (cc is);
    faults = le_refl _;
    tells = refl;
    covered = λ b is. absurd (cc is);
    calls = λ s is. absurd (cc is);
    stable = λ b is. absurd (cc is);
  }

  pub no_memory : IsWhole told format old (kept.NoMemory old)
  no_memory = record {
    done = λ s is. absurd (cc is);
    stands = λ s is. absurd (cc is);
    fits = λ s is. absurd (cc is);
    full = λ s is. absurd (cc is);
    memory = λ s is. memory_same old s is;
    tried = λ b is. absurd (cc is);
    any_moment = at_rest_either;
    cause = λ b is. absurd (cc is);
    faults = le_refl _;
    tells = refl;
    covered = λ b is. absurd (cc is);
    calls = λ s is. absurd (cc is);
    stable = λ b is. absurd (cc is);
  }

  module _ (is_new : IsAnew format old.party) (small : IsTooLarge format old.party → ⊥) (frame : List ℕ) (is_frame : frame ≡ frame_of (whole_of format old.party)) where
    abbrev site : Site D
    site = record { disk = old.disk; gate = old.gate; end = old.end }

    pub new_store : (s : Site D) → IsSwitch told site frame (Ok s) → IsStore (told s.disk) s.gate s.end format old.party
    new_store s switch = made (told old.disk) (told s.disk) s.gate s.end format old.party (whole_of format old.party) (whole_fold format old.party is_new) switch.tells (λ tells. switch.switched (whole_of format old.party) is_new.body is_frame tells) switch.durable switch.room

    pub switched_over : (s : Site D) → IsSwitch told site frame (Ok s) → IsWhole told format old (kept.Done (record { disk = s.disk; gate = s.gate; end = s.end; format = format; party = old.party }))
    switched_over s switch =
        let new : Stored D = record { disk = s.disk; gate = s.gate; end = s.end; format = format; party = old.party } in
        record {
          done = λ t is. subst (λ (x : Stored D). (x.party ≡ old.party) × (space x ≡ space_of_whole format old.party)) (done_same new t is) (refl, alone_space format old.party (other_start old.end) s.gate s.end frame is_frame switch.place.0 switch.place.1);
          stands = λ t is. subst (λ (x : Stored D). IsStore (told x.disk) x.gate x.end x.format x.party) (done_same new t is) (new_store s switch);
          fits = λ t is large. small large;
          full = λ t is. absurd (cc is);
          memory = λ t is. absurd (cc is);
          tried = λ b is. absurd (cc is);
          any_moment = switched_any (told old.disk) old.gate old.end old.format format old.party old.party store is_new.body (whole_fold format old.party is_new) (told s.disk) frame is_frame switch.any_moment;
          cause = λ b is. absurd (cc is);
          faults = switch.faults;
          tells = switch.tells;
          covered = λ b is. absurd (cc is);
          calls = λ t is.
              subst (λ (x : Stored D). Makes 5 (told old.disk) (told x.disk)) (done_same new t is)
              (record { calls_left = switch.calls_left; enough = λ calls calls_left. five_pass calls (λ few. never_err (switch.blows calls calls_left few)) });
          stable = λ b is. absurd (cc is);
        }

    pub switch_failed : (b : Failed D) → IsSwitch told site frame (Err b) → IsWhole told format old (kept.Broken b)
    switch_failed b switch = record {
      done = λ s is. absurd (cc is);
      stands = λ s is. absurd (cc is);
      fits = λ s is. absurd (cc is);
      full = λ s is. absurd (cc is);
      memory = λ s is. absurd (cc is);
      tried = λ d is large. small large;
      any_moment = switched_any (told old.disk) old.gate old.end old.format format old.party old.party store is_new.body (whole_fold format old.party is_new) (told b.disk) frame is_frame switch.any_moment;
      cause = λ d is. subst (λ (x : Failed D). FaultsRose (told old.disk) (told x.disk) x.cause) (broken_same b d is) switch.cause;
      faults = switch.faults;
      tells = switch.tells;
      covered = λ d is end n calls covers in_end in_n wants.
          let same : b ≡ d = broken_same b d is in
          let size : length frame ≡ length (whole_of format old.party) + 5 = ap length is_frame ∙ frame_long (whole_of format old.party) in
          switch.covered end n calls covers (omega (arith, size, in_end)) (omega (arith, size, in_n)) (ap (λ (x : Failed D). x.cause) same ∙ wants);
      calls = λ s is. absurd (cc is);
      stable = λ d is tells image stable.
          let same : b ≡ d = broken_same b d is in
          switched_stable (told old.disk) old.gate old.end old.format format old.party old.party store (told b.disk) switch.stable tells image (ap (λ (x : Failed D). (told x.disk).stable) same ∙ stable);
    }
