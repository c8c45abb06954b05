-- A node's party is written whole: it is compacted or migrated.
use Rattle.std.proofs.Common.{◌≡◌, [], Bool, true, false, cond, None, refl, sym, ap, subst}
use Rattle.x_base.specs.declared.verdict.Verdict.TheVariants.{Accept, JournalFull}
use Rattle.x_disk.specs.Disk.{View, IsSound}
use Rattle.party_state.specs.State.{Party}
use Rattle.change_code.specs.declared.format.Format.{Format}
use Rattle.change_code.specs.declared.format.Format.TheVariants.{One, Two}
use Rattle.change_code.specs.Cost.{can_compact, space_of_whole}
use Rattle.change_code.specs.Whole.{IsTooLarge}
use Rattle.key_store.specs.Store.{Stored, IsStore, space}
use Rattle.key_store.specs.Compacting.{IsWhole, IsMigrating}
use Rattle.key_store.specs.declared.store.Kept.{Kept}
use Rattle.key_store.specs.declared.store.Kept.TheVariants as kept
use Rattle.member.specs.Acts.{Keeps, WritesWhole, Act, verdict_alone, whole_act, rewriting, migrating, migrated_in}
use Rattle.node_core.specs.Turns.{MayWantMemory, IsTurn, member_of, turn_of}
use Rattle.node_core.specs.declared.node.Turn.{Turn}
use Rattle.node_core.specs.declared.node.Turn.TheVariants as turn
use Rattle.node_core.proofs.Turning.{same_member, no_memory, unchanged}

chosen : (b : Bool) (first second : Act) → b ≡ true → cond b first second ≡ first
chosen true first second is = refl
chosen false first second is = absurd (cc is)

other : (b : Bool) (first second : Act) → b ≡ false → cond b first second ≡ second
other true first second is = absurd (cc is)
other false first second is = refl

module _ {D : Type 0} (told : D → View) (old : Stored D) (sound : IsSound (told old.disk)) (store : IsStore (told old.disk) old.gate old.end old.format old.party)
    (law_fits : (f : Format) (p : Party) → can_compact f p ≡ true → IsTooLarge f p → ⊥) (law_large : (f : Format) (p : Party) → can_compact f p ≡ false → IsTooLarge f p) where
  module _ (f : Format) where
    can : (IsTooLarge f old.party → ⊥) → can_compact f old.party ≡ true
    can fits = go (can_compact f old.party) refl where
      go : (b : Bool) → can_compact f old.party ≡ b → can_compact f old.party ≡ true
      go true is = is
      go false is = absurd (fits (law_large f old.party is))

    cannot : IsTooLarge f old.party → can_compact f old.party ≡ false
    cannot large = go (can_compact f old.party) refl where
      go : (b : Bool) → can_compact f old.party ≡ b → can_compact f old.party ≡ false
      go true is = absurd (law_fits f old.party is large)
      go false is = is

    writes : (IsTooLarge f old.party → ⊥) → verdict_alone (WritesWhole f) Accept ≡ whole_act f old.party
    writes fits = sym (chosen (can_compact f old.party) (verdict_alone (WritesWhole f) Accept) (verdict_alone (Keeps []) JournalFull) (can fits))

    refuses : IsTooLarge f old.party → verdict_alone (Keeps []) JournalFull ≡ whole_act f old.party
    refuses large = sym (other (can_compact f old.party) (verdict_alone (WritesWhole f) Accept) (verdict_alone (Keeps []) JournalFull) (cannot large))

    may_want : (b : Bool) → MayWantMemory (cond b (verdict_alone (WritesWhole f) Accept) (verdict_alone (Keeps []) JournalFull)).work
    may_want true = tt
    may_want false = tt

    pub written_whole : (k : Kept D) → IsWhole told f old k → IsTurn told old (whole_act f old.party) (turn_of k)
    written_whole (kept.Done new) is =
        let done = is.done new refl in
        subst (λ (a : Act). IsTurn told old a (turn.Done new Accept None None)) (writes (is.fits new refl)) (record {
          answer = record {
            next = same_member new.party old.party (space new) (space_of_whole f old.party) done.0 done.1;
            own = ap (λ (p : Party). p.own) done.0;
            verdict = refl;
            reply = refl;
            under = refl;
            work = is.calls new refl;
            place = tt;
          };
          stands = is.stands new refl;
          any_moment = is.any_moment;
          early = λ edits keeps. absurd (cc keeps);
          faults = is.faults;
          tells = is.tells;
        })
    written_whole (kept.Full new) is =
        let full = is.full new refl in
        subst (λ (s : Stored D). IsTurn told old (whole_act f old.party) (turn.Done s JournalFull None None)) (sym full.0)
        (subst (λ (a : Act). IsTurn told old a (turn.Done old JournalFull None None)) (refuses full.1) (unchanged told old sound store JournalFull))
    written_whole (kept.NoMemory new) is =
        subst (λ (s : Stored D). IsTurn told old (whole_act f old.party) (turn.NoMemory s)) (sym (is.memory new refl))
        (no_memory told old sound store (whole_act f old.party) (may_want (can_compact f old.party)))
    written_whole (kept.Broken new) is =
        subst (λ (a : Act). IsTurn told old a (turn.Broken new)) (writes (is.tried new refl)) (record {
          answer = record { cause = is.cause new refl; work = record { stable = is.stable new refl; covered = is.covered new refl } };
          stands = tt;
          any_moment = is.any_moment;
          early = λ edits keeps. absurd (cc keeps);
          faults = is.faults;
          tells = is.tells;
        })

  pub migrated : (k : Kept D) → IsMigrating told old k → IsTurn told old (migrating (member_of old)) (turn_of k)
  migrated k is = go old.format refl where
    act : (f : Format) → old.format ≡ f → IsTurn told old (rewriting (migrated_in f) old.party) (turn_of k) → IsTurn told old (migrating (member_of old)) (turn_of k)
    act f same = subst (λ (g : Format). IsTurn told old (rewriting (migrated_in g) old.party) (turn_of k)) (sym same)

    go : (f : Format) → old.format ≡ f → IsTurn told old (migrating (member_of old)) (turn_of k)
    go One same = act One same (written_whole Two k (is.from_one same))
    go Two same = act Two same (subst (λ (t : Turn D). IsTurn told old (verdict_alone (Keeps []) Accept) t) (sym (ap turn_of (is.in_two same))) (unchanged told old sound store Accept))
