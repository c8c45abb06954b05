-- A party is created on two disks: what the answer is, and what a crash leaves.
use Rattle.std.proofs.Common.{◌≡◌, ◌⊎◌, inl, inr, ℕ, List, true, false, Some, is_some, Result, Ok, Err, refl, sym, ◌∙◌, ap, subst, arith}
use Rattle.x_base.specs.declared.party.Role.{Role}
use Rattle.x_gen.specs.declared.generator.Gen.{Gen}
use Rattle.x_disk.specs.Disk.{View, Tells, LeavesOnly, IsSound, IsUntouched}
use Rattle.x_disk.proofs.Runs.{weaker, joined}
use Rattle.key_journal.specs.Journal.{is_blank}
use Rattle.key_journal.specs.Opening.{IsFree}
use Rattle.key_journal.specs.declared.cause.Cause.{Cause}
use Rattle.key_journal.specs.declared.cause.Cause.TheVariants as cause
use Rattle.key_journal.specs.declared.cause.Unmade.{Unmade}
use Rattle.party_state.specs.State.{Party, begun}
use Rattle.key_store.specs.Store.{Stored, StandsWith, IsBlankOrFirst, space}
use Rattle.key_store.specs.Creating.{IsNewStore}
use Rattle.mirror_store.specs.Pairs.{Twin}
use Rattle.mirror_store.specs.Creating.{IsLookedAt, IsUncreated, IsPairCreated, IsMadeTwice}
use Rattle.disk_pair.specs.declared.disks.Disks.{Disks}
use Rattle.mirror_store.specs.declared.pair.PairCause.TheVariants.{First, Second}
use Rattle.mirror_store.specs.declared.pair.PairUnmade.{PairUnmade}
use Rattle.x_disk.proofs.Alike.{untouched_self, untouched_then}
use Rattle.mirror_store.proofs.Moments.{stands_with}
use Rattle.mirror_store.proofs.Opened.{rose_later, first_same, second_same, never_first, never_second}

free_first : (i j : List ℕ) (reason : Cause) → IsFree reason → IsUncreated i j (First reason)
free_first i j cause.Blank free = absurd free
free_first i j cause.NotEmpty free = absurd free
free_first i j (cause.Damaged place) free = absurd free
free_first i j cause.Fault free = tt
free_first i j cause.NoMemory free = tt

free_second : (i j : List ℕ) (reason : Cause) → IsFree reason → IsUncreated i j (Second reason)
free_second i j cause.Blank free = absurd free
free_second i j cause.NotEmpty free = absurd free
free_second i j (cause.Damaged place) free = absurd free
free_second i j cause.Fault free = tt
free_second i j cause.NoMemory free = tt

not_first : (i j : List ℕ) (reason : Cause) → IsFree reason ⊎ ((reason ≡ cause.NotEmpty) × (is_blank i ≡ false)) → IsUncreated i j (First reason)
not_first i j reason (inl free) = free_first i j reason free
not_first i j reason (inr is) = subst (λ (r : Cause). IsUncreated i j (First r)) (sym is.0) is.1

never_both : true ≡ false → ⊥
never_both is = cc is

-- over a blank image a party isn't refused
free_made : (reason : Cause) (b : List ℕ) → is_blank b ≡ true → IsFree reason ⊎ ((reason ≡ cause.NotEmpty) × (is_blank b ≡ false)) → IsFree reason
free_made reason b blank (inl free) = free
free_made reason b blank (inr is) = absurd (never_both (sym blank ∙ is.1))

module _ {D : Type 0} (told : D → View) (own : List ℕ) (role : Role) (generator : Gen) where
  module _ (old : Disks D) (first_blank : (b : List ℕ) → (told old.first).now ≡ Some b → is_blank b ≡ true) (second_blank : (b : List ℕ) → (told old.second).now ≡ Some b → is_blank b ≡ true) where
    pub second_unmade : (one : Stored D) (u : Unmade D) → IsNewStore told own role generator old.first (Ok one) → IsNewStore told own role generator old.second (Err u)
        → IsMadeTwice told own role generator old (Err (record { disks = record { first = one.disk; second = u.disk }; cause = Second u.cause }))
    second_unmade one u first second = record {
      stand = tt;
      party = tt;
      left = tt;
      refused = λ i j read. free_second i j u.cause (free_made u.cause j (second_blank j read.second) (second.exact j read.second));
      first_moments = first.any_moment;
      second_moments = second.any_moment;
      order = λ reason is. absurd (never_first u.cause reason is);
      kept = inr (record {
        durable = first.stands.durable;
        stands = λ image now.
            subst (StandsWith image (begun own role generator)) first.left
            (subst (λ (p : Party). StandsWith image p (space one)) first.party (stands_with (told one.disk) one.gate one.end one.format one.party first.stands image now));
      });
      fault = record { first = λ is. absurd (never_first u.cause cause.Fault is); second = λ is. second.fault (second_same u.cause cause.Fault is) };
      keeps = record { first_faults = first.faults; second_faults = second.faults; first_tells = first.tells; second_tells = second.tells };
    }

  -- a look, and then a creation
  looked_moments : (old mid new : View) → IsUntouched old mid → (Tells mid → LeavesOnly mid new (λ c. IsBlankOrFirst (begun own role generator) c ⊎ mid.may_leave c))
      → Tells old → LeavesOnly old new (λ c. IsBlankOrFirst (begun own role generator) c ⊎ old.may_leave c)
  looked_moments old mid new look run tells =
      joined old mid new (λ c. IsBlankOrFirst (begun own role generator) c ⊎ old.may_leave c)
      (weaker old mid old.may_leave (λ c. IsBlankOrFirst (begun own role generator) c ⊎ old.may_leave c) look.any_moment (λ c left. inr left))
      (weaker mid new (λ c. IsBlankOrFirst (begun own role generator) c ⊎ mid.may_leave c) (λ c. IsBlankOrFirst (begun own role generator) c ⊎ old.may_leave c) (run (ap is_some look.now ∙ tells))
      (λ c either. elim either [ inl is ↦ inl is | inr left ↦ inr (look.images c left) ]))

  only_looked : (old mid : View) → IsUntouched old mid → Tells old → LeavesOnly old mid (λ c. IsBlankOrFirst (begun own role generator) c ⊎ old.may_leave c)
  only_looked old mid look tells = weaker old mid old.may_leave (λ c. IsBlankOrFirst (begun own role generator) c ⊎ old.may_leave c) look.any_moment (λ c left. inr left)

  blank_either : (P : Type 0) (i j : List ℕ) → is_blank i ≡ true → is_blank j ≡ true → (is_blank i ≡ false) ⊎ (is_blank j ≡ false) → P
  blank_either P i j first second (inl is) = absurd (never_both (sym first ∙ is))
  blank_either P i j first second (inr is) = absurd (never_both (sym second ∙ is))

  module _ (old : Disks D) where
    module _ (mid_first mid_second : D) (first : IsLookedAt told old.first (Ok mid_first)) (second : IsLookedAt told old.second (Ok mid_second)) where
      abbrev mid : Disks D
      mid = record { first = mid_first; second = mid_second }

      pub created : (result : Result (Twin D) (PairUnmade D)) → IsMadeTwice told own role generator mid result → IsPairCreated told own role generator old result
      created (Ok m) made = record {
        stand = made.stand;
        party = made.party;
        left = made.left;
        blank = λ i j read. (first.blank i read.first, second.blank j read.second);
        refused = tt;
        first_stays = λ i j read either. blank_either (IsUntouched (told old.first) (told m.first.disk)) i j (first.blank i read.first) (second.blank j read.second) either;
        second_stays = λ i j read either. blank_either (IsUntouched (told old.second) (told m.second.disk)) i j (first.blank i read.first) (second.blank j read.second) either;
        first_moments = looked_moments (told old.first) (told mid_first) (told m.first.disk) first.untouched made.first_moments;
        second_moments = looked_moments (told old.second) (told mid_second) (told m.second.disk) second.untouched made.second_moments;
        order = tt;
        kept = tt;
        fault = tt;
        keeps = record {
          first_faults = omega (arith, first.faults, made.keeps.first_faults);
          second_faults = omega (arith, second.faults, made.keeps.second_faults);
          first_tells = made.keeps.first_tells ∙ ap is_some first.untouched.now;
          second_tells = made.keeps.second_tells ∙ ap is_some second.untouched.now;
        };
      }
      created (Err u) made = record {
        stand = tt;
        party = tt;
        left = tt;
        blank = tt;
        refused = λ i j read. made.refused i j (record { first = first.untouched.now ∙ read.first; second = second.untouched.now ∙ read.second });
        first_stays = λ i j read either. blank_either (IsUntouched (told old.first) (told u.disks.first)) i j (first.blank i read.first) (second.blank j read.second) either;
        second_stays = λ i j read either. blank_either (IsUntouched (told old.second) (told u.disks.second)) i j (first.blank i read.first) (second.blank j read.second) either;
        first_moments = looked_moments (told old.first) (told mid_first) (told u.disks.first) first.untouched made.first_moments;
        second_moments = looked_moments (told old.second) (told mid_second) (told u.disks.second) second.untouched made.second_moments;
        order = λ reason is. untouched_then (told old.second) (told mid_second) (told u.disks.second) second.untouched (made.order reason is);
        kept = elim made.kept [ inl still ↦ inl (untouched_then (told old.second) (told mid_second) (told u.disks.second) second.untouched still) | inr stands ↦ inr stands ];
        fault = record {
          first = λ is. rose_later (told old.first).faults (told mid_first).faults (told u.disks.first).faults first.faults (made.fault.first is);
          second = λ is. rose_later (told old.second).faults (told mid_second).faults (told u.disks.second).faults second.faults (made.fault.second is);
        };
        keeps = record {
          first_faults = omega (arith, first.faults, made.keeps.first_faults);
          second_faults = omega (arith, second.faults, made.keeps.second_faults);
          first_tells = made.keeps.first_tells ∙ ap is_some first.untouched.now;
          second_tells = made.keeps.second_tells ∙ ap is_some second.untouched.now;
        };
      }

    pub first_looked : IsSound (told old.second) → (u : Unmade D) → IsLookedAt told old.first (Err u)
        → IsPairCreated told own role generator old (Err (record { disks = record { first = u.disk; second = old.second }; cause = First u.cause }))
    first_looked sound u first = record {
      stand = tt;
      party = tt;
      left = tt;
      blank = tt;
      refused = λ i j read. not_first i j u.cause (first.exact i read.first);
      first_stays = λ i j read either. first.untouched;
      second_stays = λ i j read either. untouched_self (told old.second) sound;
      first_moments = only_looked (told old.first) (told u.disk) first.untouched;
      second_moments = only_looked (told old.second) (told old.second) (untouched_self (told old.second) sound);
      order = λ reason is. untouched_self (told old.second) sound;
      kept = inl (untouched_self (told old.second) sound);
      fault = record { first = λ is. first.fault (first_same u.cause cause.Fault is); second = λ is. absurd (never_second u.cause cause.Fault is) };
      keeps = record { first_faults = first.faults; second_faults = omega arith; first_tells = ap is_some first.untouched.now; second_tells = refl };
    }
