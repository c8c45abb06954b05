-- A party is created on two disks.
use Rattle.std.proofs.Common.{◌≡◌, ◌⊎◌, inl, inr, ℕ, true, false, List, None, Ok, Err, refl, sym, ◌∙◌, ap, subst}
use Rattle.x_disk.specs.Disk.{View, IsUntouched}
use Rattle.key_journal.specs.Journal.{is_blank}
use Rattle.key_journal.specs.declared.cause.Cause.TheVariants as cause
use Rattle.party_state.specs.State.{Party, begun}
use Rattle.change_code.specs.Cost.{space_of_whole}
use Rattle.change_code.specs.declared.format.Format.TheVariants.{Two}
use Rattle.change_code.specs.declared.space.Space.{Space}
use Rattle.x_base.specs.declared.party.Role.{Role}
use Rattle.x_gen.specs.declared.generator.Gen.{Gen}
use Rattle.key_store.specs.Store.{Stored, IsStore, space}
use Rattle.disk_pair.specs.declared.disks.Disks.{Disks}
use Rattle.mirror_store.specs.Pairs.{IsKeptOn, Twin}
use Rattle.mirror_store.specs.Answers.{twin_disks}
use Rattle.mirror_store.specs.Creating.{IsPairCreated, IsUncreated}
use Rattle.mirror_store.specs.declared.pair.PairCause.{PairCause}
use Rattle.mirror_store.specs.declared.pair.PairCause.TheVariants.{First, Second, OtherParty, TooLarge}
use Rattle.mirror_store.specs.declared.pair.PairUnmade.{PairUnmade}
use Rattle.x_party.specs.Images.{DiskStandsFor}
use Rattle.x_party.specs.declared.outcome.Outcome.{Outcome}
use Rattle.x_party.specs.declared.outcome.Outcome.TheVariants as outcome
use Rattle.x_pair.specs.Creations.{CreatesPair, GivesDueCreation, IsDueOfTwo, IsDueOrFailed, DiskStandsAnew, StandsWhereDone}
use Rattle.x_pair.specs.Steps.{HasCreated, outcome_of_pair}
use Rattle.x_party.proofs.Alike.{store_stands}
use Rattle.x_pair.proofs.Opened.{refused_rose}

-- why it isn't created
uncreated_due : (i j : List ℕ) (reason : PairCause) → IsUncreated i j reason → IsDueOrFailed i j (outcome_of_pair reason)
uncreated_due i j (First cause.Blank) is = absurd is
uncreated_due i j (First cause.NotEmpty) is = (refl, refl, inl is)
uncreated_due i j (First (cause.Damaged place)) is = absurd is
uncreated_due i j (First cause.Fault) is = tt
uncreated_due i j (First cause.NoMemory) is = tt
uncreated_due i j (Second cause.Blank) is = absurd is
uncreated_due i j (Second cause.NotEmpty) is = (refl, refl, inr is.1)
uncreated_due i j (Second (cause.Damaged place)) is = absurd is
uncreated_due i j (Second cause.Fault) is = tt
uncreated_due i j (Second cause.NoMemory) is = tt
uncreated_due i j (OtherParty one other) is = absurd is
uncreated_due i j TooLarge is = absurd is

none_stands : (reason : PairCause) (a b : View) (own : List ℕ) (role : Role) (generator : Gen) → StandsWhereDone (outcome_of_pair reason) a b (begun own role generator)
none_stands (First cause.Blank) a b own role generator = tt
none_stands (First cause.NotEmpty) a b own role generator = tt
none_stands (First (cause.Damaged place)) a b own role generator = tt
none_stands (First cause.Fault) a b own role generator = tt
none_stands (First cause.NoMemory) a b own role generator = tt
none_stands (Second cause.Blank) a b own role generator = tt
none_stands (Second cause.NotEmpty) a b own role generator = tt
none_stands (Second (cause.Damaged place)) a b own role generator = tt
none_stands (Second cause.Fault) a b own role generator = tt
none_stands (Second cause.NoMemory) a b own role generator = tt
none_stands (OtherParty one other) a b own role generator = tt
none_stands TooLarge a b own role generator = tt

module _ {D : Type 0} (told : D → View) (own : List ℕ) (role : Role) (generator : Gen) (old : Disks D) where
  stands_alone : (s : Stored D) (party : Party) → IsStore (told s.disk) s.gate s.end s.format s.party → s.party ≡ party → space s ≡ space_of_whole Two party → DiskStandsAnew (told s.disk) party
  stands_alone s party store same left =
      subst (λ (p : Party). DiskStandsFor (told s.disk) p (space_of_whole Two party)) same
      (subst (λ (room : Space). DiskStandsFor (told s.disk) s.party room) left (store_stands (told s.disk) s.gate s.end s.format s.party store))

  first_stands : (m : Twin D) → IsPairCreated told own role generator old (Ok m) → DiskStandsAnew (told m.first.disk) (begun own role generator)
  first_stands m is = stands_alone m.first (begun own role generator) is.stand.first_stands is.party is.left.0

  -- what is kept on the first disk, where the second failed
  kept_first : (u : PairUnmade D) → IsUntouched (told old.second) (told u.disks.second) ⊎ IsKeptOn (told u.disks.first) (begun own role generator) (space_of_whole Two (begun own role generator))
      → IsUntouched (told old.second) (told u.disks.second) ⊎ DiskStandsAnew (told u.disks.first) (begun own role generator)
  kept_first u (inl still) = inl still
  kept_first u (inr kept) = inr (record { durable = kept.durable; reads = kept.stands })

  pub created : (m : Twin D) → IsPairCreated told own role generator old (Ok m) → (new : Disks D) → new ≡ twin_disks m → HasCreated (begun own role generator) told old new (outcome.Done None)
  created m is new same = subst (λ (n : Disks D). HasCreated (begun own role generator) told old n (outcome.Done None)) (sym same) (record {
    makes = record {
      is_due = λ i j read. (refl, (is.blank i j read).0, (is.blank i j read).1);
      stand = (first_stands m is, stands_alone m.second (begun own role generator) is.stand.second_stands (is.stand.same ∙ is.party) is.left.1);
    };
    safe = record {
      first_stays = is.first_stays;
      second_stays = is.second_stays;
      on_first = is.first_moments;
      on_second = is.second_moments;
      order = inr (first_stands m is);
      first_tells = is.keeps.first_tells;
      second_tells = is.keeps.second_tells;
    };
    faults = record { first_later = is.keeps.first_faults; second_later = is.keeps.second_faults; fault = λ bad. absurd (cc bad) };
  })

  pub not_created : (u : PairUnmade D) → IsPairCreated told own role generator old (Err u) → HasCreated (begun own role generator) told old u.disks (outcome_of_pair u.cause)
  not_created u is = record {
    makes = record {
      is_due = λ i j read. uncreated_due i j u.cause (is.refused i j read);
      stand = none_stands u.cause (told u.disks.first) (told u.disks.second) own role generator;
    };
    safe = record {
      first_stays = is.first_stays;
      second_stays = is.second_stays;
      on_first = is.first_moments;
      on_second = is.second_moments;
      order = kept_first u is.kept;
      first_tells = is.keeps.first_tells;
      second_tells = is.keeps.second_tells;
    };
    faults = record { first_later = is.keeps.first_faults; second_later = is.keeps.second_faults; fault = refused_rose told old u.disks u.cause is.fault };
  }

-- ---- one outcome is due

true_not_false : true ≡ false → ⊥
true_not_false is = cc is

not_blank : (i : List ℕ) → is_blank i ≡ true → is_blank i ≡ false → ⊥
not_blank i blank filled = true_not_false (sym blank ∙ filled)

neither : (i j : List ℕ) → is_blank i ≡ true → is_blank j ≡ true → (is_blank i ≡ false) ⊎ (is_blank j ≡ false) → ⊥
neither i j first second (inl filled) = not_blank i first filled
neither i j first second (inr filled) = not_blank j second filled

one_due : (i j : List ℕ) (o other : Outcome) → IsDueOfTwo i j o → IsDueOfTwo i j other → o ≡ other
one_due i j (outcome.Done reply) (outcome.Done answer) a b = ap outcome.Done (a.0 ∙ sym b.0)
one_due i j (outcome.Done reply) (outcome.Refused verdict answer) a b = absurd (neither i j a.1 a.2 b.2)
one_due i j (outcome.Refused verdict reply) (outcome.Done answer) a b = absurd (neither i j b.1 b.2 a.2)
one_due i j (outcome.Refused verdict reply) (outcome.Refused said answer) a b = rw (a.0, a.1, b.0, b.1) refl
one_due i j (outcome.Done reply) (outcome.OtherParty one two) a b = absurd b
one_due i j (outcome.Done reply) (outcome.Damaged place) a b = absurd b
one_due i j (outcome.Done reply) outcome.Fault a b = absurd b
one_due i j (outcome.Done reply) outcome.NoMemory a b = absurd b
one_due i j (outcome.Refused verdict reply) (outcome.OtherParty one two) a b = absurd b
one_due i j (outcome.Refused verdict reply) (outcome.Damaged place) a b = absurd b
one_due i j (outcome.Refused verdict reply) outcome.Fault a b = absurd b
one_due i j (outcome.Refused verdict reply) outcome.NoMemory a b = absurd b
one_due i j (outcome.OtherParty one two) other a b = absurd a
one_due i j (outcome.Damaged place) other a b = absurd a
one_due i j outcome.Fault other a b = absurd a
one_due i j outcome.NoMemory other a b = absurd a

gives : (i j : List ℕ) (o other : Outcome) → IsDueOrFailed i j o → IsDueOfTwo i j other → (o ≡ other) ⊎ ((o ≡ outcome.Fault) ⊎ (o ≡ outcome.NoMemory))
gives i j (outcome.Done reply) other a b = inl (one_due i j (outcome.Done reply) other a b)
gives i j (outcome.Refused verdict reply) other a b = inl (one_due i j (outcome.Refused verdict reply) other a b)
gives i j (outcome.OtherParty one two) other a b = absurd a
gives i j (outcome.Damaged place) other a b = absurd a
gives i j outcome.Fault other a b = inr (inl refl)
gives i j outcome.NoMemory other a b = inr (inr refl)

pub creation_due : (first second a b : View) (own : List ℕ) (role : Role) (generator : Gen) (o : Outcome) → CreatesPair (begun own role generator) first second a b o → GivesDueCreation first second o
creation_due first second a b own role generator o makes = λ i j other read due. gives i j o other (makes.is_due i j read) due
