-- Some outcome is due of a call over an image of bytes.
use Rattle.std.proofs.Common.{◌≡◌, ◌≢◌, inl, inr, ℕ, Bool, true, false, List, Option, Some, None, refl}
use Rattle.x_base.specs.declared.verdict.Verdict.TheVariants.{Accept, JournalFull, NotEmpty, Blank}
use Rattle.key_journal.specs.Journal.{is_blank}
use Rattle.key_journal.specs.Opening.{AreBytes}
use Rattle.party_state.specs.declared.command.Input.{Input}
use Rattle.party_state.specs.State.{Party}
use Rattle.party_show.specs.Show.{shown}
use Rattle.key_journal.specs.States.{room_of}
use Rattle.change_code.specs.declared.format.Format.{Format}
use Rattle.change_code.specs.declared.space.Space.{Space}
use Rattle.change_code.specs.Cost.{fits}
use Rattle.key_store.specs.Store.{Stands, StandsWith, IsNothing}
use Rattle.member.specs.Deciding.{decision}
use Rattle.x_party.specs.Asking.{IsDueAnswer}
use Rattle.x_party.specs.Outcomes.{IsTooLargeIn}
use Rattle.x_party.specs.Dues.{IsDue, IsDueRewriting, IsDueCreation, IsDueShow, IsDueWiping}
use Rattle.x_party.specs.declared.outcome.Outcome.{Outcome}
use Rattle.x_party.specs.declared.outcome.Outcome.TheVariants as outcome

is_false : (b : Bool) → (b ≡ true → ⊥) → b ≡ false
is_false true never = absurd (never refl)
is_false false never = refl

creation_of : (image : List ℕ) (b : Bool) → is_blank image ≡ b → (o : Outcome) × IsDueCreation image o
creation_of image true blank = (outcome.Done None, (refl, blank))
creation_of image false marked = (outcome.Refused NotEmpty None, (refl, refl, marked))

pub creation_due : (image : List ℕ) → (o : Outcome) × IsDueCreation image o
creation_due image = creation_of image (is_blank image) refl

module _ (one_of : (image : List ℕ) → AreBytes image → IsNothing image → ⊥) where
  pub turn_due : (name : List ℕ) (i : Input) (moment : ℕ) (image : List ℕ) → AreBytes image → ((o : Outcome) → IsDue name i moment image o → ⊥) → ⊥
  turn_due name i moment image bytes never = one_of image bytes (record {
    not_blank = is_false (is_blank image) (λ blank. never (outcome.Refused Blank None) (inr (record { blank = blank; said = refl; written = refl })));
    no_party = no_party;
    undamaged = λ place first. never (outcome.Damaged place) first;
  }) where
    no_party : (party : Party) → Stands image party → ⊥
    no_party party stood =
        let d = decision party i moment in
        let space : Space = record { format = stood.format; room = room_of stood.stands.bodies } in
        let with : StandsWith image party space = record { bodies = stood.stands.bodies; holds = stood.stands.holds; fold = stood.stands.fold; left = refl } in
        let other : (party.own ≢ name) → ⊥ = λ differs. never (outcome.OtherParty name party.own)
        (record { party = party; stood = stood; called = refl; own = refl; differs = differs }) in
        other (λ own.
        let refuses : (d.verdict ≢ Accept) → ⊥ = λ refused. never (outcome.Refused d.verdict d.reply)
        (inl (record { party = party; space = space; stood = with; own = own; cause = inl (record { refuses = refused; verdict = refl; reply = refl }) })) in
        refuses (λ accepted.
        let full : fits space d.change ≡ false → ⊥ = λ full. never (outcome.Refused JournalFull None)
        (inl (record { party = party; space = space; stood = with; own = own; cause = inr (record { accepts = accepted; full = full; verdict = refl; reply = refl }) })) in
        let accepts : fits space d.change ≡ true → ⊥ = λ fit. never (outcome.Done d.reply)
        (record { party = party; space = space; stood = with; own = own; accepted = accepted; fits = fit; written = refl }) in
        full (is_false (fits space d.change) accepts)))

  pub show_due : (image : List ℕ) → AreBytes image → ((o : Outcome) → IsDueShow image o → ⊥) → ⊥
  show_due image bytes never = one_of image bytes (record {
    not_blank = is_false (is_blank image) (λ blank. never (outcome.Refused Blank None) (record { blank = blank; said = refl; written = refl }));
    no_party = λ party stood. never (outcome.Done (Some (shown party))) (party, stood, refl);
    undamaged = λ place first. never (outcome.Damaged place) first;
  })

  pub asking_due : (answer : Party → Outcome) (image : List ℕ) → AreBytes image → ((o : Outcome) → IsDueAnswer answer image o → ⊥) → ⊥
  asking_due answer image bytes never = one_of image bytes (record {
    not_blank = is_false (is_blank image) (λ blank. never (outcome.Refused Blank None) (inr (record { blank = blank; said = refl; written = refl })));
    no_party = λ party stood. never (answer party) (inl (party, stood, refl));
    undamaged = λ place first. never (outcome.Damaged place) (inr first);
  })

  pub rewriting_due : (format : Format → Option Format) (image : List ℕ) → AreBytes image → ((o : Outcome) → IsDueRewriting format image o → ⊥) → ⊥
  rewriting_due format image bytes never = one_of image bytes (record {
    not_blank = is_false (is_blank image) (λ blank. never (outcome.Refused Blank None) (inr (record { blank = blank; said = refl; written = refl })));
    no_party = no_party;
    undamaged = λ place first. never (outcome.Damaged place) first;
  }) where
    no_party : (party : Party) → Stands image party → ⊥
    no_party party stood =
        let small : IsTooLargeIn (format stood.format) party → ⊥ = λ large. never (outcome.Refused JournalFull None)
        (inl (record { party = party; own = stood.format; stood = stood.stands; too_large = large; said = refl; nothing = refl })) in
        never (outcome.Done None) (record { party = party; own = stood.format; stood = stood.stands; fits = small; nothing = refl })

  pub wiping_due : (image : List ℕ) → AreBytes image → ((o : Outcome) → IsDueWiping image o → ⊥) → ⊥
  wiping_due image bytes never = one_of image bytes (record {
    not_blank = is_false (is_blank image) (λ blank. never (outcome.Refused Blank None) (record { blank = blank; said = refl; written = refl }));
    no_party = λ party stood. never (outcome.Done None) (record { party = party; stood = stood; nothing = refl });
    undamaged = λ place first. never (outcome.Damaged place) first;
  })
