-- A call over a party on two disks of a shelf, as an event of a network (this project's profile). `first` and `second` are what the
-- shelf tells of the two disks before, `first_after` and `second_after` what it tells afterwards.
use Rattle.std.specs.Prelude.{◌≡◌, ◌⊎◌, ℕ, Option, List, ◌++◌, option_to_list}
use Rattle.x_disk.specs.Disk.{View, LeavesOnly}
use Rattle.party_state.specs.declared.command.Input.{Input}
use Rattle.party_state.specs.State.{Party}
use Rattle.change_code.specs.declared.space.Space.{Space}
use Rattle.key_store.specs.Store.{StandsWith}
use Rattle.member.specs.Member.{Member}
use Rattle.mirror_store.specs.Pairs.{Recovers, IsAsBefore}
use Rattle.mirror_store.specs.Opening.{AreRead, HasFirstSpace}
use Rattle.x_party.specs.declared.outcome.Outcome.{Outcome}
use Rattle.x_party.specs.declared.outcome.Outcome.TheVariants as outcome
use Rattle.x_pair.specs.Outcomes.{BothStand, IsTooLargePair, left_on_first, left_on_second}
use Rattle.world_laws.specs.World.{HasMember}
use Rattle.world_laws.specs.Events.{Completion, Whole, CutOld, IsCutOff, Event}
use Rattle.call_laws.specs.Calls.{InEveryNetwork}
use Rattle.mirror_laws.specs.Turns.{turn_event, IsHeldBack}

-- the whole event: each image of either disk that a crash may leave stands for the party as it is then, with the space that the
-- first leaves, and what was handed out is the text that was written
pub record IsWholePairCall (x : Member) (e : Event) (first_after second_after : View) (reply : Option (List ℕ)) : Type 0 where
  pub stand : InEveryNetwork x e (λ w later. HasMember later x.party.own (λ party space. BothStand first_after second_after (record { party = party; space = space })))
  pub texts : InEveryNetwork x e (λ w later. later.texts ≡ w.texts ++ option_to_list reply)

-- a party that answered did the whole event; or it was held back, since the party after it would be too large for one frame, or
-- wasn't opened, since it is that itself
abbrev pub AnswersPair : Member → Input → ℕ → (Completion → Event) → List ℕ → List ℕ → View → View → Outcome → Type 0
AnswersPair x i moment e first second first_after second_after (outcome.Done reply) = IsWholePairCall x (e Whole) first_after second_after reply
AnswersPair x i moment e first second first_after second_after (outcome.Refused verdict reply) = IsWholePairCall x (e Whole) first_after second_after reply
    ⊎ ((IsHeldBack x i moment (e CutOld) verdict reply × BothStand first_after second_after x) ⊎ IsTooLargePair first second verdict reply)
AnswersPair x i moment e first second first_after second_after (outcome.OtherParty asked found) = ⊥
AnswersPair x i moment e first second first_after second_after (outcome.Damaged place) = ⊥
AnswersPair x i moment e first second first_after second_after outcome.Fault = Unit {0}
AnswersPair x i moment e first second first_after second_after outcome.NoMemory = Unit {0}

-- the image stands for the party as it is after the event that is cut off, with the space that this disk has for the member then
pub record IsCutPairCall (x : Member) (e : Completion → Event) (room : Member → Space) (image : List ℕ) : Type 0 where
  pub completion : Completion
  pub cut : IsCutOff completion
  pub stands : InEveryNetwork x (e completion) (λ w later. HasMember later x.party.own (λ party space. StandsWith image party (room (record { party = party; space = space }))))

-- an image that a crash may leave is that, or is as it was, or could be left before
abbrev pub IsPairCutOr : Member → (Completion → Event) → (Member → Space) → List ℕ → (List ℕ → Type 0) → List ℕ → Type 0
IsPairCutOr x e room was before image = IsCutPairCall x e room image ⊎ (IsAsBefore was image ⊎ before image)

-- the call is the event: whole, where the party answered; and whatever comes, a crash at any moment of it leaves on either disk
-- the party as it is after the event that is cut off: on the first with the space of the member, on the second
-- with the space that one frame of it in format 2 leaves
pub record IsPairCallEvent (x : Member) (bytes : List ℕ) (i : Input) (moment : ℕ) (was_first was_second : List ℕ) (first second first_after second_after : View) (o : Outcome) : Type 0 where
  pub whole : AnswersPair x i moment (turn_event x bytes i moment) was_first was_second first_after second_after o
  pub cut_first : LeavesOnly first first_after (IsPairCutOr x (turn_event x bytes i moment) left_on_first was_first first.may_leave)
  pub cut_second : LeavesOnly second second_after (IsPairCutOr x (turn_event x bytes i moment) left_on_second was_second second.may_leave)

-- the call is this input at the party of the name that is opened of the two images, with the space that its first disk has then
abbrev pub IsPairCall : List ℕ → List ℕ → Input → ℕ → View → View → View → View → Outcome → Type 0
IsPairCall name bytes i moment first second first_after second_after o = (was_first was_second : List ℕ) (party : Party) (space : Space) → AreRead first second was_first was_second
    → Recovers was_first was_second party → HasFirstSpace was_first party space → party.own ≡ name
    → IsPairCallEvent (record { party = party; space = space }) bytes i moment was_first was_second first second first_after second_after o
