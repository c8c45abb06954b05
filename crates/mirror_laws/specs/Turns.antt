-- What a party over two disks does with an input, as an event of each network of which it is a member; and what a crash leaves of
-- it, and the loss of a disk (this project's profile).
use Rattle.std.specs.Prelude.{◌≡◌, ◌⊎◌, ℕ, true, false, Option, Some, None, List, ◌∷◌, ◌++◌, option_to_list, Ok}
use Rattle.x_base.specs.declared.verdict.Verdict.{Verdict}
use Rattle.x_base.specs.declared.verdict.Verdict.TheVariants.{JournalFull}
use Rattle.x_disk.specs.Disk.{View, Tells}
use Rattle.key_journal.specs.Journal.{is_blank}
use Rattle.party_state.specs.declared.command.Input.{Input}
use Rattle.party_state.specs.declared.command.Input.TheVariants as input
use Rattle.key_store.specs.Store.{StandsWith}
use Rattle.member.specs.Member.{Member, plan_at}
use Rattle.node_core.specs.Turns.{member_of}
use Rattle.disk_pair.specs.declared.disks.Disks.{Disks}
use Rattle.mirror_store.specs.Pairs.{Recovers, Twin}
use Rattle.mirror_store.specs.Answers.{turn_disks}
use Rattle.mirror_store.specs.Opening.{AreRead, IsPairOpened}
use Rattle.mirror_store.specs.Turns.{fits_frame}
use Rattle.mirror_store.specs.declared.mirror.PairTurn.{PairTurn}
use Rattle.mirror_store.specs.declared.mirror.PairTurn.TheVariants.{Done, Refused, Broken, NoMemory}
use Rattle.world_laws.specs.World.{World, member_at}
use Rattle.world_laws.specs.Events.{Action, Orders, Hears, Completion, Whole, CutOld, IsCutOff, Event}
use Rattle.call_laws.specs.Calls.{event_at, InEveryNetwork}
use Rattle.mirror_laws.specs.Runs.{Which, FirstDisk, SecondDisk, PairEvent, Happens, pair_run, losses}

-- the action of an input: of a message with the bytes in which it is heard
abbrev pub action_of : List ℕ → Input → Action
action_of bytes (input.Ordered c) = Orders c
action_of bytes (input.Arrived a) = Hears bytes (Some a)

-- the event of an input at a member, whole or cut off
abbrev pub turn_event : Member → List ℕ → Input → ℕ → Completion → Event
turn_event x bytes i moment completion = event_at x moment (action_of bytes i) completion

-- the whole event: the member is the party that is handed out, with the space of its first disk, and what is handed out with it is
-- the text that was written
pub record IsWholeTurn {D : Type 0} (x : Member) (e : Event) (new : Twin D) (reply : Option (List ℕ)) : Type 0 where
  pub member : InEveryNetwork x e (λ w later. member_at x.party.own later.members ≡ Some (member_of new.first))
  pub texts : InEveryNetwork x e (λ w later. later.texts ≡ w.texts ++ option_to_list reply)

-- the party after the input would be too large for one frame: the event is cut off with the old state, and nothing is said
pub record IsHeldBack (x : Member) (i : Input) (moment : ℕ) (cut : Event) (verdict : Verdict) (reply : Option (List ℕ)) : Type 0 where
  pub too_large : fits_frame x.party (plan_at x i moment).edits ≡ false
  pub said : verdict ≡ JournalFull
  pub silent : reply ≡ None
  pub nothing : InEveryNetwork x cut (λ w later. later ≡ w)

-- a turn that is answered is the event of its input: whole, or held back; where no memory was left nothing happened
abbrev pub IsMirrorTurn : {D : Type 0} → Twin D → List ℕ → Input → ℕ → PairTurn D → Type 0
IsMirrorTurn old bytes i moment (Done new reply under) = IsWholeTurn (member_of old.first) (turn_event (member_of old.first) bytes i moment Whole) new reply
IsMirrorTurn old bytes i moment (Refused new verdict reply under) = (new ≡ old) × (IsWholeTurn (member_of old.first) (turn_event (member_of old.first) bytes i moment Whole) new reply
    ⊎ IsHeldBack (member_of old.first) i moment (turn_event (member_of old.first) bytes i moment CutOld) verdict reply)
IsMirrorTurn old bytes i moment (Broken u) = Unit {0}
IsMirrorTurn old bytes i moment (NoMemory new) = new ≡ old

-- what the two disks give then: images that each may leave; or the one that is lost gives a blank one
abbrev pub AreLeft : (List ℕ → Type 0) → (List ℕ → Type 0) → Option Which → List ℕ → List ℕ → Type 0
AreLeft P Q None first second = P first × Q second
AreLeft P Q (Some FirstDisk) first second = (is_blank first ≡ true) × Q second
AreLeft P Q (Some SecondDisk) first second = P first × (is_blank second ≡ true)

-- of two images that are left the party is opened that a member is after these events, with its space
pub record IsLeftAs {D : Type 0} (told : D → View) (x : Member) (events : List PairEvent) (first second : List ℕ) : Type 0 where
  pub member : Member
  pub at : (n : ℕ) (w : World) → member_at x.party.own w.members ≡ Some x → member_at x.party.own (pair_run n w events).members ≡ Some member
  pub recovers : Recovers first second member.party
  pub space : is_blank first ≡ false → StandsWith first member.party member.space
  pub opened : (disks : Disks D) (m : Twin D) → AreRead (told disks.first) (told disks.second) first second → IsPairOpened told disks (Ok m) → member_of m.first ≡ member

-- they are left by the event that is cut off, and the loss behind it
pub record IsLeftCut {D : Type 0} (told : D → View) (x : Member) (e : Completion → Event) (lost : Option Which) (first second : List ℕ) : Type 0 where
  pub completion : Completion
  pub cut : IsCutOff completion
  pub left : IsLeftAs told x (Happens (e completion) ∷ losses x.party.own lost) first second

-- what a crash at any moment of a turn leaves of the two disks, and the loss of one of them
abbrev pub IsMirrorCut : {D : Type 0} → (D → View) → Twin D → List ℕ → Input → ℕ → PairTurn D → Type 0
IsMirrorCut told old bytes i moment t = Tells (told old.first.disk) → Tells (told old.second.disk) → (lost : Option Which) (first second : List ℕ)
    → AreLeft ((told (turn_disks t).first).left_since (told old.first.disk).moment) ((told (turn_disks t).second).left_since (told old.second.disk).moment) lost first second
    → IsLeftCut told (member_of old.first) (turn_event (member_of old.first) bytes i moment) lost first second

-- what a crash now leaves of the two disks, and the loss of one of them
abbrev pub AreLeftNow : {D : Type 0} → (D → View) → Twin D → Option Which → List ℕ → List ℕ → Type 0
AreLeftNow told old lost first second = Tells (told old.first.disk) × Tells (told old.second.disk) × AreLeft (told old.first.disk).may_leave (told old.second.disk).may_leave lost first second

-- what a crash at any moment of an opening of two such images leaves, where the first isn't blank, is opened as the same member,
-- also where the second disk is lost then
pub record IsLeftAgain {D : Type 0} (told : D → View) (x : Member) (events : List PairEvent) (disks opened : Disks D) : Type 0 where
  pub both : (i j : List ℕ) → (told opened.first).left_since (told disks.first).moment i → (told opened.second).left_since (told disks.second).moment j → IsLeftAs told x events i j
  pub second_lost : (i j : List ℕ) → (told opened.first).left_since (told disks.first).moment i → is_blank j ≡ true → IsLeftAs told x events i j
