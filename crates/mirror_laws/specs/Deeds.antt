-- Which events the deeds of a session over one disk or two each are (this project's profile).
use Rattle.std.specs.Prelude.{◌≡◌, ◌⊎◌, ℕ, suc, true, Option, Some, None, List, [], ◌∷◌, ◌++◌, length, map}
use Rattle.x_base.specs.declared.verdict.Verdict.{Verdict}
use Rattle.x_base.specs.declared.verdict.Verdict.TheVariants.{JournalFull}
use Rattle.x_disk.specs.Disk.{View, Tells}
use Rattle.key_journal.specs.Journal.{is_blank}
use Rattle.change_code.specs.Whole.{IsTooLarge}
use Rattle.change_code.specs.declared.format.Format.TheVariants.{Two}
use Rattle.key_store.specs.Store.{StandsWith}
use Rattle.member.specs.Member.{Member}
use Rattle.mirror_store.specs.Pairs.{Recovers}
use Rattle.mirror_store.specs.Opening.{HasFirstSpace}
use Rattle.x_party.specs.declared.outcome.Outcome.{Outcome}
use Rattle.x_party.specs.declared.outcome.Outcome.TheVariants as outcome
use Rattle.world_laws.specs.World.{World, member_at}
use Rattle.world_laws.specs.Events.{Action, Compacts, Migrates, Event, Whole, CutNew}
use Rattle.world_laws.specs.Laws.{OneKeyPerCount, Once, Agreement, EndedBoth}
use Rattle.call_laws.specs.Deeds.{event_of, IsCutOrNone, IsCallOf}
use Rattle.call_laws.specs.Sessions.{reply_of}
use Rattle.mirror_laws.specs.Batches.{IsBatchOf}
use Rattle.mirror_laws.specs.Runs.{Which, FirstDisk, SecondDisk, PairEvent, Happens, Loses, pair_run, ArePairEvents, HonestPairRun}
use Rattle.mirror_laws.specs.Sessions.{Tending, Compacting, Migrating, Wiping, PairDeed, Called, CutOff, Shown, ShowCutOff, Tended, TendCutOff, Batched, Aside, PowerFails, Lost}

-- the event is cut off with the new state, or there is none
abbrev pub IsCutNewOrNone : List ℕ → Action → ℕ → List PairEvent → Type 0
IsCutNewOrNone name action moment es = (es ≡ []) ⊎ (es ≡ Happens (event_of name action moment CutNew) ∷ [])

-- a crash may leave the disk blank
pub record MayBeBlank (v : View) : Type 0 where
  pub image : List ℕ
  pub left : v.may_leave image
  pub blank : is_blank image ≡ true

-- where a crash could leave the first disk blank, its space may be that of one frame, as after its loss; nothing else changes
abbrev pub IsLostAgainOrNot : List ℕ → View → List PairEvent → Type 0
IsLostAgainOrNot name first es = (es ≡ []) ⊎ (MayBeBlank first × (es ≡ Loses name FirstDisk ∷ []))

-- of a call that failed or was cut off: its event cut off, or none, and behind it such a loss, or none. `first` is what its first
-- disk told before
pub record IsUnanswered (name : List ℕ) (action : Action) (moment : ℕ) (first : View) (es : List PairEvent) : Type 0 where
  pub event : List PairEvent
  pub loss : List PairEvent
  pub whole : es ≡ event ++ loss
  pub is_event : IsCutNewOrNone name action moment event
  pub is_loss : IsLostAgainOrNot name first loss

-- JournalFull is answered and nothing handed out: no event
pub record IsHeldBackCall (verdict : Verdict) (reply : Option (List ℕ)) (es : List PairEvent) : Type 0 where
  pub said : verdict ≡ JournalFull
  pub silent : reply ≡ None
  pub none : es ≡ []

-- of a call that answered it is the whole event, or none, where it was held back; of one that ended with a fault or with no memory
-- as above
abbrev pub IsPairCallOf : Outcome → List ℕ → Action → ℕ → View → List PairEvent → Type 0
IsPairCallOf (outcome.Done reply) name action moment first es = es ≡ Happens (event_of name action moment Whole) ∷ []
IsPairCallOf (outcome.Refused verdict reply) name action moment first es = (es ≡ Happens (event_of name action moment Whole) ∷ []) ⊎ IsHeldBackCall verdict reply es
IsPairCallOf (outcome.OtherParty asked found) name action moment first es = ⊥
IsPairCallOf (outcome.Damaged place) name action moment first es = ⊥
IsPairCallOf outcome.Fault name action moment first es = IsUnanswered name action moment first es
IsPairCallOf outcome.NoMemory name action moment first es = IsUnanswered name action moment first es

-- these are such events of the network, and no loss
pub record OnlyHappen (are : List Event → Type 0) (es : List PairEvent) : Type 0 where
  pub events : List Event
  pub is : are events
  pub whole : es ≡ map Happens events

-- over one disk a call is what it is in a session over one disk each; over two disks it is that above

abbrev pub IsCallOn : Option (List ℕ) → Outcome → List ℕ → Action → ℕ → View → List PairEvent → Type 0
IsCallOn None o name action moment first es = OnlyHappen (IsCallOf o name action moment) es
IsCallOn (Some second) o name action moment first es = IsPairCallOf o name action moment first es

abbrev pub IsCutOn : Option (List ℕ) → List ℕ → Action → ℕ → View → List PairEvent → Type 0
IsCutOn None name action moment first es = OnlyHappen (IsCutOrNone name action moment) es
IsCutOn (Some second) name action moment first es = IsUnanswered name action moment first es

-- of a call that was to write a party whole on its first disk it is the whole event; none, where it was refused; and where it ended
-- with a fault or with no memory, the event cut off with the new state, or none
abbrev pub IsRewritingOf : Outcome → List ℕ → Action → ℕ → List PairEvent → Type 0
IsRewritingOf (outcome.Done reply) name action moment es = es ≡ Happens (event_of name action moment Whole) ∷ []
IsRewritingOf (outcome.Refused verdict reply) name action moment es = es ≡ []
IsRewritingOf (outcome.OtherParty asked found) name action moment es = ⊥
IsRewritingOf (outcome.Damaged place) name action moment es = ⊥
IsRewritingOf outcome.Fault name action moment es = IsCutNewOrNone name action moment es
IsRewritingOf outcome.NoMemory name action moment es = IsCutNewOrNone name action moment es

-- the format and the room of a member are those of its first disk: a compaction or a migration of that is an event; what is done
-- with the second is none, nor is wiping
abbrev pub IsTendingOf : Which → Tending → Outcome → List ℕ → ℕ → List PairEvent → Type 0
IsTendingOf FirstDisk Compacting o name moment es = IsRewritingOf o name Compacts moment es
IsTendingOf FirstDisk Migrating o name moment es = IsRewritingOf o name Migrates moment es
IsTendingOf FirstDisk Wiping o name moment es = es ≡ []
IsTendingOf SecondDisk t o name moment es = es ≡ []

-- where the power failed in it
abbrev pub IsCutTendingOf : Which → Tending → List ℕ → ℕ → List PairEvent → Type 0
IsCutTendingOf FirstDisk Compacting name moment es = IsCutNewOrNone name Compacts moment es
IsCutTendingOf FirstDisk Migrating name moment es = IsCutNewOrNone name Migrates moment es
IsCutTendingOf FirstDisk Wiping name moment es = es ≡ []
IsCutTendingOf SecondDisk t name moment es = es ≡ []

-- The events of a deed, and the texts that they write: those of a call as above, and what it handed out; of a show none, or a loss as
-- above; of a batch those of its entries; none where no party's disk is written, nor of a failure of power while none is; that loss of a
-- loss. `disks` and `after` are what the shelf tells of each disk before and after
abbrev pub IsOfPairDeed : (List ℕ → Option (List ℕ)) → PairDeed → (List ℕ → View) → (List ℕ → View) → List PairEvent → List (List ℕ) → Type 0
IsOfPairDeed mirror (Called name action moment o) disks after es texts = IsCallOn (mirror name) o name action moment (disks name) es × (texts ≡ reply_of o)
IsOfPairDeed mirror (CutOff name action moment o) disks after es texts = IsCutOn (mirror name) name action moment (disks name) es × (texts ≡ [])
IsOfPairDeed mirror (Shown name) disks after es texts = IsLostAgainOrNot name (disks name) es × (texts ≡ [])
IsOfPairDeed mirror (ShowCutOff name) disks after es texts = IsLostAgainOrNot name (disks name) es × (texts ≡ [])
IsOfPairDeed mirror (Tended name which t moment o) disks after es texts = IsTendingOf which t o name moment es × (texts ≡ [])
IsOfPairDeed mirror (TendCutOff name which t moment o) disks after es texts = IsCutTendingOf which t name moment es × (texts ≡ [])
IsOfPairDeed mirror (Batched name spool text entries o) disks after es texts = IsBatchOf name text entries (disks spool) (after spool) o es texts
IsOfPairDeed mirror Aside disks after es texts = (es ≡ []) × (texts ≡ [])
IsOfPairDeed mirror PowerFails disks after es texts = (es ≡ []) × (texts ≡ [])
IsOfPairDeed mirror (Lost name which) disks after es texts = (es ≡ Loses name which ∷ []) × (texts ≡ [])

-- the events are those of the first deed, and then those of the others, and so are the texts
pub record IsPairFollowed (first_is rest : List PairEvent → List (List ℕ) → Type 0) (es : List PairEvent) (texts : List (List ℕ)) : Type 0 where
  pub first : List PairEvent
  pub others : List PairEvent
  pub whole : es ≡ first ++ others
  pub first_texts : List (List ℕ)
  pub other_texts : List (List ℕ)
  pub all : texts ≡ first_texts ++ other_texts
  pub is : first_is first first_texts
  pub follow : rest others other_texts

-- the events of the deeds, in their order, and the texts; the first is done over the disks of this number
abbrev pub AreOfPairDeeds : (List ℕ → Option (List ℕ)) → List PairDeed → ℕ → (ℕ → List ℕ → View) → List PairEvent → List (List ℕ) → Type 0
AreOfPairDeeds mirror [] k disks es texts = (es ≡ []) × (texts ≡ [])
AreOfPairDeeds mirror (d ∷ ds) k disks es texts = IsPairFollowed (IsOfPairDeed mirror d (disks k) (disks (suc k))) (AreOfPairDeeds mirror ds (suc k) disks) es texts

-- the member's party is the one to be opened of the two images, with its space; the space isn't said where the first image is blank
-- and the party is too large to be written over it
pub record RecoversAs (first second : List ℕ) (x : Member) : Type 0 where
  pub recovers : Recovers first second x.party
  pub space : HasFirstSpace first x.party x.space ⊎ ((is_blank first ≡ true) × IsTooLarge Two x.party)

-- the image of its one disk stands for the member, with its space; or those of its two recover it
abbrev pub AreImagesOf : Option (List ℕ) → List ℕ → (List ℕ → List ℕ) → Member → Type 0
AreImagesOf None name image x = StandsWith (image name) x.party x.space
AreImagesOf (Some second) name image x = RecoversAs (image name) (image second) x

-- a crash may leave these images of the disks of a member
pub record MayLeaveOf (mirror : List ℕ → Option (List ℕ)) (disks : List ℕ → View) (name : List ℕ) (image : List ℕ → List ℕ) : Type 0 where
  pub first : (disks name).may_leave (image name)
  pub second : (other : List ℕ) → mirror name ≡ Some other → (disks other).may_leave (image other)

-- of the disks of each member
abbrev pub AllMayLeave : (List ℕ → Option (List ℕ)) → (List ℕ → View) → World → (List ℕ → List ℕ) → Type 0
AllMayLeave mirror disks w image = (name : List ℕ) (x : Member) → member_at name w.members ≡ Some x → MayLeaveOf mirror disks name image

-- there are events of these deeds after which the images stand for the members, and the network has written the texts of these deeds;
-- so the laws hold of it. `image` is an image of each disk
pub record EndsAsPairDone (start : World) (mirror : List ℕ → Option (List ℕ)) (deeds : List PairDeed) (disks : ℕ → List ℕ → View) (image : List ℕ → List ℕ) : Type 0 where
  pub events : List PairEvent
  pub texts : List (List ℕ)
  pub of_deeds : AreOfPairDeeds mirror deeds 0 disks events texts
  pub are_events : ArePairEvents events
  pub images : (name : List ℕ) (x : Member) → member_at name (pair_run 1 start events).members ≡ Some x → AreImagesOf (mirror name) name image x
  pub texts_are : (pair_run 1 start events).texts ≡ start.texts ++ texts
  pub counts : OneKeyPerCount (pair_run 1 start events)
  pub once : Once (pair_run 1 start events)
  pub agreement : HonestPairRun 1 start events → Agreement (pair_run 1 start events)
  pub ended : HonestPairRun 1 start events → EndedBoth (pair_run 1 start events)

-- the disks of each member tell, and the session ends so whichever images of them a crash may leave
pub record EndsOnAllImages (start : World) (mirror : List ℕ → Option (List ℕ)) (deeds : List PairDeed) (disks : ℕ → List ℕ → View) : Type 0 where
  pub first_tells : (name : List ℕ) (x : Member) → member_at name start.members ≡ Some x → Tells (disks (length deeds) name)
  pub second_tells : (name second : List ℕ) (x : Member) → member_at name start.members ≡ Some x → mirror name ≡ Some second → Tells (disks (length deeds) second)
  pub ends : (image : List ℕ → List ℕ) → AllMayLeave mirror (disks (length deeds)) start image → EndsAsPairDone start mirror deeds disks image
