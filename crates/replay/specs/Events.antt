-- A planned event at a party that was taken out: whole, stopped, or broken off (this project's profile).
use Rattle.std.specs.Prelude.{◌≡◌, ◌⊎◌, ◌++◌, ℕ, Bool, true, List, Option, Result, IfOk, IfErr, is_some, option_to_list}
use Rattle.x_base.specs.declared.verdict.Verdict.{Verdict}
use Rattle.x_disk.specs.Disk.{View, Tells}
use Rattle.party_state.specs.declared.command.Input.{Input}
use Rattle.change_code.specs.Cost.{is_change}
use Rattle.key_store.specs.Store.{Stored}
use Rattle.member.specs.Member.{Member, after}
use Rattle.node_core.specs.Planned.{PlannedNode}
use Rattle.node_core.specs.Turns.{member_of}
use Rattle.world_laws.specs.Noted.{noted}
use Rattle.course.specs.Stops.{KeepsChange, member_next}
use Rattle.course.specs.declared.progress.Stop.{Stop}
use Rattle.open_parties.specs.Failing.{IsFailing, ReadsEither}
use Rattle.open_parties.specs.OpenParties.{Fills}
use Rattle.open_parties.specs.Stops.{IsDiskAtStop}
use Rattle.replay.specs.Stops.{IsStopped}
use Rattle.open_parties.specs.declared.failure.Failure.{Failure}
use Rattle.replay.specs.declared.play_state.PlayState.{PlayState}
use Rattle.open_parties.specs.declared.open_party.OpenParty.{OpenParty}
use Rattle.open_parties.specs.declared.open_party.PartyDisk.{PartyDisk}
use Rattle.open_parties.specs.declared.open_party.PartyDisk.TheVariants.{Open, Closed, Away}
use Rattle.open_parties.specs.Expecting.{AreExpected}
use Rattle.open_parties.specs.declared.expecting.Expected.{Expected}
use Rattle.open_parties.specs.declared.stopped.FailedPartyDisk.{FailedPartyDisk}

-- the party was put back as it is after the event; what was planned to be written is among the texts, and its fact is noted
pub record IsWhole {D : Type 0} (told : D → View) (p : PlannedNode D) (old new : PlayState D) (place : ℕ) (verdict : Verdict) : Type 0 where
  pub node : Stored D
  pub fills : Fills old.parties new.parties place (Open node)
  pub next : member_of node ≡ after (member_of p.node) p.plan.edits
  pub own : node.party.own ≡ p.node.party.own
  pub tells : is_some (told node.disk).now ≡ is_some (told p.node.disk).now
  pub verdict_is : verdict ≡ p.plan.verdict
  pub texts_are : new.texts ≡ old.texts ++ option_to_list p.plan.reply
  pub facts_are : new.facts ≡ old.facts ++ noted p.plan.under p.plan.reply

-- what is held of a party stands for x; or, where a change is kept, for y: an open party, or what a read gives of its disk
abbrev pub HoldsEither : {D : Type 0} → (D → View) → PartyDisk D → Member → Member → Type 0 → Type 0
HoldsEither told (Open node) x y keep = Tells (told node.disk) × ((member_of node ≡ x) ⊎ (keep × (member_of node ≡ y)))
HoldsEither told (Closed disk) x y keep = ReadsEither (told disk) x y keep
HoldsEither told Away x y keep = ⊥

-- or what a read gives of the one on the shelf, where nothing is held
abbrev pub StandsEither : {D : Type 0} → (D → View) → View → PartyDisk D → Member → Member → Type 0 → Type 0
StandsEither told shelved (Open node) x y keep = Tells (told node.disk) × ((member_of node ≡ x) ⊎ (keep × (member_of node ≡ y)))
StandsEither told shelved (Closed disk) x y keep = ReadsEither (told disk) x y keep
StandsEither told shelved Away x y keep = ReadsEither shelved x y keep

-- the event broke off
pub record IsBrokenIn {D : Type 0} (told : D → View) (shelved : View) (old new : List (OpenParty D)) (place : ℕ) (node : Stored D) (x y : Member) (keep : Type 0) (why : Failure) : Type 0 where
  pub held : PartyDisk D
  pub fills : Fills old new place held
  pub fails : Tells (told node.disk) → IsFailing why × StandsEither told shelved held x y keep

-- a whole one broke off, or memory was wanted behind it; the disk is held
pub record IsLeft {D : Type 0} (told : D → View) (p : PlannedNode D) (old new : List (OpenParty D)) (place : ℕ) (why : Failure) : Type 0 where
  pub held : PartyDisk D
  pub fills : Fills old new place held
  pub fails : Tells (told p.node.disk) → IsFailing why × HoldsEither told held (member_of p.node) (after (member_of p.node) p.plan.edits) (is_change p.plan.edits ≡ true)

-- on the disk that is begun an event of this member was carried out up to a call, or it failed; these are expected behind it
pub record Begins {D : Type 0} (told : D → View) (node : Stored D) (i : Option Input) (moment n : ℕ) (e : Expected) (begun : Result D (FailedPartyDisk D)) : Type 0 where
  pub expected : AreExpected e (member_of node) (member_next (member_of node) i moment)
  pub at_stop : IfOk begun (λ disk. IsDiskAtStop (told node.disk) (told disk) (member_of node) (member_next (member_of node) i moment) (KeepsChange (member_of node) i moment) n)
  pub failing : IfErr begun (λ failed_disk. IsFailing failed_disk.why)
  pub reads : IfErr begun (λ failed_disk. Tells (told node.disk) → ReadsEither (told failed_disk.disk) (member_of node) (member_next (member_of node) i moment) (KeepsChange (member_of node) i moment))

-- the party was put back as it was opened again
pub record IsStoppedIn {D : Type 0} (told : D → View) (old new : List (OpenParty D)) (place : ℕ) (node : Stored D) (i : Option Input) (moment : ℕ) (stop : Stop) (before after : ℕ) (next : Bool) : Type 0 where
  pub opened : Stored D
  pub fills : Fills old new place (Open opened)
  pub stops : (tell : Bool) → (tell ≡ true → Tells (told node.disk)) → IsStopped tell told (member_of node) (member_next (member_of node) i moment) (KeepsChange (member_of node) i moment) stop before after opened next

abbrev pub IsStopLeft : {D : Type 0} → (D → View) → View → List (OpenParty D) → List (OpenParty D) → ℕ → Stored D → Option Input → ℕ → Failure → Type 0
IsStopLeft told shelved old new place node i moment why = IsBrokenIn told shelved old new place node (member_of node) (member_next (member_of node) i moment) (KeepsChange (member_of node) i moment) why
