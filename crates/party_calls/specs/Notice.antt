-- The notice of an order, for standard error (this project's profile). `left` is what the source has before, `old` what the
-- shelf tells of the disks.
use Rattle.std.specs.Prelude.{◌≡◌, ℕ, Bool, true, List, Option, Some, None, IfSome}
use Rattle.x_disk.specs.Disk.{View}
use Rattle.csm_grammar.specs.declared.arrival.Arrival.{Arrival}
use Rattle.party_state.specs.declared.command.Input.TheVariants.{Arrived}
use Rattle.party_state.specs.State.{Party}
use Rattle.key_store.specs.Store.{Stands}
use Rattle.member.specs.Deciding.{decision}
use Rattle.mirror_store.specs.Pairs.{Recovers}
use Rattle.mirror_store.specs.Opening.{AreRead}
use Rattle.x_party.specs.Notices.{class_word, notice_of}
use Rattle.x_line.specs.declared.order.Order.{Order}
use Rattle.x_line.specs.declared.order.Order.TheVariants.{Take}
use Rattle.call_ends.specs.declared.status.Status.{Status}
use Rattle.call_ends.specs.declared.status.Status.TheVariants.{Done}
use Rattle.call_ends.specs.Listening.{IsHeard}

-- the notice of the message that was heard: what the party that stood on the disk decided of it
abbrev pub IsNoticeOf : View → List ℕ → ℕ → Option (List ℕ) → Type 0
IsNoticeOf old all moment notice = (arrival : Arrival) × IsHeard all arrival × ((image : List ℕ) (party : Party) → old.now ≡ Some image → Stands image party
    → notice ≡ Some (notice_of (class_word arrival.parsed.message) (decision party (Arrived arrival) moment).change))

-- a notice is left where the status is done
abbrev pub notice_at : Status → Option (List ℕ) → Option (List ℕ)
notice_at Done notice = notice
notice_at s notice = None

-- where a message is taken, its notice is wanted, and it is done: the notice of it; otherwise none
abbrev pub LeavesNotice : Bool → Order → ℕ → Status → Option (List ℕ) → (List ℕ → View) → Option (List ℕ) → Type 0
LeavesNotice true (Take party) moment Done left old notice = IfSome left (λ all. IsNoticeOf (old party) all moment notice)
LeavesNotice wanted o moment s left old notice = notice ≡ None

-- the same over two disks: what the party that is opened of them decided of the message
abbrev pub IsPairNoticeOf : View → View → List ℕ → ℕ → Option (List ℕ) → Type 0
IsPairNoticeOf first second all moment notice = (arrival : Arrival) × IsHeard all arrival × ((i j : List ℕ) (party : Party) → AreRead first second i j → Recovers i j party
    → notice ≡ Some (notice_of (class_word arrival.parsed.message) (decision party (Arrived arrival) moment).change))

-- where a message is taken over two disks of a party, the second of this name, its notice is wanted, and it is done: the notice of
-- it; otherwise none
abbrev pub LeavesMirroredNotice : Bool → Order → List ℕ → ℕ → Status → Option (List ℕ) → (List ℕ → View) → Option (List ℕ) → Type 0
LeavesMirroredNotice true (Take party) mirror moment Done left old notice = IfSome left (λ all. IsPairNoticeOf (old party) (old mirror) all moment notice)
LeavesMirroredNotice wanted o mirror moment s left old notice = notice ≡ None
