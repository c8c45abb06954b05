-- Bodies of a journal that are read ahead, and then followed (this project's profile).
use Rattle.std.specs.Prelude.{◌≡◌, ◌⊎◌, ℕ, ◌+◌, ◌<◌, ◌≤◌, ◌^◌, List, ◌∷◌, ◌++◌, length, Bool, true, false, Some, Result, Err, IfOk, IfErr}
use Rattle.x_disk.specs.Disk.{View}
use Rattle.key_journal.specs.Journal.{frames}
use Rattle.key_journal.specs.Opening.{IsFree, IsFound, found_at}
use Rattle.key_journal.specs.States.{Reading, HasRead, HasBodies}
use Rattle.key_journal.specs.declared.cause.Cause.{Cause}
use Rattle.key_journal.specs.declared.cause.Cause.TheVariants as cause
use Rattle.party_state.specs.State.{Party}
use Rattle.change_code.specs.declared.format.Format.{Format}
use Rattle.change_code.specs.Following.{IsStep}
use Rattle.key_store.specs.Store.{Lead}
use Rattle.key_store.specs.Loading.{LeavesJournal}

-- the place of the gate behind frames with these bodies, of which the first one's gate is at this place
abbrev pub gate_behind : ℕ → List (List ℕ) → ℕ
gate_behind gate bodies = gate + length (frames bodies)

-- the next bodies of a journal were read, and whether there may be more behind them
pub record IsReadAhead {D : Type 0} (told : D → View) (old new : Reading D) (bodies : List (List ℕ)) (result : Result Bool Cause) : Type 0 where
  pub few : length bodies ≤ 512
  pub fits : gate_behind old.gate bodies < 2 ^ 64
  -- they follow those that were read before
  pub read : (front : List (List ℕ)) → HasRead (told old.disk) front old.gate → HasRead (told new.disk) (front ++ bodies) (gate_behind old.gate bodies)
  -- where there may be more, the journal was read up to the gate behind them
  pub more : IfOk result (λ more. more ≡ true → (new.gate ≡ gate_behind old.gate bodies) × (old.gate < new.gate) × (new.gate < new.end))
  -- where there are no more, they are the last
  pub all : IfOk result (λ more. more ≡ false → (new.ended ≡ true) × ((front : List (List ℕ)) → HasRead (told old.disk) front old.gate → HasBodies (told new.disk) (front ++ bodies)))
  -- a cause is what lies at the gate behind them, or one that no image gives
  pub exact : IfErr result (λ reason. (image : List ℕ) → (told old.disk).now ≡ Some image → IsFound (found_at image (gate_behind old.gate bodies) old.end) (Err reason))
  pub names : IfErr result (λ reason. IsFree reason ⊎ (reason ≡ cause.Damaged (gate_behind old.gate bodies)))
  pub end : new.end ≡ old.end
  pub journal : LeavesJournal told old new result

-- the bodies lead from a party to one that the next of them can't follow, and the reason tells its gate
pub record LeadsToUnsound (format : Format) (old : Party) (gate : ℕ) (bodies : List (List ℕ)) (reason : Cause) : Type 0 where
  pub front : List (List ℕ)
  pub body : List ℕ
  pub rest : List (List ℕ)
  pub party : Party
  pub whole : bodies ≡ front ++ body ∷ rest
  pub lead : Lead format old front party
  pub never : (new : Party) → IsStep format body party new → ⊥
  pub place : reason ≡ cause.Damaged (gate_behind gate front)

-- why no party is made of the bodies: one of them can't follow, or no memory was left
abbrev pub StopsAmong : Format → Party → ℕ → List (List ℕ) → Cause → Type 0
StopsAmong format old gate bodies reason = (reason ≡ cause.NoMemory) ⊎ LeadsToUnsound format old gate bodies reason
