-- Of any order, want of memory may be the answer.
use Rattle.std.proofs.Common.{inr, ℕ, List, Option, Some, None, Result, Ok, Err, refl}
use Rattle.x_disk.specs.Disk.{View}
use Rattle.key_parts.specs.Parts.{entered_of}
use Rattle.key_parts.specs.declared.part.Form.TheVariants as form
use Rattle.key_parts.specs.declared.part.Part.{Part}
use Rattle.party_state.specs.declared.command.Command.TheVariants as command
use Rattle.party_state.specs.declared.command.Input.TheVariants.{Ordered}
use Rattle.x_line.specs.declared.order.Order.{Order}
use Rattle.x_line.specs.declared.order.Order.TheVariants as order
use Rattle.x_party.specs.Dues.{IsDue, IsDueCreation}
use Rattle.call_ends.specs.declared.status.Status.TheVariants as status
use Rattle.party_calls.specs.Dues.{Follows}
use Rattle.call_ends.specs.Digits.{digits_taken}
use Rattle.party_calls.specs.Entered.{ExpectsRead}
use Rattle.x917.specs.Expects.{Expects}

none_read : (read : Result Part ℕ) (Due : Part → Type 0) → ((part : Part) → Due part) → ExpectsRead read status.NoMemory Due
none_read (Ok part) Due due = due part
none_read (Err line) Due due = inr refl

module _ (moment : ℕ) (e : List ℕ → View) where
  pub forgets_order : (o : Order) (left : Option (List ℕ)) → Expects o moment left e status.NoMemory
  forgets_order order.Check None = tt
  forgets_order order.Check (Some all) = λ decided is. inr refl
  forgets_order (order.Init party role key v) left = λ image o now due. inr refl
  forgets_order (order.Create party role) None = tt
  forgets_order (order.Create party role) (Some all) =
      none_read (entered_of form.Generator (digits_taken all)) (λ part. Follows (e party) IsDueCreation status.NoMemory) (λ part image o now due. inr refl)
  forgets_order (order.Enter party peer label side) None = tt
  forgets_order (order.Enter party peer label side) (Some all) =
      none_read (entered_of form.Key (digits_taken all)) (λ part. Follows (e party) (IsDue party (Ordered (command.Load peer label side part.pair)) moment) status.NoMemory) (λ part image o now due. inr refl)
  forgets_order (order.Value party peer label side) left = λ image o now due. inr refl
  forgets_order (order.Show party) left = λ image o now due. inr refl
  forgets_order (order.Compact party) left = λ image o now due. inr refl
  forgets_order (order.Migrate party) left = λ image o now due. inr refl
  forgets_order (order.Wipe party) left = λ image o now due. inr refl
  forgets_order (order.Compare party mirror) left = λ i j likeness read is. inr refl
  forgets_order order.Replay None = tt
  forgets_order order.Replay (Some all) = record {
    bad = λ number bad. inr refl;
    played = λ lines is tell. record { ending = tt; filled = λ any. inr refl; honest = λ blank is. inr refl; forged = λ blank is. inr refl };
  }
  forgets_order order.Audit None = tt
  forgets_order order.Audit (Some all) = record { bad = λ number bad. inr refl; confirmed = λ tally is. inr refl; denied = λ fault is. inr refl }
  forgets_order (order.Drill seed events) left = record { honest = λ lines is honest. inr refl; forged = λ lines is forged. inr refl }
  forgets_order (order.Pay party peer name ledger amount) left = λ image book o now told is. inr refl
  forgets_order (order.Accept party ledger) None = tt
  forgets_order (order.Accept party ledger) (Some all) = λ image book o now told is. inr refl
  forgets_order (order.Spool party spool) None = tt
  forgets_order (order.Spool party spool) (Some all) = record {
    bad = λ number bad. inr refl;
    due = λ entries image book o batch now told due. inr refl;
    done = λ entries x y image batch tells pairs now finds. inr refl;
  }
  forgets_order (order.Outbox spool) left = λ book o now due. inr refl
  forgets_order order.Batch None = tt
  forgets_order order.Batch (Some all) = record { done = λ arrivals short messages. inr refl; refused = λ refusal is. inr refl }
  forgets_order (order.Take party) None = tt
  forgets_order (order.Take party) (Some all) = record { unheard = λ u k. inr refl; heard = λ a k image o now due. inr refl }
  forgets_order (order.Load party peer label side pair) left = λ image o now due. inr refl
  forgets_order (order.Start party peer label) left = λ image o now due. inr refl
  forgets_order (order.StartKk party peer new label single) left = λ image o now due. inr refl
  forgets_order (order.Ask party peer ultimate) left = λ image o now due. inr refl
  forgets_order (order.Translate party peer ultimate) left = λ image o now due. inr refl
  forgets_order (order.Resend party peer) left = λ image o now due. inr refl
  forgets_order (order.End party peer name) left = λ image o now due. inr refl
  forgets_order (order.Drop party peer) left = λ image o now due. inr refl
  forgets_order (order.Purge party) left = λ image o now due. inr refl
