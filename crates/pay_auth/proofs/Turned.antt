-- A payment whose tests are passed.
use Rattle.std.proofs.Common.{◌≡◌, ◌∙◌, List, [], ℕ, Result, Ok, Err, IfOk, IfErr, Option, Some, None, refl, ap, sym, subst}
use Rattle.x_base.specs.declared.key_name.KeyName.{KeyName}
use Rattle.x_mac.specs.Code.{mac_of}
use Rattle.x_disk.specs.Disk.{View}
use Rattle.key_journal.specs.States.{Failed}
use Rattle.journal_state.specs.Keeping.{IsReplaced}
use Rattle.party_state.specs.State.{Party}
use Rattle.pay_auth.specs.declared.entry.Entry.{Entry}
use Rattle.pay_auth.specs.declared.pay.Pay.{Pay}
use Rattle.pay_auth.specs.declared.refusal.PayRefusal.{PayRefusal}
use Rattle.pay_auth.specs.declared.turn.PayTurn.{PayTurn}
use Rattle.pay_auth.specs.declared.turn.PayTurn.TheVariants as turn
use Rattle.pay_auth.specs.Texts.{pay_auth_text, pay_text}
use Rattle.pay_auth.specs.Decisions.{PaysOut, code_under, live_value, out_entry, out_pay, out_refusal}
use Rattle.pay_auth.specs.Entries.{put_entry}
use Rattle.pay_auth.specs.Bodies.{PutsBody}
use Rattle.pay_auth.specs.Ledgers.{LedgerView}
use Rattle.pay_auth.specs.Turns.{IsPayTurn, IsKeptTurn, IsSwitchedTurn}

pub passed : {D : Type 0} (told : D → View) (old : LedgerView D) (Refuses : List Entry → PayRefusal → Type 0) (Passes : List Entry → Entry → List ℕ → Type 0) (entry : Entry) (text : List ℕ) (result : PayTurn D)
    → Passes old.state entry text → IsKeptTurn told old entry text result → IsPayTurn told old Refuses Passes result
passed told old Refuses Passes entry text (turn.Done ledger out) passes kept = record { entry = entry; passes = subst (Passes old.state entry) (sym kept.0) passes; kept = kept.1 }
passed told old Refuses Passes entry text (turn.Refused ledger why) passes kept = absurd kept
passed told old Refuses Passes entry text (turn.Broken b) passes kept = record { entry = entry; text = text; passes = passes; kept = kept }
passed told old Refuses Passes entry text (turn.NoMemory ledger) passes kept = record { entry = entry; text = text; passes = passes; same = kept }

-- a payment whose tests are passed is paid out
pub pays_out : (p : Party) (peer : List ℕ) (name : KeyName) (amount : ℕ) (entries : List Entry) (pay : Pay) (value : ℕ) (text : List ℕ)
    → out_refusal p entries peer name ≡ None → pay ≡ out_pay p entries peer name amount → live_value peer name p ≡ Some value → text ≡ pay_text pay (mac_of value (pay_auth_text pay))
    → PaysOut p peer name amount entries (out_entry pay) text
pays_out p peer name amount entries pay value text passes same live spelled =
    let next : Pay = out_pay p entries peer name amount in
    record {
      passes = passes;
      entry_is = ap out_entry same;
      text_is = spelled ∙ (ap (λ (q : Pay). pay_text q (code_under (Some value) q)) same ∙ ap (λ (o : Option ℕ). pay_text next (code_under o next)) (sym live));
    }

-- the next entries are those with the entry put
module _ {D : Type 0} (told : D → View) (standing old : LedgerView D) (same : standing ≡ old) (state : List Entry) (is : state ≡ standing.state) (entry : Entry) (next : List Entry) (made : next ≡ put_entry entry state) where
  puts : next ≡ put_entry entry old.state
  puts = made ∙ ap (put_entry entry) (is ∙ ap (λ (s : LedgerView D). s.state) same)

  pub switched_as : (out : List ℕ) (result : PayTurn D) → IsSwitchedTurn told old next out result → IsKeptTurn told old entry out result
  switched_as out result switched = subst (λ (es : List Entry). IsSwitchedTurn told old es out result) puts switched

  put_as : (result : Result (LedgerView D) (Failed D)) → IsReplaced PutsBody [] told standing next result → IsReplaced PutsBody [] told old (put_entry entry old.state) result
  put_as result replaced =
      subst (λ (es : List Entry). IsReplaced PutsBody [] told old es result) puts (subst (λ (s : LedgerView D). IsReplaced PutsBody [] told s next result) same replaced)

  -- what became of them where the frame was kept
  pub kept_as : (out : List ℕ) (kept : Result (LedgerView D) (Failed D)) (result : PayTurn D) → IsReplaced PutsBody [] told standing next kept
      → IfOk kept (λ s. result ≡ turn.Done s out) → IfErr kept (λ b. result ≡ turn.Broken b) → IsKeptTurn told old entry out result
  kept_as out (Ok s) result replaced done broken = subst (IsKeptTurn told old entry out) (sym done) (refl, put_as (Ok s) replaced)
  kept_as out (Err b) result replaced done broken = subst (IsKeptTurn told old entry out) (sym broken) (put_as (Err b) replaced)

-- and where they were switched to
pub turned : {D : Type 0} (told : D → View) (standing old : LedgerView D) → standing ≡ old → (next : List Entry) (out : List ℕ) (kept : Result (LedgerView D) (Failed D)) (result : PayTurn D) → IsReplaced PutsBody [] told standing next kept
    → IfOk kept (λ s. result ≡ turn.Done s out) → IfErr kept (λ b. result ≡ turn.Broken b) → IsSwitchedTurn told old next out result
turned {D} told standing old same next out kept result replaced = ended kept (subst (λ (s : LedgerView D). IsReplaced PutsBody [] told s next kept) same replaced) where
  ended : (k : Result (LedgerView D) (Failed D)) → IsReplaced PutsBody [] told old next k → IfOk k (λ s. result ≡ turn.Done s out) → IfErr k (λ b. result ≡ turn.Broken b) → IsSwitchedTurn told old next out result
  ended (Ok s) again done broken = subst (IsSwitchedTurn told old next out) (sym done) (refl, again)
  ended (Err b) again done broken = subst (IsSwitchedTurn told old next out) (sym broken) again
