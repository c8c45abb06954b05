-- A call is one of the calls over a ledger.
use Rattle.std.proofs.Common.{◌≡◌, inl, inr, ℕ, false, List, Option, Some, None, refl, sym, ◌∙◌, ap, subst}
use Rattle.x_disk.specs.Disk.{View}
use Rattle.x_disk.proofs.Runs.{weaker}
use Rattle.key_journal.specs.Journal.{is_blank}
use Rattle.x_base.specs.declared.key_name.KeyName.{KeyName}
use Rattle.party_state.specs.State.{Party}
use Rattle.key_store.specs.Store.{Stands}
use Rattle.pay_auth.specs.declared.entry.Entry.{Entry}
use Rattle.pay_auth.specs.declared.refusal.PayRefusal.{PayRefusal}
use Rattle.pay_auth.specs.Entries.{put_entry}
use Rattle.pay_auth.specs.Decisions.{RefusesIn, live_value, code_under, in_refusal, out_pay, out_refusal}
use Rattle.pay_auth.specs.Ledgers.{HasEntries}
use Rattle.pay_auth.specs.Runs.{Ending, Whole, CutNew, Call, Pays, Accepts, Books, Steps, if_passed, pay_out, take_in}
use Rattle.x_pay.specs.Outcomes.{Payment, KeepsEntries, MakesPayment, IsSafePayment, MayLeave, Before, Old, New}
use Rattle.x_pay.specs.Payments.{paying, accepting}
use Rattle.x_pay.specs.Calls.{FindsBooks, IsAnswer, TellsPaid, TellsTaken, MayTell, WasThere, Unmade, CutOff, IsWhole, IsLedgerCall}
use Rattle.x_pay.specs.declared.outcome.PayOutcome.{PayOutcome}
use Rattle.x_pay.specs.declared.outcome.PayOutcome.TheVariants as outcome
use Rattle.x_pay.proofs.Single.{reads_one}

-- what a payment's tests say is what the calls over a ledger do
pub record IsMadeOf (w : Payment) (call : Ending → Call) (Tells : PayOutcome → Books → Books → Type 0) (p : Party) (b : Books) : Type 0 where
  pub done : (entry : Entry) (text : List ℕ) → w.Passes p b.entries entry text → (next : Books) × Steps (call Whole) b next × Tells (outcome.Done text) b next × (next.entries ≡ put_entry entry b.entries)
  pub cut : (entry : Entry) (text : List ℕ) → w.Passes p b.entries entry text → (next : Books) × Steps (call CutNew) b next × (next.entries ≡ put_entry entry b.entries)
  pub refused : (cause : PayRefusal) → w.Refuses p b.entries cause → Steps (call Whole) b b × Tells (outcome.Refused cause) b b

passed_is : (o : Option PayRefusal) (new old : Books) → o ≡ None → new ≡ if_passed o new old
passed_is o new old is = subst (λ (x : Option PayRefusal). new ≡ if_passed x new old) (sym is) refl

refused_is : (o : Option PayRefusal) (cause : PayRefusal) (new old : Books) → o ≡ Some cause → old ≡ if_passed o new old
refused_is o cause new old is = subst (λ (x : Option PayRefusal). old ≡ if_passed x new old) (sym is) refl

module _ (p : Party) (b : Books) where
  pub pays_of : (peer : List ℕ) (key : KeyName) (amount : ℕ) → IsMadeOf (paying peer key amount) (Pays p peer key amount) TellsPaid p b
  pays_of peer key amount =
      let pay = out_pay p b.entries peer key amount in
      record {
        done = λ entry text passes. (
          pay_out pay Whole b,
          passed_is (out_refusal p b.entries peer key) (pay_out pay Whole b) b passes.passes,
          (pay, code_under (live_value peer key p) pay, passes.text_is, refl, refl),
          ap (λ (e : Entry). put_entry e b.entries) (sym passes.entry_is),
        );
        cut = λ entry text passes. (
          pay_out pay CutNew b,
          passed_is (out_refusal p b.entries peer key) (pay_out pay CutNew b) b passes.passes,
          ap (λ (e : Entry). put_entry e b.entries) (sym passes.entry_is),
        );
        refused = λ cause refuses. (refused_is (out_refusal p b.entries peer key) cause (pay_out pay Whole b) b refuses, refl);
      }

  refused_in : (bytes : List ℕ) (cause : PayRefusal) → RefusesIn p bytes b.entries cause → Steps (Accepts p bytes Whole) b b
  refused_in bytes cause (inl bad) = inr (bad.no_pay.none, refl)
  refused_in bytes cause (inr is) = inl (is.pay, is.mac, is.spells, refused_is (in_refusal p b.entries is.pay is.mac) cause (take_in is.pay Whole b) b is.fails)

  pub accepts_of : (bytes : List ℕ) → IsMadeOf (accepting bytes) (Accepts p bytes) TellsTaken p b
  accepts_of bytes = record {
    done = λ entry text takes. (
      take_in takes.pay Whole b,
      inl (takes.pay, takes.passes.mac, takes.passes.spells, passed_is (in_refusal p b.entries takes.pay takes.passes.mac) (take_in takes.pay Whole b) b takes.passes.passes),
      (takes.pay, takes.text_is, refl, refl),
      ap (λ (e : Entry). put_entry e b.entries) (sym takes.entry_is),
    );
    cut = λ entry text takes. (
      take_in takes.pay CutNew b,
      inl (takes.pay, takes.passes.mac, takes.passes.spells, passed_is (in_refusal p b.entries takes.pay takes.passes.mac) (take_in takes.pay CutNew b) b takes.passes.passes),
      ap (λ (e : Entry). put_entry e b.entries) (sym takes.entry_is),
    );
    refused = λ cause refuses. (refused_in bytes cause refuses, refl);
  }

module _ (one_party : (image : List ℕ) (p q : Party) → Stands image p → Stands image q → p ≡ q)
    (one_list : (book : List ℕ) (es fs : List Entry) → HasEntries book es → HasEntries book fs → es ≡ fs)
    (list_full : (book : List ℕ) (es : List Entry) → HasEntries book es → is_blank book ≡ false)
    (w : Payment) (call : Ending → Call) (Tells : PayOutcome → Books → Books → Type 0) (name : List ℕ) (party_disk party_after ledger_disk ledger_after : View) (p : Party) (b : Books)
    (made_of : IsMadeOf w call Tells p b) (found : FindsBooks name party_disk ledger_disk p b) where
  whole : (o : PayOutcome) → MakesPayment w name party_disk ledger_disk ledger_after o → IsAnswer o → IsWhole call (Tells o) b ledger_after
  whole (outcome.Done text) paid answer =
      let party_is : paid.p ≡ p = one_party found.image paid.p p (paid.is_own.reads found.image found.party_told) found.both.party.stands in
      let entries_are : paid.entries ≡ b.entries = reads_one one_list list_full found.book paid.entries b.entries (paid.reads found.book found.ledger_told) found.both.reads in
      let passes : w.Passes p b.entries paid.entry text =
      subst (λ (es : List Entry). w.Passes p es paid.entry text) entries_are (subst (λ (q : Party). w.Passes q paid.entries paid.entry text) party_is paid.passes) in
      let done = made_of.done paid.entry text passes in
      record {
        next = done.0;
        steps = done.1;
        tells = done.2;
        kept = subst (KeepsEntries ledger_after) (ap (put_entry paid.entry) entries_are ∙ sym done.3) paid.kept;
      }
  whole (outcome.Refused cause) refused answer =
      let party_is : refused.p ≡ p = one_party found.image refused.p p (refused.is_own.reads found.image found.party_told) found.both.party.stands in
      let entries_are : refused.entries ≡ b.entries = reads_one one_list list_full found.book refused.entries b.entries (refused.reads found.book found.ledger_told) found.both.reads in
      let refuses : w.Refuses p b.entries cause =
      subst (λ (es : List Entry). w.Refuses p es cause) entries_are (subst (λ (q : Party). w.Refuses q refused.entries cause) party_is refused.refuses) in
      let stays = made_of.refused cause refuses in
      record { next = b; steps = stays.0; tells = stays.1; kept = subst (KeepsEntries ledger_after) entries_are refused.stay }
  whole (outcome.OtherParty asked own) made answer = absurd answer
  whole outcome.Blank made answer = absurd answer
  whole (outcome.Damaged place) made answer = absurd answer
  whole outcome.Fault made answer = absurd answer
  whole outcome.NoMemory made answer = absurd answer

  may_tell : (c : List ℕ) → MayLeave w p b.entries ledger_disk.may_leave c → MayTell call b ledger_disk.may_leave c
  may_tell c (Before left) = WasThere left
  may_tell c (Old reads) = Unmade reads
  may_tell c (New entry text passes stands) =
      let cut = made_of.cut entry text passes in
      CutOff cut.0 cut.1 (subst (HasEntries c) (sym cut.2) stands)

  pub is_call : (o : PayOutcome) → MakesPayment w name party_disk ledger_disk ledger_after o → IsSafePayment w name party_disk party_after ledger_disk ledger_after → IsLedgerCall call Tells b ledger_disk ledger_after o
  is_call o made safe = record {
    whole = whole o made;
    any_moment = weaker ledger_disk ledger_after (MayLeave w p b.entries ledger_disk.may_leave) (MayTell call b ledger_disk.may_leave)
        (safe.ledger p b.entries found.image found.book found.party_told found.both.party.stands found.both.party.own found.ledger_told found.both.reads) may_tell;
  }
