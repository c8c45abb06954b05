-- Over every list of calls no number is paid out or taken in twice.
use Rattle.std.proofs.Common.{◌≡◌, inl, inr, ℕ, ◌+◌, ◌<◌, ◌≤◌, nat_le, if◌then◌else◌, Bool, true, false, Option, Some, None, List, [], ◌∷◌, ◌++◌, refl, sym, ap, ◌∙◌, subst, arith}
use Rattle.std.specs.Prelude.{◌==◌, ◌||◌, not, is_none, bytes_eq}
use Rattle.x_base.specs.Count.{count_limit}
use Rattle.x_base.specs.declared.key_name.KeyName.{KeyName}
use Rattle.x_base.specs.declared.party.Side.TheVariants.{Takes}
use Rattle.party_state.specs.State.{Party}
use Rattle.pay_auth.specs.declared.pay.Pay.{Pay}
use Rattle.pay_auth.specs.declared.entry.Entry.{Entry}
use Rattle.pay_auth.specs.declared.entry.EntryKey.{EntryKey}
use Rattle.pay_auth.specs.declared.refusal.PayRefusal.{PayRefusal}
use Rattle.pay_auth.specs.declared.refusal.PayRefusal.TheVariants.{NotForMe, UnknownKey, BadMac, CountSpent, PayLow, LedgerFull}
use Rattle.pay_auth.specs.Entries.{entry_key, put_entry, last_number, is_full_for}
use Rattle.pay_auth.specs.Decisions.{live_value, code_under, out_key, out_refusal, out_pay, out_entry, in_key, number_refusal, in_refusal, in_entry}
use Rattle.pay_auth.specs.Runs.{Ending, Whole, CutOld, CutNew, Call, Pays, Accepts, Books, pay_out, take_in, if_passed, TakesBytes, Steps, CallsLead, opened_books, NoneLike, AllApart, PaidOnce}
use Rattle.pay_auth.proofs.Anew.{last_grows, last_put}

-- no payment of the list has a number above the last one under its key
abbrev AllLow : (Pay → EntryKey) → List Pay → List Entry → Type 0
AllLow key [] entries = Unit {0}
AllLow key (p ∷ pays) entries = (p.number ≤ last_number (key p) entries) × AllLow key pays entries

low_put : (key : Pay → EntryKey) (pays : List Pay) (e : Entry) (entries : List Entry) → last_number (entry_key e) entries ≤ e.last → AllLow key pays entries → AllLow key pays (put_entry e entries)
low_put key [] e entries low all = tt
low_put key (p ∷ pays) e entries low all = (omega (arith, all.0, last_grows (key p) e entries low), low_put key pays e entries low all.1)

low_push : (key : Pay → EntryKey) (pays : List Pay) (p : Pay) (entries : List Entry) → AllLow key pays entries → p.number ≤ last_number (key p) entries → AllLow key (pays ++ p ∷ []) entries
low_push key [] p entries all low = (low, tt)
low_push key (q ∷ pays) p entries all low = (all.0, low_push key pays p entries all.1 low)

module _ (peer : Pay → List ℕ) (key : Pay → EntryKey) (keyed : (p q : Pay) → peer p ≡ peer q → p.key ≡ q.key → key p ≡ key q) (entries : List Entry) (x : Pay) (above : last_number (key x) entries < x.number) where
  none_more : (p : Pay) (pays : List Pay) → p.number ≤ last_number (key p) entries → NoneLike peer p pays → NoneLike peer p (pays ++ x ∷ [])
  none_more p [] low none = (
    λ is.
        let same : last_number (key x) entries ≡ last_number (key p) entries = ap (λ (k : EntryKey). last_number k entries) (keyed x p is.0 is.1) in
        omega (arith, above, low, same, is.2),
    tt,
  )
  none_more p (q ∷ pays) low none = (none.0, none_more p pays low none.1)

  apart_push : (pays : List Pay) → AllLow key pays entries → AllApart peer pays → AllApart peer (pays ++ x ∷ [])
  apart_push [] low apart = (tt, tt)
  apart_push (p ∷ pays) low apart = (none_more p pays low.0 apart.0, apart_push pays low.1 apart.1)

abbrev taken_key : Pay → EntryKey
taken_key p = in_key p

abbrev paid_key : Pay → EntryKey
paid_key p = out_key p.to p.key

abbrev key_of : List ℕ → KeyName → EntryKey
key_of peer name = record { peer = peer; name = name; side = Takes }

in_keyed : (p q : Pay) → p.from ≡ q.from → p.key ≡ q.key → taken_key p ≡ taken_key q
in_keyed p q peer name = ap (λ (l : List ℕ). key_of l p.key) peer ∙ ap (λ (n : KeyName). key_of q.from n) name

out_keyed : (p q : Pay) → p.to ≡ q.to → p.key ≡ q.key → paid_key p ≡ paid_key q
out_keyed p q peer name = ap (λ (l : List ℕ). out_key l p.key) peer ∙ ap (λ (n : KeyName). out_key q.to n) name

-- what holds behind each call
record KeepsNumbers (b : Books) : Type 0 where
  once : PaidOnce b
  taken_low : AllLow taken_key b.taken b.entries
  paid_low : AllLow paid_key b.paid b.entries

else_none : (b : Bool) (x : PayRefusal) (o : Option PayRefusal) → (if b then Some x else o) ≡ None → (b ≡ false) × (o ≡ None)
else_none true x o is = absurd (cc is)
else_none false x o is = (refl, is)

not_le : (a b : ℕ) → nat_le a b ≡ false → b < a
not_le a b is = grind arith

number_above : (entries : List Entry) (pay : Pay) → number_refusal entries pay ≡ None → last_number (in_key pay) entries < pay.number
number_above entries pay is =
    let last = last_number (in_key pay) entries in
    let full = if is_full_for (in_key pay) entries then Some LedgerFull else None in
    let first = else_none (last == count_limit) CountSpent (if nat_le pay.number last then Some (PayLow (last + 1)) else full) is in
    let second = else_none (nat_le pay.number last) (PayLow (last + 1)) full first.1 in
    not_le pay.number (last_number (in_key pay) entries) second.0

passed_above : (p : Party) (entries : List Entry) (pay : Pay) (mac : ℕ) → in_refusal p entries pay mac ≡ None → last_number (in_key pay) entries < pay.number
passed_above p entries pay mac is =
    let key = live_value pay.from pay.key p in
    let last_test = if not (code_under key pay == mac) then Some BadMac else number_refusal entries pay in
    let first = else_none (not (bytes_eq pay.to p.own) || bytes_eq pay.from p.own) NotForMe (if is_none key then Some UnknownKey else last_test) is in
    let second = else_none (is_none key) UnknownKey last_test first.1 in
    let third = else_none (not (code_under key pay == mac)) BadMac (number_refusal entries pay) second.1 in
    number_above entries pay third.1

-- the entries alone are changed
entries_more : (b : Books) (e : Entry) → last_number (entry_key e) b.entries ≤ e.last → KeepsNumbers b → KeepsNumbers (record b { entries = put_entry e b.entries })
entries_more b e low holds = record {
  once = record { taken = holds.once.taken; paid = holds.once.paid };
  taken_low = low_put taken_key b.taken e b.entries low holds.taken_low;
  paid_low = low_put paid_key b.paid e b.entries low holds.paid_low;
}

taken_more : (b : Books) (pay : Pay) → last_number (in_key pay) b.entries < pay.number → KeepsNumbers b → KeepsNumbers (record { entries = put_entry (in_entry pay) b.entries; paid = b.paid; taken = b.taken ++ pay ∷ [] })
taken_more b pay above holds =
    let low : last_number (entry_key (in_entry pay)) b.entries ≤ pay.number = omega (arith, above) in
    let more = entries_more b (in_entry pay) low holds in
    record {
      once = record { taken = apart_push (λ p. p.from) taken_key in_keyed b.entries pay above b.taken holds.taken_low holds.once.taken; paid = holds.once.paid };
      taken_low = low_push taken_key b.taken pay (put_entry (in_entry pay) b.entries) more.taken_low (omega (arith, last_put (in_entry pay) b.entries));
      paid_low = more.paid_low;
    }

paid_more : (b : Books) (pay : Pay) → last_number (out_key pay.to pay.key) b.entries < pay.number → KeepsNumbers b → KeepsNumbers (record { entries = put_entry (out_entry pay) b.entries; paid = b.paid ++ pay ∷ []; taken = b.taken })
paid_more b pay above holds =
    let low : last_number (entry_key (out_entry pay)) b.entries ≤ pay.number = omega (arith, above) in
    let more = entries_more b (out_entry pay) low holds in
    record {
      once = record { taken = holds.once.taken; paid = apart_push (λ p. p.to) paid_key out_keyed b.entries pay above b.paid holds.paid_low holds.once.paid };
      taken_low = more.taken_low;
      paid_low = low_push paid_key b.paid pay (put_entry (out_entry pay) b.entries) more.paid_low (omega (arith, last_put (out_entry pay) b.entries));
    }

after_take : (pay : Pay) (ending : Ending) (b : Books) → last_number (in_key pay) b.entries < pay.number → KeepsNumbers b → KeepsNumbers (take_in pay ending b)
after_take pay Whole b above holds = taken_more b pay above holds
after_take pay CutOld b above holds = holds
after_take pay CutNew b above holds = taken_more b pay above holds

after_paying : (pay : Pay) (ending : Ending) (b : Books) → last_number (out_key pay.to pay.key) b.entries < pay.number → KeepsNumbers b → KeepsNumbers (pay_out pay ending b)
after_paying pay Whole b above holds = paid_more b pay above holds
after_paying pay CutOld b above holds = holds
after_paying pay CutNew b above holds = entries_more b (out_entry pay) (omega (arith, above)) holds

after_test : (r : Option PayRefusal) (new old : Books) → KeepsNumbers old → (r ≡ None → KeepsNumbers new) → KeepsNumbers (if_passed r new old)
after_test None new old holds more = more refl
after_test (Some cause) new old holds more = holds

after_bytes : (party : Party) (bytes : List ℕ) (ending : Ending) (b next : Books) → TakesBytes party bytes ending b next → KeepsNumbers b → KeepsNumbers next
after_bytes party bytes ending b next (inl (pay, mac, spelled, is)) holds =
    subst KeepsNumbers (sym is) (after_test (in_refusal party b.entries pay mac) (take_in pay ending b) b holds (λ none. after_take pay ending b (passed_above party b.entries pay mac none) holds))
after_bytes party bytes ending b next (inr (none, is)) holds = subst KeepsNumbers (sym is) holds

after_step : (call : Call) (b next : Books) → Steps call b next → KeepsNumbers b → KeepsNumbers next
after_step (Pays party peer name amount ending) b next is holds =
    let pay = out_pay party b.entries peer name amount in
    subst KeepsNumbers (sym is) (after_test (out_refusal party b.entries peer name) (pay_out pay ending b) b holds (λ none. after_paying pay ending b (omega arith) holds))
after_step (Accepts party bytes ending) b next step holds = after_bytes party bytes ending b next step holds

after_calls : (calls : List Call) (b end : Books) → CallsLead calls b end → KeepsNumbers b → KeepsNumbers end
after_calls [] b end is holds = subst KeepsNumbers (sym is) holds
after_calls (call ∷ calls) b end (next, step, leads) holds = after_calls calls next end leads (after_step call b next step holds)

pub paid_once : (entries : List Entry) (calls : List Call) (end : Books) → CallsLead calls (opened_books entries) end → PaidOnce end
paid_once entries calls end leads = (after_calls calls (opened_books entries) end leads (record { once = record { taken = tt; paid = tt }; taken_low = tt; paid_low = tt })).once
