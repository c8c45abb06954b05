-- Calls over one ledger, one after the other, each whole or cut off by a crash (this project's profile).
use Rattle.std.specs.Prelude.{◌≡◌, ◌⊎◌, ℕ, List, [], ◌∷◌, ◌++◌, Option, Some, None}
use Rattle.x_base.specs.declared.key_name.KeyName.{KeyName}
use Rattle.party_state.specs.State.{Party}
use Rattle.pay_auth.specs.declared.pay.Pay.{Pay}
use Rattle.pay_auth.specs.declared.entry.Entry.{Entry}
use Rattle.pay_auth.specs.declared.refusal.PayRefusal.{PayRefusal}
use Rattle.pay_auth.specs.Texts.{SpellsPay, without_line_end}
use Rattle.pay_auth.specs.Entries.{put_entry}
use Rattle.pay_auth.specs.Decisions.{out_refusal, out_pay, out_entry, in_refusal, in_entry}

-- how a call ends: it is done or refused; or a crash, a fault or want of memory ends it, and leaves the old or the new entries
pub data Ending : Type 0 where
  Whole : Ending
  CutOld : Ending
  CutNew : Ending

-- a call, with the party's state at that time
pub data Call : Type 0 where
  Pays : Party → List ℕ → KeyName → ℕ → Ending → Call  -- to this peer, under the key of this name
  Accepts : Party → List ℕ → Ending → Call  -- these bytes

-- the entries, the payments whose text was handed out, and those that were taken in
pub record Books : Type 0 where
  pub entries : List Entry
  pub paid : List Pay
  pub taken : List Pay

-- a payment whose tests are passed is paid out
abbrev pub pay_out : Pay → Ending → Books → Books
pay_out pay Whole b = record { entries = put_entry (out_entry pay) b.entries; paid = b.paid ++ pay ∷ []; taken = b.taken }
pay_out pay CutOld b = b
pay_out pay CutNew b = record b { entries = put_entry (out_entry pay) b.entries }

-- or taken in, which a crash behind the sync doesn't undo
abbrev pub take_in : Pay → Ending → Books → Books
take_in pay CutOld b = b
take_in pay ending b = record { entries = put_entry (in_entry pay) b.entries; paid = b.paid; taken = b.taken ++ pay ∷ [] }

abbrev pub if_passed : Option PayRefusal → Books → Books → Books
if_passed None new old = new
if_passed (Some cause) new old = old

-- the books behind a payment with its code that comes in
abbrev pub after_pay : Party → Pay → ℕ → Ending → Books → Books
after_pay party pay mac ending b = if_passed (in_refusal party b.entries pay mac) (take_in pay ending b) b

-- the bytes spell a payment, which is tested; or they spell none, and the books stay
abbrev pub TakesBytes : Party → List ℕ → Ending → Books → Books → Type 0
TakesBytes party bytes ending b next = ((pay : Pay) × (mac : ℕ) × SpellsPay (without_line_end bytes) pay mac × (next ≡ after_pay party pay mac ending b))
    ⊎ (((pay : Pay) (mac : ℕ) → SpellsPay (without_line_end bytes) pay mac → ⊥) × (next ≡ b))

-- a call leads from books to the next
abbrev pub Steps : Call → Books → Books → Type 0
Steps (Pays party peer name amount ending) b next = next ≡ if_passed (out_refusal party b.entries peer name) (pay_out (out_pay party b.entries peer name amount) ending b) b
Steps (Accepts party bytes ending) b next = TakesBytes party bytes ending b next

abbrev pub CallsLead : List Call → Books → Books → Type 0
CallsLead [] b end = end ≡ b
CallsLead (call ∷ calls) b end = (next : Books) × Steps call b next × CallsLead calls next end

-- a ledger with these entries, over which no call was made yet
abbrev pub opened_books : List Entry → Books
opened_books entries = record { entries = entries; paid = []; taken = [] }

-- no other payment of the list has that peer, name and number
abbrev pub NoneLike : (Pay → List ℕ) → Pay → List Pay → Type 0
NoneLike peer p [] = Unit {0}
NoneLike peer p (q ∷ pays) = ((peer q ≡ peer p) × (q.key ≡ p.key) × (q.number ≡ p.number) → ⊥) × NoneLike peer p pays

-- no two have the same
abbrev pub AllApart : (Pay → List ℕ) → List Pay → Type 0
AllApart peer [] = Unit {0}
AllApart peer (p ∷ pays) = NoneLike peer p pays × AllApart peer pays

-- no two payments that were taken in have the same peer, name and number, and no two texts that were paid out have
pub record PaidOnce (b : Books) : Type 0 where
  pub taken : AllApart (λ p. p.from) b.taken
  pub paid : AllApart (λ p. p.to) b.paid
