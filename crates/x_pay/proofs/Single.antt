-- By two images one outcome is due.
use Rattle.std.proofs.Common.{◌≡◌, ◌⊎◌, inl, inr, ℕ, nat_lt, Bool, true, false, List, Option, Some, None, refl, sym, ◌∙◌, ap, subst, arith}
use Rattle.key_journal.specs.Journal.{is_blank}
use Rattle.party_state.specs.State.{Party}
use Rattle.key_store.specs.Store.{Stands, IsFirstDamage}
use Rattle.x_base.specs.declared.key_name.KeyName.{KeyName}
use Rattle.pay_auth.specs.declared.entry.Entry.{Entry}
use Rattle.pay_auth.specs.declared.pay.Pay.{Pay}
use Rattle.pay_auth.specs.declared.refusal.PayRefusal.{PayRefusal}
use Rattle.pay_auth.specs.declared.refusal.PayRefusal.TheVariants.{BadPay}
use Rattle.pay_auth.specs.Decisions.{TakesIn, RefusesIn, in_refusal, receipt}
use Rattle.pay_auth.specs.Ledgers.{HasEntries, ReadsEntries, IsLedgerDamage}
use Rattle.pay_auth.specs.Texts.{SpellsPay, IsNoPay, without_line_end}
use Rattle.x_pay.specs.Outcomes.{Payment}
use Rattle.x_pay.specs.Dues.{FindsBoth, IsDueOther, IsDueDamaged, IsDuePayment}
use Rattle.x_pay.specs.Payments.{paying, accepting}
use Rattle.x_pay.specs.declared.outcome.PayOutcome.{PayOutcome}
use Rattle.x_pay.specs.declared.outcome.PayOutcome.TheVariants as outcome

-- a payment is answered in one way
pub record IsAnsweredOnce (w : Payment) : Type 0 where
  pub text : (p : Party) (es : List Entry) (e f : Entry) (a b : List ℕ) → w.Passes p es e a → w.Passes p es f b → a ≡ b
  pub cause : (p : Party) (es : List Entry) (a b : PayRefusal) → w.Refuses p es a → w.Refuses p es b → a ≡ b
  pub apart : (p : Party) (es : List Entry) (e : Entry) (a : List ℕ) (b : PayRefusal) → w.Passes p es e a → w.Refuses p es b → ⊥

same_some : (a b : PayRefusal) (o : Option PayRefusal) → o ≡ Some a → o ≡ Some b → a ≡ b
same_some a b o first second = let both : Some a ≡ Some b = sym first ∙ second in cc both

none_some : (o : Option PayRefusal) (a : PayRefusal) → o ≡ None → o ≡ Some a → ⊥
none_some o a none some = let both : None ≡ Some a = sym none ∙ some in cc both

pub out_once : (peer : List ℕ) (key : KeyName) (amount : ℕ) → IsAnsweredOnce (paying peer key amount)
out_once peer key amount = record {
  text = λ p es e f a b first second. first.text_is ∙ sym second.text_is;
  cause = λ p es a b first second. same_some a b _ first second;
  apart = λ p es e a b passes refuses. none_some _ b passes.passes refuses;
}

one_place : (bytes : List ℕ) (a b : ℕ) → IsNoPay bytes a → IsNoPay bytes b → a ≡ b
one_place bytes a b first second = by_tests (nat_lt a b) (nat_lt b a) refl refl
  where
    by_tests : (c d : Bool) → nat_lt a b ≡ c → nat_lt b a ≡ d → a ≡ b
    by_tests true d less other = absurd (first.longest b (grind (arith, less)) second.within second.front)
    by_tests false true other less = absurd (second.longest a (grind (arith, less)) first.within first.front)
    by_tests false false first_not second_not = grind (arith, first_not, second_not)

module _ (one_pay : (bytes : List ℕ) (p q : Pay) (mac other : ℕ) → SpellsPay bytes p mac → SpellsPay bytes q other → (p ≡ q) × (mac ≡ other)) (bytes : List ℕ) where
  in_cause : (p : Party) (es : List Entry) (a b : PayRefusal) → RefusesIn p bytes es a → RefusesIn p bytes es b → a ≡ b
  in_cause p es a b (inl first) (inl second) = first.cause_is ∙ (ap BadPay (one_place (without_line_end bytes) first.place second.place first.no_pay second.no_pay) ∙ sym second.cause_is)
  in_cause p es a b (inl first) (inr second) = absurd (first.no_pay.none second.pay second.mac second.spells)
  in_cause p es a b (inr first) (inl second) = absurd (second.no_pay.none first.pay first.mac first.spells)
  in_cause p es a b (inr first) (inr second) =
      let same = one_pay (without_line_end bytes) first.pay second.pay first.mac second.mac first.spells second.spells in
      same_some a b (in_refusal p es second.pay second.mac) (ap (in_refusal p es second.pay) (sym same.1) ∙ (ap (λ (q : Pay). in_refusal p es q first.mac) (sym same.0) ∙ first.fails)) second.fails

  in_apart : (p : Party) (es : List Entry) (e : Entry) (a : List ℕ) (b : PayRefusal) → TakesIn p bytes es e a → RefusesIn p bytes es b → ⊥
  in_apart p es e a b takes (inl bad) = bad.no_pay.none takes.pay takes.passes.mac takes.passes.spells
  in_apart p es e a b takes (inr is) =
      let same = one_pay (without_line_end bytes) takes.pay is.pay takes.passes.mac is.mac takes.passes.spells is.spells in
      none_some (in_refusal p es is.pay is.mac) b (ap (in_refusal p es is.pay) (sym same.1) ∙ (ap (λ (q : Pay). in_refusal p es q takes.passes.mac) (sym same.0) ∙ takes.passes.passes)) is.fails

  pub in_once : IsAnsweredOnce (accepting bytes)
  in_once = record {
    text = λ p es e f a b first second.
        let same = one_pay (without_line_end bytes) first.pay second.pay first.passes.mac second.passes.mac first.passes.spells second.passes.spells in
        first.text_is ∙ (ap receipt same.0 ∙ sym second.text_is);
    cause = in_cause;
    apart = in_apart;
  }

differ : (b : Bool) → b ≡ true → b ≡ false → ⊥
differ b set clear = let both : true ≡ false = sym set ∙ clear in cc both

module _ (one_list : (book : List ℕ) (es fs : List Entry) → HasEntries book es → HasEntries book fs → es ≡ fs) (list_full : (book : List ℕ) (es : List Entry) → HasEntries book es → is_blank book ≡ false) where
  pub reads_one : (book : List ℕ) (es fs : List Entry) → ReadsEntries book es → ReadsEntries book fs → es ≡ fs
  reads_one book es fs (inl a) (inl b) = a.1 ∙ sym b.1
  reads_one book es fs (inl a) (inr b) = absurd (differ (is_blank book) a.0 (list_full book fs b))
  reads_one book es fs (inr a) (inl b) = absurd (differ (is_blank book) b.0 (list_full book es a))
  reads_one book es fs (inr a) (inr b) = one_list book es fs a b

module _ (one_party : (image : List ℕ) (p q : Party) → Stands image p → Stands image q → p ≡ q)
    (party_full : (image : List ℕ) (p : Party) → Stands image p → is_blank image ≡ false)
    (party_sound : (image : List ℕ) (p : Party) (place : ℕ) → Stands image p → IsFirstDamage image place → ⊥)
    (party_damage : (image : List ℕ) (a b : ℕ) → IsFirstDamage image a → IsFirstDamage image b → a ≡ b)
    (one_list : (book : List ℕ) (es fs : List Entry) → HasEntries book es → HasEntries book fs → es ≡ fs)
    (list_full : (book : List ℕ) (es : List Entry) → HasEntries book es → is_blank book ≡ false)
    (list_sound : (book : List ℕ) (es : List Entry) (place : ℕ) → HasEntries book es → IsLedgerDamage book place → ⊥)
    (list_damage : (book : List ℕ) (a b : ℕ) → IsLedgerDamage book a → IsLedgerDamage book b → a ≡ b) where
  reads_sound : (book : List ℕ) (es : List Entry) (place : ℕ) → ReadsEntries book es → IsLedgerDamage book place → ⊥
  reads_sound book es place (inl a) damage = differ (is_blank book) a.0 damage.not_blank
  reads_sound book es place (inr a) damage = list_sound book es place a damage

  module _ (w : Payment) (once : IsAnsweredOnce w) (name image book : List ℕ) where
    -- both are found: then nothing but an answer is due
    module _ (p : Party) (es : List Entry) (found : FindsBoth name image book p es) where
      not_other : (asked own : List ℕ) → IsDueOther name image asked own → ⊥
      not_other asked own other = other.differs (other.own ∙ (ap (λ (q : Party). q.own) (one_party image other.p p other.stands found.party.stands) ∙ found.party.own))

      not_blank : is_blank image ≡ true → ⊥
      not_blank blank = differ (is_blank image) blank (party_full image p found.party.stands)

      not_damaged : (place : ℕ) → IsFirstDamage image place ⊎ IsDueDamaged name image book place → ⊥
      not_damaged place (inl first) = party_sound image p place found.party.stands first
      not_damaged place (inr damaged) = reads_sound book es place found.reads damaged.first

      passes_here : (q : Party) (fs : List Entry) (e : Entry) (text : List ℕ) → FindsBoth name image book q fs → w.Passes q fs e text → w.Passes p es e text
      passes_here q fs e text other passes =
          subst (λ (l : List Entry). w.Passes p l e text) (reads_one one_list list_full book fs es other.reads found.reads)
          (subst (λ (r : Party). w.Passes r fs e text) (one_party image q p other.party.stands found.party.stands) passes)

      refuses_here : (q : Party) (fs : List Entry) (cause : PayRefusal) → FindsBoth name image book q fs → w.Refuses q fs cause → w.Refuses p es cause
      refuses_here q fs cause other refuses =
          subst (λ (l : List Entry). w.Refuses p l cause) (reads_one one_list list_full book fs es other.reads found.reads)
          (subst (λ (r : Party). w.Refuses r fs cause) (one_party image q p other.party.stands found.party.stands) refuses)

    other_blank : (asked own : List ℕ) → IsDueOther name image asked own → is_blank image ≡ true → ⊥
    other_blank asked own other blank = differ (is_blank image) blank (party_full image other.p other.stands)

    other_damaged : (asked own : List ℕ) (place : ℕ) → IsDueOther name image asked own → IsFirstDamage image place ⊎ IsDueDamaged name image book place → ⊥
    other_damaged asked own place other (inl first) = party_sound image other.p place other.stands first
    other_damaged asked own place other (inr damaged) =
        other.differs (other.own ∙ (ap (λ (q : Party). q.own) (one_party image other.p damaged.p other.stands damaged.party.stands) ∙ damaged.party.own))

    blank_damaged : (place : ℕ) → is_blank image ≡ true → IsFirstDamage image place ⊎ IsDueDamaged name image book place → ⊥
    blank_damaged place blank (inl first) = differ (is_blank image) blank first.not_blank
    blank_damaged place blank (inr damaged) = differ (is_blank image) blank (party_full image damaged.p damaged.party.stands)

    one_place_of : (a b : ℕ) → IsFirstDamage image a ⊎ IsDueDamaged name image book a → IsFirstDamage image b ⊎ IsDueDamaged name image book b → a ≡ b
    one_place_of a b (inl first) (inl second) = party_damage image a b first second
    one_place_of a b (inl first) (inr damaged) = absurd (party_sound image damaged.p a damaged.party.stands first)
    one_place_of a b (inr damaged) (inl second) = absurd (party_sound image damaged.p b damaged.party.stands second)
    one_place_of a b (inr first) (inr second) = list_damage book a b first.first second.first

    both_other : (asked found called own : List ℕ) → IsDueOther name image asked found → IsDueOther name image called own → outcome.OtherParty asked found ≡ outcome.OtherParty called own
    both_other asked found called own a b =
        let name_is : asked ≡ called = a.called ∙ sym b.called in
        let own_is : found ≡ own = a.own ∙ (ap (λ (p : Party). p.own) (one_party image a.p b.p a.stands b.stands) ∙ sym b.own) in
        cc

    pub one_due : (a b : PayOutcome) → IsDuePayment w name image book a → IsDuePayment w name image book b → a ≡ b
    one_due (outcome.Done t) (outcome.Done u) a b = ap outcome.Done (once.text a.p a.entries a.entry b.entry t u a.passes (passes_here a.p a.entries a.found b.p b.entries b.entry u b.found b.passes))
    one_due (outcome.Done t) (outcome.Refused c) a b = absurd (once.apart a.p a.entries a.entry t c a.passes (refuses_here a.p a.entries a.found b.p b.entries c b.found b.refuses))
    one_due (outcome.Done t) (outcome.OtherParty asked own) a b = absurd (not_other a.p a.entries a.found asked own b)
    one_due (outcome.Done t) outcome.Blank a b = absurd (not_blank a.p a.entries a.found b)
    one_due (outcome.Done t) (outcome.Damaged place) a b = absurd (not_damaged a.p a.entries a.found place b)
    one_due (outcome.Refused c) (outcome.Done u) a b = absurd (once.apart b.p b.entries b.entry u c b.passes (refuses_here b.p b.entries b.found a.p a.entries c a.found a.refuses))
    one_due (outcome.Refused c) (outcome.Refused d) a b = ap outcome.Refused (once.cause a.p a.entries c d a.refuses (refuses_here a.p a.entries a.found b.p b.entries d b.found b.refuses))
    one_due (outcome.Refused c) (outcome.OtherParty asked own) a b = absurd (not_other a.p a.entries a.found asked own b)
    one_due (outcome.Refused c) outcome.Blank a b = absurd (not_blank a.p a.entries a.found b)
    one_due (outcome.Refused c) (outcome.Damaged place) a b = absurd (not_damaged a.p a.entries a.found place b)
    one_due (outcome.OtherParty asked own) (outcome.Done u) a b = absurd (not_other b.p b.entries b.found asked own a)
    one_due (outcome.OtherParty asked own) (outcome.Refused d) a b = absurd (not_other b.p b.entries b.found asked own a)
    one_due (outcome.OtherParty asked found) (outcome.OtherParty called own) a b = both_other asked found called own a b
    one_due (outcome.OtherParty asked own) outcome.Blank a b = absurd (other_blank asked own a b)
    one_due (outcome.OtherParty asked own) (outcome.Damaged place) a b = absurd (other_damaged asked own place a b)
    one_due outcome.Blank (outcome.Done u) a b = absurd (not_blank b.p b.entries b.found a)
    one_due outcome.Blank (outcome.Refused d) a b = absurd (not_blank b.p b.entries b.found a)
    one_due outcome.Blank (outcome.OtherParty asked own) a b = absurd (other_blank asked own b a)
    one_due outcome.Blank outcome.Blank a b = refl
    one_due outcome.Blank (outcome.Damaged place) a b = absurd (blank_damaged place a b)
    one_due (outcome.Damaged place) (outcome.Done u) a b = absurd (not_damaged b.p b.entries b.found place a)
    one_due (outcome.Damaged place) (outcome.Refused d) a b = absurd (not_damaged b.p b.entries b.found place a)
    one_due (outcome.Damaged place) (outcome.OtherParty asked own) a b = absurd (other_damaged asked own place b a)
    one_due (outcome.Damaged place) outcome.Blank a b = absurd (blank_damaged place b a)
    one_due (outcome.Damaged place) (outcome.Damaged other) a b = ap outcome.Damaged (one_place_of place other a b)
    one_due outcome.Fault other a b = absurd a
    one_due outcome.NoMemory other a b = absurd a
    one_due (outcome.Done t) outcome.Fault a b = absurd b
    one_due (outcome.Done t) outcome.NoMemory a b = absurd b
    one_due (outcome.Refused c) outcome.Fault a b = absurd b
    one_due (outcome.Refused c) outcome.NoMemory a b = absurd b
    one_due (outcome.OtherParty asked own) outcome.Fault a b = absurd b
    one_due (outcome.OtherParty asked own) outcome.NoMemory a b = absurd b
    one_due outcome.Blank outcome.Fault a b = absurd b
    one_due outcome.Blank outcome.NoMemory a b = absurd b
    one_due (outcome.Damaged place) outcome.Fault a b = absurd b
    one_due (outcome.Damaged place) outcome.NoMemory a b = absurd b
