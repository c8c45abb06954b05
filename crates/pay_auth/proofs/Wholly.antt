-- Payments that are all of the bytes.
use Rattle.std.proofs.Common.{◌≡◌, ℕ, zero, suc, ◌+◌, ◌-◌, ◌<◌, ◌≤◌, List, [], ◌∷◌, ◌++◌, length, take, refl, sym, ap, ◌∙◌, subst, arith, append_assoc, append-nil, length-append, lit<}
use Rattle.change_code.specs.Reading.{Form, StartsWith}
use Rattle.change_code.proofs.Joining.{Apart, both, apart_both, begins_both}
use Rattle.pay_auth.specs.declared.pay.Pay.{Pay}
use Rattle.pay_auth.specs.Texts.{pay_auth_text, SpellsPay, BeginsPay, IsNoPay}
use Rattle.pay_auth.specs.Scanning.{Stops, StopsPay, IsWholePay, pay_form, mac_form}
use Rattle.pay_auth.proofs.Stopping.{stops_first, stops_second}
use Rattle.pay_auth.proofs.Fields.{pay_apart, mac_apart}

abbrev Whole : Form (Pay × ℕ)
Whole = both pay_form mac_form

whole_apart : Apart Whole
whole_apart = apart_both pay_form mac_form pay_apart mac_apart

-- a payment is a value of the form
to_whole : (bytes : List ℕ) (p : Pay) (mac : ℕ) → SpellsPay bytes p mac → (Whole.Fits (p, mac)) × (bytes ≡ Whole.code (p, mac))
unfolding both
to_whole bytes p mac spells = ((spells.pay, spells.code), spells.text)

of_whole : (bytes : List ℕ) (x : Pay × ℕ) → Whole.Fits x → bytes ≡ Whole.code x → SpellsPay bytes x.0 x.1
unfolding both
of_whole bytes x fits is = record { pay = fits.0; code = fits.1; text = is }

-- where the form stops, payments do
pub stops_pay : (bytes rest : List ℕ) → Stops Whole bytes rest → StopsPay bytes rest
stops_pay bytes rest s = record {
  none = λ p mac spells. let w = to_whole bytes p mac spells in s.lacks.none (p, mac) [] w.0 (w.1 ∙ sym (append-nil (Whole.code (p, mac))));
  front = s.front;
  is = s.is;
  begins = record { pay = s.begins.value.0; mac = s.begins.value.1; rest = s.begins.rest; spells = of_whole (s.front ++ s.begins.rest) s.begins.value s.begins.fits s.begins.is };
  longest = λ b after is e. let w = to_whole ((s.front ++ b ∷ []) ++ e.rest) e.pay e.mac e.spells in s.longest b after is (record { value = (e.pay, e.mac); rest = e.rest; fits = w.0; is = w.1 });
}

pub no_front : (bytes rest : List ℕ) → Stops pay_form bytes rest → StopsPay bytes rest
no_front bytes rest s = stops_pay bytes rest (stops_first pay_form mac_form bytes rest 0 (lit< tt) s)

pub no_code : (bytes more rest : List ℕ) (p : Pay) → StartsWith pay_form bytes more p → Stops mac_form more rest → StopsPay bytes rest
no_code bytes more rest p starts s = stops_pay bytes rest (stops_second pay_form mac_form bytes more rest p pay_apart starts s)

module _ (bytes more rest : List ℕ) (p : Pay) (mac : ℕ) (front : StartsWith pay_form bytes more p) (back : StartsWith mac_form more rest mac) where
  there : StartsWith Whole bytes rest (p, mac)
  there = begins_both pay_form mac_form bytes more rest p mac front back

  -- something is behind the payment
  pub more_behind : 0 < length rest → StopsPay bytes rest
  more_behind some = record {
    none = λ q other spells.
        let w = to_whole bytes q other spells in
        let same = whole_apart.same (p, mac) (q, other) rest [] there.fits w.0 (sym there.is ∙ (w.1 ∙ sym (append-nil (Whole.code (q, other))))) in
        omega (arith, some, ap length same.1);
    front = Whole.code (p, mac);
    is = there.is;
    begins = record { pay = p; mac = mac; rest = []; spells = of_whole (Whole.code (p, mac) ++ []) (p, mac) there.fits (append-nil (Whole.code (p, mac))) };
    longest = λ b after is e.
        let w = to_whole ((Whole.code (p, mac) ++ b ∷ []) ++ e.rest) e.pay e.mac e.spells in
        let same = whole_apart.same (p, mac) (e.pay, e.mac) (b ∷ e.rest) [] there.fits w.0 (sym (append_assoc (Whole.code (p, mac)) (b ∷ []) e.rest) ∙ (w.1 ∙ sym (append-nil (Whole.code (e.pay, e.mac))))) in
        let never : length (b ∷ e.rest) ≡ 0 = ap length same.1 in
        omega (arith, never);
  }

  -- nothing is
  pub all_read : (auth_len : ℕ) → (0 < length rest → ⊥) → auth_len ≡ length bytes - length more → IsWholePay bytes p mac auth_len
  all_read auth_len none is = record {
    spells = of_whole bytes (p, mac) there.fits (there.is ∙ (ap (λ (l : List ℕ). Whole.code (p, mac) ++ l) (empty rest none) ∙ append-nil (Whole.code (p, mac))));
    auth = let size : length bytes ≡ length (pay_auth_text p) + length more = ap length front.is ∙ length-append (pay_auth_text p) more in omega (arith, is, size);
  }
    where
      empty : (l : List ℕ) → (0 < length l → ⊥) → l ≡ []
      empty [] none = refl
      empty (b ∷ l) none = absurd (none (omega arith))

-- two payments that spell the same bytes are one
pub one_pay : (bytes : List ℕ) (p q : Pay) (mac other : ℕ) → SpellsPay bytes p mac → SpellsPay bytes q other → (p ≡ q) × (mac ≡ other)
one_pay bytes p q mac other first second =
    let v = to_whole bytes p mac first in
    let w = to_whole bytes q other second in
    let same = whole_apart.same (p, mac) (q, other) [] [] v.0 w.0 (append-nil (Whole.code (p, mac)) ∙ (sym v.1 ∙ (w.1 ∙ sym (append-nil (Whole.code (q, other)))))) in
    (ap (λ (x : Pay × ℕ). x.0) same.0, ap (λ (x : Pay × ℕ). x.1) same.0)

-- what is read of a payment is a prefix of it
shorter : (bytes more : List ℕ) → BeginsPay (bytes ++ more) → BeginsPay bytes
shorter bytes more b = record { pay = b.pay; mac = b.mac; rest = more ++ b.rest; spells = subst (λ (l : List ℕ). SpellsPay l b.pay b.mac) (append_assoc bytes more b.rest) b.spells }

take_more : (front : List ℕ) (n : ℕ) (rest : List ℕ) → length front < n → (b : ℕ) (after : List ℕ) → rest ≡ b ∷ after → (more : List ℕ) × (take n (front ++ rest) ≡ (front ++ b ∷ []) ++ more)
take_more [] zero rest less b after is = absurd (omega arith)
take_more [] (suc n) rest less b after is = (take n after, ap (take (suc n)) is)
take_more (c ∷ front) zero rest less b after is = absurd (omega arith)
take_more (c ∷ front) (suc n) rest less b after is = let more = take_more front n rest (omega (arith, less)) b after is in (more.0, ap (λ (l : List ℕ). c ∷ l) more.1)

take_front : (front rest : List ℕ) → take (length front) (front ++ rest) ≡ front
take_front [] rest = refl
take_front (c ∷ front) rest = ap (λ (l : List ℕ). c ∷ l) (take_front front rest)

-- the place where a payment stops
pub no_pay : (bytes rest : List ℕ) (place : ℕ) → StopsPay bytes rest → place ≡ length bytes - length rest → IsNoPay bytes place
no_pay bytes rest place s is =
    let size : length bytes ≡ length s.front + length rest = ap length s.is ∙ length-append s.front rest in
    let at : place ≡ length s.front = omega (arith, is, size) in
    record {
      none = s.none;
      within = omega (arith, at, size);
      front = subst BeginsPay (sym (ap (λ (k : ℕ). take k bytes) at ∙ (ap (take (length s.front)) s.is ∙ take_front s.front rest))) s.begins;
      longest = λ n less within begins. beyond n rest refl (omega (arith, less, at)) (omega (arith, within, size)) begins;
    }
  where
    beyond : (n : ℕ) (tail : List ℕ) → rest ≡ tail → length s.front < n → n ≤ length s.front + length rest → BeginsPay (take n bytes) → ⊥
    beyond n [] none less within begins = let size : length rest ≡ 0 = ap length none in omega (arith, less, within, size)
    beyond n (b ∷ after) some less within begins =
        let more = take_more s.front n rest less b after some in
        s.longest b after some (shorter (s.front ++ b ∷ []) more.0 (subst BeginsPay (ap (take n) s.is ∙ more.1) begins))
