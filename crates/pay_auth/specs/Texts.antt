-- Payments and how they are written (this project's profile).
use Rattle.std.specs.Prelude.{◌≡◌, ℕ, ◌≤◌, ◌<◌, ◌^◌, ◌==◌, if◌then◌else◌, List, [], ◌∷◌, ◌++◌, length, take, codes}
use Rattle.std.specs.Fmt.{decimal}
use Rattle.csm_write.specs.Canon.{code_digits}
use Rattle.x_base.specs.Names.{IsIdent}
use Rattle.x_base.specs.Count.{IsCount}
use Rattle.x_base.specs.KeyName.{IsKeyName, written}
use Rattle.pay_auth.specs.declared.pay.Pay.{Pay}

-- each part of the payment is in its range
pub record IsPay (p : Pay) : Type 0 where
  pub from : IsIdent p.from
  pub to : IsIdent p.to
  pub key : IsKeyName p.key
  pub number : IsCount p.number
  pub amount : IsCount p.amount

-- the authenticated text: all before the tag MAC; counts in decimal digits without leading zeros
abbrev pub pay_auth_text : Pay → List ℕ
pay_auth_text p =
    codes "PAY(FROM/" ++ (p.from ++ (codes " TO/" ++ (p.to ++ (codes " KEY/" ++ (written p.key ++ (codes " NUM/" ++ (decimal p.number ++ (codes " AMT/" ++ (decimal p.amount ++ codes " ")))))))))

-- the text of a payment with this code, in eight upper-case digits
abbrev pub pay_text : Pay → ℕ → List ℕ
pay_text p mac = pay_auth_text p ++ (codes "MAC/" ++ (code_digits mac ++ codes ")"))

-- the bytes spell this payment with this code
pub record SpellsPay (bytes : List ℕ) (p : Pay) (mac : ℕ) : Type 0 where
  pub pay : IsPay p
  pub code : mac < 2 ^ 32
  pub text : bytes ≡ pay_text p mac

-- the bytes are a prefix of a payment
pub record BeginsPay (bytes : List ℕ) : Type 0 where
  pub pay : Pay
  pub mac : ℕ
  pub rest : List ℕ
  pub spells : SpellsPay (bytes ++ rest) pay mac

-- the bytes are no payment, and this is the length of their longest prefix that is a prefix of a payment
pub record IsNoPay (bytes : List ℕ) (place : ℕ) : Type 0 where
  pub none : (p : Pay) (mac : ℕ) → SpellsPay bytes p mac → ⊥
  pub within : place ≤ length bytes
  pub front : BeginsPay (take place bytes)
  pub longest : (n : ℕ) → place < n → n ≤ length bytes → BeginsPay (take n bytes) → ⊥

-- the bytes without one LF at their end
abbrev pub without_line_end : List ℕ → List ℕ
without_line_end [] = []
without_line_end (b ∷ []) = if b == 10 then [] else b ∷ []
without_line_end (b ∷ c ∷ bytes) = b ∷ without_line_end (c ∷ bytes)
