-- The one key name that bytes spell, or the one fault that they have.
use Rattle.std.proofs.Common.{◌≡◌, ◌≢◌, ◌==◌, ◌↔◌, ◌<◌, ℕ, Bool, true, false, List, [], ◌∷◌, length, Result, Ok, Err, refl, ap, sym, ◌∙◌, subst, arith}
use Rattle.std.proofs.lemmas.List.Elements.{All-nil, All-cons}
use Rattle.std.proofs.lemmas.List.Splits.{slice_split_none, slice_split_at, join_with_byte-slice_split}
use Rattle.std.specs.List.{All, list_all, join_with_byte}
use Rattle.std.proofs.lemmas.Bool.Decides.{nat_tests}
use Rattle.std.proofs.lemmas.Str.Parse.{digit_from_value}
use Rattle.std.specs.Char.{digit_value}
use Rattle.std.specs.Prelude.{IsTrue}
use Rattle.std.specs.Result.{MatchResult}
use Rattle.std.specs.Str.Parse.{digits_value, AllDigits}
use Rattle.x_base.specs.declared.key_name.KeyName.{KeyName}
use Rattle.x_base.specs.declared.key_name.NameFault.{NameFault}
use Rattle.x_base.specs.declared.key_name.NameFault.TheVariants.{BadIdent, BadLabel, BadCount}
use Rattle.x_base.specs.Count.{SpellsCount}
use Rattle.x_base.specs.KeyName.{NameOf, parts_of, IsPartsFault, IsNameFault}
use Rattle.x_base.specs.Names.{is_name_byte, is_name, IsIdent, IsLabel}

abbrev is_period : ℕ → Bool
is_period b = b == 46

abbrev HasNoPeriod : List ℕ → Type 0
HasNoPeriod bytes = All (λ b. is_period b ≡ false) bytes

name_byte_no_period : (b : ℕ) → is_name_byte b ≡ true → is_period b ≡ false
name_byte_no_period b h = grind (arith, nat_tests)

name_bytes_no_period : (bytes : List ℕ) → list_all is_name_byte bytes ≡ true → HasNoPeriod bytes
name_bytes_no_period [] h = All-nil (λ (b : ℕ). is_period b ≡ false)
name_bytes_no_period (b ∷ bs) h =
    let both : (is_name_byte b ≡ true) × (list_all is_name_byte bs ≡ true) = grind (arith, nat_tests) in
    All-cons (λ (x : ℕ). is_period x ≡ false) b bs (name_byte_no_period b both.0) (name_bytes_no_period bs both.1)

name_no_period : (low : ℕ) (bytes : List ℕ) → IsTrue (is_name low 16 bytes) → HasNoPeriod bytes
name_no_period low bytes h = name_bytes_no_period bytes (grind (arith, nat_tests))

digit_no_period : (c : ℕ) → digit_value c < 10 → is_period c ≡ false
digit_no_period c h = let range = digit_from_value c h in grind (arith, nat_tests)

digits_no_period : (ds : List ℕ) → AllDigits 10 ds → HasNoPeriod ds
digits_no_period [] h = All-nil (λ (b : ℕ). is_period b ≡ false)
digits_no_period (c ∷ cs) h = All-cons (λ (b : ℕ). is_period b ≡ false) c cs (digit_no_period c h.0) (digits_no_period cs h.1)

parts_named : (bytes : List ℕ) (name : KeyName) (h : NameOf bytes name) → parts_of bytes ≡ name.issuer ∷ name.originator ∷ name.label ∷ h.digits ∷ []
parts_named bytes name h =
    let i = name_no_period 4 name.issuer h.issuer in
    let o = name_no_period 4 name.originator h.originator in
    let l = name_no_period 1 name.label h.label in
    let d = digits_no_period h.digits h.count.digits in
    let behind : List ℕ = join_with_byte 46 (name.originator ∷ name.label ∷ h.digits ∷ []) in
    let last : List ℕ = join_with_byte 46 (name.label ∷ h.digits ∷ []) in
    ap parts_of h.text
    ∙ slice_split_at is_period name.issuer 46 behind i refl
    ∙ ap (λ (ps : List (List ℕ)). name.issuer ∷ ps) (slice_split_at is_period name.originator 46 last o refl)
    ∙ ap (λ (ps : List (List ℕ)). name.issuer ∷ name.originator ∷ ps) (slice_split_at is_period name.label 46 h.digits l refl)
    ∙ ap (λ (ps : List (List ℕ)). name.issuer ∷ name.originator ∷ name.label ∷ ps) (slice_split_none is_period h.digits d)

same_fields : (a b : KeyName) → a.issuer ≡ b.issuer → a.originator ≡ b.originator → a.label ≡ b.label → a.count ≡ b.count → a ≡ b
same_fields a b i o l c =
    let make : List ℕ → List ℕ → List ℕ → ℕ → KeyName = λ issuer originator label count. record { issuer = issuer; originator = originator; label = label; count = count } in
    ap (λ (x : List ℕ). make x a.originator a.label a.count) i
    ∙ ap (λ (x : List ℕ). make b.issuer x a.label a.count) o
    ∙ ap (λ (x : List ℕ). make b.issuer b.originator x a.count) l
    ∙ ap (λ (x : ℕ). make b.issuer b.originator b.label x) c

-- bytes spell one key name at most
pub same_name : (bytes : List ℕ) (a b : KeyName) → NameOf bytes a → NameOf bytes b → a ≡ b
same_name bytes a b h k =
    let p : a.issuer ∷ a.originator ∷ a.label ∷ h.digits ∷ [] ≡ b.issuer ∷ b.originator ∷ b.label ∷ k.digits ∷ [] = sym (parts_named bytes a h) ∙ parts_named bytes b k in
    let i : a.issuer ≡ b.issuer = cc in
    let o : a.originator ≡ b.originator = cc in
    let l : a.label ≡ b.label = cc in
    let d : h.digits ≡ k.digits = cc in
    same_fields a b i o l (h.number ∙ ap (digits_value 10) d ∙ sym k.number)

same_fault : (parts : List (List ℕ)) (f g : NameFault) → IsPartsFault parts f → IsPartsFault parts g → f ≡ g
same_fault (i ∷ o ∷ l ∷ d ∷ []) BadIdent BadIdent p q = refl
same_fault (i ∷ o ∷ l ∷ d ∷ []) BadIdent BadLabel p q = absurd (p (q.0, q.1))
same_fault (i ∷ o ∷ l ∷ d ∷ []) BadIdent BadCount p q = absurd (p (q.0, q.1))
same_fault (i ∷ o ∷ l ∷ d ∷ []) BadLabel BadIdent p q = absurd (q (p.0, p.1))
same_fault (i ∷ o ∷ l ∷ d ∷ []) BadLabel BadLabel p q = refl
same_fault (i ∷ o ∷ l ∷ d ∷ []) BadLabel BadCount p q = absurd (p.2 q.2)
same_fault (i ∷ o ∷ l ∷ d ∷ []) BadCount BadIdent p q = absurd (q (p.0, p.1))
same_fault (i ∷ o ∷ l ∷ d ∷ []) BadCount BadLabel p q = absurd (q.2 p.2)
same_fault (i ∷ o ∷ l ∷ d ∷ []) BadCount BadCount p q = refl
same_fault parts f g p q = p ∙ sym q

no_fault : (i o l d : List ℕ) (f : NameFault) → IsIdent i → IsIdent o → IsLabel l → SpellsCount d → IsPartsFault (i ∷ o ∷ l ∷ d ∷ []) f → ⊥
no_fault i o l d BadIdent hi ho hl hd p = p (hi, ho)
no_fault i o l d BadLabel hi ho hl hd p = p.2 hl
no_fault i o l d BadCount hi ho hl hd p = p.3 hd

name_or_fault : (bytes : List ℕ) (name : KeyName) (f : NameFault) → NameOf bytes name → IsNameFault bytes f → ⊥
name_or_fault bytes name f h p =
    no_fault name.issuer name.originator name.label h.digits f h.issuer h.originator h.label h.count (rw (parts_named bytes name h) at p)

-- what reading the bytes answers
abbrev pub IsRead : List ℕ → Result KeyName NameFault → Type 0
IsRead bytes r = MatchResult r (NameOf bytes) (IsNameFault bytes)

pub spelled : (bytes : List ℕ) (r : Result KeyName NameFault) → IsRead bytes r → (name : KeyName) → (r ≡ Ok name) ↔ NameOf bytes name
spelled bytes (Ok n) h name = ((λ (e : Ok n ≡ Ok name). let same : n ≡ name = cc in subst (NameOf bytes) same h), λ (k : NameOf bytes name). ap Ok (same_name bytes n name h k))
spelled bytes (Err f) h name = ((λ (e : Err f ≡ Ok name). cc), λ (k : NameOf bytes name). absurd (name_or_fault bytes name f k h))

pub faulted : (bytes : List ℕ) (r : Result KeyName NameFault) → IsRead bytes r → (fault : NameFault) → (r ≡ Err fault) ↔ IsNameFault bytes fault
faulted bytes (Ok n) h fault = ((λ (e : Ok n ≡ Err fault). cc), λ (k : IsNameFault bytes fault). absurd (name_or_fault bytes n fault h k))
faulted bytes (Err f) h fault = ((λ (e : Err f ≡ Err fault). let same : f ≡ fault = cc in subst (IsNameFault bytes) same h), λ (k : IsNameFault bytes fault). ap Err (same_fault (parts_of bytes) f fault h k))

not_four : (parts : List (List ℕ)) → length parts ≢ 4 → IsPartsFault parts BadIdent
not_four (i ∷ o ∷ l ∷ d ∷ []) h = absurd (h refl)
not_four parts h = refl

pub read_none : (bytes : List ℕ) → length (parts_of bytes) ≢ 4 → IsRead bytes (Err BadIdent)
read_none bytes h = not_four (parts_of bytes) h

pub read_parts : (bytes i o l d : List ℕ) (r : Result KeyName NameFault) → parts_of bytes ≡ i ∷ o ∷ l ∷ d ∷ [] → MatchResult r (NameOf (join_with_byte 46 (i ∷ o ∷ l ∷ d ∷ []))) (IsPartsFault (i ∷ o ∷ l ∷ d ∷ [])) → IsRead bytes r
read_parts bytes i o l d (Ok n) e h = subst (λ (b : List ℕ). NameOf b n) (ap (join_with_byte 46) (sym e) ∙ join_with_byte-slice_split 46 bytes) h
read_parts bytes i o l d (Err f) e h = subst (λ (parts : List (List ℕ)). IsPartsFault parts f) (sym e) h
