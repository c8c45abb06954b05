-- The one code of a message.
use Rattle.std.proofs.Common.{◌≡◌, ℕ, ◌≤◌, Bool, true, false, List, [], ◌∷◌, ◌++◌, length, map, Option, Some, None, refl, sym, ◌∙◌, ap, subst, arith, inl, inr}
use Rattle.std.specs.Prelude.{◌||◌, not, ◌⊎◌}
use Rattle.std.specs.List.{list_all, list_any}
use Rattle.std.proofs.lemmas.Bool.{and_parts, and_from, or_parts, or_cases, not-true, false_from_ne_true, false≢true, both_ways}
use Rattle.std.proofs.lemmas.List.Folds.{list_all-append}
use Rattle.csm_grammar.specs.declared.tag.Tag.{Tag}
use Rattle.csm_grammar.specs.declared.tag.Tag.TheVariants.{Mcl, Idu, Idd, Ida, Idk1, Idk2, Kd, Ctp, Cta, Ctb, Ctr, Iv, Edk, P, Mac, Edc}
use Rattle.csm_grammar.specs.declared.message.Message.{Message}
use Rattle.csm_grammar.specs.declared.message.Message.TheVariants as message
use Rattle.csm_grammar.specs.declared.message.KsmBody.{KsmBody}
use Rattle.csm_grammar.specs.declared.message.KsmBody.TheVariants as body
use Rattle.csm_grammar.specs.declared.message.NewKk.{NewKk}
use Rattle.csm_grammar.specs.declared.message.NewKk.TheVariants as new_kk
use Rattle.csm_grammar.specs.declared.message.Extras.{Extras}
use Rattle.csm_grammar.specs.declared.parsed.Shut.{Shut}
use Rattle.csm_grammar.specs.Tags.{same_tag, count_tag, is_closing}
use Rattle.csm_grammar.specs.Values.{Value, AText, AName, ANumber}
use Rattle.csm_grammar.specs.Messages.{Valued, if_any, extra_fields, new_fields, body_fields, fields_of, shut_field, all_fields}
use Rattle.csm_grammar.specs.Spelling.{Field, tags_in, values_in, values_for, StandFor}
use Rattle.csm_grammar.proofs.TagLemmas.{same_tags}
use Rattle.csm_grammar.proofs.Counting.{count_fields}
use Rattle.csm_grammar.proofs.Slots.{values_append, count_values}
use Rattle.csm_read.proofs.Making.{OneCode, by_mac, by_edc}

-- no code among fields
abbrev pub is_open : List Valued → Bool
is_open vs = list_all (λ v. not (is_closing v.tag)) vs

pub record IsOpen (vs : List Valued) : Type 0 where
  pub open_is : is_open vs ≡ true

open_append : {xs ys : List Valued} → IsOpen xs → IsOpen ys → IsOpen (xs ++ ys)
open_append {xs} {ys} h k = record { open_is = list_all-append (λ v. not (is_closing v.tag)) xs ys ∙ and_from _ _ h.open_is k.open_is }

open_more : (v : Valued) (vs : List Valued) → not (is_closing v.tag) ≡ true → IsOpen vs → IsOpen (v ∷ vs)
open_more v vs h k = record { open_is = and_from _ _ h k.open_is }

open_none : IsOpen []
open_none = record { open_is = refl }

open_if : {A : Type 0} (t : Tag) (f : A → Value) (o : Option A) → not (is_closing t) ≡ true → IsOpen (if_any t f o)
open_if t f None h = record { open_is = refl }
open_if t f (Some x) h = record { open_is = and_from _ _ h refl }

open_extras : (e : Extras) → IsOpen (extra_fields e)
open_extras e = open_append (open_if Iv AText e.iv refl) (open_append (open_if Edk AText e.edk refl) (open_if P AText e.p refl))

open_new : (n : Option (List ℕ × NewKk)) → IsOpen (new_fields n)
open_new None = open_none
open_new (Some n) = go n.1 where
  go : (k : NewKk) → IsOpen (new_fields (Some (n.0, k)))
  go (new_kk.Double l r) = record { open_is = refl }
  go (new_kk.Single k) = record { open_is = refl }

open_body : (b : KsmBody) → IsOpen (body_fields b)
open_body (body.Direct idk2 new kd ctp) = open_append (open_if Idk1 (λ n. AText n.0) new refl) (open_append (open_if Idk2 AText idk2 refl) (open_append (open_new new) (record { open_is = refl })))
open_body (body.Twin idk2 first second ctp) = open_append (open_if Idk2 AText idk2 refl) (record { open_is = refl })
open_body (body.Centre centre kdu ctb) = record { open_is = refl }

pub fields_open : (m : Message) → IsOpen (fields_of m)
fields_open (message.Rsi m) = open_more _ _ refl (open_more _ _ refl (open_more _ _ refl (open_if Idu AText m.ultimate refl)))
fields_open (message.Rfs m) = record { open_is = refl }
fields_open (message.Rtr m) =
    open_more _ _ refl (open_more _ _ refl (open_more _ _ refl (open_append (open_if Kd (λ k. ANumber k.0) m.kd refl) (open_more _ _ refl
    (open_append (open_if Cta (λ k. ANumber k.1) m.kd refl) (open_more _ _ refl (open_extras m.extras)))))))
fields_open (message.Ksm m) = open_more _ _ refl (open_more _ _ refl (open_append (open_body m.body) (open_extras m.extras)))
fields_open (message.Rsm m) = open_more _ _ refl (open_more _ _ refl (open_append (open_if Idd AName m.idd refl) (open_extras m.extras)))
fields_open (message.Ers m) = record { open_is = refl }
fields_open (message.Esm m) =
    open_more _ _ refl (open_more _ _ refl (open_append (open_if Ctp ANumber m.ctp refl) (open_append (open_if Cta ANumber m.cta refl)
    (open_append (open_if Ctb ANumber m.ctb refl) (open_append (open_if Ctr ANumber m.ctr refl) (record { open_is = refl }))))))
fields_open (message.Dsm m) = open_more _ _ refl (open_more _ _ refl (open_more _ _ refl (open_if Ida AName m.ida refl)))

other_closing : (s t : Tag) → is_closing s ≡ false → is_closing t ≡ true → same_tag s t ≡ false
other_closing s t h k = false_from_ne_true (same_tag s t) (λ e. both_ways (is_closing t) (subst (λ (u : Tag). is_closing u ≡ false) (same_tags s t e) h) k)

open_values : (t : Tag) (vs : List Valued) → is_closing t ≡ true → is_open vs ≡ true → values_for t vs ≡ []
open_values t [] h k = refl
open_values t (v ∷ vs) h k =
    let j = and_parts (not (is_closing v.tag)) (is_open vs) k in
    rw (other_closing v.tag t (not-true _ j.0) h) (open_values t vs h j.1)

-- the only code among all fields is the last of them
pub closing_values : (t : Tag) (m : Message) (shut : Shut) → is_closing t ≡ true → values_for t (all_fields m shut) ≡ values_for t (shut_field shut ∷ [])
closing_values t m shut h =
    rw (other_closing Mcl t refl h) (values_append t (fields_of m) (shut_field shut ∷ []) ∙ ap (λ (vs : List Value). vs ++ values_for t (shut_field shut ∷ [])) (open_values t (fields_of m) h (fields_open m).open_is))

-- the tag of the code that comes is that of the message's code
pub code_tag : (t : Tag) (fs : List Field) (m : Message) (shut : Shut) → StandFor fs m shut → is_closing t ≡ true → 1 ≤ count_tag t (tags_in fs) → t ≡ (shut_field shut).tag
code_tag t fs m shut s h n = go (same_tag (shut_field shut).tag t) refl where
  go : (b : Bool) → same_tag (shut_field shut).tag t ≡ b → t ≡ (shut_field shut).tag
  go true e = sym (same_tags (shut_field shut).tag t e)
  go false e =
      let none : values_for t (shut_field shut ∷ []) ≡ [] = rw e refl in
      let k : length (values_in t fs) ≡ 0 = ap length (s t ∙ ap (map Some) (closing_values t m shut h ∙ none)) in
      let c = count_values t fs in
      absurd (omega arith)

is_mac_or_edc : (t : Tag) → is_closing t ≡ true → (t ≡ Mac) ⊎ (t ≡ Edc)
is_mac_or_edc t h = go (or_cases (same_tag Mac t) _ h) where
  later : (same_tag Edc t ≡ true) ⊎ (false ≡ true) → (t ≡ Mac) ⊎ (t ≡ Edc)
  later (inl e) = inr (sym (same_tags Edc t e))
  later (inr e) = absurd (false≢true e)

  go : (same_tag Mac t ≡ true) ⊎ ((same_tag Edc t || false) ≡ true) → (t ≡ Mac) ⊎ (t ≡ Edc)
  go (inl e) = inl (sym (same_tags Mac t e))
  go (inr e) = later (or_cases (same_tag Edc t) false e)

no_code : (t : Tag) (ts : List Tag) → is_closing t ≡ true → list_any is_closing ts ≡ false → count_tag t ts ≡ 0
no_code t [] h k = refl
no_code t (s ∷ ts) h k =
    let j = or_parts (is_closing s) (list_any is_closing ts) k in
    rw (other_closing s t j.0 h) (no_code t ts h j.1)

-- fields of which the last alone is a code
pub one_code : (gs : List Field) (c : Field) → is_closing c.tag ≡ true → list_any is_closing (tags_in gs) ≡ false → OneCode (gs ++ c ∷ [])
one_code gs c h k = go (is_mac_or_edc c.tag h) where
  counted : (t : Tag) (n : ℕ) → is_closing t ≡ true → count_tag t (c.tag ∷ []) ≡ n → count_tag t (tags_in (gs ++ c ∷ [])) ≡ n
  counted t n i e = let a = count_fields t gs (c ∷ []) in let b = no_code t (tags_in gs) i k in omega arith

  go : (c.tag ≡ Mac) ⊎ (c.tag ≡ Edc) → OneCode (gs ++ c ∷ [])
  go (inl e) = by_mac (counted Mac 1 refl (rw e refl)) (counted Edc 0 refl (rw e refl))
  go (inr e) = by_edc (counted Mac 0 refl (rw e refl)) (counted Edc 1 refl (rw e refl))
