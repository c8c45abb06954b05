-- Edits that are done.
use Rattle.std.proofs.Common.{◌≡◌, ◌↔◌, ℕ, zero, suc, ◌+◌, ◌≤◌, true, false, cond, not, bytes_eq, List, [], ◌∷◌, length, take, slice_get, Option, Some, None, refl, subst, sym, ap, ◌∙◌, add-one}
use Rattle.std.specs.Prelude.{◌==◌}
use Rattle.std.proofs.lemmas.Bool.{and_from, and_parts, not-true, not_from_false}
use Rattle.std.proofs.lemmas.Bool.Decides.{Decides-eqb}
use Rattle.std.proofs.lemmas.List.{take_all}
use Rattle.std.proofs.lemmas.Slice.Eq.{bytes_eq-Decides}
use Rattle.party_state.specs.declared.edit.Edit.{Edit}
use Rattle.party_state.specs.declared.edit.Edit.TheVariants.{PutExchange}
use Rattle.party_tables.specs.declared.exchange.Exchange.{Exchange}
use Rattle.party_tables.specs.declared.exchange.Kind.{Kind}
use Rattle.party_tables.specs.declared.exchange.Kind.TheVariants as kind
use Rattle.party_tables.specs.declared.exchange.Via.{Via}
use Rattle.party_tables.specs.declared.exchange.Via.TheVariants as vias
use Rattle.party_tables.specs.Keys.{exchange_key, same_name}
use Rattle.party_tables.proofs.Keys.{test_idents, test_names}
use Rattle.x_base.specs.declared.key_name.KeyName.{KeyName}
use Rattle.party_state.specs.State.{Party, apply_edit, exchange_with}
use Rattle.role_base.specs.Apart.{AreDone}
use Rattle.role_base.specs.Differing.{differs, always_differs}
use Rattle.role_base.specs.Redoing.{has_exchange, same_kind, same_label, same_via}

ident_is : (a b : List ℕ) → bytes_eq a b ≡ true → a ≡ b
ident_is a b h = (test_idents.decides a b).0 h

ident_refl : (a : List ℕ) → bytes_eq a a ≡ true
ident_refl a = (test_idents.decides a a).1 refl

number_is : (a b : ℕ) → (a == b) ≡ true → a ≡ b
number_is a b h = (Decides-eqb a b).0 h

number_refl : (a : ℕ) → (a == a) ≡ true
number_refl a = (Decides-eqb a a).1 refl

name_is : (a b : KeyName) → same_name a b ≡ true → a ≡ b
name_is a b h = (test_names.decides a b).0 h

name_refl : (a : KeyName) → same_name a a ≡ true
name_refl a = (test_names.decides a a).1 refl

label_is : (a b : Option (List ℕ)) → same_label a b ≡ true → a ≡ b
label_is None None h = refl
label_is (Some a) (Some b) h = ap (λ (x : List ℕ). let o : Option (List ℕ) = Some x in o) (ident_is a b h)
label_is None (Some b) h = cc
label_is (Some a) None h = cc

label_refl : (a : Option (List ℕ)) → same_label a a ≡ true
label_refl None = refl
label_refl (Some a) = ident_refl a

via_is : (a b : Via) → same_via a b ≡ true → a ≡ b
via_is (vias.Direct label new) (vias.Direct other fresh) h =
    let parts = and_parts _ _ h in
    let l : label ≡ other = ident_is label other parts.0 in
    let n : new ≡ fresh = label_is new fresh parts.1 in
    λ i. vias.Direct (l i) (n i)
via_is (vias.Distribution centre cta) (vias.Distribution other count) h =
    let parts = and_parts _ _ h in
    let l : centre ≡ other = ident_is centre other parts.0 in
    let n : cta ≡ count = number_is cta count parts.1 in
    λ i. vias.Distribution (l i) (n i)
via_is (vias.Translation centre) (vias.Translation other) h = ap (λ (x : List ℕ). vias.Translation x) (ident_is centre other h)
via_is _ _ h = cc

via_refl : (a : Via) → same_via a a ≡ true
via_refl (vias.Direct label new) = and_from _ _ (ident_refl label) (label_refl new)
via_refl (vias.Distribution centre cta) = and_from _ _ (ident_refl centre) (number_refl cta)
via_refl (vias.Translation centre) = ident_refl centre

kind_is : (a b : Kind) → same_kind a b ≡ true → a ≡ b
kind_is (kind.Asked ultimate) (kind.Asked other) h = ap (λ (x : List ℕ). kind.Asked x) (ident_is ultimate other h)
kind_is (kind.Translating ultimate value cta) (kind.Translating other key count) h =
    let parts = and_parts _ _ h in
    let rest = and_parts _ _ parts.1 in
    let u : ultimate ≡ other = ident_is ultimate other parts.0 in
    let v : value ≡ key = number_is value key rest.0 in
    let c : cta ≡ count = number_is cta count rest.1 in
    λ i. kind.Translating (u i) (v i) (c i)
kind_is (kind.KeySent name v) (kind.KeySent other w) h =
    let parts = and_parts _ _ h in
    let n : name ≡ other = name_is name other parts.0 in
    let x : v ≡ w = via_is v w parts.1 in
    λ i. kind.KeySent (n i) (x i)
kind_is (kind.Ending name) (kind.Ending other) h = ap (λ (x : KeyName). kind.Ending x) (name_is name other h)
kind_is (kind.PairSent name) (kind.PairSent other) h = ap (λ (x : KeyName). kind.PairSent x) (name_is name other h)
kind_is _ _ h = cc

kind_refl : (a : Kind) → same_kind a a ≡ true
kind_refl (kind.Asked ultimate) = ident_refl ultimate
kind_refl (kind.Translating ultimate value cta) = and_from _ _ (ident_refl ultimate) (and_from _ _ (number_refl value) (number_refl cta))
kind_refl (kind.KeySent name v) = and_from _ _ (name_refl name) (via_refl v)
kind_refl (kind.Ending name) = name_refl name
kind_refl (kind.PairSent name) = name_refl name

-- what stands is the one with its contents

exchange_is : (old e : Exchange) → exchange_key e ≡ exchange_key old → has_exchange (Some old) e ≡ true → old ≡ e
exchange_is old e k h =
    let parts = and_parts (same_kind old.kind e.kind) (bytes_eq old.text e.text) h in
    let kinds : old.kind ≡ e.kind = kind_is old.kind e.kind parts.0 in
    let texts : old.text ≡ e.text = ident_is old.text e.text parts.1 in
    let peers : old.peer ≡ e.peer = sym k in
    λ i. record { peer = peers i; kind = kinds i; text = texts i }

abbrev ExchangesFound : Type 0
ExchangesFound = (peer : List ℕ) (e : Exchange) (p : Party) → exchange_with peer p ≡ Some e → peer ≡ exchange_key e

exchange_found : ExchangesFound → (p : Party) (e : Exchange) → has_exchange (exchange_with (exchange_key e) p) e ≡ true → exchange_with (exchange_key e) p ≡ Some e
exchange_found found p e h = go (exchange_with (exchange_key e) p) refl h
  where
    go : (o : Option Exchange) → exchange_with (exchange_key e) p ≡ o → has_exchange o e ≡ true → o ≡ Some e
    go None f h = cc
    go (Some old) f h = ap (λ (x : Exchange). let s : Option Exchange = Some x in s) (exchange_is old e (found (exchange_key e) old p f) h)

-- an exchange that stands is done, and one that is done stands
pub put_exactly : ExchangesFound
    → ((peer : List ℕ) (e : Exchange) (p : Party) → exchange_with peer (apply_edit (PutExchange e) p) ≡ cond (bytes_eq peer (exchange_key e)) (Some e) (exchange_with peer p))
    → ((e : Exchange) (p : Party) → exchange_with (exchange_key e) p ≡ Some e → apply_edit (PutExchange e) p ≡ p)
    → (p : Party) (e : Exchange) → (has_exchange (exchange_with (exchange_key e) p) e ≡ true) ↔ (apply_edit (PutExchange e) p ≡ p)
put_exactly found put stands p e = (
  λ h. stands e p (exchange_found found p e h),
  λ same. (
      let own : bytes_eq (exchange_key e) (exchange_key e) ≡ true = (bytes_eq-Decides (exchange_key e) (exchange_key e)).1 refl in
      let there : exchange_with (exchange_key e) p ≡ Some e = ap (exchange_with (exchange_key e)) (sym same) ∙ (put (exchange_key e) e p ∙ rw own refl) in
      ap (λ (o : Option Exchange). has_exchange o e) there ∙ and_from _ _ (kind_refl e.kind) (ident_refl e.text)),
)

-- of any other edit the difference tells

pub other_exactly : ((p : Party) (e : Edit) → differs p e ≡ false → apply_edit e p ≡ p) → ((p : Party) (e : Edit) → always_differs e ≡ false → apply_edit e p ≡ p → differs p e ≡ false)
    → (p : Party) (e : Edit) → always_differs e ≡ false → (not (differs p e) ≡ true) ↔ (apply_edit e p ≡ p)
other_exactly unchanged needed p e never = (λ h. unchanged p e (not-true (differs p e) h), λ h. not_from_false (differs p e) (needed p e never h))

pub none_yet : (p : Party) (es : List Edit) → AreDone p (take 0 es)
none_yet p es = tt

done_at : (p : Party) (es : List Edit) (i : ℕ) (e : Edit) → slice_get es i ≡ Some e → AreDone p es → apply_edit e p ≡ p
done_at p [] i e g h = cc
done_at p (x ∷ es) zero e g h = let same : x ≡ e = cc in subst (λ (y : Edit). apply_edit y p ≡ p) same h.0
done_at p (x ∷ es) (suc i) e g h = done_at p es i e g h.1

done_step : (p : Party) (es : List Edit) (i : ℕ) (e : Edit) → slice_get es i ≡ Some e → AreDone p (take i es) → apply_edit e p ≡ p → AreDone p (take (suc i) es)
done_step p [] i e g h d = cc
done_step p (x ∷ es) zero e g h d = let same : e ≡ x = cc in (subst (λ (y : Edit). apply_edit y p ≡ p) same d, tt)
done_step p (x ∷ es) (suc i) e g h d = (h.0, done_step p es i e g h.1 d)

pub done_more : (p : Party) (es : List Edit) (i : ℕ) (e : Edit) → slice_get es i ≡ Some e → AreDone p (take i es) → apply_edit e p ≡ p → AreDone p (take (i + 1) es)
done_more p es i e g h d = rw add-one (done_step p es i e g h d)

pub not_all_done : (p : Party) (es : List Edit) (i : ℕ) (e : Edit) → slice_get es i ≡ Some e → (apply_edit e p ≡ p → ⊥) → AreDone p es → ⊥
not_all_done p es i e g never h = never (done_at p es i e g h)

pub all_done : (p : Party) (es : List Edit) (n : ℕ) → length es ≤ n → AreDone p (take n es) → AreDone p es
all_done p es n few h = subst (λ (xs : List Edit). AreDone p xs) (take_all n es few) h
