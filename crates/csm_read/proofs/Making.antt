-- Fields of a form, whose contents stand for values, are those of a message.
use Rattle.std.proofs.Common.{◌≡◌, ℕ, ◌≤◌, Bool, true, false, cond, List, [], ◌∷◌, ◌++◌, length, map, take, drop, Option, Some, None, refl, ◌∙◌, ap, subst, arith}
use Rattle.std.specs.Prelude.{codes, option_map, option_to_list, is_some}
use Rattle.std.specs.List.{list_all, filter}
use Rattle.std.specs.Str.Parse.{digits_value}
use Rattle.std.proofs.lemmas.List.{nil_from_length}
use Rattle.std.proofs.lemmas.Bool.{and_parts, and_from, not-false, false≢true}
use Rattle.x_base.specs.declared.key_name.KeyName.{KeyName}
use Rattle.csm_grammar.specs.declared.tag.Tag.{Tag}
use Rattle.csm_grammar.specs.declared.tag.Tag.TheVariants.{Mcl, Rcv, Org, Svr, Idu, Idc, Idd, Ida, Idk1, Idk2, DoubleKk, Kk, Kd, Kdu, Ctp, Cta, Ctb, Ctr, Erf, Iv, Edk, P, Mac, Edc}
use Rattle.csm_grammar.specs.declared.form.Form.{Form}
use Rattle.csm_grammar.specs.declared.form.Form.TheVariants.{F1, F2, F3, F4, F5, F6, F7, F8, F9, F10, F11, F12, F13}
use Rattle.csm_grammar.specs.declared.message.Message.{Message}
use Rattle.csm_grammar.specs.declared.message.Service.{Service}
use Rattle.csm_grammar.specs.declared.parsed.Shut.{Shut}
use Rattle.csm_grammar.specs.declared.parsed.Shut.TheVariants as shuts
use Rattle.csm_grammar.specs.Tags.{same_tag, count_tag}
use Rattle.csm_grammar.specs.Classes.{class_text}
use Rattle.csm_grammar.specs.Values.{Value, AText, AName, AService, ANumber, APair, OfIdent, OfName, OfLabel, OfService, OfKey, OfPair, OfCount, OfReason, OfText, OfCode, kind_of, value_of, value_if, name_of, code_digits}
use Rattle.csm_grammar.specs.Messages.{form_of}
use Rattle.csm_grammar.specs.Spelling.{Field, tags_in, AreOfForm, values_in, StandFor}
use Rattle.csm_grammar.proofs.TagLemmas.{same_tags}
use Rattle.csm_read.proofs.Passing.{AllPass}
use Rattle.csm_grammar.proofs.Slots.{count_values}
use Rattle.csm_read.proofs.Standing.{rsi, rsi_stands, rfs, rfs_stands, rtr, rtr_stands, rtr_with_key, rtr_with_key_stands, ksm, ksm_stands, ksm_double, ksm_double_stands, ksm_single, ksm_single_stands, ksm_centre, ksm_centre_stands, ksm_twin, ksm_twin_stands, rsm, rsm_stands, ers, ers_stands, esm, esm_stands, dsm, dsm_stands}

-- each of the contents stands for a value
abbrev pub are_known : List Field → Bool
are_known fs = list_all (λ f. is_some (value_of (kind_of f.tag) f.contents)) fs

pub passing_known : (before fs : List Field) → AllPass before fs → are_known fs ≡ true
passing_known before [] h = refl
passing_known before (f ∷ fs) h = and_from _ _ (not-false _ h.0.good) (passing_known (before ++ f ∷ []) fs h.1)

-- a value of some contents behind a tag
record IsBehind (t : Tag) (o : Option Value) : Type 0 where
  pub contents : List ℕ
  pub value : Value
  pub known : o ≡ Some value
  pub denoted : value_of (kind_of t) contents ≡ Some value

AreBehind : Tag → List (Option Value) → Type 0
AreBehind t [] = Unit {0}
AreBehind t (o ∷ os) = IsBehind t o × AreBehind t os

some_of : (o : Option Value) → is_some o ≡ true → (v : Value) × (o ≡ Some v)
some_of None h = absurd (false≢true h)
some_of (Some v) h = (v, refl)

are_behind : (t : Tag) (fs : List Field) → are_known fs ≡ true → AreBehind t (values_in t fs)
unfolding AreBehind
are_behind t [] h = tt
are_behind t (f ∷ fs) h = go (same_tag f.tag t) refl (are_behind t fs k.1) where
  k : (is_some (value_of (kind_of f.tag) f.contents) ≡ true) × (are_known fs ≡ true)
  k = and_parts _ _ h

  go : (b : Bool) → same_tag f.tag t ≡ b → AreBehind t (values_in t fs) → AreBehind t (map (λ (g : Field). value_of (kind_of g.tag) g.contents) (cond b (f ∷ filter (λ g. same_tag g.tag t) fs) (filter (λ g. same_tag g.tag t) fs)))
  go true e more =
      let v = some_of (value_of (kind_of f.tag) f.contents) k.0 in
      (record { contents = f.contents; value = v.0; known = v.1; denoted = subst (λ (s : Tag). value_of (kind_of s) f.contents ≡ Some v.0) (same_tags f.tag t e) v.1 }, more)
  go false e more = more

-- contents behind a tag stand for values made so
IsMade : {A : Type 0} → (A → Value) → Tag → Type 0
IsMade {A} make t = (c : List ℕ) (v : Value) → value_of (kind_of t) c ≡ Some v → (x : A) × (v ≡ make x)

one_of : {A : Type 0} (make : A → Value) (t : Tag) (os : List (Option Value)) → AreBehind t os → IsMade make t → length os ≡ 1 → (x : A) × (os ≡ map Some (make x ∷ []))
unfolding AreBehind IsMade
one_of make t [] b m h = absurd (omega arith)
one_of make t (o ∷ []) b m h = let x = m b.0.contents b.0.value b.0.denoted in (x.0, λ i. (b.0.known ∙ ap (λ (v : Value). Some v) x.1) i ∷ [])
one_of make t (o ∷ p ∷ os) b m h = absurd (omega arith)

if_of : {A : Type 0} (make : A → Value) (t : Tag) (os : List (Option Value)) → AreBehind t os → IsMade make t → length os ≤ 1 → (x : Option A) × (os ≡ map Some (map make (option_to_list x)))
unfolding AreBehind IsMade
if_of make t [] b m h = (None, refl)
if_of make t (o ∷ []) b m h = let x = m b.0.contents b.0.value b.0.denoted in (Some x.0, λ i. (b.0.known ∙ ap (λ (v : Value). Some v) x.1) i ∷ [])
if_of make t (o ∷ p ∷ os) b m h = absurd (omega arith)

two_of : {A : Type 0} (make : A → Value) (t : Tag) (os : List (Option Value)) → AreBehind t os → IsMade make t → length os ≡ 2 → (x : A × A) × (os ≡ map Some (make x.0 ∷ make x.1 ∷ []))
unfolding AreBehind IsMade
two_of make t [] b m h = absurd (omega arith)
two_of make t (o ∷ []) b m h = absurd (omega arith)
two_of make t (o ∷ p ∷ []) b m h =
    let x = m b.0.contents b.0.value b.0.denoted in
    let y = m b.1.0.contents b.1.0.value b.1.0.denoted in
    ((x.0, y.0), λ i. (b.0.known ∙ ap (λ (v : Value). Some v) x.1) i ∷ (b.1.0.known ∙ ap (λ (v : Value). Some v) y.1) i ∷ [])
two_of make t (o ∷ p ∷ q ∷ os) b m h = absurd (omega arith)

one : {A : Type 0} (make : A → Value) (t : Tag) (fs : List Field) → are_known fs ≡ true → IsMade make t → count_tag t (tags_in fs) ≡ 1 → (x : A) × (values_in t fs ≡ map Some (make x ∷ []))
one make t fs k m h = one_of make t (values_in t fs) (are_behind t fs k) m (count_values t fs ∙ h)

two : {A : Type 0} (make : A → Value) (t : Tag) (fs : List Field) → are_known fs ≡ true → IsMade make t → count_tag t (tags_in fs) ≡ 2 → (x : A × A) × (values_in t fs ≡ map Some (make x.0 ∷ make x.1 ∷ []))
two make t fs k m h = two_of make t (values_in t fs) (are_behind t fs k) m (count_values t fs ∙ h)

maybe : {A : Type 0} (make : A → Value) (t : Tag) (fs : List Field) → are_known fs ≡ true → IsMade make t → count_tag t (tags_in fs) ≤ 1 → (x : Option A) × (values_in t fs ≡ map Some (map make (option_to_list x)))
maybe make t fs k m h = if_of make t (values_in t fs) (are_behind t fs k) m (let e = count_values t fs in omega arith)

where_is : (b : Bool) (v w : Value) → value_if b v ≡ Some w → w ≡ v
where_is true v w h = cc
where_is false v w h = absurd cc

ident_is : (c : List ℕ) (v : Value) → value_of OfIdent c ≡ Some v → (x : List ℕ) × (v ≡ AText x)
ident_is c v h = (c, where_is _ (AText c) v h)

label_is : (c : List ℕ) (v : Value) → value_of OfLabel c ≡ Some v → (x : List ℕ) × (v ≡ AText x)
label_is c v h = (c, where_is _ (AText c) v h)

reason_is : (c : List ℕ) (v : Value) → value_of OfReason c ≡ Some v → (x : List ℕ) × (v ≡ AText x)
reason_is c v h = (c, where_is _ (AText c) v h)

text_is : (c : List ℕ) (v : Value) → value_of OfText c ≡ Some v → (x : List ℕ) × (v ≡ AText x)
text_is c v h = (c, where_is _ (AText c) v h)

key_is : (c : List ℕ) (v : Value) → value_of OfKey c ≡ Some v → (x : ℕ) × (v ≡ ANumber x)
key_is c v h = (digits_value 16 c, where_is _ _ v h)

count_is : (c : List ℕ) (v : Value) → value_of OfCount c ≡ Some v → (x : ℕ) × (v ≡ ANumber x)
count_is c v h = (digits_value 10 c, where_is _ _ v h)

pair_is : (c : List ℕ) (v : Value) → value_of OfPair c ≡ Some v → (x : ℕ × ℕ) × (v ≡ APair x.0 x.1)
pair_is c v h = ((digits_value 16 (take 16 c), digits_value 16 (drop 16 c)), where_is _ _ v h)

map_is : {A : Type 0} (f : A → Value) (o : Option A) (v : Value) → option_map f o ≡ Some v → (x : A) × (v ≡ f x)
map_is f None v h = absurd cc
map_is f (Some x) v h = (x, cc)

name_is : (c : List ℕ) (v : Value) → value_of OfName c ≡ Some v → (x : KeyName) × (v ≡ AName x)
name_is c v h = map_is AName (name_of c) v h

service_is : (c : List ℕ) (v : Value) → value_of OfService c ≡ Some v → (x : Service) × (v ≡ AService x)
service_is c v h = map_is AService _ v h

code_is : (c : List ℕ) (v : Value) → value_of OfCode c ≡ Some v → (x : ℕ) × (v ≡ ANumber x)
code_is c v h = let k = map_is (λ d. ANumber (digits_value 16 d)) (code_digits c) v h in (digits_value 16 k.0, k.1)

none_of : (t : Tag) (fs : List Field) → count_tag t (tags_in fs) ≡ 0 → values_in t fs ≡ []
none_of t fs h = nil_from_length _ (count_values t fs ∙ h)

-- a message and a code that the fields stand for
pub record Made (g : Form) (fs : List Field) : Type 0 where
  pub message : Message
  pub shut : Shut
  pub form_is : form_of message ≡ g
  pub stands : StandFor fs message shut

-- one code, and the other doesn't come
pub data OneCode (fs : List Field) : Type 0 where
  by_mac : count_tag Mac (tags_in fs) ≡ 1 → count_tag Edc (tags_in fs) ≡ 0 → OneCode fs
  by_edc : count_tag Mac (tags_in fs) ≡ 0 → count_tag Edc (tags_in fs) ≡ 1 → OneCode fs

made_rsi : (fs : List Field) → are_known fs ≡ true → AreOfForm F1 fs → values_in Mcl fs ≡ map Some (AText (codes "RSI") ∷ []) → Made F1 fs
unfolding IsMade
made_rsi fs k h c =
    let r = one AText Rcv fs k ident_is (h Rcv) in
    let o = one AText Org fs k ident_is (h Org) in
    let s = one AService Svr fs k service_is (h Svr) in
    let u = maybe AText Idu fs k ident_is (h Idu) in
    let n = one ANumber Edc fs k code_is (h Edc) in
    record { message = rsi r.0 o.0 s.0 u.0; shut = shuts.Edc n.0; form_is = refl; stands = rsi_stands fs r.0 o.0 s.0 u.0 n.0 h (c, (r.1, (o.1, (s.1, (u.1, (n.1, tt)))))) }

made_rfs : (fs : List Field) → are_known fs ≡ true → AreOfForm F2 fs → values_in Mcl fs ≡ map Some (AText (codes "RFS") ∷ []) → Made F2 fs
unfolding IsMade
made_rfs fs k h c =
    let r = one AText Rcv fs k ident_is (h Rcv) in
    let o = one AText Org fs k ident_is (h Org) in
    let u = one AText Idu fs k ident_is (h Idu) in
    let kd = one ANumber Kd fs k key_is (h Kd) in
    let cta = one ANumber Cta fs k count_is (h Cta) in
    let n = one ANumber Mac fs k code_is (h Mac) in
    record { message = rfs r.0 o.0 u.0 kd.0 cta.0; shut = shuts.Mac n.0; form_is = refl; stands = rfs_stands fs r.0 o.0 u.0 kd.0 cta.0 n.0 h (c, (r.1, (o.1, (u.1, (kd.1, (cta.1, (n.1, tt))))))) }

made_rtr : (fs : List Field) → are_known fs ≡ true → AreOfForm F3 fs → values_in Mcl fs ≡ map Some (AText (codes "RTR") ∷ []) → Made F3 fs
unfolding IsMade
made_rtr fs k h c =
    let r = one AText Rcv fs k ident_is (h Rcv) in
    let o = one AText Org fs k ident_is (h Org) in
    let u = one AText Idu fs k ident_is (h Idu) in
    let kdu = one ANumber Kdu fs k key_is (h Kdu) in
    let ctb = one ANumber Ctb fs k count_is (h Ctb) in
    let iv = maybe AText Iv fs k text_is (h Iv) in
    let edk = maybe AText Edk fs k text_is (h Edk) in
    let p = maybe AText P fs k text_is (h P) in
    let n = one ANumber Mac fs k code_is (h Mac) in
    record { message = rtr r.0 o.0 u.0 kdu.0 ctb.0 iv.0 edk.0 p.0; shut = shuts.Mac n.0; form_is = refl; stands = rtr_stands fs r.0 o.0 u.0 kdu.0 ctb.0 iv.0 edk.0 p.0 n.0 h (c, (r.1, (o.1, (u.1, (kdu.1, (ctb.1, (iv.1, (edk.1, (p.1, (n.1, tt)))))))))) }

made_rtr_with_key : (fs : List Field) → are_known fs ≡ true → AreOfForm F4 fs → values_in Mcl fs ≡ map Some (AText (codes "RTR") ∷ []) → Made F4 fs
unfolding IsMade
made_rtr_with_key fs k h c =
    let r = one AText Rcv fs k ident_is (h Rcv) in
    let o = one AText Org fs k ident_is (h Org) in
    let u = one AText Idu fs k ident_is (h Idu) in
    let kd = one ANumber Kd fs k key_is (h Kd) in
    let kdu = one ANumber Kdu fs k key_is (h Kdu) in
    let cta = one ANumber Cta fs k count_is (h Cta) in
    let ctb = one ANumber Ctb fs k count_is (h Ctb) in
    let iv = maybe AText Iv fs k text_is (h Iv) in
    let edk = maybe AText Edk fs k text_is (h Edk) in
    let p = maybe AText P fs k text_is (h P) in
    let n = one ANumber Mac fs k code_is (h Mac) in
    record { message = rtr_with_key r.0 o.0 u.0 kd.0 kdu.0 cta.0 ctb.0 iv.0 edk.0 p.0; shut = shuts.Mac n.0; form_is = refl; stands = rtr_with_key_stands fs r.0 o.0 u.0 kd.0 kdu.0 cta.0 ctb.0 iv.0 edk.0 p.0 n.0 h (c, (r.1, (o.1, (u.1, (kd.1, (kdu.1, (cta.1, (ctb.1, (iv.1, (edk.1, (p.1, (n.1, tt)))))))))))) }

made_ksm : (fs : List Field) → are_known fs ≡ true → AreOfForm F5 fs → values_in Mcl fs ≡ map Some (AText (codes "KSM") ∷ []) → Made F5 fs
unfolding IsMade
made_ksm fs k h c =
    let r = one AText Rcv fs k ident_is (h Rcv) in
    let o = one AText Org fs k ident_is (h Org) in
    let k2 = maybe AText Idk2 fs k label_is (h Idk2) in
    let kd = one ANumber Kd fs k key_is (h Kd) in
    let ctp = one ANumber Ctp fs k count_is (h Ctp) in
    let iv = maybe AText Iv fs k text_is (h Iv) in
    let edk = maybe AText Edk fs k text_is (h Edk) in
    let p = maybe AText P fs k text_is (h P) in
    let n = one ANumber Mac fs k code_is (h Mac) in
    record { message = ksm r.0 o.0 k2.0 kd.0 ctp.0 iv.0 edk.0 p.0; shut = shuts.Mac n.0; form_is = refl; stands = ksm_stands fs r.0 o.0 k2.0 kd.0 ctp.0 iv.0 edk.0 p.0 n.0 h (c, (r.1, (o.1, (k2.1, (kd.1, (ctp.1, (iv.1, (edk.1, (p.1, (n.1, tt)))))))))) }

made_ksm_double : (fs : List Field) → are_known fs ≡ true → AreOfForm F6 fs → values_in Mcl fs ≡ map Some (AText (codes "KSM") ∷ []) → Made F6 fs
unfolding IsMade
made_ksm_double fs k h c =
    let r = one AText Rcv fs k ident_is (h Rcv) in
    let o = one AText Org fs k ident_is (h Org) in
    let k1 = one AText Idk1 fs k label_is (h Idk1) in
    let k2 = maybe AText Idk2 fs k label_is (h Idk2) in
    let kk = one (λ k. APair k.0 k.1) DoubleKk fs k pair_is (h DoubleKk) in
    let kd = one ANumber Kd fs k key_is (h Kd) in
    let ctp = one ANumber Ctp fs k count_is (h Ctp) in
    let iv = maybe AText Iv fs k text_is (h Iv) in
    let edk = maybe AText Edk fs k text_is (h Edk) in
    let p = maybe AText P fs k text_is (h P) in
    let n = one ANumber Mac fs k code_is (h Mac) in
    record { message = ksm_double r.0 o.0 k1.0 k2.0 kk.0 kd.0 ctp.0 iv.0 edk.0 p.0; shut = shuts.Mac n.0; form_is = refl; stands = ksm_double_stands fs r.0 o.0 k1.0 k2.0 kk.0 kd.0 ctp.0 iv.0 edk.0 p.0 n.0 h (c, (r.1, (o.1, (k1.1, (k2.1, (kk.1, (kd.1, (ctp.1, (iv.1, (edk.1, (p.1, (n.1, tt)))))))))))) }

made_ksm_single : (fs : List Field) → are_known fs ≡ true → AreOfForm F7 fs → values_in Mcl fs ≡ map Some (AText (codes "KSM") ∷ []) → Made F7 fs
unfolding IsMade
made_ksm_single fs k h c =
    let r = one AText Rcv fs k ident_is (h Rcv) in
    let o = one AText Org fs k ident_is (h Org) in
    let k1 = one AText Idk1 fs k label_is (h Idk1) in
    let k2 = maybe AText Idk2 fs k label_is (h Idk2) in
    let kk = one ANumber Kk fs k key_is (h Kk) in
    let kd = one ANumber Kd fs k key_is (h Kd) in
    let ctp = one ANumber Ctp fs k count_is (h Ctp) in
    let iv = maybe AText Iv fs k text_is (h Iv) in
    let edk = maybe AText Edk fs k text_is (h Edk) in
    let p = maybe AText P fs k text_is (h P) in
    let n = one ANumber Mac fs k code_is (h Mac) in
    record { message = ksm_single r.0 o.0 k1.0 k2.0 kk.0 kd.0 ctp.0 iv.0 edk.0 p.0; shut = shuts.Mac n.0; form_is = refl; stands = ksm_single_stands fs r.0 o.0 k1.0 k2.0 kk.0 kd.0 ctp.0 iv.0 edk.0 p.0 n.0 h (c, (r.1, (o.1, (k1.1, (k2.1, (kk.1, (kd.1, (ctp.1, (iv.1, (edk.1, (p.1, (n.1, tt)))))))))))) }

made_ksm_centre : (fs : List Field) → are_known fs ≡ true → AreOfForm F8 fs → values_in Mcl fs ≡ map Some (AText (codes "KSM") ∷ []) → Made F8 fs
unfolding IsMade
made_ksm_centre fs k h c =
    let r = one AText Rcv fs k ident_is (h Rcv) in
    let o = one AText Org fs k ident_is (h Org) in
    let centre = one AText Idc fs k ident_is (h Idc) in
    let kdu = one ANumber Kdu fs k key_is (h Kdu) in
    let ctb = one ANumber Ctb fs k count_is (h Ctb) in
    let iv = maybe AText Iv fs k text_is (h Iv) in
    let edk = maybe AText Edk fs k text_is (h Edk) in
    let p = maybe AText P fs k text_is (h P) in
    let n = one ANumber Mac fs k code_is (h Mac) in
    record { message = ksm_centre r.0 o.0 centre.0 kdu.0 ctb.0 iv.0 edk.0 p.0; shut = shuts.Mac n.0; form_is = refl; stands = ksm_centre_stands fs r.0 o.0 centre.0 kdu.0 ctb.0 iv.0 edk.0 p.0 n.0 h (c, (r.1, (o.1, (centre.1, (kdu.1, (ctb.1, (iv.1, (edk.1, (p.1, (n.1, tt)))))))))) }

made_ksm_twin : (fs : List Field) → are_known fs ≡ true → AreOfForm F13 fs → values_in Mcl fs ≡ map Some (AText (codes "KSM") ∷ []) → Made F13 fs
unfolding IsMade
made_ksm_twin fs k h c =
    let r = one AText Rcv fs k ident_is (h Rcv) in
    let o = one AText Org fs k ident_is (h Org) in
    let k2 = maybe AText Idk2 fs k label_is (h Idk2) in
    let kds = two ANumber Kd fs k key_is (h Kd) in
    let ctp = one ANumber Ctp fs k count_is (h Ctp) in
    let iv = maybe AText Iv fs k text_is (h Iv) in
    let edk = maybe AText Edk fs k text_is (h Edk) in
    let p = maybe AText P fs k text_is (h P) in
    let n = one ANumber Mac fs k code_is (h Mac) in
    record { message = ksm_twin r.0 o.0 k2.0 kds.0.0 kds.0.1 ctp.0 iv.0 edk.0 p.0; shut = shuts.Mac n.0; form_is = refl; stands = ksm_twin_stands fs r.0 o.0 k2.0 kds.0.0 kds.0.1 ctp.0 iv.0 edk.0 p.0 n.0 h (c, (r.1, (o.1, (k2.1, (kds.1, (ctp.1, (iv.1, (edk.1, (p.1, (n.1, tt)))))))))) }

made_rsm : (fs : List Field) → are_known fs ≡ true → AreOfForm F9 fs → values_in Mcl fs ≡ map Some (AText (codes "RSM") ∷ []) → Made F9 fs
unfolding IsMade
made_rsm fs k h c =
    let r = one AText Rcv fs k ident_is (h Rcv) in
    let o = one AText Org fs k ident_is (h Org) in
    let idd = maybe AName Idd fs k name_is (h Idd) in
    let iv = maybe AText Iv fs k text_is (h Iv) in
    let edk = maybe AText Edk fs k text_is (h Edk) in
    let p = maybe AText P fs k text_is (h P) in
    let n = one ANumber Mac fs k code_is (h Mac) in
    record { message = rsm r.0 o.0 idd.0 iv.0 edk.0 p.0; shut = shuts.Mac n.0; form_is = refl; stands = rsm_stands fs r.0 o.0 idd.0 iv.0 edk.0 p.0 n.0 h (c, (r.1, (o.1, (idd.1, (iv.1, (edk.1, (p.1, (n.1, tt)))))))) }

made_ers : (fs : List Field) → are_known fs ≡ true → AreOfForm F10 fs → values_in Mcl fs ≡ map Some (AText (codes "ERS") ∷ []) → Made F10 fs
unfolding IsMade
made_ers fs k h c =
    let r = one AText Rcv fs k ident_is (h Rcv) in
    let o = one AText Org fs k ident_is (h Org) in
    let u = one AText Idu fs k ident_is (h Idu) in
    let ctr = one ANumber Ctr fs k count_is (h Ctr) in
    let erf = one AText Erf fs k reason_is (h Erf) in
    let n = one ANumber Mac fs k code_is (h Mac) in
    record { message = ers r.0 o.0 u.0 ctr.0 erf.0; shut = shuts.Mac n.0; form_is = refl; stands = ers_stands fs r.0 o.0 u.0 ctr.0 erf.0 n.0 h (c, (r.1, (o.1, (u.1, (ctr.1, (erf.1, (n.1, tt))))))) }

made_esm : (fs : List Field) → are_known fs ≡ true → AreOfForm F11 fs → values_in Mcl fs ≡ map Some (AText (codes "ESM") ∷ []) → OneCode fs → Made F11 fs
unfolding IsMade
made_esm fs k h c (by_mac m e) =
    let r = one AText Rcv fs k ident_is (h Rcv) in
    let o = one AText Org fs k ident_is (h Org) in
    let ctp = maybe ANumber Ctp fs k count_is (h Ctp) in
    let cta = maybe ANumber Cta fs k count_is (h Cta) in
    let ctb = maybe ANumber Ctb fs k count_is (h Ctb) in
    let ctr = maybe ANumber Ctr fs k count_is (h Ctr) in
    let erf = one AText Erf fs k reason_is (h Erf) in
    let n = one ANumber Mac fs k code_is m in
    record { message = esm r.0 o.0 ctp.0 cta.0 ctb.0 ctr.0 erf.0; shut = shuts.Mac n.0; form_is = refl; stands = esm_stands fs r.0 o.0 ctp.0 cta.0 ctb.0 ctr.0 erf.0 (shuts.Mac n.0) h (c, (r.1, (o.1, (ctp.1, (cta.1, (ctb.1, (ctr.1, (erf.1, (n.1, (none_of Edc fs e, tt)))))))))) }
made_esm fs k h c (by_edc m e) =
    let r = one AText Rcv fs k ident_is (h Rcv) in
    let o = one AText Org fs k ident_is (h Org) in
    let ctp = maybe ANumber Ctp fs k count_is (h Ctp) in
    let cta = maybe ANumber Cta fs k count_is (h Cta) in
    let ctb = maybe ANumber Ctb fs k count_is (h Ctb) in
    let ctr = maybe ANumber Ctr fs k count_is (h Ctr) in
    let erf = one AText Erf fs k reason_is (h Erf) in
    let n = one ANumber Edc fs k code_is e in
    record { message = esm r.0 o.0 ctp.0 cta.0 ctb.0 ctr.0 erf.0; shut = shuts.Edc n.0; form_is = refl; stands = esm_stands fs r.0 o.0 ctp.0 cta.0 ctb.0 ctr.0 erf.0 (shuts.Edc n.0) h (c, (r.1, (o.1, (ctp.1, (cta.1, (ctb.1, (ctr.1, (erf.1, (none_of Mac fs m, (n.1, tt)))))))))) }

made_dsm : (fs : List Field) → are_known fs ≡ true → AreOfForm F12 fs → values_in Mcl fs ≡ map Some (AText (codes "DSM") ∷ []) → Made F12 fs
unfolding IsMade
made_dsm fs k h c =
    let r = one AText Rcv fs k ident_is (h Rcv) in
    let o = one AText Org fs k ident_is (h Org) in
    let idd = one AName Idd fs k name_is (h Idd) in
    let ida = maybe AName Ida fs k name_is (h Ida) in
    let n = one ANumber Mac fs k code_is (h Mac) in
    record { message = dsm r.0 o.0 idd.0 ida.0; shut = shuts.Mac n.0; form_is = refl; stands = dsm_stands fs r.0 o.0 idd.0 ida.0 n.0 h (c, (r.1, (o.1, (idd.1, (ida.1, (n.1, tt)))))) }

pub made : (g : Form) (fs : List Field) → are_known fs ≡ true → AreOfForm g fs → values_in Mcl fs ≡ map Some (AText (class_text g) ∷ []) → OneCode fs → Made g fs
made F1 fs k h c n = made_rsi fs k h c
made F2 fs k h c n = made_rfs fs k h c
made F3 fs k h c n = made_rtr fs k h c
made F4 fs k h c n = made_rtr_with_key fs k h c
made F5 fs k h c n = made_ksm fs k h c
made F6 fs k h c n = made_ksm_double fs k h c
made F7 fs k h c n = made_ksm_single fs k h c
made F8 fs k h c n = made_ksm_centre fs k h c
made F13 fs k h c n = made_ksm_twin fs k h c
made F9 fs k h c n = made_rsm fs k h c
made F10 fs k h c n = made_ers fs k h c
made F11 fs k h c n = made_esm fs k h c n
made F12 fs k h c n = made_dsm fs k h c
