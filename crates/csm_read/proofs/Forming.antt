-- The fields of a message have the tags of its form.
use Rattle.std.proofs.Common.{◌≡◌, ℕ, ◌≤◌, Bool, true, false, cond, List, [], ◌∷◌, ◌++◌, length, map, Option, Some, None, refl, sym, ◌∙◌, ap, subst, arith}
use Rattle.std.specs.Prelude.{not}
use Rattle.std.proofs.lemmas.Bool.{and_parts, not-true, false≢true}
use Rattle.std.proofs.lemmas.List.{append-nil}
use Rattle.x_base.specs.declared.key_name.KeyName.{KeyName}
use Rattle.csm_grammar.specs.declared.tag.Tag.{Tag}
use Rattle.csm_grammar.specs.declared.tag.Tag.TheVariants.{Mcl, Rcv, Org, Svr, Idu, Idc, Idd, Ida, Idk1, Idk2, DoubleKk, Kk, Kd, Kdu, Ctp, Cta, Ctb, Ctr, Erf, Iv, Edk, P, Mac, Edc}
use Rattle.csm_grammar.specs.declared.form.Form.{Form}
use Rattle.csm_grammar.specs.declared.form.Form.TheVariants.{F1, F2, F3, F4, F5, F6, F7, F8, F9, F10, F11, F12, F13}
use Rattle.csm_grammar.specs.declared.form.Need.{Need}
use Rattle.csm_grammar.specs.declared.form.Need.TheVariants.{Required, Optional, Refused}
use Rattle.csm_grammar.specs.declared.message.Message.{Message}
use Rattle.csm_grammar.specs.declared.message.Message.TheVariants as message
use Rattle.csm_grammar.specs.declared.message.KsmBody.{KsmBody}
use Rattle.csm_grammar.specs.declared.message.KsmBody.TheVariants as body
use Rattle.csm_grammar.specs.declared.message.NewKk.{NewKk}
use Rattle.csm_grammar.specs.declared.message.NewKk.TheVariants as new_kk
use Rattle.csm_grammar.specs.declared.message.Service.{Service}
use Rattle.csm_grammar.specs.declared.parsed.Shut.{Shut}
use Rattle.csm_grammar.specs.declared.parsed.Shut.TheVariants as shuts
use Rattle.csm_grammar.specs.Tags.{same_tag, has_tag}
use Rattle.csm_grammar.specs.Classes.{need_of, allows, times}
use Rattle.csm_grammar.specs.Values.{Value, AText, AName, ANumber}
use Rattle.csm_grammar.specs.Messages.{Valued, valued, form_of, shut_field, all_fields}
use Rattle.csm_grammar.specs.Spelling.{ComesAs, values_for}
use Rattle.csm_grammar.proofs.TagLemmas.{each_tag, same_tags}
use Rattle.csm_grammar.proofs.Counting.{is_refused}
use Rattle.csm_grammar.proofs.Slots.{Slot, slot_tags, fields_at, are_distinct, values_append, slot_here, slot_other, no_slot}
use Rattle.csm_read.proofs.Standing.{slot_if, mac_of, edc_of, rsi, rsi_slots, rsi_fields, rfs, rfs_slots, rfs_fields, rtr, rtr_slots, rtr_fields, rtr_with_key, rtr_with_key_slots, rtr_with_key_fields, ksm, ksm_slots, ksm_fields, ksm_double, ksm_double_slots, ksm_double_fields, ksm_single, ksm_single_slots, ksm_single_fields, ksm_twin, ksm_twin_slots, ksm_twin_fields, ksm_centre, ksm_centre_slots, ksm_centre_fields, rsm, rsm_slots, rsm_fields, ers, ers_slots, ers_fields, esm, esm_slots, esm_fields, dsm, dsm_slots, dsm_fields}

-- a slot with as many values as the form has of the tag, or with at most so many
abbrev Size : ℕ → Bool → ℕ → Type 0
Size most true n = n ≡ most
Size most false n = n ≤ most

abbrev AreSized : Form → List Slot → List (Tag × Bool) → Type 0
AreSized g [] [] = Unit {0}
AreSized g [] (s ∷ ss) = ⊥
AreSized g (p ∷ ps) [] = ⊥
AreSized g (p ∷ ps) (s ∷ ss) = (p.tag ≡ s.0) × Size (times g p.tag) s.1 (length p.values) × AreSized g ps ss

abbrev agrees : Need → Bool → Bool
agrees Required b = b
agrees Optional b = true
agrees Refused b = false

abbrev fits : Form → List (Tag × Bool) → Tag → Bool
fits g [] t = is_refused (need_of g t)
fits g (s ∷ ss) t = cond (same_tag s.0 t) (agrees (need_of g t) s.1) (fits g ss t)

one_or_none : (n : Need) (most : ℕ) (b : Bool) (k : ℕ) → agrees n b ≡ true → Size most b k → ComesAs n most k
one_or_none Required most true k a s = s
one_or_none Required most false k a s = absurd (false≢true a)
one_or_none Optional most true k a s = omega (arith, s)
one_or_none Optional most false k a s = s
one_or_none Refused most b k a s = absurd (false≢true a)

none_refused : (n : Need) (most : ℕ) → is_refused n ≡ true → ComesAs n most 0
none_refused Required most h = absurd (false≢true h)
none_refused Optional most h = absurd (false≢true h)
none_refused Refused most h = refl

sized_form : (g : Form) (t : Tag) (ps : List Slot) (ss : List (Tag × Bool)) → AreSized g ps ss → are_distinct (slot_tags ps) ≡ true → fits g ss t ≡ true → ComesAs (need_of g t) (times g t) (length (values_for t (fields_at ps)))
sized_form g t [] [] h d f = none_refused (need_of g t) (times g t) f
sized_form g t [] (s ∷ ss) h d f = absurd h
sized_form g t (p ∷ ps) [] h d f = absurd h
sized_form g t (p ∷ ps) (s ∷ ss) h d f = go (same_tag p.tag t) refl (subst (λ (x : Tag). cond (same_tag x t) (agrees (need_of g t) s.1) (fits g ss t) ≡ true) (sym h.0) f) (λ i. sized_form g t ps ss h.2 k.1 i) where
  k : (not (has_tag p.tag (slot_tags ps)) ≡ true) × (are_distinct (slot_tags ps) ≡ true)
  k = and_parts _ _ d

  split : values_for t (fields_at (p ∷ ps)) ≡ values_for t (map (valued p.tag) p.values) ++ values_for t (fields_at ps)
  split = values_append t (map (valued p.tag) p.values) (fields_at ps)

  go : (b : Bool) → same_tag p.tag t ≡ b → cond b (agrees (need_of g t) s.1) (fits g ss t) ≡ true → (fits g ss t ≡ true → ComesAs (need_of g t) (times g t) (length (values_for t (fields_at ps)))) → ComesAs (need_of g t) (times g t) (length (values_for t (fields_at (p ∷ ps))))
  go true e i more =
      let n : has_tag t (slot_tags ps) ≡ false = subst (λ (x : Tag). has_tag x (slot_tags ps) ≡ false) (same_tags p.tag t e) (not-true _ k.0) in
      let v : values_for t (fields_at (p ∷ ps)) ≡ p.values = split ∙ (λ j. slot_here p.tag t p.values e j ++ no_slot t ps n j) ∙ append-nil p.values in
      subst (λ (vs : List Value). ComesAs (need_of g t) (times g t) (length vs)) (sym v) (one_or_none (need_of g t) (times g t) s.1 (length p.values) i (subst (λ (x : Tag). Size (times g x) s.1 (length p.values)) (same_tags p.tag t e) h.1))
  go false e i more =
      let v : values_for t (fields_at (p ∷ ps)) ≡ values_for t (fields_at ps) = split ∙ ap (λ (vs : List Value). vs ++ values_for t (fields_at ps)) (slot_other p.tag t p.values e) in
      subst (λ (vs : List Value). ComesAs (need_of g t) (times g t) (length vs)) (sym v) (more i)

if_short : {A : Type 0} (f : A → Value) (o : Option A) → length (slot_if f o) ≤ 1
if_short f None = omega arith
if_short f (Some x) = omega arith

mac_short : (shut : Shut) → length (mac_of shut) ≤ 1
mac_short (shuts.Mac n) = omega arith
mac_short (shuts.Edc n) = omega arith

edc_short : (shut : Shut) → length (edc_of shut) ≤ 1
edc_short (shuts.Mac n) = omega arith
edc_short (shuts.Edc n) = omega arith

abbrev rsi_sizes : List (Tag × Bool)
rsi_sizes = (Mcl, true) ∷ (Rcv, true) ∷ (Org, true) ∷ (Svr, true) ∷ (Idu, false) ∷ (Edc, true) ∷ []

rsi_form : (r : List ℕ) (o : List ℕ) (s : Service) (u : Option (List ℕ)) (n : ℕ) (t : Tag) → ComesAs (need_of F1 t) (times F1 t) (length (values_for t (all_fields (rsi r o s u) (shuts.Edc n))))
rsi_form r o s u n t =
    let sized : AreSized F1 (rsi_slots r o s u n) rsi_sizes = (refl, refl, (refl, refl, (refl, refl, (refl, refl, (refl, if_short AText u, (refl, refl, tt)))))) in
    subst (λ (xs : List Valued). ComesAs (need_of F1 t) (times F1 t) (length (values_for t xs))) (sym (rsi_fields r o s u n)) (sized_form F1 t (rsi_slots r o s u n) rsi_sizes sized refl (each_tag (fits F1 rsi_sizes) refl t))

abbrev rfs_sizes : List (Tag × Bool)
rfs_sizes = (Mcl, true) ∷ (Rcv, true) ∷ (Org, true) ∷ (Idu, true) ∷ (Kd, true) ∷ (Cta, true) ∷ (Mac, true) ∷ []

rfs_form : (r : List ℕ) (o : List ℕ) (u : List ℕ) (kd : ℕ) (cta : ℕ) (n : ℕ) (t : Tag) → ComesAs (need_of F2 t) (times F2 t) (length (values_for t (all_fields (rfs r o u kd cta) (shuts.Mac n))))
rfs_form r o u kd cta n t =
    let sized : AreSized F2 (rfs_slots r o u kd cta n) rfs_sizes = (refl, refl, (refl, refl, (refl, refl, (refl, refl, (refl, refl, (refl, refl, (refl, refl, tt))))))) in
    subst (λ (xs : List Valued). ComesAs (need_of F2 t) (times F2 t) (length (values_for t xs))) (sym (rfs_fields r o u kd cta n)) (sized_form F2 t (rfs_slots r o u kd cta n) rfs_sizes sized refl (each_tag (fits F2 rfs_sizes) refl t))

abbrev rtr_sizes : List (Tag × Bool)
rtr_sizes = (Mcl, true) ∷ (Rcv, true) ∷ (Org, true) ∷ (Idu, true) ∷ (Kdu, true) ∷ (Ctb, true) ∷ (Iv, false) ∷ (Edk, false) ∷ (P, false) ∷ (Mac, true) ∷ []

rtr_form : (r : List ℕ) (o : List ℕ) (u : List ℕ) (kdu : ℕ) (ctb : ℕ) (iv : Option (List ℕ)) (edk : Option (List ℕ)) (p : Option (List ℕ)) (n : ℕ) (t : Tag) → ComesAs (need_of F3 t) (times F3 t) (length (values_for t (all_fields (rtr r o u kdu ctb iv edk p) (shuts.Mac n))))
rtr_form r o u kdu ctb iv edk p n t =
    let sized : AreSized F3 (rtr_slots r o u kdu ctb iv edk p n) rtr_sizes = (refl, refl, (refl, refl, (refl, refl, (refl, refl, (refl, refl, (refl, refl, (refl, if_short AText iv, (refl, if_short AText edk, (refl, if_short AText p, (refl, refl, tt)))))))))) in
    subst (λ (xs : List Valued). ComesAs (need_of F3 t) (times F3 t) (length (values_for t xs))) (sym (rtr_fields r o u kdu ctb iv edk p n)) (sized_form F3 t (rtr_slots r o u kdu ctb iv edk p n) rtr_sizes sized refl (each_tag (fits F3 rtr_sizes) refl t))

abbrev rtr_with_key_sizes : List (Tag × Bool)
rtr_with_key_sizes = (Mcl, true) ∷ (Rcv, true) ∷ (Org, true) ∷ (Idu, true) ∷ (Kd, true) ∷ (Kdu, true) ∷ (Cta, true) ∷ (Ctb, true) ∷ (Iv, false) ∷ (Edk, false) ∷ (P, false) ∷ (Mac, true) ∷ []

rtr_with_key_form : (r : List ℕ) (o : List ℕ) (u : List ℕ) (kd : ℕ) (kdu : ℕ) (cta : ℕ) (ctb : ℕ) (iv : Option (List ℕ)) (edk : Option (List ℕ)) (p : Option (List ℕ)) (n : ℕ) (t : Tag) → ComesAs (need_of F4 t) (times F4 t) (length (values_for t (all_fields (rtr_with_key r o u kd kdu cta ctb iv edk p) (shuts.Mac n))))
rtr_with_key_form r o u kd kdu cta ctb iv edk p n t =
    let sized : AreSized F4 (rtr_with_key_slots r o u kd kdu cta ctb iv edk p n) rtr_with_key_sizes = (refl, refl, (refl, refl, (refl, refl, (refl, refl, (refl, refl, (refl, refl, (refl, refl, (refl, refl, (refl, if_short AText iv, (refl, if_short AText edk, (refl, if_short AText p, (refl, refl, tt)))))))))))) in
    subst (λ (xs : List Valued). ComesAs (need_of F4 t) (times F4 t) (length (values_for t xs))) (sym (rtr_with_key_fields r o u kd kdu cta ctb iv edk p n)) (sized_form F4 t (rtr_with_key_slots r o u kd kdu cta ctb iv edk p n) rtr_with_key_sizes sized refl (each_tag (fits F4 rtr_with_key_sizes) refl t))

abbrev ksm_sizes : List (Tag × Bool)
ksm_sizes = (Mcl, true) ∷ (Rcv, true) ∷ (Org, true) ∷ (Idk2, false) ∷ (Kd, true) ∷ (Ctp, true) ∷ (Iv, false) ∷ (Edk, false) ∷ (P, false) ∷ (Mac, true) ∷ []

ksm_form : (r : List ℕ) (o : List ℕ) (k2 : Option (List ℕ)) (kd : ℕ) (ctp : ℕ) (iv : Option (List ℕ)) (edk : Option (List ℕ)) (p : Option (List ℕ)) (n : ℕ) (t : Tag) → ComesAs (need_of F5 t) (times F5 t) (length (values_for t (all_fields (ksm r o k2 kd ctp iv edk p) (shuts.Mac n))))
ksm_form r o k2 kd ctp iv edk p n t =
    let sized : AreSized F5 (ksm_slots r o k2 kd ctp iv edk p n) ksm_sizes = (refl, refl, (refl, refl, (refl, refl, (refl, if_short AText k2, (refl, refl, (refl, refl, (refl, if_short AText iv, (refl, if_short AText edk, (refl, if_short AText p, (refl, refl, tt)))))))))) in
    subst (λ (xs : List Valued). ComesAs (need_of F5 t) (times F5 t) (length (values_for t xs))) (sym (ksm_fields r o k2 kd ctp iv edk p n)) (sized_form F5 t (ksm_slots r o k2 kd ctp iv edk p n) ksm_sizes sized refl (each_tag (fits F5 ksm_sizes) refl t))

abbrev ksm_double_sizes : List (Tag × Bool)
ksm_double_sizes = (Mcl, true) ∷ (Rcv, true) ∷ (Org, true) ∷ (Idk1, true) ∷ (Idk2, false) ∷ (DoubleKk, true) ∷ (Kd, true) ∷ (Ctp, true) ∷ (Iv, false) ∷ (Edk, false) ∷ (P, false) ∷ (Mac, true) ∷ []

ksm_double_form : (r : List ℕ) (o : List ℕ) (k1 : List ℕ) (k2 : Option (List ℕ)) (kk : ℕ × ℕ) (kd : ℕ) (ctp : ℕ) (iv : Option (List ℕ)) (edk : Option (List ℕ)) (p : Option (List ℕ)) (n : ℕ) (t : Tag) → ComesAs (need_of F6 t) (times F6 t) (length (values_for t (all_fields (ksm_double r o k1 k2 kk kd ctp iv edk p) (shuts.Mac n))))
ksm_double_form r o k1 k2 kk kd ctp iv edk p n t =
    let sized : AreSized F6 (ksm_double_slots r o k1 k2 kk kd ctp iv edk p n) ksm_double_sizes = (refl, refl, (refl, refl, (refl, refl, (refl, refl, (refl, if_short AText k2, (refl, refl, (refl, refl, (refl, refl, (refl, if_short AText iv, (refl, if_short AText edk, (refl, if_short AText p, (refl, refl, tt)))))))))))) in
    subst (λ (xs : List Valued). ComesAs (need_of F6 t) (times F6 t) (length (values_for t xs))) (sym (ksm_double_fields r o k1 k2 kk kd ctp iv edk p n)) (sized_form F6 t (ksm_double_slots r o k1 k2 kk kd ctp iv edk p n) ksm_double_sizes sized refl (each_tag (fits F6 ksm_double_sizes) refl t))

abbrev ksm_single_sizes : List (Tag × Bool)
ksm_single_sizes = (Mcl, true) ∷ (Rcv, true) ∷ (Org, true) ∷ (Idk1, true) ∷ (Idk2, false) ∷ (Kk, true) ∷ (Kd, true) ∷ (Ctp, true) ∷ (Iv, false) ∷ (Edk, false) ∷ (P, false) ∷ (Mac, true) ∷ []

ksm_single_form : (r : List ℕ) (o : List ℕ) (k1 : List ℕ) (k2 : Option (List ℕ)) (kk : ℕ) (kd : ℕ) (ctp : ℕ) (iv : Option (List ℕ)) (edk : Option (List ℕ)) (p : Option (List ℕ)) (n : ℕ) (t : Tag) → ComesAs (need_of F7 t) (times F7 t) (length (values_for t (all_fields (ksm_single r o k1 k2 kk kd ctp iv edk p) (shuts.Mac n))))
ksm_single_form r o k1 k2 kk kd ctp iv edk p n t =
    let sized : AreSized F7 (ksm_single_slots r o k1 k2 kk kd ctp iv edk p n) ksm_single_sizes = (refl, refl, (refl, refl, (refl, refl, (refl, refl, (refl, if_short AText k2, (refl, refl, (refl, refl, (refl, refl, (refl, if_short AText iv, (refl, if_short AText edk, (refl, if_short AText p, (refl, refl, tt)))))))))))) in
    subst (λ (xs : List Valued). ComesAs (need_of F7 t) (times F7 t) (length (values_for t xs))) (sym (ksm_single_fields r o k1 k2 kk kd ctp iv edk p n)) (sized_form F7 t (ksm_single_slots r o k1 k2 kk kd ctp iv edk p n) ksm_single_sizes sized refl (each_tag (fits F7 ksm_single_sizes) refl t))

abbrev ksm_centre_sizes : List (Tag × Bool)
ksm_centre_sizes = (Mcl, true) ∷ (Rcv, true) ∷ (Org, true) ∷ (Idc, true) ∷ (Kdu, true) ∷ (Ctb, true) ∷ (Iv, false) ∷ (Edk, false) ∷ (P, false) ∷ (Mac, true) ∷ []

ksm_centre_form : (r : List ℕ) (o : List ℕ) (centre : List ℕ) (kdu : ℕ) (ctb : ℕ) (iv : Option (List ℕ)) (edk : Option (List ℕ)) (p : Option (List ℕ)) (n : ℕ) (t : Tag) → ComesAs (need_of F8 t) (times F8 t) (length (values_for t (all_fields (ksm_centre r o centre kdu ctb iv edk p) (shuts.Mac n))))
ksm_centre_form r o centre kdu ctb iv edk p n t =
    let sized : AreSized F8 (ksm_centre_slots r o centre kdu ctb iv edk p n) ksm_centre_sizes = (refl, refl, (refl, refl, (refl, refl, (refl, refl, (refl, refl, (refl, refl, (refl, if_short AText iv, (refl, if_short AText edk, (refl, if_short AText p, (refl, refl, tt)))))))))) in
    subst (λ (xs : List Valued). ComesAs (need_of F8 t) (times F8 t) (length (values_for t xs))) (sym (ksm_centre_fields r o centre kdu ctb iv edk p n)) (sized_form F8 t (ksm_centre_slots r o centre kdu ctb iv edk p n) ksm_centre_sizes sized refl (each_tag (fits F8 ksm_centre_sizes) refl t))

abbrev ksm_twin_sizes : List (Tag × Bool)
ksm_twin_sizes = (Mcl, true) ∷ (Rcv, true) ∷ (Org, true) ∷ (Idk2, false) ∷ (Kd, true) ∷ (Ctp, true) ∷ (Iv, false) ∷ (Edk, false) ∷ (P, false) ∷ (Mac, true) ∷ []

ksm_twin_form : (r : List ℕ) (o : List ℕ) (k2 : Option (List ℕ)) (first : ℕ) (second : ℕ) (ctp : ℕ) (iv : Option (List ℕ)) (edk : Option (List ℕ)) (p : Option (List ℕ)) (n : ℕ) (t : Tag) → ComesAs (need_of F13 t) (times F13 t) (length (values_for t (all_fields (ksm_twin r o k2 first second ctp iv edk p) (shuts.Mac n))))
ksm_twin_form r o k2 first second ctp iv edk p n t =
    let sized : AreSized F13 (ksm_twin_slots r o k2 first second ctp iv edk p n) ksm_twin_sizes = (refl, refl, (refl, refl, (refl, refl, (refl, if_short AText k2, (refl, refl, (refl, refl, (refl, if_short AText iv, (refl, if_short AText edk, (refl, if_short AText p, (refl, refl, tt)))))))))) in
    subst (λ (xs : List Valued). ComesAs (need_of F13 t) (times F13 t) (length (values_for t xs))) (sym (ksm_twin_fields r o k2 first second ctp iv edk p n)) (sized_form F13 t (ksm_twin_slots r o k2 first second ctp iv edk p n) ksm_twin_sizes sized refl (each_tag (fits F13 ksm_twin_sizes) refl t))

abbrev rsm_sizes : List (Tag × Bool)
rsm_sizes = (Mcl, true) ∷ (Rcv, true) ∷ (Org, true) ∷ (Idd, false) ∷ (Iv, false) ∷ (Edk, false) ∷ (P, false) ∷ (Mac, true) ∷ []

rsm_form : (r : List ℕ) (o : List ℕ) (idd : Option KeyName) (iv : Option (List ℕ)) (edk : Option (List ℕ)) (p : Option (List ℕ)) (n : ℕ) (t : Tag) → ComesAs (need_of F9 t) (times F9 t) (length (values_for t (all_fields (rsm r o idd iv edk p) (shuts.Mac n))))
rsm_form r o idd iv edk p n t =
    let sized : AreSized F9 (rsm_slots r o idd iv edk p n) rsm_sizes = (refl, refl, (refl, refl, (refl, refl, (refl, if_short AName idd, (refl, if_short AText iv, (refl, if_short AText edk, (refl, if_short AText p, (refl, refl, tt)))))))) in
    subst (λ (xs : List Valued). ComesAs (need_of F9 t) (times F9 t) (length (values_for t xs))) (sym (rsm_fields r o idd iv edk p n)) (sized_form F9 t (rsm_slots r o idd iv edk p n) rsm_sizes sized refl (each_tag (fits F9 rsm_sizes) refl t))

abbrev ers_sizes : List (Tag × Bool)
ers_sizes = (Mcl, true) ∷ (Rcv, true) ∷ (Org, true) ∷ (Idu, true) ∷ (Ctr, true) ∷ (Erf, true) ∷ (Mac, true) ∷ []

ers_form : (r : List ℕ) (o : List ℕ) (u : List ℕ) (ctr : ℕ) (erf : List ℕ) (n : ℕ) (t : Tag) → ComesAs (need_of F10 t) (times F10 t) (length (values_for t (all_fields (ers r o u ctr erf) (shuts.Mac n))))
ers_form r o u ctr erf n t =
    let sized : AreSized F10 (ers_slots r o u ctr erf n) ers_sizes = (refl, refl, (refl, refl, (refl, refl, (refl, refl, (refl, refl, (refl, refl, (refl, refl, tt))))))) in
    subst (λ (xs : List Valued). ComesAs (need_of F10 t) (times F10 t) (length (values_for t xs))) (sym (ers_fields r o u ctr erf n)) (sized_form F10 t (ers_slots r o u ctr erf n) ers_sizes sized refl (each_tag (fits F10 ers_sizes) refl t))

abbrev esm_sizes : List (Tag × Bool)
esm_sizes = (Mcl, true) ∷ (Rcv, true) ∷ (Org, true) ∷ (Ctp, false) ∷ (Cta, false) ∷ (Ctb, false) ∷ (Ctr, false) ∷ (Erf, true) ∷ (Mac, false) ∷ (Edc, false) ∷ []

esm_form : (r : List ℕ) (o : List ℕ) (ctp : Option ℕ) (cta : Option ℕ) (ctb : Option ℕ) (ctr : Option ℕ) (erf : List ℕ) (shut : Shut) (t : Tag) → ComesAs (need_of F11 t) (times F11 t) (length (values_for t (all_fields (esm r o ctp cta ctb ctr erf) shut)))
esm_form r o ctp cta ctb ctr erf shut t =
    let sized : AreSized F11 (esm_slots r o ctp cta ctb ctr erf shut) esm_sizes = (refl, refl, (refl, refl, (refl, refl, (refl, if_short ANumber ctp, (refl, if_short ANumber cta, (refl, if_short ANumber ctb, (refl, if_short ANumber ctr, (refl, refl, (refl, mac_short shut, (refl, edc_short shut, tt)))))))))) in
    subst (λ (xs : List Valued). ComesAs (need_of F11 t) (times F11 t) (length (values_for t xs))) (sym (esm_fields r o ctp cta ctb ctr erf shut)) (sized_form F11 t (esm_slots r o ctp cta ctb ctr erf shut) esm_sizes sized refl (each_tag (fits F11 esm_sizes) refl t))

abbrev dsm_sizes : List (Tag × Bool)
dsm_sizes = (Mcl, true) ∷ (Rcv, true) ∷ (Org, true) ∷ (Idd, true) ∷ (Ida, false) ∷ (Mac, true) ∷ []

dsm_form : (r : List ℕ) (o : List ℕ) (idd : KeyName) (ida : Option KeyName) (n : ℕ) (t : Tag) → ComesAs (need_of F12 t) (times F12 t) (length (values_for t (all_fields (dsm r o idd ida) (shuts.Mac n))))
dsm_form r o idd ida n t =
    let sized : AreSized F12 (dsm_slots r o idd ida n) dsm_sizes = (refl, refl, (refl, refl, (refl, refl, (refl, refl, (refl, if_short AName ida, (refl, refl, tt)))))) in
    subst (λ (xs : List Valued). ComesAs (need_of F12 t) (times F12 t) (length (values_for t xs))) (sym (dsm_fields r o idd ida n)) (sized_form F12 t (dsm_slots r o idd ida n) dsm_sizes sized refl (each_tag (fits F12 dsm_sizes) refl t))

rtr_any_form : (r o u : List ℕ) (kd : Option (ℕ × ℕ)) (kdu ctb : ℕ) (iv edk p : Option (List ℕ)) (n : ℕ) (t : Tag)
    → (let m : Message = message.Rtr (record { receiver = r; originator = o; ultimate = u; kd = kd; kdu = kdu; ctb = ctb; extras = record { iv = iv; edk = edk; p = p } }) in ComesAs (need_of (form_of m) t) (times (form_of m) t) (length (values_for t (all_fields m (shuts.Mac n)))))
rtr_any_form r o u None kdu ctb iv edk p n t = rtr_form r o u kdu ctb iv edk p n t
rtr_any_form r o u (Some k) kdu ctb iv edk p n t = rtr_with_key_form r o u k.0 kdu k.1 ctb iv edk p n t

ksm_any_form : (r o : List ℕ) (b : KsmBody) (iv edk p : Option (List ℕ)) (n : ℕ) (t : Tag)
    → (let m : Message = message.Ksm (record { receiver = r; originator = o; body = b; extras = record { iv = iv; edk = edk; p = p } }) in ComesAs (need_of (form_of m) t) (times (form_of m) t) (length (values_for t (all_fields m (shuts.Mac n)))))
ksm_any_form r o (body.Direct k2 None kd ctp) iv edk p n t = ksm_form r o k2 kd ctp iv edk p n t
ksm_any_form r o (body.Direct k2 (Some new) kd ctp) iv edk p n t = go new.0 new.1 where
  go : (l : List ℕ) (k : NewKk) → (let m : Message = message.Ksm (record { receiver = r; originator = o; body = body.Direct k2 (Some (l, k)) kd ctp; extras = record { iv = iv; edk = edk; p = p } }) in ComesAs (need_of (form_of m) t) (times (form_of m) t) (length (values_for t (all_fields m (shuts.Mac n)))))
  go l (new_kk.Double x y) = ksm_double_form r o l k2 (x, y) kd ctp iv edk p n t
  go l (new_kk.Single x) = ksm_single_form r o l k2 x kd ctp iv edk p n t
ksm_any_form r o (body.Twin k2 first second ctp) iv edk p n t = ksm_twin_form r o k2 first second ctp iv edk p n t
ksm_any_form r o (body.Centre centre kdu ctb) iv edk p n t = ksm_centre_form r o centre kdu ctb iv edk p n t

-- a message and a code that its form allows have the tags of the form
pub fields_form : (m : Message) (shut : Shut) → allows (form_of m) (shut_field shut).tag ≡ true → (t : Tag) → ComesAs (need_of (form_of m) t) (times (form_of m) t) (length (values_for t (all_fields m shut)))
fields_form (message.Rsi m) (shuts.Mac n) h t = absurd (false≢true h)
fields_form (message.Rsi m) (shuts.Edc n) h t = rsi_form m.receiver m.originator m.service m.ultimate n t
fields_form (message.Rfs m) (shuts.Mac n) h t = rfs_form m.receiver m.originator m.ultimate m.kd m.cta n t
fields_form (message.Rfs m) (shuts.Edc n) h t = absurd (false≢true h)
fields_form (message.Rtr m) (shuts.Mac n) h t = rtr_any_form m.receiver m.originator m.ultimate m.kd m.kdu m.ctb m.extras.iv m.extras.edk m.extras.p n t
fields_form (message.Rtr m) (shuts.Edc n) h t = absurd (never m.kd h) where
  never : (kd : Option (ℕ × ℕ)) → allows (form_of (message.Rtr (record { receiver = m.receiver; originator = m.originator; ultimate = m.ultimate; kd = kd; kdu = m.kdu; ctb = m.ctb; extras = m.extras }))) Edc ≡ true → ⊥
  never None i = false≢true i
  never (Some k) i = false≢true i
fields_form (message.Ksm m) (shuts.Mac n) h t = ksm_any_form m.receiver m.originator m.body m.extras.iv m.extras.edk m.extras.p n t
fields_form (message.Ksm m) (shuts.Edc n) h t = absurd (never m.body h) where
  made : KsmBody → Message
  made b = message.Ksm (record { receiver = m.receiver; originator = m.originator; body = b; extras = m.extras })

  never_new : (k2 : Option (List ℕ)) (l : List ℕ) (k : NewKk) (kd ctp : ℕ) → allows (form_of (made (body.Direct k2 (Some (l, k)) kd ctp))) Edc ≡ true → ⊥
  never_new k2 l (new_kk.Double x y) kd ctp i = false≢true i
  never_new k2 l (new_kk.Single x) kd ctp i = false≢true i

  never : (b : KsmBody) → allows (form_of (made b)) Edc ≡ true → ⊥
  never (body.Direct k2 None kd ctp) i = false≢true i
  never (body.Direct k2 (Some new) kd ctp) i = never_new k2 new.0 new.1 kd ctp i
  never (body.Twin k2 first second ctp) i = false≢true i
  never (body.Centre centre kdu ctb) i = false≢true i
fields_form (message.Rsm m) (shuts.Mac n) h t = rsm_form m.receiver m.originator m.idd m.extras.iv m.extras.edk m.extras.p n t
fields_form (message.Rsm m) (shuts.Edc n) h t = absurd (false≢true h)
fields_form (message.Ers m) (shuts.Mac n) h t = ers_form m.receiver m.originator m.ultimate m.ctr m.erf n t
fields_form (message.Ers m) (shuts.Edc n) h t = absurd (false≢true h)
fields_form (message.Esm m) shut h t = esm_form m.receiver m.originator m.ctp m.cta m.ctb m.ctr m.erf shut t
fields_form (message.Dsm m) (shuts.Mac n) h t = dsm_form m.receiver m.originator m.idd m.ida n t
fields_form (message.Dsm m) (shuts.Edc n) h t = absurd (false≢true h)
