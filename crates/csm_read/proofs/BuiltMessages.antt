-- The fields in the slots stand for the message that is built of them.
use Rattle.std.proofs.Common.{◌≡◌, ℕ, ◌≤◌, Bool, true, false, cond, List, [], ◌∷◌, ◌++◌, length, map, Option, Some, None, refl, sym, ◌∙◌, ap, subst, arith}
use Rattle.std.specs.Prelude.{nat_le, is_some, option_map, option_to_list, option_and_then}
use Rattle.std.specs.List.{filter, list_all}
use Rattle.std.specs.Borrow.{Bor}
use Rattle.std.proofs.lemmas.Bool.{and_parts, and_from, leb-true}
use Rattle.std.proofs.lemmas.List.{append-nil, length-map}
use Rattle.x_base.specs.declared.key_name.KeyName.{KeyName}
use Rattle.csm_grammar.specs.declared.tag.Tag.{Tag}
use Rattle.csm_grammar.specs.declared.tag.Tag.TheVariants.{Rcv, Org, Svr, Idu, Idc, Idd, Ida, Idk1, Idk2, DoubleKk, Kk, Kd, Kdu, Ctp, Cta, Ctb, Ctr, Erf, Iv, Edk, P, Mac, Edc}
use Rattle.csm_grammar.specs.declared.form.Form.{Form}
use Rattle.csm_grammar.specs.declared.form.Form.TheVariants.{F1, F2, F3, F4, F5, F6, F7, F8, F9, F10, F11, F12, F13}
use Rattle.csm_grammar.specs.declared.message.Service.{Service}
use Rattle.csm_grammar.specs.declared.parsed.Shut.{Shut}
use Rattle.csm_grammar.specs.declared.parsed.Shut.TheVariants as shuts
use Rattle.csm_grammar.specs.Tags.{same_tag, count_tag}
use Rattle.csm_grammar.specs.Classes.{need_of, times}
use Rattle.csm_grammar.specs.Values.{Value, AText, AName, AService, ANumber, APair, OfKey, kind_of, value_of}
use Rattle.csm_grammar.specs.Spelling.{Field, tags_in, values_in, StandFor}
use Rattle.csm_read.specs.Slotting.{slot_in, second_in, came, contents_in}
use Rattle.csm_read.specs.Building.{AreReady}
use Rattle.csm_read.specs.Denoting.{value_at, second_value}
use Rattle.csm_grammar.proofs.TagLemmas.{same_tags}
use Rattle.csm_grammar.proofs.Slots.{count_values}
use Rattle.csm_read.proofs.Proper.{need_most}
use Rattle.csm_read.proofs.Standing.{rsi, rsi_stands, rfs, rfs_stands, rtr, rtr_stands, rtr_with_key, rtr_with_key_stands, ksm, ksm_stands, ksm_double, ksm_double_stands, ksm_single, ksm_single_stands, ksm_centre, ksm_centre_stands, ksm_twin, ksm_twin_stands, rsm, rsm_stands, ers, ers_stands, esm, esm_stands, dsm, dsm_stands}

-- the values behind a tag are those of its contents
pub values_behind : (t : Tag) (fs : List Field) → values_in t fs ≡ map (value_of (kind_of t)) (map (λ f. f.contents) (filter (λ f. same_tag f.tag t) fs))
values_behind t [] = refl
values_behind t (f ∷ fs) = go (same_tag f.tag t) refl (values_behind t fs) where
  go : (b : Bool) → same_tag f.tag t ≡ b → values_in t fs ≡ map (value_of (kind_of t)) (map (λ f. f.contents) (filter (λ f. same_tag f.tag t) fs)) → map (λ (g : Field). value_of (kind_of g.tag) g.contents) (cond b (f ∷ filter (λ g. same_tag g.tag t) fs) (filter (λ g. same_tag g.tag t) fs)) ≡ map (value_of (kind_of t)) (map (λ (g : Field). g.contents) (cond b (f ∷ filter (λ g. same_tag g.tag t) fs) (filter (λ g. same_tag g.tag t) fs)))
  go true e more = let s = same_tags f.tag t e in λ i. value_of (kind_of (s i)) f.contents ∷ more i
  go false e more = more

-- all contents behind a tag have a value
known_contents : (t : Tag) (fs : List Field) → list_all (λ f. is_some (value_of (kind_of f.tag) f.contents)) fs ≡ true → list_all (λ c. is_some (value_of (kind_of t) c)) (map (λ f. f.contents) (filter (λ f. same_tag f.tag t) fs)) ≡ true
known_contents t [] h = refl
known_contents t (f ∷ fs) h = go (same_tag f.tag t) refl (known_contents t fs k.1) where
  k : (is_some (value_of (kind_of f.tag) f.contents) ≡ true) × (list_all (λ f. is_some (value_of (kind_of f.tag) f.contents)) fs ≡ true)
  k = and_parts _ _ h

  go : (b : Bool) → same_tag f.tag t ≡ b → list_all (λ c. is_some (value_of (kind_of t) c)) (map (λ f. f.contents) (filter (λ f. same_tag f.tag t) fs)) ≡ true → list_all (λ c. is_some (value_of (kind_of t) c)) (map (λ (g : Field). g.contents) (cond b (f ∷ filter (λ g. same_tag g.tag t) fs) (filter (λ g. same_tag g.tag t) fs))) ≡ true
  go true i more = and_from _ _ (subst (λ (s : Tag). is_some (value_of (kind_of s) f.contents) ≡ true) (same_tags f.tag t i) k.0) more
  go false i more = more

pub known_behind : (t : Tag) (fs : List Field) (c : List ℕ) (cs : List (List ℕ)) → list_all (λ f. is_some (value_of (kind_of f.tag) f.contents)) fs ≡ true → map (λ f. f.contents) (filter (λ f. same_tag f.tag t) fs) ≡ c ∷ cs
    → (is_some (value_of (kind_of t) c) ≡ true) × (list_all (λ x. is_some (value_of (kind_of t) x)) cs ≡ true)
known_behind t fs c cs h e = and_parts _ _ (subst (λ (xs : List (List ℕ)). list_all (λ x. is_some (value_of (kind_of t) x)) xs ≡ true) e (known_contents t fs h))

-- as many contents are kept behind a tag as fields have it
pub kept_count : (slots : List (Option (Bor (List ℕ)))) (fs : List Field) (t : Tag) → map (λ f. f.contents) (filter (λ f. same_tag f.tag t) fs) ≡ contents_in slots t → length (contents_in slots t) ≡ count_tag t (tags_in fs)
kept_count slots fs t e = ap length (sym e) ∙ sym (length-map _ (value_of (kind_of t))) ∙ ap length (sym (values_behind t fs)) ∙ count_values t fs

module _ (slots : List (Option (Bor (List ℕ)))) (g : Form) (fs : List Field) (shut : Shut) (h : AreReady slots g fs shut) where
  behind : (t : Tag) → values_in t fs ≡ map (value_of (kind_of t)) (contents_in slots t)
  behind t = values_behind t fs ∙ ap (map (value_of (kind_of t))) (h.contents t)

  count : (t : Tag) → length (contents_in slots t) ≤ times g t
  count t = let n = kept_count slots fs t (h.contents t) in let m = need_most (need_of g t) _ _ (h.tags t) in omega (arith, n, m)

  -- a tag that comes once at most is not a second KD
  alone : (t : Tag) → nat_le (times g t) 1 ≡ true → contents_in slots t ≡ option_to_list (slot_in slots t)
  alone t e = go (same_tag t Kd) refl (count t) where
    first : (x : Option (List ℕ)) (y : Option (List ℕ)) → (is_some x ≡ false → y ≡ None) → length (option_to_list x ++ option_to_list y) ≤ 1 → option_to_list x ++ option_to_list y ≡ option_to_list x
    first None y n m = ap (λ (o : Option (List ℕ)). option_to_list o) (n refl)
    first (Some x) None n m = refl
    first (Some x) (Some y) n m = absurd (omega (arith, m))

    go : (b : Bool) → same_tag t Kd ≡ b → length (option_to_list (slot_in slots t) ++ cond b (option_to_list (second_in slots)) []) ≤ times g t → option_to_list (slot_in slots t) ++ cond b (option_to_list (second_in slots)) [] ≡ option_to_list (slot_in slots t)
    go false i m = append-nil _
    go true i m =
        let few = leb-true (times g t) 1 e in
        first (slot_in slots t) (second_in slots) (λ n. h.second (subst (λ (s : Tag). came slots s ≡ false) (same_tags t Kd i) n)) (omega (arith, few, m))

  pub one : (t : Tag) → nat_le (times g t) 1 ≡ true → (v : Value) → value_at slots t ≡ Some v → values_in t fs ≡ map Some (v ∷ [])
  one t few v e = behind t ∙ ap (map (value_of (kind_of t))) (alone t few) ∙ go (slot_in slots t) e where
    go : (o : Option (List ℕ)) → option_and_then (value_of (kind_of t)) o ≡ Some v → map (value_of (kind_of t)) (option_to_list o) ≡ Some v ∷ []
    go None i = absurd cc
    go (Some c) i = λ j. i j ∷ []

  -- the two keys
  pub both_keys : (v w : Value) → value_at slots Kd ≡ Some v → second_value slots ≡ Some w → values_in Kd fs ≡ map Some (v ∷ w ∷ [])
  both_keys v w e i = behind Kd ∙ go (slot_in slots Kd) (second_in slots) e i where
    go : (x : Option (List ℕ)) (y : Option (List ℕ)) → option_and_then (value_of OfKey) x ≡ Some v → option_and_then (value_of OfKey) y ≡ Some w → map (value_of OfKey) (option_to_list x ++ option_to_list y) ≡ Some v ∷ Some w ∷ []
    go None y j k = absurd cc
    go (Some a) None j k = absurd cc
    go (Some a) (Some b) j k = λ n. j n ∷ k n ∷ []

  pub some_if : {A : Type 0} (f : A → Value) (t : Tag) → nat_le (times g t) 1 ≡ true → (o : Option A) → option_map f o ≡ value_at slots t → values_in t fs ≡ map Some (map f (option_to_list o))
  some_if {A} f t few o e = behind t ∙ ap (map (value_of (kind_of t))) (alone t few) ∙ go (slot_in slots t) refl e where
    valued : (c : List ℕ) (w : Option Value) (p : Option A) → is_some w ≡ true → option_map f p ≡ w → w ∷ [] ≡ map Some (map f (option_to_list p))
    valued c w None k i = absurd (let z : is_some {T = Value} None ≡ true = subst (λ (x : Option Value). is_some x ≡ true) (sym i) k in cc)
    valued c w (Some x) k i = λ j. sym i j ∷ []

    go : (s : Option (List ℕ)) → slot_in slots t ≡ s → option_map f o ≡ option_and_then (value_of (kind_of t)) s → map (value_of (kind_of t)) (option_to_list s) ≡ map Some (map f (option_to_list o))
    go None i k = none o k where
      none : (p : Option A) → option_map f p ≡ None → [] ≡ map Some (map f (option_to_list p))
      none None j = refl
      none (Some x) j = absurd cc
    go (Some c) i k = valued c (value_of (kind_of t) c) o (known_behind t fs c [] h.known (h.contents t ∙ alone t few ∙ ap (λ (x : Option (List ℕ)). option_to_list x) i)).0 k

pub rsi_built : (slots : List (Option (Bor (List ℕ)))) (fs : List Field) (shut : Shut) (r : List ℕ) (o : List ℕ) (s : Service) (u : Option (List ℕ)) → AreReady slots F1 fs shut → value_at slots Rcv ≡ Some (AText r) → value_at slots Org ≡ Some (AText o) → value_at slots Svr ≡ Some (AService s) → option_map AText u ≡ value_at slots Idu → StandFor fs (rsi r o s u) shut
rsi_built slots fs (shuts.Edc n) r o s u h hr ho hs hu = rsi_stands fs r o s u n h.tags (h.class, (one slots F1 fs (shuts.Edc n) h Rcv refl (AText r) hr, (one slots F1 fs (shuts.Edc n) h Org refl (AText o) ho, (one slots F1 fs (shuts.Edc n) h Svr refl (AService s) hs, (some_if slots F1 fs (shuts.Edc n) h AText Idu refl u hu, (h.edc, tt))))))
rsi_built slots fs (shuts.Mac n) r o s u h hr ho hs hu = absurd (let l = ap length h.mac in let k = count_values Mac fs in let z = h.tags Mac in omega (arith, l, k, z))

pub rfs_built : (slots : List (Option (Bor (List ℕ)))) (fs : List Field) (shut : Shut) (r : List ℕ) (o : List ℕ) (u : List ℕ) (kd : ℕ) (cta : ℕ) → AreReady slots F2 fs shut → value_at slots Rcv ≡ Some (AText r) → value_at slots Org ≡ Some (AText o) → value_at slots Idu ≡ Some (AText u) → value_at slots Kd ≡ Some (ANumber kd) → value_at slots Cta ≡ Some (ANumber cta) → StandFor fs (rfs r o u kd cta) shut
rfs_built slots fs (shuts.Mac n) r o u kd cta h hr ho hu hkd hcta = rfs_stands fs r o u kd cta n h.tags (h.class, (one slots F2 fs (shuts.Mac n) h Rcv refl (AText r) hr, (one slots F2 fs (shuts.Mac n) h Org refl (AText o) ho, (one slots F2 fs (shuts.Mac n) h Idu refl (AText u) hu, (one slots F2 fs (shuts.Mac n) h Kd refl (ANumber kd) hkd, (one slots F2 fs (shuts.Mac n) h Cta refl (ANumber cta) hcta, (h.mac, tt)))))))
rfs_built slots fs (shuts.Edc n) r o u kd cta h hr ho hu hkd hcta = absurd (let l = ap length h.edc in let k = count_values Edc fs in let z = h.tags Edc in omega (arith, l, k, z))

pub rtr_built : (slots : List (Option (Bor (List ℕ)))) (fs : List Field) (shut : Shut) (r : List ℕ) (o : List ℕ) (u : List ℕ) (kdu : ℕ) (ctb : ℕ) (iv : Option (List ℕ)) (edk : Option (List ℕ)) (p : Option (List ℕ)) → AreReady slots F3 fs shut → value_at slots Rcv ≡ Some (AText r) → value_at slots Org ≡ Some (AText o) → value_at slots Idu ≡ Some (AText u) → value_at slots Kdu ≡ Some (ANumber kdu) → value_at slots Ctb ≡ Some (ANumber ctb) → option_map AText iv ≡ value_at slots Iv → option_map AText edk ≡ value_at slots Edk → option_map AText p ≡ value_at slots P → StandFor fs (rtr r o u kdu ctb iv edk p) shut
rtr_built slots fs (shuts.Mac n) r o u kdu ctb iv edk p h hr ho hu hkdu hctb hiv hedk hp = rtr_stands fs r o u kdu ctb iv edk p n h.tags (h.class, (one slots F3 fs (shuts.Mac n) h Rcv refl (AText r) hr, (one slots F3 fs (shuts.Mac n) h Org refl (AText o) ho, (one slots F3 fs (shuts.Mac n) h Idu refl (AText u) hu, (one slots F3 fs (shuts.Mac n) h Kdu refl (ANumber kdu) hkdu, (one slots F3 fs (shuts.Mac n) h Ctb refl (ANumber ctb) hctb, (some_if slots F3 fs (shuts.Mac n) h AText Iv refl iv hiv, (some_if slots F3 fs (shuts.Mac n) h AText Edk refl edk hedk, (some_if slots F3 fs (shuts.Mac n) h AText P refl p hp, (h.mac, tt))))))))))
rtr_built slots fs (shuts.Edc n) r o u kdu ctb iv edk p h hr ho hu hkdu hctb hiv hedk hp = absurd (let l = ap length h.edc in let k = count_values Edc fs in let z = h.tags Edc in omega (arith, l, k, z))

pub rtr_with_key_built : (slots : List (Option (Bor (List ℕ)))) (fs : List Field) (shut : Shut) (r : List ℕ) (o : List ℕ) (u : List ℕ) (kd : ℕ) (kdu : ℕ) (cta : ℕ) (ctb : ℕ) (iv : Option (List ℕ)) (edk : Option (List ℕ)) (p : Option (List ℕ)) → AreReady slots F4 fs shut → value_at slots Rcv ≡ Some (AText r) → value_at slots Org ≡ Some (AText o) → value_at slots Idu ≡ Some (AText u) → value_at slots Kd ≡ Some (ANumber kd) → value_at slots Kdu ≡ Some (ANumber kdu) → value_at slots Cta ≡ Some (ANumber cta) → value_at slots Ctb ≡ Some (ANumber ctb) → option_map AText iv ≡ value_at slots Iv → option_map AText edk ≡ value_at slots Edk → option_map AText p ≡ value_at slots P → StandFor fs (rtr_with_key r o u kd kdu cta ctb iv edk p) shut
rtr_with_key_built slots fs (shuts.Mac n) r o u kd kdu cta ctb iv edk p h hr ho hu hkd hkdu hcta hctb hiv hedk hp = rtr_with_key_stands fs r o u kd kdu cta ctb iv edk p n h.tags (h.class, (one slots F4 fs (shuts.Mac n) h Rcv refl (AText r) hr, (one slots F4 fs (shuts.Mac n) h Org refl (AText o) ho, (one slots F4 fs (shuts.Mac n) h Idu refl (AText u) hu, (one slots F4 fs (shuts.Mac n) h Kd refl (ANumber kd) hkd, (one slots F4 fs (shuts.Mac n) h Kdu refl (ANumber kdu) hkdu, (one slots F4 fs (shuts.Mac n) h Cta refl (ANumber cta) hcta, (one slots F4 fs (shuts.Mac n) h Ctb refl (ANumber ctb) hctb, (some_if slots F4 fs (shuts.Mac n) h AText Iv refl iv hiv, (some_if slots F4 fs (shuts.Mac n) h AText Edk refl edk hedk, (some_if slots F4 fs (shuts.Mac n) h AText P refl p hp, (h.mac, tt))))))))))))
rtr_with_key_built slots fs (shuts.Edc n) r o u kd kdu cta ctb iv edk p h hr ho hu hkd hkdu hcta hctb hiv hedk hp = absurd (let l = ap length h.edc in let k = count_values Edc fs in let z = h.tags Edc in omega (arith, l, k, z))

pub ksm_built : (slots : List (Option (Bor (List ℕ)))) (fs : List Field) (shut : Shut) (r : List ℕ) (o : List ℕ) (k2 : Option (List ℕ)) (kd : ℕ) (ctp : ℕ) (iv : Option (List ℕ)) (edk : Option (List ℕ)) (p : Option (List ℕ)) → AreReady slots F5 fs shut → value_at slots Rcv ≡ Some (AText r) → value_at slots Org ≡ Some (AText o) → option_map AText k2 ≡ value_at slots Idk2 → value_at slots Kd ≡ Some (ANumber kd) → value_at slots Ctp ≡ Some (ANumber ctp) → option_map AText iv ≡ value_at slots Iv → option_map AText edk ≡ value_at slots Edk → option_map AText p ≡ value_at slots P → StandFor fs (ksm r o k2 kd ctp iv edk p) shut
ksm_built slots fs (shuts.Mac n) r o k2 kd ctp iv edk p h hr ho hk2 hkd hctp hiv hedk hp = ksm_stands fs r o k2 kd ctp iv edk p n h.tags (h.class, (one slots F5 fs (shuts.Mac n) h Rcv refl (AText r) hr, (one slots F5 fs (shuts.Mac n) h Org refl (AText o) ho, (some_if slots F5 fs (shuts.Mac n) h AText Idk2 refl k2 hk2, (one slots F5 fs (shuts.Mac n) h Kd refl (ANumber kd) hkd, (one slots F5 fs (shuts.Mac n) h Ctp refl (ANumber ctp) hctp, (some_if slots F5 fs (shuts.Mac n) h AText Iv refl iv hiv, (some_if slots F5 fs (shuts.Mac n) h AText Edk refl edk hedk, (some_if slots F5 fs (shuts.Mac n) h AText P refl p hp, (h.mac, tt))))))))))
ksm_built slots fs (shuts.Edc n) r o k2 kd ctp iv edk p h hr ho hk2 hkd hctp hiv hedk hp = absurd (let l = ap length h.edc in let k = count_values Edc fs in let z = h.tags Edc in omega (arith, l, k, z))

pub ksm_double_built : (slots : List (Option (Bor (List ℕ)))) (fs : List Field) (shut : Shut) (r : List ℕ) (o : List ℕ) (k1 : List ℕ) (k2 : Option (List ℕ)) (kk : ℕ × ℕ) (kd : ℕ) (ctp : ℕ) (iv : Option (List ℕ)) (edk : Option (List ℕ)) (p : Option (List ℕ)) → AreReady slots F6 fs shut → value_at slots Rcv ≡ Some (AText r) → value_at slots Org ≡ Some (AText o) → value_at slots Idk1 ≡ Some (AText k1) → option_map AText k2 ≡ value_at slots Idk2 → value_at slots DoubleKk ≡ Some (APair kk.0 kk.1) → value_at slots Kd ≡ Some (ANumber kd) → value_at slots Ctp ≡ Some (ANumber ctp) → option_map AText iv ≡ value_at slots Iv → option_map AText edk ≡ value_at slots Edk → option_map AText p ≡ value_at slots P → StandFor fs (ksm_double r o k1 k2 kk kd ctp iv edk p) shut
ksm_double_built slots fs (shuts.Mac n) r o k1 k2 kk kd ctp iv edk p h hr ho hk1 hk2 hkk hkd hctp hiv hedk hp = ksm_double_stands fs r o k1 k2 kk kd ctp iv edk p n h.tags (h.class, (one slots F6 fs (shuts.Mac n) h Rcv refl (AText r) hr, (one slots F6 fs (shuts.Mac n) h Org refl (AText o) ho, (one slots F6 fs (shuts.Mac n) h Idk1 refl (AText k1) hk1, (some_if slots F6 fs (shuts.Mac n) h AText Idk2 refl k2 hk2, (one slots F6 fs (shuts.Mac n) h DoubleKk refl (APair kk.0 kk.1) hkk, (one slots F6 fs (shuts.Mac n) h Kd refl (ANumber kd) hkd, (one slots F6 fs (shuts.Mac n) h Ctp refl (ANumber ctp) hctp, (some_if slots F6 fs (shuts.Mac n) h AText Iv refl iv hiv, (some_if slots F6 fs (shuts.Mac n) h AText Edk refl edk hedk, (some_if slots F6 fs (shuts.Mac n) h AText P refl p hp, (h.mac, tt))))))))))))
ksm_double_built slots fs (shuts.Edc n) r o k1 k2 kk kd ctp iv edk p h hr ho hk1 hk2 hkk hkd hctp hiv hedk hp = absurd (let l = ap length h.edc in let k = count_values Edc fs in let z = h.tags Edc in omega (arith, l, k, z))

pub ksm_single_built : (slots : List (Option (Bor (List ℕ)))) (fs : List Field) (shut : Shut) (r : List ℕ) (o : List ℕ) (k1 : List ℕ) (k2 : Option (List ℕ)) (kk : ℕ) (kd : ℕ) (ctp : ℕ) (iv : Option (List ℕ)) (edk : Option (List ℕ)) (p : Option (List ℕ)) → AreReady slots F7 fs shut → value_at slots Rcv ≡ Some (AText r) → value_at slots Org ≡ Some (AText o) → value_at slots Idk1 ≡ Some (AText k1) → option_map AText k2 ≡ value_at slots Idk2 → value_at slots Kk ≡ Some (ANumber kk) → value_at slots Kd ≡ Some (ANumber kd) → value_at slots Ctp ≡ Some (ANumber ctp) → option_map AText iv ≡ value_at slots Iv → option_map AText edk ≡ value_at slots Edk → option_map AText p ≡ value_at slots P → StandFor fs (ksm_single r o k1 k2 kk kd ctp iv edk p) shut
ksm_single_built slots fs (shuts.Mac n) r o k1 k2 kk kd ctp iv edk p h hr ho hk1 hk2 hkk hkd hctp hiv hedk hp = ksm_single_stands fs r o k1 k2 kk kd ctp iv edk p n h.tags (h.class, (one slots F7 fs (shuts.Mac n) h Rcv refl (AText r) hr, (one slots F7 fs (shuts.Mac n) h Org refl (AText o) ho, (one slots F7 fs (shuts.Mac n) h Idk1 refl (AText k1) hk1, (some_if slots F7 fs (shuts.Mac n) h AText Idk2 refl k2 hk2, (one slots F7 fs (shuts.Mac n) h Kk refl (ANumber kk) hkk, (one slots F7 fs (shuts.Mac n) h Kd refl (ANumber kd) hkd, (one slots F7 fs (shuts.Mac n) h Ctp refl (ANumber ctp) hctp, (some_if slots F7 fs (shuts.Mac n) h AText Iv refl iv hiv, (some_if slots F7 fs (shuts.Mac n) h AText Edk refl edk hedk, (some_if slots F7 fs (shuts.Mac n) h AText P refl p hp, (h.mac, tt))))))))))))
ksm_single_built slots fs (shuts.Edc n) r o k1 k2 kk kd ctp iv edk p h hr ho hk1 hk2 hkk hkd hctp hiv hedk hp = absurd (let l = ap length h.edc in let k = count_values Edc fs in let z = h.tags Edc in omega (arith, l, k, z))

pub ksm_centre_built : (slots : List (Option (Bor (List ℕ)))) (fs : List Field) (shut : Shut) (r : List ℕ) (o : List ℕ) (centre : List ℕ) (kdu : ℕ) (ctb : ℕ) (iv : Option (List ℕ)) (edk : Option (List ℕ)) (p : Option (List ℕ)) → AreReady slots F8 fs shut → value_at slots Rcv ≡ Some (AText r) → value_at slots Org ≡ Some (AText o) → value_at slots Idc ≡ Some (AText centre) → value_at slots Kdu ≡ Some (ANumber kdu) → value_at slots Ctb ≡ Some (ANumber ctb) → option_map AText iv ≡ value_at slots Iv → option_map AText edk ≡ value_at slots Edk → option_map AText p ≡ value_at slots P → StandFor fs (ksm_centre r o centre kdu ctb iv edk p) shut
ksm_centre_built slots fs (shuts.Mac n) r o centre kdu ctb iv edk p h hr ho hcentre hkdu hctb hiv hedk hp = ksm_centre_stands fs r o centre kdu ctb iv edk p n h.tags (h.class, (one slots F8 fs (shuts.Mac n) h Rcv refl (AText r) hr, (one slots F8 fs (shuts.Mac n) h Org refl (AText o) ho, (one slots F8 fs (shuts.Mac n) h Idc refl (AText centre) hcentre, (one slots F8 fs (shuts.Mac n) h Kdu refl (ANumber kdu) hkdu, (one slots F8 fs (shuts.Mac n) h Ctb refl (ANumber ctb) hctb, (some_if slots F8 fs (shuts.Mac n) h AText Iv refl iv hiv, (some_if slots F8 fs (shuts.Mac n) h AText Edk refl edk hedk, (some_if slots F8 fs (shuts.Mac n) h AText P refl p hp, (h.mac, tt))))))))))
ksm_centre_built slots fs (shuts.Edc n) r o centre kdu ctb iv edk p h hr ho hcentre hkdu hctb hiv hedk hp = absurd (let l = ap length h.edc in let k = count_values Edc fs in let z = h.tags Edc in omega (arith, l, k, z))

pub ksm_twin_built : (slots : List (Option (Bor (List ℕ)))) (fs : List Field) (shut : Shut) (r : List ℕ) (o : List ℕ) (k2 : Option (List ℕ)) (first : ℕ) (second : ℕ) (ctp : ℕ) (iv : Option (List ℕ)) (edk : Option (List ℕ)) (p : Option (List ℕ)) → AreReady slots F13 fs shut → value_at slots Rcv ≡ Some (AText r) → value_at slots Org ≡ Some (AText o) → option_map AText k2 ≡ value_at slots Idk2 → value_at slots Kd ≡ Some (ANumber first) → second_value slots ≡ Some (ANumber second) → value_at slots Ctp ≡ Some (ANumber ctp) → option_map AText iv ≡ value_at slots Iv → option_map AText edk ≡ value_at slots Edk → option_map AText p ≡ value_at slots P → StandFor fs (ksm_twin r o k2 first second ctp iv edk p) shut
ksm_twin_built slots fs (shuts.Mac n) r o k2 first second ctp iv edk p h hr ho hk2 hfirst hsecond hctp hiv hedk hp = ksm_twin_stands fs r o k2 first second ctp iv edk p n h.tags (h.class, (one slots F13 fs (shuts.Mac n) h Rcv refl (AText r) hr, (one slots F13 fs (shuts.Mac n) h Org refl (AText o) ho, (some_if slots F13 fs (shuts.Mac n) h AText Idk2 refl k2 hk2, (both_keys slots F13 fs (shuts.Mac n) h (ANumber first) (ANumber second) hfirst hsecond, (one slots F13 fs (shuts.Mac n) h Ctp refl (ANumber ctp) hctp, (some_if slots F13 fs (shuts.Mac n) h AText Iv refl iv hiv, (some_if slots F13 fs (shuts.Mac n) h AText Edk refl edk hedk, (some_if slots F13 fs (shuts.Mac n) h AText P refl p hp, (h.mac, tt))))))))))
ksm_twin_built slots fs (shuts.Edc n) r o k2 first second ctp iv edk p h hr ho hk2 hfirst hsecond hctp hiv hedk hp = absurd (let l = ap length h.edc in let k = count_values Edc fs in let z = h.tags Edc in omega (arith, l, k, z))

pub rsm_built : (slots : List (Option (Bor (List ℕ)))) (fs : List Field) (shut : Shut) (r : List ℕ) (o : List ℕ) (idd : Option KeyName) (iv : Option (List ℕ)) (edk : Option (List ℕ)) (p : Option (List ℕ)) → AreReady slots F9 fs shut → value_at slots Rcv ≡ Some (AText r) → value_at slots Org ≡ Some (AText o) → option_map AName idd ≡ value_at slots Idd → option_map AText iv ≡ value_at slots Iv → option_map AText edk ≡ value_at slots Edk → option_map AText p ≡ value_at slots P → StandFor fs (rsm r o idd iv edk p) shut
rsm_built slots fs (shuts.Mac n) r o idd iv edk p h hr ho hidd hiv hedk hp = rsm_stands fs r o idd iv edk p n h.tags (h.class, (one slots F9 fs (shuts.Mac n) h Rcv refl (AText r) hr, (one slots F9 fs (shuts.Mac n) h Org refl (AText o) ho, (some_if slots F9 fs (shuts.Mac n) h AName Idd refl idd hidd, (some_if slots F9 fs (shuts.Mac n) h AText Iv refl iv hiv, (some_if slots F9 fs (shuts.Mac n) h AText Edk refl edk hedk, (some_if slots F9 fs (shuts.Mac n) h AText P refl p hp, (h.mac, tt))))))))
rsm_built slots fs (shuts.Edc n) r o idd iv edk p h hr ho hidd hiv hedk hp = absurd (let l = ap length h.edc in let k = count_values Edc fs in let z = h.tags Edc in omega (arith, l, k, z))

pub ers_built : (slots : List (Option (Bor (List ℕ)))) (fs : List Field) (shut : Shut) (r : List ℕ) (o : List ℕ) (u : List ℕ) (ctr : ℕ) (erf : List ℕ) → AreReady slots F10 fs shut → value_at slots Rcv ≡ Some (AText r) → value_at slots Org ≡ Some (AText o) → value_at slots Idu ≡ Some (AText u) → value_at slots Ctr ≡ Some (ANumber ctr) → value_at slots Erf ≡ Some (AText erf) → StandFor fs (ers r o u ctr erf) shut
ers_built slots fs (shuts.Mac n) r o u ctr erf h hr ho hu hctr herf = ers_stands fs r o u ctr erf n h.tags (h.class, (one slots F10 fs (shuts.Mac n) h Rcv refl (AText r) hr, (one slots F10 fs (shuts.Mac n) h Org refl (AText o) ho, (one slots F10 fs (shuts.Mac n) h Idu refl (AText u) hu, (one slots F10 fs (shuts.Mac n) h Ctr refl (ANumber ctr) hctr, (one slots F10 fs (shuts.Mac n) h Erf refl (AText erf) herf, (h.mac, tt)))))))
ers_built slots fs (shuts.Edc n) r o u ctr erf h hr ho hu hctr herf = absurd (let l = ap length h.edc in let k = count_values Edc fs in let z = h.tags Edc in omega (arith, l, k, z))

pub esm_built : (slots : List (Option (Bor (List ℕ)))) (fs : List Field) (shut : Shut) (r : List ℕ) (o : List ℕ) (ctp : Option ℕ) (cta : Option ℕ) (ctb : Option ℕ) (ctr : Option ℕ) (erf : List ℕ) → AreReady slots F11 fs shut → value_at slots Rcv ≡ Some (AText r) → value_at slots Org ≡ Some (AText o) → option_map ANumber ctp ≡ value_at slots Ctp → option_map ANumber cta ≡ value_at slots Cta → option_map ANumber ctb ≡ value_at slots Ctb → option_map ANumber ctr ≡ value_at slots Ctr → value_at slots Erf ≡ Some (AText erf) → StandFor fs (esm r o ctp cta ctb ctr erf) shut
esm_built slots fs (shuts.Mac n) r o ctp cta ctb ctr erf h hr ho hctp hcta hctb hctr herf = esm_stands fs r o ctp cta ctb ctr erf (shuts.Mac n) h.tags (h.class, (one slots F11 fs (shuts.Mac n) h Rcv refl (AText r) hr, (one slots F11 fs (shuts.Mac n) h Org refl (AText o) ho, (some_if slots F11 fs (shuts.Mac n) h ANumber Ctp refl ctp hctp, (some_if slots F11 fs (shuts.Mac n) h ANumber Cta refl cta hcta, (some_if slots F11 fs (shuts.Mac n) h ANumber Ctb refl ctb hctb, (some_if slots F11 fs (shuts.Mac n) h ANumber Ctr refl ctr hctr, (one slots F11 fs (shuts.Mac n) h Erf refl (AText erf) herf, (h.mac, (h.edc, tt))))))))))
esm_built slots fs (shuts.Edc n) r o ctp cta ctb ctr erf h hr ho hctp hcta hctb hctr herf = esm_stands fs r o ctp cta ctb ctr erf (shuts.Edc n) h.tags (h.class, (one slots F11 fs (shuts.Edc n) h Rcv refl (AText r) hr, (one slots F11 fs (shuts.Edc n) h Org refl (AText o) ho, (some_if slots F11 fs (shuts.Edc n) h ANumber Ctp refl ctp hctp, (some_if slots F11 fs (shuts.Edc n) h ANumber Cta refl cta hcta, (some_if slots F11 fs (shuts.Edc n) h ANumber Ctb refl ctb hctb, (some_if slots F11 fs (shuts.Edc n) h ANumber Ctr refl ctr hctr, (one slots F11 fs (shuts.Edc n) h Erf refl (AText erf) herf, (h.mac, (h.edc, tt))))))))))

pub dsm_built : (slots : List (Option (Bor (List ℕ)))) (fs : List Field) (shut : Shut) (r : List ℕ) (o : List ℕ) (idd : KeyName) (ida : Option KeyName) → AreReady slots F12 fs shut → value_at slots Rcv ≡ Some (AText r) → value_at slots Org ≡ Some (AText o) → value_at slots Idd ≡ Some (AName idd) → option_map AName ida ≡ value_at slots Ida → StandFor fs (dsm r o idd ida) shut
dsm_built slots fs (shuts.Mac n) r o idd ida h hr ho hidd hida = dsm_stands fs r o idd ida n h.tags (h.class, (one slots F12 fs (shuts.Mac n) h Rcv refl (AText r) hr, (one slots F12 fs (shuts.Mac n) h Org refl (AText o) ho, (one slots F12 fs (shuts.Mac n) h Idd refl (AName idd) hidd, (some_if slots F12 fs (shuts.Mac n) h AName Ida refl ida hida, (h.mac, tt))))))
dsm_built slots fs (shuts.Edc n) r o idd ida h hr ho hidd hida = absurd (let l = ap length h.edc in let k = count_values Edc fs in let z = h.tags Edc in omega (arith, l, k, z))
