-- Faults have their places in the text, or at its end.
use Rattle.std.proofs.Common.{◌≡◌, ℕ, ◌+◌, ◌≤◌, ◌<◌, Bool, true, false, cond, List, [], ◌∷◌, ◌++◌, length, take, drop, Option, Some, None, refl, sym, ◌∙◌, ap, subst, inl, inr, arith, length-append}
use Rattle.std.specs.Prelude.{◌⊎◌, ◌==◌, ◌&&◌, ◌||◌, not, is_none, option_map, option_to_list, codes}
use Rattle.std.specs.List.{list_any, position_or_len}
use Rattle.std.proofs.lemmas.Bool.{lt-ltb, le-ltb, cases_lt, and_parts, ltb-true}
use Rattle.std.proofs.lemmas.List.{length-take, length-drop}
use Rattle.csm_grammar.specs.declared.tag.Tag.{Tag}
use Rattle.csm_grammar.specs.declared.tag.Tag.TheVariants.{Mcl}
use Rattle.csm_grammar.specs.declared.refusal.ReadRefusal.{ReadRefusal}
use Rattle.csm_grammar.specs.declared.refusal.ReadRefusal.TheVariants as refusal
use Rattle.csm_grammar.specs.Tags.{tag_name, tag_of, same_tag, is_closing, is_unsupported}
use Rattle.csm_grammar.specs.Values.{kind_of, value_of, is_hex}
use Rattle.csm_grammar.specs.Spelling.{Field, tags_in, is_separator}
use Rattle.csm_read.specs.Units.{Stretch, Standing, longer, stretches, end_place, put, waits, units, stretches_of, units_of, tag_text, contents_text}
use Rattle.csm_read.specs.Faults.{refuse, or_else, is_repeated, differs, front_fault, is_tagged, lacking, forms_left, field_of, fault_of, fault_of_field, fields_from, first_fault, missing_of, endless_fault, end_fault, fault_of_text}
use Rattle.csm_grammar.specs.Places.{place_of}
use Rattle.csm_read.proofs.Passing.{no_fault, fault_more}
use Rattle.csm_read.proofs.Stretching.{stretch}
use Rattle.csm_read.proofs.UnitLemmas.{is_slash, any_found}
use Rattle.csm_grammar.proofs.TagLemmas.{name_of_tag}

-- a fault, if there is one, has at most so many bytes before it
Within : ℕ → Option ReadRefusal → Type 0
Within n o = (r : ReadRefusal) → o ≡ Some r → place_of r ≤ n

within_none : (n : ℕ) → Within n None
unfolding Within
within_none n r h = absurd cc

within_some : (n : ℕ) (s : ReadRefusal) → place_of s ≤ n → Within n (Some s)
unfolding Within
within_some n s k r h = subst (λ (x : ReadRefusal). place_of x ≤ n) (let e : s ≡ r = cc in e) k

within_refuse : (n : ℕ) (b : Bool) (s : ReadRefusal) (o : Option ReadRefusal) → place_of s ≤ n → Within n o → Within n (refuse b s o)
within_refuse n true s o k h = within_some n s k
within_refuse n false s o k h = h

within_or_else : (n : ℕ) (o p : Option ReadRefusal) → Within n o → Within n p → Within n (or_else o p)
within_or_else n None p h k = k
within_or_else n (Some s) p h k = h

differs_within : (n place : ℕ) (bs ws : List ℕ) → place + length bs ≤ n → Within n (differs place bs ws)
differs_within n place [] ws h = within_none n
differs_within n place (b ∷ bs) [] h = within_none n
differs_within n place (b ∷ bs) (w ∷ ws) h = go (b == w) (differs_within n (place + 1) bs ws (omega arith)) where
  go : (c : Bool) → Within n (differs (place + 1) bs ws) → Within n (cond c (differs (place + 1) bs ws) (Some (refusal.NotCsm place)))
  go true k = k
  go false k = within_some n (refusal.NotCsm place) (omega arith)

front_within : (b : List ℕ) → Within (length b) (front_fault b)
front_within [] = within_some 0 (refusal.NotCsm 0) (omega arith)
front_within (b ∷ bs) = differs_within (length (b ∷ bs)) 0 (b ∷ bs) (codes "CSM(") (omega arith)

lacking_within : (n : ℕ) (c : Bool) (t : Option Tag) (place : ℕ) → place ≤ n → Within n (cond c (option_map (λ t. refusal.Missing t place) t) None)
lacking_within n false t place h = within_none n
lacking_within n true None place h = within_none n
lacking_within n true (Some t) place h = within_some n (refusal.Missing t place) h

field_within : (n : ℕ) (before : List Field) (place : ℕ) (f : Field) → place ≤ n → place + (length (tag_name f.tag) + 1) ≤ n → Within n (fault_of_field before place f)
field_within n before place f h k =
    within_refuse n (is_unsupported f.tag) (refusal.Unsupported f.tag place) _ h
    (within_refuse n ((length before == 0) && not (same_tag f.tag Mcl)) (refusal.Missing Mcl place) _ h
    (within_refuse n (is_repeated before f.tag) (refusal.Repeated f.tag place) _ h
    (within_refuse n (list_any is_closing (tags_in before) || (length (forms_left before (f.tag ∷ tags_in before)) == 0)) (refusal.Unwanted f.tag place) _ h
    (within_or_else n _ _ (lacking_within n (is_closing f.tag) (lacking (forms_left before (f.tag ∷ tags_in before)) (tags_in before)) place h)
    (within_refuse n (is_none (value_of (kind_of f.tag) f.contents)) (refusal.BadContents f.tag (place + (length (tag_name f.tag) + 1))) None k (within_none n))))))

-- a tag, and the `/` behind it
tag_room : (t : List ℕ) → is_tagged t ≡ true → length (tag_text t) + 1 ≤ length t
tag_room t h =
    let slash = (and_parts (list_any (λ b. b == 47) t) _ h).0 in
    let room = ltb-true (position_or_len is_slash t) (length t) (sym (any_found t) ∙ slash) in
    let size = length-take (position_or_len is_slash t) t in
    omega (arith, room, size)

field_named : (u : Standing) (f : Field) → field_of u ≡ Some f → tag_of (tag_text u.text) ≡ Some f.tag
field_named u f h = go (tag_of (tag_text u.text)) h where
  tag_if : Option Field → Option Tag
  tag_if None = None
  tag_if (Some x) = Some x.tag

  go : (o : Option Tag) → option_map (λ t. record { tag = t; contents = contents_text u.text }) o ≡ Some f → o ≡ Some f.tag
  go None i = absurd cc
  go (Some t) i = ap tag_if i

token_within : (n : ℕ) (before : List Field) (u : Standing) → u.place + length u.text ≤ n → Within n (fault_of before u)
token_within n before u h = go (is_tagged u.text) refl (field_of u) refl where
  known : Option Field → Option ReadRefusal
  known None = Some (refusal.UnknownTag u.place)
  known (Some f) = fault_of_field before u.place f

  go : (c : Bool) → is_tagged u.text ≡ c → (o : Option Field) → field_of u ≡ o → Within n (refuse (not c) (refusal.BadTag u.place) (known o))
  go false e o i = within_some n (refusal.BadTag u.place) (omega arith)
  go true e None i = within_some n (refusal.UnknownTag u.place) (omega arith)
  go true e (Some f) i =
      let room = tag_room u.text e in
      let name = ap length (name_of_tag (tag_text u.text) f.tag (field_named u f i)) in
      field_within n before u.place f (omega arith) (omega (arith, room, name))

AllWithin : ℕ → List Standing → Type 0
AllWithin n [] = Unit {0}
AllWithin n (u ∷ us) = (u.place + length u.text ≤ n) × AllWithin n us

tokens_within : (n : ℕ) (before : List Field) (us : List Standing) → AllWithin n us → Within n (first_fault before us)
unfolding AllWithin
tokens_within n before [] h = subst (Within n) (sym (no_fault before)) (within_none n)
tokens_within n before (u ∷ us) h = subst (Within n) (sym (fault_more before u us)) (within_or_else n _ _ (token_within n before u h.0) (tokens_within n (before ++ option_to_list (field_of u)) us h.1))

-- stretches one behind the other, from a place on
Chained : ℕ → ℕ → List Stretch → Type 0
Chained n p [] = p ≤ n
Chained n p (s ∷ ss) = (s.place ≡ p) × Chained n (p + (length s.text + 1)) ss

chained_longer : (n p b : ℕ) (ss : List Stretch) → Chained n (p + 1) ss → Chained n p (longer p b ss)
unfolding Chained
chained_longer n p b [] h = omega (arith, h)
chained_longer n p b (s ∷ ss) h = (refl, subst (λ (k : ℕ). Chained n k ss) (let e : p + 1 + (length s.text + 1) ≡ p + (length (b ∷ s.text) + 1) = omega arith in e) h.1)

chained : (n p : ℕ) (bs : List ℕ) → p + length bs ≤ n → Chained n p (stretches p bs)
unfolding stretches Chained
chained n p [] h = omega arith
chained n p (b ∷ bs) h = go (b == 41) (is_separator b) (chained n (p + 1) bs (omega arith)) where
  go : (c d : Bool) → Chained n (p + 1) (stretches (p + 1) bs) → Chained n p (cond c (stretch p [] b ∷ []) (cond d (stretch p [] b ∷ stretches (p + 1) bs) (longer p b (stretches (p + 1) bs))))
  go true d k = (refl, omega arith)
  go false true k = (refl, k)
  go false false k = chained_longer n p b (stretches (p + 1) bs) k

chain_end : (n p : ℕ) (ss : List Stretch) → Chained n p ss → p ≤ n
unfolding Chained
chain_end n p [] h = h
chain_end n p (s ∷ ss) h = let k = chain_end n (p + (length s.text + 1)) ss h.1 in omega (arith, k)

put_within : (n : ℕ) (s : Stretch) (us : List Standing) → s.place + length s.text ≤ n → AllWithin n us → AllWithin n (put s us)
unfolding AllWithin
put_within n s us h k = go s.text h where
  go : (t : List ℕ) → s.place + length t ≤ n → AllWithin n (put (stretch s.place t s.end) us)
  go [] i = k
  go (b ∷ bs) i = (i, k)

first_within : (n p : ℕ) (s : Stretch) (ss : List Stretch) → Chained n p (s ∷ ss) → s.place + length s.text ≤ n
unfolding Chained
first_within n p s ss h = let k = chain_end n (p + (length s.text + 1)) ss h.1 in let e = h.0 in omega (arith, k, e)

two_within : (n p : ℕ) (s t : Stretch) (ss : List Stretch) → Chained n p (s ∷ t ∷ ss) → s.place + length (s.text ++ 32 ∷ t.text) ≤ n
unfolding Chained
two_within n p s t ss h =
    let k = first_within n (p + (length s.text + 1)) t ss h.1 in
    let e = h.0 in
    let f = h.1.0 in
    let l = length-append s.text (32 ∷ t.text) in
    omega (arith, k, e, f, l)

units_within : (n p : ℕ) (ss : List Stretch) → Chained n p ss → AllWithin n (units ss)
unfolding units AllWithin Chained
units_within n p [] h = tt
units_within n p (s ∷ []) h = go (waits s) where
  go : (c : Bool) → AllWithin n (cond c [] (put s []))
  go true = tt
  go false = put_within n s [] (first_within n p s [] h) tt
units_within n p (s ∷ t ∷ ss) h = go (waits s && is_hex 4 t.text) (units_within n (p + (length s.text + 1) + (length t.text + 1)) ss h.1.1) (units_within n (p + (length s.text + 1)) (t ∷ ss) h.1) where
  joined : Standing
  joined = record { place = s.place; text = s.text ++ 32 ∷ t.text }

  go : (c : Bool) → AllWithin n (units ss) → AllWithin n (units (t ∷ ss)) → AllWithin n (cond c (joined ∷ units ss) (put s (units (t ∷ ss))))
  go true i k = (two_within n p s t ss h, i)
  go false i k = put_within n s (units (t ∷ ss)) (first_within n p s (t ∷ ss) h) k

end_place_within : (n p : ℕ) (ss : List Stretch) (place : ℕ) → Chained n p ss → end_place ss ≡ Some place → place ≤ n
unfolding Chained
end_place_within n p [] place h e = absurd cc
end_place_within n p (s ∷ ss) place h e = go (s.end == 41) e (end_place_within n (p + (length s.text + 1)) ss place h.1) where
  go : (c : Bool) → cond c (Some (s.place + length s.text)) (end_place ss) ≡ Some place → (end_place ss ≡ Some place → place ≤ n) → place ≤ n
  go true i k = let j : s.place + length s.text ≡ place = cc in let l = first_within n p s ss h in omega (arith, j, l)
  go false i k = k i

endless_within : (n : ℕ) → place_of (endless_fault n) ≤ n
endless_within n = go (cases_lt 1024 n) where
  go : (1024 < n) ⊎ (n ≤ 1024) → place_of (endless_fault n) ≤ n
  go (inl h) = rw (lt-ltb 1024 n h) (omega arith)
  go (inr h) = rw (le-ltb 1024 n h) (omega arith)

end_within : (n : ℕ) (o : Option ℕ) (fs : List Field) → ((place : ℕ) → o ≡ Some place → place ≤ n) → Within n (end_fault o fs n)
end_within n None fs h = within_some n (endless_fault n) (endless_within n)
end_within n (Some place) fs h = within_refuse n (not (list_any is_closing (tags_in fs))) (refusal.Missing (missing_of (forms_left fs (tags_in fs)) (tags_in fs)) place) None (h place refl) (within_none n)

-- the judged bytes behind the front
tail_within : (b : List ℕ) → (4 + length (drop 4 (take 1024 b)) ≤ length b) ⊎ (drop 4 (take 1024 b) ≡ [])
tail_within b = go (drop 4 (take 1024 b)) refl where
  go : (x : List ℕ) → drop 4 (take 1024 b) ≡ x → (4 + length x ≤ length b) ⊎ (x ≡ [])
  go [] e = inr refl
  go (x ∷ xs) e =
      let size = ap length e in
      let d = length-drop 4 (take 1024 b) in
      let t = length-take 1024 b in
      inl (omega (arith, size, d, t))

tail_units : (b : List ℕ) → (4 + length (drop 4 (take 1024 b)) ≤ length b) ⊎ (drop 4 (take 1024 b) ≡ []) → AllWithin (length b) (units_of b) × ((place : ℕ) → end_place (stretches_of b) ≡ Some place → place ≤ length b)
unfolding units stretches AllWithin
tail_units b (inl h) =
    let c = chained (length b) 4 (drop 4 (take 1024 b)) h in
    (units_within (length b) 4 (stretches_of b) c, λ place e. end_place_within (length b) 4 (stretches_of b) place c e)
tail_units b (inr h) = (subst (λ (x : List ℕ). AllWithin (length b) (units (stretches 4 x))) (sym h) tt, λ place e. let k = ap (λ (x : List ℕ). end_place (stretches 4 x)) (sym h) ∙ e in absurd cc)

pub fault_within : (b : List ℕ) (r : ReadRefusal) → fault_of_text b ≡ Some r → place_of r ≤ length b
unfolding fault_of_text Within
fault_within b r h =
    let t = tail_units b (tail_within b) in
    within_or_else (length b) _ _ (front_within b) (within_or_else (length b) _ _ (tokens_within (length b) [] (units_of b) t.0) (end_within (length b) (end_place (stretches_of b)) (fields_from (units_of b)) t.1)) r h
