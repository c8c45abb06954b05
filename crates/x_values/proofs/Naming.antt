-- A count is read where its digits spell one, and a key name where its parts between periods are those of a name.
use Rattle.std.proofs.Common.{◌≡◌, ℕ, Bool, true, false, List, [], ◌∷◌, Option, Some, None, Result, Ok, Err, refl, sym, ap, OkIff}
use Rattle.std.specs.Prelude.{◌↔◌, nat_lt, if◌then◌else◌}
use Rattle.std.specs.Bool.{Decides}
use Rattle.std.specs.Result.{result_ok}
use Rattle.std.specs.List.{list_all, join_with_byte}
use Rattle.std.specs.Char.{digit_value}
use Rattle.std.specs.Str.Parse.{AllDigits, digits_value}
use Rattle.std.proofs.lemmas.Bool.{both_ways, and_parts, and_from, eqb-false, ne_eqb, not-true, not_from_false, ltb-true, lt-ltb, leb-true, le-leb}
use Rattle.std.proofs.lemmas.List.Splits.{join_with_byte-slice_split}
use Rattle.x_base.specs.Names.{is_name}
use Rattle.x_base.specs.Count.{SpellsCount}
use Rattle.x_base.specs.KeyName.{IsNameFault, IsPartsFault, NameOf, parts_of}
use Rattle.x_base.specs.declared.key_name.KeyName.{KeyName}
use Rattle.x_base.specs.declared.key_name.NameFault.{NameFault}
use Rattle.x_base.specs.declared.key_name.NameFault.TheVariants.{BadIdent, BadLabel, BadCount}
use Rattle.csm_grammar.specs.Values.{is_count, name_of, name_of_parts}
use Rattle.x_values.specs.Words.{count_of}

digits_tell : (c : List ℕ) → Decides (list_all (λ b. nat_lt (digit_value b) 10) c) (AllDigits 10 c)
digits_tell [] = (λ h. tt, λ h. refl)
digits_tell (b ∷ bs) =
    let more = digits_tell bs in
    (λ h. (let k = and_parts _ _ h in (ltb-true _ _ k.0, more.0 k.1)), λ h. and_from _ _ (lt-ltb _ _ h.0) (more.1 h.1))

count_tells : (c : List ℕ) → Decides (is_count c) (SpellsCount c)
count_tells c =
    let d = digits_tell c in (
      λ h. (let k = and_parts _ _ h in let l = and_parts _ _ k.0 in let m = and_parts _ _ k.1 in
          record { filled = leb-true _ _ l.0; short = leb-true _ _ l.1; digits = d.0 m.0; value = eqb-false _ _ (not-true _ m.1) }),
      λ h. and_from _ _ (and_from _ _ (le-leb _ _ h.filled) (le-leb _ _ h.short)) (and_from _ _ (d.1 h.digits) (not_from_false _ (ne_eqb _ _ h.value))),
    )

pub count_read : {E : Type 0} (c : List ℕ) (r : Result ℕ E) → OkIff r (SpellsCount c) (digits_value 10 c) → result_ok r ≡ count_of c
count_read {E} c r read = go (is_count c) refl r read
  where
    go : (b : Bool) → is_count c ≡ b → (r : Result ℕ E) → OkIff r (SpellsCount c) (digits_value 10 c) → result_ok r ≡ (if b then Some (digits_value 10 c) else None)
    go true is (Ok n) read = ap Some read.1
    go false is (Ok n) read = absurd (both_ways (is_count c) is ((count_tells c).1 read.0))
    go true is (Err e) read = absurd (read ((count_tells c).0 is))
    go false is (Err e) read = refl

-- what the parts between periods are: a name, or at fault
abbrev Judged : List ℕ → List (List ℕ) → Option KeyName → Type 0
Judged c ps (Some n) = NameOf c n
Judged c ps None = (fault : NameFault) × IsPartsFault ps fault

four : (c i o l d : List ℕ) (bi bo bl bd : Bool) → is_name 4 16 i ≡ bi → is_name 4 16 o ≡ bo → is_name 1 16 l ≡ bl → is_count d ≡ bd
    → join_with_byte 46 (i ∷ o ∷ l ∷ d ∷ []) ≡ c → Judged c (i ∷ o ∷ l ∷ d ∷ []) (name_of_parts (i ∷ o ∷ l ∷ d ∷ []))
four c i o l d true true true true ei eo el ed e = rw (ei, eo, el, ed) (record {
  digits = d;
  issuer = ei;
  originator = eo;
  label = el;
  count = (count_tells d).0 ed;
  number = refl;
  text = sym e;
})
four c i o l d false bo bl bd ei eo el ed e = rw ei (BadIdent, λ h. both_ways (is_name 4 16 i) ei h.0)
four c i o l d true false bl bd ei eo el ed e = rw (ei, eo) (BadIdent, λ h. both_ways (is_name 4 16 o) eo h.1)
four c i o l d true true false bd ei eo el ed e = rw (ei, eo, el) (BadLabel, (ei, eo, λ h. both_ways (is_name 1 16 l) el h))
four c i o l d true true true false ei eo el ed e = rw (ei, eo, el, ed) (BadCount, (ei, eo, el, λ h. both_ways (is_count d) ed ((count_tells d).1 h)))

judged : (c : List ℕ) (ps : List (List ℕ)) → join_with_byte 46 ps ≡ c → Judged c ps (name_of_parts ps)
judged c (i ∷ o ∷ l ∷ d ∷ []) e = four c i o l d _ _ _ _ refl refl refl refl e
judged c [] e = (BadIdent, refl)
judged c (i ∷ []) e = (BadIdent, refl)
judged c (i ∷ o ∷ []) e = (BadIdent, refl)
judged c (i ∷ o ∷ l ∷ []) e = (BadIdent, refl)
judged c (i ∷ o ∷ l ∷ d ∷ x ∷ xs) e = (BadIdent, refl)

pub name_read : (c : List ℕ) (r : Result KeyName NameFault) → ((n : KeyName) → (r ≡ Ok n) ↔ NameOf c n) → ((f : NameFault) → (r ≡ Err f) ↔ IsNameFault c f) → result_ok r ≡ name_of c
name_read c r ok err = go (name_of c) (judged c (parts_of c) (join_with_byte-slice_split 46 c))
  where
    go : (o : Option KeyName) → Judged c (parts_of c) o → result_ok r ≡ o
    go (Some n) h = rw ((ok n).1 h) refl
    go None h = rw ((err h.0).1 h.1) refl
