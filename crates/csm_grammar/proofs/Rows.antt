-- The entry of a form and a tag.
use Rattle.std.proofs.Common.{◌≡◌, ℕ, zero, suc, ◌+◌, ◌*◌, ◌<◌, ◌≤◌, Bool, true, false, cond, List, [], ◌∷◌, ◌++◌, length, get_or, refl, lit<, sym, ◌∙◌, ap, arith}
use Rattle.std.specs.Prelude.{not, nat_le}
use Rattle.std.proofs.lemmas.Bool.{leb-true, leb-false, false≢true}
use Rattle.std.specs.List.{flat_map}
use Rattle.std.proofs.lemmas.List.{get_or-append-add, get_or_append_left}
use Rattle.std.proofs.lemmas.List.Concat.{flat_map-cons}
use Rattle.csm_grammar.specs.declared.tag.Tag.{Tag}
use Rattle.csm_grammar.specs.declared.tag.Tag.TheVariants.{Mcl, Rcv, Org, Svr, Idu, Idc, Idd, Ida, Idk1, Idk2, DoubleKk, Kk, Kd, Kdu, Ctp, Cta, Ctb, Ctr, Erf, Iv, Edk, P, Mac, Edc, Kku, DoubleKku, Nos}
use Rattle.csm_grammar.specs.declared.form.Form.{Form}
use Rattle.csm_grammar.specs.declared.form.Form.TheVariants.{F1, F2, F3, F4, F5, F6, F7, F8, F9, F10, F11, F12, F13}
use Rattle.csm_grammar.specs.declared.form.Need.{Need}
use Rattle.csm_grammar.specs.declared.form.Need.TheVariants.{Required, Optional, Refused}
use denote.Enum.Declared.{tag_of as number_of}
use Rattle.csm_grammar.specs.contracts.form.Form.{the_type}
use Rattle.csm_grammar.specs.Tags.{tag_place}
use Rattle.csm_grammar.specs.Classes.{forms, required, optional, closing, need_of, allows, times}
use Rattle.csm_grammar.specs.Letters.{form_place, row, table, letter, entry}
use Rattle.csm_grammar.proofs.TagLemmas.{tag_small}
use Rattle.csm_grammar.proofs.Counting.{present_count, is_refused, refused_allows, times_few, twice_required, refused_never}

entry_of : (t : Tag) (f : Form) → get_or (row f) (tag_place t) 0 ≡ entry f t
entry_of Mcl f = refl
entry_of Rcv f = refl
entry_of Org f = refl
entry_of Svr f = refl
entry_of Idu f = refl
entry_of Idc f = refl
entry_of Idd f = refl
entry_of Ida f = refl
entry_of Idk1 f = refl
entry_of Idk2 f = refl
entry_of DoubleKk f = refl
entry_of Kk f = refl
entry_of Kd f = refl
entry_of Kdu f = refl
entry_of Ctp f = refl
entry_of Cta f = refl
entry_of Ctb f = refl
entry_of Ctr f = refl
entry_of Erf f = refl
entry_of Iv f = refl
entry_of Edk f = refl
entry_of P f = refl
entry_of Mac f = refl
entry_of Edc f = refl
entry_of Kku f = refl
entry_of DoubleKku f = refl
entry_of Nos f = refl

pub form_at : (f : Form) → get_or forms (form_place f) F1 ≡ f
form_at F1 = refl
form_at F2 = refl
form_at F3 = refl
form_at F4 = refl
form_at F5 = refl
form_at F6 = refl
form_at F7 = refl
form_at F8 = refl
form_at F13 = refl
form_at F9 = refl
form_at F10 = refl
form_at F11 = refl
form_at F12 = refl

pub form_small : (f : Form) → form_place f < length forms
form_small F1 = lit< tt
form_small F2 = lit< tt
form_small F3 = lit< tt
form_small F4 = lit< tt
form_small F5 = lit< tt
form_small F6 = lit< tt
form_small F7 = lit< tt
form_small F8 = lit< tt
form_small F13 = lit< tt
form_small F9 = lit< tt
form_small F10 = lit< tt
form_small F11 = lit< tt
form_small F12 = lit< tt

rows_at : (fs : List Form) (i j : ℕ) → i < length fs → j < 27 → get_or (flat_map row fs) (27 * i + j) 0 ≡ get_or (row (get_or fs i F1)) j 0
rows_at [] i j h k = absurd (omega arith)
rows_at (f ∷ fs) zero j h k = ap (λ (xs : List ℕ). get_or xs (27 * 0 + j) 0) (flat_map-cons row f fs) ∙ ap (λ (n : ℕ). get_or (row f ++ flat_map row fs) n 0) (let e : 27 * 0 + j ≡ j = omega arith in e) ∙ get_or_append_left (row f) (flat_map row fs) 0 j k
rows_at (f ∷ fs) (suc i) j h k =
    let e : 27 * suc i + j ≡ length (row f) + (27 * i + j) = omega arith in
    ap (λ (xs : List ℕ). get_or xs (27 * suc i + j) 0) (flat_map-cons row f fs) ∙ ap (λ (n : ℕ). get_or (row f ++ flat_map row fs) n 0) e
    ∙ get_or-append-add (row f) (flat_map row fs) (27 * i + j) 0 ∙ rows_at fs i j (omega arith) k

pub entry_at : (f : Form) (t : Tag) → get_or table (27 * form_place f + tag_place t) 0 ≡ entry f t
unfolding table
entry_at f t = rows_at forms (form_place f) (tag_place t) (form_small f) (tag_small t) ∙ ap (λ (g : Form). get_or (row g) (tag_place t) 0) (form_at f) ∙ entry_of t f

-- the number that Rust gives
pub form_number : (f : Form) → number_of the_type f ≡ form_place f
form_number F1 = refl
form_number F2 = refl
form_number F3 = refl
form_number F4 = refl
form_number F5 = refl
form_number F6 = refl
form_number F7 = refl
form_number F8 = refl
form_number F13 = refl
form_number F9 = refl
form_number F10 = refl
form_number F11 = refl
form_number F12 = refl

letter_required : (n : Need) → letter n ≡ 82 → Required ≡ n
letter_required Required e = refl
letter_required Optional e = absurd (omega (arith, e))
letter_required Refused e = absurd (omega (arith, e))

letter_optional : (n : Need) → letter n ≡ 79 → Optional ≡ n
letter_optional Required e = absurd (omega (arith, e))
letter_optional Optional e = refl
letter_optional Refused e = absurd (omega (arith, e))

letter_refused : (n : Need) → (letter n ≡ 82 → ⊥) → (letter n ≡ 79 → ⊥) → Refused ≡ n
letter_refused Required e f = absurd (e refl)
letter_refused Optional e f = absurd (f refl)
letter_refused Refused e f = refl

-- what the letters say
module _ (f : Form) (t : Tag) where
  entry_cases : (b : Bool) → nat_le 2 (times f t) ≡ b → entry f t ≡ cond b 84 (letter (need_of f t))
  entry_cases true e = rw e refl
  entry_cases false e = rw e refl

  twice : nat_le 2 (times f t) ≡ true → Required ≡ need_of f t
  twice e = let r = twice_required f t e in sym (let n : need_of f t ≡ Required = rw r refl in n)

  pub need_required : entry f t ≡ 82 → Required ≡ need_of f t
  need_required e = go (nat_le 2 (times f t)) refl where
    go : (b : Bool) → nat_le 2 (times f t) ≡ b → Required ≡ need_of f t
    go true i = twice i
    go false i = letter_required (need_of f t) (sym (entry_cases false i) ∙ e)

  pub need_twice : entry f t ≡ 84 → Required ≡ need_of f t
  need_twice e = go (nat_le 2 (times f t)) refl where
    other : (n : Need) → letter n ≡ 84 → ⊥
    other Required i = omega (arith, i)
    other Optional i = omega (arith, i)
    other Refused i = omega (arith, i)

    go : (b : Bool) → nat_le 2 (times f t) ≡ b → Required ≡ need_of f t
    go true i = twice i
    go false i = absurd (other (need_of f t) (sym (entry_cases false i) ∙ e))

  pub need_optional : entry f t ≡ 79 → Optional ≡ need_of f t
  need_optional e = go (nat_le 2 (times f t)) refl where
    go : (b : Bool) → nat_le 2 (times f t) ≡ b → Optional ≡ need_of f t
    go true i = absurd (let k : 84 ≡ 79 = sym (entry_cases true i) ∙ e in omega (arith, k))
    go false i = letter_optional (need_of f t) (sym (entry_cases false i) ∙ e)

  pub need_refused : (entry f t ≡ 82 → ⊥) → (entry f t ≡ 84 → ⊥) → (entry f t ≡ 79 → ⊥) → Refused ≡ need_of f t
  need_refused r w o = go (nat_le 2 (times f t)) refl where
    go : (b : Bool) → nat_le 2 (times f t) ≡ b → Refused ≡ need_of f t
    go true i = absurd (w (entry_cases true i))
    go false i = let e = entry_cases false i in letter_refused (need_of f t) (λ k. r (e ∙ k)) (λ k. o (e ∙ k))

  pub times_twice : entry f t ≡ 84 → 2 ≡ times f t
  times_twice e = go (nat_le 2 (times f t)) refl where
    other : (n : Need) → letter n ≡ 84 → ⊥
    other Required i = omega (arith, i)
    other Optional i = omega (arith, i)
    other Refused i = omega (arith, i)

    go : (b : Bool) → nat_le 2 (times f t) ≡ b → 2 ≡ times f t
    go true i = let n = leb-true 2 (times f t) i in let m = times_few f t in omega (arith, n, m)
    go false i = absurd (other (need_of f t) (sym (entry_cases false i) ∙ e))

  pub times_never : entry f t ≡ 88 → 0 ≡ times f t
  times_never e = go (nat_le 2 (times f t)) refl where
    none : (n : Need) → need_of f t ≡ n → letter n ≡ 88 → 0 ≡ times f t
    none Required i k = absurd (omega (arith, k))
    none Optional i k = absurd (omega (arith, k))
    none Refused i k = sym (refused_never f t i)

    go : (b : Bool) → nat_le 2 (times f t) ≡ b → 0 ≡ times f t
    go true i = absurd (let k : 84 ≡ 88 = sym (entry_cases true i) ∙ e in omega (arith, k))
    go false i = none (need_of f t) refl (sym (entry_cases false i) ∙ e)

  pub times_once : (entry f t ≡ 84 → ⊥) → (entry f t ≡ 88 → ⊥) → 1 ≡ times f t
  times_once w x = go (nat_le 2 (times f t)) refl where
    some : (b : Bool) → allows f t ≡ b → 1 ≤ times f t
    some true i = present_count t (Mcl ∷ (required f ++ (optional f ++ closing f))) i
    some false i = absurd (x (refused_entry (need_of f t) refl)) where
      refused_entry : (n : Need) → need_of f t ≡ n → entry f t ≡ 88
      refused_entry Refused k = entry_cases false (few (nat_le 2 (times f t)) refl) ∙ ap letter k where
        few : (b : Bool) → nat_le 2 (times f t) ≡ b → b ≡ false
        few false m = refl
        few true m = absurd (let n = leb-true 2 (times f t) m in let z = refused_never f t k in omega (arith, n, z))
      refused_entry Required k = absurd (let z : false ≡ true = sym (ap is_refused k) ∙ refused_allows f t ∙ ap not i in false≢true z)
      refused_entry Optional k = absurd (let z : false ≡ true = sym (ap is_refused k) ∙ refused_allows f t ∙ ap not i in false≢true z)

    go : (b : Bool) → nat_le 2 (times f t) ≡ b → 1 ≡ times f t
    go true i = absurd (w (entry_cases true i))
    go false i = let n = leb-false 2 (times f t) i in let m = some (allows f t) refl in omega (arith, n, m)
