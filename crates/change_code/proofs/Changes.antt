-- Lists of edits, and changes.
use Rattle.std.proofs.Common.{◌≡◌, ℕ, zero, suc, ◌+◌, ◌<◌, ◌≤◌, ◌^◌, nat_eq, true, false, List, [], ◌∷◌, ◌++◌, length, take, Some, Err, refl, sym, ap, ◌∙◌, subst, arith, append_assoc, append-nil, add-one, length-append}
use Rattle.std.specs.List.{slice_get}
use Rattle.std.proofs.lemmas.List.Concat.{flat_map-append}
use Rattle.std.proofs.lemmas.List.Elements.{All-push, All-head, All-tail}
use Rattle.party_state.specs.declared.edit.Edit.{Edit}
use Rattle.party_state.specs.Ranges.{InRange, AreInRange}
use Rattle.change_code.specs.declared.format.Format.{Format}
use Rattle.change_code.specs.Code.{two, edit_code, edits_code, change_text, number_of, closing, code_of_change, most_edits, IsCode}
use Rattle.change_code.specs.Reading.{Lacks, StartsWith, IsDecoded, IsAllRead, edit_form, edits_form, change_form}
use Rattle.change_code.specs.declared.fault.CodeFault.{CodeFault}
use Rattle.change_code.specs.declared.fault.CodeFault.TheVariants.{Bad, NoMemory}
use Rattle.change_code.proofs.Numbers.{two_apart, two_long}
use Rattle.change_code.proofs.EditForms.{edit_apart}
use Rattle.change_code.proofs.Closings.{number_apart}

-- the code of one edit more
pub one_more : (edits : List Edit) (i : ℕ) (edit : Edit) → slice_get edits i ≡ Some edit → edits_code (take (suc i) edits) ≡ edits_code (take i edits) ++ edit_code edit
one_more [] i edit is = absurd (cc is)
one_more (e ∷ edits) zero edit is = let same : e ≡ edit = cc is in append-nil (edit_code e) ∙ ap edit_code same
one_more (e ∷ edits) (suc i) edit is = ap (λ (l : List ℕ). edit_code e ++ l) (one_more edits i edit is) ∙ sym (append_assoc (edit_code e) (edits_code (take i edits)) (edit_code edit))

pub put_one : (out new front : List ℕ) (edits : List Edit) (i : ℕ) (edit : Edit) → slice_get edits i ≡ Some edit → new ≡ out ++ edit_code edit
    → out ≡ front ++ edits_code (take i edits) → new ≡ front ++ edits_code (take (i + 1) edits)
put_one out new front edits i edit at is was =
    rw add-one
    (is ∙ (ap (λ (l : List ℕ). l ++ edit_code edit) was ∙ (append_assoc front (edits_code (take i edits)) (edit_code edit) ∙ ap (λ (l : List ℕ). front ++ l) (sym (one_more edits i edit at)))))

-- behind fewer edits than there are another one stands
next_edit : (done edits : List Edit) (rest more : List ℕ) → AreInRange done → AreInRange edits → length done < length edits → edits_code done ++ rest ≡ edits_code edits ++ more
    → (edit : Edit) × (after : List ℕ) × InRange edit × (rest ≡ edit_code edit ++ after)
next_edit [] [] rest more some all few is = absurd (omega arith)
next_edit [] (e ∷ edits) rest more some all few is = (e, edits_code edits ++ more, All-head InRange e edits all, is ∙ append_assoc (edit_code e) (edits_code edits) more)
next_edit (d ∷ done) [] rest more some all few is = absurd (omega arith)
next_edit (d ∷ done) (e ∷ edits) rest more some all few is =
    let same = edit_apart.same d e (edits_code done ++ rest) (edits_code edits ++ more) (All-head InRange d done some) (All-head InRange e edits all)
    (sym (append_assoc (edit_code d) (edits_code done) rest) ∙ (is ∙ append_assoc (edit_code e) (edits_code edits) more)) in
    next_edit done edits rest more (All-tail InRange d done some) (All-tail InRange e edits all) (omega arith) same.1

-- equally many edits with one code are the same
same_edits : (done edits : List Edit) (rest more : List ℕ) → AreInRange done → AreInRange edits → length done ≡ length edits → edits_code done ++ rest ≡ edits_code edits ++ more
    → (done ≡ edits) × (rest ≡ more)
same_edits [] [] rest more some all count is = (refl, is)
same_edits [] (e ∷ edits) rest more some all count is = absurd (omega arith)
same_edits (d ∷ done) [] rest more some all count is = absurd (omega arith)
same_edits (d ∷ done) (e ∷ edits) rest more some all count is =
    let same = edit_apart.same d e (edits_code done ++ rest) (edits_code edits ++ more) (All-head InRange d done some) (All-head InRange e edits all)
    (sym (append_assoc (edit_code d) (edits_code done) rest) ∙ (is ∙ append_assoc (edit_code e) (edits_code edits) more)) in
    let others = same_edits done edits rest more (All-tail InRange d done some) (All-tail InRange e edits all) (omega arith) same.1 in
    (ap (λ (x : Edit). x ∷ done) same.0 ∙ ap (λ (l : List Edit). e ∷ l) others.0, others.1)

-- an edit is missing
pub lacks_edit : (n i : ℕ) (old rest : List ℕ) (done : List Edit) → i < n → StartsWith (edits_form i) old rest done → Lacks edit_form rest → Lacks (edits_form n) old
lacks_edit n i old rest done few begins lacks = record {
  none = λ edits more fits is.
      let next = next_edit done edits rest more begins.fits.1 fits.1 (omega (arith, begins.fits.0, fits.0)) (sym begins.is ∙ is) in
      lacks.none next.0 next.1 next.2 next.3;
}

pushed : (done : List Edit) (edit : Edit) → edits_code (done ++ edit ∷ []) ≡ edits_code done ++ edit_code edit
pushed done edit = flat_map-append edit_code done (edit ∷ []) ∙ ap (λ (l : List ℕ). edits_code done ++ l) (append-nil (edit_code edit))

-- an edit is there
pub begins_edit : (i : ℕ) (old rest more : List ℕ) (done : List Edit) (edit : Edit) → StartsWith (edits_form i) old rest done → StartsWith edit_form rest more edit → StartsWith (edits_form (i + 1)) old more (done ++ edit ∷ [])
begins_edit i old rest more done edit before begins = record {
  fits = (omega (arith, before.fits.0, length-append done (edit ∷ [])), All-push InRange done edit before.fits.1 begins.fits);
  is = before.is ∙ (ap (λ (l : List ℕ). edits_code done ++ l) begins.is ∙ (sym (append_assoc (edits_code done) (edit_code edit) more) ∙ ap (λ (l : List ℕ). l ++ more) (sym (pushed done edit))));
}

-- texts of changes with anything behind them
two_texts : (first second : List Edit) (r s : List ℕ) → length first ≤ most_edits → length second ≤ most_edits → AreInRange first → AreInRange second
    → change_text first ++ r ≡ change_text second ++ s → first ≡ second
two_texts first second r s few few' all all' is =
    let texts : two (length first) ++ (edits_code first ++ r) ≡ two (length second) ++ (edits_code second ++ s)
    = sym (append_assoc (two (length first)) (edits_code first) r) ∙ (is ∙ append_assoc (two (length second)) (edits_code second) s) in
    let counts = two_apart (length first) (length second) (edits_code first ++ r) (edits_code second ++ s) (omega (arith, few)) (omega (arith, few')) texts in
    (same_edits first second r s all all' counts.0 counts.1).0

pub one_change : (f g : Format) (bytes : List ℕ) (first second : List Edit) → IsCode f bytes first → IsCode g bytes second → (f ≡ g) × (first ≡ second)
one_change f g bytes first second one other =
    let codes : code_of_change f first ≡ code_of_change g second = sym one.is ∙ other.is in
    let numbers : number_of f ≡ number_of g = cc codes in
    let texts : change_text first ++ closing f (number_of f ∷ change_text first) ≡ change_text second ++ closing g (number_of g ∷ change_text second) = cc codes in (
      number_apart f g numbers,
      two_texts first second (closing f (number_of f ∷ change_text first)) (closing g (number_of g ∷ change_text second)) one.few other.few one.in_range other.in_range texts,
    )

pub one_code : (format : Format) (first second : List ℕ) (edits : List Edit) → IsCode format first edits → IsCode format second edits → first ≡ second
one_code format first second edits one other = one.is ∙ sym other.is

pub refused_edit : (fault : CodeFault) (n i : ℕ) (old rest more after : List ℕ) (done : List Edit) → i < n → StartsWith (edits_form i) old rest done → IsDecoded edit_form rest more (Err fault)
    → IsDecoded (edits_form n) old after (Err fault)
refused_edit Bad n i old rest more after done few begins lacks = lacks_edit n i old rest done few begins lacks
refused_edit NoMemory n i old rest more after done few begins lacks = tt

abbrev pub IsNone : List ℕ → Type 0
IsNone bytes = (edits : List Edit) → change_form.Fits edits → bytes ≡ change_text edits → ⊥

pub none_short : (bytes : List ℕ) → length bytes < 2 → IsNone bytes
none_short bytes few edits fits is = omega (arith, few, ap length is, length-append (two (length edits)) (edits_code edits), two_long (length edits))

pub same_count : (bytes rest : List ℕ) (n : ℕ) (edits : List Edit) → n < 2 ^ 16 → bytes ≡ two n ++ rest → length edits ≤ most_edits → bytes ≡ change_text edits → (n ≡ length edits) × (rest ≡ edits_code edits)
same_count bytes rest n edits small is few text = two_apart n (length edits) rest (edits_code edits) small (omega (arith, few)) (sym is ∙ text)

pub none_lacking : (fault : CodeFault) (bytes rest more : List ℕ) (n : ℕ) → n < 2 ^ 16 → bytes ≡ two n ++ rest → IsDecoded (edits_form n) rest more (Err fault) → IsAllRead change_form bytes (Err fault)
none_lacking NoMemory bytes rest more n small is lacks = tt
none_lacking Bad bytes rest more n small is lacks = λ edits fits text.
    let same = same_count bytes rest n edits small is fits.0 text in
    lacks.none edits [] (sym same.0, fits.1) (same.1 ∙ sym (append-nil (edits_code edits)))

pub none_longer : (bytes rest more : List ℕ) (n : ℕ) (done : List Edit) → n < 2 ^ 16 → bytes ≡ two n ++ rest → StartsWith (edits_form n) rest more done → nat_eq (length more) 0 ≡ false → IsNone bytes
none_longer bytes rest more n done small is begins some edits fits text =
    let same = same_count bytes rest n edits small is fits.0 text in
    let both = same_edits done edits more [] begins.fits.1 fits.1 (begins.fits.0 ∙ same.0) (sym begins.is ∙ (same.1 ∙ sym (append-nil (edits_code edits)))) in
    let never : true ≡ false = subst (λ (k : ℕ). nat_eq k 0 ≡ false) (ap length both.1) some in
    cc never
