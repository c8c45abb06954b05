-- The party that the first body makes.
use Rattle.std.proofs.Common.{◌≡◌, ℕ, ◌+◌, ◌<◌, ◌^◌, false, nat_eq, List, [], ◌∷◌, ◌++◌, length, sym, ap, ◌∙◌, subst, arith, append_assoc, append-nil}
use Rattle.std.proofs.lemmas.List.Elements.{All-cons, All-head, All-tail}
use Rattle.x_base.specs.declared.party.Role.{Role}
use Rattle.x_gen.specs.declared.generator.Gen.{Gen}
use Rattle.party_state.specs.declared.edit.Edit.{Edit}
use Rattle.party_state.specs.declared.edit.Edit.TheVariants.{Begin}
use Rattle.party_state.specs.Ranges.{InRange}
use Rattle.party_state.specs.Limits.{GoOn}
use Rattle.party_state.specs.State.{Party, begun}
use Rattle.change_code.specs.declared.format.Format.{Format}
use Rattle.change_code.specs.Code.{two, edit_code, edits_code, change_text, closed, number_of, IsCode}
use Rattle.change_code.specs.Reading.{Lacks, StartsWith, edit_form, edits_form}
use Rattle.change_code.specs.Following.{IsFirst, IsBeginDone, LacksBegin, IsNoFirstText, AreEditsDone, LacksEdits}
use Rattle.change_code.proofs.EditForms.{edit_apart}
use Rattle.change_code.proofs.Changes.{none_longer, same_count}
use Rattle.change_code.proofs.Closings.{same_text}

-- the first edit

pub lacks_begin : (bytes : List ℕ) → Lacks edit_form bytes → LacksBegin bytes
lacks_begin bytes lacks = record { none = λ own role generator rest begins. lacks.none (Begin own role generator) rest begins.fits begins.is }

begun_same : (own other : List ℕ) (r s : Role) (g h : Gen) → Begin own r g ≡ Begin other s h → begun own r g ≡ begun other s h
begun_same own other r s g h is =
    let o : own ≡ other = cc is in
    let q : r ≡ s = cc is in
    let k : g ≡ h = cc is in
    cc (o, q, k)

-- one edit, and others behind it
begins_more : (n k : ℕ) (bytes rest more : List ℕ) (edit : Edit) (edits : List Edit) → n ≡ k + 1 → StartsWith edit_form bytes rest edit → StartsWith (edits_form k) rest more edits → StartsWith (edits_form n) bytes more (edit ∷ edits)
begins_more n k bytes rest more edit edits one begins others = record {
  fits = (omega (arith, one, others.fits.0), All-cons InRange edit edits begins.fits others.fits.1);
  is = begins.is ∙ (ap (λ (l : List ℕ). edit_code edit ++ l) others.is ∙ sym (append_assoc (edit_code edit) (edits_code edits) more));
}

-- the text of a change

pub no_edits : (text rest : List ℕ) (n : ℕ) → n < 2 ^ 16 → text ≡ two n ++ rest → n ≡ 0 → IsNoFirstText text
no_edits text rest n small begins none = record {
  none = λ own role generator edits fits is go.
      let same = same_count text rest n (Begin own role generator ∷ edits) small begins fits.0 is in
      omega (arith, none, same.0);
}

pub begin_missing : (text rest : List ℕ) (n : ℕ) → n < 2 ^ 16 → text ≡ two n ++ rest → LacksBegin rest → IsNoFirstText text
begin_missing text rest n small begins lacks = record {
  none = λ own role generator edits fits is go.
      let same = same_count text rest n (Begin own role generator ∷ edits) small begins fits.0 is in
      lacks.none own role generator (edits_code edits) (record { fits = All-head InRange (Begin own role generator) edits fits.1; is = same.1 });
}

pub others_missing : (text rest more : List ℕ) (n k : ℕ) (first : Party) → n < 2 ^ 16 → text ≡ two n ++ rest → n ≡ k + 1 → IsBeginDone rest more first → LacksEdits k more first → IsNoFirstText text
others_missing text rest more n k first small begins one done lacks = record {
  none = λ own role generator edits fits is go.
      let same = same_count text rest n (Begin own role generator ∷ edits) small begins fits.0 is in
      let both = edit_apart.same (Begin done.own done.role done.generator) (Begin own role generator) more (edits_code edits) done.begins.fits (All-head InRange (Begin own role generator) edits fits.1) (sym done.begins.is ∙ same.1) in
      lacks.none edits [] (record { fits = (omega (arith, one, same.0), All-tail InRange (Begin own role generator) edits fits.1); is = both.1 ∙ sym (append-nil (edits_code edits)) })
      (subst (λ (p : Party). GoOn edits p) (sym (done.is ∙ begun_same done.own own done.role role done.generator generator both.0)) go);
}

pub bytes_left : (text rest more left : List ℕ) (n k : ℕ) (first new : Party) → n < 2 ^ 16 → text ≡ two n ++ rest → n ≡ k + 1 → IsBeginDone rest more first → AreEditsDone k more left first new → nat_eq (length left) 0 ≡ false → IsNoFirstText text
bytes_left text rest more left n k first new small begins one done others some = record {
  none = λ own role generator edits fits is go.
      none_longer text rest left n (Begin done.own done.role done.generator ∷ others.edits) small begins
      (begins_more n k rest more left (Begin done.own done.role done.generator) others.edits one done.begins others.begins) some (Begin own role generator ∷ edits) fits is;
}

-- the body

-- the one format in which the body can be a code
abbrev pub IsOnlyFormat : Format → List ℕ → Type 0
IsOnlyFormat format body = (other : Format) (edits : List Edit) → IsCode other body edits → format ≡ other

-- the code of a first body, in the format in which it can be one
first_code : (format other : Format) (body : List ℕ) (party : Party) → IsOnlyFormat format body → (first : IsFirst other body party) → IsCode format body (Begin first.own first.role first.generator ∷ first.edits)
first_code format other body party only first =
    let edits = Begin first.own first.role first.generator ∷ first.edits in
    subst (λ (f : Format). IsCode f body edits) (sym (only other edits first.code)) first.code

pub not_opened : (format other : Format) (body : List ℕ) (party : Party) → IsOnlyFormat format body → ((text : List ℕ) → body ≡ closed format (number_of format ∷ text) → ⊥) → IsFirst other body party → ⊥
not_opened format other body party only never first =
    never (change_text (Begin first.own first.role first.generator ∷ first.edits)) (first_code format other body party only first).is

pub no_first : (format other : Format) (body text : List ℕ) (party : Party) → IsOnlyFormat format body → body ≡ closed format (number_of format ∷ text) → IsNoFirstText text → IsFirst other body party → ⊥
no_first format other body text party only closes none first =
    let code = first_code format other body party only first in
    let edits = Begin first.own first.role first.generator ∷ first.edits in
    let one : number_of format ∷ text ≡ number_of format ∷ change_text edits = same_text format (number_of format ∷ text) (number_of format ∷ change_text edits) (sym closes ∙ code.is) in
    none.none first.own first.role first.generator first.edits (code.few, code.in_range) (cc one) first.go_on
