-- The code of a change, in either format, is written anew in format 2.
use Rattle.std.proofs.Common.{◌≡◌, inr, ℕ, ◌+◌, ◌-◌, List, [], ◌∷◌, ◌++◌, length, take, drop, Result, Ok, Err, IfOk, refl, sym, ap, subst, ◌∙◌, arith, length-append}
use Rattle.std.specs.Prelude.{slice_index_or}
use Rattle.std.proofs.Math.Seq.{take-append_seam}
use Rattle.key_journal.specs.Journal.{frame_of}
use Rattle.party_tables.specs.declared.exchange.Kind.{Kind}
use Rattle.party_tables.specs.declared.exchange.Kind.TheVariants as kind
use Rattle.party_tables.specs.Ranges.{IsKind, IsFittingKind}
use Rattle.party_state.specs.declared.edit.Edit.{Edit}
use Rattle.party_state.specs.declared.edit.Edit.TheVariants.{Begin, PutLink, DropLink, PutKey, DropEnded, PutExchange, DropExchange, PutAnswer, SetGen}
use Rattle.party_state.specs.Ranges.{InRange, AreInRange, IsFitting, AreFitting, HasNoBegin}
use Rattle.change_code.specs.declared.format.Format.{Format}
use Rattle.change_code.specs.declared.format.Format.TheVariants.{Two}
use Rattle.change_code.specs.Code.{IsCode, code_of_change}
use Rattle.change_code.specs.Framed.{IsFramed}
use Rattle.spool_store.specs.Plans.{IsChange}
use Rattle.csm_spool.specs.Planning.{code_or_nothing}
use Rattle.csm_spool.proofs.PlanEdits.{OneChange}

fits_kind : (k : Kind) → IsKind k → IsFittingKind k
fits_kind (kind.Asked ultimate) is = tt
fits_kind (kind.Translating ultimate value cta) is = tt
fits_kind (kind.KeySent name via) is = tt
fits_kind (kind.Ending name) is = tt
fits_kind (kind.PairSent name) is = is.1.count

fits_one : (e : Edit) → InRange e → IsFitting e
fits_one (Begin own role generator) is = tt
fits_one (PutLink link) is = is.next
fits_one (DropLink peer label side) is = tt
fits_one (PutKey key) is = tt
fits_one DropEnded is = tt
fits_one (PutExchange exchange) is = record { kind = fits_kind exchange.kind is.kind; text = is.text }
fits_one (DropExchange peer) is = tt
fits_one (PutAnswer answer) is = tt
fits_one (SetGen v) is = tt

-- edits that are in range fit
pub fits_all : (es : List Edit) → AreInRange es → AreFitting es
fits_all es all = λ k d few. fits_one (slice_index_or es k d) (all k d few)

-- what a text is that is the code of each change of which the bytes are one
abbrev pub IsAnew : List ℕ → List ℕ → Type 0
IsAnew code text = (format : Format) (edits : List Edit) → IsCode format code edits → IsCode Two text edits

pub anew : OneChange → (format : Format) (code : List ℕ) (change : List Edit) → IsCode format code change → IsCode Two (code_of_change Two change) change → {X : Type 0} (r : Result (List ℕ) X) → IfOk r (λ text. text ≡ code_of_change Two change) → IfOk r (IsAnew code)
anew one format code change is two (Ok text) same = λ f edits other. subst (IsCode Two text) (one format f code change edits is other).1 (subst (λ (t : List ℕ). IsCode Two t change) (sym same) two)
anew one format code change is two (Err e) same = tt

-- the body of a frame
pub inside : (body framed : List ℕ) → framed ≡ frame_of body → take (length framed - 5) (drop 4 framed) ≡ body
inside body framed is =
    let long : length framed - 5 ≡ length body = omega (arith, ap length is, length-append body (0 ∷ [])) in
    ap (λ (l : List ℕ). take (length framed - 5) (drop 4 l)) is ∙ (ap (λ (n : ℕ). take n (body ++ 0 ∷ [])) long ∙ take-append_seam body (0 ∷ []))

pub frame_long : (body framed : List ℕ) → framed ≡ frame_of body → length framed ≡ length body + 5
frame_long body framed is = omega (arith, ap length is, length-append body (0 ∷ []))

or_nothing : (edits : List Edit) → (edits ≡ [] → ⊥) → code_or_nothing edits ≡ code_of_change Two edits
or_nothing [] some = absurd (some refl)
or_nothing (e ∷ es) some = refl

module _ (format : Format) (edits : List Edit) (text : List ℕ) (is : IsFramed format edits text) (inner : List ℕ) (same : inner ≡ code_of_change format edits) where
  pub inside_code : IsCode format inner edits
  inside_code = subst (λ (l : List ℕ). IsCode format l edits) (sym same) is.code

  pub framed_code : {X : Type 0} (r : Result (List ℕ) X) → IfOk r (IsAnew inner) → IfOk r (λ code. code ≡ code_or_nothing edits)
  framed_code (Ok code) a = (a format edits inside_code).is ∙ sym (or_nothing edits is.some)
  framed_code (Err e) a = tt

  pub framed_change : {X : Type 0} (r : Result (List ℕ) X) → IfOk r (IsAnew inner) → IfOk r (λ code. HasNoBegin edits → IsChange code)
  framed_change (Ok code) a = λ none. inr (edits, a format edits inside_code, none)
  framed_change (Err e) a = tt
