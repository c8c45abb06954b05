-- Edits that are done as their codes are read.
use Rattle.std.proofs.Common.{◌≡◌, ℕ, ◌+◌, ◌<◌, ◌^◌, ◌↔◌, IsTrue, Bool, true, false, nat_eq, List, [], ◌∷◌, ◌++◌, length, refl, sym, ap, ◌∙◌, subst, arith, append_assoc, append-nil}
use Rattle.std.proofs.lemmas.Bool.{eqb-true}
use Rattle.std.proofs.lemmas.List.Elements.{All-nil, All-push, All-head, All-tail}
use Rattle.party_state.specs.declared.edit.Edit.{Edit}
use Rattle.party_state.specs.Ranges.{InRange, AreInRange, IsNoBegin}
use Rattle.party_state.specs.Limits.{IsWithinLimits, StaysWithinLimits, GoOn}
use Rattle.party_state.specs.State.{Party, apply, apply_edit}
use Rattle.party_state.proofs.Editing.{apply_append}
use Rattle.change_code.specs.declared.format.Format.{Format}
use Rattle.change_code.specs.Code.{two, edit_code, edits_code, change_text, closed, number_of}
use Rattle.change_code.specs.Reading.{Form, StartsWith, edit_form}
use Rattle.change_code.specs.Following.{IsStep, IsEditDone, LacksEdit, IsEditFollowed, AreEditsDone, LacksEdits, IsChangeDone, IsNoChange, IsChangeFollowed}
use Rattle.change_code.proofs.EditForms.{edit_apart}
use Rattle.change_code.proofs.Changes.{begins_edit, none_short, none_longer, same_count}
use Rattle.change_code.proofs.Closings.{same_text}
use Rattle.change_code.proofs.Anew.{stays_on}

-- one edit

-- an edit that may not be done
pub lacks_done : (edit : Edit) (bytes rest : List ℕ) (old : Party) → StartsWith edit_form bytes rest edit → (IsNoBegin edit → IsWithinLimits (apply_edit edit old) → ⊥) → LacksEdit bytes old
lacks_done edit bytes rest old begins never = record {
  none = λ other more starts goes within.
      let same = edit_apart.same edit other rest more begins.fits starts.fits (sym begins.is ∙ starts.is) in
      never (subst IsNoBegin (sym same.0) goes) (subst (λ (e : Edit). IsWithinLimits (apply_edit e old)) (sym same.0) within);
}

-- an edit was done, and whether no limit is passed
pub followed_edit : (goes : Bool) (edit : Edit) (bytes rest : List ℕ) (old new : Party) → StartsWith edit_form bytes rest edit → IsNoBegin edit → new ≡ apply_edit edit old → (IsTrue goes ↔ IsWithinLimits new)
    → IsEditFollowed bytes rest old new goes
followed_edit true edit bytes rest old new begins no_begin after tells = record { edit = edit; begins = begins; goes_on = no_begin; within = subst IsWithinLimits after (tells.0 refl); after = after }
followed_edit false edit bytes rest old new begins no_begin after tells = lacks_done edit bytes rest old begins (λ goes within. absurd (cc (tells.1 (subst IsWithinLimits (sym after) within))))

-- the code of an edit behind the byte of its kind
pub begins_kind : {T : Type 0} (kind : ℕ) (form : Form T) (edit : Edit) (bytes rest : List ℕ) (x : T) → StartsWith form bytes rest x → InRange edit → edit_code edit ≡ kind ∷ form.code x → StartsWith edit_form (kind ∷ bytes) rest edit
begins_kind kind form edit bytes rest x begins fits code = record {
  fits = fits;
  is = ap (λ (l : List ℕ). kind ∷ l) begins.is ∙ ap (λ (l : List ℕ). l ++ rest) (sym code);
}

-- so many edits

pub none_done : (bytes : List ℕ) (old : Party) → AreEditsDone 0 bytes bytes old old
none_done bytes old = record { edits = []; begins = record { fits = (refl, All-nil InRange); is = refl }; go_on = record { goes_on = All-nil IsNoBegin; within = tt }; after = refl }

-- one edit more
pub one_more_done : (n : ℕ) (bytes rest more : List ℕ) (old mid new : Party) → AreEditsDone n bytes rest old mid → IsEditDone rest more mid new → AreEditsDone (n + 1) bytes more old new
one_more_done n bytes rest more old mid new done next =
    let there : new ≡ apply_edit next.edit (apply done.edits old) = next.after ∙ ap (λ (p : Party). apply_edit next.edit p) done.after in
    let within : IsWithinLimits (apply_edit next.edit (apply done.edits old)) = subst (λ (p : Party). IsWithinLimits (apply_edit next.edit p)) done.after next.within in
    record {
      edits = done.edits ++ next.edit ∷ [];
      begins = begins_edit n bytes rest more done.edits next.edit done.begins next.begins;
      go_on = record {
        goes_on = All-push IsNoBegin done.edits next.edit done.go_on.goes_on next.goes_on;
        within = stays_on done.edits (next.edit ∷ []) old done.go_on.within (within, tt);
      };
      after = there ∙ sym (apply_append done.edits (next.edit ∷ []) old);
    }

-- no edits go on where the next one is missing
stops : (done edits : List Edit) (rest more : List ℕ) (p : Party) → AreInRange done → AreInRange edits → length done < length edits → edits_code done ++ rest ≡ edits_code edits ++ more
    → GoOn edits p → LacksEdit rest (apply done p) → ⊥
stops [] [] rest more p some all few is go lacks = omega arith
stops [] (e ∷ edits) rest more p some all few is go lacks =
    lacks.none e (edits_code edits ++ more) (record { fits = All-head InRange e edits all; is = is ∙ append_assoc (edit_code e) (edits_code edits) more }) (All-head IsNoBegin e edits go.goes_on) go.within.0
stops (d ∷ done) [] rest more p some all few is go lacks = omega arith
stops (d ∷ done) (e ∷ edits) rest more p some all few is go lacks =
    let same = edit_apart.same d e (edits_code done ++ rest) (edits_code edits ++ more) (All-head InRange d done some) (All-head InRange e edits all)
    (sym (append_assoc (edit_code d) (edits_code done) rest) ∙ (is ∙ append_assoc (edit_code e) (edits_code edits) more)) in
    stops done edits rest more (apply_edit d p) (All-tail InRange d done some) (All-tail InRange e edits all) (omega arith) same.1
    (record { goes_on = All-tail IsNoBegin e edits go.goes_on; within = subst (λ (x : Edit). StaysWithinLimits edits (apply_edit x p)) (sym same.0) go.within.1 }) lacks

pub next_missing : (n i : ℕ) (bytes rest : List ℕ) (old mid : Party) → i < n → AreEditsDone i bytes rest old mid → LacksEdit rest mid → LacksEdits n bytes old
next_missing n i bytes rest old mid few done lacks = record {
  none = λ edits more begins go.
      stops done.edits edits rest more old done.begins.fits.1 begins.fits.1 (omega (arith, few, done.begins.fits.0, begins.fits.0)) (sym done.begins.is ∙ begins.is) go
      (subst (λ (p : Party). LacksEdit rest p) done.after lacks);
}

-- a change

pub too_short : (text : List ℕ) (old : Party) → length text < 2 → IsNoChange text old
too_short text old few = record { none = λ edits fits is go. none_short text few edits fits is }

pub edits_missing : (text rest : List ℕ) (n : ℕ) (old : Party) → n < 2 ^ 16 → text ≡ two n ++ rest → LacksEdits n rest old → IsNoChange text old
edits_missing text rest n old small begins lacks = record {
  none = λ edits fits is go.
      let same = same_count text rest n edits small begins fits.0 is in
      lacks.none edits [] (record { fits = (sym same.0, fits.1); is = same.1 ∙ sym (append-nil (edits_code edits)) }) go;
}

-- all edits were done, and whether nothing is left
pub all_done : (goes : Bool) (text rest more : List ℕ) (n : ℕ) (old new : Party) → n < 2 ^ 16 → text ≡ two n ++ rest → AreEditsDone n rest more old new → goes ≡ nat_eq (length more) 0 → IsChangeFollowed text old new goes
all_done true text rest [] n old new small begins done empty = record {
  edits = done.edits;
  fits = (omega (arith, small, done.begins.fits.0), done.begins.fits.1);
  is = begins ∙ (ap (λ (l : List ℕ). two n ++ l) (done.begins.is ∙ append-nil (edits_code done.edits)) ∙ ap (λ (k : ℕ). two k ++ edits_code done.edits) (sym done.begins.fits.0));
  go_on = done.go_on;
  after = done.after;
}
all_done true text rest (b ∷ more) n old new small begins done empty = let none : length (b ∷ more) ≡ 0 = eqb-true (length (b ∷ more)) 0 (sym empty) in absurd (omega arith)
all_done false text rest more n old new small begins done empty = record { none = λ edits fits is go. none_longer text rest more n done.edits small begins done.begins (sym empty) edits fits is }

pub step_done : (format : Format) (bytes text : List ℕ) (old new : Party) → bytes ≡ closed format (number_of format ∷ text) → IsChangeDone text old new → IsStep format bytes old new
step_done format bytes text old new closes done = record {
  edits = done.edits;
  code = record { few = done.fits.0; in_range = done.fits.1; is = closes ∙ ap (λ (l : List ℕ). closed format (number_of format ∷ l)) done.is };
  go_on = done.go_on;
  after = done.after;
}

pub no_step : (format : Format) (bytes text : List ℕ) (old new : Party) → bytes ≡ closed format (number_of format ∷ text) → IsNoChange text old → IsStep format bytes old new → ⊥
no_step format bytes text old new closes none step =
    let one : number_of format ∷ text ≡ number_of format ∷ change_text step.edits = same_text format (number_of format ∷ text) (number_of format ∷ change_text step.edits) (sym closes ∙ step.code.is) in
    none.none step.edits (step.code.few, step.code.in_range) (cc one) step.go_on

-- which of the two it is
pub is_step : (format : Format) (bytes text : List ℕ) (old new : Party) → bytes ≡ closed format (number_of format ∷ text) → (goes : Bool) → IsChangeFollowed text old new goes → goes ≡ true → IsStep format bytes old new
is_step format bytes text old new closes true done is = step_done format bytes text old new closes done
is_step format bytes text old new closes false none is = absurd (cc is)

pub is_no_step : (format : Format) (bytes text : List ℕ) (old new : Party) → bytes ≡ closed format (number_of format ∷ text) → (goes : Bool) → IsChangeFollowed text old new goes → goes ≡ false → (p : Party) → IsStep format bytes old p → ⊥
is_no_step format bytes text old new closes true done is p step = absurd (cc is)
is_no_step format bytes text old new closes false none is p step = no_step format bytes text old p closes none step
