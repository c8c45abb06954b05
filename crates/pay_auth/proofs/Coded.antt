-- The entries of a body, written and read.
use Rattle.std.proofs.Common.{◌≡◌, ℕ, zero, suc, ◌+◌, ◌<◌, ◌^◌, nat_eq, true, false, List, [], ◌∷◌, ◌++◌, length, take, Some, refl, sym, ap, ◌∙◌, subst, arith, append_assoc, append-nil, add-one, length-append}
use Rattle.std.specs.Prelude.{slice_get}
use Rattle.std.proofs.lemmas.Bool.{eqb-true}
use Rattle.std.proofs.lemmas.List.Concat.{flat_map-append}
use Rattle.std.proofs.lemmas.List.Elements.{All-push}
use Rattle.change_code.specs.Code.{two}
use Rattle.change_code.specs.Reading.{Lacks, StartsWith}
use Rattle.change_code.proofs.Numbers.{two_apart, two_long}
use Rattle.pay_auth.specs.declared.entry.Entry.{Entry}
use Rattle.pay_auth.specs.Entries.{IsEntry}
use Rattle.pay_auth.specs.Bodies.{entry_code, entries_code, IsLedgerBody}
use Rattle.pay_auth.specs.Forms.{entry_form, entries_form}
use Rattle.pay_auth.specs.EntryLaws.{next_entry, same_entries}

-- the code of one entry more
one_more : (entries : List Entry) (i : ℕ) (entry : Entry) → slice_get entries i ≡ Some entry → entries_code (take (suc i) entries) ≡ entries_code (take i entries) ++ entry_code entry
one_more [] i entry is = absurd (cc is)
one_more (e ∷ entries) zero entry is = let same : e ≡ entry = cc is in append-nil (entry_code e) ∙ ap entry_code same
one_more (e ∷ entries) (suc i) entry is = ap (λ (l : List ℕ). entry_code e ++ l) (one_more entries i entry is) ∙ sym (append_assoc (entry_code e) (entries_code (take i entries)) (entry_code entry))

pub put_one : (out new front : List ℕ) (entries : List Entry) (i : ℕ) (entry : Entry) → slice_get entries i ≡ Some entry → new ≡ out ++ entry_code entry
    → out ≡ front ++ entries_code (take i entries) → new ≡ front ++ entries_code (take (i + 1) entries)
put_one out new front entries i entry at is was =
    rw add-one
    (is ∙ (ap (λ (l : List ℕ). l ++ entry_code entry) was ∙ (append_assoc front (entries_code (take i entries)) (entry_code entry) ∙ ap (λ (l : List ℕ). front ++ l) (sym (one_more entries i entry at)))))

-- an entry is missing
pub lacks_entry : (n i : ℕ) (old rest : List ℕ) (done : List Entry) → i < n → StartsWith (entries_form i) old rest done → Lacks entry_form rest → Lacks (entries_form n) old
lacks_entry n i old rest done few begins lacks = record {
  none = λ entries more fits is.
      let next = next_entry done entries rest more begins.fits.1 fits.1 (omega (arith, begins.fits.0, fits.0)) (sym begins.is ∙ is) in
      lacks.none next.0 next.1 next.2 next.3;
}

pushed : (done : List Entry) (entry : Entry) → entries_code (done ++ entry ∷ []) ≡ entries_code done ++ entry_code entry
pushed done entry = flat_map-append entry_code done (entry ∷ []) ∙ ap (λ (l : List ℕ). entries_code done ++ l) (append-nil (entry_code entry))

-- an entry is there
pub begins_entry : (i : ℕ) (old rest more : List ℕ) (done : List Entry) (entry : Entry) → StartsWith (entries_form i) old rest done → StartsWith entry_form rest more entry → StartsWith (entries_form (i + 1)) old more (done ++ entry ∷ [])
begins_entry i old rest more done entry before begins = record {
  fits = (omega (arith, before.fits.0, length-append done (entry ∷ [])), All-push IsEntry done entry before.fits.1 begins.fits);
  is = before.is ∙ (ap (λ (l : List ℕ). entries_code done ++ l) begins.is ∙ (sym (append_assoc (entries_code done) (entry_code entry) more) ∙ ap (λ (l : List ℕ). l ++ more) (sym (pushed done entry))));
}

abbrev pub IsNone : List ℕ → Type 0
IsNone bytes = (entries : List Entry) → IsLedgerBody bytes entries → ⊥

behind : (bytes body : List ℕ) (entries : List Entry) → body ≡ 76 ∷ bytes → IsLedgerBody body entries → bytes ≡ two (length entries) ++ entries_code entries
behind bytes body entries is code = let all : 76 ∷ bytes ≡ 76 ∷ (two (length entries) ++ entries_code entries) = sym is ∙ code.is in cc all

pub none_short : (body bytes : List ℕ) → body ≡ 76 ∷ bytes → length bytes < 2 → IsNone body
none_short body bytes is few entries code =
    omega (arith, few, ap length (behind bytes body entries is code), length-append (two (length entries)) (entries_code entries), two_long (length entries))

same_count : (body bytes rest : List ℕ) (n : ℕ) (entries : List Entry) → body ≡ 76 ∷ bytes → n < 2 ^ 16 → bytes ≡ two n ++ rest → IsLedgerBody body entries → (n ≡ length entries) × (rest ≡ entries_code entries)
same_count body bytes rest n entries front small is code = two_apart n (length entries) rest (entries_code entries) small (omega (arith, code.few)) (sym is ∙ behind bytes body entries front code)

pub none_lacking : (body bytes rest : List ℕ) (n : ℕ) → body ≡ 76 ∷ bytes → n < 2 ^ 16 → bytes ≡ two n ++ rest → Lacks (entries_form n) rest → IsNone body
none_lacking body bytes rest n front small is lacks entries code =
    let same = same_count body bytes rest n entries front small is code in
    lacks.none entries [] (sym same.0, code.in_range) (same.1 ∙ sym (append-nil (entries_code entries)))

pub none_longer : (body bytes rest more : List ℕ) (n : ℕ) (done : List Entry) → body ≡ 76 ∷ bytes → n < 2 ^ 16 → bytes ≡ two n ++ rest → StartsWith (entries_form n) rest more done → nat_eq (length more) 0 ≡ false → IsNone body
none_longer body bytes rest more n done front small is begins some entries code =
    let same = same_count body bytes rest n entries front small is code in
    let both = same_entries done entries more [] begins.fits.1 code.in_range (begins.fits.0 ∙ same.0) (sym begins.is ∙ (same.1 ∙ sym (append-nil (entries_code entries)))) in
    let never : true ≡ false = subst (λ (k : ℕ). nat_eq k 0 ≡ false) (ap length both.1) some in
    cc never

pub some_body : (body bytes rest more : List ℕ) (n : ℕ) (done : List Entry) → body ≡ 76 ∷ bytes → n < 2 ^ 16 → bytes ≡ two n ++ rest → StartsWith (entries_form n) rest more done → nat_eq (length more) 0 ≡ true → IsLedgerBody body done
some_body body bytes rest more n done front small is begins none = record {
  few = omega (arith, small, begins.fits.0);
  in_range = begins.fits.1;
  is = front ∙ ap (λ (l : List ℕ). 76 ∷ l) (is ∙ (ap (λ (k : ℕ). two k ++ rest) (sym begins.fits.0) ∙ ap (λ (l : List ℕ). two (length done) ++ l) (begins.is ∙ (ap (λ (l : List ℕ). entries_code done ++ l) (nothing more none) ∙ append-nil (entries_code done)))));
}
  where
    nothing : (l : List ℕ) → nat_eq (length l) 0 ≡ true → l ≡ []
    nothing [] is = refl
    nothing (x ∷ l) is = absurd (omega (arith, eqb-true (length (x ∷ l)) 0 is))
