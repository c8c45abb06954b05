-- A body has one list of entries (this project's profile).
use Rattle.std.proofs.Common.{◌≡◌, ℕ, zero, suc, ◌<◌, List, [], ◌∷◌, ◌++◌, length, take, Some, refl, sym, ap, ◌∙◌, arith, append_assoc, append-nil}
use Rattle.std.specs.List.{All}
use Rattle.std.specs.Prelude.{slice_get}
use Rattle.std.proofs.lemmas.List.Elements.{All-head, All-tail}
use Rattle.change_code.specs.Code.{two}
use Rattle.change_code.specs.Reading.{ident_form, name_form, side_form, count_form}
use Rattle.change_code.proofs.Joining.{Apart, Shape, both, apart_both, apart_as}
use Rattle.change_code.proofs.Numbers.{two_apart, count_apart}
use Rattle.change_code.proofs.Names.{ident_apart, name_apart}
use Rattle.change_code.proofs.RowForms.{side_apart}
use Rattle.pay_auth.specs.declared.entry.Entry.{Entry}
use Rattle.pay_auth.specs.Entries.{IsEntry, put_entries}
use Rattle.pay_auth.specs.Bodies.{entry_code, entries_code, IsLedgerBody, PutsBody}
use Rattle.pay_auth.specs.Forms.{entry_form}

pub entry_shape : Shape entry_form (both ident_form (both name_form (both side_form count_form)))
unfolding both
entry_shape = record {
  parts = λ e. (e.peer, (e.name, (e.side, e.last)));
  whole = λ p. record { peer = p.0; name = p.1.0; side = p.1.1.0; last = p.1.1.1 };
  back = λ e. refl;
  code = λ e. refl;
  fits = λ e is. (is.peer, (is.name, (tt, is.last)));
}

pub entry_apart : Apart entry_form
entry_apart = apart_as entry_form _ entry_shape
    (apart_both ident_form (both name_form (both side_form count_form)) ident_apart
    (apart_both name_form (both side_form count_form) name_apart
    (apart_both side_form count_form side_apart count_apart)))

abbrev pub AreEntries : List Entry → Type 0
AreEntries entries = All IsEntry entries

-- the code of one entry more
pub one_more : (entries : List Entry) (i : ℕ) (entry : Entry) → slice_get entries i ≡ Some entry → entries_code (take (suc i) entries) ≡ entries_code (take i entries) ++ entry_code entry
one_more [] i entry is = absurd (cc is)
one_more (e ∷ entries) zero entry is = let same : e ≡ entry = cc is in append-nil (entry_code e) ∙ ap entry_code same
one_more (e ∷ entries) (suc i) entry is = ap (λ (l : List ℕ). entry_code e ++ l) (one_more entries i entry is) ∙ sym (append_assoc (entry_code e) (entries_code (take i entries)) (entry_code entry))

-- behind fewer entries than there are another one stands
pub next_entry : (done entries : List Entry) (rest more : List ℕ) → AreEntries done → AreEntries entries → length done < length entries → entries_code done ++ rest ≡ entries_code entries ++ more
    → (entry : Entry) × (after : List ℕ) × IsEntry entry × (rest ≡ entry_code entry ++ after)
next_entry [] [] rest more some all few is = absurd (omega arith)
next_entry [] (e ∷ entries) rest more some all few is = (e, entries_code entries ++ more, All-head IsEntry e entries all, is ∙ append_assoc (entry_code e) (entries_code entries) more)
next_entry (d ∷ done) [] rest more some all few is = absurd (omega arith)
next_entry (d ∷ done) (e ∷ entries) rest more some all few is =
    let same = entry_apart.same d e (entries_code done ++ rest) (entries_code entries ++ more) (All-head IsEntry d done some) (All-head IsEntry e entries all)
    (sym (append_assoc (entry_code d) (entries_code done) rest) ∙ (is ∙ append_assoc (entry_code e) (entries_code entries) more)) in
    next_entry done entries rest more (All-tail IsEntry d done some) (All-tail IsEntry e entries all) (omega arith) same.1

-- equally many entries with one code are the same
pub same_entries : (done entries : List Entry) (rest more : List ℕ) → AreEntries done → AreEntries entries → length done ≡ length entries → entries_code done ++ rest ≡ entries_code entries ++ more
    → (done ≡ entries) × (rest ≡ more)
same_entries [] [] rest more some all count is = (refl, is)
same_entries [] (e ∷ entries) rest more some all count is = absurd (omega arith)
same_entries (d ∷ done) [] rest more some all count is = absurd (omega arith)
same_entries (d ∷ done) (e ∷ entries) rest more some all count is =
    let same = entry_apart.same d e (entries_code done ++ rest) (entries_code entries ++ more) (All-head IsEntry d done some) (All-head IsEntry e entries all)
    (sym (append_assoc (entry_code d) (entries_code done) rest) ∙ (is ∙ append_assoc (entry_code e) (entries_code entries) more)) in
    let others = same_entries done entries rest more (All-tail IsEntry d done some) (All-tail IsEntry e entries all) (omega arith) same.1 in
    (ap (λ (x : Entry). x ∷ done) same.0 ∙ ap (λ (l : List Entry). e ∷ l) others.0, others.1)

-- a body has one list of entries
pub one_list : (bytes : List ℕ) (a b : List Entry) → IsLedgerBody bytes a → IsLedgerBody bytes b → a ≡ b
one_list bytes a b one other =
    let tails : two (length a) ++ entries_code a ≡ two (length b) ++ entries_code b = cc (sym one.is ∙ other.is) in
    let counts = two_apart (length a) (length b) (entries_code a) (entries_code b) (omega (arith, one.few)) (omega (arith, other.few)) tails in
    let ends : entries_code a ++ [] ≡ entries_code b ++ [] = append-nil (entries_code a) ∙ (counts.1 ∙ sym (append-nil (entries_code b))) in
    (same_entries a b [] [] one.in_range other.in_range counts.0 ends).0

-- and leads to one list
pub one_body : (body : List ℕ) (old a b : List Entry) → PutsBody body old a → PutsBody body old b → a ≡ b
one_body body old a b first second =
    first.after ∙ (ap (λ (es : List Entry). put_entries es old) (one_list body first.entries second.entries first.body second.body) ∙ sym second.after)
