-- What comes behind the last line.
use Rattle.std.proofs.Common.{◌≡◌, ℕ, zero, suc, ◌+◌, List, [], ◌∷◌, ◌++◌, take, Some, slice_get, refl, sym, ◌∙◌, ap, append_assoc, arith}
use Rattle.std.proofs.lemmas.List.{append-nil}
use Rattle.std.proofs.lemmas.List.Sums.{sum_by-append}
use Rattle.party_show.specs.Show.{shown}
use Rattle.party_tables.specs.declared.key.KeyStatus.{KeyStatus}
use Rattle.member.specs.Member.{Member}
use Rattle.course.specs.Tallies.{records_of, count_status, one_with}
use Rattle.course.specs.Transcript.{show_lines}

-- a list up to one more of its elements
pub take_one : {A : Type 0} (xs : List A) (i : ℕ) (x : A) → slice_get xs i ≡ Some x → take (i + 1) xs ≡ take i xs ++ x ∷ []
take_one [] i x is = absurd (cc is)
take_one (y ∷ xs) zero x is = let same : y ≡ x = cc is in ap (λ (z : _). z ∷ []) same
take_one (y ∷ xs) (suc i) x is = (let more : suc i + 1 ≡ suc (i + 1) = omega arith in ap (λ (n : ℕ). take n (y ∷ xs)) more) ∙ ap (λ (l : List _). y ∷ l) (take_one xs i x is)

shows_append : (xs ys : List Member) → show_lines (xs ++ ys) ≡ show_lines xs ++ show_lines ys
shows_append [] ys = refl
shows_append (x ∷ xs) ys = ap (λ (l : List ℕ). shown x.party ++ l) (shows_append xs ys) ∙ sym (append_assoc (shown x.party) (show_lines xs) (show_lines ys))

pub shows_more : (ms : List Member) (i : ℕ) (x : Member) (made : List ℕ) → slice_get ms i ≡ Some x → (made ++ show_lines (take i ms)) ++ shown x.party ≡ made ++ show_lines (take (i + 1) ms)
shows_more ms i x made is =
    append_assoc made (show_lines (take i ms)) (shown x.party)
    ∙ ap (λ (l : List ℕ). made ++ l) (sym (ap show_lines (take_one ms i x is) ∙ (shows_append (take i ms) (x ∷ []) ∙ ap (λ (l : List ℕ). show_lines (take i ms) ++ l) (append-nil (shown x.party)))))

records_append : (xs ys : List Member) → records_of (xs ++ ys) ≡ records_of xs ++ records_of ys
records_append [] ys = refl
records_append (x ∷ xs) ys = ap (λ (l : List _). x.party.keys ++ l) (records_append xs ys) ∙ sym (append_assoc x.party.keys (records_of xs) (records_of ys))

pub keys_more : (status : KeyStatus) (ms : List Member) (i : ℕ) (x : Member) → slice_get ms i ≡ Some x → count_status status (records_of (take (i + 1) ms)) ≡ count_status status (records_of (take i ms)) + count_status status x.party.keys
keys_more status ms i x is =
    ap (λ (l : List Member). count_status status (records_of l)) (take_one ms i x is)
    ∙ (ap (count_status status) (records_append (take i ms) (x ∷ []) ∙ ap (λ (l : List _). records_of (take i ms) ++ l) (append-nil x.party.keys))
    ∙ sum_by-append (one_with status) (records_of (take i ms)) x.party.keys)
