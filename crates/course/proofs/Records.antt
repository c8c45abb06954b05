-- Records of one status, counted one after another.
use Rattle.std.proofs.Common.{◌≡◌, ◌⊎◌, inl, inr, ℕ, ◌+◌, ◌<◌, ◌≤◌, Bool, true, false, cond, List, length, get_or, take, Option, Some, None, slice_get, ◌∙◌, sym, ap, arith}
use Rattle.std.specs.Option.{option_map_or}
use Rattle.std.proofs.lemmas.List.Sums.{sum_by_more}
use Rattle.std.proofs.lemmas.Option.{slice_get_cases}
use Rattle.party_tables.specs.declared.key.KeyRec.{KeyRec}
use Rattle.party_tables.specs.declared.key.KeyStatus.{KeyStatus}
use Rattle.course.specs.Tallies.{is_status, one_with, count_status}

-- one record more
pub records_more : (status : KeyStatus) (records : List KeyRec) (i one : ℕ) → i < length records → one ≡ option_map_or (one_with status) (slice_get records i) 0
    → count_status status (take (i + 1) records) ≡ count_status status (take i records) + one
records_more status records i one lt is = go (slice_get_cases records i).1
  where
    go : ((x : KeyRec) × (i < length records) × (slice_get records i ≡ Some x) × (get_or records i x ≡ x)) ⊎ ((length records ≤ i) × (slice_get records i ≡ None))
        → count_status status (take (i + 1) records) ≡ count_status status (take i records) + one
    go (inl w) =
        let there : one ≡ one_with status w.0 = is ∙ ap (λ (o : Option KeyRec). option_map_or (one_with status) o 0) w.2 in
        let more : count_status status (take (i + 1) records) ≡ count_status status (take i records) + one_with status (get_or records i w.0) = sum_by_more (one_with status) records i w.0 lt in
        more ∙ ap (λ (n : ℕ). count_status status (take i records) + n) (ap (one_with status) w.3 ∙ sym there)
    go (inr past) = absurd (omega (arith, lt, past.0))

-- none or one
pub one_at_most : (status : KeyStatus) (o : Option KeyRec) → option_map_or (one_with status) o 0 ≤ 1
one_at_most status None = omega arith
one_at_most status (Some k) = go (is_status status k.status)
  where
    go : (b : Bool) → cond b 1 0 ≤ 1
    go true = omega arith
    go false = omega arith
