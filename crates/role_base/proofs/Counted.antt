-- The expected count that a refusal names is a count.
use Rattle.std.proofs.Common.{arith, ◌≡◌, ℕ, ◌+◌, ◌≤◌, max, nat_le, Bool, true, false, cond, not, ◌||◌, List, [], ◌∷◌, refl}
use Rattle.std.proofs.lemmas.Bool.{leb-true}
use Rattle.std.specs.List.{AllByRecursion}
use Rattle.x_base.specs.Count.{IsCount}
use Rattle.party_tables.specs.declared.link.LinkRec.{LinkRec}
use Rattle.party_tables.specs.Ranges.{IsNextCount}
use Rattle.party_state.specs.Verdicts.{Test, verdict_of}
use Rattle.role_base.specs.Conditions.{has_count}
use Rattle.role_base.specs.Errors.{TellsCount}

-- where each test that fails tells a count, the verdict does
pub tells_by : (ts : List Test) → AllByRecursion (λ (t : Test). t.0 ≡ false → TellsCount t.1) ts → TellsCount (verdict_of ts)
tells_by [] h = tt
tells_by (t ∷ ts) h = go t.0 refl (tells_by ts h.1)
  where
    go : (b : Bool) → t.0 ≡ b → TellsCount (verdict_of ts) → TellsCount (cond b (verdict_of ts) t.1)
    go true e rest = rest
    go false e rest = h.0 e

low_count : (n limit count : ℕ) → (not (nat_le n limit) || nat_le n count) ≡ false → n ≤ limit
low_count n limit count h = go (nat_le n limit) refl h
  where
    go : (b : Bool) → nat_le n limit ≡ b → (not b || nat_le n count) ≡ false → n ≤ limit
    go true e h = leb-true n limit e
    go false e h = absurd (cc)

-- the expected count, where one below it arrived
pub expected_is_count : (l : LinkRec) (count : ℕ) → IsNextCount l.next → (not (has_count l) || nat_le l.next count) ≡ false → IsCount l.next
expected_is_count l count i h = record { low = i.low; high = low_count l.next 99999999999999 count h }

-- a next count that is left is a count
pub left_is_count : (l : LinkRec) → IsNextCount l.next → has_count l ≡ true → IsCount l.next
left_is_count l i h = record { low = i.low; high = leb-true l.next 99999999999999 h }

-- behind a count the next one can stand
pub next_on : (n m : ℕ) → IsCount n → m ≡ n + 1 → IsNextCount m
next_on n m c e = let low = c.low in let high = c.high in record { low = omega (arith, low, e); high = omega (arith, high, e) }

-- the greater of a next count and a count is a next count
pub greater_next : (n ctr : ℕ) → IsNextCount n → IsCount ctr → IsNextCount (max n ctr)
greater_next n ctr i c = record { low = above n ctr i.low; high = below n ctr 99999999999999 i.high c.high }
  where
    above : (n ctr : ℕ) → 1 ≤ n → 1 ≤ max n ctr
    above n ctr a = omega arith

    below : (n ctr most : ℕ) → n ≤ most + 1 → ctr ≤ most → max n ctr ≤ most + 1
    below n ctr most a b = omega arith
