-- The next of the draws that are left.
use Rattle.std.proofs.Common.{◌≡◌, ℕ, suc, true, false, cond, not, Some, None, Option, ap, ◌∙◌}
use Rattle.std.specs.List.{find}
use Rattle.x_gen.specs.declared.generator.Gen.{Gen}
use Rattle.x_gen.specs.Parity.{odd_parity_of, is_weak_key}
use Rattle.x_gen.specs.Gen.{drawn, gen_after, draws}

-- the first of n draws whose key isn't weak
abbrev pub good_of : ℕ → Gen → ℕ → Option (ℕ × Gen)
good_of n g moment = find (λ d. not (is_weak_key d.0)) (draws n g moment)

pub good_next : (n m : ℕ) (g : Gen) (moment : ℕ) → n ≡ suc m → is_weak_key (odd_parity_of (drawn g moment)) ≡ true → good_of n g moment ≡ good_of m (gen_after g moment) moment
unfolding draws
good_next n m g moment e weak =
    ap (λ k. good_of k g moment) e
    ∙ ap (λ b. cond (not b) (Some (odd_parity_of (drawn g moment), gen_after g moment)) (good_of m (gen_after g moment) moment)) weak

pub good_here : (n m : ℕ) (g : Gen) (moment : ℕ) → n ≡ suc m → is_weak_key (odd_parity_of (drawn g moment)) ≡ false → good_of n g moment ≡ Some (odd_parity_of (drawn g moment), gen_after g moment)
unfolding draws
good_here n m g moment e weak =
    ap (λ k. good_of k g moment) e
    ∙ ap (λ b. cond (not b) (Some (odd_parity_of (drawn g moment), gen_after g moment)) (good_of m (gen_after g moment) moment)) weak

pub good_none : (n : ℕ) (g : Gen) (moment : ℕ) → n ≡ 0 → good_of n g moment ≡ None
unfolding draws
good_none n g moment e = ap (λ k. good_of k g moment) e
