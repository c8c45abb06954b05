-- The key generator (ANSI X9.17, the generation of keys): with EDE under the generator's pair,
-- I = EDE(moment), R = EDE(I xor V), and the new V is EDE(R xor I).
use Rattle.std.specs.Prelude.{ℕ, zero, suc, bit_xor, not, List, [], ◌∷◌, Option}
use Rattle.std.specs.List.{find}
use Rattle.x_mac.specs.Pair.{ede_of}
use Rattle.x_gen.specs.Parity.{odd_parity_of, is_weak_key}
use Rattle.x_gen.specs.declared.generator.Gen.{Gen}

-- R of a draw at a moment
abbrev pub drawn : Gen → ℕ → ℕ
drawn g moment = ede_of g.key (bit_xor (ede_of g.key moment) g.v)

-- the generator after it
abbrev pub gen_after : Gen → ℕ → Gen
gen_after g moment = record { key = g.key; v = ede_of g.key (bit_xor (drawn g moment) (ede_of g.key moment)) }

-- n successive draws at one moment (this project's profile): each key, with the generator after it
unfoldable pub draws : ℕ → Gen → ℕ → List (ℕ × Gen)
draws zero g moment = []
draws (suc n) g moment = (odd_parity_of (drawn g moment), gen_after g moment) ∷ draws n (gen_after g moment) moment

-- the first of sixteen draws whose key isn't weak (this project's profile)
abbrev pub good_draw : Gen → ℕ → Option (ℕ × Gen)
good_draw g moment = find (λ d. not (is_weak_key d.0)) (draws 16 g moment)
