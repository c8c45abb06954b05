-- Keys under key-encrypting keys (ANSI X9.17 / ISO 8732): by two-key encryption, under the pair that is
-- offset with a count, or notarized for two identities and a count.
use Rattle.std.specs.Prelude.{ℕ, List}
use Rattle.x_base.specs.Ident.{expanded}
use Rattle.x_mac.specs.Pair.{ede_of, ded_of}
use Rattle.x_mac.specs.declared.pair.Pair.{Pair}
use Rattle.x_seal.specs.Offset.{offset_of, notary_of}

-- a key under a key-encrypting key at a count
unfoldable pub wrap_of : Pair → ℕ → ℕ → ℕ
wrap_of kk count key = ede_of (offset_of kk count) key

unfoldable pub unwrap_of : Pair → ℕ → ℕ → ℕ
unwrap_of kk count sealed = ded_of (offset_of kk count) sealed

-- a pair of keys, each half by itself
abbrev pub wrap_pair_of : Pair → ℕ → Pair → Pair
wrap_pair_of kk count new = record { left = wrap_of kk count new.left; right = wrap_of kk count new.right }

abbrev pub unwrap_pair_of : Pair → ℕ → Pair → Pair
unwrap_pair_of kk count sealed = record { left = unwrap_of kk count sealed.left; right = unwrap_of kk count sealed.right }

-- a key under a key-encrypting key, from one identity to another, at a count
unfoldable pub seal_of : Pair → List ℕ → List ℕ → ℕ → ℕ → ℕ
seal_of kk from to count key = ede_of (notary_of kk (expanded from) (expanded to) count) key

unfoldable pub unseal_of : Pair → List ℕ → List ℕ → ℕ → ℕ → ℕ
unseal_of kk from to count sealed = ded_of (notary_of kk (expanded from) (expanded to) count) sealed
