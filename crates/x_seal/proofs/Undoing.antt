-- Unwrapping and unsealing undo wrapping and sealing, and each gives 64 bits.
use Rattle.std.proofs.Common.{◌≡◌, ℕ, ◌^◌, ◌<◌, List}
use Rattle.x_base.specs.Ident.{expanded}
use Rattle.x_des.proofs.Inverse.{enciphered-lt, deciphered-lt}
use Rattle.x_mac.specs.declared.pair.Pair.{Pair}
use Rattle.x_mac.proofs.PairLemmas.{ded-ede, ede-ded}
use Rattle.x_seal.specs.Offset.{offset_of, notary_of}
use Rattle.x_seal.specs.Wrapped.{wrap_of, unwrap_of, seal_of, unseal_of}

pub unwraps : (kk : Pair) (count key : ℕ) → key < 2 ^ 64 → unwrap_of kk count (wrap_of kk count key) ≡ key
unfolding wrap_of unwrap_of
unwraps kk count key h = ded-ede (offset_of kk count) key h

pub wraps_again : (kk : Pair) (count sealed : ℕ) → sealed < 2 ^ 64 → wrap_of kk count (unwrap_of kk count sealed) ≡ sealed
unfolding wrap_of unwrap_of
wraps_again kk count sealed h = ede-ded (offset_of kk count) sealed h

pub unseals : (kk : Pair) (from to : List ℕ) (count key : ℕ) → key < 2 ^ 64 → unseal_of kk from to count (seal_of kk from to count key) ≡ key
unfolding seal_of unseal_of
unseals kk from to count key h = ded-ede (notary_of kk (expanded from) (expanded to) count) key h

pub seals_again : (kk : Pair) (from to : List ℕ) (count sealed : ℕ) → sealed < 2 ^ 64 → seal_of kk from to count (unseal_of kk from to count sealed) ≡ sealed
unfolding seal_of unseal_of
seals_again kk from to count sealed h = ede-ded (notary_of kk (expanded from) (expanded to) count) sealed h

pub wrapped_below : (kk : Pair) (count key : ℕ) → wrap_of kk count key < 2 ^ 64
unfolding wrap_of
wrapped_below kk count key = enciphered-lt _ _

pub unwrapped_below : (kk : Pair) (count sealed : ℕ) → unwrap_of kk count sealed < 2 ^ 64
unfolding unwrap_of
unwrapped_below kk count sealed = deciphered-lt _ _

pub sealed_below : (kk : Pair) (from to : List ℕ) (count key : ℕ) → seal_of kk from to count key < 2 ^ 64
unfolding seal_of
sealed_below kk from to count key = enciphered-lt _ _

pub unsealed_below : (kk : Pair) (from to : List ℕ) (count sealed : ℕ) → unseal_of kk from to count sealed < 2 ^ 64
unfolding unseal_of
unsealed_below kk from to count sealed = deciphered-lt _ _
