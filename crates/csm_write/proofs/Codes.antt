-- A code that is made has 32 bits.
use Rattle.std.proofs.Common.{◌≡◌, ℕ, ◌-◌, ◌/◌, ◌^◌, ◌<◌, Bool, true, false, List, [], ◌∷◌, length, fold, subst, arith}
use Rattle.std.specs.Prelude.{bit_xor, slice_index_or}
use Rattle.std.proofs.Math.Nat.{pow-suc}
use Rattle.std.proofs.lemmas.List.{length-map}
use Rattle.x_des.specs.Bits.{bits_of, number, pick}
use Rattle.x_des.specs.Des.{encrypted, crypted, enciphered}
use Rattle.x_des.specs.Tables.{ip_inverse}
use Rattle.x_mac.specs.Code.{chained, blocks, filled, code_from, mac_of}

number_below : (bs : List Bool) → number bs < 2 ^ length bs
unfolding number
number_below [] = omega arith
number_below (true ∷ bs) = let h = number_below bs in rw pow-suc (omega (arith, h))
number_below (false ∷ bs) = let h = number_below bs in rw pow-suc (omega (arith, h))

picked_length : (table : List ℕ) (bs : List Bool) → length (pick table bs) ≡ length table
unfolding pick
picked_length table bs = length-map table (λ p. slice_index_or bs (p - 1) false)

encrypted_length : (key block : List Bool) → length (encrypted key block) ≡ 64
unfolding encrypted crypted
encrypted_length key block = picked_length ip_inverse _

enciphered_below : (key block : ℕ) → enciphered key block < 2 ^ 64
unfolding enciphered
enciphered_below key block =
    let bs = encrypted (bits_of 64 key) (bits_of 64 block) in
    subst (λ (n : ℕ). number bs < 2 ^ n) (encrypted_length (bits_of 64 key) (bits_of 64 block)) (number_below bs)

chain_below : (key y : ℕ) (ws : List ℕ) → y < 2 ^ 64 → fold (chained key) y ws < 2 ^ 64
chain_below key y [] h = h
chain_below key y (w ∷ ws) h = chain_below key (chained key y w) ws (enciphered_below key (bit_xor y w))

code_below : (key : ℕ) (t : List ℕ) → code_from key 0 t < 2 ^ 64
unfolding code_from
code_below key t = chain_below key 0 (blocks (length (filled t) / 8) (filled t)) (omega arith)

halved : (n : ℕ) → n < 2 ^ 64 → n / 2 ^ 32 < 2 ^ 32
halved n h = omega arith

pub mac_below : (key : ℕ) (t : List ℕ) → mac_of key t < 2 ^ 32
mac_below key t = halved (code_from key 0 t) (code_below key t)
