use Rattle.std.proofs.Common.{arith, refl, sym, ap, subst, ◌∙◌, ◌<◌, length, List, ℕ}
use Rattle.std.proofs.lemmas.List.{length-set}
use Rattle.std.specs.Int.{w64, to_be_bytes, from_be_bytes}
use Rattle.x_gen.specs.Parity.{odd_byte, odd_parity_of}
use Rattle.x_gen.proofs.OddLemmas.{MappedTo, mapped_more, mapped_all}
use Rattle.x_gen.proofs.parity.with_odd_parity.Goals as goal

pub loop-byte-init : goal.loop-byte-init
loop-byte-init c = subst (λ (xs : List ℕ). MappedTo odd_byte 0 xs (to_be_bytes w64 c.args.key)) (sym c.to_be_bytes-bytes.ensures) (record { size = refl; front = refl; rest = refl })

pub loop-byte-preserved : goal.loop-byte-preserved
loop-byte-preserved c =
    let xs = c.loop-byte.byte-items in
    let i = c.loop-byte.byte-index in
    let within : i < length xs = omega (arith, c.loop-byte.invariant.size) in
    let more = mapped_more odd_byte i xs (to_be_bytes w64 c.args.key) within c.loop-byte.invariant in
    record { size = length-set xs i (odd_byte _) ∙ c.loop-byte.invariant.size; front = more.0; rest = more.1 }

pub returns : goal.returns
unfolding odd_parity_of
returns c = c.from_be_bytes.ensures ∙ ap (from_be_bytes w64) (mapped_all odd_byte c.loop-byte.byte-index c.loop-byte.byte-items (to_be_bytes w64 c.args.key) (omega (arith, c.loop-byte.invariant.size)) c.loop-byte.invariant)
