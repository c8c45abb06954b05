use Rattle.std.proofs.Common.{◌≡◌, true, length, refl, arith}
use Rattle.x_des.specs.Bits.{bits_of, number, pick}
use Rattle.x_des.specs.Des.{substituted}
use Rattle.x_des.specs.Tables.{s4}
use Rattle.des_slices.proofs.Gates.{Inputs, and, inputs, not, or, outputs, tables_agree, xor}
use Rattle.des_slices.proofs.boxes_1_to_4.box_4.Goals as goal

tables : tables_agree s4 0x92c3e719ed90583e 0xcb69718c74ca0e97 0xacd1168f692cce71 0x9b77c1ac34998e7 ≡ true
unfolding substituted bits_of number pick
tables = refl

pub returns : goal.returns
returns c =
    let six = c.args.six in
    let size : length six ≡ 6 = omega arith in
    let shown =
    outputs s4 0x92c3e719ed90583e 0xcb69718c74ca0e97 0xacd1168f692cce71 0x9b77c1ac34998e7 six _ _ _ _ size tables
    (λ l h.
    let i : Inputs l six = inputs l six h size c.requires in
    let g1 = xor i.d i.c in
    let g2 = xor g1 i.a in
    let g3 = or g1 i.a in
    let g4 = and g3 i.d in
    let g5 = or i.e g4 in
    let g6 = xor g2 g5 in
    let g7 = xor g4 g2 in
    let g8 = and (not g7) i.c in
    let g9 = and (not g1) i.a in
    let g10 = and (not i.e) g9 in
    let g11 = xor g8 g10 in
    let g12 = or i.b g11 in
    let g13 = xor g6 g12 in
    let g14 = and (not g9) i.e in
    let g15 = and (not g7) i.d in
    let g16 = xor g14 g15 in
    let g17 = xor g13 i.a in
    let g18 = or g17 g8 in
    let g19 = and (not i.b) g18 in
    let g20 = xor g16 g19 in
    let g21 = xor g13 g20 in
    let g22 = and g21 (not i.f) in
    let g23 = xor g22 g20 in
    let g24 = xor g23 i.f in
    let g25 = xor g23 g21 in
    let g26 = and (not g11) g3 in
    let g27 = and g16 i.b in
    let g28 = xor g26 g27 in
    let g29 = and (not g21) g18 in
    let g30 = or g29 g19 in
    let g31 = or i.e g30 in
    let g32 = xor g28 g31 in
    let g33 = xor g15 i.b in
    let g34 = and i.c (not g27) in
    let g35 = xor g33 g34 in
    let g36 = and g16 (not i.b) in
    let g37 = and i.e g36 in
    let g38 = xor g35 g37 in
    let g39 = and i.f (not g38) in
    let g40 = xor g32 g39 in
    let g41 = xor g40 g38 in
    let g42 = xor g41 i.f in
    (g40, not g42, not g24, not g25)) in
    record { lanes = shown.0; vectors = shown.1 }
