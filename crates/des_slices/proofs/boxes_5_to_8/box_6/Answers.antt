use Rattle.std.proofs.Common.{◌≡◌, true, length, refl, arith}
use Rattle.x_des.specs.Bits.{bits_of, number, pick}
use Rattle.x_des.specs.Des.{substituted}
use Rattle.x_des.specs.Tables.{s6}
use Rattle.des_slices.proofs.Gates.{Inputs, and, inputs, not, or, outputs, tables_agree, xor}
use Rattle.des_slices.proofs.boxes_5_to_8.box_6.Goals as goal

tables : tables_agree s6 0xb44ab695c9a4695b 0xc69938d615e69a69 0x52cbe13c6d9216da 0x95a36a597c3ca34c ≡ true
unfolding substituted bits_of number pick
tables = refl

pub returns : goal.returns
returns c =
    let six = c.args.six in
    let size : length six ≡ 6 = omega arith in
    let shown =
    outputs s6 0xb44ab695c9a4695b 0xc69938d615e69a69 0x52cbe13c6d9216da 0x95a36a597c3ca34c six _ _ _ _ size tables
    (λ l h.
    let i : Inputs l six = inputs l six h size c.requires in
    let g1 = xor i.f i.a in
    let g2 = xor i.b i.a in
    let g3 = and g1 (not g2) in
    let g4 = or i.f i.a in
    let g5 = and g4 (not g2) in
    let g6 = xor g3 g5 in
    let g7 = and i.c (not g6) in
    let g8 = xor g3 g7 in
    let g9 = and i.c (not i.f) in
    let g10 = and g2 g1 in
    let g11 = and g10 (not g9) in
    let g12 = or i.e g11 in
    let g13 = xor g8 g12 in
    let g14 = xor g1 i.b in
    let g15 = and g10 i.a in
    let g16 = and i.c (not g15) in
    let g17 = xor g14 g16 in
    let g18 = and g16 i.a in
    let g19 = and i.c (not g18) in
    let g20 = and i.e (not g19) in
    let g21 = xor g17 g20 in
    let g22 = xor g13 g21 in
    let g23 = and i.e (not i.c) in
    let g24 = or g23 g6 in
    let g25 = and i.a (not g24) in
    let g26 = or g21 g9 in
    let g27 = xor g25 i.e in
    let g28 = xor g26 g27 in
    let g29 = and g12 (not i.d) in
    let g30 = xor g29 g22 in
    let g31 = xor i.e i.a in
    let g32 = and g28 i.d in
    let g33 = xor g31 g32 in
    let g34 = xor g30 g33 in
    let g35 = and g34 (not i.f) in
    let g36 = and g4 i.e in
    let g37 = xor g28 g8 in
    let g38 = xor g37 i.f in
    let g39 = or g36 g28 in
    let g40 = and i.b g39 in
    let g41 = xor g38 g40 in
    let g42 = and g27 (not g10) in
    let g43 = and g42 g14 in
    let g44 = and i.d (not g43) in
    let g45 = xor g41 g44 in
    let g46 = xor g35 g30 in
    let g47 = xor g36 i.b in
    let g48 = and i.c (not g47) in
    let g49 = xor g46 g48 in
    let g50 = or g22 i.d in
    let g51 = xor g50 g13 in
    let g52 = or i.e i.c in
    let g53 = or g17 g10 in
    let g54 = and g53 (not g20) in
    let g55 = and i.f g54 in
    let g56 = xor g52 g55 in
    let g57 = and g56 (not i.d) in
    let g58 = xor g28 g57 in
    (not g58, not g51, g45, g49)) in
    record { lanes = shown.0; vectors = shown.1 }
