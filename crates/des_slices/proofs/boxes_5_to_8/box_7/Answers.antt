use Rattle.std.proofs.Common.{◌≡◌, true, length, refl, arith}
use Rattle.x_des.specs.Bits.{bits_of, number, pick}
use Rattle.x_des.specs.Des.{substituted}
use Rattle.x_des.specs.Tables.{s7}
use Rattle.des_slices.proofs.Gates.{Inputs, and, inputs, not, or, outputs, tables_agree, xor}
use Rattle.des_slices.proofs.boxes_5_to_8.box_7.Goals as goal

tables : tables_agree s7 0x92c761f82c96d966 0x869cd96699e643c3 0x6a95f41a9e4b81f4 0x348e9679497969a6 ≡ true
unfolding substituted bits_of number pick
tables = refl

pub returns : goal.returns
returns c =
    let six = c.args.six in
    let size : length six ≡ 6 = omega arith in
    let shown =
    outputs s7 0x92c761f82c96d966 0x869cd96699e643c3 0x6a95f41a9e4b81f4 0x348e9679497969a6 six _ _ _ _ size tables
    (λ l h.
    let i : Inputs l six = inputs l six h size c.requires in
    let g1 = or i.c i.b in
    let g2 = xor i.d i.a in
    let g3 = xor g1 g2 in
    let g4 = and i.b i.a in
    let g5 = xor g2 i.c in
    let g6 = and g4 g5 in
    let g7 = and i.f (not g6) in
    let g8 = xor g3 g7 in
    let g9 = and i.d (not i.c) in
    let g10 = and i.d i.b in
    let g11 = and i.f g10 in
    let g12 = xor g9 g11 in
    let g13 = xor g9 i.b in
    let g14 = and i.f g13 in
    let g15 = and i.a g14 in
    let g16 = xor g12 g15 in
    let g17 = or i.e g16 in
    let g18 = xor g8 g17 in
    let g19 = and (not g18) g16 in
    let g20 = xor g1 i.e in
    let g21 = xor g19 g20 in
    let g22 = xor g18 i.c in
    let g23 = xor i.c i.b in
    let g24 = xor g22 g23 in
    let g25 = and (not i.d) g24 in
    let g26 = xor g22 g25 in
    let g27 = and (not i.a) g26 in
    let g28 = xor g10 g5 in
    let g29 = or g26 g9 in
    let g30 = xor g28 g29 in
    let g31 = and g30 (not i.f) in
    let g32 = xor g31 g27 in
    let g33 = xor g32 g21 in
    let g34 = xor g28 g27 in
    let g35 = and g28 (not g4) in
    let g36 = xor g35 i.d in
    let g37 = and (not g34) g30 in
    let g38 = or i.e g37 in
    let g39 = xor g36 g38 in
    let g40 = and g24 i.a in
    let g41 = xor g26 g6 in
    let g42 = and i.c (not g41) in
    let g43 = xor g40 g42 in
    let g44 = or i.f g43 in
    let g45 = xor g39 g44 in
    let g46 = and g20 g10 in
    let g47 = xor g34 g16 in
    let g48 = xor g46 g47 in
    let g49 = xor g45 g20 in
    let g50 = xor g42 g18 in
    let g51 = or i.d g50 in
    let g52 = xor g49 g51 in
    let g53 = and (not i.f) g52 in
    let g54 = xor g48 g53 in
    (g45, not g33, g54, g18)) in
    record { lanes = shown.0; vectors = shown.1 }
