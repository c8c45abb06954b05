use Rattle.std.proofs.Common.{◌≡◌, true, length, refl, arith}
use Rattle.x_des.specs.Bits.{bits_of, number, pick}
use Rattle.x_des.specs.Des.{substituted}
use Rattle.x_des.specs.Tables.{s3}
use Rattle.des_slices.proofs.Gates.{Inputs, and, inputs, not, or, outputs, tables_agree, xor}
use Rattle.des_slices.proofs.boxes_1_to_4.box_3.Goals as goal

tables : tables_agree s3 0x96692d696b9c90d3 0xd96a863526f4794a 0x76b9960c39c2b749 0x4b8d9c63a965569a ≡ true
unfolding substituted bits_of number pick
tables = refl

pub returns : goal.returns
returns c =
    let six = c.args.six in
    let size : length six ≡ 6 = omega arith in
    let shown =
    outputs s3 0x96692d696b9c90d3 0xd96a863526f4794a 0x76b9960c39c2b749 0x4b8d9c63a965569a six _ _ _ _ size tables
    (λ l h.
    let i : Inputs l six = inputs l six h size c.requires in
    let g1 = and i.d i.a in
    let g2 = xor i.f i.d in
    let g3 = or g1 g2 in
    let g4 = and g2 i.a in
    let g5 = xor g4 i.d in
    let g6 = and i.e g5 in
    let g7 = xor g3 g6 in
    let g8 = and g4 (not i.d) in
    let g9 = xor g8 i.e in
    let g10 = and i.c g9 in
    let g11 = xor g7 g10 in
    let g12 = xor i.f i.c in
    let g13 = and (not g9) i.a in
    let g14 = and (not g12) g13 in
    let g15 = or i.b g14 in
    let g16 = xor g11 g15 in
    let g17 = xor g8 i.f in
    let g18 = or i.b g17 in
    let g19 = and g18 g16 in
    let g20 = and i.c i.b in
    let g21 = and g19 (not g20) in
    let g22 = or i.a g21 in
    let g23 = xor g22 i.b in
    let g24 = or g16 g5 in
    let g25 = and g23 (not g24) in
    let g26 = or i.f g25 in
    let g27 = xor g2 i.e in
    let g28 = xor g27 i.c in
    let g29 = and (not g24) i.f in
    let g30 = or i.a g29 in
    let g31 = xor g28 g30 in
    let g32 = or g26 g16 in
    let g33 = or g13 g5 in
    let g34 = and i.c g33 in
    let g35 = xor g32 g34 in
    let g36 = or i.b g35 in
    let g37 = xor g31 g36 in
    let g38 = xor g22 g18 in
    let g39 = xor g38 g12 in
    let g40 = and (not g17) i.c in
    let g41 = or g37 g30 in
    let g42 = and (not i.d) g41 in
    let g43 = xor g40 g42 in
    let g44 = and i.e (not g43) in
    let g45 = xor g39 g44 in
    let g46 = xor g23 g5 in
    let g47 = xor g39 g26 in
    let g48 = xor g46 g47 in
    let g49 = xor g39 g37 in
    let g50 = and g49 (not g2) in
    let g51 = and g48 i.a in
    let g52 = xor g51 g2 in
    let g53 = and i.c (not g52) in
    let g54 = xor g50 g53 in
    let g55 = or i.e g54 in
    let g56 = xor g48 g55 in
    (not g37, g45, not g56, g16)) in
    record { lanes = shown.0; vectors = shown.1 }
