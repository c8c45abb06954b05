use Rattle.std.proofs.Common.{◌≡◌, true, length, refl, arith}
use Rattle.x_des.specs.Bits.{bits_of, number, pick}
use Rattle.x_des.specs.Des.{substituted}
use Rattle.x_des.specs.Tables.{s1}
use Rattle.des_slices.proofs.Gates.{Inputs, and, inputs, not, or, outputs, tables_agree, xor}
use Rattle.des_slices.proofs.boxes_1_to_4.box_1.Goals as goal

tables : tables_agree s1 0x869d497a86e67619 0xb0c7871b497826bd 0x27e9d492609f1f29 0x917be9066f81b478 ≡ true
unfolding substituted bits_of number pick
tables = refl

pub returns : goal.returns
returns c =
    let six = c.args.six in
    let size : length six ≡ 6 = omega arith in
    let shown =
    outputs s1 0x869d497a86e67619 0xb0c7871b497826bd 0x27e9d492609f1f29 0x917be9066f81b478 six _ _ _ _ size tables
    (λ l h.
    let i : Inputs l six = inputs l six h size c.requires in
    let g1 = or i.c i.a in
    let g2 = and g1 i.d in
    let g3 = xor i.d i.a in
    let g4 = and g3 (not i.c) in
    let g5 = and i.f (not g4) in
    let g6 = xor g2 g5 in
    let g7 = xor g6 i.c in
    let g8 = xor g1 i.f in
    let g9 = and g8 (not g7) in
    let g10 = or i.e g9 in
    let g11 = and g1 (not g5) in
    let g12 = xor g10 i.f in
    let g13 = and g11 (not g12) in
    let g14 = and g2 i.e in
    let g15 = xor g13 g3 in
    let g16 = or g14 g15 in
    let g17 = and i.c (not g16) in
    let g18 = xor g13 g17 in
    let g19 = and i.a (not g5) in
    let g20 = xor g15 g7 in
    let g21 = and g20 (not g19) in
    let g22 = xor i.f i.d in
    let g23 = and g22 (not g9) in
    let g24 = and g3 (not i.f) in
    let g25 = or g23 g18 in
    let g26 = xor g25 g21 in
    let g27 = xor g24 g12 in
    let g28 = or g18 i.b in
    let g29 = xor g28 g10 in
    let g30 = xor g29 g6 in
    let g31 = and i.d (not i.c) in
    let g32 = or g31 g28 in
    let g33 = and g27 (not g32) in
    let g34 = xor g30 g25 in
    let g35 = or g27 i.c in
    let g36 = xor g35 g26 in
    let g37 = xor g34 g36 in
    let g38 = and i.e g37 in
    let g39 = xor g34 g38 in
    let g40 = xor g15 g11 in
    let g41 = or g40 g9 in
    let g42 = and i.e g41 in
    let g43 = xor g26 g42 in
    let g44 = xor g39 i.c in
    let g45 = or g44 g27 in
    let g46 = and g45 (not i.b) in
    let g47 = xor g43 g46 in
    let g48 = xor g33 g21 in
    let g49 = xor g48 i.b in
    let g50 = or g47 i.b in
    let g51 = and g50 (not g23) in
    let g52 = and i.e g51 in
    let g53 = xor g49 g52 in
    let g54 = and g12 (not g40) in
    let g55 = or g54 g32 in
    let g56 = and g55 (not i.b) in
    let g57 = xor g39 g56 in
    (not g30, not g57, not g47, g53)) in
    record { lanes = shown.0; vectors = shown.1 }
