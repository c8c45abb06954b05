use Rattle.std.proofs.Common.{◌≡◌, true, length, refl, arith}
use Rattle.x_des.specs.Bits.{bits_of, number, pick}
use Rattle.x_des.specs.Des.{substituted}
use Rattle.x_des.specs.Tables.{s8}
use Rattle.des_slices.proofs.Gates.{Inputs, and, inputs, not, or, outputs, tables_agree, xor}
use Rattle.des_slices.proofs.boxes_5_to_8.box_8.Goals as goal

tables : tables_agree s8 0xc17abd2438c716b9 0x394e96b1596aa569 0xa71658a7c8f13f0c 0x9f6281cd619c7c2b ≡ true
unfolding substituted bits_of number pick
tables = refl

pub returns : goal.returns
returns c =
    let six = c.args.six in
    let size : length six ≡ 6 = omega arith in
    let shown =
    outputs s8 0xc17abd2438c716b9 0x394e96b1596aa569 0xa71658a7c8f13f0c 0x9f6281cd619c7c2b six _ _ _ _ size tables
    (λ l h.
    let i : Inputs l six = inputs l six h size c.requires in
    let g1 = xor i.e i.b in
    let g2 = and i.d (not i.b) in
    let g3 = and i.c (not g2) in
    let g4 = xor g1 g3 in
    let g5 = or i.e i.c in
    let g6 = xor g3 i.d in
    let g7 = xor g5 g6 in
    let g8 = and i.f (not g7) in
    let g9 = xor g4 g8 in
    let g10 = xor i.f i.e in
    let g11 = and g10 g7 in
    let g12 = xor g1 i.c in
    let g13 = or g12 g7 in
    let g14 = and (not i.b) g13 in
    let g15 = xor g11 g14 in
    let g16 = and (not i.a) g15 in
    let g17 = xor g9 g16 in
    let g18 = xor g17 g15 in
    let g19 = and g6 i.b in
    let g20 = xor g17 i.a in
    let g21 = xor g19 g20 in
    let g22 = and i.e (not g21) in
    let g23 = xor g18 g22 in
    let g24 = and (not g17) g12 in
    let g25 = and (not g14) i.a in
    let g26 = or g24 g25 in
    let g27 = xor g17 g5 in
    let g28 = or g27 g19 in
    let g29 = and (not i.d) g28 in
    let g30 = xor g26 g29 in
    let g31 = and (not i.f) g30 in
    let g32 = xor g23 g31 in
    let g33 = or g14 g10 in
    let g34 = xor g33 i.a in
    let g35 = or g28 i.e in
    let g36 = and (not i.c) g35 in
    let g37 = xor g34 g36 in
    let g38 = or g33 g31 in
    let g39 = and g17 (not i.e) in
    let g40 = or g39 g16 in
    let g41 = or i.b g40 in
    let g42 = xor g38 g41 in
    let g43 = or i.d g42 in
    let g44 = xor g37 g43 in
    let g45 = or g18 g8 in
    let g46 = and g34 (not g7) in
    let g47 = xor g45 g46 in
    let g48 = and (not g37) i.a in
    let g49 = and (not g40) i.d in
    let g50 = xor g49 g47 in
    let g51 = and i.c (not g50) in
    let g52 = xor g48 g51 in
    let g53 = and (not i.b) g52 in
    let g54 = xor g47 g53 in
    (not g32, not g17, g54, not g44)) in
    record { lanes = shown.0; vectors = shown.1 }
