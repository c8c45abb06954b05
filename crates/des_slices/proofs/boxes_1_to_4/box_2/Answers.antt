use Rattle.std.proofs.Common.{◌≡◌, true, length, refl, arith}
use Rattle.x_des.specs.Bits.{bits_of, number, pick}
use Rattle.x_des.specs.Des.{substituted}
use Rattle.x_des.specs.Tables.{s2}
use Rattle.des_slices.proofs.Gates.{Inputs, and, inputs, not, or, outputs, tables_agree, xor}
use Rattle.des_slices.proofs.boxes_1_to_4.box_2.Goals as goal

tables : tables_agree s2 0xe196196e69c3a659 0x68f93c169346c3e9 0x746a8b7462949fc3 0xcd235ad2b865168f ≡ true
unfolding substituted bits_of number pick
tables = refl

pub returns : goal.returns
returns c =
    let six = c.args.six in
    let size : length six ≡ 6 = omega arith in
    let shown =
    outputs s2 0xe196196e69c3a659 0x68f93c169346c3e9 0x746a8b7462949fc3 0xcd235ad2b865168f six _ _ _ _ size tables
    (λ l h.
    let i : Inputs l six = inputs l six h size c.requires in
    let g1 = or i.e i.a in
    let g2 = xor i.b i.a in
    let g3 = and g1 (not g2) in
    let g4 = xor g3 i.e in
    let g5 = and i.b (not g4) in
    let g6 = and i.f (not g5) in
    let g7 = xor i.f i.a in
    let g8 = or g5 i.f in
    let g9 = and i.e g8 in
    let g10 = or g9 i.f in
    let g11 = and i.b (not g10) in
    let g12 = and i.f i.e in
    let g13 = xor g7 i.e in
    let g14 = xor g12 i.b in
    let g15 = xor g13 i.d in
    let g16 = and g15 (not g6) in
    let g17 = and g16 (not i.a) in
    let g18 = xor g17 g14 in
    let g19 = or g9 g7 in
    let g20 = or g11 g7 in
    let g21 = xor g20 g19 in
    let g22 = xor g19 g4 in
    let g23 = or g18 i.b in
    let g24 = and g23 (not i.d) in
    let g25 = xor g22 g24 in
    let g26 = or i.c g21 in
    let g27 = xor g25 g26 in
    let g28 = and g13 g2 in
    let g29 = xor g6 g3 in
    let g30 = or g29 g7 in
    let g31 = and g30 (not g9) in
    let g32 = or i.c g31 in
    let g33 = xor g29 g32 in
    let g34 = xor g28 g10 in
    let g35 = and g34 g23 in
    let g36 = and i.d (not g35) in
    let g37 = xor g33 g36 in
    let g38 = or g15 g11 in
    let g39 = xor g38 g8 in
    let g40 = xor g10 i.b in
    let g41 = and g12 i.d in
    let g42 = xor g40 g41 in
    let g43 = and g42 (not i.c) in
    let g44 = xor g39 g43 in
    let g45 = or i.e i.d in
    let g46 = xor g45 g18 in
    let g47 = and g1 (not g25) in
    let g48 = or g28 g17 in
    let g49 = or g47 g48 in
    let g50 = and g49 (not i.c) in
    let g51 = xor g46 g50 in
    (not g27, not g44, not g51, not g37)) in
    record { lanes = shown.0; vectors = shown.1 }
