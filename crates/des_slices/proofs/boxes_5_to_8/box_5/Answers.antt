use Rattle.std.proofs.Common.{◌≡◌, true, length, refl, arith}
use Rattle.x_des.specs.Bits.{bits_of, number, pick}
use Rattle.x_des.specs.Des.{substituted}
use Rattle.x_des.specs.Tables.{s5}
use Rattle.des_slices.proofs.Gates.{Inputs, and, inputs, not, or, outputs, tables_agree, xor}
use Rattle.des_slices.proofs.boxes_5_to_8.box_5.Goals as goal

tables : tables_agree s5 0x429dcd6a79e1348e 0x695b9ca191666b96 0xc70b39c692f05d2b 0xa4cd96d24b76b948 ≡ true
unfolding substituted bits_of number pick
tables = refl

pub returns : goal.returns
returns c =
    let six = c.args.six in
    let size : length six ≡ 6 = omega arith in
    let shown =
    outputs s5 0x429dcd6a79e1348e 0x695b9ca191666b96 0xc70b39c692f05d2b 0xa4cd96d24b76b948 six _ _ _ _ size tables
    (λ l h.
    let i : Inputs l six = inputs l six h size c.requires in
    let g1 = xor i.f i.a in
    let g2 = xor i.c i.b in
    let g3 = xor g1 g2 in
    let g4 = and i.a (not i.c) in
    let g5 = and i.e (not g4) in
    let g6 = xor g3 g5 in
    let g7 = and i.f i.c in
    let g8 = or g7 i.a in
    let g9 = and g8 (not g3) in
    let g10 = or i.b g9 in
    let g11 = xor g8 g10 in
    let g12 = xor i.c i.a in
    let g13 = and g12 g1 in
    let g14 = and g13 (not i.e) in
    let g15 = xor g11 g14 in
    let g16 = or i.d g15 in
    let g17 = xor g6 g16 in
    let g18 = xor g12 i.d in
    let g19 = or g17 g1 in
    let g20 = xor g18 g19 in
    let g21 = or g13 i.d in
    let g22 = and g18 (not i.c) in
    let g23 = xor g21 g22 in
    let g24 = and g23 (not i.e) in
    let g25 = xor g20 g24 in
    let g26 = or g24 i.d in
    let g27 = or g9 g5 in
    let g28 = and g26 g27 in
    let g29 = or g28 i.b in
    let g30 = xor g8 g2 in
    let g31 = and g10 (not g2) in
    let g32 = xor g25 g3 in
    let g33 = or g31 g32 in
    let g34 = and g33 (not i.e) in
    let g35 = xor g30 g34 in
    let g36 = xor g29 g25 in
    let g37 = xor g35 g10 in
    let g38 = xor g37 i.b in
    let g39 = and g38 (not i.e) in
    let g40 = xor g36 i.e in
    let g41 = or g39 g13 in
    let g42 = or g40 g41 in
    let g43 = and g36 (not g2) in
    let g44 = xor g39 g32 in
    let g45 = xor g43 g44 in
    let g46 = and g42 (not i.d) in
    let g47 = xor g45 g46 in
    let g48 = or g36 i.a in
    let g49 = and g48 (not i.f) in
    let g50 = xor g40 g12 in
    let g51 = and i.b (not g50) in
    let g52 = xor g49 g51 in
    let g53 = or i.d g52 in
    let g54 = xor g35 g53 in
    (g36, g17, not g54, g47)) in
    record { lanes = shown.0; vectors = shown.1 }
