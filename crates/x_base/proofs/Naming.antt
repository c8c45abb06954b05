-- The written form of a key name.
use Rattle.std.proofs.Common.{◌≡◌, ℕ, ◌^◌, ◌<◌, ◌≤◌, List, length, length-append, refl, arith, lit<, sym}
use Rattle.std.specs.Fmt.{decimal}
use Rattle.std.specs.Str.Parse.{digits_value}
use Rattle.std.proofs.lemmas.Fmt.{decimal_is_IsNumeral, length-decimal-le, decimal_nonempty}
use Rattle.x_base.specs.declared.key_name.KeyName.{KeyName}
use Rattle.x_base.specs.Count.{IsCount, SpellsCount}
use Rattle.x_base.specs.KeyName.{NameOf, written}
use Rattle.x_base.specs.Names.{is_name, IsIdent, IsLabel}
use Rattle.std.specs.Prelude.{IsTrue}

count_fits : (n : ℕ) → IsCount n → n < 10 ^ 14
count_fits n c = omega (arith, c.high)

count_fits_u64 : (n : ℕ) → IsCount n → n < 2 ^ 64
count_fits_u64 n c = omega (arith, c.high)

count_spelled : (n : ℕ) → IsCount n → SpellsCount (decimal n)
count_spelled n c =
    let m = decimal_is_IsNumeral n (count_fits_u64 n c) in
    record {
      filled = decimal_nonempty n (count_fits_u64 n c);
      short = length-decimal-le 14 n (lit< tt) (count_fits n c) (count_fits_u64 n c);
      digits = m.0.1;
      value = λ (zero_is : digits_value 10 (decimal n) ≡ 0). omega (arith, c.low, m.1, zero_is);
    }

pub written_spells : (name : KeyName) → IsIdent name.issuer → IsIdent name.originator → IsLabel name.label → IsCount name.count → NameOf (written name) name
written_spells name i o l c = record {
  digits = decimal name.count;
  issuer = i;
  originator = o;
  label = l;
  count = count_spelled name.count c;
  number = sym (decimal_is_IsNumeral name.count (count_fits_u64 name.count c)).1;
  text = refl;
}

name_short : (low : ℕ) (bytes : List ℕ) → IsTrue (is_name low 16 bytes) → length bytes ≤ 16
name_short low bytes h = grind arith

pub digits_short : (n : ℕ) → IsCount n → length (decimal n) ≤ 14
digits_short n c = (count_spelled n c).short

pub written_short : (name : KeyName) → IsIdent name.issuer → IsIdent name.originator → IsLabel name.label → IsCount name.count → length (written name) ≤ 65
written_short name i o l c =
    let digits : length (decimal name.count) ≤ 14 = digits_short name.count c in
    let issuer : length name.issuer ≤ 16 = name_short 4 name.issuer i in
    let originator : length name.originator ≤ 16 = name_short 4 name.originator o in
    let label : length name.label ≤ 16 = name_short 1 name.label l in
    simp length-append (omega arith)
