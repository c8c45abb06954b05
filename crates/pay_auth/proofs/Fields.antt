-- The fields of a payment, one behind the other.
use Rattle.std.proofs.Common.{◌≡◌, ℕ, List, [], ◌∷◌, ◌++◌, Option, Some, None, refl, sym, ap, ◌∙◌, arith, codes, lit≤, append_assoc}
use Rattle.std.specs.Fmt.{decimal}
use Rattle.x_base.specs.declared.key_name.KeyName.{KeyName}
use Rattle.x_base.specs.Count.{IsCount}
use Rattle.x_base.specs.KeyName.{IsKeyName, written}
use Rattle.x_base.specs.Names.{IsIdent, IsLabel}
use Rattle.change_code.specs.Reading.{Form, StartsWith}
use Rattle.change_code.proofs.Joining.{Apart, both, apart_both, begins_both}
use Rattle.pay_auth.specs.declared.scanner.Run.TheVariants as run
use Rattle.pay_auth.specs.Scanning.{IsEnd, IsScanned, literal_form, run_form, ident_form, label_form, count_form, code_form, ident_field, count_field, name_form, pay_form, mac_form}
use Rattle.pay_auth.proofs.Stopping.{Recode, apart_by, stops_by, starts_by, stops_second, literal_apart}
use Rattle.pay_auth.proofs.Running.{run_apart}
use Rattle.pay_auth.proofs.Named.{ident_recode, label_recode, count_recode}
use Rattle.pay_auth.proofs.Hexed.{code_recode}

-- values of each form

pub some_name : List ℕ
some_name = codes "AAAA"

pub some_is_ident : IsIdent some_name
unfolding some_name
some_is_ident = refl

pub some_is_label : IsLabel some_name
unfolding some_name
some_is_label = refl

pub one_is_count : IsCount 1
one_is_count = record { low = omega arith; high = lit≤ tt }

pub some_key : KeyName
some_key = record { issuer = some_name; originator = some_name; label = some_name; count = 1 }

pub some_is_key : IsKeyName some_key
unfolding some_key
some_is_key = record { issuer = some_is_ident; originator = some_is_ident; label = some_is_label; count = one_is_count }

-- no code is the front of another

pub ident_apart : (last : ℕ) → IsEnd run.Ident last → Apart (ident_form last)
ident_apart last end = apart_by (ident_form last) (run_form run.Ident last) (ident_recode last) (run_apart run.Ident last end)

pub label_apart : (last : ℕ) → IsEnd run.Label last → Apart (label_form last)
label_apart last end = apart_by (label_form last) (run_form run.Label last) (label_recode last) (run_apart run.Label last end)

pub count_apart : (last : ℕ) → IsEnd run.Count last → Apart (count_form last)
count_apart last end = apart_by (count_form last) (run_form run.Count last) (count_recode last) (run_apart run.Count last end)

pub code_apart : (last : ℕ) → IsEnd run.Code last → Apart (code_form last)
code_apart last end = apart_by (code_form last) (run_form run.Code last) (code_recode last) (run_apart run.Code last end)

-- the bytes that end runs

pub blank_ends_ident : IsEnd run.Ident 32
blank_ends_ident place = refl

pub period_ends_ident : IsEnd run.Ident 46
period_ends_ident place = refl

pub period_ends_label : IsEnd run.Label 46
period_ends_label place = refl

blank_ends_count : IsEnd run.Count 32
blank_ends_count place = grind arith

bracket_ends_code : IsEnd run.Code 41
bracket_ends_code place = refl

-- a value behind its tag

pub ident_field_recode : (tag : List ℕ) → Recode (ident_field tag) (both (literal_form tag) (ident_form 32))
unfolding both
ident_field_recode tag = record { to = λ i. (tt, i); from = λ p. p.1; fits = λ i is. (tt, is); gives = λ p is. is.1; code = λ i is. refl; same = λ p is. refl; back = λ i is. refl }

pub count_field_recode : (tag : List ℕ) → Recode (count_field tag) (both (literal_form tag) (count_form 32))
unfolding both
count_field_recode tag = record { to = λ n. (tt, n); from = λ p. p.1; fits = λ n is. (tt, is); gives = λ p is. is.1; code = λ n is. refl; same = λ p is. refl; back = λ n is. refl }

pub ident_field_apart : (tag : List ℕ) → Apart (ident_field tag)
ident_field_apart tag = apart_by (ident_field tag) (both (literal_form tag) (ident_form 32)) (ident_field_recode tag) (apart_both (literal_form tag) (ident_form 32) (literal_apart tag) (ident_apart 32 blank_ends_ident))

pub count_field_apart : (tag : List ℕ) → Apart (count_field tag)
count_field_apart tag = apart_by (count_field tag) (both (literal_form tag) (count_form 32)) (count_field_recode tag) (apart_both (literal_form tag) (count_form 32) (literal_apart tag) (count_apart 32 blank_ends_count))

pub ident_from : (tag : List ℕ) (u : Unit {0}) (y : List ℕ) → y ≡ (ident_field_recode tag).from (u, y)
unfolding ident_field_recode
ident_from tag u y = refl

pub count_from : (tag : List ℕ) (u : Unit {0}) (y : ℕ) → y ≡ (count_field_recode tag).from (u, y)
unfolding count_field_recode
count_from tag u y = refl

pub behind_tag : {T : Type 0} (form b : Form T) (tag old mid rest : List ℕ) (u : Unit {0}) (result : Option T) (re : Recode form (both (literal_form tag) b)) → ((y : T) → y ≡ re.from (u, y))
    → StartsWith (literal_form tag) old mid u → IsScanned b mid rest result → IsScanned form old rest result
behind_tag form b tag old mid rest u None re is starts scanned = stops_by form (both (literal_form tag) b) old rest re (stops_second (literal_form tag) b old mid rest u (literal_apart tag) starts scanned)
behind_tag form b tag old mid rest u (Some y) re is starts scanned = starts_by form (both (literal_form tag) b) old rest (u, y) y re (begins_both (literal_form tag) b old mid rest u y starts scanned) (is y)

-- key names

abbrev pub Name3 : Form (List ℕ × ℕ)
Name3 = both (label_form 46) (count_form 32)

abbrev pub Name2 : Form (List ℕ × (List ℕ × ℕ))
Name2 = both (ident_form 46) Name3

abbrev pub Name1 : Form (List ℕ × (List ℕ × (List ℕ × ℕ)))
Name1 = both (ident_form 46) Name2

pub name3_fits : Name3.Fits (some_name, 1)
unfolding both
name3_fits = (some_is_label, one_is_count)

pub name2_fits : Name2.Fits (some_name, (some_name, 1))
unfolding both
name2_fits = (some_is_ident, name3_fits)

-- three parts with a period behind each, and a last part with a blank
name_text : (a b c d : List ℕ) → (a ++ 46 ∷ (b ++ 46 ∷ (c ++ 46 ∷ d))) ++ 32 ∷ [] ≡ (a ++ 46 ∷ []) ++ ((b ++ 46 ∷ []) ++ ((c ++ 46 ∷ []) ++ (d ++ 32 ∷ [])))
name_text a b c d =
    append_assoc a (46 ∷ (b ++ 46 ∷ (c ++ 46 ∷ d))) (32 ∷ [])
    ∙ (ap (λ (l : List ℕ). a ++ 46 ∷ l) (append_assoc b (46 ∷ (c ++ 46 ∷ d)) (32 ∷ []) ∙ ap (λ (l : List ℕ). b ++ 46 ∷ l) (append_assoc c (46 ∷ d) (32 ∷ []) ∙ sym (append_assoc c (46 ∷ []) (d ++ 32 ∷ []))))
    ∙ (ap (λ (l : List ℕ). a ++ 46 ∷ l) (sym (append_assoc b (46 ∷ []) ((c ++ 46 ∷ []) ++ (d ++ 32 ∷ [])))) ∙ sym (append_assoc a (46 ∷ []) ((b ++ 46 ∷ []) ++ ((c ++ 46 ∷ []) ++ (d ++ 32 ∷ []))))))

pub name_recode : Recode name_form Name1
unfolding both
name_recode = record {
  to = λ n. (n.issuer, (n.originator, (n.label, n.count)));
  from = λ p. record { issuer = p.0; originator = p.1.0; label = p.1.1.0; count = p.1.1.1 };
  fits = λ n is. (is.issuer, (is.originator, (is.label, is.count)));
  gives = λ p is. record { issuer = is.0; originator = is.1.0; label = is.1.1.0; count = is.1.1.1 };
  code = λ n is. name_text n.issuer n.originator n.label (decimal n.count);
  same = λ p is. sym (name_text p.0 p.1.0 p.1.1.0 (decimal p.1.1.1));
  back = λ n is. refl;
}

pub name_apart : Apart name_form
name_apart = apart_by name_form Name1 name_recode
    (apart_both (ident_form 46) Name2 (ident_apart 46 period_ends_ident)
    (apart_both (ident_form 46) Name3 (ident_apart 46 period_ends_ident)
    (apart_both (label_form 46) (count_form 32) (label_apart 46 period_ends_label) (count_apart 32 blank_ends_count))))

-- payments

abbrev pub Pay5 : Form (ℕ × ℕ)
Pay5 = both (count_field (codes "NUM/")) (count_field (codes "AMT/"))

abbrev pub Pay4 : Form (KeyName × (ℕ × ℕ))
Pay4 = both name_form Pay5

abbrev pub Pay3 : Form (Unit {0} × (KeyName × (ℕ × ℕ)))
Pay3 = both (literal_form (codes "KEY/")) Pay4

abbrev pub Pay2 : Form (List ℕ × (Unit {0} × (KeyName × (ℕ × ℕ))))
Pay2 = both (ident_field (codes "TO/")) Pay3

abbrev pub Pay1 : Form (List ℕ × (List ℕ × (Unit {0} × (KeyName × (ℕ × ℕ)))))
Pay1 = both (ident_field (codes "PAY(FROM/")) Pay2

pub pay5_fits : Pay5.Fits (1, 1)
unfolding both
pay5_fits = (one_is_count, one_is_count)

pub pay4_fits : Pay4.Fits (some_key, (1, 1))
unfolding both
pay4_fits = (some_is_key, pay5_fits)

pub pay3_fits : Pay3.Fits (tt, (some_key, (1, 1)))
unfolding both
pay3_fits = (tt, pay4_fits)

pub pay2_fits : Pay2.Fits (some_name, (tt, (some_key, (1, 1))))
unfolding both
pay2_fits = (some_is_ident, pay3_fits)

-- a field in front of what follows its blank
field_text : (tag i x : List ℕ) → tag ++ (i ++ 32 ∷ x) ≡ (tag ++ (i ++ 32 ∷ [])) ++ x
field_text tag i x = ap (λ (l : List ℕ). tag ++ l) (sym (append_assoc i (32 ∷ []) x)) ∙ sym (append_assoc tag (i ++ 32 ∷ []) x)

pay_text : (from to key number amount : List ℕ)
    → codes "PAY(FROM/" ++ (from ++ 32 ∷ (codes "TO/" ++ (to ++ 32 ∷ (codes "KEY/" ++ (key ++ 32 ∷ (codes "NUM/" ++ (number ++ 32 ∷ (codes "AMT/" ++ (amount ++ 32 ∷ [])))))))))
    ≡ (codes "PAY(FROM/" ++ (from ++ 32 ∷ [])) ++ ((codes "TO/" ++ (to ++ 32 ∷ [])) ++ (codes "KEY/" ++ ((key ++ 32 ∷ []) ++ ((codes "NUM/" ++ (number ++ 32 ∷ [])) ++ (codes "AMT/" ++ (amount ++ 32 ∷ []))))))
pay_text from to key number amount =
    field_text (codes "PAY(FROM/") from _
    ∙ ap (λ (l : List ℕ). (codes "PAY(FROM/" ++ (from ++ 32 ∷ [])) ++ l)
    (field_text (codes "TO/") to _
    ∙ ap (λ (l : List ℕ). (codes "TO/" ++ (to ++ 32 ∷ [])) ++ (codes "KEY/" ++ l))
    (sym (append_assoc key (32 ∷ []) _)
    ∙ ap (λ (l : List ℕ). (key ++ 32 ∷ []) ++ l) (field_text (codes "NUM/") number (codes "AMT/" ++ (amount ++ 32 ∷ [])))))

pub pay_recode : Recode pay_form Pay1
unfolding both
pay_recode = record {
  to = λ p. (p.from, (p.to, (tt, (p.key, (p.number, p.amount)))));
  from = λ p. record { from = p.0; to = p.1.0; key = p.1.1.1.0; number = p.1.1.1.1.0; amount = p.1.1.1.1.1 };
  fits = λ p is. (is.from, (is.to, (tt, (is.key, (is.number, is.amount)))));
  gives = λ p is. record { from = is.0; to = is.1.0; key = is.1.1.1.0; number = is.1.1.1.1.0; amount = is.1.1.1.1.1 };
  code = λ p is. pay_text p.from p.to (written p.key) (decimal p.number) (decimal p.amount);
  same = λ p is. sym (pay_text p.0 p.1.0 (written p.1.1.1.0) (decimal p.1.1.1.1.0) (decimal p.1.1.1.1.1));
  back = λ p is. refl;
}

pub pay_starts : (bytes a b c d e rest from to : List ℕ) (u : Unit {0}) (key : KeyName) (number amount : ℕ) → StartsWith (ident_field (codes "PAY(FROM/")) bytes a from → StartsWith (ident_field (codes "TO/")) a b to
    → StartsWith (literal_form (codes "KEY/")) b c u → StartsWith name_form c d key → StartsWith (count_field (codes "NUM/")) d e number → StartsWith (count_field (codes "AMT/")) e rest amount
    → StartsWith pay_form bytes rest (record { from = from; to = to; key = key; number = number; amount = amount })
unfolding pay_recode
pay_starts bytes a b c d e rest from to u key number amount first second third fourth fifth sixth =
    starts_by pay_form Pay1 bytes rest (from, (to, (u, (key, (number, amount))))) (record { from = from; to = to; key = key; number = number; amount = amount }) pay_recode
    (begins_both (ident_field (codes "PAY(FROM/")) Pay2 bytes a rest from (to, (u, (key, (number, amount)))) first
    (begins_both (ident_field (codes "TO/")) Pay3 a b rest to (u, (key, (number, amount))) second
    (begins_both (literal_form (codes "KEY/")) Pay4 b c rest u (key, (number, amount)) third
    (begins_both name_form Pay5 c d rest key (number, amount) fourth
    (begins_both (count_field (codes "NUM/")) (count_field (codes "AMT/")) d e rest number amount fifth sixth)))))
    refl

pub pay_apart : Apart pay_form
pay_apart = apart_by pay_form Pay1 pay_recode
    (apart_both (ident_field (codes "PAY(FROM/")) Pay2 (ident_field_apart (codes "PAY(FROM/"))
    (apart_both (ident_field (codes "TO/")) Pay3 (ident_field_apart (codes "TO/"))
    (apart_both (literal_form (codes "KEY/")) Pay4 (literal_apart (codes "KEY/"))
    (apart_both name_form Pay5 name_apart
    (apart_both (count_field (codes "NUM/")) (count_field (codes "AMT/")) (count_field_apart (codes "NUM/")) (count_field_apart (codes "AMT/")))))))

-- codes

pub mac_recode : Recode mac_form (both (literal_form (codes "MAC/")) (code_form 41))
unfolding both
mac_recode = record { to = λ n. (tt, n); from = λ p. p.1; fits = λ n small. (tt, small); gives = λ p is. is.1; code = λ n small. refl; same = λ p is. refl; back = λ n small. refl }

pub mac_from : (u : Unit {0}) (y : ℕ) → y ≡ mac_recode.from (u, y)
unfolding mac_recode
mac_from u y = refl

pub mac_apart : Apart mac_form
mac_apart = apart_by mac_form (both (literal_form (codes "MAC/")) (code_form 41)) mac_recode
    (apart_both (literal_form (codes "MAC/")) (code_form 41) (literal_apart (codes "MAC/")) (code_apart 41 bracket_ends_code))
