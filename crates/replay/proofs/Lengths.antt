-- How long the codes are of the changes that a set-up keeps.
use Rattle.std.proofs.Common.{◌≡◌, ℕ, ◌+◌, ◌≤◌, Bool, true, false, List, [], ◌∷◌, ◌++◌, length, refl, ap, arith, length-append}
use Rattle.std.proofs.lemmas.List.{append-nil}
use Rattle.x_base.specs.Names.{IsIdent, IsLabel}
use Rattle.x_base.specs.declared.party.Role.{Role}
use Rattle.x_base.specs.declared.party.Role.TheVariants as role
use Rattle.x_base.specs.declared.party.Side.{Side}
use Rattle.x_base.specs.declared.party.Side.TheVariants.{Sends, Takes}
use Rattle.x_mac.specs.declared.pair.Pair.{Pair}
use Rattle.x_mac.specs.Code.{edc_of}
use Rattle.x_gen.specs.declared.generator.Gen.{Gen}
use Rattle.party_tables.specs.declared.link.LinkRec.{LinkRec}
use Rattle.party_state.specs.declared.edit.Edit.{Edit}
use Rattle.party_state.specs.declared.edit.Edit.TheVariants.{Begin, PutLink}
use Rattle.change_code.specs.declared.format.Format.{Format}
use Rattle.change_code.specs.declared.format.Format.TheVariants.{One, Two}
use Rattle.change_code.specs.Code.{two, four, eight, short, pair_code, gen_code, role_code, side_code, flag_code, edit_code, edits_code, change_text, number_of}
use Rattle.change_code.specs.Cost.{cost}
use Rattle.replay.specs.SettingUp.{longest_link, longest_load}

two_long : (n : ℕ) → length (two n) ≡ 2
unfolding two
two_long n = refl

four_long : (n : ℕ) → length (four n) ≡ 4
unfolding four
four_long n = refl

eight_long : (n : ℕ) → length (eight n) ≡ 8
unfolding eight
eight_long n = refl

role_long : (r : Role) → length (role_code r) ≡ 1
role_long role.Bank = refl
role_long role.Distribution = refl
role_long role.Translation = refl

side_long : (s : Side) → length (side_code s) ≡ 1
side_long Sends = refl
side_long Takes = refl

flag_long : (b : Bool) → length (flag_code b) ≡ 1
flag_long true = refl
flag_long false = refl

ident_bytes : (bytes : List ℕ) → IsIdent bytes → length bytes ≤ 16
ident_bytes bytes h = grind arith

label_bytes : (bytes : List ℕ) → IsLabel bytes → length bytes ≤ 16
label_bytes bytes h = grind arith

pair_long : (p : Pair) → length (pair_code p) ≡ 16
pair_long p =
    let a = length-append (eight p.left) (eight p.right) in
    omega (arith, a, eight_long p.left, eight_long p.right)

gen_long : (g : Gen) → length (gen_code g) ≡ 24
gen_long g =
    let a = length-append (pair_code g.key) (eight g.v) in
    omega (arith, a, pair_long g.key, eight_long g.v)

first_edit : (own : List ℕ) (r : Role) (g : Gen) → length (edit_code (Begin own r g)) ≡ length own + 27
first_edit own r g =
    let a = length-append (short own) (role_code r ++ gen_code g) in
    let b = length-append (role_code r) (gen_code g) in
    omega (arith, a, b, role_long r, gen_long g)

load_edit : (l : LinkRec) → length (edit_code (PutLink l)) ≡ length l.peer + length l.label + 29
load_edit l =
    let a = length-append (short l.peer) (short l.label ++ (side_code l.side ++ (pair_code l.pair ++ (eight l.next ++ flag_code l.ready)))) in
    let b = length-append (short l.label) (side_code l.side ++ (pair_code l.pair ++ (eight l.next ++ flag_code l.ready))) in
    let c = length-append (side_code l.side) (pair_code l.pair ++ (eight l.next ++ flag_code l.ready)) in
    let d = length-append (pair_code l.pair) (eight l.next ++ flag_code l.ready) in
    let e = length-append (eight l.next) (flag_code l.ready) in
    omega (arith, a, b, c, d, e, side_long l.side, pair_long l.pair, eight_long l.next, flag_long l.ready)

-- a change of one edit
text_long : (e : Edit) → length (change_text (e ∷ [])) ≡ length (edit_code e) + 2
text_long e =
    let a = length-append (two 1) (edits_code (e ∷ [])) in
    let b = ap length (append-nil (edit_code e)) in
    omega (arith, a, b, two_long 1)

one_cost : (f : Format) (e : Edit) → cost f (e ∷ []) ≤ length (edit_code e) + 12
one_cost One e =
    let a = ap length (append-nil (number_of One ∷ change_text (e ∷ []))) in
    omega (arith, a, text_long e)
one_cost Two e =
    let a = length-append (number_of Two ∷ change_text (e ∷ [])) (four (edc_of (number_of Two ∷ change_text (e ∷ [])))) in
    omega (arith, a, text_long e, four_long (edc_of (number_of Two ∷ change_text (e ∷ []))))

pub first_few : (own : List ℕ) (r : Role) (g : Gen) → IsIdent own → cost Two (Begin own r g ∷ []) ≤ 55
first_few own r g ident = omega (arith, one_cost Two (Begin own r g), first_edit own r g, ident_bytes own ident)

pub longest_is : longest_load ≡ 73
unfolding longest_load
longest_is =
    let text : List ℕ = number_of Two ∷ change_text (PutLink longest_link ∷ []) in
    let a = length-append text (four (edc_of text)) in
    omega (arith, a, text_long (PutLink longest_link), load_edit longest_link, four_long (edc_of text))

pub load_few : (f : Format) (l : LinkRec) → IsIdent l.peer → IsLabel l.label → cost f (PutLink l ∷ []) ≤ longest_load
load_few f l peer label = omega (arith, one_cost f (PutLink l), load_edit l, ident_bytes l.peer peer, label_bytes l.label label, longest_is)
