-- The canonical text of a typed message is short.
use Rattle.std.proofs.Common.{◌≡◌, ℕ, ◌+◌, ◌*◌, ◌^◌, ◌<◌, ◌≤◌, true, List, [], ◌∷◌, ◌++◌, length, Option, Some, None, refl, arith, lit<, lit≤, length-append}
use Rattle.std.specs.Prelude.{codes, sum_by}
use Rattle.std.specs.Fmt.{decimal}
use Rattle.std.specs.List.{All, flat_map}
use Rattle.std.proofs.lemmas.Fmt.{length-decimal-le}
use Rattle.std.proofs.lemmas.List.Sums.{sum_by-cons}
use Rattle.std.proofs.lemmas.List.Elements.{All-head, All-tail}
use Rattle.x_base.specs.Names.{is_name}
use Rattle.x_base.specs.Count.{IsCount}
use Rattle.x_base.specs.KeyName.{written, IsKeyName}
use Rattle.x_base.specs.declared.key_name.KeyName.{KeyName}
use Rattle.hex.specs.Hex.{encode_with}
use Rattle.csm_grammar.specs.declared.tag.Tag.{Tag}
use Rattle.csm_grammar.specs.declared.tag.Tag.TheVariants.{Mcl, Rcv, Idu, Idd, Ida, Idk1, Idk2, Kd, Kdu, Ctp, Cta, Ctb, Ctr, Iv, Edk, P, Mac, Edc}
use Rattle.csm_grammar.specs.declared.form.Form.{Form}
use Rattle.csm_grammar.specs.declared.form.Form.TheVariants.{F1, F2, F3, F4, F5, F6, F7, F8, F9, F10, F11, F12, F13}
use Rattle.csm_grammar.specs.declared.message.Message.{Message}
use Rattle.csm_grammar.specs.declared.message.Message.TheVariants as messages
use Rattle.csm_grammar.specs.declared.message.KsmBody.{KsmBody}
use Rattle.csm_grammar.specs.declared.message.KsmBody.TheVariants as bodies
use Rattle.csm_grammar.specs.declared.message.NewKk.{NewKk}
use Rattle.csm_grammar.specs.declared.message.Extras.{Extras}
use Rattle.csm_grammar.specs.declared.message.Service.{Service}
use Rattle.csm_grammar.specs.declared.message.Service.TheVariants as services
use Rattle.csm_grammar.specs.declared.parsed.Shut.{Shut}
use Rattle.csm_grammar.specs.declared.parsed.Shut.TheVariants as shuts
use Rattle.csm_grammar.specs.Tags.{tag_name}
use Rattle.csm_grammar.specs.Classes.{class_text}
use Rattle.csm_grammar.specs.Values.{Value, AText, AName, AService, ANumber, APair, Kind, OfClass, OfIdent, OfService, OfName, OfLabel, OfPair, OfKey, OfCount, OfReason, OfText, OfCode, Unsupported, kind_of, service_text}
use Rattle.csm_grammar.specs.Messages.{Valued, valued, if_any, fields_of, body_fields, extra_fields, new_fields, form_of, shut_field}
use Rattle.csm_grammar.specs.Spelling.{Field, field_text}
use Rattle.csm_write.specs.declared.closing.Closing.{Closing}
use Rattle.csm_write.specs.Canon.{contents_of, key_digits, code_digits, field_for, front_fields, shut_of, canon}
use Rattle.csm_write.specs.Writable.{IsTyped, IsTypedField, AreTyped}
use Rattle.csm_write.specs.Writing.{blank_fields}
use Rattle.csm_write.specs.Shortness.{free_bytes, free_length}
use Rattle.csm_write.proofs.Tags.{tag_short}

-- contents

name_bytes : (low : ℕ) (bytes : List ℕ) → is_name low 16 bytes ≡ true → length bytes ≤ 65
name_bytes low bytes h = let k : length bytes ≤ 16 = grind arith in omega arith

part_short : (low : ℕ) (bytes : List ℕ) → is_name low 16 bytes ≡ true → length bytes ≤ 16
part_short low bytes h = grind arith

count_digits : (n : ℕ) → IsCount n → length (decimal n) ≤ 14
count_digits n c =
    let fits : n < 2 ^ 64 = omega (arith, c.high) in
    let short : n < 10 ^ 14 = omega (arith, c.high) in
    length-decimal-le 14 n (lit< tt) short fits

count_short : (n : ℕ) → IsCount n → length (decimal n) ≤ 65
count_short n c = let k = count_digits n c in omega (arith, k)

name_short : (n : KeyName) → IsKeyName n → length (written n) ≤ 65
name_short n h =
    let digits : length (decimal n.count) ≤ 14 = count_digits n.count h.count in
    let issuer : length n.issuer ≤ 16 = part_short 4 n.issuer h.issuer in
    let originator : length n.originator ≤ 16 = part_short 4 n.originator h.originator in
    let label : length n.label ≤ 16 = part_short 1 n.label h.label in
    simp length-append (omega arith)

service_short : (s : Service) → length (service_text s) ≤ 65
service_short services.Kd = lit≤ tt
service_short services.KdKd = lit≤ tt
service_short services.Kk = lit≤ tt
service_short services.DoubleKk = lit≤ tt
service_short services.KkKd = lit≤ tt
service_short services.DoubleKkKd = lit≤ tt

key_length : (n : ℕ) → length (key_digits n) ≡ 16
unfolding encode_with
key_length n = refl

key_short : (n : ℕ) → length (key_digits n) ≤ 65
key_short n = let e = key_length n in omega (arith, e)

code_length : (n : ℕ) → length (code_digits n) ≡ 8
unfolding encode_with
code_length n = refl

code_short : (n : ℕ) → length (code_digits n) ≤ 65
code_short n = let e = code_length n in omega (arith, e)

pair_short : (l r : ℕ) → length (key_digits l ++ key_digits r) ≤ 65
pair_short l r = let e = key_length l in let f = key_length r in let g = length-append (key_digits l) (key_digits r) in omega (arith, e, f, g)

contents_short : (k : Kind) (v : Value) → IsTyped k v → length (contents_of k v) ≤ 65 + free_bytes k v
contents_short OfClass (AText bytes) t = absurd t
contents_short OfClass (AName name) t = absurd t
contents_short OfClass (AService service) t = absurd t
contents_short OfClass (ANumber n) t = absurd t
contents_short OfClass (APair l r) t = absurd t
contents_short OfIdent (AText bytes) t = name_bytes 4 bytes t
contents_short OfIdent (AName name) t = absurd t
contents_short OfIdent (AService service) t = absurd t
contents_short OfIdent (ANumber n) t = absurd t
contents_short OfIdent (APair l r) t = absurd t
contents_short OfService (AText bytes) t = absurd t
contents_short OfService (AName name) t = absurd t
contents_short OfService (AService service) t = service_short service
contents_short OfService (ANumber n) t = absurd t
contents_short OfService (APair l r) t = absurd t
contents_short OfName (AText bytes) t = absurd t
contents_short OfName (AName name) t = name_short name t
contents_short OfName (AService service) t = absurd t
contents_short OfName (ANumber n) t = absurd t
contents_short OfName (APair l r) t = absurd t
contents_short OfLabel (AText bytes) t = name_bytes 1 bytes t
contents_short OfLabel (AName name) t = absurd t
contents_short OfLabel (AService service) t = absurd t
contents_short OfLabel (ANumber n) t = absurd t
contents_short OfLabel (APair l r) t = absurd t
contents_short OfPair (AText bytes) t = absurd t
contents_short OfPair (AName name) t = absurd t
contents_short OfPair (AService service) t = absurd t
contents_short OfPair (ANumber n) t = absurd t
contents_short OfPair (APair l r) t = pair_short l r
contents_short OfKey (AText bytes) t = absurd t
contents_short OfKey (AName name) t = absurd t
contents_short OfKey (AService service) t = absurd t
contents_short OfKey (ANumber n) t = key_short n
contents_short OfKey (APair l r) t = absurd t
contents_short OfCount (AText bytes) t = absurd t
contents_short OfCount (AName name) t = absurd t
contents_short OfCount (AService service) t = absurd t
contents_short OfCount (ANumber n) t = count_short n t
contents_short OfCount (APair l r) t = absurd t
contents_short OfReason (AText bytes) t = omega arith
contents_short OfReason (AName name) t = absurd t
contents_short OfReason (AService service) t = absurd t
contents_short OfReason (ANumber n) t = absurd t
contents_short OfReason (APair l r) t = absurd t
contents_short OfText (AText bytes) t = omega arith
contents_short OfText (AName name) t = absurd t
contents_short OfText (AService service) t = absurd t
contents_short OfText (ANumber n) t = absurd t
contents_short OfText (APair l r) t = absurd t
contents_short OfCode (AText bytes) t = absurd t
contents_short OfCode (AName name) t = absurd t
contents_short OfCode (AService service) t = absurd t
contents_short OfCode (ANumber n) t = code_short n
contents_short OfCode (APair l r) t = absurd t
contents_short Unsupported (AText bytes) t = absurd t
contents_short Unsupported (AName name) t = absurd t
contents_short Unsupported (AService service) t = absurd t
contents_short Unsupported (ANumber n) t = absurd t
contents_short Unsupported (APair l r) t = absurd t

class_short : (f : Form) → length (class_text f) ≤ 3
class_short F1 = lit≤ tt
class_short F2 = lit≤ tt
class_short F3 = lit≤ tt
class_short F4 = lit≤ tt
class_short F5 = lit≤ tt
class_short F6 = lit≤ tt
class_short F7 = lit≤ tt
class_short F8 = lit≤ tt
class_short F13 = lit≤ tt
class_short F9 = lit≤ tt
class_short F10 = lit≤ tt
class_short F11 = lit≤ tt
class_short F12 = lit≤ tt

-- fields

field_length : (f : Field) → length (field_text f) ≤ 5 + length f.contents
field_length f = let t = tag_short f.tag in let e = length-append (tag_name f.tag) (47 ∷ f.contents) in omega (arith, t, e)

field_short : (v : Valued) → IsTypedField v → length (field_text (field_for v)) ≤ 70 + free_bytes (kind_of v.tag) v.value
field_short v h = let c = contents_short (kind_of v.tag) v.value h in let l = field_length (field_for v) in omega (arith, c, l)

abbrev free_of : Valued → ℕ
free_of v = free_bytes (kind_of v.tag) v.value

blank_short : (vs : List Valued) → All IsTypedField vs → length (blank_fields vs) ≤ 71 * length vs + sum_by free_of vs
blank_short [] h = omega arith
blank_short (v ∷ vs) h =
    let here = field_short v (All-head IsTypedField v vs h) in
    let rest = blank_short vs (All-tail IsTypedField v vs h) in
    let e = length-append (field_text (field_for v) ++ codes " ") (blank_fields vs) in
    let f = length-append (field_text (field_for v)) (codes " ") in
    let s = sum_by-cons free_of v vs in
    omega (arith, here, rest, e, f, s)

any_few : {A : Type 0} (o : Option A) (t : Tag) (f : A → Value) → length (if_any t f o) ≤ 1
any_few None t f = lit≤ tt
any_few (Some a) t f = lit≤ tt

extras_few : (e : Extras) → length (extra_fields e) ≤ 3
extras_few e =
    let a = any_few e.iv Iv AText in
    let b = any_few e.edk Edk AText in
    let c = any_few e.p P AText in
    simp length-append (omega (arith, a, b, c))

new_few : (n : Option (List ℕ × NewKk)) → length (new_fields n) ≤ 1
new_few None = lit≤ tt
new_few (Some n) = lit≤ tt

body_few : (b : KsmBody) → length (body_fields b) ≤ 5
body_few (bodies.Direct idk2 new kd ctp) =
    let a = any_few new Idk1 (λ (n : List ℕ × NewKk). AText n.0) in
    let b = any_few idk2 Idk2 AText in
    let c = new_few new in
    simp length-append (omega (arith, a, b, c))
body_few (bodies.Twin idk2 first second ctp) = let b = any_few idk2 Idk2 AText in simp length-append (omega (arith, b))
body_few (bodies.Centre centre kdu ctb) = lit≤ tt

abbrev some_field : Valued
some_field = valued Rcv (AText [])

returned_few : (ks cs es : List Valued) (u b : Valued) → length ks ≤ 1 → length cs ≤ 1 → length es ≤ 3
    → length (some_field ∷ some_field ∷ some_field ∷ (ks ++ (u ∷ (cs ++ (b ∷ es))))) ≤ 10
returned_few ks cs es u b k c e = simp length-append (omega arith)

joined_few : (xs es : List Valued) → length xs ≤ 5 → length es ≤ 3 → length (some_field ∷ some_field ∷ (xs ++ es)) ≤ 10
joined_few xs es x e = simp length-append (omega arith)

fields_few : (m : Message) → length (fields_of m) ≤ 10
fields_few (messages.Rsi m) = let a = any_few m.ultimate Idu AText in omega (arith, a)
fields_few (messages.Rfs m) = lit≤ tt
fields_few (messages.Rtr m) =
    returned_few (if_any Kd (λ k. ANumber k.0) m.kd) (if_any Cta (λ k. ANumber k.1) m.kd) (extra_fields m.extras) (valued Kdu (ANumber m.kdu)) (valued Ctb (ANumber m.ctb))
    (any_few m.kd Kd (λ k. ANumber k.0)) (any_few m.kd Cta (λ k. ANumber k.1)) (extras_few m.extras)
fields_few (messages.Ksm m) = joined_few (body_fields m.body) (extra_fields m.extras) (body_few m.body) (extras_few m.extras)
fields_few (messages.Rsm m) = joined_few (if_any Idd AName m.idd) (extra_fields m.extras) (let a = any_few m.idd Idd AName in omega (arith, a)) (extras_few m.extras)
fields_few (messages.Ers m) = lit≤ tt
fields_few (messages.Esm m) =
    let a = any_few m.ctp Ctp ANumber in
    let b = any_few m.cta Cta ANumber in
    let c = any_few m.ctb Ctb ANumber in
    let d = any_few m.ctr Ctr ANumber in
    simp length-append (omega (arith, a, b, c, d))
fields_few (messages.Dsm m) = let a = any_few m.ida Ida AName in omega (arith, a)

shut_length : (s : Shut) → length (field_text (field_for (shut_field s))) ≤ 13
shut_length (shuts.Mac n) = let e = code_length n in let l = field_length (field_for (valued Mac (ANumber n))) in omega (arith, e, l)
shut_length (shuts.Edc n) = let e = code_length n in let l = field_length (field_for (valued Edc (ANumber n))) in omega (arith, e, l)

front_short : (m : Message) → All IsTypedField (fields_of m) → length (flat_map (λ (f : Field). field_text f ++ codes " ") (front_fields m)) ≤ 9 + 71 * length (fields_of m) + free_length m
front_short m h =
    let class : Field = field_for (valued Mcl (AText (class_text (form_of m)))) in
    let here = field_length class in
    let short = class_short (form_of m) in
    let rest = blank_short (fields_of m) h in
    let e = length-append (field_text class ++ codes " ") (blank_fields (fields_of m)) in
    let f = length-append (field_text class) (codes " ") in
    omega (arith, here, short, rest, e, f)

total_short : (front code : List ℕ) (n free : ℕ) → length front ≤ 9 + 71 * n + free → n ≤ 10 → free ≤ 64 → length code ≤ 13 → length ((codes "CSM(" ++ front) ++ (code ++ codes ")")) ≤ 1024
total_short front code n free h few small c = simp length-append (omega arith)

pub canon_short : (m : Message) (c : Closing) → AreTyped m c → free_length m ≤ 64 → length (canon m c) ≤ 1024
canon_short m c t small =
    total_short (flat_map (λ (f : Field). field_text f ++ codes " ") (front_fields m)) (field_text (field_for (shut_field (shut_of m c)))) (length (fields_of m)) (free_length m)
    (front_short m t.fields) (fields_few m) small (shut_length (shut_of m c))
