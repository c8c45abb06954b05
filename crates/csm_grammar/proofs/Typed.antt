-- What is read is typed: contents of a kind stand for a value of that kind.
use Rattle.std.proofs.Common.{◌≡◌, ℕ, ◌<◌, ◌^◌, Bool, true, false, cond, Option, Some, None, List, [], ◌∷◌, ◌++◌, map, filter, length, ◌+◌, take, drop, refl, sym, ◌∙◌, ap, subst, arith, lit<}
use Rattle.std.specs.Prelude.{◌&&◌, ◌==◌, nat_le, nat_lt, option_map, codes, bytes_eq, if◌then◌else◌}
use Rattle.std.specs.List.{list_all, list_any, find, AllByRecursion}
use Rattle.std.specs.Char.{digit_value}
use Rattle.std.specs.Str.Parse.{digits_value, AllDigits}
use Rattle.std.proofs.Math.Nat.{pow-le-pow_right}
use Rattle.std.proofs.lemmas.Bool.{and_parts, and_from, eqb-true, leb-true, ltb-true}
use Rattle.std.proofs.lemmas.Int.Digits.{digits_value-lt}
use Rattle.std.proofs.lemmas.List.{length-append}
use Rattle.x_base.specs.Names.{is_name}
use Rattle.x_base.specs.Count.{IsCount, SpellsCount}
use Rattle.x_base.specs.KeyName.{parts_of}
use Rattle.csm_grammar.specs.declared.tag.Tag.{Tag}
use Rattle.csm_grammar.specs.declared.message.Service.{Service}
use Rattle.csm_grammar.specs.declared.message.Message.{Message}
use Rattle.csm_grammar.specs.declared.parsed.Shut.{Shut}
use Rattle.csm_grammar.specs.Tags.{same_tag}
use Rattle.csm_grammar.specs.Classes.{class_text, forms}
use Rattle.csm_grammar.specs.Values.{Value, AText, AName, AService, ANumber, APair, Kind, OfClass, OfIdent, OfService, OfName, OfLabel, OfPair, OfKey, OfCount, OfReason, OfText, OfCode, Unsupported, kind_of, is_hex, is_count, is_reason_byte, is_text_byte, services, service_text, name_of_parts, value_if, value_of}
use Rattle.csm_grammar.specs.Messages.{Valued, fields_of, shut_field, all_fields}
use Rattle.csm_grammar.specs.Spelling.{Field, values_in, values_for, Spells, Says, fields_in}
use Rattle.csm_grammar.specs.Kinds.{IsOfKind, IsFieldOfKind}
use Rattle.csm_grammar.specs.Arrivals.{SaidTyped}
use Rattle.csm_grammar.proofs.TagLemmas.{same_tags, same_itself}
use Rattle.csm_grammar.proofs.ContentsReading.{hex_append, whole_pair, count_spelled}

abbrev pub OfKindIfAny : Kind → Option Value → Type 0
OfKindIfAny k None = Unit {0}
OfKindIfAny k (Some v) = IsOfKind k v

spelled_counts : (c : List ℕ) → SpellsCount c → IsCount (digits_value 10 c)
spelled_counts c s =
    let below = digits_value-lt 10 c s.digits in
    let some = s.value in
    let room = pow-le-pow_right {n = 10} (lit< tt) s.short in
    record { low = omega (arith, some); high = omega (arith, below, room) }

hex_digits : (c : List ℕ) → list_all (λ b. nat_lt (digit_value b) 16) c ≡ true → AllDigits 16 c
hex_digits [] h = _
hex_digits (b ∷ bs) h = let p = and_parts (nat_lt (digit_value b) 16) (list_all (λ b. nat_lt (digit_value b) 16) bs) h in (ltb-true (digit_value b) 16 p.0, hex_digits bs p.1)

hex_long : (n : ℕ) (c : List ℕ) → is_hex n c ≡ true → length c ≡ n
hex_long n c e = eqb-true (length c) n (and_parts (length c == n) (list_all (λ b. nat_lt (digit_value b) 16) c) e).0

hex_below : (n : ℕ) (c : List ℕ) → is_hex n c ≡ true → digits_value 16 c < 16 ^ n
hex_below n c e =
    let parts = and_parts (length c == n) (list_all (λ b. nat_lt (digit_value b) 16) c) e in
    subst (λ (z : ℕ). digits_value 16 c < 16 ^ z) (hex_long n c e) (digits_value-lt 16 c (hex_digits c parts.1))

class_value : (c : List ℕ) → OfKindIfAny OfClass (value_of OfClass c)
class_value c = go (list_any (λ f. bytes_eq (class_text f) c) forms) refl
  where
    go : (b : Bool) → list_any (λ f. bytes_eq (class_text f) c) forms ≡ b → OfKindIfAny OfClass (value_if b (AText c))
    go true e = rw e refl
    go false e = tt

ident_value : (c : List ℕ) → OfKindIfAny OfIdent (value_of OfIdent c)
ident_value c = go (is_name 4 16 c) refl
  where
    go : (b : Bool) → is_name 4 16 c ≡ b → OfKindIfAny OfIdent (value_if b (AText c))
    go true e = e
    go false e = tt

service_value : (o : Option Service) → OfKindIfAny OfService (option_map AService o)
service_value None = tt
service_value (Some s) = tt

named_value : (parts : List (List ℕ)) → OfKindIfAny OfName (option_map AName (name_of_parts parts))
named_value [] = tt
named_value (i ∷ []) = tt
named_value (i ∷ o ∷ []) = tt
named_value (i ∷ o ∷ l ∷ []) = tt
named_value (i ∷ o ∷ l ∷ n ∷ []) = go ((is_name 4 16 i && is_name 4 16 o) && (is_name 1 16 l && is_count n)) refl
  where
    go : (b : Bool) → ((is_name 4 16 i && is_name 4 16 o) && (is_name 1 16 l && is_count n)) ≡ b → OfKindIfAny OfName (option_map AName (if b then Some (record { issuer = i; originator = o; label = l; count = digits_value 10 n }) else None))
    go true e =
        let halves = and_parts (is_name 4 16 i && is_name 4 16 o) (is_name 1 16 l && is_count n) e in
        let left = and_parts (is_name 4 16 i) (is_name 4 16 o) halves.0 in
        let right = and_parts (is_name 1 16 l) (is_count n) halves.1 in
        record { issuer = left.0; originator = left.1; label = right.0; count = spelled_counts n (count_spelled n right.1) }
    go false e = tt
named_value (i ∷ o ∷ l ∷ n ∷ x ∷ xs) = tt

label_value : (c : List ℕ) → OfKindIfAny OfLabel (value_of OfLabel c)
label_value c = go (is_name 1 16 c) refl
  where
    go : (b : Bool) → is_name 1 16 c ≡ b → OfKindIfAny OfLabel (value_if b (AText c))
    go true e = e
    go false e = tt

pair_value : (c : List ℕ) → OfKindIfAny OfPair (value_of OfPair c)
pair_value c = go (is_hex 32 c) refl
  where
    go : (b : Bool) → is_hex 32 c ≡ b → OfKindIfAny OfPair (value_if b (APair (digits_value 16 (take 16 c)) (digits_value 16 (drop 16 c))))
    go true e =
        let parts = and_parts (is_hex 16 (take 16 c)) (is_hex 16 (drop 16 c)) (sym (whole_pair c (hex_long 32 c e)) ∙ e) in
        (hex_below 16 (take 16 c) parts.0, hex_below 16 (drop 16 c) parts.1)
    go false e = tt

key_value : (c : List ℕ) → OfKindIfAny OfKey (value_of OfKey c)
key_value c = go (is_hex 16 c) refl
  where
    go : (b : Bool) → is_hex 16 c ≡ b → OfKindIfAny OfKey (value_if b (ANumber (digits_value 16 c)))
    go true e = hex_below 16 c e
    go false e = tt

count_value : (c : List ℕ) → OfKindIfAny OfCount (value_of OfCount c)
count_value c = go (is_count c) refl
  where
    go : (b : Bool) → is_count c ≡ b → OfKindIfAny OfCount (value_if b (ANumber (digits_value 10 c)))
    go true e = spelled_counts c (count_spelled c e)
    go false e = tt

reason_value : (c : List ℕ) → OfKindIfAny OfReason (value_of OfReason c)
reason_value c = go ((nat_le 1 (length c) && nat_le (length c) 16) && list_all is_reason_byte c) refl
  where
    go : (b : Bool) → ((nat_le 1 (length c) && nat_le (length c) 16) && list_all is_reason_byte c) ≡ b → OfKindIfAny OfReason (value_if b (AText c))
    go true e = record { proper = rw e refl; short = leb-true (length c) 16 (and_parts (nat_le 1 (length c)) (nat_le (length c) 16) (and_parts (nat_le 1 (length c) && nat_le (length c) 16) (list_all is_reason_byte c) e).0).1 }
    go false e = tt

text_value : (c : List ℕ) → OfKindIfAny OfText (value_of OfText c)
text_value c = go (nat_le 1 (length c) && list_all is_text_byte c) refl
  where
    go : (b : Bool) → (nat_le 1 (length c) && list_all is_text_byte c) ≡ b → OfKindIfAny OfText (value_if b (AText c))
    go true e = rw e refl
    go false e = tt

code_value : (c : List ℕ) → OfKindIfAny OfCode (value_of OfCode c)
code_value c = go (is_hex 8 c) refl
  where
    halves : Bool
    halves = is_hex 4 (take 4 c) && (bytes_eq (take 1 (drop 4 c)) (codes " ") && is_hex 4 (drop 5 c))

    half : (b : Bool) → halves ≡ b → OfKindIfAny OfCode (option_map (λ d. ANumber (digits_value 16 d)) (if b then Some (take 4 c ++ drop 5 c) else None))
    half false e = tt
    half true e =
        let left = and_parts (is_hex 4 (take 4 c)) (bytes_eq (take 1 (drop 4 c)) (codes " ") && is_hex 4 (drop 5 c)) e in
        let right = and_parts (bytes_eq (take 1 (drop 4 c)) (codes " ")) (is_hex 4 (drop 5 c)) left.1 in
        let a = hex_long 4 (take 4 c) left.0 in
        let b = hex_long 4 (drop 5 c) right.1 in
        let both : length (take 4 c ++ drop 5 c) ≡ 4 + 4 = omega (arith, a, b, length-append (take 4 c) (drop 5 c)) in
        hex_below 8 (take 4 c ++ drop 5 c) (hex_append 4 4 (take 4 c) (drop 5 c) a b both ∙ and_from _ _ left.0 right.1)

    go : (b : Bool) → is_hex 8 c ≡ b → OfKindIfAny OfCode (option_map (λ d. ANumber (digits_value 16 d)) (if b then Some c else if halves then Some (take 4 c ++ drop 5 c) else None))
    go true e = hex_below 8 c e
    go false e = half halves refl

-- contents of a kind stand for a value of that kind
pub kind_value : (k : Kind) (c : List ℕ) → OfKindIfAny k (value_of k c)
kind_value OfClass c = class_value c
kind_value OfIdent c = ident_value c
kind_value OfService c = service_value (find (λ s. bytes_eq (service_text s) c) services)
kind_value OfName c = named_value (parts_of c)
kind_value OfLabel c = label_value c
kind_value OfPair c = pair_value c
kind_value OfKey c = key_value c
kind_value OfCount c = count_value c
kind_value OfReason c = reason_value c
kind_value OfText c = text_value c
kind_value OfCode c = code_value c
kind_value Unsupported c = tt

-- the values of the fields with a tag

typed_in : (t : Tag) (fs : List Field) → AllByRecursion (OfKindIfAny (kind_of t)) (values_in t fs)
typed_in t [] = tt
typed_in t (f ∷ fs) = go (same_tag f.tag t) refl (typed_in t fs)
  where
    go : (b : Bool) → same_tag f.tag t ≡ b → AllByRecursion (OfKindIfAny (kind_of t)) (values_in t fs) → AllByRecursion (OfKindIfAny (kind_of t)) (map (λ (g : Field). value_of (kind_of g.tag) g.contents) (cond b (f ∷ filter (λ (g : Field). same_tag g.tag t) fs) (filter (λ (g : Field). same_tag g.tag t) fs)))
    go true e rest = (subst (λ (k : Kind). OfKindIfAny k (value_of (kind_of f.tag) f.contents)) (ap kind_of (same_tags f.tag t e)) (kind_value (kind_of f.tag) f.contents), rest)
    go false e rest = rest

unwrapped : (k : Kind) (vs : List Value) → AllByRecursion (OfKindIfAny k) (map Some vs) → AllByRecursion (IsOfKind k) vs
unwrapped k [] h = tt
unwrapped k (v ∷ vs) h = (h.0, unwrapped k vs h.1)

-- the values that a message has for a tag are of its kind
spelled_values : (t : Tag) (b : List ℕ) (m : Message) (shut : Shut) (n : ℕ) (s : Spells b m shut n) → AllByRecursion (IsOfKind (kind_of t)) (values_for t (all_fields m shut))
spelled_values t b m shut n s = unwrapped (kind_of t) (values_for t (all_fields m shut)) (subst (AllByRecursion (OfKindIfAny (kind_of t))) (s.values t) (typed_in t (fields_in (s.fields ++ s.last ∷ []))))

pub values_typed : (t : Tag) (text : List ℕ) (m : Message) (s : Says text m) → AllByRecursion (IsOfKind (kind_of t)) (values_for t (all_fields m s.shut))
values_typed t text m s = spelled_values t (text ++ s.rest) m s.shut (length text) s.spelled

-- so each field is

each_typed : (vs : List Valued) → ((t : Tag) → AllByRecursion (IsOfKind (kind_of t)) (values_for t vs)) → AllByRecursion IsFieldOfKind vs
each_typed [] h = tt
each_typed (v ∷ vs) h = (head (same_tag v.tag v.tag) (same_itself v.tag) (h v.tag), each_typed vs (λ t. rest t (same_tag v.tag t) (h t)))
  where
    chosen : Tag → Bool → List Value
    chosen t b = map (λ (w : Valued). w.value) (cond b (v ∷ filter (λ (w : Valued). same_tag w.tag t) vs) (filter (λ (w : Valued). same_tag w.tag t) vs))

    head : (b : Bool) → b ≡ true → AllByRecursion (IsOfKind (kind_of v.tag)) (chosen v.tag b) → IsFieldOfKind v
    head true e k = k.0
    head false e k = absurd (cc)

    rest : (t : Tag) (b : Bool) → AllByRecursion (IsOfKind (kind_of t)) (chosen t b) → AllByRecursion (IsOfKind (kind_of t)) (values_for t vs)
    rest t true k = k.1
    rest t false k = k

in_front : (vs ws : List Valued) → AllByRecursion IsFieldOfKind (vs ++ ws) → AllByRecursion IsFieldOfKind vs
in_front [] ws h = tt
in_front (v ∷ vs) ws h = (h.0, in_front vs ws h.1)

pub spelled_typed : (b : List ℕ) (m : Message) (shut : Shut) (n : ℕ) → Spells b m shut n → AllByRecursion IsFieldOfKind (fields_of m)
spelled_typed b m shut n s = in_front (fields_of m) (shut_field shut ∷ []) (each_typed (all_fields m shut) (λ t. spelled_values t b m shut n s)).1

pub said_typed : SaidTyped
said_typed text m s = spelled_typed (text ++ s.rest) m s.shut (length text) s.spelled
