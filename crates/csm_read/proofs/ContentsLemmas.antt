-- The bytes of contents that stand for a value.
use Rattle.std.proofs.Common.{◌≡◌, ◌≢◌, ℕ, zero, suc, Bool, true, false, cond, List, [], ◌∷◌, ◌++◌, take, drop, length, Option, Some, None, refl, sym, ◌∙◌, ap, subst, append_assoc, arith, inl, inr}
use Rattle.std.specs.Prelude.{◌==◌, ◌&&◌, ◌||◌, nat_lt, option_map, codes, bytes_eq, ◌⊎◌}
use Rattle.std.specs.List.{list_any, list_all, slice_split, onto_first}
use Rattle.std.specs.Char.{digit_value}
use Rattle.std.specs.Cmp.Lexicographic.{bytes_decides}
use Rattle.std.proofs.lemmas.Bool.{eqb-true, and_parts, and_from, false≢true, false_from_ne_true}
use Rattle.std.proofs.lemmas.List.Folds.{list_all-append}
use Rattle.x_base.specs.Names.{is_name, is_name_byte}
use Rattle.x_base.specs.declared.key_name.KeyName.{KeyName}
use Rattle.csm_grammar.specs.declared.tag.Tag.{Tag}
use Rattle.csm_grammar.specs.declared.tag.Tag.TheVariants.{Mcl, Rcv, Org, Svr, Idu, Idc, Idd, Ida, Idk1, Idk2, DoubleKk, Kk, Kd, Kdu, Ctp, Cta, Ctb, Ctr, Erf, Iv, Edk, P, Mac, Edc, Kku, DoubleKku, Nos}
use Rattle.csm_grammar.specs.declared.form.Form.{Form}
use Rattle.csm_grammar.specs.declared.message.Service.{Service}
use Rattle.csm_grammar.specs.declared.message.Service.TheVariants as service
use Rattle.csm_grammar.specs.Tags.{tag_name, is_closing}
use Rattle.csm_grammar.specs.Classes.{class_text, forms}
use Rattle.csm_grammar.specs.Values.{Value, AService, AName, Kind, OfClass, OfIdent, OfService, OfName, OfLabel, OfPair, OfKey, OfCount, OfReason, OfText, OfCode, Unsupported, kind_of, value_of, value_if, is_hex, code_digits, is_count, name_of, name_of_parts, is_reason_byte, is_text_byte, services, service_text}
use Rattle.csm_grammar.specs.Spelling.{Field, field_text}
use Rattle.csm_read.specs.Units.{is_half}
use Rattle.csm_grammar.proofs.TagLemmas.{each_tag, each_form, find_passes}
use Rattle.csm_read.specs.Judging.{is_plain, ArePlain}
use Rattle.csm_read.proofs.Stretching.{all_plain_from}
use Rattle.csm_read.proofs.Tokens.{IsToken, hex_plain}
use Rattle.csm_read.proofs.FieldLemmas.{named_half, closing_half}

pub where_true : (b : Bool) (v w : Value) → value_if b v ≡ Some w → b ≡ true
where_true true v w h = refl
where_true false v w h = absurd cc

pub any_has : {X : Type 0} (p : X → Bool) (xs : List X) → list_any p xs ≡ true → (x : X) × (p x ≡ true)
any_has p [] h = absurd cc
any_has {X} p (x ∷ xs) h = go (p x) refl h (λ i. any_has p xs i) where
  go : (b : Bool) → p x ≡ b → (b || list_any p xs) ≡ true → (list_any p xs ≡ true → (y : X) × (p y ≡ true)) → (y : X) × (p y ≡ true)
  go true e i more = (x, e)
  go false e i more = more i

class_plain : (f : Form) → ArePlain (class_text f)
class_plain f = each_form (λ g. list_all is_plain (class_text g)) refl f

service_plain : (s : Service) → ArePlain (service_text s)
service_plain service.Kd = refl
service_plain service.KdKd = refl
service_plain service.Kk = refl
service_plain service.DoubleKk = refl
service_plain service.KkKd = refl
service_plain service.DoubleKkKd = refl

mapped : {A B : Type 0} (f : A → B) (o : Option A) (b : B) → option_map f o ≡ Some b → (a : A) × (o ≡ Some a)
mapped f None b h = absurd cc
mapped f (Some a) b h = (a, refl)

name_plain : (low high : ℕ) (c : List ℕ) → is_name low high c ≡ true → ArePlain c
name_plain low high c h = all_plain_from is_name_byte refl refl refl refl c (and_parts _ _ h).1

count_plain : (c : List ℕ) → is_count c ≡ true → ArePlain c
count_plain c h = all_plain_from (λ b. nat_lt (digit_value b) 10) refl refl refl refl c (and_parts _ _ (and_parts _ _ h).1).0

ArePlainParts : List (List ℕ) → Type 0
ArePlainParts ps = list_all (λ t. list_all is_plain t) ps ≡ true

split_step : (b : ℕ) (bs : List ℕ) (ps : List (List ℕ)) (here : Bool) → (b == 46) ≡ here → (ArePlainParts ps → ArePlain bs) → ArePlainParts (cond here ([] ∷ ps) (onto_first b ps)) → ArePlain (b ∷ bs)
unfolding ArePlainParts
split_step b bs ps true e more h = and_from _ _ (subst (λ (x : ℕ). is_plain x ≡ true) (sym (eqb-true b 46 e)) refl) (more h)
split_step b bs [] false e more h = let k = and_parts _ _ h in and_from _ _ (and_parts _ _ k.0).0 (more refl)
split_step b bs (q ∷ qs) false e more h =
    let k = and_parts (list_all is_plain (b ∷ q)) (list_all (λ t. list_all is_plain t) qs) h in
    let j = and_parts (is_plain b) (list_all is_plain q) k.0 in
    and_from _ _ j.0 (more (and_from _ _ j.1 k.1))

split_plain : (c : List ℕ) → ArePlainParts (slice_split (λ b. b == 46) c) → ArePlain c
split_plain [] h = refl
split_plain (b ∷ bs) h = split_step b bs (slice_split (λ x. x == 46) bs) (b == 46) refl (λ i. split_plain bs i) h

some_when : {A : Type 0} (b : Bool) (x y : A) → cond b (Some x) None ≡ Some y → b ≡ true
some_when true x y h = refl
some_when false x y h = absurd cc

parts_plain : (ps : List (List ℕ)) (n : KeyName) → name_of_parts ps ≡ Some n → ArePlainParts ps
unfolding ArePlainParts
parts_plain [] n h = absurd cc
parts_plain (i ∷ []) n h = absurd cc
parts_plain (i ∷ o ∷ []) n h = absurd cc
parts_plain (i ∷ o ∷ l ∷ []) n h = absurd cc
parts_plain (i ∷ o ∷ l ∷ c ∷ []) n h =
    let k = and_parts _ _ (some_when _ _ n h) in
    let x = and_parts (is_name 4 16 i) (is_name 4 16 o) k.0 in
    let y = and_parts (is_name 1 16 l) (is_count c) k.1 in
    and_from _ _ (name_plain 4 16 i x.0) (and_from _ _ (name_plain 4 16 o x.1) (and_from _ _ (name_plain 1 16 l y.0) (and_from _ _ (count_plain c y.1) refl)))
parts_plain (i ∷ o ∷ l ∷ c ∷ d ∷ ps) n h = absurd cc

key_name_plain : (c : List ℕ) (n : KeyName) → name_of c ≡ Some n → ArePlain c
key_name_plain c n h = split_plain c (parts_plain (slice_split (λ b. b == 46) c) n h)

-- contents of any kind but a code
pub plain_contents : (k : Kind) (c : List ℕ) (v : Value) → value_of k c ≡ Some v → k ≢ OfCode → ArePlain c
plain_contents OfClass c v h n =
    let k = any_has (λ f. bytes_eq (class_text f) c) forms (where_true _ _ v h) in
    subst ArePlain ((bytes_decides (class_text k.0) c).0 k.1) (class_plain k.0)
plain_contents OfIdent c v h n = name_plain 4 16 c (where_true _ _ v h)
plain_contents OfService c v h n =
    let k = mapped AService _ v h in
    subst ArePlain ((bytes_decides (service_text k.0) c).0 (find_passes (λ s. bytes_eq (service_text s) c) services k.0 k.1)) (service_plain k.0)
plain_contents OfName c v h n = let k = mapped AName _ v h in key_name_plain c k.0 k.1
plain_contents OfLabel c v h n = name_plain 1 16 c (where_true _ _ v h)
plain_contents OfPair c v h n = hex_plain 32 c (where_true _ _ v h)
plain_contents OfKey c v h n = hex_plain 16 c (where_true _ _ v h)
plain_contents OfCount c v h n = count_plain c (where_true _ _ v h)
plain_contents OfReason c v h n = all_plain_from is_reason_byte refl refl refl refl c (and_parts _ _ (where_true _ _ v h)).1
plain_contents OfText c v h n = all_plain_from is_text_byte refl refl refl refl c (and_parts _ _ (where_true _ _ v h)).1
plain_contents OfCode c v h n = absurd (n refl)
plain_contents Unsupported c v h n = absurd cc

is_code : Kind → Bool
is_code OfCode = true
is_code k = false

code_kind : (t : Tag) → is_closing t ≡ true → kind_of t ≡ OfCode
code_kind Mcl h = absurd cc
code_kind Rcv h = absurd cc
code_kind Org h = absurd cc
code_kind Svr h = absurd cc
code_kind Idu h = absurd cc
code_kind Idc h = absurd cc
code_kind Idd h = absurd cc
code_kind Ida h = absurd cc
code_kind Idk1 h = absurd cc
code_kind Idk2 h = absurd cc
code_kind DoubleKk h = absurd cc
code_kind Kk h = absurd cc
code_kind Kd h = absurd cc
code_kind Kdu h = absurd cc
code_kind Ctp h = absurd cc
code_kind Cta h = absurd cc
code_kind Ctb h = absurd cc
code_kind Ctr h = absurd cc
code_kind Erf h = absurd cc
code_kind Iv h = absurd cc
code_kind Edk h = absurd cc
code_kind P h = absurd cc
code_kind Mac h = refl
code_kind Edc h = refl
code_kind Kku h = absurd cc
code_kind DoubleKku h = absurd cc
code_kind Nos h = absurd cc

other_kind : (t : Tag) → is_closing t ≡ false → is_code (kind_of t) ≡ false
unfolding is_code
other_kind Mcl h = refl
other_kind Rcv h = refl
other_kind Org h = refl
other_kind Svr h = refl
other_kind Idu h = refl
other_kind Idc h = refl
other_kind Idd h = refl
other_kind Ida h = refl
other_kind Idk1 h = refl
other_kind Idk2 h = refl
other_kind DoubleKk h = refl
other_kind Kk h = refl
other_kind Kd h = refl
other_kind Kdu h = refl
other_kind Ctp h = refl
other_kind Cta h = refl
other_kind Ctb h = refl
other_kind Ctr h = refl
other_kind Erf h = refl
other_kind Iv h = refl
other_kind Edk h = refl
other_kind P h = refl
other_kind Mac h = absurd cc
other_kind Edc h = absurd cc
other_kind Kku h = refl
other_kind DoubleKku h = refl
other_kind Nos h = refl

not_code : (k : Kind) → is_code k ≡ false → k ≢ OfCode
unfolding is_code
not_code k h e = false≢true (sym h ∙ ap is_code e)

-- the digits of a code are eight, or two halves with a blank between
pub record HalvesOf (c : List ℕ) : Type 0 where
  pub first : is_hex 4 (take 4 c) ≡ true
  pub second : is_hex 4 (drop 5 c) ≡ true
  pub text : c ≡ take 4 c ++ 32 ∷ drop 5 c

fifth : (xs : List ℕ) (n : ℕ) → take 1 (drop n xs) ≡ 32 ∷ [] → xs ≡ take n xs ++ 32 ∷ drop (suc n) xs
fifth [] zero h = absurd cc
fifth [] (suc n) h = absurd cc
fifth (x ∷ xs) zero h = let k : x ≡ 32 = cc in ap (λ (b : ℕ). b ∷ xs) k
fifth (x ∷ xs) (suc n) h = ap (λ (b : List ℕ). x ∷ b) (fifth xs n h)

pub code_cases : (c d : List ℕ) → code_digits c ≡ Some d → (is_hex 8 c ≡ true) ⊎ HalvesOf c
code_cases c d h = go (is_hex 8 c) refl h where
  rest : Bool → Option (List ℕ)
  rest b = cond b (Some (take 4 c ++ drop 5 c)) None

  go : (b : Bool) → is_hex 8 c ≡ b → cond b (Some c) (rest (is_hex 4 (take 4 c) && (bytes_eq (take 1 (drop 4 c)) (codes " ") && is_hex 4 (drop 5 c)))) ≡ Some d → (is_hex 8 c ≡ true) ⊎ HalvesOf c
  go true e i = inl e
  go false e i =
      let k = and_parts (is_hex 4 (take 4 c)) _ (some_when _ _ d i) in
      let j = and_parts (bytes_eq (take 1 (drop 4 c)) (codes " ")) _ k.1 in
      inr (record { first = k.0; second = j.1; text = fifth c 4 ((bytes_decides _ _).0 j.0) })

-- the contents of a code are no half of one
pub code_not_half : (c d : List ℕ) → code_digits c ≡ Some d → is_hex 4 c ≡ false
code_not_half c d h = false_from_ne_true (is_hex 4 c) (λ i. four c (eqb-true _ _ (and_parts _ _ i).0) h) where
  four : (c : List ℕ) → length c ≡ 4 → code_digits c ≡ Some d → ⊥
  four [] k i = absurd (omega arith)
  four (w ∷ []) k i = absurd (omega arith)
  four (w ∷ x ∷ []) k i = absurd (omega arith)
  four (w ∷ x ∷ y ∷ []) k i = absurd (omega arith)
  four (w ∷ x ∷ y ∷ z ∷ []) k i = go (is_hex 4 (w ∷ x ∷ y ∷ z ∷ [])) i where
    go : (b : Bool) → cond (b && false) (Some ((w ∷ x ∷ y ∷ z ∷ []) ++ [])) None ≡ Some d → ⊥
    go true j = cc
    go false j = cc
  four (u ∷ w ∷ x ∷ y ∷ z ∷ zs) k i = absurd (omega arith)

name_is_plain : (t : Tag) → ArePlain (tag_name t)
name_is_plain t = each_tag (λ s. list_all is_plain (tag_name s)) refl t

text_plain : (t : Tag) (c : List ℕ) → ArePlain c → ArePlain (tag_name t ++ 47 ∷ c)
text_plain t c h = list_all-append is_plain (tag_name t) (47 ∷ c) ∙ and_from _ _ (name_is_plain t) (and_from _ _ refl h)

pub filled : (xs ys : List ℕ) (b : ℕ) → xs ++ b ∷ ys ≢ []
filled [] ys b h = cc
filled (x ∷ xs) ys b h = cc

code_token : (t : Tag) (c d : List ℕ) → is_closing t ≡ true → code_digits c ≡ Some d → IsToken (tag_name t ++ 47 ∷ c)
code_token t c d s h = go (code_cases c d h) where
  go : (is_hex 8 c ≡ true) ⊎ HalvesOf c → IsToken (tag_name t ++ 47 ∷ c)
  go (inl e) = inl (record { filled = filled (tag_name t) c 47; plain = text_plain t c (hex_plain 8 c e); other = closing_half t c s ∙ code_not_half c d h })
  go (inr e) = inr (record {
    first = tag_name t ++ 47 ∷ take 4 c;
    second = drop 5 c;
    half = closing_half t (take 4 c) s ∙ e.first;
    plain = text_plain t (take 4 c) (hex_plain 4 (take 4 c) e.first);
    digits = e.second;
    text = ap (λ (x : List ℕ). tag_name t ++ 47 ∷ x) e.text ∙ sym (append_assoc (tag_name t) (47 ∷ take 4 c) (32 ∷ drop 5 c));
  })

-- the text of a field whose contents stand for a value is one token
pub token_of_field : (f : Field) (v : Value) → value_of (kind_of f.tag) f.contents ≡ Some v → IsToken (field_text f)
token_of_field f v h = go (is_closing f.tag) refl where
  go : (b : Bool) → is_closing f.tag ≡ b → IsToken (field_text f)
  go true e =
      let k = mapped _ (code_digits f.contents) v (subst (λ (k : Kind). value_of k f.contents ≡ Some v) (code_kind f.tag e) h) in
      code_token f.tag f.contents k.0 e k.1
  go false e =
      let p = plain_contents (kind_of f.tag) f.contents v h (not_code _ (other_kind f.tag e)) in
      inl (record { filled = filled (tag_name f.tag) f.contents 47; plain = text_plain f.tag f.contents p; other = named_half f.tag f.contents e })

-- and no half of a code
pub field_not_half : (f : Field) (v : Value) → value_of (kind_of f.tag) f.contents ≡ Some v → is_half (field_text f) ≡ false
field_not_half f v h = go (is_closing f.tag) refl where
  go : (b : Bool) → is_closing f.tag ≡ b → is_half (field_text f) ≡ false
  go true e =
      let k = mapped _ (code_digits f.contents) v (subst (λ (k : Kind). value_of k f.contents ≡ Some v) (code_kind f.tag e) h) in
      closing_half f.tag f.contents e ∙ code_not_half f.contents k.0 k.1
  go false e = named_half f.tag f.contents e
