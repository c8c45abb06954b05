-- A token and the field that it writes.
use Rattle.std.proofs.Common.{◌≡◌, ℕ, suc, ◌+◌, Bool, true, false, List, [], ◌∷◌, ◌++◌, take, drop, Option, Some, None, refl, sym, ◌∙◌, ap, arith}
use Rattle.std.specs.Prelude.{◌==◌, ◌||◌, not, option_map}
use Rattle.std.specs.List.{list_any, position_or_len}
use Rattle.std.proofs.lemmas.Bool.{eqb-true, and_parts, not-false}
use Rattle.csm_grammar.specs.declared.tag.Tag.{Tag}
use Rattle.csm_grammar.specs.declared.tag.Tag.TheVariants.{Mcl, Rcv, Org, Svr, Idu, Idc, Idd, Ida, Idk1, Idk2, DoubleKk, Kk, Kd, Kdu, Ctp, Cta, Ctb, Ctr, Erf, Iv, Edk, P, Mac, Edc, Kku, DoubleKku, Nos}
use Rattle.csm_grammar.specs.declared.refusal.ReadRefusal.{ReadRefusal}
use Rattle.csm_grammar.specs.declared.refusal.ReadRefusal.TheVariants as refusal
use Rattle.csm_grammar.specs.Tags.{tag_name, tag_of, is_closing}
use Rattle.csm_grammar.specs.Values.{is_hex}
use Rattle.csm_grammar.specs.Spelling.{Field, field_text}
use Rattle.csm_read.specs.Units.{Standing, tag_text, contents_text, is_half}
use Rattle.csm_read.specs.Faults.{refuse, is_tagged, field_of, fault_of, fault_of_field}
use Rattle.csm_grammar.proofs.TagLemmas.{name_of_tag}

abbrev pub field : Tag → List ℕ → Field
field t c = record { tag = t; contents = c }

named_field : (p : ℕ) (t : Tag) (c : List ℕ) → field_of (record { place = p; text = tag_name t ++ 47 ∷ c }) ≡ Some (field t c)
named_field p Mcl c = refl
named_field p Rcv c = refl
named_field p Org c = refl
named_field p Svr c = refl
named_field p Idu c = refl
named_field p Idc c = refl
named_field p Idd c = refl
named_field p Ida c = refl
named_field p Idk1 c = refl
named_field p Idk2 c = refl
named_field p DoubleKk c = refl
named_field p Kk c = refl
named_field p Kd c = refl
named_field p Kdu c = refl
named_field p Ctp c = refl
named_field p Cta c = refl
named_field p Ctb c = refl
named_field p Ctr c = refl
named_field p Erf c = refl
named_field p Iv c = refl
named_field p Edk c = refl
named_field p P c = refl
named_field p Mac c = refl
named_field p Edc c = refl
named_field p Kku c = refl
named_field p DoubleKku c = refl
named_field p Nos c = refl

-- the text of a field writes that field
pub field_written : (p : ℕ) (f : Field) → field_of (record { place = p; text = field_text f }) ≡ Some f
field_written p f = named_field p f.tag f.contents

pub named_tagged : (t : Tag) (c : List ℕ) → is_tagged (tag_name t ++ 47 ∷ c) ≡ true
named_tagged Mcl c = refl
named_tagged Rcv c = refl
named_tagged Org c = refl
named_tagged Svr c = refl
named_tagged Idu c = refl
named_tagged Idc c = refl
named_tagged Idd c = refl
named_tagged Ida c = refl
named_tagged Idk1 c = refl
named_tagged Idk2 c = refl
named_tagged DoubleKk c = refl
named_tagged Kk c = refl
named_tagged Kd c = refl
named_tagged Kdu c = refl
named_tagged Ctp c = refl
named_tagged Cta c = refl
named_tagged Ctb c = refl
named_tagged Ctr c = refl
named_tagged Erf c = refl
named_tagged Iv c = refl
named_tagged Edk c = refl
named_tagged P c = refl
named_tagged Mac c = refl
named_tagged Edc c = refl
named_tagged Kku c = refl
named_tagged DoubleKku c = refl
named_tagged Nos c = refl

pub named_half : (t : Tag) (c : List ℕ) → is_closing t ≡ false → is_half (tag_name t ++ 47 ∷ c) ≡ false
named_half Mcl c h = refl
named_half Rcv c h = refl
named_half Org c h = refl
named_half Svr c h = refl
named_half Idu c h = refl
named_half Idc c h = refl
named_half Idd c h = refl
named_half Ida c h = refl
named_half Idk1 c h = refl
named_half Idk2 c h = refl
named_half DoubleKk c h = refl
named_half Kk c h = refl
named_half Kd c h = refl
named_half Kdu c h = refl
named_half Ctp c h = refl
named_half Cta c h = refl
named_half Ctb c h = refl
named_half Ctr c h = refl
named_half Erf c h = refl
named_half Iv c h = refl
named_half Edk c h = refl
named_half P c h = refl
named_half Mac c h = absurd cc
named_half Edc c h = absurd cc
named_half Kku c h = refl
named_half DoubleKku c h = refl
named_half Nos c h = refl

pub closing_half : (t : Tag) (c : List ℕ) → is_closing t ≡ true → is_half (tag_name t ++ 47 ∷ c) ≡ is_hex 4 c
closing_half Mcl c h = absurd cc
closing_half Rcv c h = absurd cc
closing_half Org c h = absurd cc
closing_half Svr c h = absurd cc
closing_half Idu c h = absurd cc
closing_half Idc c h = absurd cc
closing_half Idd c h = absurd cc
closing_half Ida c h = absurd cc
closing_half Idk1 c h = absurd cc
closing_half Idk2 c h = absurd cc
closing_half DoubleKk c h = absurd cc
closing_half Kk c h = absurd cc
closing_half Kd c h = absurd cc
closing_half Kdu c h = absurd cc
closing_half Ctp c h = absurd cc
closing_half Cta c h = absurd cc
closing_half Ctb c h = absurd cc
closing_half Ctr c h = absurd cc
closing_half Erf c h = absurd cc
closing_half Iv c h = absurd cc
closing_half Edk c h = absurd cc
closing_half P c h = absurd cc
closing_half Mac c h = refl
closing_half Edc c h = refl
closing_half Kku c h = absurd cc
closing_half DoubleKku c h = absurd cc
closing_half Nos c h = absurd cc

-- a text with `/` is what stands before the first one, and behind it
one_more : (b : ℕ) (bs : List ℕ) (n : ℕ) → take (1 + n) (b ∷ bs) ++ 47 ∷ drop (1 + n + 1) (b ∷ bs) ≡ b ∷ (take n bs ++ 47 ∷ drop (n + 1) bs)
one_more b bs n =
    let i : 1 + n ≡ suc n = omega arith in
    let j : 1 + n + 1 ≡ suc (n + 1) = omega arith in
    ap (λ (k : ℕ). take k (b ∷ bs) ++ 47 ∷ drop (1 + n + 1) (b ∷ bs)) i ∙ ap (λ (k : ℕ). (b ∷ take n bs) ++ 47 ∷ drop k (b ∷ bs)) j

split_here : (b : ℕ) (bs : List ℕ) (here : Bool) → (b == 47) ≡ here → (list_any (λ x. x == 47) bs ≡ true → bs ≡ tag_text bs ++ 47 ∷ contents_text bs) → (here || list_any (λ x. x == 47) bs) ≡ true → b ∷ bs ≡ tag_text (b ∷ bs) ++ 47 ∷ contents_text (b ∷ bs)
split_here b bs true e more h = rw e (ap (λ (x : ℕ). x ∷ bs) (eqb-true b 47 e))
split_here b bs false e more h = rw e (ap (λ (x : List ℕ). b ∷ x) (more h) ∙ sym (one_more b bs (position_or_len (λ x. x == 47) bs)))

pub split_text : (t : List ℕ) → list_any (λ x. x == 47) t ≡ true → t ≡ tag_text t ++ 47 ∷ contents_text t
split_text [] h = absurd cc
split_text (b ∷ bs) h = split_here b bs (b == 47) refl (λ i. split_text bs i) h

-- a token whose field is known is the text of that field
pub text_of_field : (u : Standing) (f : Field) → is_tagged u.text ≡ true → field_of u ≡ Some f → u.text ≡ field_text f
text_of_field u f h e = go (tag_of (tag_text u.text)) refl e where
  go : (o : Option Tag) → tag_of (tag_text u.text) ≡ o → option_map (λ t. field t (contents_text u.text)) o ≡ Some f → u.text ≡ field_text f
  go None i k = absurd cc
  go (Some t) i k =
      let j : field t (contents_text u.text) ≡ f = cc in
      split_text u.text (and_parts _ _ h).0 ∙ ap (λ (x : List ℕ). x ++ 47 ∷ contents_text u.text) (sym (name_of_tag (tag_text u.text) t i)) ∙ ap field_text j

-- no fault: the test before doesn't hold, and what follows is none
pub refuse_none : (b : Bool) (r : ReadRefusal) (o : Option ReadRefusal) → refuse b r o ≡ None → (b ≡ false) × (o ≡ None)
refuse_none true r o h = absurd cc
refuse_none false r o h = (refl, h)

pub record IsField (before : List Field) (u : Standing) (f : Field) : Type 0 where
  pub written : field_of u ≡ Some f
  pub text : u.text ≡ field_text f
  pub tagged : is_tagged u.text ≡ true
  pub faultless : fault_of_field before u.place f ≡ None

-- a token without a fault is a field without one
pub is_field : (before : List Field) (u : Standing) → fault_of before u ≡ None → (f : Field) × IsField before u f
is_field before u h = go (field_of u) refl (refuse_none (not (is_tagged u.text)) (refusal.BadTag u.place) _ h) where
  known : Option Field → Option ReadRefusal
  known None = Some (refusal.UnknownTag u.place)
  known (Some f) = fault_of_field before u.place f

  go : (o : Option Field) → field_of u ≡ o → (not (is_tagged u.text) ≡ false) × (known o ≡ None) → (f : Field) × IsField before u f
  go None i k = absurd cc
  go (Some f) i k = (f, record { written = i; text = text_of_field u f (not-false _ k.0) i; tagged = not-false _ k.0; faultless = k.1 })

pub fault_of_written : (before : List Field) (p : ℕ) (f : Field) → fault_of before (record { place = p; text = field_text f }) ≡ fault_of_field before p f
fault_of_written before p f = rw (named_tagged f.tag f.contents, field_written p f) refl
