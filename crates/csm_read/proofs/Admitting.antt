-- The forms that have tags as often as they come, and the tags that are absent.
use Rattle.std.proofs.Common.{◌≡◌, ◌≤◌, ◌<◌, Bool, true, false, cond, List, [], ◌∷◌, ◌++◌, refl, sym, subst, arith}
use Rattle.std.specs.Prelude.{◌&&◌, not, nat_le, nat_lt, is_none}
use Rattle.std.proofs.lemmas.Bool.{and_parts, and_from, or_left, not-true, not-false, not_from_true, not_from_false, leb-true, leb-false, le-leb, ltb-true, ltb-false, lt-ltb, le-ltb}
use Rattle.csm_grammar.specs.declared.tag.Tag.{Tag}
use Rattle.csm_grammar.specs.declared.tag.Tag.TheVariants.{Mcl}
use Rattle.csm_grammar.specs.declared.form.Form.{Form}
use Rattle.csm_grammar.specs.Tags.{tags, same_tag, has_tag, count_tag}
use Rattle.csm_grammar.specs.Classes.{required, optional, closing, allows, times}
use Rattle.csm_grammar.proofs.TagLemmas.{each_tag, same_tags, same_itself}
use Rattle.csm_grammar.proofs.Counting.{count_append, count_here, count_other, present_count, present_from_count, all_at, none_found, found_nowhere, times_few, required_times, all_from}
use Rattle.csm_read.specs.Faults.{admits, is_absent, absent}

-- a required tag that is not absent comes as often as the form has it
not_absent : (g : Form) (t : Tag) (ts : List Tag) → is_absent g ts t ≡ false → times g t ≤ count_tag t ts
not_absent g t ts h = go (nat_le 2 (times g t)) refl h where
  go : (b : Bool) → nat_le 2 (times g t) ≡ b → cond b (nat_lt (count_tag t ts) 2) (not (has_tag t ts)) ≡ false → times g t ≤ count_tag t ts
  go true e i = let few = times_few g t in let c = ltb-false (count_tag t ts) 2 i in omega (arith, few, c)
  go false e i = let n = leb-false 2 (times g t) e in let c = present_count t ts (not-false _ i) in omega (arith, n, c)

comes_enough : (g : Form) (t : Tag) (ts : List Tag) → has_tag t (Mcl ∷ required g) ≡ true → times g t ≤ count_tag t ts → is_absent g ts t ≡ false
comes_enough g t ts h k = go (nat_le 2 (times g t)) refl where
  go : (b : Bool) → nat_le 2 (times g t) ≡ b → cond b (nat_lt (count_tag t ts) 2) (not (has_tag t ts)) ≡ false
  go true e = let n = leb-true 2 (times g t) e in le-ltb (count_tag t ts) 2 (omega (arith, n, k))
  go false e = let n = required_times g t h in not_from_true _ (present_from_count t ts (omega (arith, n, k)))

-- where none is absent, each required tag comes as often as the form has it
pub enough : (g : Form) (ts : List Tag) → is_none (absent g ts) ≡ true → (t : Tag) → has_tag t (Mcl ∷ required g) ≡ true → times g t ≤ count_tag t ts
enough g ts h t r = not_absent g t ts (not-true _ (all_at (λ s. not (is_absent g ts s)) (Mcl ∷ required g) t (none_found (is_absent g ts) (Mcl ∷ required g) h) r))

pub complete_from : (g : Form) (ts : List Tag) → ((t : Tag) → has_tag t (Mcl ∷ required g) ≡ true → times g t ≤ count_tag t ts) → is_none (absent g ts) ≡ true
complete_from g ts h = found_nowhere (is_absent g ts) (Mcl ∷ required g) (all_from (λ t. not (is_absent g ts t)) (Mcl ∷ required g) (λ t r. not_from_false _ (comes_enough g t ts r (h t r))))

-- a form has the tags, each as often as it comes
pub admitted : (g : Form) (ts : List Tag) → admits g ts ≡ true → (t : Tag) → count_tag t ts ≤ times g t
admitted g ts h t = leb-true (count_tag t ts) (times g t) (each_tag (λ s. nat_le (count_tag s ts) (times g s)) h t)

pub admits_from : (g : Form) (ts : List Tag) → ((t : Tag) → count_tag t ts ≤ times g t) → admits g ts ≡ true
admits_from g ts h = all_from (λ t. nat_le (count_tag t ts) (times g t)) tags (λ t i. le-leb (count_tag t ts) (times g t) (h t))

pub admits_allows : (g : Form) (t : Tag) (ts : List Tag) → admits g (t ∷ ts) ≡ true → allows g t ≡ true
admits_allows g t ts h =
    let n = admitted g (t ∷ ts) h t in
    let k = present_count t (t ∷ ts) (or_left _ _ (same_itself t)) in
    present_from_count t (Mcl ∷ (required g ++ (optional g ++ closing g))) (omega (arith, n, k))

either_way : (a b : Bool) → (a ≡ true → b ≡ true) → (b ≡ true → a ≡ true) → a ≡ b
either_way true true h k = refl
either_way true false h k = sym (h refl)
either_way false true h k = k refl
either_way false false h k = refl

-- one tag more
pub admits_more : (g : Form) (t : Tag) (ts : List Tag) → admits g (t ∷ ts) ≡ (admits g ts && nat_lt (count_tag t ts) (times g t))
admits_more g t ts = either_way _ _ apart (λ h. let k = and_parts (admits g ts) _ h in joined k.0 (ltb-true (count_tag t ts) (times g t) k.1)) where
  apart : admits g (t ∷ ts) ≡ true → (admits g ts && nat_lt (count_tag t ts) (times g t)) ≡ true
  apart h =
      let all = admitted g (t ∷ ts) h in
      let here = count_here t t ts (same_itself t) in
      let k = all t in
      and_from _ _ (admits_from g ts (λ s. let c = count_append s (t ∷ []) ts in let n = all s in omega (arith, c, n))) (lt-ltb (count_tag t ts) (times g t) (omega (arith, here, k)))

  joined : admits g ts ≡ true → count_tag t ts < times g t → admits g (t ∷ ts) ≡ true
  joined h k = admits_from g (t ∷ ts) (λ s. one s (same_tag t s) refl) where
    one : (s : Tag) (b : Bool) → same_tag t s ≡ b → count_tag s (t ∷ ts) ≤ times g s
    one s true e = let i = same_tags t s e in subst (λ (u : Tag). count_tag u (t ∷ ts) ≤ times g u) i (let here = count_here t t ts (same_itself t) in omega (arith, here, k))
    one s false e = let n = admitted g ts h s in let c = count_other s t ts e in omega (arith, n, c)

-- the order of tags makes no difference
pub admits_turned : (g : Form) (t : Tag) (ts : List Tag) → admits g (ts ++ t ∷ []) ≡ admits g (t ∷ ts)
admits_turned g t ts = either_way _ _ (λ h. admits_from g (t ∷ ts) (λ s. let n = admitted g (ts ++ t ∷ []) h s in let c = count_append s ts (t ∷ []) in let d = count_append s (t ∷ []) ts in omega (arith, n, c, d)))
    (λ h. admits_from g (ts ++ t ∷ []) (λ s. let n = admitted g (t ∷ ts) h s in let c = count_append s ts (t ∷ []) in let d = count_append s (t ∷ []) ts in omega (arith, n, c, d)))
