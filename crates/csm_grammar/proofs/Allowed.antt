-- A message is closed by a code that its form allows.
use Rattle.std.proofs.Common.{◌≡◌, ℕ, ◌+◌, ◌≤◌, Bool, true, false, List, [], ◌∷◌, ◌++◌, refl, ◌∙◌, ap, arith}
use Rattle.std.proofs.lemmas.List.{map-append}
use Rattle.csm_grammar.specs.declared.tag.Tag.{Tag}
use Rattle.csm_grammar.specs.declared.message.Message.{Message}
use Rattle.csm_grammar.specs.declared.parsed.Shut.{Shut}
use Rattle.csm_grammar.specs.declared.parsed.Shut.TheVariants as shuts
use Rattle.csm_grammar.specs.Tags.{count_tag}
use Rattle.csm_grammar.specs.Classes.{allows}
use Rattle.csm_grammar.specs.Messages.{form_of, shut_field}
use Rattle.csm_grammar.specs.Spelling.{Field, Spelled, Spells, fields_in, tags_in}
use Rattle.csm_grammar.specs.Arrivals.{ReadAllows}
use Rattle.csm_grammar.proofs.Counting.{count_fields}
use Rattle.csm_grammar.proofs.Slots.{unallowed_count}

-- the code itself comes
code_comes : (shut : Shut) → count_tag (shut_field shut).tag ((shut_field shut).tag ∷ []) ≡ 1
code_comes (shuts.Mac n) = refl
code_comes (shuts.Edc n) = refl

closing_comes : (shut : Shut) (ss : List Spelled) (s : Spelled) → s.field.tag ≡ (shut_field shut).tag → 1 ≤ count_tag (shut_field shut).tag (tags_in (fields_in (ss ++ s ∷ [])))
closing_comes shut ss s e =
    let t : Tag = (shut_field shut).tag in
    let apart : fields_in (ss ++ s ∷ []) ≡ fields_in ss ++ s.field ∷ [] = map-append (λ (x : Spelled). x.field) ss (s ∷ []) in
    let last : count_tag t (s.field.tag ∷ []) ≡ 1 = ap (λ (u : Tag). count_tag t (u ∷ [])) e ∙ code_comes shut in
    let all : count_tag t (tags_in (fields_in (ss ++ s ∷ []))) ≡ count_tag t (tags_in (fields_in ss)) + count_tag t (s.field.tag ∷ []) = ap (λ (fs : List Field). count_tag t (tags_in fs)) apart ∙ count_fields t (fields_in ss) (s.field ∷ []) in
    omega arith

spelled_allows : (b : List ℕ) (m : Message) (shut : Shut) (n : ℕ) → Spells b m shut n → allows (form_of m) (shut_field shut).tag ≡ true
spelled_allows b m shut n s = go (allows (form_of m) (shut_field shut).tag) refl
  where
    go : (x : Bool) → allows (form_of m) (shut_field shut).tag ≡ x → x ≡ true
    go true e = refl
    go false e =
        let comes : 1 ≤ count_tag (shut_field shut).tag (tags_in (fields_in (s.fields ++ s.last ∷ []))) = closing_comes shut s.fields s.last s.code_last in
        let none : count_tag (shut_field shut).tag (tags_in (fields_in (s.fields ++ s.last ∷ []))) ≡ 0 = unallowed_count (form_of m) (fields_in (s.fields ++ s.last ∷ [])) (shut_field shut).tag s.form e in
        absurd (omega arith)

pub read_allows : ReadAllows
read_allows b p r = spelled_allows _ p.message p.shut p.auth_len r.spelled
