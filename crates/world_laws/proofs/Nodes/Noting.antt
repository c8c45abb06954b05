-- The fact of a text that is written is that of its reply.
use Rattle.std.proofs.Common.{arith, ◌≡◌, ℕ, ◌-◌, List, [], ◌∷◌, ◌++◌, length, take, map, Option, Some, None, option_map, refl, sym, ap, ◌∙◌, length-append}
use Rattle.std.specs.Prelude.{codes, option_to_list}
use Rattle.hex.specs.Hex.{encode_with}
use Rattle.x_mac.specs.Code.{mac_of}
use Rattle.csm_grammar.specs.declared.message.Message.{Message}
use Rattle.csm_write.specs.declared.closing.Closing.TheVariants as closing
use Rattle.csm_write.specs.Canon.{canon, auth_of, code_digits}
use Rattle.party_state.specs.Rows.{Reply, Coded, Plain, Again}
use Rattle.role_base.specs.Deciding.{name_of}
use Rattle.role_base.specs.Texts.{text_of}
use Rattle.fact_book.specs.Facts.{NamedText}
use Rattle.world_laws.specs.World.{Fact}
use Rattle.world_laws.specs.Honest.{named_text}
use Rattle.world_laws.specs.Noted.{authenticated_in, noted}
use Rattle.world_laws.specs.Steps.{facts_of, texts_of}

-- the authenticated text of a text that is closed by a code

eight_digits : (n : ℕ) → length (code_digits n) ≡ 8
unfolding encode_with
eight_digits n = refl

take_front : (front back : List ℕ) → take (length front) (front ++ back) ≡ front
take_front [] back = refl
take_front (b ∷ front) back = ap (λ (l : List ℕ). b ∷ l) (take_front front back)

before_code : (front code : List ℕ) → length code ≡ 13 → authenticated_in (front ++ code) ≡ front
before_code front code size =
    let place : length (front ++ code) - 13 ≡ length front = omega (arith, length-append front code, size) in
    ap (λ (n : ℕ). take n (front ++ code)) place ∙ take_front front code

closing_size : (digits : List ℕ) → length digits ≡ 8 → length ((codes "MAC" ++ 47 ∷ digits) ++ codes ")") ≡ 13
closing_size digits size = omega (arith, length-append digits (codes ")"), size)

coded_auth : (m : Message) (value : ℕ) → authenticated_in (canon m (closing.Mac value)) ≡ auth_of m
coded_auth m value =
    let digits = code_digits (mac_of value (auth_of m)) in
    before_code (auth_of m) ((codes "MAC" ++ 47 ∷ digits) ++ codes ")") (closing_size digits (eight_digits (mac_of value (auth_of m))))

-- the text and the fact of a reply

pub texts_same : (o : Option Reply) → texts_of o ≡ option_to_list (option_map text_of o)
texts_same None = refl
texts_same (Some r) = refl

pub noted_is : (own : List ℕ) (reply : Option Reply) → map named_text (facts_of own reply) ≡ noted (name_of reply) (option_map text_of reply)
unfolding text_of
noted_is own None = refl
noted_is own (Some (Coded m under value)) = λ i. record { under = under; text = (sym (coded_auth m value)) i } ∷ []
noted_is own (Some (Plain m)) = refl
noted_is own (Some (Again text)) = refl

map_both : (fs gs : List Fact) → map named_text (fs ++ gs) ≡ map named_text fs ++ map named_text gs
map_both [] gs = refl
map_both (f ∷ fs) gs = ap (λ (l : List NamedText). named_text f ∷ l) (map_both fs gs)

pub facts_noted : (facts : List Fact) (own : List ℕ) (reply : Option Reply) → map named_text (facts ++ facts_of own reply) ≡ map named_text facts ++ noted (name_of reply) (option_map text_of reply)
facts_noted facts own reply = map_both facts (facts_of own reply) ∙ ap (λ (l : List NamedText). map named_text facts ++ l) (noted_is own reply)
