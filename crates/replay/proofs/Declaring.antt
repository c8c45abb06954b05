-- How many parties a scenario declares.
use Rattle.std.proofs.Common.{◌≡◌, ℕ, ◌<◌, ◌≤◌, true, List, [], ◌∷◌, ◌++◌, length, refl, sym, ◌∙◌, subst, arith, append_assoc, length-append}
use Rattle.std.specs.List.{cons_option, filter_map}
use Rattle.std.proofs.lemmas.Bool.{and_parts, ltb-true}
use Rattle.std.proofs.lemmas.List.{append-nil}
use Rattle.std.proofs.lemmas.List.Elements.{filter_map-append}
use Rattle.x_base.specs.declared.party.Role.{Role}
use Rattle.scenario.specs.declared.line.Line.{Line}
use Rattle.scenario.specs.declared.line.Line.TheVariants as line
use Rattle.scenario.specs.Behind.{EachBehind}
use Rattle.scenario.specs.Rules.{declared, may_declare, may_follow}
use Rattle.course.specs.Parties.{party_in, parties_in}

-- a PARTY line alone declares one
same_count : (l : Line) (xs : List (List ℕ × Role)) (ys : List (List ℕ)) → length xs ≡ length ys → length (cons_option (declared l) xs) ≡ length (cons_option (party_in l) ys)
same_count (line.Party name role pair v) xs ys rest = omega (arith, rest)
same_count l xs ys rest = rest

count_parties : (lines : List Line) → length (filter_map declared lines) ≡ length (parties_in lines)
count_parties [] = refl
count_parties (l ∷ lines) = same_count l (filter_map declared lines) (parties_in lines) (count_parties lines)

declares_few : (front : List Line) (name : List ℕ) → may_declare front name ≡ true → length (parties_in front) < 64
declares_few front name may = omega (arith, count_parties front, ltb-true (length (filter_map declared front)) 64 (and_parts _ _ (and_parts _ _ may).1).0)

one_line : (front : List Line) (l : Line) → may_follow front l ≡ true → length (parties_in front) ≤ 64 → length (parties_in front ++ parties_in (l ∷ [])) ≤ 64
one_line front (line.Party name role pair v) may so_far = omega (arith, declares_few front name may, length-append (parties_in front) (name ∷ []))
one_line front l may so_far = subst (λ (ps : List (List ℕ)). length ps ≤ 64) (sym (append-nil (parties_in front))) so_far

few_up_to : (lines : List Line) → EachBehind may_follow lines → (front back : List Line) → lines ≡ front ++ back → length (parties_in front) ≤ 64 → length (parties_in lines) ≤ 64
few_up_to lines rules front [] is so_far = subst (λ (ls : List Line). length (parties_in ls) ≤ 64) (sym (is ∙ append-nil front)) so_far
few_up_to lines rules front (l ∷ back) is so_far =
    few_up_to lines rules (front ++ l ∷ []) back (is ∙ sym (append_assoc front (l ∷ []) back))
    (subst (λ (ps : List (List ℕ)). length ps ≤ 64) (sym (filter_map-append party_in front (l ∷ []))) (one_line front l (rules front back l is) so_far))

pub few_parties : (lines : List Line) → EachBehind may_follow lines → length (parties_in lines) ≤ 64
few_parties lines rules = few_up_to lines rules [] lines refl (omega arith)
