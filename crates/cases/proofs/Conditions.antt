-- What a store asks of a change.
use Rattle.std.proofs.Common.{◌≡◌, ℕ, ◌+◌, ◌*◌, ◌≤◌, List, [], ◌∷◌, length, refl, sym, ◌∙◌, ap, subst, arith, length-append}
use Rattle.std.proofs.lemmas.List.Elements.{All-weaker, All-head, All-tail}
use Rattle.std.specs.List.{All}
use Rattle.party_state.specs.State.{Party, apply_edit}
use Rattle.party_state.specs.Limits.{IsWithinLimits, StaysWithinLimits, GoOn}
use Rattle.party_state.specs.Ranges.{IsFitting, AreFitting, IsNoBegin, HasNoBegin}
use Rattle.party_state.specs.declared.edit.Edit.{Edit}
use Rattle.party_state.specs.declared.edit.Edit.TheVariants.{SetGen}
use Rattle.x_mac.specs.Code.{edc_of}
use Rattle.change_code.specs.declared.format.Format.{Format}
use Rattle.change_code.specs.declared.format.Format.TheVariants.{One, Two}
use Rattle.change_code.specs.Code.{two, four, eight, edit_code, edits_code, change_text, number_of, code_of_change}
use Rattle.cases.specs.Seeds.{IsSeed, AreSeeds}

pub seeds_fit : (edits : List Edit) → AreSeeds edits → AreFitting edits
seeds_fit edits are = All-weaker IsSeed IsFitting (λ edit is. subst IsFitting (sym is) tt) edits are.all

seeds_go_on : (edits : List Edit) → AreSeeds edits → HasNoBegin edits
seeds_go_on edits are = All-weaker IsSeed IsNoBegin (λ edit is. subst IsNoBegin (sym is) tt) edits are.all

still_within : (v : ℕ) (party : Party) → IsWithinLimits party → IsWithinLimits (apply_edit (SetGen v) party)
still_within v party within = record { links = within.links; keys = within.keys }

all_within : (edits : List Edit) (party : Party) → All IsSeed edits → IsWithinLimits party → StaysWithinLimits edits party
all_within [] party all within = tt
all_within (edit ∷ edits) party all within =
    let next = subst (λ (e : Edit). IsWithinLimits (apply_edit e party)) (sym (All-head IsSeed edit edits all)) (still_within 1 party within) in
    (next, all_within edits (apply_edit edit party) (All-tail IsSeed edit edits all) next)

seeds_within : (edits : List Edit) (party : Party) → AreSeeds edits → IsWithinLimits party → StaysWithinLimits edits party
seeds_within edits party are within = all_within edits party are.all within

pub seeds_go : (edits : List Edit) (party : Party) → AreSeeds edits → IsWithinLimits party → GoOn edits party
seeds_go edits party are within = record { goes_on = seeds_go_on edits are; within = seeds_within edits party are within }

two_long : (n : ℕ) → length (two n) ≡ 2
unfolding two
two_long n = refl

four_long : (n : ℕ) → length (four n) ≡ 4
unfolding four
four_long n = refl

eight_long : (n : ℕ) → length (eight n) ≡ 8
unfolding eight
eight_long n = refl

seed_long : (edit : Edit) → IsSeed edit → length (edit_code edit) ≡ 9
unfolding eight
seed_long edit is = ap (λ e. length (edit_code e)) is ∙ ap (λ n. 1 + n) (eight_long 1)

seeds_long : (edits : List Edit) → All IsSeed edits → length (edits_code edits) ≡ 9 * length edits
seeds_long [] all = refl
seeds_long (edit ∷ edits) all =
    let one = seed_long edit (All-head IsSeed edit edits all) in
    let more = seeds_long edits (All-tail IsSeed edit edits all) in
    let both = length-append (edit_code edit) (edits_code edits) in
    omega (arith, one, more, both)

text_short : (edits : List Edit) → AreSeeds edits → length (change_text edits) ≤ 589817
text_short edits are =
    let head = length-append (two (length edits)) (edits_code edits) in
    let number = two_long (length edits) in
    let rest = seeds_long edits are.all in
    let few = are.few in
    omega (arith, head, number, rest, few)

pub seeds_short : (f : Format) (edits : List Edit) → AreSeeds edits → length (code_of_change f edits) ≤ 4194304
seeds_short One edits are =
    let code = length-append (number_of One ∷ change_text edits) [] in
    omega (arith, code, text_short edits are)
seeds_short Two edits are =
    let code = length-append (number_of Two ∷ change_text edits) (four (edc_of (number_of Two ∷ change_text edits))) in
    omega (arith, code, text_short edits are, four_long (edc_of (number_of Two ∷ change_text edits)))
