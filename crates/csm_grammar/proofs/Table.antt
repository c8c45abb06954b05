-- The class table's facts.
use Rattle.std.proofs.Common.{◌≡◌, Bool, true, false, List, [], ◌∷◌, refl}
use Rattle.std.specs.Prelude.{◌&&◌, nat_le}
use Rattle.std.specs.List.{list_all}
use Rattle.csm_grammar.specs.declared.tag.Tag.{Tag}
use Rattle.csm_grammar.specs.declared.tag.Tag.TheVariants.{Mcl, Mac, Edc}
use Rattle.csm_grammar.specs.declared.form.Form.TheVariants.{F1, F5, F11}
use Rattle.csm_grammar.specs.declared.form.Need.{Need}
use Rattle.csm_grammar.specs.declared.form.Need.TheVariants.{Required, Optional, Refused}
use Rattle.csm_grammar.specs.Tags.{tag_place}
use Rattle.csm_grammar.specs.Classes.{forms, required, need_of}

abbrev in_order : List Tag → Bool
in_order [] = true
in_order (t ∷ []) = true
in_order (s ∷ t ∷ ts) = nat_le (tag_place s) (tag_place t) && in_order (t ∷ ts)

-- required tags are listed in the writer's order, one that comes twice side by side
writers_order : list_all (λ f. in_order (required f)) forms ≡ true
writers_order = refl

only_closing : need_of F1 Edc ≡ Required
only_closing = refl

either_closing : need_of F11 Mac ≡ Optional
either_closing = refl

other_closing : need_of F5 Edc ≡ Refused
other_closing = refl

abbrev is_required : Need → Bool
is_required Required = true
is_required Optional = false
is_required Refused = false

class_always : list_all (λ f. is_required (need_of f Mcl)) forms ≡ true
class_always = refl
