-- Sets of forms, a bit for each, as the reader keeps them.
use Rattle.std.specs.Prelude.{ℕ, ◌==◌, Bool, List}
use Rattle.std.specs.List.{filter}
use Rattle.std.specs.Int.{bit_at}
use Rattle.csm_grammar.specs.declared.form.Form.{Form}
use Rattle.csm_grammar.specs.Classes.{forms}
use Rattle.csm_grammar.specs.Letters.{form_place}

abbrev pub has_form : ℕ → Form → Bool
has_form bits f = bit_at bits (form_place f) == 1

-- in the order in which forms are tried
abbrev pub forms_in : ℕ → List Form
forms_in bits = filter (has_form bits) forms
