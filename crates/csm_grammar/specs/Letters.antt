-- The class table as letters, a row for each form in the order in which they are tried.
use Rattle.std.specs.Prelude.{ℕ, nat_le, List, map, if◌then◌else◌}
use Rattle.std.specs.List.{flat_map}
use Rattle.csm_grammar.specs.declared.form.Form.{Form}
use Rattle.csm_grammar.specs.declared.form.Form.TheVariants.{F1, F2, F3, F4, F5, F6, F7, F8, F9, F10, F11, F12, F13}
use Rattle.csm_grammar.specs.declared.form.Need.{Need}
use Rattle.csm_grammar.specs.declared.form.Need.TheVariants.{Required, Optional, Refused}
use Rattle.csm_grammar.specs.declared.tag.Tag.{Tag}
use Rattle.csm_grammar.specs.Tags.{tags}
use Rattle.csm_grammar.specs.Classes.{forms, need_of, times}

-- R, O and X
abbrev pub letter : Need → ℕ
letter Required = 82
letter Optional = 79
letter Refused = 88

-- T for a tag that the form has twice
abbrev pub entry : Form → Tag → ℕ
entry f t = if nat_le 2 (times f t) then 84 else letter (need_of f t)

abbrev pub row : Form → List ℕ
row f = map (entry f) tags

unfoldable pub table : List ℕ
table = flat_map row forms

-- how many forms stand before a form
abbrev pub form_place : Form → ℕ
form_place F1 = 0
form_place F2 = 1
form_place F3 = 2
form_place F4 = 3
form_place F5 = 4
form_place F6 = 5
form_place F7 = 6
form_place F8 = 7
form_place F13 = 8
form_place F9 = 9
form_place F10 = 10
form_place F11 = 11
form_place F12 = 12
