-- The forms of each class, and the tags that a form has (this project's profile).
use Rattle.std.specs.Prelude.{ℕ, ◌==◌, Bool, List, [], ◌∷◌, ◌++◌, length, slice_get, unwrap_or, codes, bytes_eq, if◌then◌else◌}
use Rattle.std.specs.List.{filter}
use Rattle.csm_grammar.specs.declared.tag.Tag.{Tag}
use Rattle.csm_grammar.specs.declared.tag.Tag.TheVariants.{Mcl, Rcv, Org, Svr, Idu, Idc, Idd, Ida, Idk1, Idk2, DoubleKk, Kk, Kd, Kdu, Ctp, Cta, Ctb, Ctr, Erf, Iv, Edk, P, Mac, Edc}
use Rattle.csm_grammar.specs.declared.form.Form.{Form}
use Rattle.csm_grammar.specs.declared.form.Form.TheVariants.{F1, F2, F3, F4, F5, F6, F7, F8, F9, F10, F11, F12, F13}
use Rattle.csm_grammar.specs.declared.form.Need.{Need}
use Rattle.csm_grammar.specs.declared.form.Need.TheVariants.{Required, Optional, Refused}
use Rattle.csm_grammar.specs.Tags.{has_tag, count_tag}

-- in the order in which they are tried
abbrev pub forms : List Form
forms = F1 ∷ F2 ∷ F3 ∷ F4 ∷ F5 ∷ F6 ∷ F7 ∷ F8 ∷ F13 ∷ F9 ∷ F10 ∷ F11 ∷ F12 ∷ []

-- the class of a form, as MCL writes it
abbrev pub class_text : Form → List ℕ
class_text F1 = codes "RSI"
class_text F2 = codes "RFS"
class_text F3 = codes "RTR"
class_text F4 = codes "RTR"
class_text F5 = codes "KSM"
class_text F6 = codes "KSM"
class_text F7 = codes "KSM"
class_text F8 = codes "KSM"
class_text F9 = codes "RSM"
class_text F10 = codes "ERS"
class_text F11 = codes "ESM"
class_text F12 = codes "DSM"
class_text F13 = codes "KSM"

-- the forms of the class that is written so
abbrev pub class_forms : List ℕ → List Form
class_forms c = filter (λ f. bytes_eq (class_text f) c) forms

-- the tags that a form must have beside MCL and its closing tag, in the writer's order; KD stands twice
-- where it has to come twice
abbrev pub required : Form → List Tag
required F1 = Rcv ∷ Org ∷ Svr ∷ []
required F2 = Rcv ∷ Org ∷ Idu ∷ Kd ∷ Cta ∷ []
required F3 = Rcv ∷ Org ∷ Idu ∷ Kdu ∷ Ctb ∷ []
required F4 = Rcv ∷ Org ∷ Idu ∷ Kd ∷ Kdu ∷ Cta ∷ Ctb ∷ []
required F5 = Rcv ∷ Org ∷ Kd ∷ Ctp ∷ []
required F6 = Rcv ∷ Org ∷ Idk1 ∷ DoubleKk ∷ Kd ∷ Ctp ∷ []
required F7 = Rcv ∷ Org ∷ Idk1 ∷ Kk ∷ Kd ∷ Ctp ∷ []
required F8 = Rcv ∷ Org ∷ Idc ∷ Kdu ∷ Ctb ∷ []
required F9 = Rcv ∷ Org ∷ []
required F10 = Rcv ∷ Org ∷ Idu ∷ Ctr ∷ Erf ∷ []
required F11 = Rcv ∷ Org ∷ Erf ∷ []
required F12 = Rcv ∷ Org ∷ Idd ∷ []
required F13 = Rcv ∷ Org ∷ Kd ∷ Kd ∷ Ctp ∷ []

-- those that it may have
abbrev pub optional : Form → List Tag
optional F1 = Idu ∷ []
optional F2 = []
optional F3 = Iv ∷ Edk ∷ P ∷ []
optional F4 = Iv ∷ Edk ∷ P ∷ []
optional F5 = Idk2 ∷ Iv ∷ Edk ∷ P ∷ []
optional F6 = Idk2 ∷ Iv ∷ Edk ∷ P ∷ []
optional F7 = Idk2 ∷ Iv ∷ Edk ∷ P ∷ []
optional F8 = Iv ∷ Edk ∷ P ∷ []
optional F9 = Idd ∷ Iv ∷ Edk ∷ P ∷ []
optional F10 = []
optional F11 = Ctp ∷ Cta ∷ Ctb ∷ Ctr ∷ []
optional F12 = Ida ∷ []
optional F13 = Idk2 ∷ Iv ∷ Edk ∷ P ∷ []

-- those that may close it
abbrev pub closing : Form → List Tag
closing F1 = Edc ∷ []
closing F2 = Mac ∷ []
closing F3 = Mac ∷ []
closing F4 = Mac ∷ []
closing F5 = Mac ∷ []
closing F6 = Mac ∷ []
closing F7 = Mac ∷ []
closing F8 = Mac ∷ []
closing F9 = Mac ∷ []
closing F10 = Mac ∷ []
closing F11 = Mac ∷ Edc ∷ []
closing F12 = Mac ∷ []
closing F13 = Mac ∷ []

-- the first closing tag of a form
abbrev pub code_tag : Form → Tag
code_tag f = unwrap_or (slice_get (closing f) 0) Mac

-- a form's only closing tag is required; where it has two, each is optional
abbrev pub need_of : Form → Tag → Need
need_of f t =
    if has_tag t (Mcl ∷ required f) then Required
    else if has_tag t (optional f) then Optional
    else if has_tag t (closing f) then (if length (closing f) == 1 then Required else Optional)
    else Refused

-- the form has the tag
abbrev pub allows : Form → Tag → Bool
allows f t = has_tag t (Mcl ∷ (required f ++ (optional f ++ closing f)))

-- how often the form has the tag: twice, once or never
abbrev pub times : Form → Tag → ℕ
times f t = count_tag t (Mcl ∷ (required f ++ (optional f ++ closing f)))
