-- Any two forms of one class are told apart by a tag that one requires and the other refuses, or that
-- both require, not as often: KD in a message with one data key and with two.
use Rattle.std.proofs.Common.{◌≡◌, ℕ, Bool, true, refl}
use Rattle.std.specs.Prelude.{◌==◌, ◌&&◌, ◌||◌, not, bytes_eq}
use Rattle.std.specs.List.{list_any, list_all}
use Rattle.csm_grammar.specs.declared.tag.Tag.{Tag}
use Rattle.csm_grammar.specs.declared.form.Form.{Form}
use Rattle.csm_grammar.specs.declared.form.Need.{Need}
use Rattle.csm_grammar.specs.Tags.{tags, is_closing}
use Rattle.csm_grammar.specs.Classes.{forms, class_text, need_of, times}
use Rattle.csm_grammar.proofs.TagLemmas.{each_form, form_place}
use Rattle.csm_grammar.proofs.Counting.{is_refused, is_required}

abbrev pub parts_needs : Need → Need → ℕ → ℕ → Bool
parts_needs n k most other = (is_required n && is_refused k && not (most == 0)) || (is_required n && is_required k && not (most == other))

abbrev pub parts_forms : Form → Form → Tag → Bool
parts_forms g h t = not (is_closing t) && (parts_needs (need_of g t) (need_of h t) (times g t) (times h t) || parts_needs (need_of h t) (need_of g t) (times h t) (times g t))

abbrev told_apart : Form → Form → Bool
told_apart g h = (form_place g == form_place h) || (not (bytes_eq (class_text g) (class_text h)) || list_any (parts_forms g h) tags)

pub all_told_apart : (g h : Form) → told_apart g h ≡ true
all_told_apart g h = each_form (told_apart g) (each_form (λ f. list_all (told_apart f) forms) refl g) h
