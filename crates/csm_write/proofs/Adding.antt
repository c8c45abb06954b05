-- Fields appended one after another.
use Rattle.std.proofs.Common.{◌≡◌, ℕ, List, ◌++◌, map, Result, Ok, Err, sym, ◌∙◌, ap, append_assoc}
use Rattle.std.specs.Prelude.{codes, OnOk}
use Rattle.std.specs.List.{flat_map}
use Rattle.std.proofs.lemmas.List.{map-append}
use Rattle.std.proofs.lemmas.List.Concat.{flat_map-append}
use Rattle.std.proofs.lemmas.List.Elements.{All-append}
use Rattle.x_base.specs.declared.text.NoMemory.{NoMemory}
use Rattle.csm_grammar.specs.Messages.{Valued}
use Rattle.csm_grammar.specs.Spelling.{Field, field_text}
use Rattle.csm_write.specs.Canon.{field_for}
use Rattle.csm_write.specs.Writable.{IsTypedField}
use Rattle.csm_write.specs.Writing.{blank_fields, Adds}

pub blank_fields_append : (vs ws : List Valued) → blank_fields (vs ++ ws) ≡ blank_fields vs ++ blank_fields ws
blank_fields_append vs ws =
    ap (flat_map (λ (f : Field). field_text f ++ codes " ")) (map-append field_for vs ws) ∙ flat_map-append (λ (f : Field). field_text f ++ codes " ") (map field_for vs) (map field_for ws)

adds_more : (a b c : List ℕ) (vs ws : List Valued) → Adds a b vs → Adds b c ws → Adds a c (vs ++ ws)
adds_more a b c vs ws g h = record {
  text = h.text ∙ ap (λ (xs : List ℕ). xs ++ blank_fields ws) g.text ∙ append_assoc a (blank_fields vs) (blank_fields ws) ∙ ap (λ (xs : List ℕ). a ++ xs) (sym (blank_fields_append vs ws));
  typed = All-append IsTypedField vs ws g.typed h.typed;
}

-- what was appended before a call that appends
pub adds_then : (a b c : List ℕ) (vs ws : List Valued) (r : Result (Unit {0}) NoMemory) → Adds a b vs → OnOk r (Adds b c ws) → OnOk r (Adds a c (vs ++ ws))
adds_then a b c vs ws (Ok u) g h = adds_more a b c vs ws g h
adds_then a b c vs ws (Err e) g h = _
