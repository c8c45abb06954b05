-- The canonical text is read back.
use Rattle.std.proofs.Common.{◌≡◌, ℕ, List, [], ◌∷◌, ◌++◌, map, refl, sym, ◌∙◌, ap, inl, inr}
use Rattle.std.specs.List.{All, AllZip}
use Rattle.std.proofs.lemmas.List.Elements.{All-head, All-tail}
use Rattle.csm_grammar.specs.declared.message.Message.{Message}
use Rattle.csm_grammar.specs.declared.parsed.Shut.{Shut}
use Rattle.csm_grammar.specs.declared.parsed.Shut.TheVariants as shuts
use Rattle.csm_grammar.specs.declared.parsed.Parsed.{Parsed}
use Rattle.csm_grammar.specs.Values.{kind_of}
use Rattle.csm_grammar.specs.Messages.{Valued, form_of, fields_of, shut_field, all_fields}
use Rattle.csm_grammar.specs.Reading.{IsRead}
use Rattle.csm_grammar.specs.Written.{IsFor}
use Rattle.csm_read.specs.Laws.{OneAnswer, WrittenRead}
use Rattle.csm_write.specs.declared.closing.Closing.{Closing}
use Rattle.csm_write.specs.declared.closing.Closing.TheVariants as closings
use Rattle.csm_write.specs.Canon.{field_for, front_fields, auth_of, shut_of, canon}
use Rattle.csm_write.specs.Writable.{IsProperText, IsTypedField, IsTypedClosing, AreTyped}
use Rattle.canon_laws.specs.Laws.{read_of, CanonReadsBack, CanonRewrites}
use Rattle.csm_write.proofs.Codes.{mac_below}
use Rattle.csm_write.proofs.Standing.{class_stands, stands}

abbrev IsProper : Valued → Type 0
IsProper v = IsProperText (kind_of v.tag) v.value

field_stands : (v : Valued) → IsTypedField v → IsProper v → IsFor (field_for v) v
field_stands v t p = record { tag = refl; value = stands (kind_of v.tag) v.value t p }

-- the code is no text
code_proper : (shut : Shut) → IsProper (shut_field shut)
code_proper (shuts.Mac n) = _
code_proper (shuts.Edc n) = _

fields_stand : (vs : List Valued) (w : Valued) → All IsTypedField vs → All IsProper vs → IsFor (field_for w) w → AllZip IsFor (map field_for vs ++ field_for w ∷ []) (vs ++ w ∷ [])
fields_stand [] w t p h = (h, _)
fields_stand (v ∷ vs) w t p h = (
  field_stands v (All-head IsTypedField v vs t) (All-head IsProper v vs p),
  fields_stand vs w (All-tail IsTypedField v vs t) (All-tail IsProper v vs p) h,
)

code_typed : (m : Message) (c : Closing) → IsTypedClosing c → IsTypedField (shut_field (shut_of m c))
code_typed m (closings.Mac key) t = mac_below key (auth_of m)
code_typed m closings.Edc t = mac_below 0x0123456789ABCDEF (auth_of m)
code_typed m (closings.Stated shut) t = t

all_stand : (m : Message) (c : Closing) → AreTyped m c → All IsProper (fields_of m) → AllZip IsFor (front_fields m ++ field_for (shut_field (shut_of m c)) ∷ []) (all_fields m (shut_of m c))
all_stand m c t p = (
  record { tag = refl; value = class_stands (form_of m) },
  fields_stand (fields_of m) (shut_field (shut_of m c)) t.fields p (field_stands (shut_field (shut_of m c)) (code_typed m c t.closing) (code_proper (shut_of m c))),
)

pub reads_back : WrittenRead → CanonReadsBack
reads_back law m c t w rest = law (front_fields m) (field_for (shut_field (shut_of m c))) m (shut_of m c) rest (record {
  each = all_stand m c t w.texts;
  allowed = w.allowed;
  short = w.short;
})

one_read : OneAnswer → (b : List ℕ) (p q : Parsed) → IsRead b p → IsRead b q → p ≡ q
one_read law b p q hp hq = elim (law b) [
  | inl one ↦ one.alone p hp ∙ sym (one.alone q hq)
  | inr fault ↦ absurd (fault.unread p hp)
]

pub rewrites : OneAnswer → CanonReadsBack → CanonRewrites
rewrites one back m c t w rest p h =
    let e : p ≡ read_of m c = one_read one (canon m c ++ rest) p (read_of m c) h (back m c t w rest) in
    (ap (λ (q : Parsed). canon q.message c) e, ap (λ (q : Parsed). canon q.message (closings.Stated q.shut)) e)
