-- The canonical text of a message: `CSM(TAG/contents ..)` of ANSI X9.17, the one spelling in the
-- writer's order with single blanks that is this project's profile.
use Rattle.std.specs.Prelude.{ℕ, List, ◌∷◌, ◌++◌, map}
use Rattle.std.specs.Fmt.{decimal}
use Rattle.std.specs.Int.{w32, w64, to_be_bytes}
use Rattle.hex.specs.Hex.{encode_upper}
use Rattle.x_base.specs.KeyName.{written}
use Rattle.x_mac.specs.Code.{mac_of, edc_of}
use Rattle.csm_grammar.specs.declared.tag.Tag.TheVariants.{Mcl}
use Rattle.csm_grammar.specs.declared.message.Message.{Message}
use Rattle.csm_grammar.specs.declared.parsed.Shut.{Shut}
use Rattle.csm_grammar.specs.declared.parsed.Shut.TheVariants as shuts
use Rattle.csm_grammar.specs.Classes.{class_text}
use Rattle.csm_grammar.specs.Values.{Value, AText, AName, AService, ANumber, APair, Kind, OfKey, OfCode, kind_of, service_text}
use Rattle.csm_grammar.specs.Messages.{Valued, valued, form_of, fields_of, shut_field}
use Rattle.csm_grammar.specs.Spelling.{Field}
use Rattle.csm_grammar.specs.Written.{authenticated_fields, blank_text}
use Rattle.csm_write.specs.declared.closing.Closing.{Closing}
use Rattle.csm_write.specs.declared.closing.Closing.TheVariants as closings

-- a key in 16 upper-case digits, and a code in 8
abbrev pub key_digits : ℕ → List ℕ
key_digits key = encode_upper (to_be_bytes w64 key)

abbrev pub code_digits : ℕ → List ℕ
code_digits code = encode_upper (to_be_bytes w32 code)

-- the contents that a value has; a count is in decimal digits without leading zeros
abbrev pub contents_of : Kind → Value → List ℕ
contents_of k (AText bytes) = bytes
contents_of k (AName name) = written name
contents_of k (AService service) = service_text service
contents_of OfKey (ANumber key) = key_digits key
contents_of OfCode (ANumber code) = code_digits code
contents_of k (ANumber count) = decimal count
contents_of k (APair left right) = key_digits left ++ key_digits right

abbrev pub field_for : Valued → Field
field_for v = record { tag = v.tag; contents = contents_of (kind_of v.tag) v.value }

-- MCL and what follows it up to the code, in the writer's order
abbrev pub front_fields : Message → List Field
front_fields m = map field_for (valued Mcl (AText (class_text (form_of m))) ∷ fields_of m)

-- the authenticated text
abbrev pub auth_of : Message → List ℕ
auth_of m = authenticated_fields (front_fields m)

-- the code that closes an authenticated text
abbrev pub shut_over : List ℕ → Closing → Shut
shut_over auth (closings.Mac key) = shuts.Mac (mac_of key auth)
shut_over auth closings.Edc = shuts.Edc (edc_of auth)
shut_over auth (closings.Stated shut) = shut

abbrev pub shut_of : Message → Closing → Shut
shut_of m c = shut_over (auth_of m) c

abbrev pub canon : Message → Closing → List ℕ
canon m c = blank_text (front_fields m) (field_for (shut_field (shut_of m c)))
