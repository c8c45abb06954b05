-- The contents of a field stand for its value.
use Rattle.std.proofs.Common.{refl}
use Rattle.csm_grammar.specs.declared.message.Service.{Service}
use Rattle.csm_grammar.specs.declared.message.Service.TheVariants as services
use Rattle.csm_grammar.specs.declared.form.Form.{Form}
use Rattle.csm_grammar.specs.declared.form.Form.TheVariants.{F1, F2, F3, F4, F5, F6, F7, F8, F9, F10, F11, F12, F13}
use Rattle.csm_grammar.specs.Classes.{class_text}
use Rattle.csm_grammar.specs.Values.{Value, AText, AName, AService, ANumber, APair, Kind, OfClass, OfIdent, OfService, OfName, OfLabel, OfPair, OfKey, OfCount, OfReason, OfText, OfCode, Unsupported, service_text, Denotes}
use Rattle.csm_write.specs.Canon.{contents_of}
use Rattle.csm_write.specs.Writable.{IsTyped, IsProperText}
use Rattle.csm_write.proofs.Hexadecimal.{key_stands, pair_stands, code_stands}
use Rattle.csm_write.proofs.Named.{name_stands, count_stands}

pub class_stands : (f : Form) → Denotes OfClass (class_text f) (AText (class_text f))
class_stands F1 = refl
class_stands F2 = refl
class_stands F3 = refl
class_stands F4 = refl
class_stands F5 = refl
class_stands F6 = refl
class_stands F7 = refl
class_stands F8 = refl
class_stands F9 = refl
class_stands F10 = refl
class_stands F11 = refl
class_stands F12 = refl
class_stands F13 = refl

service_stands : (s : Service) → Denotes OfService (service_text s) (AService s)
service_stands services.Kd = refl
service_stands services.KdKd = refl
service_stands services.Kk = refl
service_stands services.DoubleKk = refl
service_stands services.KkKd = refl
service_stands services.DoubleKkKd = refl

pub stands : (k : Kind) (v : Value) → IsTyped k v → IsProperText k v → Denotes k (contents_of k v) v
stands OfClass (AText bytes) t p = absurd t
stands OfClass (AName name) t p = absurd t
stands OfClass (AService service) t p = absurd t
stands OfClass (ANumber n) t p = absurd t
stands OfClass (APair l r) t p = absurd t
stands OfIdent (AText bytes) t p = rw t refl
stands OfIdent (AName name) t p = absurd t
stands OfIdent (AService service) t p = absurd t
stands OfIdent (ANumber n) t p = absurd t
stands OfIdent (APair l r) t p = absurd t
stands OfService (AText bytes) t p = absurd t
stands OfService (AName name) t p = absurd t
stands OfService (AService service) t p = service_stands service
stands OfService (ANumber n) t p = absurd t
stands OfService (APair l r) t p = absurd t
stands OfName (AText bytes) t p = absurd t
stands OfName (AName name) t p = name_stands name t
stands OfName (AService service) t p = absurd t
stands OfName (ANumber n) t p = absurd t
stands OfName (APair l r) t p = absurd t
stands OfLabel (AText bytes) t p = rw t refl
stands OfLabel (AName name) t p = absurd t
stands OfLabel (AService service) t p = absurd t
stands OfLabel (ANumber n) t p = absurd t
stands OfLabel (APair l r) t p = absurd t
stands OfPair (AText bytes) t p = absurd t
stands OfPair (AName name) t p = absurd t
stands OfPair (AService service) t p = absurd t
stands OfPair (ANumber n) t p = absurd t
stands OfPair (APair l r) t p = pair_stands l r t.0 t.1
stands OfKey (AText bytes) t p = absurd t
stands OfKey (AName name) t p = absurd t
stands OfKey (AService service) t p = absurd t
stands OfKey (ANumber n) t p = key_stands n t
stands OfKey (APair l r) t p = absurd t
stands OfCount (AText bytes) t p = absurd t
stands OfCount (AName name) t p = absurd t
stands OfCount (AService service) t p = absurd t
stands OfCount (ANumber n) t p = count_stands n t
stands OfCount (APair l r) t p = absurd t
stands OfReason (AText bytes) t p = p
stands OfReason (AName name) t p = absurd t
stands OfReason (AService service) t p = absurd t
stands OfReason (ANumber n) t p = absurd t
stands OfReason (APair l r) t p = absurd t
stands OfText (AText bytes) t p = p
stands OfText (AName name) t p = absurd t
stands OfText (AService service) t p = absurd t
stands OfText (ANumber n) t p = absurd t
stands OfText (APair l r) t p = absurd t
stands OfCode (AText bytes) t p = absurd t
stands OfCode (AName name) t p = absurd t
stands OfCode (AService service) t p = absurd t
stands OfCode (ANumber n) t p = code_stands n t
stands OfCode (APair l r) t p = absurd t
stands Unsupported (AText bytes) t p = absurd t
stands Unsupported (AName name) t p = absurd t
stands Unsupported (AService service) t p = absurd t
stands Unsupported (ANumber n) t p = absurd t
stands Unsupported (APair l r) t p = absurd t
