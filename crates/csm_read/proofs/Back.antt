-- A message from its form and its values, and that nothing is lost.
use Rattle.std.proofs.Common.{◌≡◌, ℕ, cond, List, [], ◌∷◌, Option, Some, None, refl}
use Rattle.x_base.specs.declared.key_name.KeyName.{KeyName}
use Rattle.csm_grammar.specs.declared.tag.Tag.{Tag}
use Rattle.csm_grammar.specs.declared.tag.Tag.TheVariants.{Rcv, Org, Svr, Idu, Idc, Idd, Ida, Idk1, Idk2, DoubleKk, Kk, Kd, Kdu, Ctp, Cta, Ctb, Ctr, Erf, Iv, Edk, P}
use Rattle.csm_grammar.specs.declared.form.Form.{Form}
use Rattle.csm_grammar.specs.declared.form.Form.TheVariants.{F1, F2, F3, F4, F5, F6, F7, F8, F9, F10, F11, F12, F13}
use Rattle.csm_grammar.specs.declared.message.Message.{Message}
use Rattle.csm_grammar.specs.declared.message.Message.TheVariants as message
use Rattle.csm_grammar.specs.declared.message.KsmBody.{KsmBody}
use Rattle.csm_grammar.specs.declared.message.KsmBody.TheVariants as body
use Rattle.csm_grammar.specs.declared.message.NewKk.{NewKk}
use Rattle.csm_grammar.specs.declared.message.NewKk.TheVariants as new_kk
use Rattle.csm_grammar.specs.declared.message.Service.{Service}
use Rattle.csm_grammar.specs.declared.parsed.Shut.{Shut}
use Rattle.csm_grammar.specs.declared.parsed.Shut.TheVariants as shuts
use Rattle.csm_grammar.specs.Tags.{is_closing}
use Rattle.csm_grammar.specs.Values.{Value, AText, AName, AService, ANumber, APair}
use Rattle.csm_grammar.specs.Messages.{form_of, all_fields}
use Rattle.csm_grammar.specs.Spelling.{values_for}
use Rattle.csm_read.proofs.Standing.{rsi, rfs, rtr, rtr_with_key, ksm, ksm_double, ksm_single, ksm_twin, ksm_centre, rsm, ers, esm, dsm}

abbrev ◌>>=◌ : {A B : Type 0} → Option A → (A → Option B) → Option B
◌>>=◌ None f = None
◌>>=◌ (Some x) f = f x

abbrev text : List Value → Option (List ℕ)
text (AText x ∷ vs) = Some x
text vs = None

abbrev name : List Value → Option KeyName
name (AName x ∷ vs) = Some x
name vs = None

abbrev service : List Value → Option Service
service (AService x ∷ vs) = Some x
service vs = None

abbrev numbers : List Value → Option (ℕ × ℕ)
numbers (ANumber x ∷ ANumber y ∷ vs) = Some (x, y)
numbers vs = None

abbrev number : List Value → Option ℕ
number (ANumber x ∷ vs) = Some x
number vs = None

abbrev pair : List Value → Option (ℕ × ℕ)
pair (APair x y ∷ vs) = Some (x, y)
pair vs = None

-- the message of a form with these values
pub message_by : Form → (Tag → List Value) → Option Message
message_by F1 g = do
  r ← text (g Rcv)
  o ← text (g Org)
  s ← service (g Svr)
  Some (rsi r o s (text (g Idu)))
message_by F2 g = do
  r ← text (g Rcv)
  o ← text (g Org)
  u ← text (g Idu)
  kd ← number (g Kd)
  cta ← number (g Cta)
  Some (rfs r o u kd cta)
message_by F3 g = do
  r ← text (g Rcv)
  o ← text (g Org)
  u ← text (g Idu)
  kdu ← number (g Kdu)
  ctb ← number (g Ctb)
  Some (rtr r o u kdu ctb (text (g Iv)) (text (g Edk)) (text (g P)))
message_by F4 g = do
  r ← text (g Rcv)
  o ← text (g Org)
  u ← text (g Idu)
  kd ← number (g Kd)
  kdu ← number (g Kdu)
  cta ← number (g Cta)
  ctb ← number (g Ctb)
  Some (rtr_with_key r o u kd kdu cta ctb (text (g Iv)) (text (g Edk)) (text (g P)))
message_by F5 g = do
  r ← text (g Rcv)
  o ← text (g Org)
  kd ← number (g Kd)
  ctp ← number (g Ctp)
  Some (ksm r o (text (g Idk2)) kd ctp (text (g Iv)) (text (g Edk)) (text (g P)))
message_by F6 g = do
  r ← text (g Rcv)
  o ← text (g Org)
  k1 ← text (g Idk1)
  kk ← pair (g DoubleKk)
  kd ← number (g Kd)
  ctp ← number (g Ctp)
  Some (ksm_double r o k1 (text (g Idk2)) kk kd ctp (text (g Iv)) (text (g Edk)) (text (g P)))
message_by F7 g = do
  r ← text (g Rcv)
  o ← text (g Org)
  k1 ← text (g Idk1)
  kk ← number (g Kk)
  kd ← number (g Kd)
  ctp ← number (g Ctp)
  Some (ksm_single r o k1 (text (g Idk2)) kk kd ctp (text (g Iv)) (text (g Edk)) (text (g P)))
message_by F13 g = do
  r ← text (g Rcv)
  o ← text (g Org)
  kds ← numbers (g Kd)
  ctp ← number (g Ctp)
  Some (ksm_twin r o (text (g Idk2)) kds.0 kds.1 ctp (text (g Iv)) (text (g Edk)) (text (g P)))
message_by F8 g = do
  r ← text (g Rcv)
  o ← text (g Org)
  centre ← text (g Idc)
  kdu ← number (g Kdu)
  ctb ← number (g Ctb)
  Some (ksm_centre r o centre kdu ctb (text (g Iv)) (text (g Edk)) (text (g P)))
message_by F9 g = do
  r ← text (g Rcv)
  o ← text (g Org)
  Some (rsm r o (name (g Idd)) (text (g Iv)) (text (g Edk)) (text (g P)))
message_by F10 g = do
  r ← text (g Rcv)
  o ← text (g Org)
  u ← text (g Idu)
  ctr ← number (g Ctr)
  erf ← text (g Erf)
  Some (ers r o u ctr erf)
message_by F11 g = do
  r ← text (g Rcv)
  o ← text (g Org)
  erf ← text (g Erf)
  Some (esm r o (number (g Ctp)) (number (g Cta)) (number (g Ctb)) (number (g Ctr)) erf)
message_by F12 g = do
  r ← text (g Rcv)
  o ← text (g Org)
  idd ← name (g Idd)
  Some (dsm r o idd (name (g Ida)))

-- the values of a message beside its code
abbrev pub values_beside : Message → Shut → Tag → List Value
values_beside m shut t = cond (is_closing t) [] (values_for t (all_fields m shut))

back_rsi : (r : List ℕ) (o : List ℕ) (s : Service) (u : Option (List ℕ)) (shut : Shut) → message_by F1 (values_beside (rsi r o s u) shut) ≡ Some (rsi r o s u)
unfolding message_by
back_rsi r o s None (shuts.Mac n) = refl
back_rsi r o s None (shuts.Edc n) = refl
back_rsi r o s (Some u) (shuts.Mac n) = refl
back_rsi r o s (Some u) (shuts.Edc n) = refl

back_rfs : (r : List ℕ) (o : List ℕ) (u : List ℕ) (kd : ℕ) (cta : ℕ) (shut : Shut) → message_by F2 (values_beside (rfs r o u kd cta) shut) ≡ Some (rfs r o u kd cta)
unfolding message_by
back_rfs r o u kd cta (shuts.Mac n) = refl
back_rfs r o u kd cta (shuts.Edc n) = refl

back_rtr : (r : List ℕ) (o : List ℕ) (u : List ℕ) (kdu : ℕ) (ctb : ℕ) (iv : Option (List ℕ)) (edk : Option (List ℕ)) (p : Option (List ℕ)) (shut : Shut) → message_by F3 (values_beside (rtr r o u kdu ctb iv edk p) shut) ≡ Some (rtr r o u kdu ctb iv edk p)
unfolding message_by
back_rtr r o u kdu ctb None None None (shuts.Mac n) = refl
back_rtr r o u kdu ctb None None None (shuts.Edc n) = refl
back_rtr r o u kdu ctb None None (Some p) (shuts.Mac n) = refl
back_rtr r o u kdu ctb None None (Some p) (shuts.Edc n) = refl
back_rtr r o u kdu ctb None (Some edk) None (shuts.Mac n) = refl
back_rtr r o u kdu ctb None (Some edk) None (shuts.Edc n) = refl
back_rtr r o u kdu ctb None (Some edk) (Some p) (shuts.Mac n) = refl
back_rtr r o u kdu ctb None (Some edk) (Some p) (shuts.Edc n) = refl
back_rtr r o u kdu ctb (Some iv) None None (shuts.Mac n) = refl
back_rtr r o u kdu ctb (Some iv) None None (shuts.Edc n) = refl
back_rtr r o u kdu ctb (Some iv) None (Some p) (shuts.Mac n) = refl
back_rtr r o u kdu ctb (Some iv) None (Some p) (shuts.Edc n) = refl
back_rtr r o u kdu ctb (Some iv) (Some edk) None (shuts.Mac n) = refl
back_rtr r o u kdu ctb (Some iv) (Some edk) None (shuts.Edc n) = refl
back_rtr r o u kdu ctb (Some iv) (Some edk) (Some p) (shuts.Mac n) = refl
back_rtr r o u kdu ctb (Some iv) (Some edk) (Some p) (shuts.Edc n) = refl

back_rtr_with_key : (r : List ℕ) (o : List ℕ) (u : List ℕ) (kd : ℕ) (kdu : ℕ) (cta : ℕ) (ctb : ℕ) (iv : Option (List ℕ)) (edk : Option (List ℕ)) (p : Option (List ℕ)) (shut : Shut) → message_by F4 (values_beside (rtr_with_key r o u kd kdu cta ctb iv edk p) shut) ≡ Some (rtr_with_key r o u kd kdu cta ctb iv edk p)
unfolding message_by
back_rtr_with_key r o u kd kdu cta ctb None None None (shuts.Mac n) = refl
back_rtr_with_key r o u kd kdu cta ctb None None None (shuts.Edc n) = refl
back_rtr_with_key r o u kd kdu cta ctb None None (Some p) (shuts.Mac n) = refl
back_rtr_with_key r o u kd kdu cta ctb None None (Some p) (shuts.Edc n) = refl
back_rtr_with_key r o u kd kdu cta ctb None (Some edk) None (shuts.Mac n) = refl
back_rtr_with_key r o u kd kdu cta ctb None (Some edk) None (shuts.Edc n) = refl
back_rtr_with_key r o u kd kdu cta ctb None (Some edk) (Some p) (shuts.Mac n) = refl
back_rtr_with_key r o u kd kdu cta ctb None (Some edk) (Some p) (shuts.Edc n) = refl
back_rtr_with_key r o u kd kdu cta ctb (Some iv) None None (shuts.Mac n) = refl
back_rtr_with_key r o u kd kdu cta ctb (Some iv) None None (shuts.Edc n) = refl
back_rtr_with_key r o u kd kdu cta ctb (Some iv) None (Some p) (shuts.Mac n) = refl
back_rtr_with_key r o u kd kdu cta ctb (Some iv) None (Some p) (shuts.Edc n) = refl
back_rtr_with_key r o u kd kdu cta ctb (Some iv) (Some edk) None (shuts.Mac n) = refl
back_rtr_with_key r o u kd kdu cta ctb (Some iv) (Some edk) None (shuts.Edc n) = refl
back_rtr_with_key r o u kd kdu cta ctb (Some iv) (Some edk) (Some p) (shuts.Mac n) = refl
back_rtr_with_key r o u kd kdu cta ctb (Some iv) (Some edk) (Some p) (shuts.Edc n) = refl

back_ksm : (r : List ℕ) (o : List ℕ) (k2 : Option (List ℕ)) (kd : ℕ) (ctp : ℕ) (iv : Option (List ℕ)) (edk : Option (List ℕ)) (p : Option (List ℕ)) (shut : Shut) → message_by F5 (values_beside (ksm r o k2 kd ctp iv edk p) shut) ≡ Some (ksm r o k2 kd ctp iv edk p)
unfolding message_by
back_ksm r o None kd ctp None None None (shuts.Mac n) = refl
back_ksm r o None kd ctp None None None (shuts.Edc n) = refl
back_ksm r o None kd ctp None None (Some p) (shuts.Mac n) = refl
back_ksm r o None kd ctp None None (Some p) (shuts.Edc n) = refl
back_ksm r o None kd ctp None (Some edk) None (shuts.Mac n) = refl
back_ksm r o None kd ctp None (Some edk) None (shuts.Edc n) = refl
back_ksm r o None kd ctp None (Some edk) (Some p) (shuts.Mac n) = refl
back_ksm r o None kd ctp None (Some edk) (Some p) (shuts.Edc n) = refl
back_ksm r o None kd ctp (Some iv) None None (shuts.Mac n) = refl
back_ksm r o None kd ctp (Some iv) None None (shuts.Edc n) = refl
back_ksm r o None kd ctp (Some iv) None (Some p) (shuts.Mac n) = refl
back_ksm r o None kd ctp (Some iv) None (Some p) (shuts.Edc n) = refl
back_ksm r o None kd ctp (Some iv) (Some edk) None (shuts.Mac n) = refl
back_ksm r o None kd ctp (Some iv) (Some edk) None (shuts.Edc n) = refl
back_ksm r o None kd ctp (Some iv) (Some edk) (Some p) (shuts.Mac n) = refl
back_ksm r o None kd ctp (Some iv) (Some edk) (Some p) (shuts.Edc n) = refl
back_ksm r o (Some k2) kd ctp None None None (shuts.Mac n) = refl
back_ksm r o (Some k2) kd ctp None None None (shuts.Edc n) = refl
back_ksm r o (Some k2) kd ctp None None (Some p) (shuts.Mac n) = refl
back_ksm r o (Some k2) kd ctp None None (Some p) (shuts.Edc n) = refl
back_ksm r o (Some k2) kd ctp None (Some edk) None (shuts.Mac n) = refl
back_ksm r o (Some k2) kd ctp None (Some edk) None (shuts.Edc n) = refl
back_ksm r o (Some k2) kd ctp None (Some edk) (Some p) (shuts.Mac n) = refl
back_ksm r o (Some k2) kd ctp None (Some edk) (Some p) (shuts.Edc n) = refl
back_ksm r o (Some k2) kd ctp (Some iv) None None (shuts.Mac n) = refl
back_ksm r o (Some k2) kd ctp (Some iv) None None (shuts.Edc n) = refl
back_ksm r o (Some k2) kd ctp (Some iv) None (Some p) (shuts.Mac n) = refl
back_ksm r o (Some k2) kd ctp (Some iv) None (Some p) (shuts.Edc n) = refl
back_ksm r o (Some k2) kd ctp (Some iv) (Some edk) None (shuts.Mac n) = refl
back_ksm r o (Some k2) kd ctp (Some iv) (Some edk) None (shuts.Edc n) = refl
back_ksm r o (Some k2) kd ctp (Some iv) (Some edk) (Some p) (shuts.Mac n) = refl
back_ksm r o (Some k2) kd ctp (Some iv) (Some edk) (Some p) (shuts.Edc n) = refl

back_ksm_double : (r : List ℕ) (o : List ℕ) (k1 : List ℕ) (k2 : Option (List ℕ)) (kk : ℕ × ℕ) (kd : ℕ) (ctp : ℕ) (iv : Option (List ℕ)) (edk : Option (List ℕ)) (p : Option (List ℕ)) (shut : Shut) → message_by F6 (values_beside (ksm_double r o k1 k2 kk kd ctp iv edk p) shut) ≡ Some (ksm_double r o k1 k2 kk kd ctp iv edk p)
unfolding message_by
back_ksm_double r o k1 None kk kd ctp None None None (shuts.Mac n) = refl
back_ksm_double r o k1 None kk kd ctp None None None (shuts.Edc n) = refl
back_ksm_double r o k1 None kk kd ctp None None (Some p) (shuts.Mac n) = refl
back_ksm_double r o k1 None kk kd ctp None None (Some p) (shuts.Edc n) = refl
back_ksm_double r o k1 None kk kd ctp None (Some edk) None (shuts.Mac n) = refl
back_ksm_double r o k1 None kk kd ctp None (Some edk) None (shuts.Edc n) = refl
back_ksm_double r o k1 None kk kd ctp None (Some edk) (Some p) (shuts.Mac n) = refl
back_ksm_double r o k1 None kk kd ctp None (Some edk) (Some p) (shuts.Edc n) = refl
back_ksm_double r o k1 None kk kd ctp (Some iv) None None (shuts.Mac n) = refl
back_ksm_double r o k1 None kk kd ctp (Some iv) None None (shuts.Edc n) = refl
back_ksm_double r o k1 None kk kd ctp (Some iv) None (Some p) (shuts.Mac n) = refl
back_ksm_double r o k1 None kk kd ctp (Some iv) None (Some p) (shuts.Edc n) = refl
back_ksm_double r o k1 None kk kd ctp (Some iv) (Some edk) None (shuts.Mac n) = refl
back_ksm_double r o k1 None kk kd ctp (Some iv) (Some edk) None (shuts.Edc n) = refl
back_ksm_double r o k1 None kk kd ctp (Some iv) (Some edk) (Some p) (shuts.Mac n) = refl
back_ksm_double r o k1 None kk kd ctp (Some iv) (Some edk) (Some p) (shuts.Edc n) = refl
back_ksm_double r o k1 (Some k2) kk kd ctp None None None (shuts.Mac n) = refl
back_ksm_double r o k1 (Some k2) kk kd ctp None None None (shuts.Edc n) = refl
back_ksm_double r o k1 (Some k2) kk kd ctp None None (Some p) (shuts.Mac n) = refl
back_ksm_double r o k1 (Some k2) kk kd ctp None None (Some p) (shuts.Edc n) = refl
back_ksm_double r o k1 (Some k2) kk kd ctp None (Some edk) None (shuts.Mac n) = refl
back_ksm_double r o k1 (Some k2) kk kd ctp None (Some edk) None (shuts.Edc n) = refl
back_ksm_double r o k1 (Some k2) kk kd ctp None (Some edk) (Some p) (shuts.Mac n) = refl
back_ksm_double r o k1 (Some k2) kk kd ctp None (Some edk) (Some p) (shuts.Edc n) = refl
back_ksm_double r o k1 (Some k2) kk kd ctp (Some iv) None None (shuts.Mac n) = refl
back_ksm_double r o k1 (Some k2) kk kd ctp (Some iv) None None (shuts.Edc n) = refl
back_ksm_double r o k1 (Some k2) kk kd ctp (Some iv) None (Some p) (shuts.Mac n) = refl
back_ksm_double r o k1 (Some k2) kk kd ctp (Some iv) None (Some p) (shuts.Edc n) = refl
back_ksm_double r o k1 (Some k2) kk kd ctp (Some iv) (Some edk) None (shuts.Mac n) = refl
back_ksm_double r o k1 (Some k2) kk kd ctp (Some iv) (Some edk) None (shuts.Edc n) = refl
back_ksm_double r o k1 (Some k2) kk kd ctp (Some iv) (Some edk) (Some p) (shuts.Mac n) = refl
back_ksm_double r o k1 (Some k2) kk kd ctp (Some iv) (Some edk) (Some p) (shuts.Edc n) = refl

back_ksm_single : (r : List ℕ) (o : List ℕ) (k1 : List ℕ) (k2 : Option (List ℕ)) (kk : ℕ) (kd : ℕ) (ctp : ℕ) (iv : Option (List ℕ)) (edk : Option (List ℕ)) (p : Option (List ℕ)) (shut : Shut) → message_by F7 (values_beside (ksm_single r o k1 k2 kk kd ctp iv edk p) shut) ≡ Some (ksm_single r o k1 k2 kk kd ctp iv edk p)
unfolding message_by
back_ksm_single r o k1 None kk kd ctp None None None (shuts.Mac n) = refl
back_ksm_single r o k1 None kk kd ctp None None None (shuts.Edc n) = refl
back_ksm_single r o k1 None kk kd ctp None None (Some p) (shuts.Mac n) = refl
back_ksm_single r o k1 None kk kd ctp None None (Some p) (shuts.Edc n) = refl
back_ksm_single r o k1 None kk kd ctp None (Some edk) None (shuts.Mac n) = refl
back_ksm_single r o k1 None kk kd ctp None (Some edk) None (shuts.Edc n) = refl
back_ksm_single r o k1 None kk kd ctp None (Some edk) (Some p) (shuts.Mac n) = refl
back_ksm_single r o k1 None kk kd ctp None (Some edk) (Some p) (shuts.Edc n) = refl
back_ksm_single r o k1 None kk kd ctp (Some iv) None None (shuts.Mac n) = refl
back_ksm_single r o k1 None kk kd ctp (Some iv) None None (shuts.Edc n) = refl
back_ksm_single r o k1 None kk kd ctp (Some iv) None (Some p) (shuts.Mac n) = refl
back_ksm_single r o k1 None kk kd ctp (Some iv) None (Some p) (shuts.Edc n) = refl
back_ksm_single r o k1 None kk kd ctp (Some iv) (Some edk) None (shuts.Mac n) = refl
back_ksm_single r o k1 None kk kd ctp (Some iv) (Some edk) None (shuts.Edc n) = refl
back_ksm_single r o k1 None kk kd ctp (Some iv) (Some edk) (Some p) (shuts.Mac n) = refl
back_ksm_single r o k1 None kk kd ctp (Some iv) (Some edk) (Some p) (shuts.Edc n) = refl
back_ksm_single r o k1 (Some k2) kk kd ctp None None None (shuts.Mac n) = refl
back_ksm_single r o k1 (Some k2) kk kd ctp None None None (shuts.Edc n) = refl
back_ksm_single r o k1 (Some k2) kk kd ctp None None (Some p) (shuts.Mac n) = refl
back_ksm_single r o k1 (Some k2) kk kd ctp None None (Some p) (shuts.Edc n) = refl
back_ksm_single r o k1 (Some k2) kk kd ctp None (Some edk) None (shuts.Mac n) = refl
back_ksm_single r o k1 (Some k2) kk kd ctp None (Some edk) None (shuts.Edc n) = refl
back_ksm_single r o k1 (Some k2) kk kd ctp None (Some edk) (Some p) (shuts.Mac n) = refl
back_ksm_single r o k1 (Some k2) kk kd ctp None (Some edk) (Some p) (shuts.Edc n) = refl
back_ksm_single r o k1 (Some k2) kk kd ctp (Some iv) None None (shuts.Mac n) = refl
back_ksm_single r o k1 (Some k2) kk kd ctp (Some iv) None None (shuts.Edc n) = refl
back_ksm_single r o k1 (Some k2) kk kd ctp (Some iv) None (Some p) (shuts.Mac n) = refl
back_ksm_single r o k1 (Some k2) kk kd ctp (Some iv) None (Some p) (shuts.Edc n) = refl
back_ksm_single r o k1 (Some k2) kk kd ctp (Some iv) (Some edk) None (shuts.Mac n) = refl
back_ksm_single r o k1 (Some k2) kk kd ctp (Some iv) (Some edk) None (shuts.Edc n) = refl
back_ksm_single r o k1 (Some k2) kk kd ctp (Some iv) (Some edk) (Some p) (shuts.Mac n) = refl
back_ksm_single r o k1 (Some k2) kk kd ctp (Some iv) (Some edk) (Some p) (shuts.Edc n) = refl

back_ksm_centre : (r : List ℕ) (o : List ℕ) (centre : List ℕ) (kdu : ℕ) (ctb : ℕ) (iv : Option (List ℕ)) (edk : Option (List ℕ)) (p : Option (List ℕ)) (shut : Shut) → message_by F8 (values_beside (ksm_centre r o centre kdu ctb iv edk p) shut) ≡ Some (ksm_centre r o centre kdu ctb iv edk p)
unfolding message_by
back_ksm_centre r o centre kdu ctb None None None (shuts.Mac n) = refl
back_ksm_centre r o centre kdu ctb None None None (shuts.Edc n) = refl
back_ksm_centre r o centre kdu ctb None None (Some p) (shuts.Mac n) = refl
back_ksm_centre r o centre kdu ctb None None (Some p) (shuts.Edc n) = refl
back_ksm_centre r o centre kdu ctb None (Some edk) None (shuts.Mac n) = refl
back_ksm_centre r o centre kdu ctb None (Some edk) None (shuts.Edc n) = refl
back_ksm_centre r o centre kdu ctb None (Some edk) (Some p) (shuts.Mac n) = refl
back_ksm_centre r o centre kdu ctb None (Some edk) (Some p) (shuts.Edc n) = refl
back_ksm_centre r o centre kdu ctb (Some iv) None None (shuts.Mac n) = refl
back_ksm_centre r o centre kdu ctb (Some iv) None None (shuts.Edc n) = refl
back_ksm_centre r o centre kdu ctb (Some iv) None (Some p) (shuts.Mac n) = refl
back_ksm_centre r o centre kdu ctb (Some iv) None (Some p) (shuts.Edc n) = refl
back_ksm_centre r o centre kdu ctb (Some iv) (Some edk) None (shuts.Mac n) = refl
back_ksm_centre r o centre kdu ctb (Some iv) (Some edk) None (shuts.Edc n) = refl
back_ksm_centre r o centre kdu ctb (Some iv) (Some edk) (Some p) (shuts.Mac n) = refl
back_ksm_centre r o centre kdu ctb (Some iv) (Some edk) (Some p) (shuts.Edc n) = refl

back_rsm : (r : List ℕ) (o : List ℕ) (idd : Option KeyName) (iv : Option (List ℕ)) (edk : Option (List ℕ)) (p : Option (List ℕ)) (shut : Shut) → message_by F9 (values_beside (rsm r o idd iv edk p) shut) ≡ Some (rsm r o idd iv edk p)
unfolding message_by
back_rsm r o None None None None (shuts.Mac n) = refl
back_rsm r o None None None None (shuts.Edc n) = refl
back_rsm r o None None None (Some p) (shuts.Mac n) = refl
back_rsm r o None None None (Some p) (shuts.Edc n) = refl
back_rsm r o None None (Some edk) None (shuts.Mac n) = refl
back_rsm r o None None (Some edk) None (shuts.Edc n) = refl
back_rsm r o None None (Some edk) (Some p) (shuts.Mac n) = refl
back_rsm r o None None (Some edk) (Some p) (shuts.Edc n) = refl
back_rsm r o None (Some iv) None None (shuts.Mac n) = refl
back_rsm r o None (Some iv) None None (shuts.Edc n) = refl
back_rsm r o None (Some iv) None (Some p) (shuts.Mac n) = refl
back_rsm r o None (Some iv) None (Some p) (shuts.Edc n) = refl
back_rsm r o None (Some iv) (Some edk) None (shuts.Mac n) = refl
back_rsm r o None (Some iv) (Some edk) None (shuts.Edc n) = refl
back_rsm r o None (Some iv) (Some edk) (Some p) (shuts.Mac n) = refl
back_rsm r o None (Some iv) (Some edk) (Some p) (shuts.Edc n) = refl
back_rsm r o (Some idd) None None None (shuts.Mac n) = refl
back_rsm r o (Some idd) None None None (shuts.Edc n) = refl
back_rsm r o (Some idd) None None (Some p) (shuts.Mac n) = refl
back_rsm r o (Some idd) None None (Some p) (shuts.Edc n) = refl
back_rsm r o (Some idd) None (Some edk) None (shuts.Mac n) = refl
back_rsm r o (Some idd) None (Some edk) None (shuts.Edc n) = refl
back_rsm r o (Some idd) None (Some edk) (Some p) (shuts.Mac n) = refl
back_rsm r o (Some idd) None (Some edk) (Some p) (shuts.Edc n) = refl
back_rsm r o (Some idd) (Some iv) None None (shuts.Mac n) = refl
back_rsm r o (Some idd) (Some iv) None None (shuts.Edc n) = refl
back_rsm r o (Some idd) (Some iv) None (Some p) (shuts.Mac n) = refl
back_rsm r o (Some idd) (Some iv) None (Some p) (shuts.Edc n) = refl
back_rsm r o (Some idd) (Some iv) (Some edk) None (shuts.Mac n) = refl
back_rsm r o (Some idd) (Some iv) (Some edk) None (shuts.Edc n) = refl
back_rsm r o (Some idd) (Some iv) (Some edk) (Some p) (shuts.Mac n) = refl
back_rsm r o (Some idd) (Some iv) (Some edk) (Some p) (shuts.Edc n) = refl

back_ers : (r : List ℕ) (o : List ℕ) (u : List ℕ) (ctr : ℕ) (erf : List ℕ) (shut : Shut) → message_by F10 (values_beside (ers r o u ctr erf) shut) ≡ Some (ers r o u ctr erf)
unfolding message_by
back_ers r o u ctr erf (shuts.Mac n) = refl
back_ers r o u ctr erf (shuts.Edc n) = refl

back_esm : (r : List ℕ) (o : List ℕ) (ctp : Option ℕ) (cta : Option ℕ) (ctb : Option ℕ) (ctr : Option ℕ) (erf : List ℕ) (shut : Shut) → message_by F11 (values_beside (esm r o ctp cta ctb ctr erf) shut) ≡ Some (esm r o ctp cta ctb ctr erf)
unfolding message_by
back_esm r o None None None None erf (shuts.Mac n) = refl
back_esm r o None None None None erf (shuts.Edc n) = refl
back_esm r o None None None (Some ctr) erf (shuts.Mac n) = refl
back_esm r o None None None (Some ctr) erf (shuts.Edc n) = refl
back_esm r o None None (Some ctb) None erf (shuts.Mac n) = refl
back_esm r o None None (Some ctb) None erf (shuts.Edc n) = refl
back_esm r o None None (Some ctb) (Some ctr) erf (shuts.Mac n) = refl
back_esm r o None None (Some ctb) (Some ctr) erf (shuts.Edc n) = refl
back_esm r o None (Some cta) None None erf (shuts.Mac n) = refl
back_esm r o None (Some cta) None None erf (shuts.Edc n) = refl
back_esm r o None (Some cta) None (Some ctr) erf (shuts.Mac n) = refl
back_esm r o None (Some cta) None (Some ctr) erf (shuts.Edc n) = refl
back_esm r o None (Some cta) (Some ctb) None erf (shuts.Mac n) = refl
back_esm r o None (Some cta) (Some ctb) None erf (shuts.Edc n) = refl
back_esm r o None (Some cta) (Some ctb) (Some ctr) erf (shuts.Mac n) = refl
back_esm r o None (Some cta) (Some ctb) (Some ctr) erf (shuts.Edc n) = refl
back_esm r o (Some ctp) None None None erf (shuts.Mac n) = refl
back_esm r o (Some ctp) None None None erf (shuts.Edc n) = refl
back_esm r o (Some ctp) None None (Some ctr) erf (shuts.Mac n) = refl
back_esm r o (Some ctp) None None (Some ctr) erf (shuts.Edc n) = refl
back_esm r o (Some ctp) None (Some ctb) None erf (shuts.Mac n) = refl
back_esm r o (Some ctp) None (Some ctb) None erf (shuts.Edc n) = refl
back_esm r o (Some ctp) None (Some ctb) (Some ctr) erf (shuts.Mac n) = refl
back_esm r o (Some ctp) None (Some ctb) (Some ctr) erf (shuts.Edc n) = refl
back_esm r o (Some ctp) (Some cta) None None erf (shuts.Mac n) = refl
back_esm r o (Some ctp) (Some cta) None None erf (shuts.Edc n) = refl
back_esm r o (Some ctp) (Some cta) None (Some ctr) erf (shuts.Mac n) = refl
back_esm r o (Some ctp) (Some cta) None (Some ctr) erf (shuts.Edc n) = refl
back_esm r o (Some ctp) (Some cta) (Some ctb) None erf (shuts.Mac n) = refl
back_esm r o (Some ctp) (Some cta) (Some ctb) None erf (shuts.Edc n) = refl
back_esm r o (Some ctp) (Some cta) (Some ctb) (Some ctr) erf (shuts.Mac n) = refl
back_esm r o (Some ctp) (Some cta) (Some ctb) (Some ctr) erf (shuts.Edc n) = refl

back_dsm : (r : List ℕ) (o : List ℕ) (idd : KeyName) (ida : Option KeyName) (shut : Shut) → message_by F12 (values_beside (dsm r o idd ida) shut) ≡ Some (dsm r o idd ida)
unfolding message_by
back_dsm r o idd None (shuts.Mac n) = refl
back_dsm r o idd None (shuts.Edc n) = refl
back_dsm r o idd (Some ida) (shuts.Mac n) = refl
back_dsm r o idd (Some ida) (shuts.Edc n) = refl

back_ksm_twin : (r : List ℕ) (o : List ℕ) (k2 : Option (List ℕ)) (first : ℕ) (second : ℕ) (ctp : ℕ) (iv : Option (List ℕ)) (edk : Option (List ℕ)) (p : Option (List ℕ)) (shut : Shut) → message_by F13 (values_beside (ksm_twin r o k2 first second ctp iv edk p) shut) ≡ Some (ksm_twin r o k2 first second ctp iv edk p)
unfolding message_by
back_ksm_twin r o None first second ctp None None None (shuts.Mac n) = refl
back_ksm_twin r o None first second ctp None None None (shuts.Edc n) = refl
back_ksm_twin r o None first second ctp None None (Some p) (shuts.Mac n) = refl
back_ksm_twin r o None first second ctp None None (Some p) (shuts.Edc n) = refl
back_ksm_twin r o None first second ctp None (Some edk) None (shuts.Mac n) = refl
back_ksm_twin r o None first second ctp None (Some edk) None (shuts.Edc n) = refl
back_ksm_twin r o None first second ctp None (Some edk) (Some p) (shuts.Mac n) = refl
back_ksm_twin r o None first second ctp None (Some edk) (Some p) (shuts.Edc n) = refl
back_ksm_twin r o None first second ctp (Some iv) None None (shuts.Mac n) = refl
back_ksm_twin r o None first second ctp (Some iv) None None (shuts.Edc n) = refl
back_ksm_twin r o None first second ctp (Some iv) None (Some p) (shuts.Mac n) = refl
back_ksm_twin r o None first second ctp (Some iv) None (Some p) (shuts.Edc n) = refl
back_ksm_twin r o None first second ctp (Some iv) (Some edk) None (shuts.Mac n) = refl
back_ksm_twin r o None first second ctp (Some iv) (Some edk) None (shuts.Edc n) = refl
back_ksm_twin r o None first second ctp (Some iv) (Some edk) (Some p) (shuts.Mac n) = refl
back_ksm_twin r o None first second ctp (Some iv) (Some edk) (Some p) (shuts.Edc n) = refl
back_ksm_twin r o (Some k2) first second ctp None None None (shuts.Mac n) = refl
back_ksm_twin r o (Some k2) first second ctp None None None (shuts.Edc n) = refl
back_ksm_twin r o (Some k2) first second ctp None None (Some p) (shuts.Mac n) = refl
back_ksm_twin r o (Some k2) first second ctp None None (Some p) (shuts.Edc n) = refl
back_ksm_twin r o (Some k2) first second ctp None (Some edk) None (shuts.Mac n) = refl
back_ksm_twin r o (Some k2) first second ctp None (Some edk) None (shuts.Edc n) = refl
back_ksm_twin r o (Some k2) first second ctp None (Some edk) (Some p) (shuts.Mac n) = refl
back_ksm_twin r o (Some k2) first second ctp None (Some edk) (Some p) (shuts.Edc n) = refl
back_ksm_twin r o (Some k2) first second ctp (Some iv) None None (shuts.Mac n) = refl
back_ksm_twin r o (Some k2) first second ctp (Some iv) None None (shuts.Edc n) = refl
back_ksm_twin r o (Some k2) first second ctp (Some iv) None (Some p) (shuts.Mac n) = refl
back_ksm_twin r o (Some k2) first second ctp (Some iv) None (Some p) (shuts.Edc n) = refl
back_ksm_twin r o (Some k2) first second ctp (Some iv) (Some edk) None (shuts.Mac n) = refl
back_ksm_twin r o (Some k2) first second ctp (Some iv) (Some edk) None (shuts.Edc n) = refl
back_ksm_twin r o (Some k2) first second ctp (Some iv) (Some edk) (Some p) (shuts.Mac n) = refl
back_ksm_twin r o (Some k2) first second ctp (Some iv) (Some edk) (Some p) (shuts.Edc n) = refl

back_rtr_any : (r o u : List ℕ) (kd : Option (ℕ × ℕ)) (kdu ctb : ℕ) (iv edk p : Option (List ℕ)) (shut : Shut)
    → (let m : Message = message.Rtr (record { receiver = r; originator = o; ultimate = u; kd = kd; kdu = kdu; ctb = ctb; extras = record { iv = iv; edk = edk; p = p } }) in message_by (form_of m) (values_beside m shut) ≡ Some m)
back_rtr_any r o u None kdu ctb iv edk p shut = back_rtr r o u kdu ctb iv edk p shut
back_rtr_any r o u (Some k) kdu ctb iv edk p shut = back_rtr_with_key r o u k.0 kdu k.1 ctb iv edk p shut

back_ksm_any : (r o : List ℕ) (b : KsmBody) (iv edk p : Option (List ℕ)) (shut : Shut)
    → (let m : Message = message.Ksm (record { receiver = r; originator = o; body = b; extras = record { iv = iv; edk = edk; p = p } }) in message_by (form_of m) (values_beside m shut) ≡ Some m)
back_ksm_any r o (body.Direct k2 None kd ctp) iv edk p shut = back_ksm r o k2 kd ctp iv edk p shut
back_ksm_any r o (body.Direct k2 (Some n) kd ctp) iv edk p shut = go n.0 n.1 where
  go : (l : List ℕ) (k : NewKk) → (let m : Message = message.Ksm (record { receiver = r; originator = o; body = body.Direct k2 (Some (l, k)) kd ctp; extras = record { iv = iv; edk = edk; p = p } }) in message_by (form_of m) (values_beside m shut) ≡ Some m)
  go l (new_kk.Double x y) = back_ksm_double r o l k2 (x, y) kd ctp iv edk p shut
  go l (new_kk.Single x) = back_ksm_single r o l k2 x kd ctp iv edk p shut
back_ksm_any r o (body.Twin k2 first second ctp) iv edk p shut = back_ksm_twin r o k2 first second ctp iv edk p shut
back_ksm_any r o (body.Centre centre kdu ctb) iv edk p shut = back_ksm_centre r o centre kdu ctb iv edk p shut

-- a message is that of its form and its values
pub message_back : (m : Message) (shut : Shut) → message_by (form_of m) (values_beside m shut) ≡ Some m
message_back (message.Rsi m) shut = back_rsi m.receiver m.originator m.service m.ultimate shut
message_back (message.Rfs m) shut = back_rfs m.receiver m.originator m.ultimate m.kd m.cta shut
message_back (message.Rtr m) shut = back_rtr_any m.receiver m.originator m.ultimate m.kd m.kdu m.ctb m.extras.iv m.extras.edk m.extras.p shut
message_back (message.Ksm m) shut = back_ksm_any m.receiver m.originator m.body m.extras.iv m.extras.edk m.extras.p shut
message_back (message.Rsm m) shut = back_rsm m.receiver m.originator m.idd m.extras.iv m.extras.edk m.extras.p shut
message_back (message.Ers m) shut = back_ers m.receiver m.originator m.ultimate m.ctr m.erf shut
message_back (message.Esm m) shut = back_esm m.receiver m.originator m.ctp m.cta m.ctb m.ctr m.erf shut
message_back (message.Dsm m) shut = back_dsm m.receiver m.originator m.idd m.ida shut
