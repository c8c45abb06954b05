-- Each form with its message: the values behind its tags, and that they stand for the message.
use Rattle.std.proofs.Common.{◌≡◌, ℕ, List, [], ◌∷◌, map, Option, Some, None, refl, append_assoc}
use Rattle.std.specs.Prelude.{codes, option_to_list}
use Rattle.x_base.specs.declared.key_name.KeyName.{KeyName}
use Rattle.csm_grammar.specs.declared.tag.Tag.TheVariants.{Mcl, Rcv, Org, Svr, Idu, Idc, Idd, Ida, Idk1, Idk2, DoubleKk, Kk, Kd, Kdu, Ctp, Cta, Ctb, Ctr, Erf, Iv, Edk, P, Mac, Edc}
use Rattle.csm_grammar.specs.declared.form.Form.TheVariants.{F1, F2, F3, F4, F5, F6, F7, F8, F9, F10, F11, F12, F13}
use Rattle.csm_grammar.specs.declared.message.Message.{Message}
use Rattle.csm_grammar.specs.declared.message.Message.TheVariants as message
use Rattle.csm_grammar.specs.declared.message.KsmBody.TheVariants as body
use Rattle.csm_grammar.specs.declared.message.NewKk.TheVariants as new_kk
use Rattle.csm_grammar.specs.declared.message.Service.{Service}
use Rattle.csm_grammar.specs.declared.parsed.Shut.{Shut}
use Rattle.csm_grammar.specs.declared.parsed.Shut.TheVariants as shuts
use Rattle.csm_grammar.specs.Values.{Value, AText, AName, AService, ANumber, APair}
use Rattle.csm_grammar.specs.Messages.{all_fields}
use Rattle.csm_grammar.specs.Spelling.{Field, AreOfForm, StandFor}
use Rattle.csm_grammar.proofs.Slots.{Slot, slot, fields_at, AreFilled, stand_by_slots}

abbrev pub slot_if : {A : Type 0} → (A → Value) → Option A → List Value
slot_if f o = map f (option_to_list o)

abbrev pub mac_of : Shut → List Value
mac_of (shuts.Mac n) = ANumber n ∷ []
mac_of (shuts.Edc n) = []

abbrev pub edc_of : Shut → List Value
edc_of (shuts.Mac n) = []
edc_of (shuts.Edc n) = ANumber n ∷ []

abbrev pub rsi : List ℕ → List ℕ → Service → Option (List ℕ) → Message
rsi r o s u = message.Rsi (record { receiver = r; originator = o; service = s; ultimate = u })

abbrev pub rsi_slots : List ℕ → List ℕ → Service → Option (List ℕ) → ℕ → List Slot
rsi_slots r o s u n =
    slot Mcl (AText (codes "RSI") ∷ [])
    ∷ slot Rcv (AText r ∷ [])
    ∷ slot Org (AText o ∷ [])
    ∷ slot Svr (AService s ∷ [])
    ∷ slot Idu (slot_if AText u)
    ∷ slot Edc (ANumber n ∷ []) ∷ []

pub rsi_fields : (r : List ℕ) (o : List ℕ) (s : Service) (u : Option (List ℕ)) (n : ℕ) → all_fields (rsi r o s u) (shuts.Edc n) ≡ fields_at (rsi_slots r o s u n)
rsi_fields r o s u n = refl

pub rsi_stands : (fs : List Field) (r : List ℕ) (o : List ℕ) (s : Service) (u : Option (List ℕ)) (n : ℕ) → AreOfForm F1 fs → AreFilled fs (rsi_slots r o s u n) → StandFor fs (rsi r o s u) (shuts.Edc n)
rsi_stands fs r o s u n h f = stand_by_slots F1 fs (rsi_slots r o s u n) (rsi r o s u) (shuts.Edc n) h f (rsi_fields r o s u n) refl refl

abbrev pub rfs : List ℕ → List ℕ → List ℕ → ℕ → ℕ → Message
rfs r o u kd cta = message.Rfs (record { receiver = r; originator = o; ultimate = u; kd = kd; cta = cta })

abbrev pub rfs_slots : List ℕ → List ℕ → List ℕ → ℕ → ℕ → ℕ → List Slot
rfs_slots r o u kd cta n =
    slot Mcl (AText (codes "RFS") ∷ [])
    ∷ slot Rcv (AText r ∷ [])
    ∷ slot Org (AText o ∷ [])
    ∷ slot Idu (AText u ∷ [])
    ∷ slot Kd (ANumber kd ∷ [])
    ∷ slot Cta (ANumber cta ∷ [])
    ∷ slot Mac (ANumber n ∷ []) ∷ []

pub rfs_fields : (r : List ℕ) (o : List ℕ) (u : List ℕ) (kd : ℕ) (cta : ℕ) (n : ℕ) → all_fields (rfs r o u kd cta) (shuts.Mac n) ≡ fields_at (rfs_slots r o u kd cta n)
rfs_fields r o u kd cta n = refl

pub rfs_stands : (fs : List Field) (r : List ℕ) (o : List ℕ) (u : List ℕ) (kd : ℕ) (cta : ℕ) (n : ℕ) → AreOfForm F2 fs → AreFilled fs (rfs_slots r o u kd cta n) → StandFor fs (rfs r o u kd cta) (shuts.Mac n)
rfs_stands fs r o u kd cta n h f = stand_by_slots F2 fs (rfs_slots r o u kd cta n) (rfs r o u kd cta) (shuts.Mac n) h f (rfs_fields r o u kd cta n) refl refl

abbrev pub rtr : List ℕ → List ℕ → List ℕ → ℕ → ℕ → Option (List ℕ) → Option (List ℕ) → Option (List ℕ) → Message
rtr r o u kdu ctb iv edk p = message.Rtr (record { receiver = r; originator = o; ultimate = u; kd = None; kdu = kdu; ctb = ctb; extras = record { iv = iv; edk = edk; p = p } })

abbrev pub rtr_slots : List ℕ → List ℕ → List ℕ → ℕ → ℕ → Option (List ℕ) → Option (List ℕ) → Option (List ℕ) → ℕ → List Slot
rtr_slots r o u kdu ctb iv edk p n =
    slot Mcl (AText (codes "RTR") ∷ [])
    ∷ slot Rcv (AText r ∷ [])
    ∷ slot Org (AText o ∷ [])
    ∷ slot Idu (AText u ∷ [])
    ∷ slot Kdu (ANumber kdu ∷ [])
    ∷ slot Ctb (ANumber ctb ∷ [])
    ∷ slot Iv (slot_if AText iv)
    ∷ slot Edk (slot_if AText edk)
    ∷ slot P (slot_if AText p)
    ∷ slot Mac (ANumber n ∷ []) ∷ []

pub rtr_fields : (r : List ℕ) (o : List ℕ) (u : List ℕ) (kdu : ℕ) (ctb : ℕ) (iv : Option (List ℕ)) (edk : Option (List ℕ)) (p : Option (List ℕ)) (n : ℕ) → all_fields (rtr r o u kdu ctb iv edk p) (shuts.Mac n) ≡ fields_at (rtr_slots r o u kdu ctb iv edk p n)
rtr_fields r o u kdu ctb iv edk p n = simp append_assoc

pub rtr_stands : (fs : List Field) (r : List ℕ) (o : List ℕ) (u : List ℕ) (kdu : ℕ) (ctb : ℕ) (iv : Option (List ℕ)) (edk : Option (List ℕ)) (p : Option (List ℕ)) (n : ℕ) → AreOfForm F3 fs → AreFilled fs (rtr_slots r o u kdu ctb iv edk p n) → StandFor fs (rtr r o u kdu ctb iv edk p) (shuts.Mac n)
rtr_stands fs r o u kdu ctb iv edk p n h f = stand_by_slots F3 fs (rtr_slots r o u kdu ctb iv edk p n) (rtr r o u kdu ctb iv edk p) (shuts.Mac n) h f (rtr_fields r o u kdu ctb iv edk p n) refl refl

abbrev pub rtr_with_key : List ℕ → List ℕ → List ℕ → ℕ → ℕ → ℕ → ℕ → Option (List ℕ) → Option (List ℕ) → Option (List ℕ) → Message
rtr_with_key r o u kd kdu cta ctb iv edk p = message.Rtr (record { receiver = r; originator = o; ultimate = u; kd = Some (kd, cta); kdu = kdu; ctb = ctb; extras = record { iv = iv; edk = edk; p = p } })

abbrev pub rtr_with_key_slots : List ℕ → List ℕ → List ℕ → ℕ → ℕ → ℕ → ℕ → Option (List ℕ) → Option (List ℕ) → Option (List ℕ) → ℕ → List Slot
rtr_with_key_slots r o u kd kdu cta ctb iv edk p n =
    slot Mcl (AText (codes "RTR") ∷ [])
    ∷ slot Rcv (AText r ∷ [])
    ∷ slot Org (AText o ∷ [])
    ∷ slot Idu (AText u ∷ [])
    ∷ slot Kd (ANumber kd ∷ [])
    ∷ slot Kdu (ANumber kdu ∷ [])
    ∷ slot Cta (ANumber cta ∷ [])
    ∷ slot Ctb (ANumber ctb ∷ [])
    ∷ slot Iv (slot_if AText iv)
    ∷ slot Edk (slot_if AText edk)
    ∷ slot P (slot_if AText p)
    ∷ slot Mac (ANumber n ∷ []) ∷ []

pub rtr_with_key_fields : (r : List ℕ) (o : List ℕ) (u : List ℕ) (kd : ℕ) (kdu : ℕ) (cta : ℕ) (ctb : ℕ) (iv : Option (List ℕ)) (edk : Option (List ℕ)) (p : Option (List ℕ)) (n : ℕ) → all_fields (rtr_with_key r o u kd kdu cta ctb iv edk p) (shuts.Mac n) ≡ fields_at (rtr_with_key_slots r o u kd kdu cta ctb iv edk p n)
rtr_with_key_fields r o u kd kdu cta ctb iv edk p n = simp append_assoc

pub rtr_with_key_stands : (fs : List Field) (r : List ℕ) (o : List ℕ) (u : List ℕ) (kd : ℕ) (kdu : ℕ) (cta : ℕ) (ctb : ℕ) (iv : Option (List ℕ)) (edk : Option (List ℕ)) (p : Option (List ℕ)) (n : ℕ) → AreOfForm F4 fs → AreFilled fs (rtr_with_key_slots r o u kd kdu cta ctb iv edk p n) → StandFor fs (rtr_with_key r o u kd kdu cta ctb iv edk p) (shuts.Mac n)
rtr_with_key_stands fs r o u kd kdu cta ctb iv edk p n h f = stand_by_slots F4 fs (rtr_with_key_slots r o u kd kdu cta ctb iv edk p n) (rtr_with_key r o u kd kdu cta ctb iv edk p) (shuts.Mac n) h f (rtr_with_key_fields r o u kd kdu cta ctb iv edk p n) refl refl

abbrev pub ksm : List ℕ → List ℕ → Option (List ℕ) → ℕ → ℕ → Option (List ℕ) → Option (List ℕ) → Option (List ℕ) → Message
ksm r o k2 kd ctp iv edk p = message.Ksm (record { receiver = r; originator = o; body = body.Direct k2 None kd ctp; extras = record { iv = iv; edk = edk; p = p } })

abbrev pub ksm_slots : List ℕ → List ℕ → Option (List ℕ) → ℕ → ℕ → Option (List ℕ) → Option (List ℕ) → Option (List ℕ) → ℕ → List Slot
ksm_slots r o k2 kd ctp iv edk p n =
    slot Mcl (AText (codes "KSM") ∷ [])
    ∷ slot Rcv (AText r ∷ [])
    ∷ slot Org (AText o ∷ [])
    ∷ slot Idk2 (slot_if AText k2)
    ∷ slot Kd (ANumber kd ∷ [])
    ∷ slot Ctp (ANumber ctp ∷ [])
    ∷ slot Iv (slot_if AText iv)
    ∷ slot Edk (slot_if AText edk)
    ∷ slot P (slot_if AText p)
    ∷ slot Mac (ANumber n ∷ []) ∷ []

pub ksm_fields : (r : List ℕ) (o : List ℕ) (k2 : Option (List ℕ)) (kd : ℕ) (ctp : ℕ) (iv : Option (List ℕ)) (edk : Option (List ℕ)) (p : Option (List ℕ)) (n : ℕ) → all_fields (ksm r o k2 kd ctp iv edk p) (shuts.Mac n) ≡ fields_at (ksm_slots r o k2 kd ctp iv edk p n)
ksm_fields r o k2 kd ctp iv edk p n = simp append_assoc

pub ksm_stands : (fs : List Field) (r : List ℕ) (o : List ℕ) (k2 : Option (List ℕ)) (kd : ℕ) (ctp : ℕ) (iv : Option (List ℕ)) (edk : Option (List ℕ)) (p : Option (List ℕ)) (n : ℕ) → AreOfForm F5 fs → AreFilled fs (ksm_slots r o k2 kd ctp iv edk p n) → StandFor fs (ksm r o k2 kd ctp iv edk p) (shuts.Mac n)
ksm_stands fs r o k2 kd ctp iv edk p n h f = stand_by_slots F5 fs (ksm_slots r o k2 kd ctp iv edk p n) (ksm r o k2 kd ctp iv edk p) (shuts.Mac n) h f (ksm_fields r o k2 kd ctp iv edk p n) refl refl

abbrev pub ksm_double : List ℕ → List ℕ → List ℕ → Option (List ℕ) → (ℕ × ℕ) → ℕ → ℕ → Option (List ℕ) → Option (List ℕ) → Option (List ℕ) → Message
ksm_double r o k1 k2 kk kd ctp iv edk p = message.Ksm (record { receiver = r; originator = o; body = body.Direct k2 (Some (k1, new_kk.Double kk.0 kk.1)) kd ctp; extras = record { iv = iv; edk = edk; p = p } })

abbrev pub ksm_double_slots : List ℕ → List ℕ → List ℕ → Option (List ℕ) → (ℕ × ℕ) → ℕ → ℕ → Option (List ℕ) → Option (List ℕ) → Option (List ℕ) → ℕ → List Slot
ksm_double_slots r o k1 k2 kk kd ctp iv edk p n =
    slot Mcl (AText (codes "KSM") ∷ [])
    ∷ slot Rcv (AText r ∷ [])
    ∷ slot Org (AText o ∷ [])
    ∷ slot Idk1 (AText k1 ∷ [])
    ∷ slot Idk2 (slot_if AText k2)
    ∷ slot DoubleKk (APair kk.0 kk.1 ∷ [])
    ∷ slot Kd (ANumber kd ∷ [])
    ∷ slot Ctp (ANumber ctp ∷ [])
    ∷ slot Iv (slot_if AText iv)
    ∷ slot Edk (slot_if AText edk)
    ∷ slot P (slot_if AText p)
    ∷ slot Mac (ANumber n ∷ []) ∷ []

pub ksm_double_fields : (r : List ℕ) (o : List ℕ) (k1 : List ℕ) (k2 : Option (List ℕ)) (kk : ℕ × ℕ) (kd : ℕ) (ctp : ℕ) (iv : Option (List ℕ)) (edk : Option (List ℕ)) (p : Option (List ℕ)) (n : ℕ) → all_fields (ksm_double r o k1 k2 kk kd ctp iv edk p) (shuts.Mac n) ≡ fields_at (ksm_double_slots r o k1 k2 kk kd ctp iv edk p n)
ksm_double_fields r o k1 k2 kk kd ctp iv edk p n = simp append_assoc

pub ksm_double_stands : (fs : List Field) (r : List ℕ) (o : List ℕ) (k1 : List ℕ) (k2 : Option (List ℕ)) (kk : ℕ × ℕ) (kd : ℕ) (ctp : ℕ) (iv : Option (List ℕ)) (edk : Option (List ℕ)) (p : Option (List ℕ)) (n : ℕ) → AreOfForm F6 fs → AreFilled fs (ksm_double_slots r o k1 k2 kk kd ctp iv edk p n) → StandFor fs (ksm_double r o k1 k2 kk kd ctp iv edk p) (shuts.Mac n)
ksm_double_stands fs r o k1 k2 kk kd ctp iv edk p n h f = stand_by_slots F6 fs (ksm_double_slots r o k1 k2 kk kd ctp iv edk p n) (ksm_double r o k1 k2 kk kd ctp iv edk p) (shuts.Mac n) h f (ksm_double_fields r o k1 k2 kk kd ctp iv edk p n) refl refl

abbrev pub ksm_single : List ℕ → List ℕ → List ℕ → Option (List ℕ) → ℕ → ℕ → ℕ → Option (List ℕ) → Option (List ℕ) → Option (List ℕ) → Message
ksm_single r o k1 k2 kk kd ctp iv edk p = message.Ksm (record { receiver = r; originator = o; body = body.Direct k2 (Some (k1, new_kk.Single kk)) kd ctp; extras = record { iv = iv; edk = edk; p = p } })

abbrev pub ksm_single_slots : List ℕ → List ℕ → List ℕ → Option (List ℕ) → ℕ → ℕ → ℕ → Option (List ℕ) → Option (List ℕ) → Option (List ℕ) → ℕ → List Slot
ksm_single_slots r o k1 k2 kk kd ctp iv edk p n =
    slot Mcl (AText (codes "KSM") ∷ [])
    ∷ slot Rcv (AText r ∷ [])
    ∷ slot Org (AText o ∷ [])
    ∷ slot Idk1 (AText k1 ∷ [])
    ∷ slot Idk2 (slot_if AText k2)
    ∷ slot Kk (ANumber kk ∷ [])
    ∷ slot Kd (ANumber kd ∷ [])
    ∷ slot Ctp (ANumber ctp ∷ [])
    ∷ slot Iv (slot_if AText iv)
    ∷ slot Edk (slot_if AText edk)
    ∷ slot P (slot_if AText p)
    ∷ slot Mac (ANumber n ∷ []) ∷ []

pub ksm_single_fields : (r : List ℕ) (o : List ℕ) (k1 : List ℕ) (k2 : Option (List ℕ)) (kk : ℕ) (kd : ℕ) (ctp : ℕ) (iv : Option (List ℕ)) (edk : Option (List ℕ)) (p : Option (List ℕ)) (n : ℕ) → all_fields (ksm_single r o k1 k2 kk kd ctp iv edk p) (shuts.Mac n) ≡ fields_at (ksm_single_slots r o k1 k2 kk kd ctp iv edk p n)
ksm_single_fields r o k1 k2 kk kd ctp iv edk p n = simp append_assoc

pub ksm_single_stands : (fs : List Field) (r : List ℕ) (o : List ℕ) (k1 : List ℕ) (k2 : Option (List ℕ)) (kk : ℕ) (kd : ℕ) (ctp : ℕ) (iv : Option (List ℕ)) (edk : Option (List ℕ)) (p : Option (List ℕ)) (n : ℕ) → AreOfForm F7 fs → AreFilled fs (ksm_single_slots r o k1 k2 kk kd ctp iv edk p n) → StandFor fs (ksm_single r o k1 k2 kk kd ctp iv edk p) (shuts.Mac n)
ksm_single_stands fs r o k1 k2 kk kd ctp iv edk p n h f = stand_by_slots F7 fs (ksm_single_slots r o k1 k2 kk kd ctp iv edk p n) (ksm_single r o k1 k2 kk kd ctp iv edk p) (shuts.Mac n) h f (ksm_single_fields r o k1 k2 kk kd ctp iv edk p n) refl refl

abbrev pub ksm_centre : List ℕ → List ℕ → List ℕ → ℕ → ℕ → Option (List ℕ) → Option (List ℕ) → Option (List ℕ) → Message
ksm_centre r o centre kdu ctb iv edk p = message.Ksm (record { receiver = r; originator = o; body = body.Centre centre kdu ctb; extras = record { iv = iv; edk = edk; p = p } })

abbrev pub ksm_centre_slots : List ℕ → List ℕ → List ℕ → ℕ → ℕ → Option (List ℕ) → Option (List ℕ) → Option (List ℕ) → ℕ → List Slot
ksm_centre_slots r o centre kdu ctb iv edk p n =
    slot Mcl (AText (codes "KSM") ∷ [])
    ∷ slot Rcv (AText r ∷ [])
    ∷ slot Org (AText o ∷ [])
    ∷ slot Idc (AText centre ∷ [])
    ∷ slot Kdu (ANumber kdu ∷ [])
    ∷ slot Ctb (ANumber ctb ∷ [])
    ∷ slot Iv (slot_if AText iv)
    ∷ slot Edk (slot_if AText edk)
    ∷ slot P (slot_if AText p)
    ∷ slot Mac (ANumber n ∷ []) ∷ []

pub ksm_centre_fields : (r : List ℕ) (o : List ℕ) (centre : List ℕ) (kdu : ℕ) (ctb : ℕ) (iv : Option (List ℕ)) (edk : Option (List ℕ)) (p : Option (List ℕ)) (n : ℕ) → all_fields (ksm_centre r o centre kdu ctb iv edk p) (shuts.Mac n) ≡ fields_at (ksm_centre_slots r o centre kdu ctb iv edk p n)
ksm_centre_fields r o centre kdu ctb iv edk p n = simp append_assoc

pub ksm_centre_stands : (fs : List Field) (r : List ℕ) (o : List ℕ) (centre : List ℕ) (kdu : ℕ) (ctb : ℕ) (iv : Option (List ℕ)) (edk : Option (List ℕ)) (p : Option (List ℕ)) (n : ℕ) → AreOfForm F8 fs → AreFilled fs (ksm_centre_slots r o centre kdu ctb iv edk p n) → StandFor fs (ksm_centre r o centre kdu ctb iv edk p) (shuts.Mac n)
ksm_centre_stands fs r o centre kdu ctb iv edk p n h f = stand_by_slots F8 fs (ksm_centre_slots r o centre kdu ctb iv edk p n) (ksm_centre r o centre kdu ctb iv edk p) (shuts.Mac n) h f (ksm_centre_fields r o centre kdu ctb iv edk p n) refl refl

abbrev pub ksm_twin : List ℕ → List ℕ → Option (List ℕ) → ℕ → ℕ → ℕ → Option (List ℕ) → Option (List ℕ) → Option (List ℕ) → Message
ksm_twin r o k2 first second ctp iv edk p = message.Ksm (record { receiver = r; originator = o; body = body.Twin k2 first second ctp; extras = record { iv = iv; edk = edk; p = p } })

abbrev pub ksm_twin_slots : List ℕ → List ℕ → Option (List ℕ) → ℕ → ℕ → ℕ → Option (List ℕ) → Option (List ℕ) → Option (List ℕ) → ℕ → List Slot
ksm_twin_slots r o k2 first second ctp iv edk p n =
    slot Mcl (AText (codes "KSM") ∷ [])
    ∷ slot Rcv (AText r ∷ [])
    ∷ slot Org (AText o ∷ [])
    ∷ slot Idk2 (slot_if AText k2)
    ∷ slot Kd (ANumber first ∷ ANumber second ∷ [])
    ∷ slot Ctp (ANumber ctp ∷ [])
    ∷ slot Iv (slot_if AText iv)
    ∷ slot Edk (slot_if AText edk)
    ∷ slot P (slot_if AText p)
    ∷ slot Mac (ANumber n ∷ []) ∷ []

pub ksm_twin_fields : (r : List ℕ) (o : List ℕ) (k2 : Option (List ℕ)) (first : ℕ) (second : ℕ) (ctp : ℕ) (iv : Option (List ℕ)) (edk : Option (List ℕ)) (p : Option (List ℕ)) (n : ℕ) → all_fields (ksm_twin r o k2 first second ctp iv edk p) (shuts.Mac n) ≡ fields_at (ksm_twin_slots r o k2 first second ctp iv edk p n)
ksm_twin_fields r o k2 first second ctp iv edk p n = simp append_assoc

pub ksm_twin_stands : (fs : List Field) (r : List ℕ) (o : List ℕ) (k2 : Option (List ℕ)) (first : ℕ) (second : ℕ) (ctp : ℕ) (iv : Option (List ℕ)) (edk : Option (List ℕ)) (p : Option (List ℕ)) (n : ℕ) → AreOfForm F13 fs → AreFilled fs (ksm_twin_slots r o k2 first second ctp iv edk p n) → StandFor fs (ksm_twin r o k2 first second ctp iv edk p) (shuts.Mac n)
ksm_twin_stands fs r o k2 first second ctp iv edk p n h f = stand_by_slots F13 fs (ksm_twin_slots r o k2 first second ctp iv edk p n) (ksm_twin r o k2 first second ctp iv edk p) (shuts.Mac n) h f (ksm_twin_fields r o k2 first second ctp iv edk p n) refl refl

abbrev pub rsm : List ℕ → List ℕ → Option KeyName → Option (List ℕ) → Option (List ℕ) → Option (List ℕ) → Message
rsm r o idd iv edk p = message.Rsm (record { receiver = r; originator = o; idd = idd; extras = record { iv = iv; edk = edk; p = p } })

abbrev pub rsm_slots : List ℕ → List ℕ → Option KeyName → Option (List ℕ) → Option (List ℕ) → Option (List ℕ) → ℕ → List Slot
rsm_slots r o idd iv edk p n =
    slot Mcl (AText (codes "RSM") ∷ [])
    ∷ slot Rcv (AText r ∷ [])
    ∷ slot Org (AText o ∷ [])
    ∷ slot Idd (slot_if AName idd)
    ∷ slot Iv (slot_if AText iv)
    ∷ slot Edk (slot_if AText edk)
    ∷ slot P (slot_if AText p)
    ∷ slot Mac (ANumber n ∷ []) ∷ []

pub rsm_fields : (r : List ℕ) (o : List ℕ) (idd : Option KeyName) (iv : Option (List ℕ)) (edk : Option (List ℕ)) (p : Option (List ℕ)) (n : ℕ) → all_fields (rsm r o idd iv edk p) (shuts.Mac n) ≡ fields_at (rsm_slots r o idd iv edk p n)
rsm_fields r o idd iv edk p n = simp append_assoc

pub rsm_stands : (fs : List Field) (r : List ℕ) (o : List ℕ) (idd : Option KeyName) (iv : Option (List ℕ)) (edk : Option (List ℕ)) (p : Option (List ℕ)) (n : ℕ) → AreOfForm F9 fs → AreFilled fs (rsm_slots r o idd iv edk p n) → StandFor fs (rsm r o idd iv edk p) (shuts.Mac n)
rsm_stands fs r o idd iv edk p n h f = stand_by_slots F9 fs (rsm_slots r o idd iv edk p n) (rsm r o idd iv edk p) (shuts.Mac n) h f (rsm_fields r o idd iv edk p n) refl refl

abbrev pub ers : List ℕ → List ℕ → List ℕ → ℕ → List ℕ → Message
ers r o u ctr erf = message.Ers (record { receiver = r; originator = o; ultimate = u; ctr = ctr; erf = erf })

abbrev pub ers_slots : List ℕ → List ℕ → List ℕ → ℕ → List ℕ → ℕ → List Slot
ers_slots r o u ctr erf n =
    slot Mcl (AText (codes "ERS") ∷ [])
    ∷ slot Rcv (AText r ∷ [])
    ∷ slot Org (AText o ∷ [])
    ∷ slot Idu (AText u ∷ [])
    ∷ slot Ctr (ANumber ctr ∷ [])
    ∷ slot Erf (AText erf ∷ [])
    ∷ slot Mac (ANumber n ∷ []) ∷ []

pub ers_fields : (r : List ℕ) (o : List ℕ) (u : List ℕ) (ctr : ℕ) (erf : List ℕ) (n : ℕ) → all_fields (ers r o u ctr erf) (shuts.Mac n) ≡ fields_at (ers_slots r o u ctr erf n)
ers_fields r o u ctr erf n = refl

pub ers_stands : (fs : List Field) (r : List ℕ) (o : List ℕ) (u : List ℕ) (ctr : ℕ) (erf : List ℕ) (n : ℕ) → AreOfForm F10 fs → AreFilled fs (ers_slots r o u ctr erf n) → StandFor fs (ers r o u ctr erf) (shuts.Mac n)
ers_stands fs r o u ctr erf n h f = stand_by_slots F10 fs (ers_slots r o u ctr erf n) (ers r o u ctr erf) (shuts.Mac n) h f (ers_fields r o u ctr erf n) refl refl

abbrev pub esm : List ℕ → List ℕ → Option ℕ → Option ℕ → Option ℕ → Option ℕ → List ℕ → Message
esm r o ctp cta ctb ctr erf = message.Esm (record { receiver = r; originator = o; erf = erf; ctp = ctp; cta = cta; ctb = ctb; ctr = ctr })

abbrev pub esm_slots : List ℕ → List ℕ → Option ℕ → Option ℕ → Option ℕ → Option ℕ → List ℕ → Shut → List Slot
esm_slots r o ctp cta ctb ctr erf shut =
    slot Mcl (AText (codes "ESM") ∷ [])
    ∷ slot Rcv (AText r ∷ [])
    ∷ slot Org (AText o ∷ [])
    ∷ slot Ctp (slot_if ANumber ctp)
    ∷ slot Cta (slot_if ANumber cta)
    ∷ slot Ctb (slot_if ANumber ctb)
    ∷ slot Ctr (slot_if ANumber ctr)
    ∷ slot Erf (AText erf ∷ [])
    ∷ slot Mac (mac_of shut)
    ∷ slot Edc (edc_of shut) ∷ []

pub esm_fields : (r : List ℕ) (o : List ℕ) (ctp : Option ℕ) (cta : Option ℕ) (ctb : Option ℕ) (ctr : Option ℕ) (erf : List ℕ) (shut : Shut) → all_fields (esm r o ctp cta ctb ctr erf) shut ≡ fields_at (esm_slots r o ctp cta ctb ctr erf shut)
esm_fields r o ctp cta ctb ctr erf (shuts.Mac n) = simp append_assoc
esm_fields r o ctp cta ctb ctr erf (shuts.Edc n) = simp append_assoc

pub esm_stands : (fs : List Field) (r : List ℕ) (o : List ℕ) (ctp : Option ℕ) (cta : Option ℕ) (ctb : Option ℕ) (ctr : Option ℕ) (erf : List ℕ) (shut : Shut) → AreOfForm F11 fs → AreFilled fs (esm_slots r o ctp cta ctb ctr erf shut) → StandFor fs (esm r o ctp cta ctb ctr erf) shut
esm_stands fs r o ctp cta ctb ctr erf shut h f = stand_by_slots F11 fs (esm_slots r o ctp cta ctb ctr erf shut) (esm r o ctp cta ctb ctr erf) shut h f (esm_fields r o ctp cta ctb ctr erf shut) refl refl

abbrev pub dsm : List ℕ → List ℕ → KeyName → Option KeyName → Message
dsm r o idd ida = message.Dsm (record { receiver = r; originator = o; idd = idd; ida = ida })

abbrev pub dsm_slots : List ℕ → List ℕ → KeyName → Option KeyName → ℕ → List Slot
dsm_slots r o idd ida n =
    slot Mcl (AText (codes "DSM") ∷ [])
    ∷ slot Rcv (AText r ∷ [])
    ∷ slot Org (AText o ∷ [])
    ∷ slot Idd (AName idd ∷ [])
    ∷ slot Ida (slot_if AName ida)
    ∷ slot Mac (ANumber n ∷ []) ∷ []

pub dsm_fields : (r : List ℕ) (o : List ℕ) (idd : KeyName) (ida : Option KeyName) (n : ℕ) → all_fields (dsm r o idd ida) (shuts.Mac n) ≡ fields_at (dsm_slots r o idd ida n)
dsm_fields r o idd ida n = refl

pub dsm_stands : (fs : List Field) (r : List ℕ) (o : List ℕ) (idd : KeyName) (ida : Option KeyName) (n : ℕ) → AreOfForm F12 fs → AreFilled fs (dsm_slots r o idd ida n) → StandFor fs (dsm r o idd ida) (shuts.Mac n)
dsm_stands fs r o idd ida n h f = stand_by_slots F12 fs (dsm_slots r o idd ida n) (dsm r o idd ida) (shuts.Mac n) h f (dsm_fields r o idd ida n) refl refl
