-- The fields of a message (ANSI X9.17; which are there is this project's profile).
use Rattle.std.specs.Prelude.{ℕ, List, [], ◌∷◌, ◌++◌, map, Option, Some, None, option_to_list}
use Rattle.csm_grammar.specs.declared.tag.Tag.{Tag}
use Rattle.csm_grammar.specs.declared.tag.Tag.TheVariants.{Mcl, Rcv, Org, Svr, Idu, Idc, Idd, Ida, Idk1, Idk2, DoubleKk, Kk, Kd, Kdu, Ctp, Cta, Ctb, Ctr, Erf, Iv, Edk, P, Mac, Edc}
use Rattle.csm_grammar.specs.declared.form.Form.{Form}
use Rattle.csm_grammar.specs.declared.form.Form.TheVariants.{F1, F2, F3, F4, F5, F6, F7, F8, F9, F10, F11, F12, F13}
use Rattle.csm_grammar.specs.declared.message.Message.{Message}
use Rattle.csm_grammar.specs.declared.message.Message.TheVariants as message
use Rattle.csm_grammar.specs.declared.message.KsmBody.{KsmBody}
use Rattle.csm_grammar.specs.declared.message.KsmBody.TheVariants as body
use Rattle.csm_grammar.specs.declared.message.NewKk.{NewKk}
use Rattle.csm_grammar.specs.declared.message.NewKk.TheVariants as new_kk
use Rattle.csm_grammar.specs.declared.message.Extras.{Extras}
use Rattle.csm_grammar.specs.declared.parsed.Shut.{Shut}
use Rattle.csm_grammar.specs.declared.parsed.Shut.TheVariants as shuts
use Rattle.csm_grammar.specs.Classes.{class_text}
use Rattle.csm_grammar.specs.Values.{Value, AText, AName, AService, ANumber, APair}

-- a tag, and the value that stands behind it
pub record Valued : Type 0 where
  pub tag : Tag
  pub value : Value

abbrev pub valued : Tag → Value → Valued
valued t v = record { tag = t; value = v }

abbrev pub if_any : {A : Type 0} → Tag → (A → Value) → Option A → List Valued
if_any t f o = map (valued t) (map f (option_to_list o))

abbrev pub extra_fields : Extras → List Valued
extra_fields e = if_any Iv AText e.iv ++ (if_any Edk AText e.edk ++ if_any P AText e.p)

abbrev pub new_field : NewKk → Valued
new_field (new_kk.Double l r) = valued DoubleKk (APair l r)
new_field (new_kk.Single k) = valued Kk (ANumber k)

abbrev pub new_fields : Option (List ℕ × NewKk) → List Valued
new_fields None = []
new_fields (Some n) = new_field n.1 ∷ []

abbrev pub body_fields : KsmBody → List Valued
body_fields (body.Direct idk2 new kd ctp) =
    if_any Idk1 (λ n. AText n.0) new ++ (if_any Idk2 AText idk2 ++ (new_fields new ++ (valued Kd (ANumber kd) ∷ valued Ctp (ANumber ctp) ∷ [])))
body_fields (body.Centre centre kdu ctb) =
    valued Idc (AText centre) ∷ valued Kdu (ANumber kdu) ∷ valued Ctb (ANumber ctb) ∷ []
body_fields (body.Twin idk2 first second ctp) =
    if_any Idk2 AText idk2 ++ (valued Kd (ANumber first) ∷ valued Kd (ANumber second) ∷ valued Ctp (ANumber ctp) ∷ [])

abbrev pub parties : List ℕ → List ℕ → List Valued → List Valued
parties receiver originator vs = valued Rcv (AText receiver) ∷ valued Org (AText originator) ∷ vs

-- the fields of a message in the writer's order, without MCL and the closing one
abbrev pub fields_of : Message → List Valued
fields_of (message.Rsi m) = parties m.receiver m.originator (valued Svr (AService m.service) ∷ if_any Idu AText m.ultimate)
fields_of (message.Rfs m) = parties m.receiver m.originator (valued Idu (AText m.ultimate) ∷ valued Kd (ANumber m.kd) ∷ valued Cta (ANumber m.cta) ∷ [])
fields_of (message.Rtr m) = parties m.receiver m.originator
    (valued Idu (AText m.ultimate) ∷ (if_any Kd (λ k. ANumber k.0) m.kd ++ (valued Kdu (ANumber m.kdu) ∷ (if_any Cta (λ k. ANumber k.1) m.kd ++ (valued Ctb (ANumber m.ctb) ∷ extra_fields m.extras)))))
fields_of (message.Ksm m) = parties m.receiver m.originator (body_fields m.body ++ extra_fields m.extras)
fields_of (message.Rsm m) = parties m.receiver m.originator (if_any Idd AName m.idd ++ extra_fields m.extras)
fields_of (message.Ers m) = parties m.receiver m.originator (valued Idu (AText m.ultimate) ∷ valued Ctr (ANumber m.ctr) ∷ valued Erf (AText m.erf) ∷ [])
fields_of (message.Esm m) = parties m.receiver m.originator
    (if_any Ctp ANumber m.ctp ++ (if_any Cta ANumber m.cta ++ (if_any Ctb ANumber m.ctb ++ (if_any Ctr ANumber m.ctr ++ (valued Erf (AText m.erf) ∷ [])))))
fields_of (message.Dsm m) = parties m.receiver m.originator (valued Idd (AName m.idd) ∷ if_any Ida AName m.ida)

-- the form of a message
abbrev pub form_of : Message → Form
form_of (message.Rsi m) = F1
form_of (message.Rfs m) = F2
form_of (message.Rtr m) = rtr_form m.kd where
  rtr_form : Option (ℕ × ℕ) → Form
  rtr_form None = F3
  rtr_form (Some k) = F4
form_of (message.Ksm m) = ksm_form m.body where
  ksm_form : KsmBody → Form
  ksm_form (body.Direct idk2 None kd ctp) = F5
  ksm_form (body.Direct idk2 (Some n) kd ctp) = new_form n.1 where
    new_form : NewKk → Form
    new_form (new_kk.Double l r) = F6
    new_form (new_kk.Single k) = F7
  ksm_form (body.Centre centre kdu ctb) = F8
  ksm_form (body.Twin idk2 first second ctp) = F13
form_of (message.Rsm m) = F9
form_of (message.Ers m) = F10
form_of (message.Esm m) = F11
form_of (message.Dsm m) = F12

abbrev pub shut_field : Shut → Valued
shut_field (shuts.Mac n) = valued Mac (ANumber n)
shut_field (shuts.Edc n) = valued Edc (ANumber n)

-- all fields in the writer's order
abbrev pub all_fields : Message → Shut → List Valued
all_fields m shut = valued Mcl (AText (class_text (form_of m))) ∷ (fields_of m ++ shut_field shut ∷ [])
