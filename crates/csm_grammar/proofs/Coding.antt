-- Messages are told apart by what they hold.
use Rattle.std.proofs.Common.{◌≡◌, ◌⊎◌, inl, inr, ℕ, zero, suc, Option, List, refl}
use Rattle.std.specs.Coded.{Coded, code_by, coded×, coded⊎, coded_ℕ, coded_list, coded_option}
use Rattle.x_base.specs.declared.key_name.KeyName.{KeyName}
use Rattle.csm_grammar.specs.declared.message.Service.{Service}
use Rattle.csm_grammar.specs.declared.message.Service.TheVariants as service
use Rattle.csm_grammar.specs.declared.message.Extras.{Extras}
use Rattle.csm_grammar.specs.declared.message.NewKk.{NewKk}
use Rattle.csm_grammar.specs.declared.message.NewKk.TheVariants as new_kk
use Rattle.csm_grammar.specs.declared.message.KsmBody.{KsmBody}
use Rattle.csm_grammar.specs.declared.message.KsmBody.TheVariants as body
use Rattle.csm_grammar.specs.declared.message.Rsi.{Rsi}
use Rattle.csm_grammar.specs.declared.message.Rfs.{Rfs}
use Rattle.csm_grammar.specs.declared.message.Rtr.{Rtr}
use Rattle.csm_grammar.specs.declared.message.Ksm.{Ksm}
use Rattle.csm_grammar.specs.declared.message.Rsm.{Rsm}
use Rattle.csm_grammar.specs.declared.message.Ers.{Ers}
use Rattle.csm_grammar.specs.declared.message.Esm.{Esm}
use Rattle.csm_grammar.specs.declared.message.Dsm.{Dsm}
use Rattle.csm_grammar.specs.declared.message.Message.{Message}
use Rattle.csm_grammar.specs.declared.message.Message.TheVariants as message
use Rattle.csm_grammar.specs.declared.parsed.Shut.{Shut}
use Rattle.csm_grammar.specs.declared.parsed.Shut.TheVariants as shut
use Rattle.csm_grammar.specs.declared.parsed.Parsed.{Parsed}
use Rattle.csm_grammar.specs.Values.{Value, AText, AName, AService, ANumber, APair}

abbrev Bytes : Type 0
Bytes = List ℕ

bytes : Coded (List ℕ)
bytes = coded_list coded_ℕ

name : Coded KeyName
name = code_by (Bytes × (Bytes × (Bytes × ℕ))) (coded× bytes (coded× bytes (coded× bytes coded_ℕ))) (λ n. (n.issuer, (n.originator, (n.label, n.count)))) (λ t. record { issuer = t.0; originator = t.1.0; label = t.1.1.0; count = t.1.1.1 }) (λ n. refl)

service_number : Service → ℕ
service_number service.Kd = 0
service_number service.KdKd = 1
service_number service.Kk = 2
service_number service.DoubleKk = 3
service_number service.KkKd = 4
service_number service.DoubleKkKd = 5

numbered_service : ℕ → Service
numbered_service zero = service.Kd
numbered_service (suc zero) = service.KdKd
numbered_service (suc (suc zero)) = service.Kk
numbered_service (suc (suc (suc zero))) = service.DoubleKk
numbered_service (suc (suc (suc (suc zero)))) = service.KkKd
numbered_service (suc (suc (suc (suc (suc n))))) = service.DoubleKkKd

service_back : (s : Service) → numbered_service (service_number s) ≡ s
unfolding service_number numbered_service
service_back service.Kd = refl
service_back service.KdKd = refl
service_back service.Kk = refl
service_back service.DoubleKk = refl
service_back service.KkKd = refl
service_back service.DoubleKkKd = refl

service_code : Coded Service
service_code = code_by ℕ coded_ℕ service_number numbered_service service_back

abbrev to_new : NewKk → (ℕ × ℕ) ⊎ ℕ
to_new (new_kk.Double l r) = inl (l, r)
to_new (new_kk.Single k) = inr k

abbrev from_new : (ℕ × ℕ) ⊎ ℕ → NewKk
from_new (inl p) = new_kk.Double p.0 p.1
from_new (inr k) = new_kk.Single k

new_back : (n : NewKk) → from_new (to_new n) ≡ n
new_back (new_kk.Double l r) = refl
new_back (new_kk.Single k) = refl

new_code : Coded NewKk
new_code = code_by ((ℕ × ℕ) ⊎ ℕ) (coded⊎ (coded× coded_ℕ coded_ℕ) coded_ℕ) to_new from_new new_back

abbrev DirectParts : Type 0
DirectParts = Option Bytes × (Option (Bytes × NewKk) × (ℕ × ℕ))

abbrev TwinParts : Type 0
TwinParts = Option Bytes × (ℕ × (ℕ × ℕ))

abbrev to_body : KsmBody → DirectParts ⊎ (TwinParts ⊎ (Bytes × (ℕ × ℕ)))
to_body (body.Direct idk2 new kd ctp) = inl (idk2, (new, (kd, ctp)))
to_body (body.Twin idk2 first second ctp) = inr (inl (idk2, (first, (second, ctp))))
to_body (body.Centre centre kdu ctb) = inr (inr (centre, (kdu, ctb)))

abbrev from_body : DirectParts ⊎ (TwinParts ⊎ (Bytes × (ℕ × ℕ))) → KsmBody
from_body (inl t) = body.Direct t.0 t.1.0 t.1.1.0 t.1.1.1
from_body (inr (inl t)) = body.Twin t.0 t.1.0 t.1.1.0 t.1.1.1
from_body (inr (inr t)) = body.Centre t.0 t.1.0 t.1.1

body_back : (b : KsmBody) → from_body (to_body b) ≡ b
body_back (body.Direct idk2 new kd ctp) = refl
body_back (body.Twin idk2 first second ctp) = refl
body_back (body.Centre centre kdu ctb) = refl

body_code : Coded KsmBody
body_code = code_by (DirectParts ⊎ (TwinParts ⊎ (Bytes × (ℕ × ℕ)))) (coded⊎ (coded× (coded_option bytes) (coded× (coded_option (coded× bytes new_code)) (coded× coded_ℕ coded_ℕ))) (coded⊎ (coded× (coded_option bytes) (coded× coded_ℕ (coded× coded_ℕ coded_ℕ))) (coded× bytes (coded× coded_ℕ coded_ℕ)))) to_body from_body body_back

extras : Coded Extras
extras = code_by (Option Bytes × (Option Bytes × Option Bytes)) (coded× (coded_option bytes) (coded× (coded_option bytes) (coded_option bytes))) (λ e. (e.iv, (e.edk, e.p))) (λ t. record { iv = t.0; edk = t.1.0; p = t.1.1 }) (λ e. refl)

rsi : Coded Rsi
rsi = code_by (Bytes × (Bytes × (Service × Option Bytes))) (coded× bytes (coded× bytes (coded× service_code (coded_option bytes)))) (λ m. (m.receiver, (m.originator, (m.service, m.ultimate)))) (λ t. record { receiver = t.0; originator = t.1.0; service = t.1.1.0; ultimate = t.1.1.1 }) (λ m. refl)

rfs : Coded Rfs
rfs = code_by (Bytes × (Bytes × (Bytes × (ℕ × ℕ)))) (coded× bytes (coded× bytes (coded× bytes (coded× coded_ℕ coded_ℕ)))) (λ m. (m.receiver, (m.originator, (m.ultimate, (m.kd, m.cta))))) (λ t. record { receiver = t.0; originator = t.1.0; ultimate = t.1.1.0; kd = t.1.1.1.0; cta = t.1.1.1.1 }) (λ m. refl)

rtr : Coded Rtr
rtr = code_by (Bytes × (Bytes × (Bytes × (Option (ℕ × ℕ) × (ℕ × (ℕ × Extras)))))) (coded× bytes (coded× bytes (coded× bytes (coded× (coded_option (coded× coded_ℕ coded_ℕ)) (coded× coded_ℕ (coded× coded_ℕ extras)))))) (λ m. (m.receiver, (m.originator, (m.ultimate, (m.kd, (m.kdu, (m.ctb, m.extras))))))) (λ t. record { receiver = t.0; originator = t.1.0; ultimate = t.1.1.0; kd = t.1.1.1.0; kdu = t.1.1.1.1.0; ctb = t.1.1.1.1.1.0; extras = t.1.1.1.1.1.1 }) (λ m. refl)

ksm : Coded Ksm
ksm = code_by (Bytes × (Bytes × (KsmBody × Extras))) (coded× bytes (coded× bytes (coded× body_code extras))) (λ m. (m.receiver, (m.originator, (m.body, m.extras)))) (λ t. record { receiver = t.0; originator = t.1.0; body = t.1.1.0; extras = t.1.1.1 }) (λ m. refl)

rsm : Coded Rsm
rsm = code_by (Bytes × (Bytes × (Option KeyName × Extras))) (coded× bytes (coded× bytes (coded× (coded_option name) extras))) (λ m. (m.receiver, (m.originator, (m.idd, m.extras)))) (λ t. record { receiver = t.0; originator = t.1.0; idd = t.1.1.0; extras = t.1.1.1 }) (λ m. refl)

ers : Coded Ers
ers = code_by (Bytes × (Bytes × (Bytes × (ℕ × Bytes)))) (coded× bytes (coded× bytes (coded× bytes (coded× coded_ℕ bytes)))) (λ m. (m.receiver, (m.originator, (m.ultimate, (m.ctr, m.erf))))) (λ t. record { receiver = t.0; originator = t.1.0; ultimate = t.1.1.0; ctr = t.1.1.1.0; erf = t.1.1.1.1 }) (λ m. refl)

esm : Coded Esm
esm = code_by (Bytes × (Bytes × (Bytes × (Option ℕ × (Option ℕ × (Option ℕ × Option ℕ)))))) (coded× bytes (coded× bytes (coded× bytes (coded× (coded_option coded_ℕ) (coded× (coded_option coded_ℕ) (coded× (coded_option coded_ℕ) (coded_option coded_ℕ))))))) (λ m. (m.receiver, (m.originator, (m.erf, (m.ctp, (m.cta, (m.ctb, m.ctr))))))) (λ t. record { receiver = t.0; originator = t.1.0; erf = t.1.1.0; ctp = t.1.1.1.0; cta = t.1.1.1.1.0; ctb = t.1.1.1.1.1.0; ctr = t.1.1.1.1.1.1 }) (λ m. refl)

dsm : Coded Dsm
dsm = code_by (Bytes × (Bytes × (KeyName × Option KeyName))) (coded× bytes (coded× bytes (coded× name (coded_option name)))) (λ m. (m.receiver, (m.originator, (m.idd, m.ida)))) (λ t. record { receiver = t.0; originator = t.1.0; idd = t.1.1.0; ida = t.1.1.1 }) (λ m. refl)

abbrev Classes : Type 0
Classes = Rsi ⊎ (Rfs ⊎ (Rtr ⊎ (Ksm ⊎ (Rsm ⊎ (Ers ⊎ (Esm ⊎ Dsm))))))

abbrev to_class : Message → Classes
to_class (message.Rsi m) = inl m
to_class (message.Rfs m) = inr (inl m)
to_class (message.Rtr m) = inr (inr (inl m))
to_class (message.Ksm m) = inr (inr (inr (inl m)))
to_class (message.Rsm m) = inr (inr (inr (inr (inl m))))
to_class (message.Ers m) = inr (inr (inr (inr (inr (inl m)))))
to_class (message.Esm m) = inr (inr (inr (inr (inr (inr (inl m))))))
to_class (message.Dsm m) = inr (inr (inr (inr (inr (inr (inr m))))))

abbrev from_class : Classes → Message
from_class (inl m) = message.Rsi m
from_class (inr (inl m)) = message.Rfs m
from_class (inr (inr (inl m))) = message.Rtr m
from_class (inr (inr (inr (inl m)))) = message.Ksm m
from_class (inr (inr (inr (inr (inl m))))) = message.Rsm m
from_class (inr (inr (inr (inr (inr (inl m)))))) = message.Ers m
from_class (inr (inr (inr (inr (inr (inr (inl m))))))) = message.Esm m
from_class (inr (inr (inr (inr (inr (inr (inr m))))))) = message.Dsm m

class_back : (m : Message) → from_class (to_class m) ≡ m
class_back (message.Rsi m) = refl
class_back (message.Rfs m) = refl
class_back (message.Rtr m) = refl
class_back (message.Ksm m) = refl
class_back (message.Rsm m) = refl
class_back (message.Ers m) = refl
class_back (message.Esm m) = refl
class_back (message.Dsm m) = refl

message_code : Coded Message
message_code = code_by Classes (coded⊎ rsi (coded⊎ rfs (coded⊎ rtr (coded⊎ ksm (coded⊎ rsm (coded⊎ ers (coded⊎ esm dsm))))))) to_class from_class class_back

abbrev to_shut : Shut → ℕ ⊎ ℕ
to_shut (shut.Mac n) = inl n
to_shut (shut.Edc n) = inr n

abbrev from_shut : ℕ ⊎ ℕ → Shut
from_shut (inl n) = shut.Mac n
from_shut (inr n) = shut.Edc n

shut_back : (s : Shut) → from_shut (to_shut s) ≡ s
shut_back (shut.Mac n) = refl
shut_back (shut.Edc n) = refl

shut_code : Coded Shut
shut_code = code_by (ℕ ⊎ ℕ) (coded⊎ coded_ℕ coded_ℕ) to_shut from_shut shut_back

-- what was read
pub parsed : Coded Parsed
parsed = code_by (Message × (Shut × (ℕ × ℕ))) (coded× message_code (coded× shut_code (coded× coded_ℕ coded_ℕ))) (λ p. (p.message, (p.shut, (p.auth_len, p.len)))) (λ t. record { message = t.0; shut = t.1.0; auth_len = t.1.1.0; len = t.1.1.1 }) (λ p. refl)

abbrev Values : Type 0
Values = Bytes ⊎ (KeyName ⊎ (Service ⊎ (ℕ ⊎ (ℕ × ℕ))))

abbrev to_value : Value → Values
to_value (AText t) = inl t
to_value (AName n) = inr (inl n)
to_value (AService s) = inr (inr (inl s))
to_value (ANumber n) = inr (inr (inr (inl n)))
to_value (APair l r) = inr (inr (inr (inr (l, r))))

abbrev from_value : Values → Value
from_value (inl t) = AText t
from_value (inr (inl n)) = AName n
from_value (inr (inr (inl s))) = AService s
from_value (inr (inr (inr (inl n)))) = ANumber n
from_value (inr (inr (inr (inr p)))) = APair p.0 p.1

value_back : (v : Value) → from_value (to_value v) ≡ v
value_back (AText t) = refl
value_back (AName n) = refl
value_back (AService s) = refl
value_back (ANumber n) = refl
value_back (APair l r) = refl

-- a value in a message
pub value : Coded Value
value = code_by Values (coded⊎ bytes (coded⊎ name (coded⊎ service_code (coded⊎ coded_ℕ (coded× coded_ℕ coded_ℕ))))) to_value from_value value_back
