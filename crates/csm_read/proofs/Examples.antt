-- The definitions compute: texts with and without a fault.
use Rattle.std.proofs.Common.{◌≡◌, ◌∷◌, ◌++◌, Some, None, refl}
use Rattle.std.specs.Prelude.{codes, replicate}
use Rattle.csm_grammar.specs.declared.tag.Tag.TheVariants.{Cta, Ctb, Ctp, DoubleKk, DoubleKku, Erf, Idc, Idd, Mac, Mcl, Nos, Rcv, Svr}
use Rattle.csm_grammar.specs.declared.refusal.ReadRefusal.TheVariants as refusal
use Rattle.csm_read.specs.Units.{stretches, units}
use Rattle.csm_read.specs.Faults.{first_fault, fault_of_text}

initiation : fault_of_text (codes "CSM(MCL/RSI RCV/BANKB ORG/BANKA SVR/KD EDC/6C5A8EFC)") ≡ None
unfolding fault_of_text stretches units first_fault
initiation = refl

small_front_tag : fault_of_text (codes "CSM(mcl/rsi rcv/bankb org/banka svr/kd edc/6c5a8efc)") ≡ Some (refusal.BadTag 4)
unfolding fault_of_text stretches units first_fault
small_front_tag = refl

empty : fault_of_text (codes "") ≡ Some (refusal.NotCsm 0)
unfolding fault_of_text stretches units first_fault
empty = refl

begun : fault_of_text (codes "C") ≡ Some (refusal.Unended 1)
unfolding fault_of_text stretches units first_fault
begun = refl

other_front : fault_of_text (codes "CSN(") ≡ Some (refusal.NotCsm 2)
unfolding fault_of_text stretches units first_fault
other_front = refl

other_bracket : fault_of_text (codes "CSM[") ≡ Some (refusal.NotCsm 3)
unfolding fault_of_text stretches units first_fault
other_bracket = refl

small_front : fault_of_text (codes "csm(") ≡ Some (refusal.NotCsm 0)
unfolding fault_of_text stretches units first_fault
small_front = refl

front_begun : fault_of_text (codes "CSM") ≡ Some (refusal.Unended 3)
unfolding fault_of_text stretches units first_fault
front_begun = refl

front_alone : fault_of_text (codes "CSM(") ≡ Some (refusal.Unended 4)
unfolding fault_of_text stretches units first_fault
front_alone = refl

tag_begun : fault_of_text (codes "CSM(M") ≡ Some (refusal.Unended 5)
unfolding fault_of_text stretches units first_fault
tag_begun = refl

token_unended : fault_of_text (codes "CSM(MCL/RSI") ≡ Some (refusal.Unended 11)
unfolding fault_of_text stretches units first_fault
token_unended = refl

half_unended : fault_of_text (codes "CSM(MCL/RSI RCV/BANKB ORG/BANKA SVR/KD EDC/6C5A") ≡ Some (refusal.Unended 47)
unfolding fault_of_text stretches units first_fault
half_unended = refl

code_unended : fault_of_text (codes "CSM(MCL/RSI RCV/BANKB ORG/BANKA SVR/KD EDC/6C5A8EFC") ≡ Some (refusal.Unended 51)
unfolding fault_of_text stretches units first_fault
code_unended = refl

halves : fault_of_text (codes "CSM(MCL/RSM" ++ (13 ∷ 10 ∷ codes "RCV/BANKA ORG/BANKB MAC/1a2b 3C4D )")) ≡ None
unfolding fault_of_text stretches units first_fault
halves = refl

halves_parted_by_two : fault_of_text (codes "CSM(MCL/RSM RCV/BANKA ORG/BANKB MAC/1A2B  3C4D)") ≡ Some (refusal.BadContents Mac 36)
unfolding fault_of_text stretches units first_fault
halves_parted_by_two = refl

short_code : fault_of_text (codes "CSM(MCL/RSM RCV/BANKA ORG/BANKB MAC/1A2B3C4)") ≡ Some (refusal.BadContents Mac 36)
unfolding fault_of_text stretches units first_fault
short_code = refl

twice : fault_of_text (codes "CSM(MCL/RSI RCV/BANKB RCV/BANKB ORG/BANKA)") ≡ Some (refusal.Repeated Rcv 22)
unfolding fault_of_text stretches units first_fault
twice = refl

closing_too_early : fault_of_text (codes "CSM(MCL/RSI RCV/BANKB ORG/BANKA EDC/00000000)") ≡ Some (refusal.Missing Svr 32)
unfolding fault_of_text stretches units first_fault
closing_too_early = refl

not_of_class : fault_of_text (codes "CSM(MCL/RSI RCV/BANKB ORG/BANKA CTP/1 SVR/KD EDC/00000000)") ≡ Some (refusal.Unwanted Ctp 32)
unfolding fault_of_text stretches units first_fault
not_of_class = refl

of_another_form : fault_of_text (codes "CSM(MCL/KSM RCV/BANKB ORG/BANKA KD/0123456789ABCDEF IDC/CKDX MAC/00000000)") ≡ Some (refusal.Unwanted Idc 52)
unfolding fault_of_text stretches units first_fault
of_another_form = refl

direct : fault_of_text (codes "CSM(MCL/KSM RCV/BANKB ORG/BANKA KD/0123456789ABCDEF CTP/00000000000001 MAC/00000000)") ≡ None
unfolding fault_of_text stretches units first_fault
direct = refl

any_order : fault_of_text (codes "CSM(MCL/KSM CTP/007 KD/0123456789abcdef ORG/BANKA RCV/BANKB MAC/89ab cdef)") ≡ None
unfolding fault_of_text stretches units first_fault
any_order = refl

pair_for_another : fault_of_text (codes "CSM(MCL/KSM RCV/BANKB ORG/BANKA *KKU/0 MAC/0)") ≡ Some (refusal.Unsupported DoubleKku 32)
unfolding fault_of_text stretches units first_fault
pair_for_another = refl

notarized : fault_of_text (codes "CSM(MCL/KSM RCV/BANKB ORG/BANKA NOS/ MAC/0)") ≡ Some (refusal.Unsupported Nos 32)
unfolding fault_of_text stretches units first_fault
notarized = refl

double_length : fault_of_text (codes "CSM(MCL/KSM RCV/BANKB ORG/BANKA IDK1/K2 IDK2/K1 *KK/0123456789ABCDEF0123456789ABCDEF KD/0123456789ABCDEF CTP/1 MAC/12345678)") ≡ None
unfolding fault_of_text stretches units first_fault
double_length = refl

both_lengths : fault_of_text (codes "CSM(MCL/KSM RCV/BANKB ORG/BANKA IDK1/K2 KK/0123456789ABCDEF *KK/0123456789ABCDEF0123456789ABCDEF KD/0123456789ABCDEF CTP/1 MAC/12345678)") ≡ Some (refusal.Unwanted DoubleKk 60)
unfolding fault_of_text stretches units first_fault
both_lengths = refl

ended_key : fault_of_text (codes "CSM(MCL/DSM RCV/BANKB ORG/BANKA IDD/BANKA.BANKA.K1.0001 MAC/12345678)") ≡ None
unfolding fault_of_text stretches units first_fault
ended_key = refl

name_of_three_parts : fault_of_text (codes "CSM(MCL/DSM RCV/BANKB ORG/BANKA IDD/BANKA.BANKA.K1 MAC/12345678)") ≡ Some (refusal.BadContents Idd 36)
unfolding fault_of_text stretches units first_fault
name_of_three_parts = refl

no_reason : fault_of_text (codes "CSM(MCL/ESM RCV/BANKA ORG/BANKB ERF/ MAC/00000000)") ≡ Some (refusal.BadContents Erf 36)
unfolding fault_of_text stretches units first_fault
no_reason = refl

class_not_first : fault_of_text (codes "CSM(RCV/BANKA MCL/RSM)") ≡ Some (refusal.Missing Mcl 4)
unfolding fault_of_text stretches units first_fault
class_not_first = refl

no_class : fault_of_text (codes "CSM(MCL/XYZ )") ≡ Some (refusal.BadContents Mcl 8)
unfolding fault_of_text stretches units first_fault
no_class = refl

small_letters : fault_of_text (codes "CSM(MCL/RSI RCV/abc )") ≡ Some (refusal.BadContents Rcv 16)
unfolding fault_of_text stretches units first_fault
small_letters = refl

short_identity : fault_of_text (codes "CSM(MCL/RSI RCV/ABC )") ≡ Some (refusal.BadContents Rcv 16)
unfolding fault_of_text stretches units first_fault
short_identity = refl

long_identity : fault_of_text (codes "CSM(MCL/RSI RCV/ABCDEFGHIJKLMNOPQ )") ≡ Some (refusal.BadContents Rcv 16)
unfolding fault_of_text stretches units first_fault
long_identity = refl

small_tag : fault_of_text (codes "CSM(MCL/RSI toolong/1 )") ≡ Some (refusal.BadTag 12)
unfolding fault_of_text stretches units first_fault
small_tag = refl

long_tag : fault_of_text (codes "CSM(MCL/RSI ABCDE/1 )") ≡ Some (refusal.BadTag 12)
unfolding fault_of_text stretches units first_fault
long_tag = refl

unknown_tag : fault_of_text (codes "CSM(MCL/RSI ZZ/1 )") ≡ Some (refusal.UnknownTag 12)
unfolding fault_of_text stretches units first_fault
unknown_tag = refl

no_slash : fault_of_text (codes "CSM(MCL/RSI nofield )") ≡ Some (refusal.BadTag 12)
unfolding fault_of_text stretches units first_fault
no_slash = refl

nothing : fault_of_text (codes "CSM()") ≡ Some (refusal.Missing Mcl 4)
unfolding fault_of_text stretches units first_fault
nothing = refl

a_blank_alone : fault_of_text (codes "CSM( )") ≡ Some (refusal.Missing Mcl 5)
unfolding fault_of_text stretches units first_fault
a_blank_alone = refl

request : fault_of_text (codes "CSM(MCL/RFS RCV/CKTX ORG/BANKA IDU/BANKB KD/0123456789ABCDEF CTA/1 MAC/00000000)") ≡ None
unfolding fault_of_text stretches units first_fault
request = refl

count_is_missing : fault_of_text (codes "CSM(MCL/RTR RCV/BANKA ORG/CKDX IDU/BANKB KDU/0123456789ABCDEF KD/0123456789ABCDEF CTB/1 MAC/00000000)") ≡ Some (refusal.Missing Cta 88)
unfolding fault_of_text stretches units first_fault
count_is_missing = refl

response : fault_of_text (codes "CSM(MCL/RTR RCV/BANKA ORG/CKDX IDU/BANKB KDU/0123456789ABCDEF CTB/1 P/a.b-c* IV/x EDK/y MAC/0000 0000)") ≡ None
unfolding fault_of_text stretches units first_fault
response = refl

recovery : fault_of_text (codes "CSM(MCL/ERS RCV/CKDX ORG/BANKA IDU/BANKB CTR/3 ERF/C MAC/00000000)") ≡ None
unfolding fault_of_text stretches units first_fault
recovery = refl

count_too_high : fault_of_text (codes "CSM(MCL/KSM RCV/BANKB ORG/BANKA IDC/CKDX KDU/0123456789ABCDEF CTB/100000000000000 MAC/00000000)") ≡ Some (refusal.BadContents Ctb 66)
unfolding fault_of_text stretches units first_fault
count_too_high = refl

ends_at_the_limit : fault_of_text (codes "CSM(" ++ (replicate 1019 32 ++ codes ")")) ≡ Some (refusal.Missing Mcl 1023)
unfolding fault_of_text stretches units first_fault
ends_at_the_limit = refl

ends_behind_the_limit : fault_of_text (codes "CSM(" ++ (replicate 1020 32 ++ codes ")")) ≡ Some (refusal.TooLong 1024)
unfolding fault_of_text stretches units first_fault
ends_behind_the_limit = refl

unended_at_the_limit : fault_of_text (codes "CSM(" ++ replicate 1020 32) ≡ Some (refusal.Unended 1024)
unfolding fault_of_text stretches units first_fault
unended_at_the_limit = refl
