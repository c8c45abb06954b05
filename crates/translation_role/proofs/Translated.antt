-- What is decided of a request for service under both links.
use Rattle.std.proofs.Common.{◌≡◌, Bool, true, false, cond, not, ◌&&◌, bytes_eq, Result, Some, None, Ok, Err, IfOk, List, ◌∷◌, ◌++◌, refl, ap, ◌∙◌}
use Rattle.std.proofs.lemmas.Bool.{true≢false}
use Rattle.x_base.specs.declared.text.NoMemory.{NoMemory}
use Rattle.x_base.specs.declared.verdict.Verdict.{Verdict}
use Rattle.x_base.specs.declared.verdict.Verdict.TheVariants.{NotForMe, UnknownPeer, WrongClass, BadMac}
use Rattle.csm_grammar.specs.declared.arrival.Arrival.{Arrival}
use Rattle.csm_grammar.specs.declared.message.Rfs.{Rfs}
use Rattle.party_state.specs.declared.decision.Decision.{Decision}
use Rattle.party_state.specs.declared.decision.Lead.{Lead}
use Rattle.party_tables.specs.declared.link.LinkRec.{LinkRec}
use Rattle.party_tables.specs.Ranges.{IsNextCount}
use Rattle.party_tables.specs.Keys.{sends, takes}
use Rattle.party_state.specs.State.{Party, centre_label, link_with, knows}
use Rattle.party_state.specs.Verdicts.{Test, verdict_of, is_accept, tests_pass}
use Rattle.role_base.specs.Conditions.{is_for}
use Rattle.role_base.specs.Deciding.{decision_of, accepting}
use Rattle.role_base.specs.Errors.{TellsCount, answering, coded_under}
use Rattle.role_base.specs.Texts.{is_verified, lead_under}
use Rattle.role_base.proofs.ByRow.{by_answered}
use Rattle.role_base.proofs.Counted.{tells_by, expected_is_count}
use Rattle.role_base.proofs.Decided.{decides_row}
use Rattle.translation_role.specs.Service.{rfs_value, rfs_under, rfs_reply, rfs_edits, rfs_front, rfs_rest, rfs_tests, rfs_error, rfs_between, rfs, rfs_lead}

-- the tests, the code being tested
abbrev pub tested : Party → Rfs → LinkRec → LinkRec → Bool → List Test
tested p m l b v = rfs_front p m true ++ (v, BadMac) ∷ rfs_rest m l b

pub rfs_tells_count : (p : Party) (m : Rfs) (l b : LinkRec) (v : Bool) → IsNextCount l.next → TellsCount (verdict_of (tested p m l b v))
rfs_tells_count p m l b v i = tells_by (tested p m l b v) (λ _. tt, (λ _. tt, (λ _. tt, (λ _. tt, (λ _. tt, (λ h. expected_is_count l m.cta i h, (λ _. tt, (λ _. tt, tt))))))))

verdict_is : (p : Party) (a : Arrival) (m : Rfs) (l b : LinkRec) (x : Lead) (v : Verdict) → v ≡ verdict_of (tested p m l b x.verified) → x ≡ lead_under a (rfs_under p m) (rfs_value m l) → v ≡ verdict_of (rfs_tests p a m l b)
verdict_is p a m l b x v e i = e ∙ ap (λ (y : Lead). verdict_of (tested p m l b y.verified)) i

pub rfs_refuses : (p : Party) (a : Arrival) (m : Rfs) (l b : LinkRec) (x : Lead) (v : Verdict) (made : Result Decision NoMemory) → v ≡ verdict_of (tested p m l b x.verified) → x ≡ lead_under a (rfs_under p m) (rfs_value m l) → is_accept v ≡ false
    → IfOk made (λ d. d ≡ answering v (coded_under x.under x.value (rfs_error p m v))) → IfOk made (λ d. d ≡ decision_of p (rfs_between p a m (Some l) (Some b)))
rfs_refuses p a m l b x v made e i f k =
    let w : v ≡ verdict_of (rfs_tests p a m l b) = verdict_is p a m l b x v e i in
    let r : answering v (coded_under x.under x.value (rfs_error p m v)) ≡ decision_of p (rfs_between p a m (Some l) (Some b)) =
    ap (λ (y : Lead). answering v (coded_under y.under y.value (rfs_error p m v))) i
    ∙ (ap (λ (u : Verdict). answering v (coded_under (rfs_under p m) (rfs_value m l) (rfs_error p m u))) w
    ∙ by_answered p (rfs_between p a m (Some l) (Some b)) v w f) in
    if_made made _ _ r k
  where
    if_made : (made : Result Decision NoMemory) (one other : Decision) → one ≡ other → IfOk made (λ d. d ≡ one) → IfOk made (λ d. d ≡ other)
    if_made (Ok d) one other r k = k ∙ r
    if_made (Err f) one other r k = tt

pub rfs_accepts : (p : Party) (a : Arrival) (m : Rfs) (l b : LinkRec) (x : Lead) (v : Verdict) (made : Result Decision NoMemory) → v ≡ verdict_of (tested p m l b x.verified) → x ≡ lead_under a (rfs_under p m) (rfs_value m l) → is_accept v ≡ true
    → IfOk made (λ d. d ≡ accepting p (rfs_edits m l b) (Some (rfs_reply p m l b))) → IfOk made (λ d. d ≡ decision_of p (rfs_between p a m (Some l) (Some b)))
rfs_accepts p a m l b x v made e i t k = decides_row made p (rfs_between p a m (Some l) (Some b)) v k (verdict_is p a m l b x v e i) t

-- one that is refused before its code is looked at isn't answered
pub rfs_unanswered : (p : Party) (a : Arrival) (m : Rfs) (l b : LinkRec) → tests_pass (rfs_front p m true) ≡ false → (rfs_between p a m (Some l) (Some b)).answer ≡ None
rfs_unanswered p a m l b f = go (is_for p m.receiver m.originator) (knows m.originator p) (not (bytes_eq m.ultimate m.originator)) f
  where
    rest : List Test
    rest = (is_verified a (rfs_value m l), BadMac) ∷ rfs_rest m l b

    go : (x y z : Bool) → (x && (y && (z && true))) ≡ false → coded_under (rfs_under p m) (rfs_value m l) (rfs_error p m (cond x (cond y (cond z (verdict_of rest) WrongClass) UnknownPeer) NotForMe)) ≡ None
    go true true true h = absurd (true≢false h)
    go true true false h = refl
    go true false z h = refl
    go false y z h = refl

-- what was found, in the words of the row and of the key to test the code under

pub rfs_is : (p : Party) (a : Arrival) (m : Rfs) (l b : LinkRec) → link_with (takes m.originator centre_label) p ≡ Some l → link_with (sends m.ultimate centre_label) p ≡ Some b → rfs_between p a m (Some l) (Some b) ≡ rfs p a m
rfs_is p a m l b f g = rw (f, g) refl

pub rfs_lead_is : (p : Party) (a : Arrival) (m : Rfs) (l b : LinkRec) → link_with (takes m.originator centre_label) p ≡ Some l → link_with (sends m.ultimate centre_label) p ≡ Some b
    → rfs_lead p a m ≡ cond (tests_pass (rfs_front p m true)) (Some (lead_under a (rfs_under p m) (rfs_value m l))) None
rfs_lead_is p a m l b f g = rw (f, g) refl
