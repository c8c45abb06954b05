-- Courses of a batch, entry by entry.
use Rattle.std.proofs.Common.{◌≡◌, inl, inr, ⊎_elim, ℕ, zero, suc, List, [], ◌∷◌, ◌++◌, length, slice_get, take, Some, Ok, Err, Result, IfOk, refl, sym, ap, subst, arith, ◌∙◌}
use Rattle.std.proofs.Math.Logic.{∥∥₁_prop}
use Rattle.csm_grammar.specs.declared.arrival.Arrival.{Arrival}
use Rattle.csm_grammar.specs.declared.parsed.Parsed.{Parsed}
use Rattle.csm_feed.specs.declared.unheard.Unheard.{Unheard}
use Rattle.csm_grammar.specs.Reading.{IsArrival as IsRead}
use Rattle.csm_feed.specs.Heard.{Heard, readings, after_leading, OneHeard}
use Rattle.member.specs.Member.{Member, after}
use Rattle.node_core.specs.Turns.{IsImageOf}
use Rattle.csm_batch.specs.declared.entry.Entry.{Entry}
use Rattle.spool_store.specs.declared.entry_plan.EntryPlan.{EntryPlan}
use Rattle.spool_store.specs.Contents.{Progress, HoldsPlans}
use Rattle.csm_spool.specs.Planning.{entry_plan, plan_of_unheard}
use Rattle.csm_spool.specs.Courses.{IsHeard, plan_for, EntryLeads, EntriesLead}
use Rattle.csm_spool.specs.InStep.{InStep}
use Rattle.csm_spool.specs.Stepping.{IsNext}
use Rattle.csm_spool.specs.Laws.{OneCourse, OnePlans, LawBegins, LawCommit, LawTake}

-- ---- one course

abbrev pub HeardOnce : Type 0
HeardOnce = (bytes : List ℕ) → OneHeard bytes

pub same_heard : HeardOnce → (bytes : List ℕ) (h k : Result Parsed Unheard) → Heard bytes h → Heard bytes k → h ≡ k
same_heard once bytes h k a b = (once bytes).alone h a ∙ sym ((once bytes).alone k b)

pub never_both : HeardOnce → (bytes : List ℕ) (a : Arrival) (u : Unheard) → IsHeard bytes a → Heard bytes (Err u) → ⊥
never_both once bytes a u h k = let both : Ok a.parsed ≡ Err u = same_heard once bytes (Ok a.parsed) (Err u) h.heard k in cc both

-- messages that were read alike, with one text, are one
alike : (a b : Arrival) → a.text ≡ b.text → a.parsed ≡ b.parsed → a ≡ b
alike a b e f =
    subst (λ (t : List ℕ). (y : ∥ IsRead t b.parsed ∥₁) → a ≡ record { parsed = b.parsed; text = t; arrived = y }) e
    (subst (λ (p : Parsed). (y : ∥ IsRead a.text p ∥₁) → a ≡ record { parsed = p; text = a.text; arrived = y }) f
    (λ y. ap (λ (z : ∥ IsRead a.text a.parsed ∥₁). record { parsed = a.parsed; text = a.text; arrived = z }) (∥∥₁_prop a.arrived y))) b.arrived

pub same_arrival : HeardOnce → (bytes : List ℕ) (a b : Arrival) → IsHeard bytes a → IsHeard bytes b → a ≡ b
same_arrival once bytes a b h k =
    let both : Ok a.parsed ≡ Ok b.parsed = same_heard once bytes (Ok a.parsed) (Ok b.parsed) h.heard k.heard in
    let parsed : a.parsed ≡ b.parsed = cc both in
    let text : a.text ≡ b.text = h.text ∙ (ap (λ (p : Parsed). take p.len (after_leading bytes)) parsed ∙ sym k.text) in
    alike a b text parsed

-- what is heard, told by its answer
pub heard_message : (bytes : List ℕ) (h : Result Arrival Unheard) (a : Arrival) → h ≡ Ok a → Heard bytes (readings h) → IfOk h (λ (m : Arrival). m.text ≡ take m.parsed.len (after_leading bytes)) → IsHeard bytes a
heard_message bytes (Ok b) a is heard text = let same : b ≡ a = cc is in subst (IsHeard bytes) same (record { heard = heard; text = text })
heard_message bytes (Err u) a is heard text = absurd (cc is)

pub heard_none : (bytes : List ℕ) (h : Result Arrival Unheard) (u : Unheard) → h ≡ Err u → Heard bytes (readings h) → Heard bytes (Err u)
heard_none bytes h u is heard = subst (λ (k : Result Arrival Unheard). Heard bytes (readings k)) is heard

pub one_lead : HeardOnce → (x : Member) (e : Entry) (p q : EntryPlan) (y z : Member) → EntryLeads x e p y → EntryLeads x e q z → y ≡ z
one_lead once x e p q y z (inl a) (inl b) = a.stays ∙ sym b.stays
one_lead once x e p q y z (inr a) (inr b) =
    let same : a.arrival ≡ b.arrival = same_arrival once e.bytes a.arrival b.arrival a.heard b.heard in
    a.after ∙ (ap (λ (m : Arrival). after x (plan_for x m e).edits) same ∙ sym b.after)
one_lead once x e p q y z (inl a) (inr b) = absurd (never_both once e.bytes b.arrival a.unheard b.heard a.heard)
one_lead once x e p q y z (inr a) (inl b) = absurd (never_both once e.bytes a.arrival b.unheard a.heard b.heard)

courses : HeardOnce → (x : Member) (entries : List Entry) (plans : List EntryPlan) (y z : Member) → EntriesLead x entries plans y → EntriesLead x entries plans z → y ≡ z
courses once x entries [] y z a b = a ∙ sym b
courses once x [] (p ∷ plans) y z a b = absurd a
courses once x (e ∷ entries) (p ∷ plans) y z a b =
    let same : a.0 ≡ b.0 = one_lead once x e p p a.0 b.0 a.1 b.1 in
    courses once a.0 entries plans y z a.2 (subst (λ (m : Member). EntriesLead m entries plans z) (sym same) b.2)

pub one_course : HeardOnce → OneCourse
one_course once = courses once

one_plan : HeardOnce → (x : Member) (e : Entry) (p q : EntryPlan) (y z : Member) → EntryLeads x e p y → EntryLeads x e q z → p ≡ q
one_plan once x e p q y z (inl a) (inl b) =
    let both : Err a.unheard ≡ Err b.unheard = same_heard once e.bytes (Err a.unheard) (Err b.unheard) a.heard b.heard in
    let same : a.unheard ≡ b.unheard = cc both in
    a.plan ∙ (ap plan_of_unheard same ∙ sym b.plan)
one_plan once x e p q y z (inr a) (inr b) =
    let same : a.arrival ≡ b.arrival = same_arrival once e.bytes a.arrival b.arrival a.heard b.heard in
    a.plan ∙ (ap (λ (m : Arrival). entry_plan (plan_for x m e)) same ∙ sym b.plan)
one_plan once x e p q y z (inl a) (inr b) = absurd (never_both once e.bytes b.arrival a.unheard b.heard a.heard)
one_plan once x e p q y z (inr a) (inl b) = absurd (never_both once e.bytes a.arrival b.unheard a.heard b.heard)

pub one_plans : HeardOnce → OnePlans
one_plans once x entries [] [] y z same a b = refl
one_plans once x entries [] (q ∷ others) y z same a b = absurd (omega (arith, same))
one_plans once x entries (p ∷ plans) [] y z same a b = absurd (omega (arith, same))
one_plans once x [] (p ∷ plans) (q ∷ others) y z same a b = absurd a
one_plans once x (e ∷ entries) (p ∷ plans) (q ∷ others) y z same a b =
    let first : p ≡ q = one_plan once x e p q a.0 b.0 a.1 b.1 in
    let mid : b.0 ≡ a.0 = one_lead once x e q p b.0 a.0 b.1 a.1 in
    let rest : plans ≡ others = one_plans once a.0 entries plans others y z (omega (arith, same)) a.2 (subst (λ (m : Member). EntriesLead m entries others z) mid b.2) in
    ap (λ (r : EntryPlan). r ∷ plans) first ∙ ap (λ (l : List EntryPlan). q ∷ l) rest

-- ---- one entry more, and one less

pub course_on : (x : Member) (entries : List Entry) (plans : List EntryPlan) (here there : Member) (e : Entry) (p : EntryPlan) → EntriesLead x entries plans here → slice_get entries (length plans) ≡ Some e → EntryLeads here e p there → EntriesLead x entries (plans ++ p ∷ []) there
course_on x [] [] here there e p c g l = absurd (cc g)
course_on x (f ∷ entries) [] here there e p c g l =
    let first : f ≡ e = cc g in
    (there, subst (λ (y : Member). EntryLeads y f p there) c (subst (λ (h : Entry). EntryLeads here h p there) (sym first) l), refl)
course_on x [] (q ∷ plans) here there e p c g l = absurd c
course_on x (f ∷ entries) (q ∷ plans) here there e p c g l = (c.0, c.1, course_on c.0 entries plans here there e p c.2 g l)

-- the last step of a course
pub record IsLastStep (x : Member) (entries : List Entry) (front : List EntryPlan) (last : EntryPlan) (here : Member) : Type 0 where
  pub before : Member
  pub entry : Entry
  pub course : EntriesLead x entries front before
  pub at : slice_get entries (length front) ≡ Some entry
  pub leads : EntryLeads before entry last here

pub last_step : (x : Member) (entries : List Entry) (front : List EntryPlan) (last : EntryPlan) (here : Member) → EntriesLead x entries (front ++ last ∷ []) here → IsLastStep x entries front last here
last_step x [] [] last here c = absurd c
last_step x (e ∷ entries) [] last here c = record { before = x; entry = e; course = refl; at = refl; leads = subst (λ (y : Member). EntryLeads x e last y) (sym c.2) c.1 }
last_step x [] (q ∷ front) last here c = absurd c
last_step x (e ∷ entries) (q ∷ front) last here c =
    let rest = last_step c.0 entries front last here c.2 in
    record { before = rest.before; entry = rest.entry; course = (c.0, c.1, rest.course); at = rest.at; leads = rest.leads }

-- a list that isn't empty ends with a last one
pub last_of : (plans : List EntryPlan) (n : ℕ) (plan : EntryPlan) → length plans ≡ suc n → slice_get plans n ≡ Some plan → (front : List EntryPlan) × (plans ≡ front ++ plan ∷ []) × (length front ≡ n)
last_of [] n plan count at = absurd (omega (arith, count))
last_of (p ∷ []) zero plan count at = let same : p ≡ plan = cc at in ([], ap (λ (q : EntryPlan). q ∷ []) same, refl)
last_of (p ∷ q ∷ plans) zero plan count at = absurd (omega (arith, count))
last_of (p ∷ []) (suc n) plan count at = absurd (omega (arith, count))
last_of (p ∷ q ∷ plans) (suc n) plan count at =
    let less : length (q ∷ plans) ≡ suc n = omega (arith, count) in
    let rest = last_of (q ∷ plans) n plan less at in
    (p ∷ rest.0, ap (λ (l : List EntryPlan). p ∷ l) rest.1, ap suc rest.2)

-- ---- images

pub begins : LawBegins
begins party spool text x entries stands left = ⊎_elim
    (λ blank. inl (blank, stands))
    (λ holds. inr (record { plans = []; holds = holds; member = x; is_at = record { here = x; course = refl; at = inl refl }; stands = stands }))
    left

pub on_there : (x here there : Member) (p : Progress) (plan : EntryPlan) → EntriesLead x p.entries p.plans here → IsNext p here plan there → EntriesLead x p.entries (p.plans ++ plan ∷ []) there
on_there x here there p plan course next = course_on x p.entries p.plans here there next.entry plan course next.at next.leads

pub commit : LawCommit
commit party spool x here there p plan course next stands left = ⊎_elim
    (λ old. inr (record { plans = p.plans; holds = old; member = here; is_at = record { here = here; course = course; at = inl refl }; stands = stands }))
    (λ new. inr (record {
      plans = p.plans ++ plan ∷ [];
      holds = new;
      member = here;
      is_at = record { here = there; course = on_there x here there p plan course next; at = inr (record { front = p.plans; last = plan; split = refl; course = course }) };
      stands = stands;
    }))
    left

pub carried : LawTake
carried party spool x here there p plan course next stands holds = ⊎_elim
    (λ old. commit party spool x here there p plan course next old (inr holds))
    (λ new. inr (record {
      plans = p.plans ++ plan ∷ [];
      holds = holds;
      member = there;
      is_at = record { here = there; course = on_there x here there p plan course next; at = inl refl };
      stands = new;
    }))
    stands

-- the party is behind the plans that stand
pub at_rest : (party spool : List ℕ) (x here : Member) (p : Progress) → EntriesLead x p.entries p.plans here → IsImageOf here party → HoldsPlans spool p → InStep party spool p.text x p.entries
at_rest party spool x here p course stands holds = inr (record { plans = p.plans; holds = holds; member = here; is_at = record { here = here; course = course; at = inl refl }; stands = stands })
