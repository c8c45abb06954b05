-- By which events a member goes on where it carries out entries of a batch.
use Rattle.std.proofs.Common.{arith, ◌≡◌, ◌≢◌, ◌⊎◌, inl, inr, ℕ, zero, suc, ◌+◌, ◌≤◌, Some, List, [], ◌∷◌, ◌++◌, length, map, take, drop, slice_get, option_to_list, refl, sym, ◌∙◌, ap, subst, length-append, length-drop, length-take-le, take-append-drop}
use Rattle.csm_grammar.specs.declared.arrival.Arrival.{Arrival}
use Rattle.party_state.specs.declared.command.Input.{Input}
use Rattle.party_state.specs.declared.command.Input.TheVariants.{Arrived}
use Rattle.party_state.specs.State.{Party}
use Rattle.change_code.specs.declared.format.Format.TheVariants.{Two}
use Rattle.change_code.specs.Code.{IsCode}
use Rattle.x_disk.specs.Disk.{View, Tells}
use Rattle.member.specs.Member.{Member, plan_at, after}
use Rattle.member.specs.Acts.{taking}
use Rattle.csm_batch.specs.declared.entry.Entry.{Entry}
use Rattle.spool_store.specs.declared.entry_plan.EntryPlan.{EntryPlan}
use Rattle.spool_store.specs.Spools.{outbox_of}
use Rattle.csm_spool.specs.Courses.{plan_for, IsRefusal, IsArrival, EntryLeads, EntriesLead}
use Rattle.csm_spool.specs.Drives.{IsSettled}
use Rattle.csm_spool.specs.Catching.{TakesUp, CatchesUp}
use Rattle.csm_spool.specs.Going.{GoesOn, HasGoneOn, HoldsKept}
use Rattle.csm_spool.proofs.PlanEdits.{no_code}
use Rattle.csm_spool.proofs.Steps.{last_of}
use Rattle.x_spool.specs.Outcomes.{KeepsPlans, progress_of}
use Rattle.x_spool.specs.Onward.{HeldThese, WentOn}
use Rattle.world_laws.specs.World.{World, member_at}
use Rattle.world_laws.specs.Events.{Hears, Whole, Event}
use Rattle.world_laws.specs.Steps.{step}
use Rattle.world_laws.specs.Nodes.{IsEventOf, input_event}
use Rattle.call_laws.specs.Deeds.{event_of}
use Rattle.call_laws.proofs.Others.{Beside, step_beside}
use Rattle.mirror_laws.specs.Runs.{PairEvent, Happens, pair_run, ArePairEvents}
use Rattle.mirror_laws.specs.Turns.{turn_event}
use Rattle.mirror_laws.specs.Batches.{AreOfEntries, IsStretch, IsOnward, IsWholeBatch, IsPartBatch}
use Rattle.mirror_laws.proofs.Turned.{whole_at, whole_texts}
use Rattle.mirror_laws.proofs.Moves.{Moved, unmoved, moved_then}

-- ---- plans and entries by their places

drop_get : (es : List Entry) (number : ℕ) (e : Entry) → slice_get es number ≡ Some e → drop number es ≡ e ∷ drop (suc number) es
drop_get [] number e at = absurd (cc at)
drop_get (f ∷ es) zero e at = (let is : Some f ≡ Some e = at in let same : f ≡ e = cc is in ap (λ (h : Entry). h ∷ es) same)
drop_get (f ∷ es) (suc number) e at = drop_get es number e at

within_or_past : (n : ℕ) (es : List Entry) → (n ≤ length es) ⊎ (drop n es ≡ [])
within_or_past zero es = inl (omega arith)
within_or_past (suc n) [] = inr refl
within_or_past (suc n) (e ∷ es) = elim (within_or_past n es) [ inl le ↦ inl (omega (arith, le)) | inr none ↦ inr none ]

none_of : (es : List Entry) → length es ≡ 0 → es ≡ []
none_of [] count = refl
none_of (e ∷ es) count = (let never : ⊥ = omega (arith, count) in absurd never)

-- an entry is there that leads on
within : (n : ℕ) (entries : List Entry) (x : Member) (p : EntryPlan) (plans : List EntryPlan) (y : Member) → EntriesLead x (drop n entries) (p ∷ plans) y → n ≤ length entries
within n entries x p plans y lead = elim (within_or_past n entries) [
  | inl le ↦ le
  | inr none ↦ absurd (subst (λ (es : List Entry). EntriesLead x es (p ∷ plans) y) none lead)
]

-- a plan that isn't settled changes something
changes_something : (party : Party) (plan : EntryPlan) → (IsSettled party plan → ⊥) → plan.change ≢ []
changes_something party plan unsettled = λ none. unsettled (λ edits is. absurd (no_code edits (subst (λ (l : List ℕ). IsCode Two l edits) none is)))

-- the entries from that of the last plan that stood on lead from here to there; it changes something
record LeadsFromLast (x : Member) (entries : List Entry) (stood more : List EntryPlan) (y : Member) : Type 0 where
  pub front : List EntryPlan
  pub last : EntryPlan
  pub split : stood ≡ front ++ last ∷ []
  pub changes : last.change ≢ []
  pub course : EntriesLead x (drop (length front) entries) (last ∷ more) y

-- they do, or those behind the plans that stood do
abbrev LeadsOn : Member → List Entry → List EntryPlan → List EntryPlan → Member → Type 0
LeadsOn x entries stood more y = EntriesLead x (drop (length stood) entries) more y ⊎ LeadsFromLast x entries stood more y

taken_up : (text : List ℕ) (entries : List Entry) (stood more : List EntryPlan) (x there y : Member) → TakesUp x there (progress_of text entries stood) → EntriesLead there (drop (length stood) entries) more y → LeadsFromLast x entries stood more y
taken_up text entries stood more x there y t course =
    let behind : length stood ≡ suc t.last.number = omega (arith, t.last.count) in
    let cut = last_of stood t.last.number t.plan behind t.last.plan_is in
    let rest : EntriesLead there (drop (suc t.last.number) entries) more y = subst (λ (n : ℕ). EntriesLead there (drop n entries) more y) behind course in
    let first : drop (length cut.0) entries ≡ t.entry ∷ drop (suc t.last.number) entries = ap (λ (n : ℕ). drop n entries) cut.2 ∙ drop_get entries t.last.number t.entry t.last.entry_is in
    record {
      front = cut.0;
      last = t.plan;
      split = cut.1;
      changes = changes_something x.party t.plan t.unsettled;
      course = subst (λ (es : List Entry). EntriesLead x es (t.plan ∷ more) y) (sym first) (there, t.leads, rest);
    }

leads_on : (text : List ℕ) (entries : List Entry) (stood more : List EntryPlan) (x y : Member) → GoesOn x (progress_of text entries stood) more y → LeadsOn x entries stood more y
leads_on text entries stood more x y goes = go goes.caught_up
  where
    go : CatchesUp x goes.there (progress_of text entries stood) → LeadsOn x entries stood more y
    go (inl settled) = inl (subst (λ (z : Member). EntriesLead z (drop (length stood) entries) more y) settled.0 goes.course)
    go (inr t) = inr (taken_up text entries stood more x goes.there y t goes.course)

-- ---- the events of entries

-- the first ones are carried out by these plans, from here to there
record Entered (name : List ℕ) (x : Member) (entries : List Entry) (plans : List EntryPlan) (y : Member) : Type 0 where
  pub done : List Entry
  pub behind : List Entry
  pub split : entries ≡ done ++ behind
  pub count : length done ≡ length plans
  pub course : EntriesLead x done plans y
  pub events : List Event
  pub texts : List (List ℕ)
  pub are : AreOfEntries name done plans events texts
  pub are_events : ArePairEvents (map Happens events)
  pub moved : (n : ℕ) (w : World) → member_at name w.members ≡ Some x → Moved name w (pair_run n w (map Happens events)) texts y

none_entered : (name : List ℕ) (x : Member) (entries : List Entry) (y : Member) → y ≡ x → Entered name x entries [] y
none_entered name x entries y same = record {
  done = [];
  behind = entries;
  split = refl;
  count = refl;
  course = same;
  events = [];
  texts = [];
  are = (refl, refl);
  are_events = tt;
  moved = λ n w at. subst (λ (z : Member). Moved name w w [] z) (sym same) (unmoved name w x at);
}

-- a member goes on by events with texts of which this holds
pub record Carried (name : List ℕ) (x : Member) (are : List PairEvent → List (List ℕ) → Type 0) (y : Member) : Type 0 where
  pub events : List PairEvent
  pub texts : List (List ℕ)
  pub is : are events texts
  pub are_events : ArePairEvents events
  pub moved : (n : ℕ) (w : World) → member_at name w.members ≡ Some x → Moved name w (pair_run n w events) texts y

-- by the events of entries that are carried out
carried : (name : List ℕ) (x : Member) (entries : List Entry) (plans : List EntryPlan) (y : Member) (e : Entered name x entries plans y) (are : List PairEvent → List (List ℕ) → Type 0) → are (map Happens e.events) e.texts → Carried name x are y
carried name x entries plans y e are is = record { events = map Happens e.events; texts = e.texts; is = is; are_events = e.are_events; moved = e.moved }

module _ (inputs : (x : Member) (i : Input) (moment : ℕ) → IsEventOf x (taking (plan_at x i moment)) (input_event x i moment)) (name : List ℕ) where
  -- the event of a message that arrives
  arrives : (x : Member) → x.party.own ≡ name → (e : Entry) (a : Arrival) (n : ℕ) (w : World) → member_at name w.members ≡ Some x
      → Moved name w (step n w (event_of name (Hears e.bytes (Some a)) e.moment Whole)) (option_to_list (plan_for x a e).reply) (after x (plan_for x a e).edits)
  arrives x own e a n w at =
      let own_at : member_at x.party.own w.members ≡ Some x = subst (λ (q : List ℕ). member_at q w.members ≡ Some x) (sym own) at in
      let later : World = step n w (turn_event x e.bytes (Arrived a) e.moment Whole) in
      let beside : Beside x w later Whole = step_beside x e.moment n w Whole (Hears e.bytes (Some a)) own_at in
      let moved : Moved x.party.own w later (option_to_list (plan_for x a e).reply) (after x (plan_for x a e).edits) =
      record {
        at = whole_at x e.bytes (Arrived a) e.moment (inputs x (Arrived a) e.moment) n w own_at;
        others = beside.others;
        texts_are = whole_texts x e.bytes (Arrived a) e.moment (inputs x (Arrived a) e.moment) n w own_at;
      } in
      subst (λ (q : List ℕ). Moved q w (step n w (event_of q (Hears e.bytes (Some a)) e.moment Whole)) (option_to_list (plan_for x a e).reply) (after x (plan_for x a e).edits)) own moved

  own_after : (x : Member) (e : Entry) (p : EntryPlan) (y : Member) → x.party.own ≡ name → EntryLeads x e p y → y.party.own ≡ name
  own_after x e p y own (inl r) = ap (λ (z : Member). z.party.own) r.stays ∙ own
  own_after x e p y own (inr r) = ap (λ (z : Member). z.party.own) r.after ∙ ((inputs x (Arrived r.arrival) e.moment).own ∙ own)

  refused_entered : (x mid y : Member) (e : Entry) (p : EntryPlan) (entries : List Entry) (plans : List EntryPlan) → IsRefusal x e p mid → Entered name mid entries plans y → Entered name x (e ∷ entries) (p ∷ plans) y
  refused_entered x mid y e p entries plans r rest = record {
    done = e ∷ rest.done;
    behind = rest.behind;
    split = ap (λ (es : List Entry). e ∷ es) rest.split;
    count = ap (λ (k : ℕ). suc k) rest.count;
    course = (mid, inl r, rest.course);
    events = rest.events;
    texts = rest.texts;
    are = record {
      first = [];
      others = rest.events;
      whole = refl;
      first_texts = [];
      other_texts = rest.texts;
      all = refl;
      is = inl (record { unheard = r.unheard; heard = r.heard; planned = r.plan; none = refl; silent = refl });
      follow = rest.are;
    };
    are_events = rest.are_events;
    moved = λ n w at. rest.moved n w (subst (λ (z : Member). member_at name w.members ≡ Some z) (sym r.stays) at);
  }

  arrived_entered : (x mid y : Member) → x.party.own ≡ name → (e : Entry) (p : EntryPlan) (entries : List Entry) (plans : List EntryPlan) → IsArrival x e p mid → Entered name mid entries plans y → Entered name x (e ∷ entries) (p ∷ plans) y
  arrived_entered x mid y own e p entries plans r rest =
      let said : List (List ℕ) = option_to_list (plan_for x r.arrival e).reply in
      let event : Event = event_of name (Hears e.bytes (Some r.arrival)) e.moment Whole in
      record {
        done = e ∷ rest.done;
        behind = rest.behind;
        split = ap (λ (es : List Entry). e ∷ es) rest.split;
        count = ap (λ (k : ℕ). suc k) rest.count;
        course = (mid, inr r, rest.course);
        events = event ∷ rest.events;
        texts = said ++ rest.texts;
        are = record {
          first = event ∷ [];
          others = rest.events;
          whole = refl;
          first_texts = said;
          other_texts = rest.texts;
          all = refl;
          is = inr (record {
            arrival = r.arrival;
            heard = r.heard;
            is = refl;
            reply = (plan_for x r.arrival e).reply;
            planned = ap (λ (q : EntryPlan). q.reply) r.plan;
            written = refl;
          });
          follow = rest.are;
        };
        are_events = ((r.heard.heard, r.heard.text), rest.are_events);
        moved = λ n w at. (
            let first = arrives x own e r.arrival n w at in
            moved_then name w (step n w event) (pair_run (suc n) (step n w event) (map Happens rest.events)) said rest.texts (after x (plan_for x r.arrival e).edits) y first
            (rest.moved (suc n) (step n w event) (subst (λ (z : Member). member_at name (step n w event).members ≡ Some z) (sym r.after) first.at)));
      }

  one_more : (x mid y : Member) → x.party.own ≡ name → (e : Entry) (p : EntryPlan) (entries : List Entry) (plans : List EntryPlan) → EntryLeads x e p mid → Entered name mid entries plans y → Entered name x (e ∷ entries) (p ∷ plans) y
  one_more x mid y own e p entries plans (inl r) rest = refused_entered x mid y e p entries plans r rest
  one_more x mid y own e p entries plans (inr r) rest = arrived_entered x mid y own e p entries plans r rest

  entered : (x : Member) → x.party.own ≡ name → (entries : List Entry) (plans : List EntryPlan) (y : Member) → EntriesLead x entries plans y → Entered name x entries plans y
  entered x own entries [] y lead = none_entered name x entries y lead
  entered x own [] (p ∷ plans) y lead = absurd lead
  entered x own (e ∷ entries) (p ∷ plans) y lead = one_more x lead.0 y own e p entries plans lead.1 (entered lead.0 (own_after x e p lead.0 own lead.1) entries plans y lead.2)

  -- ---- a stretch of entries

  module _ (x : Member) (own : x.party.own ≡ name) (entries : List Entry) (y : Member) where
    abbrev EnteredFrom : List EntryPlan → List EntryPlan → Type 0
    EnteredFrom stood plans = Entered name x (drop (length stood) entries) plans y

    entered_from : (stood plans : List EntryPlan) → EntriesLead x (drop (length stood) entries) plans y → EnteredFrom stood plans
    entered_from stood plans course = entered x own (drop (length stood) entries) plans y course

    stretch : (stood plans : List EntryPlan) → length stood ≤ length entries → (in_order : EnteredFrom stood plans) → IsStretch name entries stood plans in_order.behind (map Happens in_order.events) in_order.texts
    stretch stood plans fits in_order = record {
      front = take (length stood) entries;
      done = in_order.done;
      place = length-take-le (length stood) entries fits;
      split = sym (take-append-drop (length stood) entries) ∙ ap (λ (es : List Entry). take (length stood) entries ++ es) in_order.split;
      from = x;
      to = y;
      course = in_order.course;
      events = in_order.events;
      are = in_order.are;
      whole = refl;
    }

    -- where each entry has its plan, none are behind
    none_behind : (stood plans : List EntryPlan) (in_order : EnteredFrom stood plans) → length entries ≡ length stood + length plans → in_order.behind ≡ []
    none_behind stood plans in_order whole =
        let parts : length (drop (length stood) entries) ≡ length in_order.done + length in_order.behind =
        ap (λ (es : List Entry). length es) in_order.split ∙ length-append in_order.done in_order.behind in
        none_of in_order.behind (omega (arith, whole, parts, length-drop (length stood) entries, in_order.count))

    whole_stretch : (stood plans : List EntryPlan) → length entries ≡ length stood + length plans → (in_order : EnteredFrom stood plans) → IsStretch name entries stood plans [] (map Happens in_order.events) in_order.texts
    whole_stretch stood plans whole in_order =
        let fits : length stood ≤ length entries = omega (arith, whole) in
        subst (λ (es : List Entry). IsStretch name entries stood plans es (map Happens in_order.events) in_order.texts) (none_behind stood plans in_order whole) (stretch stood plans fits in_order)

    -- each entry has its plan
    module _ (text out : List ℕ) (spool spool_after : View) (plans : List EntryPlan) (whole : length plans ≡ length entries) (kept : KeepsPlans spool_after (progress_of text entries plans)) (outbox : out ≡ outbox_of plans) (went : WentOn text entries spool x plans y) where
      abbrev WholeBy : Type 0
      WholeBy = Carried name x (IsWholeBatch name text entries spool spool_after out) y

      whole_is : (es : List PairEvent) (texts : List (List ℕ)) → IsOnward name entries went.stood went.more [] es texts → IsWholeBatch name text entries spool spool_after out es texts
      whole_is es texts course = record {
        stood = went.stood;
        held = went.held;
        more = went.more;
        course = course;
        kept = subst (λ (ps : List EntryPlan). KeepsPlans spool_after (progress_of text entries ps)) went.split kept;
        outbox = outbox ∙ ap (λ (ps : List EntryPlan). outbox_of ps) went.split;
      }

      size : length entries ≡ length went.stood + length went.more
      size = sym whole ∙ (ap (λ (ps : List EntryPlan). length ps) went.split ∙ length-append went.stood went.more)

      whole_by : LeadsOn x entries went.stood went.more y → WholeBy
      whole_by (inl course) =
          let e : EnteredFrom went.stood went.more = entered_from went.stood went.more course in
          carried name x (drop (length went.stood) entries) went.more y e (IsWholeBatch name text entries spool spool_after out)
          (whole_is (map Happens e.events) e.texts (inl (whole_stretch went.stood went.more size e)))
      whole_by (inr l) =
          let e : EnteredFrom l.front (l.last ∷ went.more) = entered_from l.front (l.last ∷ went.more) l.course in
          let parts : length went.stood ≡ length l.front + length (l.last ∷ []) = ap (λ (ps : List EntryPlan). length ps) l.split ∙ length-append l.front (l.last ∷ []) in
          let all : length entries ≡ length l.front + length (l.last ∷ went.more) = omega (arith, size, parts) in
          carried name x (drop (length l.front) entries) (l.last ∷ went.more) y e (IsWholeBatch name text entries spool spool_after out)
          (whole_is (map Happens e.events) e.texts
          (inr (record { front = l.front; last = l.last; split = l.split; changes = l.changes; stretch = whole_stretch l.front (l.last ∷ went.more) all e })))

      pub whole_carried : WholeBy
      whole_carried = whole_by (leads_on text entries went.stood went.more x y went.goes)

    -- some have
    module _ (text : List ℕ) (spool spool_after : View) (stood : List EntryPlan) (held : HeldThese text entries spool stood) where
      abbrev Kept : List EntryPlan → Type 0
      Kept more = Tells spool → (book : List ℕ) → spool_after.may_leave book → HoldsKept (progress_of text entries stood) more book

      abbrev PartBy : Type 0
      PartBy = Carried name x (IsPartBatch name text entries spool spool_after) y

      none_by : (more : List EntryPlan) → Kept more → more ≡ [] → y ≡ x → PartBy
      none_by more kept none same = record {
        events = [];
        texts = [];
        is = inr (record { stood = stood; held = held; more = more; behind = entries; course = inl (refl, refl, none); kept = kept });
        are_events = tt;
        moved = λ n w at. subst (λ (z : Member). Moved name w w [] z) (sym same) (unmoved name w x at);
      }

      behind_by : (more : List EntryPlan) → Kept more → EntriesLead x (drop (length stood) entries) more y → PartBy
      behind_by [] kept same = none_by [] kept refl same
      behind_by (p ∷ more) kept course =
          let e : EnteredFrom stood (p ∷ more) = entered_from stood (p ∷ more) course in
          let there : length stood ≤ length entries = within (length stood) entries x p more y course in
          carried name x (drop (length stood) entries) (p ∷ more) y e (IsPartBatch name text entries spool spool_after)
          (inr (record { stood = stood; held = held; more = p ∷ more; behind = e.behind; course = inr (inl (stretch stood (p ∷ more) there e)); kept = kept }))

      from_last_by : (more : List EntryPlan) → Kept more → LeadsFromLast x entries stood more y → PartBy
      from_last_by more kept l =
          let e : EnteredFrom l.front (l.last ∷ more) = entered_from l.front (l.last ∷ more) l.course in
          let there : length l.front ≤ length entries = within (length l.front) entries x l.last more y l.course in
          carried name x (drop (length l.front) entries) (l.last ∷ more) y e (IsPartBatch name text entries spool spool_after)
          (inr (record {
            stood = stood;
            held = held;
            more = more;
            behind = e.behind;
            course = inr (inr (record { front = l.front; last = l.last; split = l.split; changes = l.changes; stretch = stretch l.front (l.last ∷ more) there e }));
            kept = kept;
          }))

      part_by : (more : List EntryPlan) → Kept more → LeadsOn x entries stood more y → PartBy
      part_by more kept (inl course) = behind_by more kept course
      part_by more kept (inr l) = from_last_by more kept l

      pub part_carried : (more : List EntryPlan) → Kept more → HasGoneOn x (progress_of text entries stood) more y → PartBy
      part_carried more kept (inl still) = none_by more kept still.1 still.0
      part_carried more kept (inr goes) = part_by more kept (leads_on text entries stood more x y goes)
