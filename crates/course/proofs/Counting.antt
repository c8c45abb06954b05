-- What is counted on the way from one course to another: the texts that were written, the events and their outcomes.
use Rattle.std.proofs.Common.{◌≡◌, ℕ, suc, ◌+◌, Bool, true, false, cond, ◌&&◌, List, [], ◌∷◌, ◌++◌, length, Option, Some, None, is_some, count_by, refl, sym, ap, subst, arith}
use Rattle.std.proofs.lemmas.List.{length-append}
use Rattle.std.proofs.lemmas.List.Sums.{sum_by-cons}
use Rattle.party_state.specs.declared.command.Input.TheVariants as input
use Rattle.party_state.specs.Rows.{Row, Reply}
use Rattle.party_state.specs.Verdicts.{is_accept}
use Rattle.role_base.specs.Differing.{differing}
use Rattle.member.specs.Rows.{row_at}
use Rattle.scenario.specs.declared.line.Line.{Line}
use Rattle.scenario.specs.declared.line.Line.TheVariants as line
use Rattle.member.specs.Member.{Member}
use Rattle.world_laws.specs.World.{World, member_at}
use Rattle.change_code.specs.Cost.{fits, is_change, can_compact, space_of_whole}
use Rattle.change_code.specs.declared.format.Format.{Format}
use Rattle.member.specs.Acts.{compacted_in, migrated_in}
use Rattle.world_laws.specs.Events.{Action, Orders, Hears, Compacts, Migrates, Completion, Whole, CutOld, CutNew, Event}
use Rattle.world_laws.specs.Steps.{received_text, texts_of, member_after, world_after_row, world_with_answer, world_with_text, world_by_row, world_with_space, world_rewritten, world_after_action, step_at, step}
use Rattle.course.specs.Transcript.{written_between}
use Rattle.course.specs.Outcomes.{counted, with_text}
use Rattle.course.specs.Course.{Course, Happened, IsEvent, IsNext, LinesLead}
use Rattle.course.specs.Starts.{start_course}
use Rattle.course.specs.Ends.{is_event}
use Rattle.course.specs.declared.progress.OutcomeCounts.{OutcomeCounts}
use Rattle.course.specs.declared.progress.EventOutcome.{EventOutcome}
use Rattle.course.specs.declared.progress.EventOutcome.TheVariants as outcome

-- a step appends one text at most, and then it is the one that was written

-- one text more where one was written, else none
record Grown (before after : List (List ℕ)) : Type 0 where
  pub size : length after ≡ length before + cond (is_some (written_between before after)) 1 0

one_longer : (a b t : ℕ) → a ≡ b + t → suc a ≡ suc b + t
one_longer a b t is = omega arith

behind_one : (text : List ℕ) (before after : List (List ℕ)) → Grown before after → Grown (text ∷ before) (text ∷ after)
behind_one text before after g = record { size = one_longer (length after) (length before) (cond (is_some (written_between before after)) 1 0) g.size }

unwritten : (texts : List (List ℕ)) → Grown texts texts
unwritten [] = record { size = refl }
unwritten (text ∷ texts) = behind_one text texts texts (unwritten texts)

written : (texts : List (List ℕ)) (reply : Option Reply) → Grown texts (texts ++ texts_of reply)
written [] None = record { size = refl }
written [] (Some reply) = record { size = refl }
written (text ∷ texts) reply = behind_one text texts (texts ++ texts_of reply) (written texts reply)

either_grown : (w u v : World) (b : Bool) → Grown w.texts u.texts → Grown w.texts v.texts → Grown w.texts (cond b u v).texts
either_grown w u v true first second = first
either_grown w u v false first second = second

row_grown : (n : ℕ) (w : World) (x : Member) (text : List ℕ) (r : Row) (completion : Completion) → Grown w.texts (world_by_row n w x text r completion).texts
row_grown n w x text r Whole =
    let kept : World = world_with_text (world_after_row n w x.party.own text r (member_after x r)) r.reply in
    let answered : World = world_with_text (world_with_answer w x.party.own r) r.answer in
    let fit : Bool = fits x.space (differing x.party r.edits) in
    either_grown w (cond fit kept w) answered (is_accept r.verdict) (either_grown w kept w fit (written w.texts r.reply) (unwritten w.texts)) (written w.texts r.answer)
row_grown n w x text r CutOld = unwritten w.texts
row_grown n w x text r CutNew =
    let kept : World = world_after_row n w x.party.own text r (member_after x r) in
    let fit : Bool = is_accept r.verdict && (is_change (differing x.party r.edits) && fits x.space (differing x.party r.edits)) in
    either_grown w kept w fit (unwritten w.texts) (unwritten w.texts)

rewriting_grown : (o : Option Format) (w : World) (x : Member) (completion : Completion) → Grown w.texts (world_rewritten o w x completion).texts
rewriting_grown None w x completion = unwritten w.texts
rewriting_grown (Some f) w x CutOld = unwritten w.texts
rewriting_grown (Some f) w x Whole = either_grown w (world_with_space w x (space_of_whole f x.party)) w (can_compact f x.party) (unwritten w.texts) (unwritten w.texts)
rewriting_grown (Some f) w x CutNew = either_grown w (world_with_space w x (space_of_whole f x.party)) w (can_compact f x.party) (unwritten w.texts) (unwritten w.texts)

action_grown : (n : ℕ) (w : World) (x : Member) (moment : ℕ) (completion : Completion) (action : Action) → Grown w.texts (world_after_action n w x moment completion action).texts
action_grown n w x moment completion (Orders c) = row_grown n w x (received_text (input.Ordered c)) (row_at x.party (input.Ordered c) moment) completion
action_grown n w x moment completion (Hears bytes (Some a)) = row_grown n w x (received_text (input.Arrived a)) (row_at x.party (input.Arrived a) moment) completion
action_grown n w x moment completion (Hears bytes None) = unwritten w.texts
action_grown n w x moment completion Compacts = rewriting_grown (compacted_in x.space.format) w x completion
action_grown n w x moment completion Migrates = rewriting_grown (migrated_in x.space.format) w x completion

step_grown : (n : ℕ) (w : World) (e : Event) → Grown w.texts (step n w e).texts
step_grown n w e = go (member_at e.party w.members)
  where
    go : (m : Option Member) → Grown w.texts (step_at n w e m).texts
    go None = unwritten w.texts
    go (Some x) = action_grown n w x e.moment e.completion e.action

-- one event is counted under one outcome

abbrev sum_of : OutcomeCounts → ℕ
sum_of c = c.done + c.refused + c.stopped + c.none

one_outcome : (o : EventOutcome) (c : OutcomeCounts) → sum_of (counted o c) ≡ sum_of c + 1
one_outcome outcome.Done c = omega arith
one_outcome (outcome.Refused number) c = omega arith
one_outcome outcome.Stopped c = omega arith
one_outcome outcome.Nothing c = omega arith

counted_sum : (o : EventOutcome) (wrote : Bool) (c : OutcomeCounts) → sum_of (with_text wrote (counted o c)) ≡ sum_of c + 1
counted_sum o true c = one_outcome o c
counted_sum o false c = one_outcome o c

same_texts : (o : EventOutcome) (c : OutcomeCounts) → (counted o c).texts ≡ c.texts
same_texts outcome.Done c = refl
same_texts (outcome.Refused number) c = refl
same_texts outcome.Stopped c = refl
same_texts outcome.Nothing c = refl

counted_texts : (o : EventOutcome) (wrote : Bool) (c : OutcomeCounts) → (with_text wrote (counted o c)).texts ≡ c.texts + cond wrote 1 0
counted_texts o true c = omega (arith, same_texts o c)
counted_texts o false c = omega (arith, same_texts o c)

-- from one course to another there were so many events
record Played (c e : Course) (events : ℕ) : Type 0 where
  pub texts : e.now.counts.texts + length c.world.texts ≡ c.now.counts.texts + length e.world.texts
  pub numbers : e.now.number ≡ c.now.number + events
  pub outcomes : sum_of e.now.counts ≡ sum_of c.now.counts + events
  pub listed : length e.happened ≡ length c.happened + events

both_played : (c mid e : Course) (m n : ℕ) → Played c mid m → Played mid e n → Played c e (m + n)
both_played c mid e m n first second = record {
  texts = omega (arith, first.texts, second.texts);
  numbers = omega (arith, first.numbers, second.numbers);
  outcomes = omega (arith, first.outcomes, second.outcomes);
  listed = omega (arith, first.listed, second.listed);
}

level : (a b m n t : ℕ) → a ≡ b + t → n ≡ m + t → a + m ≡ b + n
level a b m n t told grown = omega arith

event_played : (tell : Bool) (before after : ℕ) (l : Line) (c mid : Course) → IsEvent tell before after l c mid → Played c mid 1
event_played tell before after l c mid is =
    let next : World = step c.now.number c.world is.event in
    let wrote : Bool = is_some (written_between c.world.texts next.texts) in
    let counts : OutcomeCounts = with_text wrote (counted is.outcome c.now.counts) in
    subst (λ (x : Course). Played c x 1) (sym is.leads) (record {
      texts = level counts.texts c.now.counts.texts (length c.world.texts) (length next.texts) (cond wrote 1 0) (counted_texts is.outcome wrote c.now.counts) (step_grown c.now.number c.world is.event).size;
      numbers = refl;
      outcomes = counted_sum is.outcome wrote c.now.counts;
      listed = length-append c.happened (record { event = is.event; outcome = is.outcome } ∷ []);
    })

quiet_played : (c mid : Course) → mid.world ≡ c.world → mid.now.number ≡ c.now.number → mid.now.counts ≡ c.now.counts → mid.happened ≡ c.happened → Played c mid 0
quiet_played c mid world number counts happened = record {
  texts = omega (arith, ap (λ (k : OutcomeCounts). k.texts) counts, ap (λ (w : World). length w.texts) world);
  numbers = omega (arith, number);
  outcomes = omega (arith, ap (λ (k : OutcomeCounts). sum_of k) counts);
  listed = omega (arith, ap (λ (l : List Happened). length l) happened);
}

next_played : (tell : Bool) (before after : ℕ) (l : Line) (c mid : Course) → IsNext tell before after l c mid → Played c mid (cond (is_event l) 1 0)
next_played tell before after (line.Party name role pair v) c mid is = quiet_played c mid (ap (λ (x : Course). x.world) is) (ap (λ (x : Course). x.now.number) is) (ap (λ (x : Course). x.now.counts) is) (ap (λ (x : Course). x.happened) is)
next_played tell before after (line.Link origin recipient label pair) c mid is = quiet_played c mid (ap (λ (x : Course). x.world) is) (ap (λ (x : Course). x.now.number) is) (ap (λ (x : Course). x.now.counts) is) (ap (λ (x : Course). x.happened) is)
next_played tell before after (line.Time moment) c mid is = quiet_played c mid (ap (λ (x : Course). x.world) is) (ap (λ (x : Course). x.now.number) is) (ap (λ (x : Course). x.now.counts) is) (ap (λ (x : Course). x.happened) is)
next_played tell before after (line.Stop n choice) c mid is = quiet_played c mid (ap (λ (x : Course). x.world) is) (ap (λ (x : Course). x.now.number) is) (ap (λ (x : Course). x.now.counts) is) (ap (λ (x : Course). x.happened) is)
next_played tell before after l c mid is = event_played tell before after l c mid is

lines_played : (tell : Bool) (before after : ℕ) (lines : List Line) (c e : Course) → LinesLead tell before after lines c e → Played c e (count_by is_event lines)
lines_played tell before after [] c e is = quiet_played c e (ap (λ (x : Course). x.world) is) (ap (λ (x : Course). x.now.number) is) (ap (λ (x : Course). x.now.counts) is) (ap (λ (x : Course). x.happened) is)
lines_played tell before after (l ∷ lines) c e leads =
    subst (λ (n : ℕ). Played c e n) (sym (sum_by-cons (λ (x : Line). cond (is_event x) 1 0) l lines))
    (both_played c leads.0 e (cond (is_event l) 1 0) (count_by is_event lines) (next_played tell before after l c leads.0 leads.1) (lines_played tell before after lines leads.0 e leads.2))

-- from the start on

pub texts_counted : (tell : Bool) (before after : ℕ) (lines : List Line) (e : Course) → LinesLead tell before after lines (start_course lines) e → e.now.counts.texts ≡ length e.world.texts
texts_counted tell before after lines e leads = let p = lines_played tell before after lines (start_course lines) e leads in omega (arith, p.texts)

pub events_counted : (tell : Bool) (before after : ℕ) (lines : List Line) (e : Course) → LinesLead tell before after lines (start_course lines) e → e.now.number ≡ 1 + count_by is_event lines
events_counted tell before after lines e leads = let p = lines_played tell before after lines (start_course lines) e leads in p.numbers

pub events_listed : (tell : Bool) (before after : ℕ) (lines : List Line) (e : Course) → LinesLead tell before after lines (start_course lines) e → length e.happened ≡ count_by is_event lines
events_listed tell before after lines e leads = let p = lines_played tell before after lines (start_course lines) e leads in omega (arith, p.listed)

pub outcomes_counted : (tell : Bool) (before after : ℕ) (lines : List Line) (e : Course) → LinesLead tell before after lines (start_course lines) e
    → e.now.counts.done + e.now.counts.refused + e.now.counts.stopped + e.now.counts.none + 1 ≡ e.now.number
outcomes_counted tell before after lines e leads = let p = lines_played tell before after lines (start_course lines) e leads in omega (arith, p.numbers, p.outcomes)
