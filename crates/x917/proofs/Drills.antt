-- A drill is played over disks in memory, which are empty and never fail.
use Rattle.std.proofs.Common.{◌≡◌, ◌+◌, ◌≤◌, ℕ, Bool, true, List, [], ◌∷◌, ◌++◌, length, Option, Some, None, is_some, refl, ap, ◌∙◌, subst, arith, true≢false, Err}
use Rattle.std.specs.Prelude.{count_by}
use Rattle.x_disk.specs.Disk.{View}
use Rattle.x_disk.specs.History.{view_of}
use Rattle.x_disk.specs.Shelf.{IsAlike}
use Rattle.x_disk.specs.Slots.{fresh}
use Rattle.scenario.specs.declared.line.Line.{Line}
use Rattle.scenario.specs.declared.fault.ScenarioFault.{ScenarioFault}
use Rattle.scenario.specs.declared.fault.ScenarioFault.TheVariants as fault
use Rattle.scenario_drill.specs.Drill.{drill_text}
use Rattle.scenario.specs.Reading.{IsFirstBad, IsReading, IsScenario}
use Rattle.scenario.specs.Laws.{NeverBoth}
use Rattle.scenario_drill.specs.Laws.{DrillsRead}
use Rattle.world_laws.specs.World.{member_at}
use Rattle.world_laws.specs.Events.{Event, IsAction}
use Rattle.world_laws.specs.Honest.{HonestAt}
use Rattle.world_laws.specs.Starts.{IsStart}
use Rattle.world_laws.specs.Steps.{step}
use Rattle.course.specs.Course.{Course, LinesLead, events_of}
use Rattle.course.specs.Ends.{is_event}
use Rattle.replay.specs.Playing.{Surroundings, around, IsNotEmpty, IsPlay}
use Rattle.course.specs.Tallies.{IsTallied}
use Rattle.replay.specs.SettingUp.{AllTell}
use Rattle.course.specs.Parties.{parties_in}
use Rattle.course.specs.Starts.{start_course, start_world}
use Rattle.course.specs.declared.tally.Tally.{Tally}
use Rattle.replay.specs.declared.result.PlayResult.{PlayResult}
use Rattle.replay.specs.declared.result.PlayResult.TheVariants as played
use Rattle.call_ends.specs.declared.status.Status.{Status}
use Rattle.call_ends.specs.declared.status.Status.TheVariants as status
use Rattle.x917.specs.Drilled.{EndsDrill, IsDrill, IsDrilled, IsDrilledUpTo, IsPlayedAlone}
use Rattle.course.specs.Lawful.{IsLawful}
use Rattle.x917.proofs.Headlines.{whole, up_to}

all_tell : (entry : List ℕ → View) (owners : List (List ℕ)) → ((name : List ℕ) → (entry name).now ≡ Some []) → AllTell entry owners
all_tell entry [] empty = tt
all_tell entry (own ∷ owners) empty = (ap (λ (o : Option (List ℕ)). is_some o) (empty own), all_tell entry owners empty)

pub drill_tells : (entry : List ℕ → View) (lines : List Line) → ((name : List ℕ) → IsAlike (view_of fresh) (entry name)) → AllTell entry (parties_in lines)
drill_tells entry lines are = all_tell entry (parties_in lines) (λ name. (are name).now)

-- an empty disk is blank
filled_empty : (old : List ℕ → View) (g : Surroundings) → ((name : List ℕ) → (old name).now ≡ Some []) → IsNotEmpty old g → ⊥
filled_empty old g empty is = let e = is.ended in true≢false (e.failed_set_up.filled [] (empty e.party.own))

-- no other answer comes
pub only_ends : {H : Type 0} (entry : H → List ℕ → View) (lines : List Line) (r : PlayResult) → IsPlayedAlone entry lines r
    → ((tally : Tally) → r ≡ played.Done tally → ⊥) → ((number : ℕ) → r ≡ played.Forged number → ⊥) → (r ≡ played.NoMemory → ⊥) → ⊥
only_ends entry lines (played.Done tally) p done forged memory = done tally refl
only_ends entry lines (played.Refused verdict) p done forged memory = filled_empty (entry p.old) (around lines (entry p.new) 0 0 None None) p.empty p.play
only_ends entry lines (played.Forged number) p done forged memory = forged number refl
only_ends entry lines played.WriteFault p done forged memory = p.write refl
only_ends entry lines played.DiskFault p done forged memory = p.fault refl
only_ends entry lines (played.Damaged place) p done forged memory = p.play
only_ends entry lines played.NoMemory p done forged memory = memory refl

-- ---- what is said of a drill

module _ (reached : (lines front : List Line) (tell : Bool) (before after : ℕ) (c : Course) → IsStart (start_world lines) → LinesLead tell before after front (start_course lines) c → IsLawful (start_world lines) (events_of c.happened) c.world)
    (behind : (lines front : List Line) (tell : Bool) (before after : ℕ) (c : Course) (e : Event) → IsStart (start_world lines) → LinesLead tell before after front (start_course lines) c
    → IsAction e.action → HonestAt c.world.facts (member_at e.party c.world.members) e.action → IsLawful (start_world lines) (events_of c.happened ++ e ∷ []) (step c.now.number c.world e))
    {H : Type 0} (entry : H → List ℕ → View) (seed events : ℕ) (lines : List Line) (is : IsScenario (drill_text seed events) lines) (begins : IsStart (start_world lines))
    (r : PlayResult) (alone : IsPlayedAlone entry lines r) where
  played_as : (x : PlayResult) → r ≡ x → IsPlay (entry alone.old) (around lines (entry alone.new) 0 0 None None) x
  played_as x same = subst (λ (y : PlayResult). IsPlay (entry alone.old) (around lines (entry alone.new) 0 0 None None) y) same alone.play

  pub drilled : ((tell : Bool) (before after : ℕ) (lines : List Line) (e : Course) → LinesLead tell before after lines (start_course lines) e → e.now.counts.texts ≡ length e.world.texts)
      → ((tell : Bool) (before after : ℕ) (lines : List Line) (e : Course) → LinesLead tell before after lines (start_course lines) e → e.now.number ≡ 1 + count_by is_event lines)
      → ((tell : Bool) (before after : ℕ) (lines : List Line) (e : Course) → LinesLead tell before after lines (start_course lines) e → length e.happened ≡ count_by is_event lines)
      → ((tell : Bool) (before after : ℕ) (lines : List Line) (e : Course) → LinesLead tell before after lines (start_course lines) e → e.now.counts.done + e.now.counts.refused + e.now.counts.stopped + e.now.counts.none + 1 ≡ e.now.number)
      → (tally : Tally) → r ≡ played.Done tally → IsDrilled entry seed events tally
  drilled texts numbers list outcomes tally done =
      let p = played_as (played.Done tally) done in
      let e : Course = p.1.course in
      let t : IsTallied e.now e.world.members tally = p.1.tallied in
      let number : e.now.number ≡ 1 + count_by is_event lines = numbers true 0 0 lines e p.1.leads in
      let listed : length e.happened ≡ count_by is_event lines = list true 0 0 lines e p.1.leads in
      let sum : e.now.counts.done + e.now.counts.refused + e.now.counts.stopped + e.now.counts.none + 1 ≡ e.now.number = outcomes true 0 0 lines e p.1.leads in
      record {
        lines = lines;
        old = alone.old;
        new = alone.new;
        over = record { scenario = is; empty = alone.empty };
        whole = whole reached behind (entry alone.old) (around lines (entry alone.new) 0 0 None None) begins tally p.0 p.1;
        tallied = t;
        events_are = omega (arith, number, t.events);
        listed = omega (arith, listed, number, t.events);
        outcomes_are = omega (arith, sum, t.events, t.done, t.refused, t.stopped, t.none);
        texts_are = t.texts ∙ texts true 0 0 lines e p.1.leads;
      }

  pub drilled_up_to : (number : ℕ) → r ≡ played.Forged number → IsDrilledUpTo entry seed events number
  drilled_up_to number forged =
      let p = played_as (played.Forged number) forged in
      record {
        lines = lines;
        old = alone.old;
        new = alone.new;
        over = record { scenario = is; empty = alone.empty };
        up_to = up_to reached behind (entry alone.old) (around lines (entry alone.new) 0 0 None None) begins number p.0 p.1;
      }

pub early_drill : {H : Type 0} (entry : H → List ℕ → View) (seed events : ℕ) (s : Status) (written : Option (List ℕ)) → EndsDrill entry seed events s → IsDrill entry seed events s written written
early_drill entry seed events status.Done written ends = absurd ends
early_drill entry seed events status.WriteFault written ends = absurd ends
early_drill entry seed events s written ends = (ends, refl)

pub early_write : {H : Type 0} (entry : H → List ℕ → View) (seed events : ℕ) (s : Status) → EndsDrill entry seed events s → s ≡ status.WriteFault → ⊥
early_write entry seed events s ends is = subst (λ (x : Status). EndsDrill entry seed events x) is ends

-- no line of a drill is bad
never_bad : DrillsRead → NeverBoth → (seed events number : ℕ) → events ≤ 10000 → IsFirstBad (drill_text seed events) number → ⊥
never_bad read never seed events number few bad = let s = read seed events few in never (drill_text seed events) s.0 number s.1 bad

pub never_read_bad : DrillsRead → NeverBoth → (seed events : ℕ) → events ≤ 10000 → (text : List ℕ) → text ≡ drill_text seed events → (f : ScenarioFault) (number : ℕ) → f ≡ fault.BadLine number → IsReading text (Err f) → ⊥
never_read_bad read never seed events few text is f number bad reading =
    never_bad read never seed events number few (subst (λ (t : List ℕ). IsFirstBad t number) is (subst (λ (x : ScenarioFault). IsReading text (Err x)) bad reading))
