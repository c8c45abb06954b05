-- What became of a scenario is what its status says.
use Rattle.std.proofs.Common.{◌≡◌, inl, inr, ℕ, Bool, true, false, List, [], ◌∷◌, ◌++◌, refl, sym, subst}
use Rattle.x_base.specs.declared.verdict.Verdict.{Verdict}
use Rattle.x_base.specs.declared.verdict.Verdict.TheVariants.{NotEmpty}
use Rattle.x_disk.specs.Disk.{View}
use Rattle.scenario.specs.declared.line.Line.{Line}
use Rattle.world_laws.specs.World.{member_at}
use Rattle.world_laws.specs.Events.{Event, IsAction}
use Rattle.world_laws.specs.Honest.{HonestAt}
use Rattle.world_laws.specs.Starts.{IsStart}
use Rattle.world_laws.specs.Steps.{step}
use Rattle.replay.specs.Breaking.{AreOnShelf}
use Rattle.course.specs.Parts.{MakesEventOrNone, IsEventOf}
use Rattle.course.specs.Course.{Course, LinesLead, events_of}
use Rattle.course.specs.LineEvents.{LineEvent, Nothing, At}
use Rattle.replay.specs.Playing.{Surroundings, broken_world, IsBroken, IsBrokenAhead, IsBrokenPlay, IsPlay, IsPlayed, IsPlayedToForged, IsUnwritten, IsRun, IsRunToForged, IsRunBy, WereBlank}
use Rattle.course.specs.Starts.{start_course, start_world}
use Rattle.course.specs.declared.tally.Tally.{Tally}
use Rattle.replay.specs.declared.result.PlayResult.{PlayResult}
use Rattle.replay.specs.declared.result.PlayResult.TheVariants as played
use Rattle.call_ends.specs.declared.status.Refusal.TheVariants.{Decided}
use Rattle.call_ends.specs.declared.status.Status.TheVariants as status
use Rattle.course.specs.Lawful.{IsLawful}
use Rattle.x917.specs.Headline.{IsPlayedWhole, IsPlayedUpTo, IsPlayedInPart, IsPlayedUnwritten, IsPlayedEarly, IsRunWhole, IsRunUpTo, DisksTell, Says, SaysOfRun, broken_events, status_of_play}

-- what a line makes happen is an action of a network
action_of : (l : Line) (texts : List (List ℕ)) (moment : ℕ) (h : LineEvent) (e : Event) → MakesEventOrNone l texts h → IsEventOf moment h e → IsAction e.action
action_of l texts moment h e makes_event (inl none) = subst (λ (x : Event). IsAction x.action) (sym none) tt
action_of l texts moment Nothing e makes_event (inr begun) = absurd begun
action_of l texts moment (At own action) e (inl none) (inr begun) = let no : At own action ≡ Nothing = none.1 in absurd cc
action_of l texts moment (At own action) e (inr makes_event) (inr begun) = subst (λ (x : Event). IsAction x.action) (sym begun) makes_event.1

module _ (reached : (lines front : List Line) (tell : Bool) (before after : ℕ) (c : Course) → IsStart (start_world lines) → LinesLead tell before after front (start_course lines) c → IsLawful (start_world lines) (events_of c.happened) c.world)
    (behind : (lines front : List Line) (tell : Bool) (before after : ℕ) (c : Course) (e : Event) → IsStart (start_world lines) → LinesLead tell before after front (start_course lines) c
    → IsAction e.action → HonestAt c.world.facts (member_at e.party c.world.members) e.action → IsLawful (start_world lines) (events_of c.happened ++ e ∷ []) (step c.now.number c.world e))
    (old : List ℕ → View) (g : Surroundings) (begins : IsStart (start_world g.lines)) where
  abbrev pub whole : (t : Tally) → WereBlank old g → IsPlayed g t → IsPlayedWhole old g
  whole t blank p = record {
    blank = blank;
    course = p.course;
    leads = p.leads;
    lawful = reached g.lines g.lines true g.before g.after p.course begins p.leads;
    images = p.images;
    durable = p.durable;
    out = p.out;
  }

  pub up_to : (number : ℕ) → WereBlank old g → IsPlayedToForged g number → IsPlayedUpTo old g number
  up_to number blank p = record {
    blank = blank;
    course = p.course;
    forged = p.forged;
    lawful = reached g.lines p.forged.front true g.before g.after p.course begins p.forged.leads;
    images = p.images;
    durable = p.durable;
    out = p.out;
  }

  broken_lawful : (front back : List Line) (c : Course) (at : IsBrokenAhead g back c) → LinesLead true g.before g.after front (start_course g.lines) c
      → IsLawful (start_world g.lines) (broken_events g back c at) (broken_world g back c at)
  broken_lawful front [] c at leads = reached g.lines front true g.before g.after c begins leads
  broken_lawful front (line ∷ back) c at leads =
      behind g.lines front true g.before g.after c at.event begins leads (action_of line c.world.texts c.now.moment at.line_event at.event at.makes_event at.is) at.honest

  broken_images : (back : List Line) (c : Course) (at : IsBrokenAhead g back c) → AreOnShelf g.entry (broken_world g back c at).members
  broken_images [] c at = at.images
  broken_images (line ∷ back) c at = at.images

  abbrev in_part : WereBlank old g → IsBrokenPlay g → IsPlayedInPart old g
  in_part blank p = record {
    blank = blank;
    part = p;
    lawful = broken_lawful p.front p.back p.course p.broken p.leads;
    images = broken_images p.back p.course p.broken;
  }

  unwritten : WereBlank old g → IsUnwritten g → IsPlayedUnwritten old g
  unwritten blank p = record { part = in_part blank p.play; done = p.done; durable = p.durable }

  early : IsBroken old g → IsPlayedEarly old g
  early (inl set_up) = inl set_up
  early (inr play) = inr (in_part play.0 play.1)

  pub says : (r : PlayResult) → ((v : Verdict) → r ≡ played.Refused v → v ≡ NotEmpty) → (DisksTell old g → IsPlay old g r) → Says old g (status_of_play r)
  says (played.Done tally) refused play = λ tell. whole tally (play tell).0 (play tell).1
  says (played.Refused verdict) refused play =
      subst (λ (v : Verdict). Says old g (status.Refused (Decided v))) (sym (refused verdict refl)) play
  says (played.Forged number) refused play = λ tell. up_to number (play tell).0 (play tell).1
  says played.WriteFault refused play = λ tell. unwritten (play tell).0 (play tell).1
  says played.DiskFault refused play = λ tell. early (play tell)
  says (played.Damaged place) refused play = play
  says played.NoMemory refused play = λ tell. early (play tell)

  -- over every shelf

  ran_whole : (t : Tally) → IsRun g t → IsRunWhole g
  ran_whole t p = record { course = p.course; leads = p.leads; lawful = reached g.lines g.lines false g.before g.after p.course begins p.leads; out = p.out }

  ran_up_to : (number : ℕ) → IsRunToForged g number → IsRunUpTo g number
  ran_up_to number p = record { course = p.course; forged = p.forged; lawful = reached g.lines p.forged.front false g.before g.after p.course begins p.forged.leads; out = p.out }

  pub says_of_run : (r : PlayResult) → IsRunBy g r → SaysOfRun g (status_of_play r)
  says_of_run (played.Done tally) is = ran_whole tally is
  says_of_run (played.Refused verdict) is = tt
  says_of_run (played.Forged number) is = ran_up_to number is
  says_of_run played.WriteFault is = tt
  says_of_run played.DiskFault is = tt
  says_of_run (played.Damaged place) is = tt
  says_of_run played.NoMemory is = tt
