-- A play breaks off at one of its lines.
use Rattle.std.proofs.Common.{◌≡◌, inl, inr, ℕ, ◌+◌, ◌<◌, ◌≤◌, true, List, [], ◌∷◌, ◌++◌, length, take, drop, get_or, Option, refl, sym, ◌∙◌, ap, subst, arith, append-nil, take-append-drop}
use Rattle.std.proofs.lemmas.List.{drop_more}
use Rattle.x_base.specs.Edge.{AppendsTo}
use Rattle.x_disk.specs.Disk.{View}
use Rattle.scenario.specs.declared.line.Line.{Line}
use Rattle.world_laws.specs.World.{World}
use Rattle.replay.specs.Breaking.{StandForAll, IsBreak, IsBrokenAt, BreaksIn}
use Rattle.course.specs.Parts.{HasLineEvent, MakesEventOrNone}
use Rattle.course.specs.Course.{Course, no_event}
use Rattle.replay.specs.Course.{IsAt}
use Rattle.course.specs.LineEvents.{LineEvent}
use Rattle.replay.specs.Lines.{Plays}
use Rattle.course.specs.Meanings.{IsLineAct}
use Rattle.course.specs.declared.act.LineAct.{LineAct}
use Rattle.open_parties.specs.declared.failure.Ending.{Ending}
use Rattle.open_parties.specs.declared.failure.Ending.TheVariants as ending
use Rattle.course.specs.declared.progress.Progress.{Progress}
use Rattle.replay.specs.declared.play_state.PlayState.{PlayState}
use Rattle.replay.proofs.Breakage.{shown_stand}
use Rattle.replay.proofs.Happened.{nothing_done, quiet_honest}
use Rattle.replay.proofs.Shutting.{none_leaves}
use Rattle.replay.proofs.Unfinished.{BreaksEvent}

-- a line broke off, from whichever course the old state and sink show; `entry` is the shelf's afterwards
abbrev pub BreaksLine : {D : Type 0} → (D → View) → (List ℕ → View) → ℕ → ℕ → Line → PlayState D → PlayState D → Progress → Option (List ℕ) → Option (List ℕ) → Ending → Type 0
BreaksLine told entry low high l old new p written next why = (before after : ℕ) → before ≤ low → high ≤ after → (start : Option (List ℕ)) (c : Course) → IsAt true told start c old p written
    → IsBreak why × ((h : LineEvent) × MakesEventOrNone l c.world.texts h × IsBrokenAt told entry before after start c h new next why)

module _ {D : Type 0} (told : D → View) (entry : List ℕ → View) (low high : ℕ) where
  -- no event has begun
  pub none_begun : (before after : ℕ) (start : Option (List ℕ)) (c : Course) (h : LineEvent) (s : PlayState D) (p : Progress) (written : Option (List ℕ)) (why : Ending) → (why ≡ ending.Write → ⊥) → IsAt true told start c s p written → IsBrokenAt told entry before after start c h s written why
  none_begun before after start c h s p written why other at = record {
    event = no_event c.now.moment;
    is = inl refl;
    honest = quiet_honest c;
    stands = subst (λ (w : World). StandForAll told entry s.parties w.members) (sym (nothing_done c.now.number c.world c.now.moment)) (shown_stand told entry c.world s at.shows);
    part = [];
    part_is = inl refl;
    done = λ write. absurd (other write);
    opened = λ write. absurd (other write);
    leaves = none_leaves told entry s c h at.shows;
    out = subst (λ (l : List ℕ). AppendsTo start written l) (sym (append-nil c.transcript)) at.out;
  }

  pub breaks_ahead : (l : Line) (s : PlayState D) → HasLineEvent l s.texts → (p : Progress) (written : Option (List ℕ)) (why : Ending) → IsBreak why → (why ≡ ending.Write → ⊥) → BreaksLine told entry low high l s s p written written why
  breaks_ahead l s some p written why is other = λ before after first last start c at.
      let h : HasLineEvent l c.world.texts = subst (λ (texts : List (List ℕ)). HasLineEvent l texts) at.shows.texts_are some in
      (is, (h.0, h.1, none_begun before after start c h.0 s p written why other at))

  -- an event broke off
  pub breaks_event : (l : Line) (a : LineAct) (old new : PlayState D) (p : Progress) (written next : Option (List ℕ)) (why : Ending) → IsLineAct l old.texts a → BreaksEvent told entry low high a old new p written next why → BreaksLine told entry low high l old new p written next why
  breaks_event l a old new p written next why meant breaks = λ before after first last start c at.
      let h : IsLineAct l c.world.texts a = subst (λ (texts : List (List ℕ)). IsLineAct l texts a) at.shows.texts_are meant in
      let b = breaks before after first last start c h.0 at h.3 in
      (b.0, (h.0, inr (h.1, h.2), b.1))

-- behind the lines in front
module _ {D : Type 0} (told : D → View) (entry : List ℕ → View) where
  pub breaks_in : (low between high : ℕ) → low ≤ between → between ≤ high → (lines : List Line) (i : ℕ) (l : Line) → i < length lines → l ≡ get_or lines i l → (old mid new : PlayState D) (p m : Progress) (written halfway next : Option (List ℕ)) (why : Ending)
      → Plays told low between (take i lines) old mid p m written halfway → BreaksLine told entry between high l mid new m halfway next why → BreaksIn told entry low high lines old new p written next why
  breaks_in low between high le1 le2 lines i l lt read old mid new p m written halfway next why plays breaks = λ before after first last start c at.
      let one = plays true before after first (omega (arith, le2, last)) start c at in
      let b = breaks before after (omega (arith, first, le1)) last start one.0 one.2 in (
        b.0,
        record {
          front = take i lines;
          line = l;
          back = drop (i + 1) lines;
          split = sym (take-append-drop i lines) ∙ ap (λ (ls : List Line). take i lines ++ ls) (drop_more lines i l lt ∙ ap (λ (x : Line). x ∷ drop (i + 1) lines) (sym read));
          mid = one.0;
          leads = one.1;
          line_event = b.1.0;
          makes_event = b.1.1;
          broken = b.1.2;
        },
      )
