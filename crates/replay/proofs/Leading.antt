-- Lines lead from course to course.
use Rattle.std.proofs.Common.{◌≡◌, ℕ, ◌+◌, ◌<◌, ◌≤◌, Bool, true, false, is_some, List, [], ◌∷◌, ◌++◌, length, take, drop, get_or, Option, Some, None, slice_get, refl, sym, ◌∙◌, ap, ap₂, subst, arith, append_assoc, take-append-drop}
use Rattle.std.specs.Prelude.{option_map}
use Rattle.std.proofs.lemmas.List.{drop_more}
use Rattle.x_base.specs.Edge.{AppendsTo}
use Rattle.x_disk.specs.Disk.{View}
use Rattle.scenario.specs.declared.line.Line.{Line}
use Rattle.scenario.specs.declared.line.Line.TheVariants as line
use Rattle.world_laws.specs.Steps.{step}
use Rattle.course.specs.LineEvents.{IsNoEvent}
use Rattle.course.specs.Outcomes.{after_outcome, counted, IsWithin}
use Rattle.course.specs.Transcript.{outcome_line, text_line, written_between}
use Rattle.course.specs.Course.{Course, after_event, IsEvent, IsForged, IsNext, LinesLead}
use Rattle.replay.specs.Course.{IsAt}
use Rattle.course.specs.Meanings.{IsLineAct}
use Rattle.replay.specs.Acting.{Acts, Forges}
use Rattle.replay.specs.PlayState.{Shows}
use Rattle.course.specs.Lines.{IsQuietNext}
use Rattle.replay.specs.Lines.{Plays, ForgesIn}
use Rattle.course.specs.declared.act.LineAct.{LineAct}
use Rattle.course.specs.declared.progress.OutcomeCounts.{OutcomeCounts}
use Rattle.course.specs.declared.progress.EventOutcome.{EventOutcome}
use Rattle.course.specs.declared.progress.EventOutcome.TheVariants as outcome
use Rattle.course.specs.declared.progress.Progress.{Progress}
use Rattle.course.specs.declared.progress.Stop.{Stop}
use Rattle.replay.specs.declared.play_state.PlayState.{PlayState}

-- what is written grows
appends_some : (xs a : List ℕ) (mid after : Option (List ℕ)) (b : List ℕ) → mid ≡ Some (xs ++ a) → AppendsTo mid after b → after ≡ Some (xs ++ (a ++ b))
appends_some xs a None after b is more = absurd (cc is)
appends_some xs a (Some ys) after b is more =
    let y : ys ≡ xs ++ a = cc is in
    more ∙ (ap (λ (l : List ℕ). Some (l ++ b)) y ∙ ap Some (append_assoc xs a b))

pub appends_more : (before mid after : Option (List ℕ)) (a b : List ℕ) → AppendsTo before mid a → AppendsTo mid after b → AppendsTo before after (a ++ b)
appends_more None mid after a b first more = tt
appends_more (Some xs) mid after a b first more = appends_some xs a mid after b first more

-- the numbers stay small
counts_within : (o : EventOutcome) (p : Progress) (n : ℕ) → IsWithin p n → IsWithin (after_outcome p o false) (n + 1)
counts_within outcome.Done p n w = record { least = omega (arith, w.least); number = omega (arith, w.number); done = omega (arith, w.done); refused = omega (arith, w.refused); stopped = omega (arith, w.stopped); none = omega (arith, w.none); texts = omega (arith, w.texts) }
counts_within (outcome.Refused number) p n w = record { least = omega (arith, w.least); number = omega (arith, w.number); done = omega (arith, w.done); refused = omega (arith, w.refused); stopped = omega (arith, w.stopped); none = omega (arith, w.none); texts = omega (arith, w.texts) }
counts_within outcome.Stopped p n w = record { least = omega (arith, w.least); number = omega (arith, w.number); done = omega (arith, w.done); refused = omega (arith, w.refused); stopped = omega (arith, w.stopped); none = omega (arith, w.none); texts = omega (arith, w.texts) }
counts_within outcome.Nothing p n w = record { least = omega (arith, w.least); number = omega (arith, w.number); done = omega (arith, w.done); refused = omega (arith, w.refused); stopped = omega (arith, w.stopped); none = omega (arith, w.none); texts = omega (arith, w.texts) }

same_texts : (o : EventOutcome) (c : OutcomeCounts) → (counted o c).texts ≡ c.texts
same_texts outcome.Done c = refl
same_texts (outcome.Refused number) c = refl
same_texts outcome.Stopped c = refl
same_texts outcome.Nothing c = refl

text_within : (o : EventOutcome) (wrote : Bool) (p : Progress) (n : ℕ) → IsWithin p n → IsWithin (after_outcome p o wrote) (n + 1)
text_within o false p n w = counts_within o p n w
text_within o true p n w =
    let c = counts_within o p n w in
    let texts = same_texts o p.counts in
    record { least = c.least; number = c.number; done = c.done; refused = c.refused; stopped = c.stopped; none = c.none; texts = omega (arith, w.texts, texts) }

pub event_within : (o : EventOutcome) (wrote : Bool) (p q : Progress) → q ≡ after_outcome p o wrote → (n : ℕ) → IsWithin p n → IsWithin q (n + 1)
event_within o wrote p q is n w = subst (λ (r : Progress). IsWithin r (n + 1)) (sym is) (text_within o wrote p n w)

-- a line that is an event
next_event : (tell : Bool) (before after : ℕ) (l : Line) (c e : Course) → IsEvent tell before after l c e → IsNext tell before after l c e
next_event tell before after (line.Party name role pair v) c e is = absurd is.makes_event
next_event tell before after (line.Link origin recipient label pair) c e is = absurd is.makes_event
next_event tell before after (line.Time moment) c e is = absurd is.makes_event
next_event tell before after (line.Stop n choice) c e is = absurd is.makes_event
next_event tell before after l c e is = is

quiet_next : (tell : Bool) (before after : ℕ) (l : Line) → IsNoEvent l → (c : Course) (p q : Progress) → c.now ≡ p → IsQuietNext l p q → IsNext tell before after l c (record c { now = q })
quiet_next tell before after (line.Party name role pair v) none c p q is quiet = λ i. record c { now = (quiet ∙ sym is) i }
quiet_next tell before after (line.Link origin recipient label pair) none c p q is quiet = λ i. record c { now = (quiet ∙ sym is) i }
quiet_next tell before after (line.Time moment) none c p q is quiet = λ i. record c { now = (quiet ∙ ap (λ (x : Progress). record x { moment = moment }) (sym is)) i }
quiet_next tell before after (line.Stop n choice) none c p q is quiet = λ i. record c { now = (quiet ∙ ap (λ (x : Progress). record x { stop = Some (record { n = n; choice = choice }) }) (sym is)) i }
quiet_next tell before after l none c p q is quiet = absurd none

-- a line that is no event counts nothing
still_within : (p : Progress) (moment : ℕ) (stop : Option Stop) (n : ℕ) → IsWithin p n → IsWithin (record p { moment = moment; stop = stop }) (n + 1)
still_within p moment stop n w = record { least = w.least; number = omega (arith, w.number); done = omega (arith, w.done); refused = omega (arith, w.refused); stopped = omega (arith, w.stopped); none = omega (arith, w.none); texts = omega (arith, w.texts) }

pub quiet_within : (l : Line) → IsNoEvent l → (p q : Progress) → IsQuietNext l p q → (n : ℕ) → IsWithin p n → IsWithin q (n + 1)
quiet_within (line.Party name role pair v) none p q quiet n w = subst (λ (r : Progress). IsWithin r (n + 1)) (sym quiet) (still_within p p.moment p.stop n w)
quiet_within (line.Link origin recipient label pair) none p q quiet n w = subst (λ (r : Progress). IsWithin r (n + 1)) (sym quiet) (still_within p p.moment p.stop n w)
quiet_within (line.Time moment) none p q quiet n w = subst (λ (r : Progress). IsWithin r (n + 1)) (sym quiet) (still_within p moment p.stop n w)
quiet_within (line.Stop k choice) none p q quiet n w = subst (λ (r : Progress). IsWithin r (n + 1)) (sym quiet) (still_within p p.moment (Some (record { n = k; choice = choice })) n w)
quiet_within l none p q quiet n w = absurd none

-- from every course that the old state and sink show, the line leads to one that the new ones show; between counts of the
-- shelf's faults that hold these two
abbrev pub PlaysLine : {D : Type 0} → (D → View) → ℕ → ℕ → Line → PlayState D → PlayState D → Progress → Progress → Option (List ℕ) → Option (List ℕ) → Type 0
PlaysLine told low high l old new p q written next = (tell : Bool) (before after : ℕ) → before ≤ low → high ≤ after → (start : Option (List ℕ)) (c : Course) → IsAt tell told start c old p written
    → (e : Course) × IsNext tell before after l c e × IsAt tell told start e new q next

-- in every course that the old state shows, the line is forged
abbrev pub ForgesLine : {D : Type 0} → (D → View) → Line → PlayState D → Type 0
ForgesLine told l old = (tell : Bool) (c : Course) → Shows tell told c.world old → IsForged l c

module _ {D : Type 0} (told : D → View) (low high : ℕ) (old new : PlayState D) (p q : Progress) (written next : Option (List ℕ)) where
  -- an event, with its lines
  pub plays_event : (l : Line) (a : LineAct) (o : EventOutcome) (k : ℕ) (text : Option (List ℕ)) → IsLineAct l old.texts a → Acts told low high a old new p o → k ≡ length old.texts → text ≡ slice_get new.texts k → q ≡ after_outcome p o (is_some text)
      → AppendsTo written next (outcome_line p.number o ++ text_line (k + 1) text) → PlaysLine told low high l old new p q written next
  plays_event l a o k text meant acts k_is text_is q_is out = λ tell before after first last start c at.
      let h : IsLineAct l c.world.texts a = subst (λ (texts : List (List ℕ)). IsLineAct l texts a) at.shows.texts_are meant in
      let m = acts tell before after first last c h.0 at.now_is at.shows h.3 in
      let count : k ≡ length c.world.texts = k_is ∙ ap length at.shows.texts_are in
      let wrote : text ≡ written_between c.world.texts (step c.now.number c.world m.event).texts = text_is ∙ ap₂ (λ (l : List (List ℕ)) (n : ℕ). slice_get l n) m.shows.texts_are count in
      let lines : outcome_line p.number o ++ text_line (k + 1) text ≡ outcome_line c.now.number o ++ text_line (length c.world.texts + 1) (written_between c.world.texts (step c.now.number c.world m.event).texts) =
      ap₂ (λ (l r : List ℕ). l ++ r) (ap (λ (x : Progress). outcome_line x.number o) (sym at.now_is)) (ap₂ (λ (n : ℕ) (t : Option (List ℕ)). text_line (n + 1) t) count wrote) in (
        after_event c m.event o,
        next_event tell before after l c (after_event c m.event o) (record { line_event = h.0; makes_event = h.1; formed = h.2; event = m.event; outcome = o; done = m.done; leads = refl }),
        record {
          shows = m.shows;
          now_is = ap₂ (λ (x : Progress) (t : Option (List ℕ)). after_outcome x o (is_some t)) at.now_is (sym wrote) ∙ sym q_is;
          out = appends_more start written next c.transcript _ at.out (subst (AppendsTo written next) lines out);
        },
      )

module _ {D : Type 0} (told : D → View) (old : PlayState D) where
  -- an event that is forged
  pub forges_event : (l : Line) (a : LineAct) → IsLineAct l old.texts a → Forges told a old → ForgesLine told l old
  forges_event l a meant forges = λ tell c shows.
      let h : IsLineAct l c.world.texts a = subst (λ (texts : List (List ℕ)). IsLineAct l texts a) shows.texts_are meant in
      record { line_event = h.0; makes_event = h.1; formed = h.2; forged = forges tell c h.0 shows h.3 }

module _ {D : Type 0} (told : D → View) (low high : ℕ) (s : PlayState D) (p q : Progress) (written : Option (List ℕ)) where
  pub plays_quiet : (l : Line) → IsNoEvent l → IsQuietNext l p q → PlaysLine told low high l s s p q written written
  plays_quiet l none quiet = λ tell before after first last start c at.
      (record c { now = q }, quiet_next tell before after l none c p q at.now_is quiet, record { shows = at.shows; now_is = refl; out = at.out })

-- one line more
leads_on : (tell : Bool) (before after : ℕ) (lines : List Line) (l : Line) (c mid e : Course) → LinesLead tell before after lines c mid → IsNext tell before after l mid e → LinesLead tell before after (lines ++ l ∷ []) c e
leads_on tell before after [] l c mid e is next = (e, subst (λ (m : Course). IsNext tell before after l m e) is next, refl)
leads_on tell before after (k ∷ lines) l c mid e leads next = (leads.0, leads.1, leads_on tell before after lines l leads.0 mid e leads.2 next)

module _ {D : Type 0} (told : D → View) where
  pub plays_on : (low between high : ℕ) → low ≤ between → between ≤ high → (lines : List Line) (l : Line) (old mid new : PlayState D) (p m q : Progress) (written halfway next : Option (List ℕ)) → Plays told low between lines old mid p m written halfway
      → PlaysLine told between high l mid new m q halfway next → Plays told low high (lines ++ l ∷ []) old new p q written next
  plays_on low between high le1 le2 lines l old mid new p m q written halfway next plays line = λ tell before after first last start c at.
      let one = plays tell before after first (omega (arith, le2, last)) start c at in
      let two = line tell before after (omega (arith, first, le1)) last start one.0 one.2 in
      (two.0, leads_on tell before after lines l c one.0 two.0 one.1 two.1, two.2)

  -- the next line is forged
  pub forges_in : (low between high : ℕ) → between ≤ high → (lines : List Line) (i : ℕ) (l : Line) → i < length lines → l ≡ get_or lines i l → (old mid new : PlayState D) (p m : Progress) (written halfway next : Option (List ℕ)) (number : ℕ)
      → Plays told low between (take i lines) old mid p m written halfway → number ≡ m.number → new ≡ mid → next ≡ halfway → ForgesLine told l mid → ForgesIn told low high lines old new p written next number
  forges_in low between high le lines i l lt read old mid new p m written halfway next number plays number_is same_state same_out forges = λ tell before after first last start c at.
      let one = plays tell before after first (omega (arith, le, last)) start c at in (
        one.0,
        m,
        record {
          front = take i lines;
          line = l;
          back = drop (i + 1) lines;
          split = sym (take-append-drop i lines) ∙ ap (λ (ls : List Line). take i lines ++ ls) (drop_more lines i l lt ∙ ap (λ (x : Line). x ∷ drop (i + 1) lines) (sym read));
          leads = one.1;
          forged = forges tell one.0 one.2.shows;
          number_is = number_is ∙ ap (λ (x : Progress). x.number) (sym one.2.now_is);
        },
        subst (λ (s : PlayState D). IsAt tell told start one.0 s m next) (sym same_state) (subst (λ (w : Option (List ℕ)). IsAt tell told start one.0 mid m w) (sym same_out) one.2),
      )

-- whether there is one doesn't change by a map
pub some_map : {A B : Type 0} (f : A → B) (o : Option A) → is_some o ≡ is_some (option_map f o)
some_map f (Some x) = refl
some_map f None = refl
