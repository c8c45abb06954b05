-- Where no count of faults rises, the status of a scenario is the one that is due.
use Rattle.std.proofs.Common.{◌≡◌, inl, inr, ℕ, ◌++◌, true, false, List, [], ◌∷◌, Option, Some, None, IfSome, is_some, refl, sym, ap, ◌∙◌, subst, arith, true≢false}
use Rattle.std.specs.List.{cons_option}
use Rattle.x_base.specs.declared.party.Role.{Role}
use Rattle.x_base.specs.declared.verdict.Verdict.TheVariants.{NotEmpty}
use Rattle.x_mac.specs.declared.pair.Pair.{Pair}
use Rattle.x_disk.specs.Disk.{View, Tells}
use Rattle.key_journal.specs.Journal.{is_blank}
use Rattle.scenario.specs.declared.line.Line.{Line}
use Rattle.scenario.specs.declared.line.Line.TheVariants as line
use Rattle.scenario_drill.specs.Drill.{drill_text}
use Rattle.scenario.specs.Laws.{NeverBoth, OneFirstBad, OneScenario}
use Rattle.replay.specs.Playing.{Surroundings, around, IsNotEmpty}
use Rattle.replay.specs.SettingUp.{AllReadBlank, AllTell, ReadsBlank}
use Rattle.course.specs.Parties.{parties_in, party_in}
use Rattle.course.specs.declared.tally.Tally.{Tally}
use Rattle.call_ends.specs.declared.status.Refusal.TheVariants.{Decided}
use Rattle.call_ends.specs.declared.status.Status.{Status}
use Rattle.call_ends.specs.declared.status.Status.TheVariants as status
use Rattle.x917.specs.Drilled.{IsDrill, IsDrilled}
use Rattle.x917.specs.Headline.{DisksTell, IsReplay, IsUnread, Says}
use Rattle.x917.specs.Playable.{AnyFilled, ExpectsDrill, ExpectsPlay, ExpectsReplay, IsForgedAlways, IsHonest}
use Rattle.call_ends.specs.Transfer.{IsQuiet}

-- ---- a disk isn't blank and filled

told_image : (o : Option (List ℕ)) → is_some o ≡ true → (image : List ℕ) × (o ≡ Some image)
told_image None tells = absurd cc
told_image (Some image) tells = (image, refl)

both_ways : (v : View) → Tells v → ReadsBlank v → ((image : List ℕ) → v.now ≡ Some image → is_blank image ≡ false) → ⊥
both_ways v tells blank filled = let t = told_image v.now tells in true≢false (sym (blank t.0 t.1) ∙ filled t.0 t.1)

any_filled : (entry : List ℕ → View) (owners : List (List ℕ)) → AllTell entry owners → AllReadBlank entry owners → AnyFilled entry owners → ⊥
any_filled entry [] tell blank any = any
any_filled entry (own ∷ owners) tell blank (inl filled) = both_ways (entry own) tell.0 blank.0 filled
any_filled entry (own ∷ owners) tell blank (inr any) = any_filled entry owners tell.1 blank.1 any

-- the disk of the party of a line among others tells its bytes, and is blank
module _ (entry : List ℕ → View) (name : List ℕ) (role : Role) (pair : Pair) (v : ℕ) (back : List Line) where
  abbrev owners_behind : List Line → List (List ℕ)
  owners_behind front = parties_in (front ++ line.Party name role pair v ∷ back)

  at_party : (front : List Line) → AllTell entry (owners_behind front) → AllReadBlank entry (owners_behind front) → Tells (entry name) × ReadsBlank (entry name)
  at_party [] tell blank = (tell.0, blank.0)
  at_party (l ∷ front) tell blank = by (party_in l) tell blank (at_party front)
    where
      by : (o : Option (List ℕ)) → AllTell entry (cons_option o (owners_behind front)) → AllReadBlank entry (cons_option o (owners_behind front))
          → (AllTell entry (owners_behind front) → AllReadBlank entry (owners_behind front) → Tells (entry name) × ReadsBlank (entry name)) → Tells (entry name) × ReadsBlank (entry name)
      by None tell blank more = more tell blank
      by (Some own) tell blank more = more tell.1 blank.1

not_blank : (old : List ℕ → View) (g : Surroundings) → IsNotEmpty old g → AllTell old (parties_in g.lines) → AllReadBlank old (parties_in g.lines) → ⊥
not_blank old g is tell blank =
    let e = is.ended in
    let p = e.party in
    let at = at_party old p.own p.role p.generator.key p.generator.v e.back e.front (subst (λ (l : List Line). AllTell old (parties_in l)) e.split tell)
    (subst (λ (l : List Line). AllReadBlank old (parties_in l)) e.split blank) in
    both_ways (old p.own) at.0 at.1 e.failed_set_up.filled

-- ---- a scenario that was played

expects_play : (old : List ℕ → View) (g : Surroundings) (s : Status) → Says old g s → (s ≡ status.WriteFault → ⊥) → (s ≡ status.DiskFault → ⊥) → IsQuiet g.before g.after → DisksTell old g
    → ExpectsPlay g.lines old s
expects_play old g status.Done says write disk quiet tell = let p = says tell in record {
  ending = tt;
  filled = λ any. absurd (any_filled old (parties_in g.lines) tell p.blank any);
  honest = λ blank is. inl refl;
  forged = λ blank is. absurd (is g.before g.after p.course quiet p.leads);
}
expects_play old g (status.Refused (Decided NotEmpty)) says write disk quiet tell = record {
  ending = tt;
  filled = λ any. inl refl;
  honest = λ blank is. absurd (not_blank old g (says tell) tell blank);
  forged = λ blank is. absurd (not_blank old g (says tell) tell blank);
}
expects_play old g (status.Refused refusal) says write disk quiet tell = absurd says
expects_play old g (status.Forged number) says write disk quiet tell = let p = says tell in record {
  ending = tt;
  filled = λ any. absurd (any_filled old (parties_in g.lines) tell p.blank any);
  honest = λ blank is. absurd (is g.before g.after p.course number quiet p.forged);
  forged = λ blank is. inl (number, refl);
}
expects_play old g status.NoMemory says write disk quiet tell = record { ending = tt; filled = λ any. inr refl; honest = λ blank is. inr refl; forged = λ blank is. inr refl }
expects_play old g status.WriteFault says write disk quiet tell = absurd (write refl)
expects_play old g status.DiskFault says write disk quiet tell = absurd (disk refl)
expects_play old g (status.Damaged place) says write disk quiet tell = absurd (says tell)
expects_play old g (status.Usage kind) says write disk quiet tell = absurd says
expects_play old g status.ReadFault says write disk quiet tell = absurd says
expects_play old g (status.BadScenario number) says write disk quiet tell = absurd says

no_memory : (lines : List Line) (old : List ℕ → View) (s : Status) → s ≡ status.NoMemory → ExpectsPlay lines old s
no_memory lines old s is = subst (λ (x : Status). ExpectsPlay lines old x) (sym is)
    (record { ending = tt; filled = λ any. inr refl; honest = λ blank honest. inr refl; forged = λ blank forged. inr refl })

-- no fault rises where none is counted
pub still_quiet : IsQuiet 0 0
still_quiet (inl less) = omega (arith, less)
still_quiet (inr most) = omega (arith, most)

module _ (never : NeverBoth) (one_bad : OneFirstBad) (one : OneScenario) where
  unread : (all : List ℕ) (old : List ℕ → View) (s : Status) → (s ≡ status.ReadFault → ⊥) → IsUnread (Some all) s → ExpectsReplay all old s
  unread all old s read (inl (inl fault)) = absurd (read fault)
  unread all old s read (inl (inr memory)) = record { bad = λ number is. inr memory; played = λ lines is tell. no_memory lines old s memory }
  unread all old s read (inr (number, is, first)) = record {
    bad = λ other bad. inl (is ∙ ap (λ (n : ℕ). status.BadScenario n) (one_bad all number other first bad));
    played = λ lines scenario tell. absurd (never all lines number scenario first);
  }

  pub expects_replay : (s : Status) (left rest before after : Option (List ℕ)) (old new : List ℕ → View) (fault faults : ℕ) → IsReplay s left rest before after old new fault faults
      → (s ≡ status.ReadFault → ⊥) → (s ≡ status.WriteFault → ⊥) → (s ≡ status.DiskFault → ⊥) → IsQuiet fault faults → IfSome left (λ all. ExpectsReplay all old s)
  expects_replay s None rest before after old new fault faults is read write disk quiet = tt
  expects_replay s (Some all) rest before after old new fault faults (inl none) read write disk quiet = unread all old s read none.0
  expects_replay s (Some all) rest before after old new fault faults (inr (lines, p)) read write disk quiet = record {
    bad = λ number bad. absurd (never all lines number p.read.1 bad);
    played = λ other scenario tell.
        (let same : lines ≡ other = one all lines other p.read.1 scenario in
        subst (λ (l : List Line). ExpectsPlay l old s) same
        (expects_play old (around lines new fault faults before after) s p.says write disk quiet (subst (λ (l : List Line). AllTell old (parties_in l)) (sym same) tell)));
  }

-- ---- a drill

module _ (one : OneScenario) {H : Type 0} (entry : H → List ℕ → View) (seed events : ℕ) (before after : Option (List ℕ)) where
  pub expects_done : (tally : Tally) → IsDrilled entry seed events tally → ExpectsDrill seed events status.Done
  expects_done tally p = record {
    honest = λ lines is honest. inl refl;
    forged = λ lines is forged. absurd (subst IsForgedAlways (sym (one (drill_text seed events) p.lines lines p.over.scenario is)) forged 0 0 p.whole.course still_quiet p.whole.leads);
  }

  pub expects_drill : (s : Status) → IsDrill entry seed events s before after → (s ≡ status.WriteFault → ⊥) → ExpectsDrill seed events s
  expects_drill status.Done d write = expects_done d.0 d.1
  expects_drill status.WriteFault d write = absurd (write refl)
  expects_drill (status.Forged number) d write = let p = d.0 in record {
    honest = λ lines is honest. absurd (subst IsHonest (sym (one (drill_text seed events) p.lines lines p.over.scenario is)) honest 0 0 p.up_to.course number still_quiet p.up_to.forged);
    forged = λ lines is forged. inl (number, refl);
  }
  expects_drill status.NoMemory d write = record { honest = λ lines is honest. inr refl; forged = λ lines is forged. inr refl }
  expects_drill (status.Refused refusal) d write = absurd d.0
  expects_drill (status.Usage kind) d write = absurd d.0
  expects_drill status.ReadFault d write = absurd d.0
  expects_drill status.DiskFault d write = absurd d.0
  expects_drill (status.Damaged place) d write = absurd d.0
  expects_drill (status.BadScenario number) d write = absurd d.0
