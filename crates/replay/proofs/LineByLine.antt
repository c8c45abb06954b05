-- What a crash may leave of the parties' disks, line after line.
use Rattle.std.proofs.Common.{◌≡◌, ◌⊎◌, inl, inr, ⊎_elim, ℕ, ◌+◌, ◌<◌, ◌≤◌, true, List, [], ◌∷◌, ◌++◌, length, take, drop, get_or, Option, refl, sym, ◌∙◌, ap, subst, arith, append_assoc, take-append-drop}
use Rattle.std.proofs.lemmas.List.{drop_more}
use Rattle.x_disk.specs.Disk.{View, IsSound}
use Rattle.x_disk.specs.Shelf.{alike_refl}
use Rattle.scenario.specs.declared.line.Line.{Line}
use Rattle.course.specs.Course.{Course}
use Rattle.course.specs.Meanings.{IsLineAct}
use Rattle.course.specs.declared.act.LineAct.{LineAct}
use Rattle.course.specs.declared.progress.Progress.{Progress}
use Rattle.replay.specs.Course.{IsAt}
use Rattle.replay.specs.Crash.{AddsOnly, Crosses, CrossesLines, IsBehind, IsBehindLine, IsBehindNext, IsOfLines}
use Rattle.open_parties.specs.Crash.{held_view, held_of, disk_of}
use Rattle.replay.specs.Lines.{Plays}
use Rattle.replay.specs.declared.play_state.PlayState.{PlayState}
use Rattle.open_parties.specs.declared.open_party.OpenParty.{OpenParty}
use Rattle.open_parties.specs.declared.open_party.PartyDisk.{PartyDisk}
use Rattle.open_parties.specs.declared.open_party.PartyDisk.TheVariants.{Open, Closed, Away}
use Rattle.replay.proofs.Adding.{adds_all, adds_none, adds_on, adds_weaker}

-- each disk is sound, held or on the shelf
pub disk_sound : {D : Type 0} (told : D → View) (entry : List ℕ → View) (open_parties : List (OpenParty D)) (own : List ℕ) → ((disk : D) → IsSound (told disk)) → ((name : List ℕ) → IsSound (entry name)) → IsSound (disk_of told entry open_parties own)
disk_sound told entry open_parties own sound shelved = go (held_of open_parties own)
  where
    go : (h : PartyDisk _) → IsSound (held_view told (entry own) h)
    go (Open node) = sound node.disk
    go (Closed disk) = sound disk
    go Away = shelved own

-- one line adds the party behind its event
abbrev pub CrossesLine : {D : Type 0} → (D → View) → (List ℕ → View) → (List ℕ → View) → Line → PlayState D → PlayState D → Progress → Option (List ℕ) → Type 0
CrossesLine told before after l old new now written = (start : Option (List ℕ)) (c : Course) → IsAt true told start c old now written
    → (own : List ℕ) → AddsOnly (disk_of told before old.parties own) (disk_of told after new.parties own) (IsBehindLine l c own)

pub crosses_line : {D : Type 0} (told : D → View) (before after : List ℕ → View) (l : Line) (a : LineAct) (old new : PlayState D) (now : Progress) (written : Option (List ℕ)) → ((disk : D) → IsSound (told disk)) → ((name : List ℕ) → IsSound (before name))
    → IsLineAct l old.texts a → Crosses told before after a old new now → CrossesLine told before after l old new now written
crosses_line told before after l a old new now written sound shelved meant crosses = λ start c at own.
    let h : IsLineAct l c.world.texts a = subst (λ (texts : List (List ℕ)). IsLineAct l texts a) at.shows.texts_are meant in
    ⊎_elim
    (λ still. adds_none (disk_of told before old.parties own) (disk_of told after new.parties own) (IsBehindLine l c own) (disk_sound told before old.parties own sound shelved) still.alike)
    (λ run. adds_weaker (disk_of told before old.parties own) (disk_of told after new.parties own) (IsBehind c h.0 own) (IsBehindLine l c own)
    (adds_all (disk_of told before old.parties own) (disk_of told after new.parties own) (IsBehind c h.0 own) run)
    (λ image behind. record { line_event = h.0; makes_event = h.1; formed = h.2; behind = behind }))
    (crosses c h.0 at.now_is at.shows h.3 own)

-- lines behind change nothing
behind_more : (back more : List Line) (c : Course) (own image : List ℕ) → IsBehindNext back c own image → IsBehindNext (back ++ more) c own image
behind_more [] more c own image is = absurd is
behind_more (l ∷ back) more c own image is = is

way_more : (before after : ℕ) (lines more : List Line) (c : Course) (own image : List ℕ) → IsOfLines before after lines c own image → IsOfLines before after (lines ++ more) c own image
way_more before after lines more c own image way = record {
  front = way.front;
  back = way.back ++ more;
  split = ap (λ (ls : List Line). ls ++ more) way.split ∙ append_assoc way.front way.back more;
  course = way.course;
  leads = way.leads;
  party = ⊎_elim (λ party. inl party) (λ behind. inr (behind_more way.back more way.course own image behind)) way.party;
}

module _ {D : Type 0} (told : D → View) (sound : (disk : D) → IsSound (told disk)) where
  -- before the first line
  pub crosses_none : (entry : List ℕ → View) (low high : ℕ) (lines : List Line) (s : PlayState D) (now : Progress) (written : Option (List ℕ)) → ((name : List ℕ) → IsSound (entry name)) → CrossesLines told entry entry low high lines s s now written
  crosses_none entry low high lines s now written shelved = λ before after first last start c at own.
      adds_none (disk_of told entry s.parties own) (disk_of told entry s.parties own) (IsOfLines before after lines c own) (disk_sound told entry s.parties own sound shelved) (alike_refl (disk_of told entry s.parties own))

  -- lines that aren't played
  pub crosses_more : (first last : List ℕ → View) (low high : ℕ) (lines more : List Line) (old new : PlayState D) (now : Progress) (written : Option (List ℕ)) → CrossesLines told first last low high lines old new now written → CrossesLines told first last low high (lines ++ more) old new now written
  crosses_more first last low high lines more old new now written so_far = λ before after least most start c at own.
      adds_weaker (disk_of told first old.parties own) (disk_of told last new.parties own) (IsOfLines before after lines c own) (IsOfLines before after (lines ++ more) c own) (so_far before after least most start c at own) (way_more before after lines more c own)

  -- one line more
  pub crosses_on : (first mid last : List ℕ → View) (low between high : ℕ) → low ≤ between → between ≤ high → (lines : List Line) (l : Line) (more : List Line) (old halfway new : PlayState D) (p m : Progress) (written wrote : Option (List ℕ))
      → ((name : List ℕ) → IsSound (mid name)) → Plays told low between lines old halfway p m written wrote → CrossesLines told first mid low between lines old halfway p written → CrossesLine told mid last l halfway new m wrote
      → CrossesLines told first last low high (lines ++ l ∷ more) old new p written
  crosses_on first mid last low between high le1 le2 lines l more old halfway new p m written wrote shelved plays so_far crosses = λ before after least most start c at own.
      let one = plays true before after least (omega (arith, le2, most)) start c at in
      let was = so_far before after least (omega (arith, le2, most)) start c at own in
      let next = crosses start one.0 one.2 own in
      let whole : List ℕ → Type 0 = IsOfLines before after (lines ++ l ∷ more) c own in
      adds_on (disk_of told first old.parties own) (disk_of told mid halfway.parties own) (disk_of told last new.parties own) whole (disk_sound told mid halfway.parties own sound shelved)
      (adds_weaker (disk_of told first old.parties own) (disk_of told mid halfway.parties own) (IsOfLines before after lines c own) whole was (way_more before after lines (l ∷ more) c own))
      (adds_weaker (disk_of told mid halfway.parties own) (disk_of told last new.parties own) (IsBehindLine l one.0 own) whole next
      (λ image behind. record { front = lines; back = l ∷ more; split = refl; course = one.0; leads = one.1; party = inr behind }))

  -- where the play ends at one of the lines
  pub crosses_in : (first mid last : List ℕ → View) (low between high : ℕ) → low ≤ between → between ≤ high → (lines : List Line) (i : ℕ) (l : Line) → i < length lines → l ≡ get_or lines i l → (old halfway new : PlayState D) (p m : Progress) (written wrote : Option (List ℕ))
      → ((name : List ℕ) → IsSound (mid name)) → Plays told low between (take i lines) old halfway p m written wrote → CrossesLines told first mid low between (take i lines) old halfway p written → CrossesLine told mid last l halfway new m wrote
      → CrossesLines told first last low high lines old new p written
  crosses_in first mid last low between high le1 le2 lines i l lt read old halfway new p m written wrote shelved plays so_far crosses =
      subst (λ (ls : List Line). CrossesLines told first last low high ls old new p written)
      (sym (sym (take-append-drop i lines) ∙ ap (λ (ls : List Line). take i lines ++ ls) (drop_more lines i l lt ∙ ap (λ (x : Line). x ∷ drop (i + 1) lines) (sym read))))
      (crosses_on first mid last low between high le1 le2 (take i lines) l (drop (i + 1) lines) old halfway new p m written wrote shelved plays so_far crosses)
