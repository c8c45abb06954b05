-- How a play over open disks concludes.
use Rattle.std.proofs.Common.{◌≡◌, ◌⊎◌, inl, inr, ℕ, ◌≤◌, Bool, true, false, List, [], ◌∷◌, ◌++◌, length, take, Option, Some, None, Result, Ok, Err, refl, sym, ◌∙◌, ap, subst, append_assoc}
use Rattle.std.specs.Prelude.{IfOk}
use Rattle.std.proofs.Math.Seq.{take-length}
use Rattle.std.proofs.lemmas.List.{append-nil}
use Rattle.x_base.specs.Edge.{AppendsTo, WrotePrefix}
use Rattle.x_disk.specs.Disk.{View}
use Rattle.scenario.specs.declared.line.Line.{Line}
use Rattle.member.specs.Member.{Member}
use Rattle.world_laws.specs.World.{World, member_at}
use Rattle.world_laws.specs.Events.{Event}
use Rattle.world_laws.specs.Steps.{step}
use Rattle.replay.specs.Breaking.{AreOnShelf, AreDurable, IsShut, LeavesShut, StandForAll, IsBreak, IsBrokenIn, BreaksIn}
use Rattle.open_parties.specs.Closing.{AllBack, OtherDisksStay}
use Rattle.open_parties.specs.Crash.{held_of, disk_of}
use Rattle.replay.specs.Crash.{IsBehind, IsPartyOf}
use Rattle.course.specs.Course.{Course, no_event}
use Rattle.course.specs.LineEvents.{LineEvent}
use Rattle.replay.specs.Course.{IsAt}
use Rattle.replay.specs.Finishing.{IsUnshown, Finishes, BreaksPlay, end_of, answer_of, set_up_answer}
use Rattle.replay.specs.Lines.{Plays, ForgesIn}
use Rattle.replay.specs.Playing.{Surroundings, around, IsPlayed, IsPlayedToForged, IsBrokenPlay, IsUnwritten, IsPlayOn, IsRun, IsRunToForged, IsRunBy}
use Rattle.course.specs.Tallies.{IsTallied}
use Rattle.replay.specs.PlayState.{Shows}
use Rattle.open_parties.specs.OpenParties.{members, AreIn}
use Rattle.replay.specs.Showing.{IsWriteEnd}
use Rattle.course.specs.Starts.{start_course, start_members, start_progress}
use Rattle.course.specs.Transcript.{show_lines}
use Rattle.open_parties.specs.declared.failure.Ending.{Ending}
use Rattle.open_parties.specs.declared.failure.Ending.TheVariants as ending
use Rattle.open_parties.specs.declared.failure.Failure.{Failure}
use Rattle.open_parties.specs.declared.failure.Failure.TheVariants as failure
use Rattle.course.specs.declared.progress.Progress.{Progress}
use Rattle.replay.specs.declared.making.SetUpEnd.{SetUpEnd}
use Rattle.replay.specs.declared.making.SetUpEnd.TheVariants.{NotEmpty, Failed}
use Rattle.replay.specs.declared.play_state.PlayState.{PlayState}
use Rattle.open_parties.specs.declared.open_party.PartyDisk.{PartyDisk}
use Rattle.open_parties.specs.declared.open_party.PartyDisk.TheVariants.{Open, Closed, Away}
use Rattle.course.specs.declared.tally.Tally.{Tally}
use Rattle.replay.proofs.Breakage.{shown_stand}
use Rattle.open_parties.proofs.Holding.{back_on_shelf}
use Rattle.replay.proofs.Lasting.{durable_back, durable_image, durable_open, images_open}
use Rattle.replay.proofs.Happened.{nothing_done, quiet_honest}
use Rattle.replay.proofs.Leading.{appends_more}
use Rattle.replay.proofs.Shutting.{all_open}
use Rattle.replay.proofs.Standing.{stand_on_shelf}

module _ {D : Type 0} (told : D → View) where
  -- the start is shown by the parties that are set up
  pub starts : (tell : Bool) (lines : List Line) (s : PlayState D) (written : Option (List ℕ)) → AreIn tell told s.parties → members s.parties ≡ start_members lines → s.texts ≡ [] → s.facts ≡ []
      → IsAt tell told written (start_course lines) s start_progress written
  starts tell lines s written all_open members_are texts_are facts_are = record {
    shows = record { all_open = all_open; members_are = members_are; texts_are = texts_are; facts_are = facts_are };
    now_is = refl;
    out = nothing_yet written;
  }
    where
      nothing_yet : (w : Option (List ℕ)) → AppendsTo w w []
      nothing_yet None = tt
      nothing_yet (Some xs) = ap Some (sym (append-nil xs))

-- ---- the show lines behind the lines

shown_some : (xs : List ℕ) (next final : Option (List ℕ)) (a text : List ℕ) → next ≡ Some (xs ++ a) → WrotePrefix next final text → (n : ℕ) × (final ≡ Some (xs ++ (a ++ take n text)))
shown_some xs None final a text is part = absurd (cc is)
shown_some xs (Some ys) final a text is part =
    let y : ys ≡ xs ++ a = cc is in
    (part.0, part.2 ∙ (ap (λ (l : List ℕ). Some (l ++ take part.0 text)) y ∙ ap Some (append_assoc xs a (take part.0 text))))

shown_part : (start next final : Option (List ℕ)) (a text : List ℕ) → AppendsTo start next a → WrotePrefix next final text → (n : ℕ) × AppendsTo start final (a ++ take n text)
shown_part None next final a text out part = (0, tt)
shown_part (Some xs) next final a text out part = shown_some xs next final a text out part

module _ {D : Type 0} (told : D → View) (low high : ℕ) (lines : List Line) (old new : PlayState D) (p : Progress) (written next final : Option (List ℕ)) where
  pub finishes : (q : Progress) (tally : Tally) → Plays told low high lines old new p q written next → IsTallied q (members new.parties) tally → AppendsTo next final (show_lines (members new.parties))
      → Finishes told low high lines old new p written final tally
  finishes q tally plays tallied shown = λ tell before after first last start c at.
      let one = plays tell before after first last start c at in
      record {
        course = one.0;
        leads = one.1;
        shows = one.2.shows;
        out = appends_more start next final one.0.transcript (show_lines one.0.world.members) one.2.out (subst (λ (ms : List Member). AppendsTo next final (show_lines ms)) one.2.shows.members_are shown);
        tallied = subst (λ (r : Progress). IsTallied r one.0.world.members tally) (sym one.2.now_is) (subst (λ (ms : List Member). IsTallied q ms tally) one.2.shows.members_are tallied);
      }

  pub breaks_before : (entry : List ℕ → View) (why : Ending) → BreaksIn told entry low high lines old new p written final why → BreaksPlay told entry low high lines old new p written final why
  breaks_before entry why breaks = λ before after first last start c at.
      let b = breaks before after first last start c at in
      (b.0, inl b.1)

  break_of : (why : Ending) → IsWriteEnd why → IsBreak why
  break_of (ending.Forged n) is = absurd is
  break_of ending.Write is = tt
  break_of (ending.Failed failure.Fault) is = absurd is
  break_of (ending.Failed failure.NoMemory) is = tt
  break_of (ending.Failed (failure.Damaged place)) is = absurd is

  pub breaks_behind : (entry : List ℕ → View) (q : Progress) (why : Ending) → Plays told low high lines old new p q written next → IsWriteEnd why → WrotePrefix next final (show_lines (members new.parties))
      → BreaksPlay told entry low high lines old new p written final why
  breaks_behind entry q why plays end part = λ before after first last start c at.
      let one = plays true before after first last start c at in
      let n = shown_part start next final one.0.transcript (show_lines one.0.world.members) one.2.out (subst (λ (ms : List Member). WrotePrefix next final (show_lines ms)) one.2.shows.members_are part) in (
        break_of why end,
        inr (record {
          course = one.0;
          leads = one.1;
          stands = shown_stand told entry one.0.world new one.2.shows;
          opened = all_open true told new.parties one.2.shows.all_open;
          shown = n.0;
          out = n.1;
        }),
      )

-- ---- all disks are back on the shelf

module _ {D : Type 0} (told : D → View) (mid entry : List ℕ → View) (before low high after : ℕ) (first : before ≤ low) (last : high ≤ after) (lines : List Line) (old new : PlayState D) (start written : Option (List ℕ))
    (at : IsAt true told start (start_course lines) old start_progress start) (back : AllBack told mid entry new.parties) (others : OtherDisksStay mid entry new.parties) where
  images : (w : World) → Shows true told w new → AreOnShelf entry w.members
  images w shows = stand_on_shelf told mid entry new.parties w.members back (shown_stand told mid w new shows)

  durable : (w : World) → Shows true told w new → AreDurable entry w.members
  durable w shows = subst (AreDurable entry) shows.members_are (durable_back told mid entry new.parties back shows.all_open)

  abbrev s : Surroundings
  s = around lines entry before after start written

  finished : (tally : Tally) → Finishes told low high lines old new start_progress start written tally → IsPlayed s tally
  finished tally finishes =
      let f = finishes true before after first last start (start_course lines) at in
      record { course = f.course; leads = f.leads; images = images f.course.world f.shows; durable = durable f.course.world f.shows; out = f.out; tallied = f.tallied }

  -- and one of them wasn't put back
  finished_failed : (tally : Tally) → Finishes told low high lines old new start_progress start written tally → IsBrokenPlay s
  finished_failed tally finishes =
      let f = finishes true before after first last start (start_course lines) at in
      let all = show_lines f.course.world.members in
      record {
        front = lines;
        back = [];
        split = sym (append-nil lines);
        course = f.course;
        leads = f.leads;
        broken = record {
          images = images f.course.world f.shows;
          durable = durable f.course.world f.shows;
          shown = length all;
          out = subst (λ (l : List ℕ). AppendsTo start written (f.course.transcript ++ l)) (sym (take-length all)) f.out;
        };
      }

  forged : (n : ℕ) → ForgesIn told low high lines old new start_progress start written n → IsPlayedToForged s n
  forged n forges =
      let f = forges true before after first last start (start_course lines) at in
      record { course = f.0; forged = f.2; images = images f.0.world f.3.shows; durable = durable f.0.world f.3.shows; out = f.3.out }

  forged_failed : (n : ℕ) → ForgesIn told low high lines old new start_progress start written n → IsBrokenPlay s
  forged_failed n forges =
      let f = forges true before after first last start (start_course lines) at in
      let c = f.0 in
      record {
        front = f.2.front;
        back = f.2.line ∷ f.2.back;
        split = f.2.split;
        course = c;
        leads = f.2.leads;
        broken = record {
          line_event = f.2.forged.line_event;
          makes_event = inr (f.2.forged.makes_event, f.2.forged.formed);
          event = no_event c.now.moment;
          is = inl refl;
          honest = quiet_honest c;
          images = subst (λ (w : World). AreOnShelf entry w.members) (sym (nothing_done c.now.number c.world c.now.moment)) (images c.world f.3.shows);
          leaves = λ own x is image may.
              inl (subst (λ (w : World). IsPartyOf w own image) (sym (nothing_done c.now.number c.world c.now.moment))
              (record { member = x; at = is; stands = durable_image (entry own) x (images c.world f.3.shows own x is) (durable c.world f.3.shows own x is) image may }));
          part = [];
          part_is = inl refl;
          out = subst (AppendsTo start written) (sym (append-nil c.transcript)) f.3.out;
        };
      }

  -- each image that may be left behind an event that broke off
  leaves_ahead : (c : Course) (h : LineEvent) (e : Event) → StandForAll told mid new.parties (step c.now.number c.world e).members → LeavesShut told mid c h new.parties → (own : List ℕ) (x : Member) → member_at own c.world.members ≡ Some x
      → (image : List ℕ) → (entry own).may_leave image → IsPartyOf (step c.now.number c.world e) own image ⊎ IsBehind c h own image
  leaves_ahead c h e stands shut own x is image may = go (held_of new.parties own) refl
    where
      before_put : (disk_of told mid new.parties own).may_leave image
      before_put = (back_on_shelf told mid entry new.parties own back (others own)).images image may

      go : (held : PartyDisk D) → held_of new.parties own ≡ held → IsPartyOf (step c.now.number c.world e) own image ⊎ IsBehind c h own image
      go (Open node) there =
          let y = images_open told mid entry new.parties (step c.now.number c.world e).members back stands own node there image may in
          inl (record { member = y.0; at = y.1; stands = y.2 })
      go (Closed disk) there = inr (shut own x is (subst IsShut (sym there) tt) image before_put)
      go Away there = inr (shut own x is (subst IsShut (sym there) tt) image before_put)

  abbrev broken_by : (why : Ending) → IsBrokenIn told mid before after start lines (start_course lines) new written why ⊎ IsUnshown told mid before after start lines (start_course lines) new written → IsBrokenPlay s
  broken_by why (inl i) = record {
    front = i.front;
    back = i.line ∷ i.back;
    split = i.split;
    course = i.mid;
    leads = i.leads;
    broken = record {
      line_event = i.line_event;
      makes_event = i.makes_event;
      event = i.broken.event;
      is = i.broken.is;
      honest = i.broken.honest;
      images = stand_on_shelf told mid entry new.parties (step i.mid.now.number i.mid.world i.broken.event).members back i.broken.stands;
      leaves = leaves_ahead i.mid i.line_event i.broken.event i.broken.stands i.broken.leaves;
      part = i.broken.part;
      part_is = i.broken.part_is;
      out = i.broken.out;
    };
  }
  broken_by why (inr u) = record {
    front = lines;
    back = [];
    split = sym (append-nil lines);
    course = u.course;
    leads = u.leads;
    broken = record {
      images = stand_on_shelf told mid entry new.parties u.course.world.members back u.stands;
      durable = durable_open told mid entry new.parties u.course.world.members u.opened back u.stands;
      shown = u.shown;
      out = u.out;
    };
  }

  broken : (why : Ending) → BreaksPlay told mid low high lines old new start_progress start written why → IsBrokenPlay s
  broken why breaks = broken_by why (breaks before after first last start (start_course lines) at).1

  -- where the sink failed
  unwritten_by : IsBrokenIn told mid before after start lines (start_course lines) new written ending.Write ⊎ IsUnshown told mid before after start lines (start_course lines) new written → IsUnwritten s
  unwritten_by (inl i) = record {
    play = broken_by ending.Write (inl i);
    done = i.broken.done refl;
    durable = durable_open told mid entry new.parties (step i.mid.now.number i.mid.world i.broken.event).members (i.broken.opened refl) back i.broken.stands;
  }
  unwritten_by (inr u) = record { play = broken_by ending.Write (inr u); done = tt; durable = durable_open told mid entry new.parties u.course.world.members u.opened back u.stands }

  unwritten : BreaksPlay told mid low high lines old new start_progress start written ending.Write → IsUnwritten s
  unwritten breaks = unwritten_by (breaks before after first last start (start_course lines) at).1

  undamaged : (place : ℕ) → BreaksPlay told mid low high lines old new start_progress start written (ending.Failed (failure.Damaged place)) → ⊥
  undamaged place breaks = (breaks before after first last start (start_course lines) at).0

  -- what is answered
  pub concludes : (outcome : Result Tally Ending) (put : Result Unit Failure) → ((place : ℕ) → put ≡ Err (failure.Damaged place) → ⊥) → IfOk outcome (λ tally. Finishes told low high lines old new start_progress start written tally)
      → ((n : ℕ) → outcome ≡ Err (ending.Forged n) → ForgesIn told low high lines old new start_progress start written n)
      → ((why : Ending) → outcome ≡ Err why → ((n : ℕ) → why ≡ ending.Forged n → ⊥) → BreaksPlay told mid low high lines old new start_progress start written why)
      → IsPlayOn s (answer_of (end_of outcome put))
  concludes (Ok tally) (Ok done) sound f g b = finished tally f
  concludes (Ok tally) (Err failure.Fault) sound f g b = finished_failed tally f
  concludes (Ok tally) (Err failure.NoMemory) sound f g b = finished_failed tally f
  concludes (Ok tally) (Err (failure.Damaged place)) sound f g b = absurd (sound place refl)
  concludes (Err (ending.Forged n)) (Ok done) sound f g b = forged n (g n refl)
  concludes (Err (ending.Forged n)) (Err failure.Fault) sound f g b = forged_failed n (g n refl)
  concludes (Err (ending.Forged n)) (Err failure.NoMemory) sound f g b = forged_failed n (g n refl)
  concludes (Err (ending.Forged n)) (Err (failure.Damaged place)) sound f g b = absurd (sound place refl)
  concludes (Err ending.Write) put sound f g b = unwritten (b ending.Write refl (λ n is. absurd (cc is)))
  concludes (Err (ending.Failed failure.Fault)) put sound f g b = broken (ending.Failed failure.Fault) (b (ending.Failed failure.Fault) refl (λ n is. absurd (cc is)))
  concludes (Err (ending.Failed failure.NoMemory)) put sound f g b = broken (ending.Failed failure.NoMemory) (b (ending.Failed failure.NoMemory) refl (λ n is. absurd (cc is)))
  concludes (Err (ending.Failed (failure.Damaged place))) put sound f g b = absurd (undamaged place (b (ending.Failed (failure.Damaged place)) refl (λ n is. absurd (cc is))))

-- ---- over every shelf

module _ {D : Type 0} (told : D → View) (entry : List ℕ → View) (before low high after : ℕ) (first : before ≤ low) (last : high ≤ after) (lines : List Line) (old new : PlayState D) (start written : Option (List ℕ))
    (at : IsAt false told start (start_course lines) old start_progress start) where
  abbrev g : Surroundings
  g = around lines entry before after start written

  ran : (tally : Tally) → Finishes told low high lines old new start_progress start written tally → IsRun g tally
  ran tally finishes =
      let f = finishes false before after first last start (start_course lines) at in
      record { course = f.course; leads = f.leads; out = f.out; tallied = f.tallied }

  ran_to : (n : ℕ) → ForgesIn told low high lines old new start_progress start written n → IsRunToForged g n
  ran_to n forges =
      let f = forges false before after first last start (start_course lines) at in
      record { course = f.0; forged = f.2; out = f.3.out }

  pub runs : (outcome : Result Tally Ending) (put : Result Unit Failure) → IfOk outcome (λ tally. Finishes told low high lines old new start_progress start written tally)
      → ((n : ℕ) → outcome ≡ Err (ending.Forged n) → ForgesIn told low high lines old new start_progress start written n) → IsRunBy g (answer_of (end_of outcome put))
  runs (Ok tally) (Ok done) f k = ran tally f
  runs (Ok tally) (Err failure.Fault) f k = tt
  runs (Ok tally) (Err failure.NoMemory) f k = tt
  runs (Ok tally) (Err (failure.Damaged place)) f k = tt
  runs (Err (ending.Forged n)) (Ok done) f k = ran_to n (k n refl)
  runs (Err (ending.Forged n)) (Err failure.Fault) f k = tt
  runs (Err (ending.Forged n)) (Err failure.NoMemory) f k = tt
  runs (Err (ending.Forged n)) (Err (failure.Damaged place)) f k = tt
  runs (Err ending.Write) put f k = tt
  runs (Err (ending.Failed failure.Fault)) put f k = tt
  runs (Err (ending.Failed failure.NoMemory)) put f k = tt
  runs (Err (ending.Failed (failure.Damaged place))) put f k = tt

pub failed_set_up_runs : (s : Surroundings) (end : SetUpEnd) → IsRunBy s (set_up_answer end)
failed_set_up_runs s NotEmpty = tt
failed_set_up_runs s (Failed failure.Fault) = tt
failed_set_up_runs s (Failed failure.NoMemory) = tt
failed_set_up_runs s (Failed (failure.Damaged place)) = tt
