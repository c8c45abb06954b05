-- The course of the scenario whose text is given: it is one, and at its end a key is live.
use Rattle.std.proofs.Common.{arith, ◌≡◌, ◌≤◌, ℕ, Bool, List, [], ◌∷◌, length, Option, Some, None, false, refl, sym, ap, subst, ◌∙◌, lit≤}
use Rattle.std.proofs.lemmas.List.{take_all}
use Rattle.std.specs.Prelude.{slice_get}
use Rattle.csm_feed.specs.Heard.{input_limit}
use Rattle.csm_grammar.specs.declared.arrival.Arrival.{Arrival}
use Rattle.x_base.specs.declared.party.Role.TheVariants.{Bank}
use Rattle.x_base.specs.declared.party.Side.TheVariants.{Sends, Takes}
use Rattle.x_mac.specs.declared.pair.Pair.{Pair}
use Rattle.x_gen.specs.declared.generator.Gen.{Gen}
use Rattle.x_gen.specs.Parity.{odd_parity_of, is_weak_key}
use Rattle.party_state.specs.declared.command.Command.TheVariants as command
use Rattle.party_state.specs.declared.command.Input.{Input}
use Rattle.party_state.specs.declared.command.Input.TheVariants as input
use Rattle.change_code.specs.Code.{two, four, eight}
use Rattle.change_code.specs.declared.space.Space.{Space}
use Rattle.role_base.specs.Load.{odd_pair}
use Rattle.scenario.specs.declared.line.Line.{Line}
use Rattle.scenario.specs.declared.line.Line.TheVariants as line
use Rattle.member.specs.Member.{Member, plan_at}
use Rattle.world_laws.specs.World.{World, member_at}
use Rattle.world_laws.specs.Events.{Action, Completion, Event, Hears, IsAction, Orders, Whole}
use Rattle.world_laws.specs.Hearing.{IsHeard, HeardOnce}
use Rattle.world_laws.specs.Honest.{HonestAt, HonestAction}
use Rattle.world_laws.specs.Exchanged.{HasRoom, KeyExchanged, banks_with, kk_label, receiver_name, sender_name, weak_generator}
use Rattle.course.specs.LineEvents.{LineEvent, At, Arrives, MakesEvent, IsNumbered, input_bytes}
use Rattle.course.specs.Outcomes.{input_in, outcome_of, IsCompleted, IsOutcome}
use Rattle.course.specs.Course.{Course, IsDone, IsDoneAt, IsDoneBy, IsEvent, IsNext, LinesLead, after_event, event_at}
use Rattle.course.specs.Starts.{start_course, with_loads, first_member, generator_of, link_of}
use Rattle.course.specs.Live.{LeadsToLiveKey, live_lines, live_moment, other_pair, weak_pair}
use Rattle.course.specs.declared.progress.EventOutcome.{EventOutcome}
use Rattle.course.specs.declared.progress.Stop.{Stop}
use Rattle.course.proofs.Running.{ran_by}

-- ---- an event of which the party, its member and its input are known, where no stop waits

abbrev outcome_at : Member → Input → ℕ → EventOutcome
outcome_at x i moment = outcome_of (plan_at x i moment).verdict

abbrev next_course : Course → List ℕ → Action → Member → Input → Course
next_course c own action x i = after_event c (event_at own c.now.moment action Whole) (outcome_at x i c.now.moment)

-- an action of which a party has an input, and which is honest
pub record IsTold (c : Course) (own : List ℕ) (action : Action) (x : Member) (i : Input) : Type 0 where
  pub at : member_at own c.world.members ≡ Some x
  pub free : c.now.stop ≡ None
  pub has : input_in action ≡ Some i
  pub numbered : IsNumbered action 0
  pub honest : HonestAction c.world.facts x.party action

done_so : (tell : Bool) (before after : ℕ) (c : Course) (own : List ℕ) (action : Action) (x : Member) (i : Input) → IsTold c own action x i
    → IsDone tell before after c (At own action) (event_at own c.now.moment action Whole) (outcome_at x i c.now.moment)
done_so tell before after c own action x i told =
    subst (λ (m : Option Member). IsDoneBy tell before after c own m action (event_at own c.now.moment action Whole) (outcome_at x i c.now.moment)) (sym told.at) (record {
      completion = Whole;
      number = 0;
      honest = told.honest;
      numbered = told.numbered;
      completes = subst (λ (s : Option Stop). IsCompleted tell before after s x c.now.moment (input_in action) Whole) (sym told.free) refl;
      becomes = subst (λ (s : Option Stop). IsOutcome s x c.now.moment (input_in action) 0 (outcome_at x i c.now.moment)) (sym told.free)
          (subst (λ (j : Option Input). IsOutcome None x c.now.moment j 0 (outcome_at x i c.now.moment)) (sym told.has) refl);
      is = refl;
    })

only_so : (tell : Bool) (before after : ℕ) (c : Course) (own : List ℕ) (action : Action) (x : Member) (i : Input) (e : Event) (o : EventOutcome) → IsTold c own action x i
    → IsDone tell before after c (At own action) e o → after_event c e o ≡ next_course c own action x i
only_so tell before after c own action x i e o told done = go (subst (λ (m : Option Member). IsDoneBy tell before after c own m action e o) told.at done)
  where
    go : IsDoneAt tell before after c own x action e o → after_event c e o ≡ next_course c own action x i
    go d =
        let whole : d.completion ≡ Whole = subst (λ (s : Option Stop). IsCompleted tell before after s x c.now.moment (input_in action) d.completion) told.free d.completes in
        let becomes : IsOutcome None x c.now.moment (input_in action) d.number o = subst (λ (s : Option Stop). IsOutcome s x c.now.moment (input_in action) d.number o) told.free d.becomes in
        let same : o ≡ outcome_at x i c.now.moment = subst (λ (j : Option Input). IsOutcome None x c.now.moment j d.number o) told.has becomes in
        let event : e ≡ event_at own c.now.moment action Whole = d.is ∙ ap (λ (k : Completion). event_at own c.now.moment action k) whole in
        λ j. after_event c (event j) (same j)

-- ---- a text that arrives

module _ (hearing : (bytes : List ℕ) → HeardOnce bytes) (text : List ℕ) (a : Arrival) (short : length text ≤ 1024) (heard : IsHeard text (Some a)) where
  all_taken : input_bytes text ≡ text
  all_taken = take_all input_limit text (omega (arith, short))

  abbrev hears : Action
  hears = Hears text (Some a)

  arrives_so : (party : List ℕ) → Arrives party (Some text) (At party hears)
  arrives_so party = (Some a, subst (λ (b : List ℕ). IsHeard b (Some a)) (sym all_taken) heard, ap (λ (b : List ℕ). At party (Hears b (Some a))) (sym all_taken))

  arrives_only : (party : List ℕ) (h : LineEvent) → Arrives party (Some text) h → h ≡ At party hears
  arrives_only party h is =
      let one = hearing text in
      let this : Some a ≡ one.heard = one.alone (Some a) heard in
      let that : is.0 ≡ one.heard = one.alone is.0 (subst (λ (b : List ℕ). IsHeard b is.0) all_taken is.1) in
      is.2 ∙ λ j. At party (Hears (all_taken j) ((that ∙ sym this) j))

-- ---- a line that is an event

module _ (tell : Bool) (before after : ℕ) (l : Line) (c : Course) (own : List ℕ) (action : Action) (x : Member) (i : Input) (told : IsTold c own action x i) where
  event_so : MakesEvent l c.world.texts (At own action) → IsAction action → IsEvent tell before after l c (next_course c own action x i)
  event_so makes_event formed = record {
    line_event = At own action;
    makes_event = makes_event;
    formed = formed;
    event = event_at own c.now.moment action Whole;
    outcome = outcome_at x i c.now.moment;
    done = done_so tell before after c own action x i told;
    leads = refl;
  }

  event_only : (next : Course) → ((h : LineEvent) → MakesEvent l c.world.texts h → h ≡ At own action) → IsEvent tell before after l c next → next ≡ next_course c own action x i
  event_only next only is =
      let same : is.line_event ≡ At own action = only is.line_event is.makes_event in
      is.leads ∙ only_so tell before after c own action x i is.event is.outcome told (subst (λ (h : LineEvent). IsDone tell before after c h is.event is.outcome) same is.done)

-- ---- the start

abbrev first_room : Space
first_room = (with_loads (first_member sender_name Bank (generator_of weak_pair 0)) (link_of receiver_name kk_label Sends other_pair ∷ [])).space

abbrev second_room : Space
second_room = (with_loads (first_member receiver_name Bank (generator_of other_pair 1)) (link_of sender_name kk_label Takes other_pair ∷ [])).space

abbrev begins : World
begins = banks_with weak_generator (generator_of other_pair 1) (odd_pair other_pair) first_room second_room

first_roomy : HasRoom first_room
unfolding two four eight
first_roomy = lit≤ tt

second_roomy : HasRoom second_room
unfolding two four eight
second_roomy = lit≤ tt

pub strong : is_weak_key (odd_parity_of live_moment) ≡ false
unfolding odd_parity_of lib.Count.ones
strong = refl

-- ---- the course

module _ (hearing : (bytes : List ℕ) → HeardOnce bytes) (k : KeyExchanged begins sender_name receiver_name live_moment) where
  -- behind the first four lines
  abbrev c4 : Course
  c4 = record (start_course live_lines) { now = record (start_course live_lines).now { moment = live_moment } }

  abbrev orders : Action
  orders = Orders (command.Start receiver_name None)

  abbrev c5 : Course
  c5 = next_course c4 sender_name orders k.first (input.Ordered (command.Start receiver_name None))

  abbrev c6 : Course
  c6 = next_course c5 receiver_name (Hears k.key.text (Some k.key)) k.second (input.Arrived k.key)

  abbrev c7 : Course
  c7 = next_course c6 sender_name (Hears k.answer.text (Some k.answer)) k.third (input.Arrived k.answer)

  told_start : IsTold c4 sender_name orders k.first (input.Ordered (command.Start receiver_name None))
  told_start = record { at = k.first_at; free = refl; has = refl; numbered = tt; honest = tt }

  told_key : IsTold c5 receiver_name (Hears k.key.text (Some k.key)) k.second (input.Arrived k.key)
  told_key = record {
    at = k.second_at;
    free = refl;
    has = refl;
    numbered = tt;
    honest = subst (λ (m : Option Member). HonestAt c5.world.facts m (Hears k.key.text (Some k.key))) k.second_at k.honest.1.0;
  }

  told_answer : IsTold c6 sender_name (Hears k.answer.text (Some k.answer)) k.third (input.Arrived k.answer)
  told_answer = record {
    at = k.third_at;
    free = refl;
    has = refl;
    numbered = tt;
    honest = subst (λ (m : Option Member). HonestAt c6.world.facts m (Hears k.answer.text (Some k.answer))) k.third_at k.honest.1.1.0;
  }

  first_text : slice_get c5.world.texts 0 ≡ Some k.key.text
  first_text = ap (λ (ts : List (List ℕ)). slice_get ts 0) k.key_written

  second_text : slice_get c6.world.texts 1 ≡ Some k.answer.text
  second_text = ap (λ (ts : List (List ℕ)). slice_get ts 1) k.answer_written

  key_only : (h : LineEvent) → Arrives receiver_name (slice_get c5.world.texts 0) h → h ≡ At receiver_name (Hears k.key.text (Some k.key))
  key_only h is = arrives_only hearing k.key.text k.key k.key_short k.key_heard receiver_name h (subst (λ (o : Option (List ℕ)). Arrives receiver_name o h) first_text is)

  answer_only : (h : LineEvent) → Arrives sender_name (slice_get c6.world.texts 1) h → h ≡ At sender_name (Hears k.answer.text (Some k.answer))
  answer_only h is = arrives_only hearing k.answer.text k.answer k.answer_short k.answer_heard sender_name h (subst (λ (o : Option (List ℕ)). Arrives sender_name o h) second_text is)

  key_so : Arrives receiver_name (slice_get c5.world.texts 0) (At receiver_name (Hears k.key.text (Some k.key)))
  key_so = subst (λ (o : Option (List ℕ)). Arrives receiver_name o (At receiver_name (Hears k.key.text (Some k.key)))) (sym first_text) (arrives_so hearing k.key.text k.key k.key_short k.key_heard receiver_name)

  answer_so : Arrives sender_name (slice_get c6.world.texts 1) (At sender_name (Hears k.answer.text (Some k.answer)))
  answer_so = subst (λ (o : Option (List ℕ)). Arrives sender_name o (At sender_name (Hears k.answer.text (Some k.answer)))) (sym second_text) (arrives_so hearing k.answer.text k.answer k.answer_short k.answer_heard sender_name)

  abbrev last_lines : List Line
  last_lines = line.Start sender_name receiver_name None ∷ line.Pass 1 receiver_name ∷ line.Pass 2 sender_name ∷ []

  module _ (tell : Bool) (before after : ℕ) where
    leads_on : LinesLead tell before after live_lines (start_course live_lines) c7
    leads_on = (
      start_course live_lines,
      refl,
      (
        start_course live_lines,
        refl,
        (
          start_course live_lines,
          refl,
          (
            c4,
            refl,
            (
              c5,
              event_so tell before after (line.Start sender_name receiver_name None) c4 sender_name orders k.first (input.Ordered (command.Start receiver_name None)) told_start refl tt,
              (
                c6,
                event_so tell before after (line.Pass 1 receiver_name) c5 receiver_name (Hears k.key.text (Some k.key)) k.second (input.Arrived k.key) told_key key_so k.key_heard,
                (
                  c7,
                  event_so tell before after (line.Pass 2 sender_name) c6 sender_name (Hears k.answer.text (Some k.answer)) k.third (input.Arrived k.answer) told_answer answer_so k.answer_heard,
                  refl,
                ),
              ),
            ),
          ),
        ),
      ),
    )

    from_c6 : (other : Course) → LinesLead tell before after (line.Pass 2 sender_name ∷ []) c6 other → other ≡ c7
    from_c6 other leads = leads.2 ∙ event_only tell before after (line.Pass 2 sender_name) c6 sender_name (Hears k.answer.text (Some k.answer)) k.third (input.Arrived k.answer) told_answer leads.0 answer_only leads.1

    from_c5 : (other : Course) → LinesLead tell before after (line.Pass 1 receiver_name ∷ line.Pass 2 sender_name ∷ []) c5 other → other ≡ c7
    from_c5 other leads =
        let same : leads.0 ≡ c6 = event_only tell before after (line.Pass 1 receiver_name) c5 receiver_name (Hears k.key.text (Some k.key)) k.second (input.Arrived k.key) told_key leads.0 key_only leads.1 in
        from_c6 other (subst (λ (c : Course). LinesLead tell before after (line.Pass 2 sender_name ∷ []) c other) same leads.2)

    from_c4 : (other : Course) → LinesLead tell before after last_lines c4 other → other ≡ c7
    from_c4 other leads =
        let same : leads.0 ≡ c5 = event_only tell before after (line.Start sender_name receiver_name None) c4 sender_name orders k.first (input.Ordered (command.Start receiver_name None)) told_start leads.0 (λ h e. e) leads.1 in
        from_c5 other (subst (λ (c : Course). LinesLead tell before after (line.Pass 1 receiver_name ∷ line.Pass 2 sender_name ∷ []) c other) same leads.2)

    -- a line that is no event leads to one course
    quiet : (l : Line) (lines : List Line) (c next other : Course) → ((mid : Course) → IsNext tell before after l c mid → mid ≡ next) → LinesLead tell before after (l ∷ lines) c other → LinesLead tell before after lines next other
    quiet l lines c next other only leads = subst (λ (d : Course). LinesLead tell before after lines d other) (only leads.0 leads.1) leads.2

    leads_only : (other : Course) → LinesLead tell before after live_lines (start_course live_lines) other → other ≡ c7
    leads_only other leads =
        let s = start_course live_lines in
        from_c4 other
        (quiet (line.Time live_moment) last_lines s c4 other (λ mid is. is)
        (quiet (line.Link sender_name receiver_name kk_label other_pair) (line.Time live_moment ∷ last_lines) s s other (λ mid is. is)
        (quiet (line.Party receiver_name Bank other_pair 1) (line.Link sender_name receiver_name kk_label other_pair ∷ line.Time live_moment ∷ last_lines) s s other (λ mid is. is)
        (quiet (line.Party sender_name Bank weak_pair 0) (line.Party receiver_name Bank other_pair 1 ∷ line.Link sender_name receiver_name kk_label other_pair ∷ line.Time live_moment ∷ last_lines) s s other (λ mid is. is) leads))))

  pub leads_to_live_key : LeadsToLiveKey live_lines
  leads_to_live_key = record {
    end = c7;
    leads = leads_on;
    alone = leads_only;
    ran = ran_by false 0 0 live_lines (start_course live_lines) c7 (leads_on false 0 0);
    live = k.live;
  }

pub live_course : ((bytes : List ℕ) → HeardOnce bytes)
    → ((h : Gen) (pair : Pair) (s t : Space) → HasRoom s → HasRoom t → KeyExchanged (banks_with weak_generator h pair s t) sender_name receiver_name live_moment) → LeadsToLiveKey live_lines
live_course hearing exchanged = leads_to_live_key hearing (exchanged (generator_of other_pair 1) (odd_pair other_pair) first_room second_room first_roomy second_roomy)
