-- A call over a party on a shelf is an event at its member.
use Rattle.std.proofs.Common.{arith, ◌≡◌, ◌≢◌, ◌⊎◌, inl, inr, ℕ, ◌<◌, Bool, true, false, cond, ◌&&◌, Option, Some, None, List, [], ◌++◌, refl, sym, ◌∙◌, ap, subst}
use Rattle.std.specs.Prelude.{nat_le, option_to_list}
use Rattle.std.proofs.lemmas.Bool.{le-leb, leb-true, false_from_ne_true}
use Rattle.x_base.specs.declared.verdict.Verdict.{Verdict}
use Rattle.x_base.specs.declared.verdict.Verdict.TheVariants.{Accept, JournalFull}
use Rattle.x_disk.specs.Disk.{View, LeavesOnly}
use Rattle.key_journal.specs.Journal.{is_blank}
use Rattle.key_journal.specs.States.{room_of}
use Rattle.party_state.specs.declared.command.Command.{Command}
use Rattle.party_state.specs.declared.command.Input.{Input}
use Rattle.party_state.specs.declared.command.Input.TheVariants.{Ordered, Arrived}
use Rattle.party_state.specs.State.{Party}
use Rattle.party_state.specs.Verdicts.{is_accept}
use Rattle.csm_grammar.specs.declared.arrival.Arrival.{Arrival}
use Rattle.role_base.specs.Differing.{differing}
use Rattle.change_code.specs.Cost.{fits, can_compact}
use Rattle.change_code.specs.declared.format.Format.{Format}
use Rattle.change_code.specs.declared.space.Space.{Space}
use Rattle.change_code.specs.Whole.{IsTooLarge}
use Rattle.key_store.specs.Store.{Stands, StandsWith, IsFirstDamage, StandsForOldOrNew}
use Rattle.member.specs.Deciding.{decision}
use Rattle.member.specs.Leads.{lead_in}
use Rattle.member.specs.Rows.{row_at}
use Rattle.member.specs.Member.{Member, Plan, plan_at, as_decided, as_full, after}
use Rattle.member.specs.Acts.{Act, Keeps, WritesWhole, verdict_alone, taking, rewriting, compacted_in, migrated_in, member_after}
use Rattle.node_core.specs.Turns.{IsOldOrNext}
use Rattle.x_party.specs.Images.{DiskStandsFor, OfParty, OfOwnParty, OrBefore}
use Rattle.x_party.specs.Outcomes.{IsAccepted, IsRefusedTurn, IsOther, IsNobody, IsTooLargeIn, FitsIn, space_in, IsRewritten, IsNotRewritten, IsOldOrRewritten, RewritesParty, CompactsParty, MigratesParty, IsSafe, IsSafeRewriting, IsSafeCompaction, IsSafeMigration, TakesTurn}
use Rattle.x_party.specs.declared.outcome.Outcome.{Outcome}
use Rattle.x_party.specs.declared.outcome.Outcome.TheVariants as outcome
use Rattle.world_laws.specs.World.{World, HasMember, member_at}
use Rattle.world_laws.specs.Events.{Action, Orders, Hears, Compacts, Migrates, Completion, Whole}
use Rattle.world_laws.specs.Steps.{world_after_action, world_rewritten, world_after_input, step, step_at}
use Rattle.world_laws.specs.Nodes.{IsEventOf, input_event}
use Rattle.call_laws.specs.Calls.{event_at, IsWholeCall, IsCutCall, AnswersWhole, AnswersOther, IsCall, IsNamedCall}
use Rattle.call_laws.proofs.Turning.{cut_is}
use Rattle.world_laws.proofs.Lists.Members.{after_at}
use Rattle.world_laws.proofs.Nodes.Binding.{input_is, same_member}
use Rattle.world_laws.proofs.Nodes.Compactions.{rewriting_is}

-- a crash leaves images of which more holds
leaves_more : (old new : View) (P Q : List ℕ → Type 0) → ((c : List ℕ) → P c → Q c) → LeavesOnly old new P → LeavesOnly old new Q
leaves_more old new P Q more is = record {
  later = is.later;
  each = λ c left. more c (is.each c left);
  before = λ t c early left. elim (is.before t c early left) [
    | inl was ↦ inl was
    | inr here ↦ inr (more c here)
  ];
}

or_before : (old : View) (P Q : List ℕ → Type 0) → ((c : List ℕ) → P c → Q c) → (c : List ℕ) → OrBefore old P c → OrBefore old Q c
or_before old P Q more c (inl here) = inl (more c here)
or_before old P Q more c (inr was) = inr was

stands_so : (image : List ℕ) (p : Party) (left : Space) → StandsWith image p left → Stands image p
stands_so image p left stood = record { format = left.format; stands = record { bodies = stood.bodies; holds = stood.holds; fold = stood.fold } }

-- the space with which it stands
abbrev space_of : (image : List ℕ) (p : Party) → Stands image p → Space
space_of image p stood = record { format = stood.format; room = room_of stood.stands.bodies }

stands_with : (image : List ℕ) (p : Party) (stood : Stands image p) → StandsWith image p (space_of image p stood)
stands_with image p stood = record { bodies = stood.stands.bodies; holds = stood.stands.holds; fold = stood.stands.fold; left = refl }

-- ---- what a member does by an action, as a call

module _ (x : Member) (act : Act) (moment : ℕ) (action : Action) (event : ℕ → World → Completion → World) (is : IsEventOf x act event)
    (gives : (n : ℕ) (w : World) (c : Completion) → world_after_action n w x moment c action ≡ event n w c) where
  in_network : (c : Completion) (P : World → Type 0) (n : ℕ) (w : World) → member_at x.party.own w.members ≡ Some x → P (event n w c) → P (step n w (event_at x moment action c))
  in_network c P n w at p = subst (λ (o : Option Member). P (step_at n w (event_at x moment action c) o)) (sym at) (subst P (sym (gives n w c)) p)

  whole_call : (y : Member) (reply : Option (List ℕ)) (new : View) → member_after x act.work ≡ y → act.reply ≡ reply → DiskStandsFor new y.party y.space → IsWholeCall x (event_at x moment action Whole) new reply
  whole_call y reply new next out stood = record {
    stands = λ n w at. in_network Whole (λ v. HasMember v x.party.own (DiskStandsFor new)) n w at (record {
      member = member_after x act.work;
      at = ap (λ (ms : List Member). member_at x.party.own ms) (is.whole n w at).members ∙ after_at w.members x.party.own x (member_after x act.work) at is.own;
      holds = subst (λ (z : Member). DiskStandsFor new z.party z.space) (sym next) stood;
    });
    texts = λ n w at. in_network Whole (λ v. v.texts ≡ w.texts ++ option_to_list reply) n w at
        ((is.whole n w at).texts ∙ ap (λ (o : Option (List ℕ)). w.texts ++ option_to_list o) out);
  }

  cut_call : (image : List ℕ) → IsOldOrNext x (member_after x act.work) image → IsCutCall x (event_at x moment action) image
  cut_call image leaves =
      let c = cut_is x act event image is leaves in
      record {
        completion = c.completion;
        cut = c.cut;
        stands = λ n w at. in_network c.completion (λ v. HasMember v x.party.own (StandsWith image)) n w at (c.stands n w at);
      }

-- the action gives the party an input
abbrev pub Gives : Action → Input → Type 0
Gives action i = (n : ℕ) (w : World) (x : Member) (moment : ℕ) (c : Completion) → world_after_action n w x moment c action ≡ world_after_input n w x i moment c

not_accept : (v : Verdict) → v ≢ Accept → is_accept v ≡ false
not_accept Accept differs = absurd (differs refl)
not_accept _ differs = refl

refuses_nothing : (p : Party) (i : Input) (moment : ℕ) → (decision p i moment).verdict ≢ Accept → (decision p i moment).change ≡ []
unfolding decision
refuses_nothing p i moment refuses = ap (λ (b : Bool). cond b (differing p (row_at p i moment).edits) []) (not_accept (row_at p i moment).verdict refuses)

-- a turn of a party with its space
module _ (p : Party) (left : Space) (i : Input) (moment : ℕ) (action : Action) (gives : Gives action i) (old new : View) where
  abbrev here : Member
  here = record { party = p; space = left }

  abbrev act : Act
  act = taking (plan_at here i moment)

  is_whole : (y : Member) (reply : Option (List ℕ)) → member_after here act.work ≡ y → act.reply ≡ reply → DiskStandsFor new y.party y.space → IsWholeCall here (event_at here moment action Whole) new reply
  is_whole y reply = whole_call here act moment action (input_event here i moment) (input_is here i moment) (λ n w c. gives n w here moment c) y reply new

  plan_fits : fits left (decision p i moment).change ≡ true → plan_at here i moment ≡ as_decided (lead_in p i) (decision p i moment)
  plan_fits enough = ap (λ (b : Bool). cond b (as_decided (lead_in p i) (decision p i moment)) (as_full (lead_in p i))) enough

  plan_full : fits left (decision p i moment).change ≡ false → plan_at here i moment ≡ as_full (lead_in p i)
  plan_full full = ap (λ (b : Bool). cond b (as_decided (lead_in p i) (decision p i moment)) (as_full (lead_in p i))) full

  accepted_call : (reply : Option (List ℕ)) → IsAccepted old new (decision p i moment) p left reply → IsWholeCall here (event_at here moment action Whole) new reply
  accepted_call reply a =
      is_whole (after here (decision p i moment).change) reply (ap (λ (plan : Plan). after here plan.edits) (plan_fits a.fits)) (ap (λ (plan : Plan). plan.reply) (plan_fits a.fits) ∙ sym a.reply) a.stands

  refused_call : (said : Verdict) (reply : Option (List ℕ)) → IsRefusedTurn old new (decision p i moment) p left said reply → IsWholeCall here (event_at here moment action Whole) new reply
  refused_call said reply r = elim r.cause [
    | inl refusal ↦
        let none = refuses_nothing p i moment refusal.refuses in
        let plan = plan_fits (ap (λ es. fits left es) none) in
        is_whole here reply (ap (λ (plan : Plan). after here plan.edits) plan ∙ (ap (λ es. after here es) none ∙ same_member here)) (ap (λ (plan : Plan). plan.reply) plan ∙ sym refusal.reply) r.stands
    | inr full ↦
        let plan = plan_full full.full in
        is_whole here reply (ap (λ (plan : Plan). after here plan.edits) plan ∙ same_member here) (ap (λ (plan : Plan). plan.reply) plan ∙ sym full.reply) r.stands
  ]

  -- a crash leaves the party after the event that is cut off
  cut_turn : fits left (decision p i moment).change ≡ true → (image : List ℕ) → StandsForOldOrNew p left (decision p i moment).change image → IsCutCall here (event_at here moment action) image
  cut_turn enough image leaves =
      cut_call here act moment action (input_event here i moment) (input_is here i moment) (λ n w c. gives n w here moment c) image
      (subst (λ (plan : Plan). IsOldOrNext here (after here plan.edits) image) (sym (plan_fits enough)) leaves)

  pub turn_cut : (name image : List ℕ) → old.now ≡ Some image → StandsWith image p left → IsSafe name old new i moment → LeavesOnly old new (OrBefore old (IsCutCall here (event_at here moment action)))
  turn_cut name image now stood safe = by_test (fits left (decision p i moment).change) refl
    where
      by_test : (b : Bool) → fits left (decision p i moment).change ≡ b → LeavesOnly old new (OrBefore old (IsCutCall here (event_at here moment action)))
      by_test true enough = leaves_more old new (OrBefore old (StandsForOldOrNew p left (decision p i moment).change)) (OrBefore old (IsCutCall here (event_at here moment action)))
          (or_before old (StandsForOldOrNew p left (decision p i moment).change) (IsCutCall here (event_at here moment action)) (cut_turn enough)) (safe.party image p left now stood)
      by_test false full = leaves_more old new old.may_leave (OrBefore old (IsCutCall here (event_at here moment action))) (λ c was. inr was)
          (safe.still image p left now stood (λ keeps. (let lie : false ≡ true = sym full ∙ keeps.fits in cc lie))).any_moment

-- ---- a compaction, or a migration

both : (a b : Bool) → a ≡ true → b ≡ true → (a && b) ≡ true
both true true is1 is2 = refl
both true false is1 is2 = is2
both false b is1 is2 = is1

neither : (a b : Bool) → (a ≡ false) ⊎ (b ≡ false) → (a && b) ≡ false
neither true true (inl is) = is
neither true true (inr is) = is
neither true false either = refl
neither false b either = refl

not_more : (a b : ℕ) → ¬ (b < a) → nat_le a b ≡ true
not_more a b few = le-leb a b (omega (arith, few))

more : (a b : ℕ) → b < a → nat_le a b ≡ false
more a b many = false_from_ne_true _ (λ is. omega (arith, many, leb-true a b is))

small : (f : Format) (p : Party) → (IsTooLarge f p → ⊥) → can_compact f p ≡ true
small f p fits = both _ _ (not_more _ _ (λ many. fits (inl many))) (not_more _ _ (λ long. fits (inr long)))

large : (f : Format) (p : Party) → IsTooLarge f p → can_compact f p ≡ false
large f p (inl many) = neither _ _ (inl (more _ _ many))
large f p (inr long) = neither _ _ (inr (more _ _ long))

-- a party that is to be written whole in this format, if in any
module _ (o : Option Format) (p : Party) (left : Space) where
  abbrev it : Member
  it = record { party = p; space = left }

  abbrev whole_of_it : Member
  whole_of_it = record { party = p; space = space_in o p left }

  abbrev IsAnswered : Member → Type 0
  IsAnswered y = (member_after it (rewriting o p).work ≡ y) × ((rewriting o p).reply ≡ None)

acts_whole : (o : Option Format) (p : Party) (left : Space) → (IsTooLargeIn o p → ⊥) → IsAnswered o p left (whole_of_it o p left)
acts_whole None p left fits = (same_member (it None p left), refl)
acts_whole (Some f) p left fits = by_test (can_compact f p) (small f p fits)
  where
    by_test : (b : Bool) → b ≡ true → (member_after (it (Some f) p left) (cond b (verdict_alone (WritesWhole f) Accept) (verdict_alone (Keeps []) JournalFull)).work ≡ whole_of_it (Some f) p left)
        × ((cond b (verdict_alone (WritesWhole f) Accept) (verdict_alone (Keeps []) JournalFull)).reply ≡ None)
    by_test true is = (refl, refl)
    by_test false is = absurd (cc is)

acts_not : (o : Option Format) (p : Party) (left : Space) → IsTooLargeIn o p → IsAnswered o p left (it o p left)
acts_not None p left large_one = absurd large_one
acts_not (Some f) p left large_one = by_test (can_compact f p) (large f p large_one)
  where
    by_test : (b : Bool) → b ≡ false → (member_after (it (Some f) p left) (cond b (verdict_alone (WritesWhole f) Accept) (verdict_alone (Keeps []) JournalFull)).work ≡ it (Some f) p left)
        × ((cond b (verdict_alone (WritesWhole f) Accept) (verdict_alone (Keeps []) JournalFull)).reply ≡ None)
    by_test true is = absurd (cc is)
    by_test false is = (same_member (it (Some f) p left), refl)

-- it isn't too large, or isn't written
small_or_not : (o : Option Format) (p : Party) → (IsTooLargeIn o p → ⊥) ⊎ (FitsIn o p → ⊥)
small_or_not None p = inl (λ none. none)
small_or_not (Some f) p = by_test (can_compact f p) refl
  where
    by_test : (b : Bool) → can_compact f p ≡ b → (IsTooLarge f p → ⊥) ⊎ ((IsTooLarge f p → ⊥) → ⊥)
    by_test true is = inl (λ long. (let lie : false ≡ true = sym (large f p long) ∙ is in cc lie))
    by_test false is = inr (λ fits. (let lie : true ≡ false = sym (small f p fits) ∙ is in cc lie))

-- the action writes a party whole in the format that its own calls for
abbrev Rewrites : Action → (Format → Option Format) → Type 0
Rewrites action format = (n : ℕ) (w : World) (x : Member) (moment : ℕ) (c : Completion) → world_after_action n w x moment c action ≡ world_rewritten (format x.space.format) w x c

module _ (format : Format → Option Format) (action : Action) (gives : Rewrites action format) (p : Party) (left : Space) (moment : ℕ) (old new : View) where
  abbrev o : Option Format
  o = format left.format

  abbrev x : Member
  x = record { party = p; space = left }

  is_rewritten : (y : Member) (reply : Option (List ℕ)) → member_after x (rewriting o p).work ≡ y → (rewriting o p).reply ≡ reply → DiskStandsFor new y.party y.space → IsWholeCall x (event_at x moment action Whole) new reply
  is_rewritten y reply = whole_call x (rewriting o p) moment action (λ n w c. world_rewritten o w x c) (rewriting_is o x) (λ n w c. gives n w x moment c) y reply new

  rewritten_call : (reply : Option (List ℕ)) → IsRewritten old new o p left reply → IsWholeCall x (event_at x moment action Whole) new reply
  rewritten_call reply a = let acts = acts_whole o p left a.fits in is_rewritten (whole_of_it o p left) reply acts.0 (acts.1 ∙ sym a.nothing) a.stands

  unwritten_call : (said : Verdict) (reply : Option (List ℕ)) → IsNotRewritten old new o p left said reply → IsWholeCall x (event_at x moment action Whole) new reply
  unwritten_call said reply r = let acts = acts_not o p left r.too_large in is_rewritten x reply acts.0 (acts.1 ∙ sym r.nothing) r.stands

  cut_rewriting : (IsTooLargeIn o p → ⊥) → (image : List ℕ) → IsOldOrRewritten o p left image → IsCutCall x (event_at x moment action) image
  cut_rewriting fits image leaves =
      cut_call x (rewriting o p) moment action (λ n w c. world_rewritten o w x c) (rewriting_is o x) (λ n w c. gives n w x moment c) image
      (subst (λ (y : Member). IsOldOrNext x y image) (sym (acts_whole o p left fits).0) leaves)

  rewriting_cut : (image : List ℕ) → old.now ≡ Some image → StandsWith image p left → IsSafeRewriting format old new → LeavesOnly old new (OrBefore old (IsCutCall x (event_at x moment action)))
  rewriting_cut image now stood safe = elim (small_or_not o p) [
    | inl fits ↦
        leaves_more old new (OrBefore old (IsOldOrRewritten o p left)) (OrBefore old (IsCutCall x (event_at x moment action)))
        (or_before old (IsOldOrRewritten o p left) (IsCutCall x (event_at x moment action)) (cut_rewriting fits)) (safe.party image p left now stood)
    | inr unfit ↦
        leaves_more old new old.may_leave (OrBefore old (IsCutCall x (event_at x moment action))) (λ c was. inr was)
        (safe.still image p left now stood unfit).any_moment
  ]

-- an image stands for one party, with one space; it isn't blank then and has no damage
module _ (one_space : (image : List ℕ) (first second : Party) (s t : Space) → StandsWith image first s → StandsWith image second t → (first ≡ second) × (s ≡ t))
    (not_blank : (image : List ℕ) (party : Party) → Stands image party → is_blank image ≡ false)
    (undamaged : (image : List ℕ) (party : Party) (place : ℕ) → Stands image party → IsFirstDamage image place → ⊥) where
  -- what is told of the party that was opened is told of the one that stands, with its space
  of_party : (old : View) (P : Party → Space → Type 0) (image : List ℕ) (p : Party) (left : Space) → old.now ≡ Some image → StandsWith image p left → OfParty old P → P p left
  of_party old P image p left now stood is =
      let one = one_space image is.party p is.space left (is.reads image now) stood in
      subst (λ (s : Space). P p s) one.1 (subst (λ (q : Party). P q is.space) one.0 is.holds)

  of_own : (name : List ℕ) (old : View) (P : Party → Space → Type 0) → OfOwnParty name old P → OfParty old P
  of_own name old P is = record { party = is.party; space = is.space; reads = is.reads; holds = is.holds }

  somebody : {A : Type 0} (old new : View) (image : List ℕ) (p : Party) (left : Space) (said : Verdict) (reply : Option (List ℕ)) → old.now ≡ Some image → StandsWith image p left → IsNobody old new said reply → A
  somebody old new image p left said reply now stood none =
      let blank : is_blank image ≡ true = none.blank image now in
      let not : is_blank image ≡ false = not_blank image p (stands_so image p left stood) in
      absurd cc

  -- the party of the name has the turn
  own_call : (name : List ℕ) (old new : View) (i : Input) (moment : ℕ) (action : Action) (image : List ℕ) (p : Party) (left : Space) → Gives action i → old.now ≡ Some image → StandsWith image p left
      → p.own ≡ name → (o : Outcome) → TakesTurn name old new i moment o → AnswersWhole (record { party = p; space = left }) (event_at (record { party = p; space = left }) moment action Whole) new o
  own_call name old new i moment action image p left gives now stood own (outcome.Done reply) is =
      accepted_call p left i moment action gives old new reply (of_party old (λ q space. IsAccepted old new (decision q i moment) q space reply) image p left now stood (of_own name old _ is))
  own_call name old new i moment action image p left gives now stood own (outcome.Refused said reply) (inl is) =
      refused_call p left i moment action gives old new said reply (of_party old (λ q space. IsRefusedTurn old new (decision q i moment) q space said reply) image p left now stood (of_own name old _ is))
  own_call name old new i moment action image p left gives now stood own (outcome.Refused said reply) (inr none) = somebody old new image p left said reply now stood none
  own_call name old new i moment action image p left gives now stood own (outcome.OtherParty asked found) is =
      let other = of_party old (λ q space. IsOther old new name q space asked found) image p left now stood is in
      absurd (other.differs (other.stood ∙ own))
  own_call name old new i moment action image p left gives now stood own (outcome.Damaged place) is =
      absurd (undamaged image p place (stands_so image p left stood) (is.first image now))
  own_call name old new i moment action image p left gives now stood own outcome.Fault is = tt
  own_call name old new i moment action image p left gives now stood own outcome.NoMemory is = tt

  -- another party has none
  other_call : (name : List ℕ) (old new : View) (i : Input) (moment : ℕ) (image : List ℕ) (p : Party) → old.now ≡ Some image → Stands image p → p.own ≢ name
      → (o : Outcome) → TakesTurn name old new i moment o → AnswersOther name p.own o
  other_call name old new i moment image p now stood differs (outcome.Done reply) is =
      absurd (differs (subst (λ (q : Party). q.own ≡ name) (one_space image is.party p is.space (space_of image p stood) (is.reads image now) (stands_with image p stood)).0 is.own))
  other_call name old new i moment image p now stood differs (outcome.Refused said reply) (inl is) =
      absurd (differs (subst (λ (q : Party). q.own ≡ name) (one_space image is.party p is.space (space_of image p stood) (is.reads image now) (stands_with image p stood)).0 is.own))
  other_call name old new i moment image p now stood differs (outcome.Refused said reply) (inr none) =
      let blank : is_blank image ≡ true = none.blank image now in
      let not : is_blank image ≡ false = not_blank image p stood in
      absurd cc
  other_call name old new i moment image p now stood differs (outcome.OtherParty asked found) is =
      (is.holds.called, is.holds.stood ∙ ap (λ (q : Party). q.own) (one_space image is.party p is.space (space_of image p stood) (is.reads image now) (stands_with image p stood)).0)
  other_call name old new i moment image p now stood differs (outcome.Damaged place) is = absurd (undamaged image p place stood (is.first image now))
  other_call name old new i moment image p now stood differs outcome.Fault is = tt
  other_call name old new i moment image p now stood differs outcome.NoMemory is = tt

  pub turn_is_call : (name : List ℕ) (old new : View) (i : Input) (moment : ℕ) (action : Action) (o : Outcome) → Gives action i → TakesTurn name old new i moment o → IsSafe name old new i moment
      → IsNamedCall name old new action moment o
  turn_is_call name old new i moment action o gives turned safe = record {
    own = λ image p left now stood own. record {
      whole = own_call name old new i moment action image p left gives now stood own o turned;
      cut = turn_cut p left i moment action gives old new name image now stood safe;
    };
    other = λ image p now stood differs. (safe.still image p (space_of image p stood) now (stands_with image p stood) (λ keeps. differs keeps.own), other_call name old new i moment image p now stood differs o turned);
  }

  pub command_is_call : (name : List ℕ) (old new : View) (c : Command) (moment : ℕ) (o : Outcome) → TakesTurn name old new (Ordered c) moment o → IsSafe name old new (Ordered c) moment
      → IsNamedCall name old new (Orders c) moment o
  command_is_call name old new c moment o = turn_is_call name old new (Ordered c) moment (Orders c) o (λ n w x moment c. refl)

  pub arrival_is_call : (name : List ℕ) (old new : View) (bytes : List ℕ) (a : Arrival) (moment : ℕ) (o : Outcome) → TakesTurn name old new (Arrived a) moment o → IsSafe name old new (Arrived a) moment
      → IsNamedCall name old new (Hears bytes (Some a)) moment o
  arrival_is_call name old new bytes a moment o = turn_is_call name old new (Arrived a) moment (Hears bytes (Some a)) o (λ n w x moment c. refl)

  rewriting_is_call : (format : Format → Option Format) (action : Action) → Rewrites action format → (old new : View) (moment : ℕ) (o : Outcome) → RewritesParty format old new o → IsSafeRewriting format old new → IsCall old new action moment o
  rewriting_is_call format action gives old new moment o rewritten safe image p left now stood = record { whole = by_outcome o rewritten; cut = rewriting_cut format action gives p left moment old new image now stood safe }
    where
      by_outcome : (o : Outcome) → RewritesParty format old new o → AnswersWhole (record { party = p; space = left }) (event_at (record { party = p; space = left }) moment action Whole) new o
      by_outcome (outcome.Done reply) is =
          rewritten_call format action gives p left moment old new reply (of_party old (λ q space. IsRewritten old new (format space.format) q space reply) image p left now stood is)
      by_outcome (outcome.Refused said reply) (inl is) =
          unwritten_call format action gives p left moment old new said reply (of_party old (λ q space. IsNotRewritten old new (format space.format) q space said reply) image p left now stood is)
      by_outcome (outcome.Refused said reply) (inr none) = somebody old new image p left said reply now stood none
      by_outcome (outcome.OtherParty asked found) is = absurd is
      by_outcome (outcome.Damaged place) is = absurd (undamaged image p place (stands_so image p left stood) (is.first image now))
      by_outcome outcome.Fault is = tt
      by_outcome outcome.NoMemory is = tt

  pub compaction_is_call : (old new : View) (moment : ℕ) (o : Outcome) → CompactsParty old new o → IsSafeCompaction old new → IsCall old new Compacts moment o
  compaction_is_call = rewriting_is_call compacted_in Compacts (λ n w x moment c. refl)

  pub migration_is_call : (old new : View) (moment : ℕ) (o : Outcome) → MigratesParty old new o → IsSafeMigration old new → IsCall old new Migrates moment o
  migration_is_call = rewriting_is_call migrated_in Migrates (λ n w x moment c. refl)
