-- What a call that failed leaves.
use Rattle.std.proofs.Common.{◌≡◌, ℕ, inl, inr, Bool, cond, Option, Some, None, List, [], ◌∷◌, refl, sym, ◌∙◌, ap, subst}
use Rattle.x_disk.specs.Disk.{View, Tells, IsSound}
use Rattle.csm_grammar.specs.declared.arrival.Arrival.{Arrival}
use Rattle.party_tables.proofs.Keys.{test_idents}
use Rattle.party_tables.proofs.Tables.{one_found, same_is}
use Rattle.party_state.specs.declared.command.Command.{Command}
use Rattle.party_state.specs.declared.command.Input.TheVariants as input
use Rattle.change_code.specs.declared.format.Format.{Format}
use Rattle.key_store.specs.Store.{StandsWith}
use Rattle.member.specs.Member.{Member}
use Rattle.member.specs.Acts.{compacted_in, migrated_in}
use Rattle.x_party.specs.Images.{DiskStandsFor, OrBefore}
use Rattle.x_party.specs.Outcomes.{TakesTurn, IsSafe, CompactsParty, MigratesParty, IsSafeCompaction, IsSafeMigration}
use Rattle.x_party.specs.declared.outcome.Outcome.{Outcome}
use Rattle.world_laws.specs.World.{World, HasMember, member_at}
use Rattle.world_laws.specs.Events.{Action, Orders, Hears, Compacts, Migrates, Completion, Whole, CutOld, CutNew, IsCutOff}
use Rattle.world_laws.specs.Steps.{world_after_action, world_rewritten, step, step_at}
use Rattle.call_laws.specs.Calls.{event_at, InEveryNetwork, IsCall, IsNamedCall, IsCallEvent, IsCutCall}
use Rattle.call_laws.specs.Sessions.{IsMade}
use Rattle.call_laws.specs.Failing.{IsOldOrAfter, IsLeft}
use Rattle.call_laws.proofs.Disks.{tells_now}

module _ (x : Member) (moment : ℕ) where
  -- a network of one member
  abbrev alone : World
  alone = record { members = x ∷ []; texts = []; facts = []; births = []; uses = []; acceptances = [] }

  alone_at : member_at x.party.own alone.members ≡ Some x
  alone_at = ap (λ (b : Bool). cond {A = Option Member} b (Some x) None) (same_is test_idents x.party.own)

  rewritten_old : (o : Option Format) → world_rewritten o alone x CutOld ≡ alone
  rewritten_old None = refl
  rewritten_old (Some f) = refl

  -- cut off with the old state, an event changes nothing
  action_old : (action : Action) → world_after_action 0 alone x moment CutOld action ≡ alone
  action_old (Orders c) = refl
  action_old (Hears bytes (Some a)) = refl
  action_old (Hears bytes None) = refl
  action_old Compacts = rewritten_old (compacted_in x.space.format)
  action_old Migrates = rewritten_old (migrated_in x.space.format)

  step_old : (action : Action) → step 0 alone (event_at x moment action CutOld) ≡ alone
  step_old action = ap (λ (o : Option Member). step_at 0 alone (event_at x moment action CutOld) o) alone_at ∙ action_old action

  cut_old : (action : Action) (image : List ℕ) → HasMember (step 0 alone (event_at x moment action CutOld)) x.party.own (StandsWith image) → StandsWith image x.party x.space
  cut_old action image h =
      let here : HasMember alone x.party.own (StandsWith image) = subst (λ (w : World). HasMember w x.party.own (StandsWith image)) (step_old action) h in
      let same : here.member ≡ x = one_found here.member x here.at alone_at in
      subst (λ (y : Member). StandsWith image y.party y.space) same here.holds

  -- an image that a crash leaves of a call
  image_left : (action : Action) (old : View) (image : List ℕ) → Tells old → DiskStandsFor old x.party x.space → OrBefore old (IsCutCall x (event_at x moment action)) image → IsOldOrAfter x (event_at x moment action) image
  image_left action old image tells stood left = elim left [
    | inl c ↦ cut c c.completion refl
    | inr was ↦ (let now = tells_now old tells in
        let is : image ≡ now.0 = stood.durable.only now.0 image now.1 was in
        inl (subst (λ (b : List ℕ). StandsWith b x.party x.space) (sym is) (stood.reads now.0 now.1)))
  ]
    where
      cut : (c : IsCutCall x (event_at x moment action) image) (completion : Completion) → c.completion ≡ completion → IsOldOrAfter x (event_at x moment action) image
      cut c Whole is = absurd (subst IsCutOff is c.cut)
      cut c CutOld is = inl (cut_old action image (subst (λ (d : Completion). HasMember (step 0 alone (event_at x moment action d)) x.party.own (StandsWith image)) is (c.stands 0 alone alone_at)))
      cut c CutNew is = inr (subst (λ (d : Completion). InEveryNetwork x (event_at x moment action d) (λ w after. HasMember after x.party.own (StandsWith image))) is c.stands)

  -- what is left in the end
  pub call_left : (action : Action) (o : Outcome) (old new : View) → IsSound new → Tells old → DiskStandsFor old x.party x.space → IsCallEvent x (event_at x moment action) old new o → IsLeft x (event_at x moment action) new
  call_left action o old new sound tells stood is = record { reads = λ image now. leaves image (sound.now_among image now); leaves = leaves }
    where
      leaves : (image : List ℕ) → new.may_leave image → IsOldOrAfter x (event_at x moment action) image
      leaves image left = image_left action old image tells stood (is.cut.each image (sound.counts_now old.moment image is.cut.later left))

module _ (name : List ℕ) (old new : View)
    (commands : (c : Command) (moment : ℕ) (o : Outcome) → TakesTurn name old new (input.Ordered c) moment o → IsSafe name old new (input.Ordered c) moment → IsNamedCall name old new (Orders c) moment o)
    (arrivals : (bytes : List ℕ) (a : Arrival) (moment : ℕ) (o : Outcome) → TakesTurn name old new (input.Arrived a) moment o → IsSafe name old new (input.Arrived a) moment → IsNamedCall name old new (Hears bytes (Some a)) moment o)
    (compactions : (moment : ℕ) (o : Outcome) → CompactsParty old new o → IsSafeCompaction old new → IsCall old new Compacts moment o)
    (migrations : (moment : ℕ) (o : Outcome) → MigratesParty old new o → IsSafeMigration old new → IsCall old new Migrates moment o) where
  made_is_call : (x : Member) (action : Action) (moment : ℕ) (o : Outcome) → x.party.own ≡ name → IsMade name action moment o old new → (image : List ℕ) → old.now ≡ Some image → StandsWith image x.party x.space
      → IsCallEvent x (event_at x moment action) old new o
  made_is_call x (Orders c) moment o own m image now stood = (commands c moment o m.0 m.1).own image x.party x.space now stood own
  made_is_call x (Hears bytes (Some a)) moment o own m image now stood = (arrivals bytes a moment o m.0 m.1).own image x.party x.space now stood own
  made_is_call x (Hears bytes None) moment o own m image now stood = absurd m
  made_is_call x Compacts moment o own m image now stood = compactions moment o m.0 m.1 image x.party x.space now stood
  made_is_call x Migrates moment o own m image now stood = migrations moment o m.0 m.1 image x.party x.space now stood

  pub made_left : (x : Member) (action : Action) (moment : ℕ) (o : Outcome) → x.party.own ≡ name → IsMade name action moment o old new → IsSound new → Tells old → DiskStandsFor old x.party x.space → IsLeft x (event_at x moment action) new
  made_left x action moment o own m sound tells stood =
      let now = tells_now old tells in
      call_left x moment action o old new sound tells stood (made_is_call x action moment o own m now.0 now.1 (stood.reads now.0 now.1))
