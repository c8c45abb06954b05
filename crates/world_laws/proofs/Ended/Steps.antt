-- Each event adds what is accepted at it.
use Rattle.std.proofs.Common.{◌≡◌, ℕ, Bool, true, false, cond, ◌&&◌, Option, Some, None, List, [], ◌∷◌, ◌++◌, refl, sym, ◌∙◌, ap, subst, append-nil}
use Rattle.std.specs.List.{filter}
use Rattle.party_state.specs.declared.command.Command.{Command}
use Rattle.party_state.specs.declared.decision.Lead.{Lead}
use Rattle.party_state.specs.declared.command.Input.{Input}
use Rattle.party_state.specs.declared.command.Input.TheVariants as input
use Rattle.party_state.specs.Verdicts.{is_accept}
use Rattle.party_state.specs.Rows.{Row}
use Rattle.role_base.specs.Differing.{differing}
use Rattle.change_code.specs.Cost.{fits, is_change, can_compact, space_of_whole}
use Rattle.change_code.specs.declared.format.Format.{Format}
use Rattle.member.specs.Member.{Member, plan_at, as_decided, as_full}
use Rattle.member.specs.Acts.{compacted_in, migrated_in}
use Rattle.member.specs.Deciding.{decision}
use Rattle.member.specs.Leads.{lead_in}
use Rattle.member.specs.Rows.{row_at}
use Rattle.world_laws.specs.World.{Acceptance, World, member_at}
use Rattle.world_laws.specs.Events.{Action, Orders, Hears, Compacts, Migrates, Completion, Whole, CutOld, CutNew, Event}
use Rattle.world_laws.specs.Steps.{received_text, acceptances_of, member_after, world_after_row, world_with_answer, world_with_text, world_with_space, world_rewritten, world_after_input, world_after_action, step, step_at}
use Rattle.world_laws.specs.Answered.{is_key_or_end, keys_and_ends, stands, AcceptancesAdded}
use Rattle.world_laws.proofs.Nodes.Binding.{decided, planned}
use Rattle.world_laws.proofs.Ended.Rows.{input_acceptances, row_accepts}

pub filter_both : (f : Acceptance → Bool) (front more : List Acceptance) → filter f (front ++ more) ≡ filter f front ++ filter f more
filter_both f [] more = refl
filter_both f (a ∷ front) more = go (f a) (filter_both f front more)
  where
    go : (b : Bool) → filter f (front ++ more) ≡ filter f front ++ filter f more → cond b (a ∷ filter f (front ++ more)) (filter f (front ++ more)) ≡ cond b (a ∷ filter f front) (filter f front) ++ filter f more
    go true ih = ap (λ (l : List Acceptance). a ∷ l) ih
    go false ih = ih

-- whether an accepted row stands, by its plan and by its change
module _ (x : Member) (text : List ℕ) (r : Row) (l : Option Lead) where
  whole_stands : (b : Bool) → is_accept r.verdict ≡ b → is_accept (planned x text r l b).verdict ≡ (b && fits x.space (differing x.party r.edits))
  whole_stands false h = h
  whole_stands true h = go (fits x.space (differing x.party r.edits))
    where
      go : (c : Bool) → is_accept (cond c (as_decided l (decided x text r l true)) (as_full l)).verdict ≡ (true && c)
      go true = h
      go false = refl

  new_stands : (b : Bool) → is_accept r.verdict ≡ b → (is_accept (planned x text r l b).verdict && is_change (planned x text r l b).edits) ≡ (b && (is_change (differing x.party r.edits) && fits x.space (differing x.party r.edits)))
  new_stands false h = rw h refl
  new_stands true h = go (fits x.space (differing x.party r.edits))
    where
      fit : (d : Bool) → d ≡ (d && true)
      fit true = refl
      fit false = refl

      unfit : (d : Bool) → false ≡ (d && false)
      unfit true = refl
      unfit false = refl

      go : (c : Bool) → (is_accept (cond c (as_decided l (decided x text r l true)) (as_full l)).verdict && is_change (cond c (as_decided l (decided x text r l true)) (as_full l)).edits) ≡ (true && (is_change (differing x.party r.edits) && c))
      go true = rw h (fit (is_change (differing x.party r.edits)))
      go false = unfit (is_change (differing x.party r.edits))

module _ (n : ℕ) (w : World) (x : Member) (i : Input) (moment : ℕ) where
  abbrev kept : World
  kept = world_after_row n w x.party.own (received_text i) (row_at x.party i moment) (member_after x (row_at x.party i moment))

  abbrev Adds : World → Bool → Type 0
  Adds after t = keys_and_ends after.acceptances ≡ keys_and_ends w.acceptances ++ cond t (input_acceptances x.party i) []

  row_adds : is_accept (row_at x.party i moment).verdict ≡ true → Adds kept true
  row_adds h = filter_both (λ a. is_key_or_end a.class) w.acceptances (acceptances_of x.party.own (received_text i) (row_at x.party i moment).accepts) ∙ ap (λ (l : List Acceptance). keys_and_ends w.acceptances ++ l) (row_accepts x.party i moment h)

  same : Adds w false
  same = sym (append-nil (keys_and_ends w.acceptances))

  whole_adds : (b : Bool) → is_accept (row_at x.party i moment).verdict ≡ b → (c : Bool) → Adds (cond b (cond c (world_with_text kept (row_at x.party i moment).reply) w) (world_with_text (world_with_answer w x.party.own (row_at x.party i moment)) (row_at x.party i moment).answer)) (b && c)
  whole_adds true h true = row_adds h
  whole_adds true h false = same
  whole_adds false h c = same

  new_adds : (b : Bool) → is_accept (row_at x.party i moment).verdict ≡ b → (d : Bool) → Adds (cond (b && d) kept w) (b && d)
  new_adds true h true = row_adds h
  new_adds true h false = same
  new_adds false h d = same

  pub input_adds : (how : Completion) → Adds (world_after_input n w x i moment how) (stands (plan_at x i moment) how)
  unfolding decision
  input_adds Whole =
      subst (Adds (world_after_input n w x i moment Whole)) (sym (whole_stands x (received_text i) (row_at x.party i moment) (lead_in x.party i) (is_accept (row_at x.party i moment).verdict) refl))
      (whole_adds (is_accept (row_at x.party i moment).verdict) refl (fits x.space (differing x.party (row_at x.party i moment).edits)))
  input_adds CutOld = same
  input_adds CutNew =
      subst (Adds (world_after_input n w x i moment CutNew)) (sym (new_stands x (received_text i) (row_at x.party i moment) (lead_in x.party i) (is_accept (row_at x.party i moment).verdict) refl))
      (new_adds (is_accept (row_at x.party i moment).verdict) refl (is_change (differing x.party (row_at x.party i moment).edits) && fits x.space (differing x.party (row_at x.party i moment).edits)))

-- a command accepts none
unchanged : (n : ℕ) (w : World) (x : Member) (c : Command) (moment : ℕ) (how : Completion) → keys_and_ends (world_after_input n w x (input.Ordered c) moment how).acceptances ≡ keys_and_ends w.acceptances
unchanged n w x c moment how = input_adds n w x (input.Ordered c) moment how ∙ none (stands (plan_at x (input.Ordered c) moment) how)
  where
    none : (t : Bool) → keys_and_ends w.acceptances ++ cond t [] [] ≡ keys_and_ends w.acceptances
    none true = append-nil (keys_and_ends w.acceptances)
    none false = append-nil (keys_and_ends w.acceptances)

rewritten : (o : Option Format) (w : World) (x : Member) (how : Completion) → keys_and_ends (world_rewritten o w x how).acceptances ≡ keys_and_ends w.acceptances
rewritten None w x how = refl
rewritten (Some f) w x Whole = go (can_compact f x.party)
  where
    go : (b : Bool) → keys_and_ends (cond b (world_with_space w x (space_of_whole f x.party)) w).acceptances ≡ keys_and_ends w.acceptances
    go true = refl
    go false = refl
rewritten (Some f) w x CutOld = refl
rewritten (Some f) w x CutNew = go (can_compact f x.party)
  where
    go : (b : Bool) → keys_and_ends (cond b (world_with_space w x (space_of_whole f x.party)) w).acceptances ≡ keys_and_ends w.acceptances
    go true = refl
    go false = refl

action_adds : (n : ℕ) (w : World) (x : Member) (moment : ℕ) (how : Completion) (d : Action) → AcceptancesAdded w (world_after_action n w x moment how d) x moment how d
action_adds n w x moment how (Orders c) = unchanged n w x c moment how
action_adds n w x moment how (Hears bytes (Some a)) = input_adds n w x (input.Arrived a) moment how
action_adds n w x moment how (Hears bytes None) = refl
action_adds n w x moment how Compacts = rewritten (compacted_in x.space.format) w x how
action_adds n w x moment how Migrates = rewritten (migrated_in x.space.format) w x how

pub acceptances_added : (n : ℕ) (w : World) (e : Event) (x : Member) → member_at e.party w.members ≡ Some x → AcceptancesAdded w (step n w e) x e.moment e.completion e.action
acceptances_added n w e x at = subst (λ (o : Option Member). AcceptancesAdded w (step_at n w e o) x e.moment e.completion e.action) (sym at) (action_adds n w x e.moment e.completion e.action)
