-- Each event of each run adds the uses and births that the text shows of which a code was made at it.
use Rattle.std.proofs.Common.{◌≡◌, ℕ, suc, Bool, true, false, cond, ◌&&◌, Option, Some, None, List, [], ◌∷◌, ◌++◌, map, refl, sym, ◌∙◌, ap, subst, append-nil}
use Rattle.party_state.specs.declared.command.Input.{Input}
use Rattle.party_state.specs.declared.command.Input.TheVariants as input
use Rattle.party_state.specs.State.{Party}
use Rattle.party_state.specs.Verdicts.{is_accept}
use Rattle.party_state.specs.Rows.{Row, Reply, Coded, Plain, Again, Use, Made}
use Rattle.role_base.specs.Differing.{differing}
use Rattle.change_code.specs.Cost.{fits, is_change, can_compact, space_of_whole}
use Rattle.change_code.specs.declared.format.Format.{Format}
use Rattle.member.specs.Member.{Member}
use Rattle.member.specs.Acts.{compacted_in, migrated_in}
use Rattle.member.specs.Rows.{row_at}
use Rattle.world_laws.specs.World.{World, Birth, member_at}
use Rattle.world_laws.specs.Events.{Action, Orders, Hears, Compacts, Migrates, Completion, Whole, CutOld, CutNew, Event, IsAction, AreEvents}
use Rattle.world_laws.specs.Steps.{received_text, facts_of, births_of, kk_use, member_after, world_after_row, world_with_answer, world_with_text, world_with_space, world_rewritten, world_after_input, world_after_action, step_at, step}
use Rattle.world_laws.specs.Starts.{Each, IsStart}
use Rattle.world_laws.specs.Shown.{message_uses, message_birth, Shows, AddsShown, AddsAt, UsesShown}
use Rattle.world_laws.proofs.Lists.Members.{each_on}
use Rattle.world_laws.proofs.Roles.Inputs.{IsInput}
use Rattle.world_laws.proofs.Links.Found.{HasLinks}
use Rattle.world_laws.proofs.Texts.Names.{IsNamed, change_named, party_named}
use Rattle.world_laws.proofs.Texts.Own.{own_meaning}
use Rattle.world_laws.proofs.Speaking.Wellformed.{Speaks, TellsEsm}
use Rattle.world_laws.proofs.Agreeing.Moves.{OwnReply}
use Rattle.world_laws.proofs.Agreeing.Roles.{row_speaks, row_tells}
use Rattle.world_laws.proofs.Counting.Roles.{row_left_out}
use Rattle.world_laws.proofs.Sound.TakesRows.{TakesMove, row_takes}
use Rattle.world_laws.proofs.Shown.Rows.{RowShows, reply_uses, reply_birth}
use Rattle.world_laws.proofs.Shown.Roles.{row_shows}

-- nothing is added
none_added : (n : ℕ) (w after : World) (x : Member) → after.facts ≡ w.facts → after.uses ≡ w.uses → after.births ≡ w.births → AddsShown n w after x
none_added n w after x facts uses births = record {
  facts = [];
  uses = [];
  born = [];
  facts_are = facts ∙ sym (append-nil w.facts);
  uses_are = uses ∙ sym (append-nil w.uses);
  born_are = births ∙ sym (append-nil w.births);
  shown = (refl, refl);
}

-- the fact of a reply shows what the row uses and makes
reply_shows : (n : ℕ) (p : Party) (births : List Birth) (o : Option Reply) (uses : List Use) (makes : Option Made) → OwnReply o → uses ≡ reply_uses p o → makes ≡ reply_birth o → Shows n p births (facts_of p.own o) (map (kk_use births p.own) uses) (births_of n p.own makes)
reply_shows n p births None uses makes own u b = (ap (map (kk_use births p.own)) u, ap (births_of n p.own) b)
reply_shows n p births (Some (Coded m under value)) uses makes own u b = (m, (own_meaning m own).says, ap (map (kk_use births p.own)) u, ap (births_of n p.own) b)
reply_shows n p births (Some (Plain m)) uses makes own u b = (ap (map (kk_use births p.own)) u, ap (births_of n p.own) b)
reply_shows n p births (Some (Again text)) uses makes own u b = (ap (map (kk_use births p.own)) u, ap (births_of n p.own) b)

-- an answer to a refusal shows none
answer_shows : (n : ℕ) (p : Party) (births : List Birth) (o : Option Reply) → TellsEsm o → Shows n p births (facts_of p.own o) [] []
answer_shows n p births None t = (refl, refl)
answer_shows n p births (Some (Coded m under value)) t =
    let uses : [] ≡ message_uses p m = ap (message_uses p) (sym t.1) in
    let birth : None ≡ message_birth m = ap message_birth (sym t.1) in
    (m, (own_meaning m t.2).says, ap (map (kk_use births p.own)) uses, ap (births_of n p.own) birth)
answer_shows n p births (Some (Plain m)) t = absurd t
answer_shows n p births (Some (Again text)) t = absurd t

-- what each moment of each run keeps
pub record Formed (p : Party) : Type 0 where
  pub links : HasLinks p
  pub named : IsNamed p

module _ (n : ℕ) (w : World) (p : List ℕ) (x : Member) (moment : ℕ) (j : Input) (e : IsInput j) (found : member_at p w.members ≡ Some x) (formed : Formed x.party) where
  abbrev row : Row
  row = row_at x.party j moment

  abbrev stood : World
  stood = world_after_row n w x.party.own (received_text j) (row_at x.party j moment) (member_after x (row_at x.party j moment))

  tells : TellsEsm (row_at x.party j moment).answer
  tells = row_tells x.party formed.named j moment e formed.links

  speaks : is_accept (row_at x.party j moment).verdict ≡ true → Speaks (row_at x.party j moment)
  speaks h = row_speaks x.party formed.named j moment e formed.links h

  row_adds : (after : World) → after.facts ≡ w.facts ++ facts_of x.party.own (row_at x.party j moment).reply → after.births ≡ w.births ++ births_of n x.party.own (row_at x.party j moment).makes → after.uses ≡ w.uses ++ map (kk_use after.births x.party.own) (row_at x.party j moment).uses → is_accept (row_at x.party j moment).verdict ≡ true → AddsShown n w after x
  row_adds after facts births uses h =
      let shows : RowShows x.party (row_at x.party j moment) = row_shows x.party j moment e formed.links in
      record {
        facts = facts_of x.party.own (row_at x.party j moment).reply;
        uses = map (kk_use after.births x.party.own) (row_at x.party j moment).uses;
        born = births_of n x.party.own (row_at x.party j moment).makes;
        facts_are = facts;
        uses_are = uses;
        born_are = births;
        shown = reply_shows n x.party after.births (row_at x.party j moment).reply (row_at x.party j moment).uses (row_at x.party j moment).makes (speaks h).reply shows.uses shows.birth;
      }

  answer_adds : AddsShown n w (world_with_text (world_with_answer w x.party.own (row_at x.party j moment)) (row_at x.party j moment).answer) x
  answer_adds = record {
    facts = facts_of x.party.own (row_at x.party j moment).answer;
    uses = [];
    born = [];
    facts_are = refl;
    uses_are = sym (append-nil w.uses);
    born_are = sym (append-nil w.births);
    shown = answer_shows n x.party w.births (row_at x.party j moment).answer tells;
  }

  same : AddsShown n w w x
  same = none_added n w w x refl refl refl

  pub input_adds : (how : Completion) → AddsShown n w (world_after_input n w x j moment how) x
  input_adds Whole = go (is_accept (row_at x.party j moment).verdict) refl (fits x.space (differing x.party (row_at x.party j moment).edits))
    where
      go : (b : Bool) → is_accept (row_at x.party j moment).verdict ≡ b → (d : Bool) → AddsShown n w (cond b (cond d (world_with_text (world_after_row n w x.party.own (received_text j) (row_at x.party j moment) (member_after x (row_at x.party j moment))) (row_at x.party j moment).reply) w) (world_with_text (world_with_answer w x.party.own (row_at x.party j moment)) (row_at x.party j moment).answer)) x
      go true h true = row_adds _ refl refl refl h
      go true h false = same
      go false h d = answer_adds
  input_adds CutOld = same
  input_adds CutNew = go (is_accept (row_at x.party j moment).verdict) refl (is_change (differing x.party (row_at x.party j moment).edits) && fits x.space (differing x.party (row_at x.party j moment).edits))
    where
      go : (b : Bool) → is_accept (row_at x.party j moment).verdict ≡ b → (d : Bool) → AddsShown n w (cond (b && d) (world_after_row n w x.party.own (received_text j) (row_at x.party j moment) (member_after x (row_at x.party j moment))) w) x
      go true h true = row_adds _ refl refl refl h
      go true h false = same
      go false h d = same

  -- and all parties stay formed

  moved : is_accept (row_at x.party j moment).verdict ≡ true → TakesMove x.party (member_after x (row_at x.party j moment)).party (received_text j) (row_at x.party j moment)
  moved h = row_takes x.party j moment e formed.links h

  still_formed : is_accept (row_at x.party j moment).verdict ≡ true → Formed (member_after x (row_at x.party j moment)).party
  still_formed h = record {
    links = (moved h).links formed.links;
    named = subst IsNamed (sym (row_left_out x.party j moment formed.links h)) (change_named (row_at x.party j moment).edits x.party (speaks h).names formed.named);
  }

  row_formed : is_accept (row_at x.party j moment).verdict ≡ true → Each (λ v. Formed v.party) w.members → Each (λ v. Formed v.party) stood.members
  row_formed h each = each_on w.members p x (member_after x (row_at x.party j moment)) found (moved h).grown.own (λ v. Formed v.party) each (λ f. still_formed h)

  pub input_formed : (how : Completion) → Each (λ v. Formed v.party) w.members → Each (λ v. Formed v.party) (world_after_input n w x j moment how).members
  input_formed Whole each = go (is_accept (row_at x.party j moment).verdict) refl (fits x.space (differing x.party (row_at x.party j moment).edits))
    where
      go : (b : Bool) → is_accept (row_at x.party j moment).verdict ≡ b → (d : Bool) → Each (λ v. Formed v.party) (cond b (cond d (world_with_text (world_after_row n w x.party.own (received_text j) (row_at x.party j moment) (member_after x (row_at x.party j moment))) (row_at x.party j moment).reply) w) (world_with_text (world_with_answer w x.party.own (row_at x.party j moment)) (row_at x.party j moment).answer)).members
      go true h true = row_formed h each
      go true h false = each
      go false h d = each
  input_formed CutOld each = each
  input_formed CutNew each = go (is_accept (row_at x.party j moment).verdict) refl (is_change (differing x.party (row_at x.party j moment).edits) && fits x.space (differing x.party (row_at x.party j moment).edits))
    where
      go : (b : Bool) → is_accept (row_at x.party j moment).verdict ≡ b → (d : Bool) → Each (λ v. Formed v.party) (cond (b && d) (world_after_row n w x.party.own (received_text j) (row_at x.party j moment) (member_after x (row_at x.party j moment))) w).members
      go true h true = row_formed h each
      go true h false = each
      go false h d = each

-- a compaction and a migration add nothing, and change no party

space_formed : (w : World) (p : List ℕ) (x : Member) (f : Format) → member_at p w.members ≡ Some x → Each (λ v. Formed v.party) w.members → Each (λ v. Formed v.party) (cond (can_compact f x.party) (world_with_space w x (space_of_whole f x.party)) w).members
space_formed w p x f found each = go (can_compact f x.party)
  where
    go : (b : Bool) → Each (λ v. Formed v.party) (cond b (world_with_space w x (space_of_whole f x.party)) w).members
    go true = each_on w.members p x (record { party = x.party; space = space_of_whole f x.party }) found refl (λ v. Formed v.party) each (λ d. d)
    go false = each

space_adds : (n : ℕ) (w : World) (x : Member) (f : Format) → AddsShown n w (cond (can_compact f x.party) (world_with_space w x (space_of_whole f x.party)) w) x
space_adds n w x f = go (can_compact f x.party)
  where
    go : (b : Bool) → AddsShown n w (cond b (world_with_space w x (space_of_whole f x.party)) w) x
    go true = none_added n w (world_with_space w x (space_of_whole f x.party)) x refl refl refl
    go false = none_added n w w x refl refl refl

rewritten_formed : (o : Option Format) (w : World) (p : List ℕ) (x : Member) (how : Completion) → member_at p w.members ≡ Some x → Each (λ v. Formed v.party) w.members → Each (λ v. Formed v.party) (world_rewritten o w x how).members
rewritten_formed None w p x how found each = each
rewritten_formed (Some f) w p x Whole found each = space_formed w p x f found each
rewritten_formed (Some f) w p x CutOld found each = each
rewritten_formed (Some f) w p x CutNew found each = space_formed w p x f found each

rewritten_adds : (o : Option Format) (n : ℕ) (w : World) (x : Member) (how : Completion) → AddsShown n w (world_rewritten o w x how) x
rewritten_adds None n w x how = none_added n w w x refl refl refl
rewritten_adds (Some f) n w x Whole = space_adds n w x f
rewritten_adds (Some f) n w x CutOld = none_added n w w x refl refl refl
rewritten_adds (Some f) n w x CutNew = space_adds n w x f

action_adds : (n : ℕ) (w : World) (p : List ℕ) (x : Member) (moment : ℕ) (how : Completion) (d : Action) → IsAction d → member_at p w.members ≡ Some x → Formed x.party → AddsShown n w (world_after_action n w x moment how d) x
action_adds n w p x moment how (Orders c) e found formed = input_adds n w p x moment (input.Ordered c) e found formed how
action_adds n w p x moment how (Hears bytes (Some a)) e found formed = input_adds n w p x moment (input.Arrived a) tt found formed how
action_adds n w p x moment how (Hears bytes None) e found formed = none_added n w w x refl refl refl
action_adds n w p x moment how Compacts e found formed = rewritten_adds (compacted_in x.space.format) n w x how
action_adds n w p x moment how Migrates e found formed = rewritten_adds (migrated_in x.space.format) n w x how

action_formed : (n : ℕ) (w : World) (p : List ℕ) (x : Member) (moment : ℕ) (how : Completion) (d : Action) → IsAction d → member_at p w.members ≡ Some x → Each (λ v. Formed v.party) w.members → Each (λ v. Formed v.party) (world_after_action n w x moment how d).members
action_formed n w p x moment how (Orders c) e found each = input_formed n w p x moment (input.Ordered c) e found (each p x found) how each
action_formed n w p x moment how (Hears bytes (Some a)) e found each = input_formed n w p x moment (input.Arrived a) tt found (each p x found) how each
action_formed n w p x moment how (Hears bytes None) e found each = each
action_formed n w p x moment how Compacts e found each = rewritten_formed (compacted_in x.space.format) w p x how found each
action_formed n w p x moment how Migrates e found each = rewritten_formed (migrated_in x.space.format) w p x how found each

step_adds : (n : ℕ) (w : World) (e : Event) → IsAction e.action → Each (λ v. Formed v.party) w.members → AddsAt n w (step n w e) (member_at e.party w.members)
step_adds n w e d each = go (member_at e.party w.members) refl
  where
    go : (o : Option Member) → member_at e.party w.members ≡ o → AddsAt n w (step_at n w e o) o
    go None h = refl
    go (Some x) h = action_adds n w e.party x e.moment e.completion e.action d h (each e.party x h)

step_formed : (n : ℕ) (w : World) (e : Event) → IsAction e.action → Each (λ v. Formed v.party) w.members → Each (λ v. Formed v.party) (step n w e).members
step_formed n w e d each = go (member_at e.party w.members) refl
  where
    go : (o : Option Member) → member_at e.party w.members ≡ o → Each (λ v. Formed v.party) (step_at n w e o).members
    go None h = each
    go (Some x) h = action_formed n w e.party x e.moment e.completion e.action d h each

run_shows : (es : List Event) (n : ℕ) (w : World) → AreEvents es → Each (λ v. Formed v.party) w.members → UsesShown n w es
run_shows [] n w d each = tt
run_shows (e ∷ es) n w d each = (step_adds n w e d.0 each, run_shows es (suc n) (step n w e) d.1 (step_formed n w e d.0 each))

pub uses_shown : (start : World) (events : List Event) → IsStart start → AreEvents events → UsesShown 1 start events
uses_shown start events s d = run_shows events 1 start d (λ p x h. record { links = (s.parties p x h).links_once; named = party_named x.party (s.parties p x h) (s.only_links p x h).keys (s.only_links p x h).exchanges })
