-- Each key service message takes effect at most once, of every run: nothing of the start is asked but that no key is twice
-- in a table of links, and that nothing was accepted.
use Rattle.std.proofs.Common.{arith, ◌≡◌, ℕ, suc, Bool, true, false, cond, ◌&&◌, Option, Some, None, List, [], ◌∷◌, refl, bytes_eq, All, AllPairs}
use Rattle.std.proofs.lemmas.List.Elements.{All-weaker, All-nil, All-same}
use Rattle.party_tables.specs.Tables.{put_row}
use Rattle.party_state.specs.declared.command.Input.{Input}
use Rattle.party_state.specs.declared.command.Input.TheVariants as input
use Rattle.party_state.specs.Verdicts.{is_accept}
use Rattle.party_state.specs.Rows.{Row}
use Rattle.role_base.specs.Differing.{differing}
use Rattle.change_code.specs.Cost.{fits, is_change, can_compact, space_of_whole}
use Rattle.change_code.specs.declared.format.Format.{Format}
use Rattle.member.specs.Member.{Member}
use Rattle.member.specs.Acts.{compacted_in, migrated_in}
use Rattle.member.specs.Rows.{row_at}
use Rattle.world_laws.specs.World.{World, Acceptance, own_of, member_at}
use Rattle.world_laws.specs.Events.{Action, Orders, Hears, Compacts, Migrates, Completion, Whole, CutOld, CutNew, Event, IsAction, AreEvents}
use Rattle.world_laws.specs.Steps.{received_text, member_after, world_after_row, world_with_answer, world_with_text, world_by_row, world_with_space, world_rewritten, world_after_input, world_after_action, step_at, step, run}
use Rattle.world_laws.specs.Starts.{Each, HasAcceptedNothing}
use Rattle.world_laws.specs.Laws.{Once, AcceptedApart}
use Rattle.world_laws.proofs.Lists.Members.{each_on}
use Rattle.world_laws.proofs.Roles.Inputs.{IsInput}
use Rattle.world_laws.proofs.Links.Found.{HasLinks}
use Rattle.world_laws.proofs.Links.Taking.{takes_stay}
use Rattle.world_laws.proofs.Counting.Accepting.{AcceptedBelow, ksm_on, kept_accepted, kept_once}
use Rattle.world_laws.proofs.Sound.TakesRows.{TakesMove, row_takes}

-- what each moment of each run keeps
record Accepting (ms : List Member) (accs : List Acceptance) : Type 0 where
  pub links : Each (λ x. HasLinks x.party) ms
  pub accepted : All (AcceptedBelow ms) accs
  pub once : AllPairs AcceptedApart accs

abbrev AcceptingAt : World → Type 0
AcceptingAt w = Accepting w.members w.acceptances

kept_accepting : (n : ℕ) (w : World) (p : List ℕ) (x y : Member) (text : List ℕ) (r : Row) → member_at p w.members ≡ Some x → TakesMove x.party y.party text r → AcceptingAt w → AcceptingAt (world_after_row n w x.party.own text r y)
kept_accepting n w p x y text r found m i = record {
  links = each_on w.members p x y found m.grown.own (λ v. HasLinks v.party) i.links m.links;
  accepted = kept_accepted w.members p x y text found m.grown w.acceptances r.accepts m.accepts i.accepted;
  once = kept_once w.members p x y text found m.grown w.acceptances i.links r.accepts m.accepts i.accepted i.once;
}

space_accepting : (w : World) (p : List ℕ) (x : Member) (f : Format) → member_at p w.members ≡ Some x → AcceptingAt w → AcceptingAt (cond (can_compact f x.party) (world_with_space w x (space_of_whole f x.party)) w)
space_accepting w p x f found i = go (can_compact f x.party)
  where
    y : Member
    y = record { party = x.party; space = space_of_whole f x.party }

    go : (b : Bool) → AcceptingAt (cond b (world_with_space w x (space_of_whole f x.party)) w)
    go true = record {
      links = each_on w.members p x y found refl (λ v. HasLinks v.party) i.links (λ d. d);
      accepted = All-weaker (AcceptedBelow w.members) (AcceptedBelow (put_row own_of bytes_eq y w.members)) (ksm_on w.members p x y [] found (takes_stay x.party x.party refl refl)) w.acceptances i.accepted;
      once = i.once;
    }
    go false = i

rewritten_accepting : (o : Option Format) (w : World) (p : List ℕ) (x : Member) (how : Completion) → member_at p w.members ≡ Some x → AcceptingAt w → AcceptingAt (world_rewritten o w x how)
rewritten_accepting None w p x how found i = i
rewritten_accepting (Some f) w p x Whole found i = space_accepting w p x f found i
rewritten_accepting (Some f) w p x CutOld found i = i
rewritten_accepting (Some f) w p x CutNew found i = space_accepting w p x f found i

turned_accepting : (n : ℕ) (w : World) (p : List ℕ) (x : Member) (text : List ℕ) (r : Row) (how : Completion) → member_at p w.members ≡ Some x → (is_accept r.verdict ≡ true → TakesMove x.party (member_after x r).party text r) → AcceptingAt w → AcceptingAt (world_by_row n w x text r how)
turned_accepting n w p x text r Whole found sound i = go (is_accept r.verdict) refl (fits x.space (differing x.party r.edits))
  where
    go : (b : Bool) → is_accept r.verdict ≡ b → (d : Bool) → AcceptingAt (cond b (cond d (world_with_text (world_after_row n w x.party.own text r (member_after x r)) r.reply) w) (world_with_text (world_with_answer w x.party.own r) r.answer))
    go true e true = kept_accepting n w p x (member_after x r) text r found (sound e) i
    go true e false = i
    go false e d = i
turned_accepting n w p x text r CutOld found sound i = i
turned_accepting n w p x text r CutNew found sound i = go (is_accept r.verdict) refl (is_change (differing x.party r.edits) && fits x.space (differing x.party r.edits))
  where
    go : (b : Bool) → is_accept r.verdict ≡ b → (d : Bool) → AcceptingAt (cond (b && d) (world_after_row n w x.party.own text r (member_after x r)) w)
    go true e true = kept_accepting n w p x (member_after x r) text r found (sound e) i
    go true e false = i
    go false e d = i

input_accepting : (n : ℕ) (w : World) (p : List ℕ) (x : Member) (j : Input) (moment : ℕ) (how : Completion) → IsInput j → member_at p w.members ≡ Some x → AcceptingAt w → AcceptingAt (world_after_input n w x j moment how)
input_accepting n w p x j moment how e found i = turned_accepting n w p x (received_text j) (row_at x.party j moment) how found (λ h. row_takes x.party j moment e (i.links p x found) h) i

action_accepting : (n : ℕ) (w : World) (p : List ℕ) (x : Member) (moment : ℕ) (how : Completion) (d : Action) → IsAction d → member_at p w.members ≡ Some x → AcceptingAt w → AcceptingAt (world_after_action n w x moment how d)
action_accepting n w p x moment how (Orders c) e found i = input_accepting n w p x (input.Ordered c) moment how e found i
action_accepting n w p x moment how (Hears bytes (Some a)) e found i = input_accepting n w p x (input.Arrived a) moment how tt found i
action_accepting n w p x moment how (Hears bytes None) e found i = i
action_accepting n w p x moment how Compacts e found i = rewritten_accepting (compacted_in x.space.format) w p x how found i
action_accepting n w p x moment how Migrates e found i = rewritten_accepting (migrated_in x.space.format) w p x how found i

step_accepting : (n : ℕ) (w : World) (e : Event) → IsAction e.action → AcceptingAt w → AcceptingAt (step n w e)
step_accepting n w e d i = go (member_at e.party w.members) refl
  where
    go : (o : Option Member) → member_at e.party w.members ≡ o → AcceptingAt (step_at n w e o)
    go None h = i
    go (Some x) h = action_accepting n w e.party x e.moment e.completion e.action d h i

run_accepting : (es : List Event) (n : ℕ) (w : World) → AreEvents es → AcceptingAt w → AcceptingAt (run n w es)
run_accepting [] n w d i = i
run_accepting (e ∷ es) n w d i = run_accepting es (suc n) (step n w e) d.1 (step_accepting n w e d.0 i)

pub once : (start : World) (events : List Event) → HasAcceptedNothing start → AreEvents events → Once (run 1 start events)
once start events s e = (run_accepting events 1 start e (record {
  links = s.links;
  accepted = All-same (AcceptedBelow start.members) start.acceptances [] s.acceptances (All-nil (AcceptedBelow start.members));
  once = rw s.acceptances (λ i j d l m. absurd (omega arith));
})).once
