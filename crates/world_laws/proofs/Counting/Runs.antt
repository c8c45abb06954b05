-- The first two laws, of every run.
use Rattle.std.proofs.Common.{arith, ◌≡◌, ℕ, suc, ◌<◌, Bool, true, false, cond, ◌&&◌, Option, Some, None, List, [], ◌∷◌, refl, subst, bytes_eq}
use Rattle.std.proofs.lemmas.List.Elements.{All-weaker, All-nil, All-same}
use Rattle.party_tables.specs.declared.exchange.Exchange.{Exchange}
use Rattle.party_tables.specs.Tables.{find_row}
use Rattle.party_tables.specs.Keys.{exchange_key}
use Rattle.party_state.specs.Verdicts.{is_accept}
use Rattle.party_state.specs.Rows.{Row}
use Rattle.role_base.specs.Differing.{differing}
use Rattle.member.specs.Member.{Member}
use Rattle.member.specs.Acts.{compacted_in, migrated_in}
use Rattle.world_laws.specs.World.{World, Birth, member_at}
use Rattle.member.specs.Rows.{row_at}
use Rattle.change_code.specs.Cost.{fits, is_change, can_compact, space_of_whole}
use Rattle.change_code.specs.declared.format.Format.{Format}
use Rattle.party_state.specs.declared.command.Input.{Input}
use Rattle.party_state.specs.declared.command.Input.TheVariants as input
use Rattle.world_laws.proofs.Roles.Inputs.{IsInput}
use Rattle.world_laws.specs.Events.{Action, Orders, Hears, Compacts, Migrates, Completion, Whole, CutOld, CutNew, Event, IsAction, AreEvents}
use Rattle.world_laws.specs.Steps.{received_text, member_after, world_after_row, world_with_answer, world_with_text, world_by_row, world_with_space, world_rewritten, world_after_input, world_after_action, step_at, step, run}
use Rattle.world_laws.specs.Starts.{IsBareStart, IsStart}
use Rattle.world_laws.specs.Laws.{OneKeyPerCount}
use Rattle.world_laws.proofs.Counting.Sound.{SomeMoves}
use Rattle.world_laws.proofs.Counting.Accepting.{AcceptedBelow}
use Rattle.world_laws.proofs.Counting.Counts.{UseBelow, CountedAt, kept_counted}
use Rattle.world_laws.proofs.Counting.Spaces.{space_counted}
use Rattle.world_laws.proofs.Counting.Roles.{row_moves}

-- an event that leaves the members and the lists
later : (n : ℕ) (w : World) → CountedAt n w → CountedAt (suc n) w
later n w i = record {
  positive = omega arith;
  links = i.links;
  waits = i.waits;
  births = All-weaker (λ (b : Birth). b.event < n) (λ b. b.event < suc n) (λ b h. omega arith) w.births i.births;
  below = All-weaker (UseBelow n w.births w.members) (UseBelow (suc n) w.births w.members) (λ u b. record { born = omega (arith, b.born); below = b.below }) w.uses i.below;
  apart = i.apart;
  accepted = i.accepted;
  once = i.once;
}

turned_counted : (n : ℕ) (w : World) (p : List ℕ) (x : Member) (text : List ℕ) (r : Row) (how : Completion) → member_at p w.members ≡ Some x → (is_accept r.verdict ≡ true → SomeMoves x.party (member_after x r).party text r) → CountedAt n w → CountedAt (suc n) (world_by_row n w x text r how)
turned_counted n w p x text r Whole found sound i = go (is_accept r.verdict) refl (fits x.space (differing x.party r.edits))
  where
    go : (b : Bool) → is_accept r.verdict ≡ b → (d : Bool) → CountedAt (suc n) (cond b (cond d (world_with_text (world_after_row n w x.party.own text r (member_after x r)) r.reply) w) (world_with_text (world_with_answer w x.party.own r) r.answer))
    go true e true = (let m = sound e in kept_counted m.new n w p x (member_after x r) text r found m.moves i)
    go true e false = later n w i
    go false e d = later n w i
turned_counted n w p x text r CutOld found sound i = later n w i
turned_counted n w p x text r CutNew found sound i = go (is_accept r.verdict) refl (is_change (differing x.party r.edits) && fits x.space (differing x.party r.edits))
  where
    go : (b : Bool) → is_accept r.verdict ≡ b → (d : Bool) → CountedAt (suc n) (cond (b && d) (world_after_row n w x.party.own text r (member_after x r)) w)
    go true e true = (let m = sound e in kept_counted m.new n w p x (member_after x r) text r found m.moves i)
    go true e false = later n w i
    go false e d = later n w i

whole_later : (n : ℕ) (w : World) (p : List ℕ) (x : Member) (f : Format) → member_at p w.members ≡ Some x → CountedAt n w → CountedAt (suc n) (cond (can_compact f x.party) (world_with_space w x (space_of_whole f x.party)) w)
whole_later n w p x f found i = go (can_compact f x.party)
  where
    go : (b : Bool) → CountedAt (suc n) (cond b (world_with_space w x (space_of_whole f x.party)) w)
    go true = later n (world_with_space w x (space_of_whole f x.party)) (space_counted n w p x (space_of_whole f x.party) found i)
    go false = later n w i

rewritten_counted : (o : Option Format) (n : ℕ) (w : World) (p : List ℕ) (x : Member) (how : Completion) → member_at p w.members ≡ Some x → CountedAt n w → CountedAt (suc n) (world_rewritten o w x how)
rewritten_counted None n w p x how found i = later n w i
rewritten_counted (Some f) n w p x Whole found i = whole_later n w p x f found i
rewritten_counted (Some f) n w p x CutOld found i = later n w i
rewritten_counted (Some f) n w p x CutNew found i = whole_later n w p x f found i

taken_counted : (n : ℕ) (w : World) (p : List ℕ) (x : Member) (j : Input) (moment : ℕ) (how : Completion) → IsInput j → member_at p w.members ≡ Some x → CountedAt n w → CountedAt (suc n) (world_after_input n w x j moment how)
taken_counted n w p x j moment how e found i = turned_counted n w p x (received_text j) (row_at x.party j moment) how found (λ h. row_moves x.party j moment e (i.links p x found) (i.waits p x found) h) i

done_counted : (n : ℕ) (w : World) (p : List ℕ) (x : Member) (moment : ℕ) (how : Completion) (d : Action) → IsAction d → member_at p w.members ≡ Some x → CountedAt n w → CountedAt (suc n) (world_after_action n w x moment how d)
done_counted n w p x moment how (Orders c) e found i = taken_counted n w p x (input.Ordered c) moment how e found i
done_counted n w p x moment how (Hears bytes (Some a)) e found i = taken_counted n w p x (input.Arrived a) moment how tt found i
done_counted n w p x moment how (Hears bytes None) e found i = later n w i
done_counted n w p x moment how Compacts e found i = rewritten_counted (compacted_in x.space.format) n w p x how found i
done_counted n w p x moment how Migrates e found i = rewritten_counted (migrated_in x.space.format) n w p x how found i

pub step_counted : (n : ℕ) (w : World) (e : Event) → IsAction e.action → CountedAt n w → CountedAt (suc n) (step n w e)
step_counted n w e d i = go (member_at e.party w.members) refl
  where
    go : (o : Option Member) → member_at e.party w.members ≡ o → CountedAt (suc n) (step_at n w e o)
    go None h = later n w i
    go (Some x) h = done_counted n w e.party x e.moment e.completion e.action d h i

-- what holds at some number, at the end
pub record AtEnd (w : World) : Type 0 where
  pub number : ℕ
  pub counted : CountedAt number w

pub run_counted : (es : List Event) (n : ℕ) (w : World) → AreEvents es → CountedAt n w → AtEnd (run n w es)
run_counted [] n w d i = record { number = n; counted = i }
run_counted (e ∷ es) n w d i = run_counted es (suc n) (step n w e) d.1 (step_counted n w e d.0 i)

pub bare_counted : (w : World) → IsBareStart w → CountedAt 1 w
bare_counted w s = record {
  positive = omega arith;
  links = s.accepted.links;
  waits = λ p x h peer e found. (let none = subst (λ (es : List Exchange). find_row exchange_key bytes_eq peer es ≡ Some e) (s.exchanges p x h) found in absurd (cc));
  births = All-same (λ (b : Birth). b.event < 1) w.births [] s.births (All-nil (λ (b : Birth). b.event < 1));
  below = All-same (UseBelow 1 w.births w.members) w.uses [] s.uses (All-nil (UseBelow 1 w.births w.members));
  apart = rw s.uses (λ i j d l m. absurd (omega arith));
  accepted = All-same (AcceptedBelow w.members) w.acceptances [] s.accepted.acceptances (All-nil (AcceptedBelow w.members));
  once = rw s.accepted.acceptances (λ i j d l m. absurd (omega arith));
}

pub start_bare : (w : World) → IsStart w → IsBareStart w
start_bare w s = record { accepted = record { links = λ p x h. (s.parties p x h).links_once; acceptances = s.no_history.acceptances }; exchanges = λ p x h. (s.only_links p x h).exchanges; births = s.no_history.births; uses = s.no_history.uses }

pub one_key_per_count : (start : World) (events : List Event) → IsBareStart start → AreEvents events → OneKeyPerCount (run 1 start events)
one_key_per_count start events s e = (run_counted events 1 start e (bare_counted start s)).counted.apart
