-- An order of a party that is kept on two disks.
use Rattle.std.proofs.Common.{◌≡◌, ◌≢◌, ◌∙◌, inl, inr, ℕ, false, List, [], ◌∷◌, Option, Some, None, IfSome, refl, sym, subst}
use Rattle.x_base.specs.Edge.{Rose}
use Rattle.x_base.specs.declared.party.Role.{Role}
use Rattle.x_base.specs.declared.party.Side.{Side}
use Rattle.x_mac.specs.declared.pair.Pair.{Pair}
use Rattle.x_disk.specs.Disk.{View, IsSound, IsUntouched}
use Rattle.x_disk.specs.Shelf.{alike_refl}
use Rattle.x_disk.proofs.Runs.{began}
use Rattle.disk_pair.specs.Pairs.{ThirdsStay}
use Rattle.party_state.specs.declared.command.Command.TheVariants as command
use Rattle.party_state.specs.declared.command.Input.TheVariants.{Ordered}
use Rattle.party_state.specs.State.{begun}
use Rattle.key_store.specs.Store.{IsBlankOrFirst}
use Rattle.x_line.specs.declared.order.Order.{Order}
use Rattle.x_line.specs.declared.order.Order.TheVariants as order
use Rattle.x_line.specs.Orders.{IsOfTwo}
use Rattle.x_pair.specs.Dues.{IsDueShow, IsDueTurn}
use Rattle.x_pair.specs.Outcomes.{Before, LeavesBoth, MayLeave, Work, left_on_first, left_on_second, showing, turning}
use Rattle.x_party.specs.Images.{OrBefore}
use Rattle.x_party.specs.Outcomes.{IsNoFailure}
use Rattle.x_party.specs.declared.outcome.Outcome.{Outcome}
use Rattle.x_party.specs.declared.outcome.Outcome.TheVariants as outcome
use Rattle.call_ends.specs.declared.status.Status.{Status}
use Rattle.call_ends.specs.declared.status.Status.TheVariants as status
use Rattle.call_ends.specs.Causes.{HasCause}
use Rattle.call_ends.specs.declared.party_command.PartyCommand.{PartyCommand}
use Rattle.party_calls.specs.Ends.{Ends, IsOfParty}
use Rattle.call_ends.specs.Commands.{command_of}
use Rattle.party_calls.specs.Obeys.{is_reading, party_of}
use Rattle.party_calls.specs.Mirrored.{IsPairCall, LeavesMirrored, ObeysMirrored, ObeysMirroredCommand}
use Rattle.party_calls.proofs.Following.{disk_fault}
use Rattle.party_calls.proofs.Orders.{cause_ended}

-- what a call over two disks leaves, and why it failed
pub record IsFinishedOfTwo (o : Order) (mirror : List ℕ) (s : Status) (is_back : List ℕ → Type 0) (unread : Type 0) (old new : List ℕ → View) (put puts disk disks : ℕ) : Type 0 where
  pub others : LeavesMirrored o mirror s is_back unread old new
  pub cause : (read reads : ℕ) → HasCause s read reads put puts disk disks

pub finished_of_two : (o : Order) (party mirror : List ℕ) (s : Status) (is_back : List ℕ → Type 0) (unread : Type 0) (old new : List ℕ → View) (outcome : Outcome) (ending : List ℕ) (before after : Option (List ℕ)) (put puts disk disks : ℕ)
    → party_of o ≡ Some party → Ends outcome ending s before after → (IsOfParty s → IsNoFailure outcome) → (s ≡ status.WriteFault → Rose put puts)
    → LeavesBoth party mirror outcome (is_back party) (is_back mirror) old new disk disks → (is_reading o ≡ false → unread) → IsFinishedOfTwo o mirror s is_back unread old new put puts disk disks
finished_of_two o party mirror s is_back unread old new outcome ending before after put puts disk disks is ends answered put_cause shelf same = record {
  others = record {
    back = λ of. (subst (λ (x : Option (List ℕ)). IfSome x is_back) (sym is) (shelf.back (answered of)).0, (shelf.back (answered of)).1);
    others = subst (λ (x : Option (List ℕ)). IfSome x (λ p. ThirdsStay p mirror old new)) (sym is) shelf.thirds;
    unread = same;
  };
  cause = λ read reads. cause_ended read reads put puts disk disks outcome ending s before after ends put_cause (disk_fault outcome ending s before after put puts disk disks ends put_cause shelf.fault);
}

module _ (t : PartyCommand) (mirror : List ℕ) where
  -- the turn with this command is what the order does
  abbrev pub DoesCommand : Order → Option PartyCommand → Type 1
  DoesCommand o x = (moment : ℕ) (s : Status) (left rest before after : Option (List ℕ)) (old new : List ℕ → View) → ObeysMirroredCommand x mirror moment old new s before after → ObeysMirrored o mirror moment s left rest before after old new

  -- an order of two disks is this command of a party, which isn't the second disk
  pub record IsCommandOfTwo (o : Order) : Type 1 where
    pub apart : t.party ≢ mirror
    pub obeys : DoesCommand o (Some t)

  by_some : (o : Order) (x : PartyCommand) → Some x ≡ Some t → x.party ≢ mirror → DoesCommand o (Some x) → IsCommandOfTwo o
  by_some o x is apart obeys = record { apart = (let same : x ≡ t = cc is in subst (λ (y : PartyCommand). y.party ≢ mirror) same apart); obeys = subst (DoesCommand o) is obeys }

  pub command_of_two : (o : Order) → IsOfTwo o mirror → command_of o ≡ Some t → IsCommandOfTwo o
  command_of_two (order.Init party role key v) of is = absurd cc
  command_of_two (order.Show party) of is = absurd cc
  command_of_two (order.Create party role) of is = absurd cc
  command_of_two (order.Enter party peer label side) of is = absurd cc
  command_of_two (order.Value party peer label side) of is = absurd of
  command_of_two (order.Spool party spool) of is = absurd of
  command_of_two (order.Outbox spool) of is = absurd of
  command_of_two order.Batch of is = absurd of
  command_of_two (order.Take party) of is = absurd cc
  command_of_two (order.Load party peer label side pair) of is = by_some (order.Load party peer label side pair) _ is of (λ moment s left rest before after old new call. call)
  command_of_two (order.Start party peer label) of is = by_some (order.Start party peer label) _ is of (λ moment s left rest before after old new call. call)
  command_of_two (order.StartKk party peer new label single) of is = by_some (order.StartKk party peer new label single) _ is of (λ moment s left rest before after old new call. call)
  command_of_two (order.Ask party peer ultimate) of is = by_some (order.Ask party peer ultimate) _ is of (λ moment s left rest before after old new call. call)
  command_of_two (order.Translate party peer ultimate) of is = by_some (order.Translate party peer ultimate) _ is of (λ moment s left rest before after old new call. call)
  command_of_two (order.Resend party peer) of is = by_some (order.Resend party peer) _ is of (λ moment s left rest before after old new call. call)
  command_of_two (order.End party peer name) of is = by_some (order.End party peer name) _ is of (λ moment s left rest before after old new call. call)
  command_of_two (order.Drop party peer) of is = by_some (order.Drop party peer) _ is of (λ moment s left rest before after old new call. call)
  command_of_two (order.Purge party) of is = by_some (order.Purge party) _ is of (λ moment s left rest before after old new call. call)
  command_of_two order.Check of is = absurd of
  command_of_two order.Replay of is = absurd of
  command_of_two order.Audit of is = absurd of
  command_of_two (order.Compact party) of is = absurd of
  command_of_two (order.Migrate party) of is = absurd of
  command_of_two (order.Wipe party) of is = absurd of
  command_of_two (order.Compare party other) of is = absurd of
  command_of_two (order.Pay party peer name ledger amount) of is = absurd of
  command_of_two (order.Accept party ledger) of is = absurd of
  command_of_two (order.Drill seed events) of is = absurd of

-- an order of two disks that neither creates nor shows nor takes a message is a command
pub commands_of_two : (o : Order) (mirror : List ℕ) → IsOfTwo o mirror → ((party : List ℕ) (role : Role) (key : Pair) (v : ℕ) → o ≡ order.Init party role key v → ⊥) → ((party : List ℕ) → o ≡ order.Show party → ⊥) → ((party : List ℕ) → o ≡ order.Take party → ⊥)
    → ((party : List ℕ) (role : Role) → o ≡ order.Create party role → ⊥) → ((party peer label : List ℕ) (side : Side) → o ≡ order.Enter party peer label side → ⊥) → command_of o ≡ None → ⊥
commands_of_two (order.Init party role key v) mirror of init show take create enter none = init party role key v refl
commands_of_two (order.Show party) mirror of init show take create enter none = show party refl
commands_of_two (order.Take party) mirror of init show take create enter none = take party refl
commands_of_two (order.Create party role) mirror of init show take create enter none = create party role refl
commands_of_two (order.Enter party peer label side) mirror of init show take create enter none = enter party peer label side refl
commands_of_two (order.Value party peer label side) mirror of init show take create enter none = of
commands_of_two (order.Spool party spool) mirror of init show take create enter none = of
commands_of_two (order.Outbox spool) mirror of init show take create enter none = of
commands_of_two order.Batch mirror of init show take create enter none = of
commands_of_two (order.Load party peer label side pair) mirror of init show take create enter none = cc none
commands_of_two (order.Start party peer label) mirror of init show take create enter none = cc none
commands_of_two (order.StartKk party peer new label single) mirror of init show take create enter none = cc none
commands_of_two (order.Ask party peer ultimate) mirror of init show take create enter none = cc none
commands_of_two (order.Translate party peer ultimate) mirror of init show take create enter none = cc none
commands_of_two (order.Resend party peer) mirror of init show take create enter none = cc none
commands_of_two (order.End party peer name) mirror of init show take create enter none = cc none
commands_of_two (order.Drop party peer) mirror of init show take create enter none = cc none
commands_of_two (order.Purge party) mirror of init show take create enter none = cc none
commands_of_two order.Check mirror of init show take create enter none = of
commands_of_two order.Replay mirror of init show take create enter none = of
commands_of_two order.Audit mirror of init show take create enter none = of
commands_of_two (order.Compact party) mirror of init show take create enter none = of
commands_of_two (order.Migrate party) mirror of init show take create enter none = of
commands_of_two (order.Wipe party) mirror of init show take create enter none = of
commands_of_two (order.Compare party other) mirror of init show take create enter none = of
commands_of_two (order.Pay party peer name ledger amount) mirror of init show take create enter none = of
commands_of_two (order.Accept party ledger) mirror of init show take create enter none = of
commands_of_two (order.Drill seed events) mirror of init show take create enter none = of

pub left_all : (o : Order) (mirror : List ℕ) (s : Status) (is_back : List ℕ → Type 0) (unread : Type 0) (e : List ℕ → View) → (IsOfParty s → ⊥) → (is_reading o ≡ false → unread) → LeavesMirrored o mirror s is_back unread e e
left_all o mirror s is_back unread e none same = record { back = λ of. absurd (none of); others = all (party_of o); unread = same }
  where
    all : (x : Option (List ℕ)) → IfSome x (λ p. ThirdsStay p mirror e e)
    all None = tt
    all (Some p) = λ third apart other. alike_refl (e third)

pub never_both : {A : Type 0} (m : Option (List ℕ)) (mirror : List ℕ) → m ≡ Some mirror → m ≡ None → A
never_both m mirror some none = let no : Some mirror ≡ None = sym some ∙ none in absurd (cc no)

pub not_replay : (o : Order) (mirror : List ℕ) → IsOfTwo o mirror → o ≡ order.Replay → ⊥
not_replay o mirror of is = subst (λ (x : Order). IsOfTwo x mirror) is of

-- ---- where no memory is left, nothing is done

module _ (moment : ℕ) (left before : Option (List ℕ)) (e : List ℕ → View) (sound : (name : List ℕ) → IsSound (e name)) where
  still : (v : View) → IsSound v → IsUntouched v v
  still v is = record { now = refl; images = λ c left. left; any_moment = began v v.may_leave is (λ c left. left) }

  idle_call : (w : Work) (is_due : List ℕ → List ℕ → Outcome → Type 0) (ending party mirror : List ℕ) → IsPairCall w is_due ending party mirror e e status.NoMemory before before
  idle_call w is_due ending party mirror = record {
    outcome = outcome.NoMemory;
    made = λ i j read. tt;
    due = λ i j other read is. inr (inr refl);
    safe = record {
      on_first = λ i j p read recovers. began (e party) (MayLeave w left_on_first i j p i (e party).may_leave) (sound party) (λ c left. Before left);
      on_second = λ i j p read recovers. began (e mirror) (MayLeave w left_on_second i j p j (e mirror).may_leave) (sound mirror) (λ c left. Before left);
      order = λ i j p read recovers. inl (record { moments = began (e mirror) _ (sound mirror) (λ c left. inr left); stays = λ either. still (e mirror) (sound mirror) });
      nobody = λ i j read none. (still (e party) (sound party), still (e mirror) (sound mirror));
      quiet = λ i j p read stand none. (still (e party) (sound party), still (e mirror) (sound mirror));
      first_stays = λ i j p read recovers none filled. still (e party) (sound party);
      second_stays = λ i j p read recovers none blank. still (e mirror) (sound mirror);
      too_large = λ i j read large. (still (e party) (sound party), still (e mirror) (sound mirror));
      first_tells = refl;
      second_tells = refl;
    };
    ends = (refl, refl);
  }

  pub idle_mirrored : (o : Order) (mirror : List ℕ) → IsOfTwo o mirror → ObeysMirrored o mirror moment status.NoMemory left left before before e e
  idle_mirrored (order.Init party role key v) mirror of = record {
    outcome = outcome.NoMemory;
    created = record { is_due = λ i j read. tt; stand = tt };
    due = λ i j other read is. inr (inr refl);
    safe = record {
      first_stays = λ i j read filled. still (e party) (sound party);
      second_stays = λ i j read filled. still (e mirror) (sound mirror);
      on_first = λ tells. began (e party) (OrBefore (e party) (IsBlankOrFirst (begun party role (record { key = key; v = v })))) (sound party) (λ c left. inr left);
      on_second = λ tells. began (e mirror) (OrBefore (e mirror) (IsBlankOrFirst (begun party role (record { key = key; v = v })))) (sound mirror) (λ c left. inr left);
      order = inl (still (e mirror) (sound mirror));
      first_tells = refl;
      second_tells = refl;
    };
    ends = (refl, refl);
  }
  idle_mirrored (order.Show party) mirror of = idle_call showing IsDueShow [] party mirror
  idle_mirrored (order.Take party) mirror of = inl (inl (inr refl), refl, λ name. alike_refl (e name))
  idle_mirrored (order.Create party role) mirror of = inl (inl (inr refl), (refl, λ name. alike_refl (e name)))
  idle_mirrored (order.Enter party peer label side) mirror of = inl (inl (inr refl), (refl, λ name. alike_refl (e name)))
  idle_mirrored (order.Value party peer label side) mirror of = absurd of
  idle_mirrored (order.Spool party spool) mirror of = absurd of
  idle_mirrored (order.Outbox spool) mirror of = absurd of
  idle_mirrored order.Batch mirror of = absurd of
  idle_mirrored (order.Load party peer label side pair) mirror of = idle_call (turning party (Ordered (command.Load peer label side pair)) moment) (IsDueTurn party (Ordered (command.Load peer label side pair)) moment) (10 ∷ []) party mirror
  idle_mirrored (order.Start party peer label) mirror of = idle_call (turning party (Ordered (command.Start peer label)) moment) (IsDueTurn party (Ordered (command.Start peer label)) moment) (10 ∷ []) party mirror
  idle_mirrored (order.StartKk party peer new label single) mirror of = idle_call (turning party (Ordered (command.StartKk peer label new single)) moment) (IsDueTurn party (Ordered (command.StartKk peer label new single)) moment) (10 ∷ []) party mirror
  idle_mirrored (order.Ask party peer ultimate) mirror of = idle_call (turning party (Ordered (command.Ask peer ultimate)) moment) (IsDueTurn party (Ordered (command.Ask peer ultimate)) moment) (10 ∷ []) party mirror
  idle_mirrored (order.Translate party peer ultimate) mirror of = idle_call (turning party (Ordered (command.Translate peer ultimate)) moment) (IsDueTurn party (Ordered (command.Translate peer ultimate)) moment) (10 ∷ []) party mirror
  idle_mirrored (order.Resend party peer) mirror of = idle_call (turning party (Ordered (command.Resend peer)) moment) (IsDueTurn party (Ordered (command.Resend peer)) moment) (10 ∷ []) party mirror
  idle_mirrored (order.End party peer name) mirror of = idle_call (turning party (Ordered (command.End peer name)) moment) (IsDueTurn party (Ordered (command.End peer name)) moment) (10 ∷ []) party mirror
  idle_mirrored (order.Drop party peer) mirror of = idle_call (turning party (Ordered (command.Drop peer)) moment) (IsDueTurn party (Ordered (command.Drop peer)) moment) (10 ∷ []) party mirror
  idle_mirrored (order.Purge party) mirror of = idle_call (turning party (Ordered command.Purge) moment) (IsDueTurn party (Ordered command.Purge) moment) (10 ∷ []) party mirror
  idle_mirrored order.Check mirror of = absurd of
  idle_mirrored order.Replay mirror of = absurd of
  idle_mirrored order.Audit mirror of = absurd of
  idle_mirrored (order.Compact party) mirror of = absurd of
  idle_mirrored (order.Migrate party) mirror of = absurd of
  idle_mirrored (order.Wipe party) mirror of = absurd of
  idle_mirrored (order.Compare party other) mirror of = absurd of
  idle_mirrored (order.Pay party peer name ledger amount) mirror of = absurd of
  idle_mirrored (order.Accept party ledger) mirror of = absurd of
  idle_mirrored (order.Drill seed events) mirror of = absurd of
