-- An order that tells a party a command, and an order for which no memory is left.
use Rattle.std.proofs.Common.{◌≡◌, ◌⊎◌, inl, inr, ℕ, true, false, List, [], Option, Some, IfSome, refl, sym, ap, subst, arith, option_map, None}
use Rattle.x_base.specs.Edge.{Rose}
use Rattle.x_base.specs.declared.party.Role.{Role}
use Rattle.x_base.specs.declared.party.Side.{Side}
use Rattle.x_disk.specs.Disk.{View, IsSound, IsUntouched}
use Rattle.x_disk.specs.Shelf.{OthersStay, alike_refl}
use Rattle.x_disk.proofs.Runs.{began}
use Rattle.x_line.specs.declared.order.Order.{Order}
use Rattle.x_line.specs.declared.order.Order.TheVariants as order
use Rattle.x_line.specs.Laws.{AcceptsApart, ComparesApart, FewEvents, PaysApart, SpoolsApart}
use Rattle.x_line.specs.Orders.{IsOrder}
use Rattle.x_pay.specs.Payments.{paying}
use Rattle.x_pair.specs.declared.likeness.Compared.TheVariants as compared
use Rattle.x_spool.specs.declared.outcome.OutboxOutcome.TheVariants as outbox
use Rattle.party_state.specs.declared.command.Command.TheVariants as command
use Rattle.party_state.specs.declared.command.Input.{Input}
use Rattle.party_state.specs.declared.command.Input.TheVariants.{Ordered}
use Rattle.party_state.specs.State.{begun}
use Rattle.change_code.specs.declared.format.Format.{Format}
use Rattle.key_store.specs.Store.{IsBlankOrFirst, StandsForOldOrNew, StandsWith}
use Rattle.member.specs.Acts.{compacted_in, migrated_in}
use Rattle.member.specs.Deciding.{decision}
use Rattle.x_party.specs.Images.{OrBefore}
use Rattle.x_party.specs.Outcomes.{IsNoFailure, IsOldOrRewritten, IsSafe, IsSafeRewriting, IsSafeWiping, LeavesShelf}
use Rattle.x_party.specs.declared.outcome.Outcome.{Outcome}
use Rattle.x_party.specs.declared.outcome.Outcome.TheVariants as outcome
use Rattle.call_ends.specs.declared.status.Status.{Status}
use Rattle.call_ends.specs.declared.status.Status.TheVariants as status
use Rattle.call_ends.specs.declared.party_command.PartyCommand.{PartyCommand}
use Rattle.call_ends.specs.Transfer.{IsQuiet, Took, TookAtMost}
use Rattle.call_ends.specs.Causes.{HasCause, HasFaults}
use Rattle.party_calls.specs.Ends.{Ends, IsOfParty, status_of_outcome}
use Rattle.x_party.specs.Dues.{IsDue, GivesDue}
use Rattle.party_calls.specs.Dues.{Follows}
use Rattle.call_ends.specs.Check.{IsChecked}
use Rattle.call_ends.specs.Listening.{IsUnheard}
use Rattle.call_ends.specs.Commands.{command_of}
use Rattle.party_calls.specs.Obeys.{Obeys, ObeysCommand, ExpectsCall, ExpectsCommand, OthersOf, LeavesOthers, IsPartyTurn, IsWithin, ledger_of, party_of, is_reading, is_tended}
use Rattle.party_calls.proofs.Following.{disk_fault, ended, follows}
use Rattle.party_calls.proofs.Paying.{idle_payment}

took_none : (left : Option (List ℕ)) → Took left left []
took_none None = tt
took_none (Some all) = refl

pub took_nothing : (limit : ℕ) (left : Option (List ℕ)) → TookAtMost limit left left
took_nothing limit left = ([], omega arith, took_none left)

-- ---- the cause of a fault, by how a call ended

module _ (read reads put puts disk disks : ℕ) where
  pub cause_ended : (o : Outcome) (ending : List ℕ) (s : Status) (before after : Option (List ℕ)) → Ends o ending s before after
      → (s ≡ status.WriteFault → Rose put puts) → (s ≡ status.DiskFault → Rose disk disks) → HasCause s read reads put puts disk disks
  cause_ended o ending s before after ends put_cause disk_cause = go (ended o ending s before after ends) where
    each : (o : Outcome) → s ≡ status_of_outcome o → HasCause (status_of_outcome o) read reads put puts disk disks
    each (outcome.Done reply) is = tt
    each (outcome.Refused verdict reply) is = tt
    each (outcome.OtherParty asked found) is = tt
    each (outcome.Damaged place) is = tt
    each outcome.Fault is = disk_cause is
    each outcome.NoMemory is = tt

    go : (s ≡ status_of_outcome o) ⊎ (s ≡ status.WriteFault) → HasCause s read reads put puts disk disks
    go (inl is) = subst (λ (x : Status). HasCause x read reads put puts disk disks) (sym is) (each o is)
    go (inr is) = subst (λ (x : Status). HasCause x read reads put puts disk disks) (sym is) (put_cause is)

  pub cause_unheard : (left : Option (List ℕ)) (s : Status) → IsUnheard left s → (s ≡ status.ReadFault → Rose read reads) → HasCause s read reads put puts disk disks
  cause_unheard left s (inl (inl is)) read_cause = subst (λ (x : Status). HasCause x read reads put puts disk disks) (sym is) (read_cause is)
  cause_unheard left s (inl (inr is)) read_cause = subst (λ (x : Status). HasCause x read reads put puts disk disks) (sym is) tt
  cause_unheard left s (inr (u, is, possible, heard)) read_cause = subst (λ (x : Status). HasCause x read reads put puts disk disks) (sym is) tt

  pub cause_checked : (s : Status) (left rest before after : Option (List ℕ)) → IsChecked s left rest before after → (s ≡ status.ReadFault → Rose read reads) → (s ≡ status.WriteFault → Rose put puts)
      → HasCause s read reads put puts disk disks
  cause_checked status.Done left rest before after is read_cause put_cause = tt
  cause_checked (status.Refused refusal) left rest before after is read_cause put_cause = tt
  cause_checked (status.Usage kind) left rest before after is read_cause put_cause = is
  cause_checked status.ReadFault left rest before after is read_cause put_cause = read_cause refl
  cause_checked status.WriteFault left rest before after is read_cause put_cause = put_cause refl
  cause_checked status.DiskFault left rest before after is read_cause put_cause = absurd is
  cause_checked (status.Damaged place) left rest before after is read_cause put_cause = tt
  cause_checked (status.BadScenario number) left rest before after is read_cause put_cause = tt
  cause_checked (status.Forged number) left rest before after is read_cause put_cause = tt
  cause_checked status.NoMemory left rest before after is read_cause put_cause = tt

-- ---- a call over a party ends

-- the status that is due of an order where no count of faults rises, what the order leaves, and why it failed
pub record IsFinished (order : Order) (s : Status) (due : Type 0) (is_back : List ℕ → Type 0) (unread : Type 0) (old new : List ℕ → View) (put puts disk disks : ℕ) : Type 0 where
  pub expects : IsQuiet put puts → IsQuiet disk disks → due
  pub others : LeavesOthers order s is_back unread old new
  pub cause : (read reads : ℕ) → HasCause s read reads put puts disk disks

module _ (o : Order) (party : List ℕ) (s : Status) (is_back : List ℕ → Type 0) (unread : Type 0) (old new : List ℕ → View) where
  leaves_one : party_of o ≡ Some party → ledger_of o ≡ None → (IsOfParty s → is_back party) → OthersStay party old new → (is_reading o ≡ false → unread) → LeavesOthers o s is_back unread old new
  leaves_one is none back others same = record {
    back = λ of. subst (λ (x : Option (List ℕ)). IfSome x is_back) (sym is) (back of);
    ledger_back = λ of. subst (λ (x : Option (List ℕ)). IfSome x is_back) (sym none) tt;
    others = λ playing. subst (λ (x : Option (List ℕ)). OthersOf x (ledger_of o) old new) (sym is) (subst (λ (y : Option (List ℕ)). OthersOf (Some party) y old new) (sym none) others);
    unread = same;
  }

  pub finished : (outcome : Outcome) (ending : List ℕ) (before after : Option (List ℕ)) (due : List ℕ → Outcome → Type 0) (put puts disk disks : ℕ) → party_of o ≡ Some party → ledger_of o ≡ None
      → Ends outcome ending s before after → (IsOfParty s → IsNoFailure outcome) → (s ≡ status.WriteFault → Rose put puts) → GivesDue (old party) due outcome
      → LeavesShelf party outcome (is_back party) old new disk disks → (is_reading o ≡ false → unread) → IsFinished o s (Follows (old party) due s) is_back unread old new put puts disk disks
  finished outcome ending before after due put puts disk disks is none ends answered put_cause given shelf same = record {
    expects = follows outcome ending s before after put puts disk disks ends put_cause (old party) due given shelf.fault;
    others = leaves_one is none (λ of. shelf.back (answered of)) shelf.others same;
    cause = λ read reads. cause_ended read reads put puts disk disks outcome ending s before after ends put_cause (disk_fault outcome ending s before after put puts disk disks ends put_cause shelf.fault);
  }

-- ---- a command of a party

module _ (t : PartyCommand) (moment : ℕ) (s : Status) (left rest before after : Option (List ℕ)) (old new : List ℕ → View) where
  obeys_some : (x : Option PartyCommand) → x ≡ Some t → IsPartyTurn t.party (Ordered t.command) moment (old t.party) (new t.party) s before after → ObeysCommand x moment old new s before after
  obeys_some x is turned = subst (λ (y : Option PartyCommand). ObeysCommand y moment old new s before after) (sym is) turned

  pub obeys_command : (o : Order) → command_of o ≡ Some t → IsPartyTurn t.party (Ordered t.command) moment (old t.party) (new t.party) s before after
      → Obeys o moment s left rest before after old new
  obeys_command order.Check is turned = absurd cc
  obeys_command (order.Init party role key v) is turned = absurd cc
  obeys_command (order.Show party) is turned = absurd cc
  obeys_command (order.Create party role) is turned = absurd cc
  obeys_command (order.Enter party peer label side) is turned = absurd cc
  obeys_command (order.Value party peer label side) is turned = absurd cc
  obeys_command (order.Take party) is turned = absurd cc
  obeys_command (order.Load party peer label side pair) is turned = obeys_some (command_of (order.Load party peer label side pair)) is turned
  obeys_command (order.Start party peer label) is turned = obeys_some (command_of (order.Start party peer label)) is turned
  obeys_command (order.Ask party peer ultimate) is turned = obeys_some (command_of (order.Ask party peer ultimate)) is turned
  obeys_command (order.Resend party peer) is turned = obeys_some (command_of (order.Resend party peer)) is turned
  obeys_command (order.End party peer name) is turned = obeys_some (command_of (order.End party peer name)) is turned
  obeys_command (order.Drop party peer) is turned = obeys_some (command_of (order.Drop party peer)) is turned
  obeys_command (order.Purge party) is turned = obeys_some (command_of (order.Purge party)) is turned
  obeys_command order.Replay is turned = tt
  obeys_command order.Audit is turned = tt
  obeys_command (order.StartKk party peer new label single) is turned = obeys_some (command_of (order.StartKk party peer new label single)) is turned
  obeys_command (order.Translate party peer ultimate) is turned = obeys_some (command_of (order.Translate party peer ultimate)) is turned
  obeys_command (order.Compact party) is turned = absurd cc
  obeys_command (order.Migrate party) is turned = absurd cc
  obeys_command (order.Pay party peer name ledger amount) is turned = absurd cc
  obeys_command (order.Accept party ledger) is turned = absurd cc
  obeys_command (order.Spool party spool) is turned = absurd cc
  obeys_command (order.Outbox spool) is turned = absurd cc
  obeys_command order.Batch is turned = absurd cc
  obeys_command (order.Wipe party) is turned = absurd cc
  obeys_command (order.Compare party mirror) is turned = absurd cc
  obeys_command (order.Drill seed events) is turned = tt

  expects_some : (x : Option PartyCommand) → x ≡ Some t → Follows (old t.party) (IsDue t.party (Ordered t.command) moment) s → ExpectsCommand x moment old s
  expects_some x is follows = subst (λ (y : Option PartyCommand). ExpectsCommand y moment old s) (sym is) follows

  pub expects_command : (o : Order) → command_of o ≡ Some t → Follows (old t.party) (IsDue t.party (Ordered t.command) moment) s → ExpectsCall o moment left old s
  expects_command order.Check is follows = absurd cc
  expects_command (order.Init party role key v) is follows = absurd cc
  expects_command (order.Show party) is follows = absurd cc
  expects_command (order.Create party role) is follows = absurd cc
  expects_command (order.Enter party peer label side) is follows = absurd cc
  expects_command (order.Value party peer label side) is follows = absurd cc
  expects_command (order.Take party) is follows = absurd cc
  expects_command (order.Load party peer label side pair) is follows = expects_some (command_of (order.Load party peer label side pair)) is follows
  expects_command (order.Start party peer label) is follows = expects_some (command_of (order.Start party peer label)) is follows
  expects_command (order.Ask party peer ultimate) is follows = expects_some (command_of (order.Ask party peer ultimate)) is follows
  expects_command (order.Resend party peer) is follows = expects_some (command_of (order.Resend party peer)) is follows
  expects_command (order.End party peer name) is follows = expects_some (command_of (order.End party peer name)) is follows
  expects_command (order.Drop party peer) is follows = expects_some (command_of (order.Drop party peer)) is follows
  expects_command (order.Purge party) is follows = expects_some (command_of (order.Purge party)) is follows
  expects_command order.Replay is follows = absurd cc
  expects_command order.Audit is follows = absurd cc
  expects_command (order.StartKk party peer new label single) is follows = expects_some (command_of (order.StartKk party peer new label single)) is follows
  expects_command (order.Translate party peer ultimate) is follows = expects_some (command_of (order.Translate party peer ultimate)) is follows
  expects_command (order.Compact party) is follows = absurd cc
  expects_command (order.Migrate party) is follows = absurd cc
  expects_command (order.Pay party peer name ledger amount) is follows = absurd cc
  expects_command (order.Accept party ledger) is follows = absurd cc
  expects_command (order.Spool party spool) is follows = absurd cc
  expects_command (order.Outbox spool) is follows = absurd cc
  expects_command order.Batch is follows = absurd cc
  expects_command (order.Wipe party) is follows = absurd cc
  expects_command (order.Compare party mirror) is follows = absurd cc
  expects_command (order.Drill seed events) is follows = absurd cc

  party_given : (x : Option PartyCommand) → x ≡ Some t → option_map (λ (t : PartyCommand). t.party) x ≡ Some t.party
  party_given x is = ap (λ (y : Option PartyCommand). option_map (λ (t : PartyCommand). t.party) y) is

  -- it has no ledger
  pub no_ledger : (o : Order) → command_of o ≡ Some t → ledger_of o ≡ None
  no_ledger (order.Pay party peer name ledger amount) is = absurd cc
  no_ledger (order.Accept party ledger) is = absurd cc
  no_ledger (order.Compare party mirror) is = absurd cc
  no_ledger (order.Spool party spool) is = absurd cc
  no_ledger o is = refl

  pub is_party : (o : Order) → command_of o ≡ Some t → party_of o ≡ Some t.party
  is_party order.Check is = absurd cc
  is_party (order.Init party role key v) is = absurd cc
  is_party (order.Show party) is = absurd cc
  is_party (order.Create party role) is = absurd cc
  is_party (order.Enter party peer label side) is = absurd cc
  is_party (order.Value party peer label side) is = absurd cc
  is_party (order.Take party) is = absurd cc
  is_party (order.Load party peer label side pair) is = party_given (command_of (order.Load party peer label side pair)) is
  is_party (order.Start party peer label) is = party_given (command_of (order.Start party peer label)) is
  is_party (order.Ask party peer ultimate) is = party_given (command_of (order.Ask party peer ultimate)) is
  is_party (order.Resend party peer) is = party_given (command_of (order.Resend party peer)) is
  is_party (order.End party peer name) is = party_given (command_of (order.End party peer name)) is
  is_party (order.Drop party peer) is = party_given (command_of (order.Drop party peer)) is
  is_party (order.Purge party) is = party_given (command_of (order.Purge party)) is
  is_party order.Replay is = party_given (command_of order.Replay) is
  is_party order.Audit is = party_given (command_of order.Audit) is
  is_party (order.StartKk party peer new label single) is = party_given (command_of (order.StartKk party peer new label single)) is
  is_party (order.Translate party peer ultimate) is = party_given (command_of (order.Translate party peer ultimate)) is
  is_party (order.Compact party) is = absurd cc
  is_party (order.Migrate party) is = absurd cc
  is_party (order.Pay party peer name ledger amount) is = absurd cc
  is_party (order.Accept party ledger) is = absurd cc
  is_party (order.Spool party spool) is = absurd cc
  is_party (order.Outbox spool) is = absurd cc
  is_party order.Batch is = absurd cc
  is_party (order.Wipe party) is = absurd cc
  is_party (order.Compare party mirror) is = absurd cc
  is_party (order.Drill seed events) is = party_given (command_of (order.Drill seed events)) is

-- ---- the other orders of a party

pub tended_of : (o : Order) → (o ≡ order.Check → ⊥) → (o ≡ order.Replay → ⊥) → (o ≡ order.Audit → ⊥) → ((seed events : ℕ) → o ≡ order.Drill seed events → ⊥)
    → ((party : List ℕ) → o ≡ order.Take party → ⊥) → ((party ledger : List ℕ) → o ≡ order.Accept party ledger → ⊥)
    → ((party : List ℕ) (role : Role) → o ≡ order.Create party role → ⊥) → ((party peer label : List ℕ) (side : Side) → o ≡ order.Enter party peer label side → ⊥)
    → (o ≡ order.Batch → ⊥) → ((party spool : List ℕ) → o ≡ order.Spool party spool → ⊥) → command_of o ≡ None → is_tended o ≡ true
tended_of order.Check check replay audit drill take accept create enter batch spool none = absurd (check refl)
tended_of order.Replay check replay audit drill take accept create enter batch spool none = absurd (replay refl)
tended_of order.Audit check replay audit drill take accept create enter batch spool none = absurd (audit refl)
tended_of (order.Drill seed events) check replay audit drill take accept create enter batch spool none = absurd (drill seed events refl)
tended_of (order.Take party) check replay audit drill take accept create enter batch spool none = absurd (take party refl)
tended_of (order.Init party role key v) check replay audit drill take accept create enter batch spool none = refl
tended_of (order.Show party) check replay audit drill take accept create enter batch spool none = refl
tended_of (order.Value party peer label side) check replay audit drill take accept create enter batch spool none = refl
tended_of (order.Create party role) check replay audit drill take accept create enter batch spool none = absurd (create party role refl)
tended_of (order.Enter party peer label side) check replay audit drill take accept create enter batch spool none = absurd (enter party peer label side refl)
tended_of (order.Compact party) check replay audit drill take accept create enter batch spool none = refl
tended_of (order.Migrate party) check replay audit drill take accept create enter batch spool none = refl
tended_of (order.Accept party ledger) check replay audit drill take accept create enter batch spool none = absurd (accept party ledger refl)
tended_of (order.Pay party peer name ledger amount) check replay audit drill take accept create enter batch spool none = refl
tended_of (order.Wipe party) check replay audit drill take accept create enter batch spool none = refl
tended_of (order.Compare party mirror) check replay audit drill take accept create enter batch spool none = refl
tended_of (order.Load party peer label side pair) check replay audit drill take accept create enter batch spool none = absurd (cc none)
tended_of (order.Start party peer label) check replay audit drill take accept create enter batch spool none = absurd (cc none)
tended_of (order.StartKk party peer new label single) check replay audit drill take accept create enter batch spool none = absurd (cc none)
tended_of (order.Ask party peer ultimate) check replay audit drill take accept create enter batch spool none = absurd (cc none)
tended_of (order.Translate party peer ultimate) check replay audit drill take accept create enter batch spool none = absurd (cc none)
tended_of (order.Resend party peer) check replay audit drill take accept create enter batch spool none = absurd (cc none)
tended_of (order.End party peer name) check replay audit drill take accept create enter batch spool none = absurd (cc none)
tended_of (order.Drop party peer) check replay audit drill take accept create enter batch spool none = absurd (cc none)
tended_of (order.Purge party) check replay audit drill take accept create enter batch spool none = absurd (cc none)
tended_of order.Batch check replay audit drill take accept create enter batch spool none = absurd (batch refl)
tended_of (order.Spool party name) check replay audit drill take accept create enter batch spool none = absurd (spool party name refl)
tended_of (order.Outbox name) check replay audit drill take accept create enter batch spool none = refl

-- ---- the values of an order

pub within_of : FewEvents → PaysApart → AcceptsApart → ComparesApart → SpoolsApart → (words : List (List ℕ)) (o : Order) → IsOrder words o → IsWithin o
within_of few pays accepts compares spools words (order.Drill seed events) is = few words seed events is
within_of few pays accepts compares spools words (order.Pay party peer name ledger amount) is = pays words party peer name ledger amount is
within_of few pays accepts compares spools words (order.Accept party ledger) is = accepts words party ledger is
within_of few pays accepts compares spools words (order.Compare party mirror) is = compares words party mirror is
within_of few pays accepts compares spools words (order.Spool party spool) is = spools words party spool is
within_of few pays accepts compares spools words o is = tt

-- ---- where nothing was touched

others_alike : (name ledger : Option (List ℕ)) (e : List ℕ → View) → OthersOf name ledger e e
others_alike None ledger e = λ name. alike_refl (e name)
others_alike (Some party) None e = λ other apart. alike_refl (e other)
others_alike (Some party) (Some ledger) e = λ third apart other. alike_refl (e third)

pub leaves_all : (o : Order) (s : Status) (is_back : List ℕ → Type 0) (unread : Type 0) (e : List ℕ → View) → (IsOfParty s → ⊥) → unread → LeavesOthers o s is_back unread e e
leaves_all o s is_back unread e none same = record { back = λ of. absurd (none of); ledger_back = λ of. absurd (none of); others = λ playing. others_alike (party_of o) (ledger_of o) e; unread = λ reading. same }

pub faults_of : (s : Status) (read reads put puts disk disks : ℕ) → HasCause s read reads put puts disk disks → HasFaults s read reads put puts disk disks
faults_of s read reads put puts disk disks cause = record {
  read_fault = λ is. subst (λ (x : Status). HasCause x read reads put puts disk disks) is cause;
  write_fault = λ is. subst (λ (x : Status). HasCause x read reads put puts disk disks) is cause;
  disk_fault = λ is. subst (λ (x : Status). HasCause x read reads put puts disk disks) is cause;
}

-- ---- where no memory is left, nothing is done

module _ (moment : ℕ) (left before : Option (List ℕ)) (e : List ℕ → View) (sound : (name : List ℕ) → IsSound (e name)) where
  untouched : (v : View) → IsSound v → IsUntouched v v
  untouched v is = record { now = refl; images = λ c left. left; any_moment = began v v.may_leave is (λ c left. left) }

  safe : (name : List ℕ) (v : View) (i : Input) → IsSound v → IsSafe name v v i moment
  safe name v i is = record {
    party = λ image p space now stands. began v (OrBefore v (StandsForOldOrNew p space (decision p i moment).change)) is (λ c left. inr left);
    still = λ image p space now stands none. untouched v is;
    nobody = λ image now none. untouched v is;
    tells = refl;
  }

  still_rewriting : (format : Format → Option Format) (v : View) → IsSound v → IsSafeRewriting format v v
  still_rewriting format v is = record {
    party = λ image p space now stands. began v (OrBefore v (IsOldOrRewritten (format space.format) p space)) is (λ c left. inr left);
    still = λ image p space now stands none. untouched v is;
    nobody = λ image now none. untouched v is;
    tells = refl;
  }

  still_wiping : (v : View) → IsSound v → IsSafeWiping v v
  still_wiping v is = record {
    party = λ image p space now stands. began v (OrBefore v (λ c. StandsWith c p space)) is (λ c left. inr left);
    still = λ image p space now stands none. untouched v is;
    nobody = λ image now none. untouched v is;
    tells = refl;
  }

  still_turn : (party : List ℕ) (i : Input) → IsPartyTurn party i moment (e party) (e party) status.NoMemory before before
  still_turn party i = record { outcome = outcome.NoMemory; turned = tt; safe = safe party (e party) i (sound party); ends = (refl, refl) }

  pub idle : (o : Order) → Obeys o moment status.NoMemory left left before before e e
  idle order.Check = refl
  idle (order.Init party role key v) = record {
    outcome = outcome.NoMemory;
    created = tt;
    nothing_written = λ image now marked. untouched (e party) (sound party);
    any_moment = λ tells. began (e party) (OrBefore (e party) (IsBlankOrFirst (begun party role (record { key = key; v = v })))) (sound party) (λ c left. inr left);
    tells = refl;
    ends = (refl, refl);
  }
  idle (order.Show party) = record { outcome = outcome.NoMemory; shows = tt; untouched = untouched (e party) (sound party); ends = (refl, refl) }
  idle (order.Create party role) = inl (inl (inr refl), (refl, λ name. alike_refl (e name)))
  idle (order.Enter party peer label side) = inl (inl (inr refl), (refl, λ name. alike_refl (e name)))
  idle (order.Value party peer label side) = record { outcome = outcome.NoMemory; asked = inr tt; untouched = untouched (e party) (sound party); ends = (refl, refl) }
  idle (order.Take party) = inl (inl (inr refl), refl, alike_refl (e party))
  idle (order.Load party peer label side pair) = still_turn party (Ordered (command.Load peer label side pair))
  idle (order.Start party peer label) = still_turn party (Ordered (command.Start peer label))
  idle (order.Ask party peer ultimate) = still_turn party (Ordered (command.Ask peer ultimate))
  idle (order.Resend party peer) = still_turn party (Ordered (command.Resend peer))
  idle (order.End party peer name) = still_turn party (Ordered (command.End peer name))
  idle (order.Drop party peer) = still_turn party (Ordered (command.Drop peer))
  idle (order.Purge party) = still_turn party (Ordered command.Purge)
  idle order.Replay = tt
  idle order.Audit = tt
  idle (order.Pay party peer name ledger amount) = idle_payment (paying peer name amount) party ledger e before sound
  idle (order.Accept party ledger) = inl (inr refl, refl, λ name. alike_refl (e name))
  idle (order.Spool party spool) = inl (inl (inr refl), refl, λ name. alike_refl (e name))
  idle (order.Outbox spool) = record { outcome = outbox.NoMemory; shows = λ book now answered. absurd answered; untouched = untouched (e spool) (sound spool); ends = (refl, refl) }
  idle order.Batch = inl (inr refl, refl)
  idle (order.StartKk party peer new label single) = still_turn party (Ordered (command.StartKk peer label new single))
  idle (order.Translate party peer ultimate) = still_turn party (Ordered (command.Translate peer ultimate))
  idle (order.Compact party) = record { outcome = outcome.NoMemory; rewritten = tt; safe = still_rewriting compacted_in (e party) (sound party); ends = (refl, refl) }
  idle (order.Migrate party) = record { outcome = outcome.NoMemory; rewritten = tt; safe = still_rewriting migrated_in (e party) (sound party); ends = (refl, refl) }
  idle (order.Wipe party) = record { outcome = outcome.NoMemory; wiped = tt; safe = still_wiping (e party) (sound party); ends = (refl, refl) }
  idle (order.Compare party mirror) = record { outcome = compared.NoMemory; tells = tt; first_stays = untouched (e party) (sound party); second_stays = untouched (e mirror) (sound mirror); ends = (refl, refl) }
  idle (order.Drill seed events) = tt
