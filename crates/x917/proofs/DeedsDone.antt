-- A call is a deed of a session over one disk or two.
use Rattle.std.proofs.Common.{◌≡◌, ℕ, inl, inr, List, [], ◌∷◌, Option, Some, None, IfSome, refl, sym, subst}
use Rattle.clap.specs.Words.{Row, first_of}
use Rattle.x_disk.specs.Disk.{View, IsSound, IsUntouched}
use Rattle.x_disk.specs.Shelf.{OthersStay}
use Rattle.x_disk.proofs.Alike.{untouched_alike}
use Rattle.csm_grammar.specs.declared.arrival.Arrival.{Arrival}
use Rattle.party_state.specs.declared.command.Command.{Command}
use Rattle.party_state.specs.declared.command.Command.TheVariants as command
use Rattle.party_state.specs.declared.command.Input.{Input}
use Rattle.party_state.specs.declared.command.Input.TheVariants.{Ordered, Arrived}
use Rattle.disk_pair.specs.Pairs.{ThirdsStay}
use Rattle.csm_batch.specs.declared.entry.Entry.{Entry}
use Rattle.x_party.specs.declared.outcome.Outcome.{Outcome}
use Rattle.x_pair.specs.Dues.{IsDueTurn}
use Rattle.x_pair.specs.Outcomes.{turning}
use Rattle.x_line.specs.declared.opt.Opt.TheVariants as opt
use Rattle.x_line.specs.declared.order.Order.{Order}
use Rattle.x_line.specs.declared.order.Order.TheVariants as order
use Rattle.x_line.specs.Options.{name_of}
use Rattle.x_line.specs.Orders.{HasValues, IsOfTwo}
use Rattle.world_laws.specs.World.{World}
use Rattle.world_laws.specs.Events.{Action, Orders, Hears, IsAction, IsCommand}
use Rattle.call_laws.specs.Sessions.{IsMade}
use Rattle.mirror_laws.specs.Sessions.{Tending, Compacting, Migrating, Wiping, AllButOwnStay, IsAside, IsMadeOn, IsNobodys, IsPairMade, IsTendedDisk}
use Rattle.mirror_laws.proofs.Asides.{aside_but_one, aside_but_two, aside_of_all}
use Rattle.call_ends.specs.declared.status.Status.{Status}
use Rattle.call_ends.specs.declared.status.Status.TheVariants as status
use Rattle.call_ends.specs.Listening.{IsHeard, taken}
use Rattle.party_calls.specs.Ends.{Ends}
use Rattle.party_calls.specs.Mirrored.{IsPairCall, LeavesMirrored, ObeysMirrored}
use Rattle.party_calls.specs.Obeys.{IsPartyTurn, LeavesOthers, Obeys, OthersOf, ledger_of, party_of}
use Rattle.party_calls.specs.Spooled.{IsSpooling, TakesBatch}
use Rattle.party_calls.proofs.Mirrors.{idle_mirrored, left_all}
use Rattle.party_calls.proofs.Orders.{idle, leaves_all}
use Rattle.x917.specs.Deeds.{IsBatchCall, IsCallDeed, IsDeed, IsDeedOf, IsTendingDeed, OverOwn}
use Rattle.x917.proofs.NetworkEvents.{ident_given, label_given}

module _ (start : World) (mirrors : List ℕ → Option (List ℕ)) (old new : List ℕ → View) (sound : (name : List ℕ) → IsSound (old name)) where
  aside_untouched : (file : List ℕ) → IsUntouched (old file) (new file) → OthersStay file old new → IsAside start mirrors old new
  aside_untouched file still others = aside_but_one start mirrors old new sound file (inl still) others

  aside_paid : (party ledger : List ℕ) → IsUntouched (old party) (new party) → ThirdsStay party ledger old new → IsNobodys start mirrors ledger → IsAside start mirrors old new
  aside_paid party ledger still thirds none = aside_but_two start mirrors old new sound party ledger (inl still) (inr none) thirds

  -- the files of an order are nobody's
  aside_apart : (party other : Option (List ℕ)) → OthersOf party other old new → IfSome party (IsNobodys start mirrors) → IfSome other (IsNobodys start mirrors) → IsAside start mirrors old new
  aside_apart None other stay none nor = aside_of_all start mirrors old new sound stay
  aside_apart (Some party) None stay none nor = aside_but_one start mirrors old new sound party (inr none) stay
  aside_apart (Some party) (Some other) stay none nor = aside_but_two start mirrors old new sound party other (inr none) (inr nor) stay

  -- ---- a call over its party's one disk, or its two

  module _ (moment : ℕ) (s : Status) (left rest before after : Option (List ℕ)) where
    call_one : (name : List ℕ) (action : Action) (ending : List ℕ) (o : Outcome) → IsAction action → IsMade name action moment o (old name) (new name) → OthersStay name old new → Ends o ending s before after
        → OverOwn start mirrors name None (IsCallDeed start mirrors name action moment ending old new s before after)
    call_one name action ending o is made others ends x at own = record {
      outcome = o;
      called = record {
        member = x;
        at = at;
        is_action = is;
        made = subst (λ (m : Option (List ℕ)). IsMadeOn m name action moment o old new) (sym own) made;
        others = subst (λ (m : Option (List ℕ)). AllButOwnStay m name old new) (sym own) others;
      };
      ends = ends;
    }

    call_two : (name second : List ℕ) (action : Action) (ending : List ℕ) (o : Outcome) → IsAction action → IsPairMade name action moment o (old name) (old second) (new name) (new second) → ThirdsStay name second old new
        → Ends o ending s before after → OverOwn start mirrors name (Some second) (IsCallDeed start mirrors name action moment ending old new s before after)
    call_two name second action ending o is made thirds ends x at own = record {
      outcome = o;
      called = record {
        member = x;
        at = at;
        is_action = is;
        made = subst (λ (m : Option (List ℕ)). IsMadeOn m name action moment o old new) (sym own) made;
        others = subst (λ (m : Option (List ℕ)). AllButOwnStay m name old new) (sym own) thirds;
      };
      ends = ends;
    }

    tended_one : (file : List ℕ) (t : Tending) (o : Outcome) → IsTendedDisk t o (old file) (new file) → OthersStay file old new → Ends o [] s before after → IsTendingDeed start mirrors file t old new s before after
    tended_one file t o made others ends = record {
      outcome = o;
      tended = λ name which x at own. record { member = x; at = at; disk = file; own = own; made = made; others = others };
      ends = ends;
    }

    command_one : (c : Command) (name : List ℕ) → IsCommand c → IsPartyTurn name (Ordered c) moment (old name) (new name) s before after → OthersStay name old new
        → OverOwn start mirrors name None (IsCallDeed start mirrors name (Orders c) moment (10 ∷ []) old new s before after)
    command_one c name is turned others = call_one name (Orders c) (10 ∷ []) turned.outcome is (turned.turned, turned.safe) others turned.ends

    turn_two : (i : Input) (action : Action) (name second : List ℕ) → IsAction action
        → (call : IsPairCall (turning name i moment) (IsDueTurn name i moment) (10 ∷ []) name second old new s before after) → IsPairMade name action moment call.outcome (old name) (old second) (new name) (new second)
        → ThirdsStay name second old new → OverOwn start mirrors name (Some second) (IsCallDeed start mirrors name action moment (10 ∷ []) old new s before after)
    turn_two i action name second is call made thirds = call_two name second action (10 ∷ []) call.outcome is made thirds call.ends

    command_two : (c : Command) (name second : List ℕ) → IsCommand c → IsPairCall (turning name (Ordered c) moment) (IsDueTurn name (Ordered c) moment) (10 ∷ []) name second old new s before after → ThirdsStay name second old new
        → OverOwn start mirrors name (Some second) (IsCallDeed start mirrors name (Orders c) moment (10 ∷ []) old new s before after)
    command_two c name second is call thirds = turn_two (Ordered c) (Orders c) name second is call (record { makes = call.made; safe = call.safe }) thirds

    -- the arrival of a message that is heard
    arrived : (P : List ℕ → Arrival → Type 0) (a : Arrival) → ((all : List ℕ) → IsHeard all a → P all a) → (o : Option (List ℕ)) → IfSome o (λ all. IsHeard all a × (rest ≡ Some [])) → IfSome o (λ all. (arrival : Arrival) × IsHeard all arrival × P all arrival)
    arrived P a by None heard = tt
    arrived P a by (Some all) heard = (a, heard.0, by all heard.0)

    take_one : (name : List ℕ) (a : Arrival) → IfSome left (λ all. IsHeard all a × (rest ≡ Some [])) → IsPartyTurn name (Arrived a) moment (old name) (new name) s before after → OthersStay name old new
        → IfSome left (λ all. (arrival : Arrival) × IsHeard all arrival × OverOwn start mirrors name None (IsCallDeed start mirrors name (Hears (taken all) (Some arrival)) moment (10 ∷ []) old new s before after))
    take_one name a heard turned others = arrived (λ all arrival. OverOwn start mirrors name None (IsCallDeed start mirrors name (Hears (taken all) (Some arrival)) moment (10 ∷ []) old new s before after)) a
        (λ all is. call_one name (Hears (taken all) (Some a)) (10 ∷ []) turned.outcome (is.heard, is.text) (turned.turned, turned.safe) others turned.ends) left heard

    take_two : (name second : List ℕ) (a : Arrival) → IfSome left (λ all. IsHeard all a × (rest ≡ Some []))
        → IsPairCall (turning name (Arrived a) moment) (IsDueTurn name (Arrived a) moment) (10 ∷ []) name second old new s before after → ThirdsStay name second old new
        → IfSome left (λ all. (arrival : Arrival) × IsHeard all arrival × OverOwn start mirrors name (Some second) (IsCallDeed start mirrors name (Hears (taken all) (Some arrival)) moment (10 ∷ []) old new s before after))
    take_two name second a heard call thirds = arrived (λ all arrival. OverOwn start mirrors name (Some second) (IsCallDeed start mirrors name (Hears (taken all) (Some arrival)) moment (10 ∷ []) old new s before after)) a
        (λ all is. turn_two (Arrived a) (Hears (taken all) (Some a)) name second (is.heard, is.text) call (record { makes = call.made; safe = call.safe }) thirds) left heard

    -- a batch that is taken
    batch_one : (name spool text : List ℕ) (entries : List Entry) → IsSpooling name spool text entries old new s before after → ThirdsStay name spool old new
        → OverOwn start mirrors name None (IsNobodys start mirrors spool → IsBatchCall start mirrors name spool text entries old new s before after)
    batch_one name spool text entries spooling thirds x at own nobodys = record {
      outcome = spooling.outcome;
      taken = record {
        member = x;
        at = at;
        alone = own;
        nobodys = nobodys;
        made = spooling.made;
        onward = spooling.onward;
        tells = spooling.in_step.party_tells;
        others = thirds;
      };
      ends = spooling.ends;
    }

    text_taken : (text : List ℕ) (o : Option (List ℕ)) → TakesBatch o rest text → IfSome o (λ all. all ≡ text)
    text_taken text None takes = tt
    text_taken text (Some all) takes = takes.0

    -- ---- over one disk

    module _ (is_back : List ℕ → Type 0) (unread : Type 0) (rows : List Row) where
      deed_one : (o : Order) → HasValues rows o → Obeys o moment s left rest before after old new → LeavesOthers o s is_back unread old new → IsDeedOf start mirrors o None moment s left before after old new
      deed_one order.Check values obeys leaves = aside_of_all start mirrors old new sound (leaves.others refl)
      deed_one (order.Init party role key v) values obeys leaves = tt
      deed_one (order.Load party peer label side pair) values obeys leaves = tt
      deed_one (order.Create party role) values obeys leaves = tt
      deed_one (order.Enter party peer label side) values obeys leaves = tt
      deed_one (order.Value party peer label side) values obeys leaves = aside_untouched party obeys.untouched (leaves.others refl)
      deed_one (order.Show party) values obeys leaves = aside_untouched party obeys.untouched (leaves.others refl)
      deed_one (order.Wipe party) values obeys leaves = tended_one party Wiping obeys.outcome (obeys.wiped, obeys.safe) (leaves.others refl) obeys.ends
      deed_one (order.Compare party other) values obeys leaves =
          aside_but_two start mirrors old new sound party other (inl obeys.first_stays) (inl obeys.second_stays) (leaves.others refl)
      deed_one order.Replay values obeys leaves = tt
      deed_one order.Audit values obeys leaves = aside_of_all start mirrors old new sound (leaves.others refl)
      deed_one (order.Drill seed events) values obeys leaves = aside_of_all start mirrors old new sound (leaves.others refl)
      deed_one (order.Pay party peer name ledger amount) values obeys leaves = aside_paid party ledger obeys.safe.party (leaves.others refl)
      deed_one (order.Accept party ledger) values (inl (why, same, stay)) leaves = λ none. aside_of_all start mirrors old new sound stay
      deed_one (order.Accept party ledger) values (inr (bytes, takes, paid)) leaves = aside_paid party ledger paid.safe.party (leaves.others refl)
      deed_one (order.Spool party spool) values (inl (why, same, stay)) leaves = inl (why, same, aside_of_all start mirrors old new sound stay)
      deed_one (order.Spool party spool) values (inr (text, entries, batch, takes, spooling)) leaves = inr (text, entries, batch, text_taken text left takes, batch_one party spool text entries spooling (leaves.others refl))
      deed_one (order.Outbox spool) values obeys leaves = aside_untouched spool obeys.untouched (leaves.others refl)
      deed_one order.Batch values obeys leaves = aside_of_all start mirrors old new sound (leaves.others refl)
      deed_one (order.Compact party) values obeys leaves = tended_one party Compacting obeys.outcome (obeys.rewritten, obeys.safe) (leaves.others refl) obeys.ends
      deed_one (order.Migrate party) values obeys leaves = tended_one party Migrating obeys.outcome (obeys.rewritten, obeys.safe) (leaves.others refl) obeys.ends
      deed_one (order.Take party) values (inl (unheard, same, alike)) leaves = inl (unheard, same, aside_but_one start mirrors old new sound party (inl (untouched_alike (old party) (new party) (sound party) alike)) (leaves.others refl))
      deed_one (order.Take party) values (inr (a, heard, turned)) leaves = inr (take_one party a heard turned (leaves.others refl))
      deed_one (order.Start party peer label) values obeys leaves = command_one (command.Start peer label) party tt obeys (leaves.others refl)
      deed_one (order.StartKk party peer label_new label single) values obeys leaves =
          command_one (command.StartKk peer label label_new single) party (label_given (first_of (name_of opt.New) rows) label_new values.2) obeys (leaves.others refl)
      deed_one (order.Ask party peer ultimate) values obeys leaves = command_one (command.Ask peer ultimate) party tt obeys (leaves.others refl)
      deed_one (order.Translate party peer ultimate) values obeys leaves =
          command_one (command.Translate peer ultimate) party (ident_given (first_of (name_of opt.Ultimate) rows) ultimate values.2) obeys (leaves.others refl)
      deed_one (order.Resend party peer) values obeys leaves = command_one (command.Resend peer) party tt obeys (leaves.others refl)
      deed_one (order.End party peer name) values obeys leaves = command_one (command.End peer name) party tt obeys (leaves.others refl)
      deed_one (order.Drop party peer) values obeys leaves = command_one (command.Drop peer) party tt obeys (leaves.others refl)
      deed_one (order.Purge party) values obeys leaves = command_one command.Purge party tt obeys (leaves.others refl)

      pub deed_of_one : (o : Order) → HasValues rows o → Obeys o moment s left rest before after old new → LeavesOthers o s is_back unread old new → IsDeed start mirrors o None moment s left before after old new
      deed_of_one o values obeys leaves = record {
        deed = deed_one o values obeys leaves;
        apart = λ none. aside_apart (party_of o) (ledger_of o) (leaves.others none.none_played) none.party none.other;
      }

      -- ---- over two

      module _ (m : List ℕ) where
        -- its deed, and that over files which are nobody's no party's is written
        with_apart : (o : Order) (party : List ℕ) → (IfSome (party_of o) (IsNobodys start mirrors) → IsNobodys start mirrors party) → ThirdsStay party m old new → IsDeedOf start mirrors o (Some m) moment s left before after old new
            → IsDeed start mirrors o (Some m) moment s left before after old new
        with_apart o party of_party thirds deed = record { deed = deed; apart = λ none. aside_but_two start mirrors old new sound party m (inr (of_party none.party)) (inr none.second) thirds }

        pub deed_of_two : (o : Order) → HasValues rows o → IsOfTwo o m → ObeysMirrored o m moment s left rest before after old new → LeavesMirrored o m s is_back unread old new
            → IsDeed start mirrors o (Some m) moment s left before after old new
        deed_of_two (order.Init party role key v) values of obeys leaves = with_apart (order.Init party role key v) party (λ is. is) leaves.others tt
        deed_of_two (order.Load party peer label side pair) values of obeys leaves = with_apart (order.Load party peer label side pair) party (λ is. is) leaves.others tt
        deed_of_two (order.Create party role) values of obeys leaves = with_apart (order.Create party role) party (λ is. is) leaves.others tt
        deed_of_two (order.Enter party peer label side) values of obeys leaves = with_apart (order.Enter party peer label side) party (λ is. is) leaves.others tt
        deed_of_two (order.Show party) values of obeys leaves = with_apart (order.Show party) party (λ is. is) leaves.others (λ x at own. record {
          member = x;
          at = at;
          second = m;
          has = own;
          safe = obeys.safe;
          others = subst (λ (n : Option (List ℕ)). AllButOwnStay n party old new) (sym own) leaves.others;
        })
        deed_of_two (order.Take party) values of (inl (unheard, same, stay)) leaves = with_apart (order.Take party) party (λ is. is) leaves.others (inl (unheard, same, aside_of_all start mirrors old new sound stay))
        deed_of_two (order.Take party) values of (inr (a, heard, call)) leaves = with_apart (order.Take party) party (λ is. is) leaves.others (inr (take_two party m a heard call leaves.others))
        deed_of_two (order.Start party peer label) values of obeys leaves = with_apart (order.Start party peer label) party (λ is. is) leaves.others (command_two (command.Start peer label) party m tt obeys leaves.others)
        deed_of_two (order.StartKk party peer label_new label single) values of obeys leaves =
            with_apart (order.StartKk party peer label_new label single) party (λ is. is) leaves.others
            (command_two (command.StartKk peer label label_new single) party m (label_given (first_of (name_of opt.New) rows) label_new values.2) obeys leaves.others)
        deed_of_two (order.Ask party peer ultimate) values of obeys leaves = with_apart (order.Ask party peer ultimate) party (λ is. is) leaves.others (command_two (command.Ask peer ultimate) party m tt obeys leaves.others)
        deed_of_two (order.Translate party peer ultimate) values of obeys leaves =
            with_apart (order.Translate party peer ultimate) party (λ is. is) leaves.others
            (command_two (command.Translate peer ultimate) party m (ident_given (first_of (name_of opt.Ultimate) rows) ultimate values.2) obeys leaves.others)
        deed_of_two (order.Resend party peer) values of obeys leaves = with_apart (order.Resend party peer) party (λ is. is) leaves.others (command_two (command.Resend peer) party m tt obeys leaves.others)
        deed_of_two (order.End party peer name) values of obeys leaves = with_apart (order.End party peer name) party (λ is. is) leaves.others (command_two (command.End peer name) party m tt obeys leaves.others)
        deed_of_two (order.Drop party peer) values of obeys leaves = with_apart (order.Drop party peer) party (λ is. is) leaves.others (command_two (command.Drop peer) party m tt obeys leaves.others)
        deed_of_two (order.Purge party) values of obeys leaves = with_apart (order.Purge party) party (λ is. is) leaves.others (command_two command.Purge party m tt obeys leaves.others)
        deed_of_two order.Check values of obeys leaves = absurd of
        deed_of_two order.Replay values of obeys leaves = absurd of
        deed_of_two order.Audit values of obeys leaves = absurd of
        deed_of_two order.Batch values of obeys leaves = absurd of
        deed_of_two (order.Value party peer label side) values of obeys leaves = absurd of
        deed_of_two (order.Compact party) values of obeys leaves = absurd of
        deed_of_two (order.Migrate party) values of obeys leaves = absurd of
        deed_of_two (order.Wipe party) values of obeys leaves = absurd of
        deed_of_two (order.Compare party other) values of obeys leaves = absurd of
        deed_of_two (order.Pay party peer name ledger amount) values of obeys leaves = absurd of
        deed_of_two (order.Accept party ledger) values of obeys leaves = absurd of
        deed_of_two (order.Spool party spool) values of obeys leaves = absurd of
        deed_of_two (order.Outbox spool) values of obeys leaves = absurd of
        deed_of_two (order.Drill seed events) values of obeys leaves = absurd of

-- no memory was left for the order, and nothing is done
pub deed_idle : (start : World) (mirrors : List ℕ → Option (List ℕ)) (e : List ℕ → View) → ((name : List ℕ) → IsSound (e name)) → (moment : ℕ) (left before : Option (List ℕ)) (rows : List Row) (o : Order) → HasValues rows o
    → (m : Option (List ℕ)) → ((second : List ℕ) → m ≡ Some second → IsOfTwo o second) → IsDeed start mirrors o m moment status.NoMemory left before before e e
deed_idle start mirrors e sound moment left before rows o values None of =
    deed_of_one start mirrors e e sound moment status.NoMemory left left before before (λ name. Unit {0}) (Unit {0}) rows o values (idle moment left before e sound o) (leaves_all o status.NoMemory (λ name. Unit {0}) (Unit {0}) e (λ is. is) tt)
deed_idle start mirrors e sound moment left before rows o values (Some second) of =
    deed_of_two start mirrors e e sound moment status.NoMemory left left before before (λ name. Unit {0}) (Unit {0}) rows second o values (of second refl)
    (idle_mirrored moment left before e sound o second (of second refl)) (left_all o second status.NoMemory (λ name. Unit {0}) (Unit {0}) e (λ is. is) (λ reading. tt))
