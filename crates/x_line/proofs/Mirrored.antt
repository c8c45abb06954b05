-- A second disk comes with an order that acts on two, and has another name than the party.
use Rattle.std.proofs.Common.{◌≡◌, ◌≢◌, ◌∙◌, ℕ, Bool, true, false, List, [], ◌∷◌, Option, Some, None, refl, sym, ap}
use Rattle.std.specs.Prelude.{◌&&◌, ◌++◌, find, if◌then◌else◌}
use Rattle.clap.specs.Words.{Row, first_of}
use Rattle.x_line.specs.declared.order_kind.OrderKind.{OrderKind}
use Rattle.x_line.specs.declared.order.Order.{Order}
use Rattle.x_line.specs.declared.order.Order.TheVariants as order
use Rattle.x_line.specs.declared.opt.Opt.{Opt}
use Rattle.x_line.specs.declared.opt.Opt.TheVariants as opt
use Rattle.x_line.specs.Laws.{MirrorsApart}
use Rattle.x_line.specs.Line.{is_line, rows_of_line}
use Rattle.x_line.specs.LineValues.{named_kind, given, is_given, other_of}
use Rattle.x_line.specs.Needs.{is_refused, need_of}
use Rattle.x_line.specs.Options.{name_of}
use Rattle.x_line.specs.Orders.{IsMirrored, kind_of}
use Rattle.x_line.specs.Usage.{bad_of, first_fault, missing_of, options_fault, rows_fault, unwanted_of, usage_of}
use Rattle.x_line.specs.declared.usage.UsageKind.TheVariants as kind
use Rattle.x_values.specs.Words.{ident_of}
use Rattle.x_line.proofs.Limiting.{apart}

-- what is found nowhere isn't at any place
behind : (b : Bool) (y : Opt) (o : Option Opt) → (if b then Some y else o) ≡ None → (b ≡ false) × (o ≡ None)
behind true y o h = absurd cc
behind false y o h = (refl, h)

none_at : (p : Opt → Bool) (front back : List Opt) (x : Opt) → find p (front ++ (x ∷ back)) ≡ None → p x ≡ false
none_at p [] back x h = (behind (p x) x (find p back) h).0
none_at p (y ∷ front) back x h = none_at p front back x (behind (p y) y (find p (front ++ (x ∷ back))) h).1

abbrev front : List Opt
front = opt.Party ∷ opt.Role ∷ opt.Genkey ∷ opt.Genseed ∷ opt.Peer ∷ opt.Label ∷ opt.Side ∷ opt.Key ∷ opt.New ∷ opt.Ultimate ∷ opt.Name ∷ opt.Seed ∷ opt.Events ∷ opt.Spool ∷ []

abbrev back : List Opt
back = opt.Ledger ∷ opt.Amount ∷ opt.Single ∷ opt.Tell ∷ []

-- a second disk that a line gives is given by its option, which such a kind of order doesn't refuse
refused : (k : OrderKind) (rows : List Row) (m : List ℕ) → unwanted_of k rows ≡ None → is_refused (need_of k opt.Mirror) ≡ true → other_of opt.Mirror rows ≡ Some m → ⊥
refused k rows m h refuses is = go (first_of (name_of opt.Mirror) rows) refl
  where
    test : (is_given opt.Mirror rows && is_refused (need_of k opt.Mirror)) ≡ false
    test = none_at (λ o. is_given o rows && is_refused (need_of k o)) front back opt.Mirror h

    go : (text : Option (List ℕ)) → first_of (name_of opt.Mirror) rows ≡ text → ⊥
    go None e = let bad = rw e at is in cc bad
    go (Some t) e = let bad = rw (e, refuses) at test in cc bad

none_unwanted : (u m b : Option Opt) → first_fault u m b ≡ None → u ≡ None
none_unwanted (Some o) m b h = absurd cc
none_unwanted None m b h = refl

none_of_rows : (k : OrderKind) (rows : List Row) → rows_fault rows ≡ None → named_kind rows ≡ Some k → unwanted_of k rows ≡ None
none_of_rows k rows h named =
    let none : options_fault (Some k) rows ≡ None = ap (λ (c : Option OrderKind). options_fault c rows) (sym named) ∙ h in
    none_unwanted (unwanted_of k rows) (missing_of k rows) (bad_of rows) none

no_fault : (words : List (List ℕ)) → usage_of words ≡ None → rows_fault (rows_of_line words) ≡ None
no_fault words h = go (is_line words) h
  where
    go : (b : Bool) → (if b then rows_fault (rows_of_line words) else Some kind.Line) ≡ None → rows_fault (rows_of_line words) ≡ None
    go true h = h
    go false h = absurd cc

module _ (words : List (List ℕ)) (mirror : List ℕ) where
  wrong : (o : Order) → is_refused (need_of (kind_of o) opt.Mirror) ≡ true → IsMirrored words o mirror → other_of opt.Mirror (rows_of_line words) ≡ Some mirror → ⊥
  wrong o refuses is given = refused (kind_of o) (rows_of_line words) mirror (none_of_rows (kind_of o) (rows_of_line words) (no_fault words is.0) is.1.0) refuses given

  right : (party : List ℕ) → given ident_of opt.Party (rows_of_line words) ≡ Some party → other_of opt.Mirror (rows_of_line words) ≡ Some mirror → party ≢ mirror
  right party p m = apart party mirror (given ident_of opt.Party (rows_of_line words)) (given ident_of opt.Mirror (rows_of_line words)) p m

pub mirrors_apart : MirrorsApart
mirrors_apart words (order.Init party role key v) m is = right words m party is.1.1.0 is.2
mirrors_apart words (order.Create party role) m is = right words m party is.1.1.0 is.2
mirrors_apart words (order.Load party peer label side pair) m is = right words m party is.1.1.0 is.2
mirrors_apart words (order.Enter party peer label side) m is = right words m party is.1.1.0 is.2
mirrors_apart words (order.Start party peer label) m is = right words m party is.1.1.0 is.2
mirrors_apart words (order.StartKk party peer new label single) m is = right words m party is.1.1.0 is.2
mirrors_apart words (order.Ask party peer ultimate) m is = right words m party is.1.1.0 is.2
mirrors_apart words (order.Translate party peer ultimate) m is = right words m party is.1.1.0 is.2
mirrors_apart words (order.Take party) m is = right words m party is.1.1 is.2
mirrors_apart words (order.Purge party) m is = right words m party is.1.1 is.2
mirrors_apart words (order.Show party) m is = right words m party is.1.1 is.2
mirrors_apart words (order.Resend party peer) m is = right words m party is.1.1.0 is.2
mirrors_apart words (order.Drop party peer) m is = right words m party is.1.1.0 is.2
mirrors_apart words (order.End party peer name) m is = right words m party is.1.1.0 is.2
mirrors_apart words (order.Compare party mirror) m is = cc (is.2)
mirrors_apart words order.Check m is = wrong words m order.Check refl is is.2
mirrors_apart words order.Replay m is = wrong words m order.Replay refl is is.2
mirrors_apart words order.Audit m is = wrong words m order.Audit refl is is.2
mirrors_apart words order.Batch m is = wrong words m order.Batch refl is is.2
mirrors_apart words (order.Value party peer label side) m is = wrong words m (order.Value party peer label side) refl is is.2
mirrors_apart words (order.Compact party) m is = wrong words m (order.Compact party) refl is is.2
mirrors_apart words (order.Migrate party) m is = wrong words m (order.Migrate party) refl is is.2
mirrors_apart words (order.Wipe party) m is = wrong words m (order.Wipe party) refl is is.2
mirrors_apart words (order.Pay party peer name ledger amount) m is = wrong words m (order.Pay party peer name ledger amount) refl is is.2
mirrors_apart words (order.Accept party ledger) m is = wrong words m (order.Accept party ledger) refl is is.2
mirrors_apart words (order.Spool party spool) m is = wrong words m (order.Spool party spool) refl is is.2
mirrors_apart words (order.Outbox spool) m is = wrong words m (order.Outbox spool) refl is is.2
mirrors_apart words (order.Drill seed events) m is = wrong words m (order.Drill seed events) refl is is.2
