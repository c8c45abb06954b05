-- Words in which nothing is wrong stand for one order.
use Rattle.std.proofs.Common.{◌≡◌, ◌∙◌, ℕ, Bool, true, false, List, Option, Some, None, refl, sym, ap}
use Rattle.std.specs.Prelude.{◌&&◌, is_some}
use Rattle.clap.specs.Words.{Row}
use Rattle.x_line.specs.declared.order_kind.OrderKind.{OrderKind}
use Rattle.x_line.specs.declared.order_kind.OrderKind.TheVariants as kinds
use Rattle.x_line.specs.declared.opt.Opt.{Opt}
use Rattle.x_line.specs.declared.opt.Opt.TheVariants as opt
use Rattle.x_line.specs.declared.order.Order.{Order}
use Rattle.x_line.specs.declared.order.Order.TheVariants as order
use Rattle.x_line.specs.LineValues.{named_kind, given, is_given, other_of}
use Rattle.x_line.specs.Laws.{HasOrder, OneOrder}
use Rattle.x_line.specs.Line.{is_line, rows_of_line}
use Rattle.x_line.specs.Orders.{HasValues, IsGiven, Says, is_whole, kind_of, mirror_of}
use Rattle.x_line.specs.Usage.{bad_of, first_fault, missing_of, options_fault, rows_fault, unwanted_of}
use Rattle.x_line.specs.Values.{events_of, role_of, side_of}
use Rattle.x_values.specs.Words.{count_of, ident_of, key_name_of, key_of, label_of, number_of, pair_of, one_or_two_of}
use Rattle.x_line.proofs.Checking.{whole}

-- ---- one order at most

abbrev with : {A : Type 0} → Option A → (A → Option Order) → Option Order
with None f = None
with (Some x) f = f x

abbrev for_party : List Row → (List ℕ → Order) → Option Order
for_party rows f = with (given ident_of opt.Party rows) (λ p. Some (f p))

abbrev for_peer : List Row → (List ℕ → List ℕ → Option Order) → Option Order
for_peer rows f = with (given ident_of opt.Party rows) (λ p. with (given ident_of opt.Peer rows) (f p))

-- the order that the values make
abbrev made : OrderKind → List Row → Option Order
made kinds.Check rows = Some order.Check
made kinds.Replay rows = Some order.Replay
made kinds.Audit rows = Some order.Audit
made kinds.Batch rows = Some order.Batch
made kinds.Create rows = with (given ident_of opt.Party rows) (λ p. with (given role_of opt.Role rows) (λ r. Some (order.Create p r)))
made kinds.Init rows = with (given ident_of opt.Party rows) (λ p. with (given role_of opt.Role rows) (λ r.
    with (given pair_of opt.Genkey rows) (λ k. with (given key_of opt.Genseed rows) (λ v. Some (order.Init p r k v)))))
made kinds.Load rows = for_peer rows (λ p q. with (given label_of opt.Label rows) (λ l.
    with (given side_of opt.Side rows) (λ s. with (given one_or_two_of opt.Key rows) (λ k. Some (order.Load p q l s k)))))
made kinds.Enter rows = for_peer rows (λ p q. with (given label_of opt.Label rows) (λ l.
    with (given side_of opt.Side rows) (λ s. Some (order.Enter p q l s))))
made kinds.Start rows = for_peer rows (λ p q. Some (order.Start p q (given label_of opt.Label rows)))
made kinds.StartKk rows = for_peer rows (λ p q. with (given label_of opt.New rows) (λ n.
    Some (order.StartKk p q n (given label_of opt.Label rows) (is_given opt.Single rows))))
made kinds.Ask rows = for_peer rows (λ p q. Some (order.Ask p q (given ident_of opt.Ultimate rows)))
made kinds.Translate rows = for_peer rows (λ p q. with (given ident_of opt.Ultimate rows) (λ u. Some (order.Translate p q u)))
made kinds.Take rows = for_party rows order.Take
made kinds.Purge rows = for_party rows order.Purge
made kinds.Show rows = for_party rows order.Show
made kinds.Value rows = for_peer rows (λ p q. with (given label_of opt.Label rows) (λ l.
    with (given side_of opt.Side rows) (λ s. Some (order.Value p q l s))))
made kinds.Compact rows = for_party rows order.Compact
made kinds.Migrate rows = for_party rows order.Migrate
made kinds.Wipe rows = for_party rows order.Wipe
made kinds.Compare rows = with (given ident_of opt.Party rows) (λ p. with (other_of opt.Mirror rows) (λ m. Some (order.Compare p m)))
made kinds.Resend rows = for_peer rows (λ p q. Some (order.Resend p q))
made kinds.Drop rows = for_peer rows (λ p q. Some (order.Drop p q))
made kinds.End rows = for_peer rows (λ p q. with (given key_name_of opt.Name rows) (λ n. Some (order.End p q n)))
made kinds.Pay rows = for_peer rows (λ p q. with (given key_name_of opt.Name rows) (λ n.
    with (other_of opt.Ledger rows) (λ l. with (given count_of opt.Amount rows) (λ a. Some (order.Pay p q n l a)))))
made kinds.Accept rows = with (given ident_of opt.Party rows) (λ p. with (other_of opt.Ledger rows) (λ l. Some (order.Accept p l)))
made kinds.Spool rows = with (given ident_of opt.Party rows) (λ p. with (other_of opt.Spool rows) (λ s. Some (order.Spool p s)))
made kinds.Outbox rows = with (other_of opt.Spool rows) (λ s. Some (order.Outbox s))
made kinds.Drill rows = with (given number_of opt.Seed rows) (λ s. with (given events_of opt.Events rows) (λ e. Some (order.Drill s e)))

made_is : (rows : List Row) (o : Order) → HasValues rows o → made (kind_of o) rows ≡ Some o
made_is rows order.Check h = refl
made_is rows order.Replay h = refl
made_is rows order.Audit h = refl
made_is rows order.Batch h = refl
made_is rows (order.Create p r) h = rw (h.0, h.1) refl
made_is rows (order.Init p r k v) h = rw (h.0, h.1, h.2, h.3) refl
made_is rows (order.Load p q l s k) h = rw (h.0, h.1, h.2, h.3, h.4) refl
made_is rows (order.Enter p q l s) h = rw (h.0, h.1, h.2, h.3) refl
made_is rows (order.Start p q l) h = rw (h.0, h.1, h.2) refl
made_is rows (order.StartKk p q n l s) h = rw (h.0, h.1, h.2, h.3, h.4) refl
made_is rows (order.Ask p q u) h = rw (h.0, h.1, h.2) refl
made_is rows (order.Translate p q u) h = rw (h.0, h.1, h.2) refl
made_is rows (order.Take p) h = rw h refl
made_is rows (order.Purge p) h = rw h refl
made_is rows (order.Show p) h = rw h refl
made_is rows (order.Value p q l s) h = rw (h.0, h.1, h.2, h.3) refl
made_is rows (order.Compact p) h = rw h refl
made_is rows (order.Migrate p) h = rw h refl
made_is rows (order.Wipe p) h = rw h refl
made_is rows (order.Compare p m) h = rw (h.1, h.0) refl
made_is rows (order.Resend p q) h = rw (h.0, h.1) refl
made_is rows (order.Drop p q) h = rw (h.0, h.1) refl
made_is rows (order.End p q n) h = rw (h.0, h.1, h.2) refl
made_is rows (order.Pay p q n l a) h = rw (h.3, h.0, h.1, h.2, h.4) refl
made_is rows (order.Accept p l) h = rw (h.1, h.0) refl
made_is rows (order.Spool p s) h = rw (h.1, h.0) refl
made_is rows (order.Outbox s) h = rw h refl
made_is rows (order.Drill s e) h = rw (h.0, h.1) refl

same : (rows : List Row) (a b : Order) → Says rows a → Says rows b → a ≡ b
same rows a b h k =
    let command : kind_of a ≡ kind_of b = cc (h.0, k.0) in
    let e : Some a ≡ Some b = sym (made_is rows a h.1) ∙ ap (λ (c : OrderKind). made c rows) command ∙ made_is rows b k.1 in
    cc

pub one_order : OneOrder
one_order words a b m n h k =
    let one = same (rows_of_line words) a b h.1 k.1 in
    (one, sym h.2 ∙ (ap (λ (o : Order). mirror_of (kind_of o) (rows_of_line words)) one ∙ k.2))

-- ---- and one at least

-- the value that is there, and the test of the others
record First {A : Type 0} (o : Option A) (rest : Bool) : Type 0 where
  pub value : A
  pub is : o ≡ Some value
  pub more : rest ≡ true

first : {A : Type 0} (o : Option A) (rest : Bool) → (is_some o && rest) ≡ true → First o rest
first (Some x) rest h = record { value = x; is = refl; more = h }
first None rest h = absurd cc

abbrev Made : OrderKind → List Row → Type 0
Made c rows = (o : Order) × (kind_of o ≡ c) × HasValues rows o

has_made : (c : OrderKind) (rows : List Row) → is_whole c rows ≡ true → Made c rows
has_made kinds.Check rows h = (order.Check, refl, tt)
has_made kinds.Replay rows h = (order.Replay, refl, tt)
has_made kinds.Audit rows h = (order.Audit, refl, tt)
has_made kinds.Batch rows h = (order.Batch, refl, tt)
has_made kinds.Create rows h =
    let p = first (given ident_of opt.Party rows) _ h in
    let r = first (given role_of opt.Role rows) _ p.more in
    (order.Create p.value r.value, refl, (p.is, r.is))
has_made kinds.Init rows h =
    let p = first (given ident_of opt.Party rows) _ h in
    let r = first (given role_of opt.Role rows) _ p.more in
    let k = first (given pair_of opt.Genkey rows) _ r.more in
    let v = first (given key_of opt.Genseed rows) _ k.more in
    (order.Init p.value r.value k.value v.value, refl, (p.is, r.is, k.is, v.is))
has_made kinds.Load rows h =
    let p = first (given ident_of opt.Party rows) _ h in
    let q = first (given ident_of opt.Peer rows) _ p.more in
    let l = first (given label_of opt.Label rows) _ q.more in
    let s = first (given side_of opt.Side rows) _ l.more in
    let k = first (given one_or_two_of opt.Key rows) _ s.more in
    (order.Load p.value q.value l.value s.value k.value, refl, (p.is, q.is, l.is, s.is, k.is))
has_made kinds.Enter rows h =
    let p = first (given ident_of opt.Party rows) _ h in
    let q = first (given ident_of opt.Peer rows) _ p.more in
    let l = first (given label_of opt.Label rows) _ q.more in
    let s = first (given side_of opt.Side rows) _ l.more in
    (order.Enter p.value q.value l.value s.value, refl, (p.is, q.is, l.is, s.is))
has_made kinds.Start rows h =
    let p = first (given ident_of opt.Party rows) _ h in
    let q = first (given ident_of opt.Peer rows) _ p.more in
    (order.Start p.value q.value (given label_of opt.Label rows), refl, (p.is, q.is, refl))
has_made kinds.StartKk rows h =
    let p = first (given ident_of opt.Party rows) _ h in
    let q = first (given ident_of opt.Peer rows) _ p.more in
    let n = first (given label_of opt.New rows) _ q.more in
    (order.StartKk p.value q.value n.value (given label_of opt.Label rows) (is_given opt.Single rows), refl, (p.is, q.is, n.is, refl, refl))
has_made kinds.Ask rows h =
    let p = first (given ident_of opt.Party rows) _ h in
    let q = first (given ident_of opt.Peer rows) _ p.more in
    (order.Ask p.value q.value (given ident_of opt.Ultimate rows), refl, (p.is, q.is, refl))
has_made kinds.Translate rows h =
    let p = first (given ident_of opt.Party rows) _ h in
    let q = first (given ident_of opt.Peer rows) _ p.more in
    let u = first (given ident_of opt.Ultimate rows) _ q.more in
    (order.Translate p.value q.value u.value, refl, (p.is, q.is, u.is))
has_made kinds.Take rows h = let p = first (given ident_of opt.Party rows) _ h in (order.Take p.value, refl, p.is)
has_made kinds.Purge rows h = let p = first (given ident_of opt.Party rows) _ h in (order.Purge p.value, refl, p.is)
has_made kinds.Show rows h = let p = first (given ident_of opt.Party rows) _ h in (order.Show p.value, refl, p.is)
has_made kinds.Value rows h =
    let p = first (given ident_of opt.Party rows) _ h in
    let q = first (given ident_of opt.Peer rows) _ p.more in
    let l = first (given label_of opt.Label rows) _ q.more in
    let s = first (given side_of opt.Side rows) _ l.more in
    (order.Value p.value q.value l.value s.value, refl, (p.is, q.is, l.is, s.is))
has_made kinds.Compact rows h = let p = first (given ident_of opt.Party rows) _ h in (order.Compact p.value, refl, p.is)
has_made kinds.Migrate rows h = let p = first (given ident_of opt.Party rows) _ h in (order.Migrate p.value, refl, p.is)
has_made kinds.Wipe rows h = let p = first (given ident_of opt.Party rows) _ h in (order.Wipe p.value, refl, p.is)
has_made kinds.Compare rows h =
    let p = first (given ident_of opt.Party rows) _ h in
    let m = first (other_of opt.Mirror rows) _ p.more in
    (order.Compare p.value m.value, refl, (p.is, m.is))
has_made kinds.Resend rows h =
    let p = first (given ident_of opt.Party rows) _ h in
    let q = first (given ident_of opt.Peer rows) _ p.more in
    (order.Resend p.value q.value, refl, (p.is, q.is))
has_made kinds.Drop rows h =
    let p = first (given ident_of opt.Party rows) _ h in
    let q = first (given ident_of opt.Peer rows) _ p.more in
    (order.Drop p.value q.value, refl, (p.is, q.is))
has_made kinds.End rows h =
    let p = first (given ident_of opt.Party rows) _ h in
    let q = first (given ident_of opt.Peer rows) _ p.more in
    let n = first (given key_name_of opt.Name rows) _ q.more in
    (order.End p.value q.value n.value, refl, (p.is, q.is, n.is))
has_made kinds.Pay rows h =
    let p = first (given ident_of opt.Party rows) _ h in
    let q = first (given ident_of opt.Peer rows) _ p.more in
    let n = first (given key_name_of opt.Name rows) _ q.more in
    let l = first (other_of opt.Ledger rows) _ n.more in
    let a = first (given count_of opt.Amount rows) _ l.more in
    (order.Pay p.value q.value n.value l.value a.value, refl, (p.is, q.is, n.is, l.is, a.is))
has_made kinds.Accept rows h =
    let p = first (given ident_of opt.Party rows) _ h in
    let l = first (other_of opt.Ledger rows) _ p.more in
    (order.Accept p.value l.value, refl, (p.is, l.is))
has_made kinds.Spool rows h =
    let p = first (given ident_of opt.Party rows) _ h in
    let s = first (other_of opt.Spool rows) _ p.more in
    (order.Spool p.value s.value, refl, (p.is, s.is))
has_made kinds.Outbox rows h = let s = first (other_of opt.Spool rows) _ h in (order.Outbox s.value, refl, s.is)
has_made kinds.Drill rows h =
    let s = first (given number_of opt.Seed rows) _ h in
    let e = first (given events_of opt.Events rows) _ s.more in
    (order.Drill s.value e.value, refl, (s.is, e.is))

none_wrong : (u m b : Option Opt) → first_fault u m b ≡ None → (m ≡ None) × (b ≡ None)
none_wrong (Some o) m b h = absurd cc
none_wrong None (Some o) b h = absurd cc
none_wrong None None (Some o) h = absurd cc
none_wrong None None None h = (refl, refl)

said : (rows : List Row) → rows_fault rows ≡ None → (o : Order) × Says rows o
said rows h = go (named_kind rows) refl
  where
    go : (c : Option OrderKind) → named_kind rows ≡ c → (o : Order) × Says rows o
    go None e = let bad : options_fault None rows ≡ None = ap (λ (c : Option OrderKind). options_fault c rows) (sym e) ∙ h in absurd cc
    go (Some c) e =
        let none : options_fault (Some c) rows ≡ None = ap (λ (c : Option OrderKind). options_fault c rows) (sym e) ∙ h in
        let p = none_wrong (unwanted_of c rows) (missing_of c rows) (bad_of rows) none in
        let m = has_made c rows (whole c rows p.0 p.1) in
        (m.0, (e ∙ ap (λ (c : OrderKind). Some c) (sym m.1), m.2))

pub has_order : HasOrder
has_order words h = go (is_line words) refl
  where
    go : (b : Bool) → is_line words ≡ b → (o : Order) × (mirror : Option (List ℕ)) × IsGiven words o mirror
    go false e = let bad = rw e at h in absurd cc
    go true e = let s = said (rows_of_line words) (rw e at h) in (s.0, mirror_of (kind_of s.0) (rows_of_line words), (h, s.1, refl))
