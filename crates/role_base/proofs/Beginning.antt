-- An exchange is begun only with a peer with whom none stands.
use Rattle.std.proofs.Common.{◌≡◌, ℕ, Bool, true, false, cond, Option, Some, None, List, [], ◌∷◌, ◌++◌, bytes_eq, refl, sym, ap, subst, ◌∙◌}
use Rattle.std.specs.Prelude.{is_none, is_some}
use Rattle.std.specs.List.{find}
use Rattle.std.proofs.lemmas.Bool.{and_parts, false_from_ne_true}
use Rattle.std.proofs.lemmas.Slice.Eq.{bytes_eq-Decides}
use Rattle.x_base.specs.declared.party.Side.{Side}
use Rattle.x_gen.specs.declared.generator.Gen.{Gen}
use Rattle.party_tables.specs.declared.link.LinkRec.{LinkRec}
use Rattle.party_tables.specs.declared.exchange.Exchange.{Exchange}
use Rattle.party_state.specs.declared.edit.Edit.{Edit}
use Rattle.party_state.specs.declared.edit.Edit.TheVariants.{PutExchange}
use Rattle.party_state.specs.State.{Party, is_usable, first_link, exchange_with, apply_edit}
use Rattle.party_state.specs.Verdicts.{Test}
use Rattle.role_base.specs.Beginning.{AllBeginFree}
use Rattle.role_base.specs.Exchanges.{dropped}
use Rattle.role_base.specs.Sending.{sending_drawn}
use Rattle.role_base.proofs.PartyLaws.{ExchangeLaws, exchange_put}

first_passes : {X : Type 0} (f : X → Bool) (xs : List X) (x : X) → find f xs ≡ Some x → f x ≡ true
first_passes f [] x h = cc
first_passes f (y ∷ ys) x h = go (f y) refl h (first_passes f ys x)
  where
    go : (b : Bool) → f y ≡ b → cond b (Some y) (find f ys) ≡ Some x → (find f ys ≡ Some x → f x ≡ true) → f x ≡ true
    go true e h more = let i : y ≡ x = cc in subst (λ z. f z ≡ true) i e
    go false e h more = more h

-- the first usable link with a peer is with that peer
pub first_peer : (p : Party) (peer : List ℕ) (side : Side) (l : LinkRec) → first_link peer side p ≡ Some l → l.peer ≡ peer
first_peer p peer side l h = sym ((bytes_eq-Decides peer l.peer).0 (and_parts (bytes_eq peer l.peer) _ (first_passes (is_usable peer side) p.links l h)).0)

pub none_stands : {A : Type 0} (o : Option A) → is_none o ≡ true → o ≡ None
none_stands None h = refl
none_stands (Some x) h = absurd (cc)

pub free_with : (p : Party) (peer other : List ℕ) → other ≡ peer → is_none (exchange_with peer p) ≡ true → exchange_with other p ≡ None
free_with p peer other e h = subst (λ (x : List ℕ). exchange_with x p ≡ None) (sym e) (none_stands (exchange_with peer p) h)

there_not_none : {A : Type 0} (o : Option A) → is_some o ≡ true → o ≡ None → ⊥
there_not_none None s n = cc
there_not_none (Some x) s n = cc

-- a peer with whom none stands isn't one with whom one stands
pub peers_apart : (p : Party) (peer other : List ℕ) → is_some (exchange_with peer p) ≡ true → is_none (exchange_with other p) ≡ true → bytes_eq other peer ≡ false
peers_apart p peer other there free = false_from_ne_true (bytes_eq other peer) (λ e. (let same : peer ≡ other = sym ((bytes_eq-Decides other peer).0 e) in there_not_none (exchange_with peer p) there (free_with p other peer same free)))

pub begin_append : (p : Party) (es fs : List Edit) → AllBeginFree p es → AllBeginFree p fs → AllBeginFree p (es ++ fs)
begin_append p [] fs a b = b
begin_append p (e ∷ es) fs a b = (a.0, begin_append p es fs a.1 b)

pub dropped_begin : (p : Party) (o : Option LinkRec) → AllBeginFree p (dropped o)
dropped_begin p None = tt
dropped_begin p (Some l) = (tt, tt)

pub sending_begins : (p : Party) (front : List Test) (l : LinkRec) (drawn : Option (ℕ × Gen)) → exchange_with l.peer p ≡ None → AllBeginFree p (sending_drawn p front l drawn).edits
sending_begins p front l None f = tt
sending_begins p front l (Some d) f = (tt, (tt, (tt, (f, tt))))

-- to begin an exchange where none stands does change something
pub begins_something : ExchangeLaws → (p : Party) (e : Exchange) → exchange_with e.peer p ≡ None → apply_edit (PutExchange e) p ≡ p → ⊥
begins_something exchanges p e free same =
    let put : exchange_with e.peer (apply_edit (PutExchange e) p) ≡ Some e = exchange_put exchanges e p in
    let z : None ≡ Some e = sym free ∙ (ap (λ (q : Party). exchange_with e.peer q) (sym same) ∙ put) in
    cc
