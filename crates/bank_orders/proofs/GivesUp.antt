-- What becomes of an exchange that is given up: of its keys, of a new key-encrypting key, and of itself.
use Rattle.std.proofs.Common.{◌≡◌, ◌≢◌, inl, inr, ℕ, ◌↔◌, false, true, Option, Some, None, List, [], ◌∷◌, ◌++◌, bytes_eq, refl, sym, ap, subst, ◌∙◌}
use Rattle.std.proofs.lemmas.Bool.{false_from_ne_true}
use Rattle.std.proofs.lemmas.Slice.Eq.{bytes_eq-Decides}
use Rattle.x_base.specs.declared.key_name.KeyName.{KeyName}
use Rattle.x_base.specs.declared.verdict.Verdict.TheVariants.{Accept}
use Rattle.party_tables.specs.declared.link.LinkKey.{LinkKey}
use Rattle.party_tables.specs.declared.link.LinkRec.{LinkRec}
use Rattle.party_tables.specs.declared.key.KeyRec.{KeyRec}
use Rattle.party_tables.specs.declared.key.RecordKey.{RecordKey}
use Rattle.party_tables.specs.declared.key.KeyStatus.TheVariants.{Ended}
use Rattle.party_tables.specs.declared.exchange.Via.{Via}
use Rattle.party_tables.specs.declared.exchange.Via.TheVariants as vias
use Rattle.party_tables.specs.declared.exchange.Kind.{Kind}
use Rattle.party_tables.specs.declared.exchange.Kind.TheVariants as kind
use Rattle.party_tables.specs.declared.exchange.Exchange.{Exchange}
use Rattle.party_state.specs.declared.edit.Edit.{Edit}
use Rattle.party_state.specs.declared.edit.Edit.TheVariants.{DropExchange}
use Rattle.party_tables.specs.Tables.{find_row}
use Rattle.party_tables.specs.Keys.{same_link, same_record, link_key, record_key, exchange_key, sends}
use Rattle.party_tables.specs.Names.{name_behind}
use Rattle.party_state.specs.State.{Party, apply, apply_edit, link_with, record_with, exchange_with}
use Rattle.party_state.specs.Rows.{Row}
use Rattle.role_base.specs.Exchanges.{record_of, dropped, ended}
use Rattle.role_base.proofs.PartyLaws.{LinkLaws, KeyLaws, ExchangeLaws, LinksDropped, key_put_over, exchange_dropped}
use Rattle.role_base.proofs.TwinKeys.{behind_other}
use Rattle.bank_orders.specs.GivingUp.{given_up, given_up_in, drop}
use Rattle.bank_orders.specs.GivesUp.{SentDataKey, SentNewKk, GivesUp}

-- when

gives_up_by : (p : Party) (peer : List ℕ) (o : Option Exchange) → exchange_with peer p ≡ o → (drop p peer).verdict ≡ Accept → (e : Exchange) × (exchange_with peer p ≡ Some e)
gives_up_by p peer None f h = absurd (cc)
gives_up_by p peer (Some e) f h = (e, f)

pub gives_up_exactly : (p : Party) (peer : List ℕ) → ((drop p peer).verdict ≡ Accept) ↔ ((e : Exchange) × (exchange_with peer p ≡ Some e))
gives_up_exactly p peer = (gives_up_by p peer (exchange_with peer p) refl, (λ s. rw s.1 refl))

-- a look-up sees its own table alone

keys_alike : (p q : Party) → p.keys ≡ q.keys → (k : RecordKey) → record_with k p ≡ record_with k q
keys_alike p q e k = ap (λ (ks : List KeyRec). find_row record_key same_record k ks) e

links_alike : (p q : Party) → p.links ≡ q.links → (k : LinkKey) → link_with k p ≡ link_with k q
links_alike p q e k = ap (λ (ls : List LinkRec). find_row link_key same_link k ls) e

exchanges_alike : (p q : Party) → p.exchanges ≡ q.exchanges → (peer : List ℕ) → exchange_with peer p ≡ exchange_with peer q
exchanges_alike p q e peer = ap (λ (es : List Exchange). find_row exchange_key bytes_eq peer es) e

-- what a list of edits does to the three tables
record Splits (p q : Party) (peer : List ℕ) (of_keys of_links : List Edit) : Type 0 where
  keys : q.keys ≡ (apply of_keys p).keys
  links : q.links ≡ (apply of_links p).links
  exchanges : q.exchanges ≡ (apply_edit (DropExchange peer) p).exchanges

split_sent : (p : Party) (peer : List ℕ) (l : Option LinkRec) (k : Option KeyRec) → Splits p (apply ((dropped l ++ ended k) ++ DropExchange peer ∷ []) p) peer (ended k) (dropped l)
split_sent p peer None None = record { keys = refl; links = refl; exchanges = refl }
split_sent p peer None (Some k) = record { keys = refl; links = refl; exchanges = refl }
split_sent p peer (Some l) None = record { keys = refl; links = refl; exchanges = refl }
split_sent p peer (Some l) (Some k) = record { keys = refl; links = refl; exchanges = refl }

split_pair : (p : Party) (peer : List ℕ) (j k : Option KeyRec) → Splits p (apply ((ended j ++ ended k) ++ DropExchange peer ∷ []) p) peer (ended j ++ ended k) []
split_pair p peer None None = record { keys = refl; links = refl; exchanges = refl }
split_pair p peer None (Some k) = record { keys = refl; links = refl; exchanges = refl }
split_pair p peer (Some j) None = record { keys = refl; links = refl; exchanges = refl }
split_pair p peer (Some j) (Some k) = record { keys = refl; links = refl; exchanges = refl }

one_by_one : (p : Party) (j k : Option KeyRec) → apply (ended j ++ ended k) p ≡ apply (ended k) (apply (ended j) p)
one_by_one p None k = refl
one_by_one p (Some j) k = refl

module _ (of_links : LinkLaws) (of_keys : KeyLaws) (of_exchanges : ExchangeLaws) (links_dropped : LinksDropped) where
  -- a key that ends, where its record stands, and the others
  ends_one : (p : Party) (key : RecordKey) (o : Option KeyRec) (k : KeyRec) → record_with key p ≡ o → record_with key p ≡ Some k → record_with key (apply (ended o) p) ≡ Some (record k { status = Ended })
  ends_one p key None k f h = absurd (cc)
  ends_one p key (Some r) k f h = let e : r ≡ k = cc in rw e (key_put_over of_keys key k (record k { status = Ended }) p h refl)

  keeps_others : (p : Party) (key : RecordKey) (o : Option KeyRec) → record_with key p ≡ o → (j : RecordKey) → j ≢ key → record_with j (apply (ended o) p) ≡ record_with j p
  keeps_others p key None f j n = refl
  keeps_others p key (Some r) f j n =
      let ends : KeyRec = record r { status = Ended } in
      let other : same_record j (record_key r) ≡ false = false_from_ne_true (same_record j (record_key r)) (λ e. n ((of_keys.same j (record_key r)).0 e ∙ sym (of_keys.found key r p f))) in
      of_keys.put j (record r { status = Ended }) p ∙ rw other refl

  -- a link that goes, and the others
  drops_one : (p : Party) (key : LinkKey) (o : Option LinkRec) → link_with key p ≡ o → link_with key (apply (dropped o) p) ≡ None
  drops_one p key None f = f
  drops_one p key (Some l) f = let s : same_link key (link_key l) ≡ true = (of_links.same key (link_key l)).1 (of_links.found key l p f) in links_dropped key (link_key l) p ∙ rw s refl

  leaves_others : (p : Party) (key : LinkKey) (o : Option LinkRec) → link_with key p ≡ o → (j : LinkKey) → j ≢ key → link_with j (apply (dropped o) p) ≡ link_with j p
  leaves_others p key None f j n = refl
  leaves_others p key (Some l) f j n =
      let other : same_link j (link_key l) ≡ false = false_from_ne_true (same_link j (link_key l)) (λ e. n ((of_links.same j (link_key l)).0 e ∙ sym (of_links.found key l p f))) in
      links_dropped j (link_key l) p ∙ rw other refl

  -- the exchange goes, and the others stay
  frees : (p q : Party) (peer : List ℕ) → q.exchanges ≡ (apply_edit (DropExchange peer) p).exchanges → exchange_with peer q ≡ None
  frees p q peer e = exchanges_alike q (apply_edit (DropExchange peer) p) e peer ∙ exchange_dropped of_exchanges peer p

  frees_alone : (p q : Party) (peer : List ℕ) → q.exchanges ≡ (apply_edit (DropExchange peer) p).exchanges → (other : List ℕ) → other ≢ peer → exchange_with other q ≡ exchange_with other p
  frees_alone p q peer e other n =
      let b : bytes_eq other peer ≡ false = false_from_ne_true (bytes_eq other peer) (λ t. n ((bytes_eq-Decides other peer).0 t)) in
      exchanges_alike q (apply_edit (DropExchange peer) p) e other ∙ (of_exchanges.drop other peer p ∙ rw b refl)

  -- the same by the kind of the exchange

  record Leaves (p q : Party) (peer : List ℕ) (x : Kind) : Type 0 where
    ended : (name : KeyName) (k : KeyRec) → SentDataKey x name → record_of p peer name ≡ Some k → record_of q peer name ≡ Some (record k { status = Ended })
    kept : (k : RecordKey) → (k.peer ≡ peer → SentDataKey x k.name → ⊥) → record_with k q ≡ record_with k p
    withdrawn : (new : List ℕ) → SentNewKk x new → link_with (sends peer new) q ≡ None
    links : (k : LinkKey) → ((new : List ℕ) → SentNewKk x new → k ≢ sends peer new) → link_with k q ≡ link_with k p
    exchanges : q.exchanges ≡ (apply_edit (DropExchange peer) p).exchanges

  named : (j : RecordKey) (peer : List ℕ) (name : KeyName) → j ≡ record { peer = peer; name = name } → (j.peer ≡ peer) × (j.name ≡ name)
  named j peer name e = (ap (λ (x : RecordKey). x.peer) e, ap (λ (x : RecordKey). x.name) e)

  -- a key that was sent alone: what becomes of it, however it went
  sent_ends : (p q : Party) (peer : List ℕ) (sent : KeyName) → q.keys ≡ (apply (ended (record_of p peer sent)) p).keys → (name : KeyName) (k : KeyRec) → name ≡ sent → record_of p peer name ≡ Some k → record_of q peer name ≡ Some (record k { status = Ended })
  sent_ends p q peer sent e name k i f =
      let at : record_of p peer sent ≡ Some k = subst (λ (n : KeyName). record_of p peer n ≡ Some k) i f in
      let done : record_of q peer sent ≡ Some (record k { status = Ended }) =
      keys_alike q (apply (ended (record_of p peer sent)) p) e (record { peer = peer; name = sent }) ∙ ends_one p (record { peer = peer; name = sent }) (record_of p peer sent) k refl at
      in
      subst (λ (n : KeyName). record_of q peer n ≡ Some (record k { status = Ended })) (sym i) done

  sent_kept : (p q : Party) (peer : List ℕ) (sent : KeyName) → q.keys ≡ (apply (ended (record_of p peer sent)) p).keys → (j : RecordKey) → (j.peer ≡ peer → j.name ≡ sent → ⊥) → record_with j q ≡ record_with j p
  sent_kept p q peer sent e j n =
      keys_alike q (apply (ended (record_of p peer sent)) p) e j
      ∙ keeps_others p (record { peer = peer; name = sent }) (record_of p peer sent) refl j (λ i. n (named j peer sent i).0 (named j peer sent i).1)

  -- with no new key-encrypting key
  leaves_alone : (p q : Party) (peer : List ℕ) (sent : KeyName) (via : Via) → Splits p q peer (ended (record_of p peer sent)) [] → ((new : List ℕ) → SentNewKk (kind.KeySent sent via) new → ⊥) → Leaves p q peer (kind.KeySent sent via)
  leaves_alone p q peer sent via s n = record {
    ended = sent_ends p q peer sent s.keys;
    kept = sent_kept p q peer sent s.keys;
    withdrawn = λ new i. absurd (n new i);
    links = λ k m. links_alike q p s.links k;
    exchanges = s.exchanges;
  }

  -- and with one
  leaves_with : (p q : Party) (peer : List ℕ) (sent : KeyName) (label new : List ℕ) → Splits p q peer (ended (record_of p peer sent)) (dropped (link_with (sends peer new) p)) → Leaves p q peer (kind.KeySent sent (vias.Direct label (Some new)))
  leaves_with p q peer sent label new s = record {
    ended = sent_ends p q peer sent s.keys;
    kept = sent_kept p q peer sent s.keys;
    withdrawn = λ other i. subst (λ (x : List ℕ). link_with (sends peer x) q ≡ None) (sym i) (links_alike q (apply (dropped (link_with (sends peer new) p)) p) s.links (sends peer new) ∙ drops_one p (sends peer new) (link_with (sends peer new) p) refl);
    links = λ k n. links_alike q (apply (dropped (link_with (sends peer new) p)) p) s.links k ∙ leaves_others p (sends peer new) (link_with (sends peer new) p) refl k (n new refl);
    exchanges = s.exchanges;
  }

  leaves_sent : (p : Party) (peer : List ℕ) (sent : KeyName) (via : Via) → Leaves p (apply (given_up p peer (kind.KeySent sent via) ++ DropExchange peer ∷ []) p) peer (kind.KeySent sent via)
  leaves_sent p peer sent (vias.Direct label (Some new)) =
      leaves_with p (apply (given_up p peer (kind.KeySent sent (vias.Direct label (Some new))) ++ DropExchange peer ∷ []) p) peer sent label new (split_sent p peer (link_with (sends peer new) p) (record_of p peer sent))
  leaves_sent p peer sent (vias.Direct label None) =
      leaves_alone p (apply (given_up p peer (kind.KeySent sent (vias.Direct label None)) ++ DropExchange peer ∷ []) p) peer sent (vias.Direct label None) (split_sent p peer None (record_of p peer sent)) (λ new i. i)
  leaves_sent p peer sent (vias.Distribution centre cta) =
      leaves_alone p (apply (given_up p peer (kind.KeySent sent (vias.Distribution centre cta)) ++ DropExchange peer ∷ []) p) peer sent (vias.Distribution centre cta) (split_sent p peer None (record_of p peer sent)) (λ new i. i)
  leaves_sent p peer sent (vias.Translation centre) =
      leaves_alone p (apply (given_up p peer (kind.KeySent sent (vias.Translation centre)) ++ DropExchange peer ∷ []) p) peer sent (vias.Translation centre) (split_sent p peer None (record_of p peer sent)) (λ new i. i)

  -- two keys: the first ends, then the second
  leaves_pair : (p : Party) (peer : List ℕ) (first : KeyName) → Leaves p (apply (given_up p peer (kind.PairSent first) ++ DropExchange peer ∷ []) p) peer (kind.PairSent first)
  leaves_pair p peer first = record { ended = ends; kept = keeps; withdrawn = λ new i. absurd i; links = λ k n. links_alike after p parts.links k; exchanges = parts.exchanges }
    where
      one : RecordKey
      one = record { peer = peer; name = first }

      two : RecordKey
      two = record { peer = peer; name = name_behind first }

      after : Party
      after = apply (given_up p peer (kind.PairSent first) ++ DropExchange peer ∷ []) p

      between : Party
      between = apply (ended (record_with one p)) p

      parts : Splits p after peer (ended (record_with one p) ++ ended (record_with two p)) []
      parts = split_pair p peer (record_with one p) (record_with two p)

      keys_are : after.keys ≡ (apply (ended (record_with two p)) between).keys
      keys_are = parts.keys ∙ ap (λ (x : Party). x.keys) (one_by_one p (record_with one p) (record_with two p))

      behind : two ≢ one
      behind = behind_other one two refl

      second_stands : record_with two between ≡ record_with two p
      second_stands = keeps_others p one (record_with one p) refl two behind

      ends_first : (k : KeyRec) → record_with one p ≡ Some k → record_with one after ≡ Some (record k { status = Ended })
      ends_first k f =
          keys_alike after (apply (ended (record_with two p)) between) keys_are one
          ∙ (keeps_others between two (record_with two p) second_stands one (λ e. behind (sym e))
          ∙ ends_one p one (record_with one p) k refl f)

      ends_second : (k : KeyRec) → record_with two p ≡ Some k → record_with two after ≡ Some (record k { status = Ended })
      ends_second k f = keys_alike after (apply (ended (record_with two p)) between) keys_are two ∙ ends_one between two (record_with two p) k second_stands (second_stands ∙ f)

      ends : (name : KeyName) (k : KeyRec) → SentDataKey (kind.PairSent first) name → record_of p peer name ≡ Some k → record_of after peer name ≡ Some (record k { status = Ended })
      ends name k (inl i) f = subst (λ (n : KeyName). record_of after peer n ≡ Some (record k { status = Ended })) (sym i) (ends_first k (subst (λ (n : KeyName). record_of p peer n ≡ Some k) i f))
      ends name k (inr i) f = subst (λ (n : KeyName). record_of after peer n ≡ Some (record k { status = Ended })) (sym i) (ends_second k (subst (λ (n : KeyName). record_of p peer n ≡ Some k) i f))

      keeps : (j : RecordKey) → (j.peer ≡ peer → SentDataKey (kind.PairSent first) j.name → ⊥) → record_with j after ≡ record_with j p
      keeps j n =
          keys_alike after (apply (ended (record_with two p)) between) keys_are j
          ∙ (keeps_others between two (record_with two p) second_stands j (λ e. n (named j peer (name_behind first) e).0 (inr (named j peer (name_behind first) e).1))
          ∙ keeps_others p one (record_with one p) refl j (λ e. n (named j peer first e).0 (inl (named j peer first e).1)))

  leaves : (p : Party) (peer : List ℕ) (x : Kind) → Leaves p (apply (given_up p peer x ++ DropExchange peer ∷ []) p) peer x
  leaves p peer (kind.KeySent sent via) = leaves_sent p peer sent via
  leaves p peer (kind.PairSent first) = leaves_pair p peer first
  leaves p peer (kind.Asked ultimate) = record { ended = λ name k i f. absurd i; kept = λ k n. refl; withdrawn = λ new i. absurd i; links = λ k n. refl; exchanges = refl }
  leaves p peer (kind.Translating ultimate value cta) = record { ended = λ name k i f. absurd i; kept = λ k n. refl; withdrawn = λ new i. absurd i; links = λ k n. refl; exchanges = refl }
  leaves p peer (kind.Ending name) = record { ended = λ name k i f. absurd i; kept = λ k n. refl; withdrawn = λ new i. absurd i; links = λ k n. refl; exchanges = refl }

  -- what is given up, whatever the row
  gives_up_row : (p : Party) (peer : List ℕ) (e : Exchange) (r : Row) → r.reply ≡ None → Leaves p (apply r.edits p) peer e.kind → GivesUp p (apply r.edits p) r peer e
  gives_up_row p peer e r s l = record {
    gone = frees p (apply r.edits p) peer l.exchanges;
    others = frees_alone p (apply r.edits p) peer l.exchanges;
    ended = l.ended;
    kept = l.kept;
    withdrawn = l.withdrawn;
    links = l.links;
    silent = s;
  }

  pub gives_up : (p : Party) (peer : List ℕ) (e : Exchange) → exchange_with peer p ≡ Some e → GivesUp p (apply (drop p peer).edits p) (drop p peer) peer e
  gives_up p peer e f =
      gives_up_row p peer e (drop p peer) refl (subst (λ (es : List Edit). Leaves p (apply es p) peer e.kind) (ap (λ (o : Option Exchange). given_up_in p peer o) (sym f)) (leaves p peer e.kind))
