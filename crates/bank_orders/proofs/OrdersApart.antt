-- The edits of an accepted command's row are apart.
use Rattle.std.proofs.Common.{◌≡◌, ℕ, Bool, true, false, cond, not, ◌&&◌, is_none, Option, Some, None, List, [], ◌∷◌, ◌++◌, bytes_eq, refl, sym, subst}
use Rattle.std.specs.List.{find}
use Rattle.std.proofs.lemmas.Bool.{false_from_ne_true}
use Rattle.x_base.specs.declared.party.Side.TheVariants.{Sends}
use Rattle.x_gen.specs.declared.generator.Gen.{Gen}
use Rattle.x_gen.specs.Gen.{good_draw}
use Rattle.party_state.specs.declared.command.Command.{Command}
use Rattle.party_state.specs.declared.command.Command.TheVariants as command
use Rattle.party_tables.specs.declared.link.LinkKey.{LinkKey}
use Rattle.party_tables.specs.declared.link.LinkRec.{LinkRec}
use Rattle.party_tables.specs.declared.key.KeyRec.{KeyRec}
use Rattle.party_tables.specs.declared.exchange.Kind.{Kind}
use Rattle.party_tables.specs.declared.exchange.Kind.TheVariants as kind
use Rattle.party_tables.specs.declared.exchange.Exchange.{Exchange}
use Rattle.party_state.specs.declared.edit.Edit.TheVariants.{DropExchange}
use Rattle.party_tables.specs.Tables.{find_row}
use Rattle.party_tables.specs.Keys.{same_link, link_key, record_key, sends}
use Rattle.party_state.specs.Verdicts.{TestsHold, is_accept}
use Rattle.role_base.specs.Apart.{AreApart}
use Rattle.role_base.proofs.PartyLaws.{HeldIfAccepted, LinkLaws, KeyLaws}
use Rattle.role_base.proofs.TwinKeys.{other_record, records_apart}
use Rattle.x_base.specs.declared.key_name.KeyName.{KeyName}
use Rattle.party_tables.specs.Names.{name_behind}
use Rattle.role_base.proofs.SendingApart.{sending_apart}
use Rattle.party_state.specs.State.{Party, centre_label, link_with, exchange_with, is_usable}
use Rattle.role_base.specs.Exchanges.{record_of, new_link, dropped, ended}
use Rattle.bank_orders.specs.declared.draws.KkDrawn.{KkDrawn}
use Rattle.bank_orders.specs.Start.{if_ready, sending_link, start_tests, start_under}
use Rattle.bank_orders.specs.Draws.{kk_drawn}
use Rattle.bank_orders.specs.StartKk.{kk_tests, kk_sending, start_kk_under}
use Rattle.bank_orders.specs.Ask.{ask_of}
use Rattle.bank_orders.specs.Translate.{translate_drawn, translate_under}
use Rattle.bank_orders.specs.Resend.{resend_of}
use Rattle.bank_orders.specs.GivingUp.{given_up, given_up_in}
use Rattle.bank_orders.specs.Ending.{end_record}
use Rattle.bank_orders.specs.Orders.{command_row}

given_up_apart : KeyLaws → (p : Party) (peer : List ℕ) (o : Option Exchange) → AreApart (given_up_in p peer o)
given_up_apart keys p peer None = tt
given_up_apart keys p peer (Some e) = by_kind e.kind
  where
    by_parts : (l : Option LinkRec) (k : Option KeyRec) → AreApart ((dropped l ++ ended k) ++ DropExchange peer ∷ [])
    by_parts None None = (tt, tt)
    by_parts None (Some k) = ((refl, tt), (tt, tt))
    by_parts (Some l) None = ((refl, tt), (tt, tt))
    by_parts (Some l) (Some k) = ((refl, (refl, tt)), ((refl, tt), (tt, tt)))

    by_pair : (name : KeyName) (j k : Option KeyRec) → record_of p peer name ≡ j → record_of p peer (name_behind name) ≡ k → AreApart ((ended j ++ ended k) ++ DropExchange peer ∷ [])
    by_pair name None None f g = (tt, tt)
    by_pair name None (Some k) f g = ((refl, tt), (tt, tt))
    by_pair name (Some j) None f g = ((refl, tt), (tt, tt))
    by_pair name (Some j) (Some k) f g = ((other_record keys (record_key j) (record_key k) (records_apart keys.found p peer name j k f g), (refl, tt)), ((refl, tt), (tt, tt)))

    by_kind : (k : Kind) → AreApart (given_up p peer k ++ DropExchange peer ∷ [])
    by_kind (kind.KeySent name via) = by_parts (new_link p peer via) (record_of p peer name)
    by_kind (kind.Asked ultimate) = (tt, tt)
    by_kind (kind.Translating ultimate value cta) = (tt, tt)
    by_kind (kind.Ending name) = (tt, tt)
    by_kind (kind.PairSent name) = by_pair name (record_of p peer name) (record_of p peer (name_behind name)) refl refl

-- where a row is found by another test, one with its key stands
found_under : {R K : Type 0} (key : R → K) (same : K → K → Bool) → ((k : K) → same k k ≡ true) → (f : R → Bool) (r : R) (rs : List R) → find f rs ≡ Some r → find_row key same (key r) rs ≡ None → ⊥
found_under key same itself f r [] h n = cc
found_under key same itself f r (x ∷ xs) h n = go (f x) (same (key r) (key x)) refl h n (found_under key same itself f r xs)
  where
    go : (b c : Bool) → same (key r) (key x) ≡ c → cond b (Some x) (find f xs) ≡ Some r → cond c (Some x) (find_row key same (key r) xs) ≡ None → (find f xs ≡ Some r → find_row key same (key r) xs ≡ None → ⊥) → ⊥
    go b true i h n ih = cc
    go true false i h n ih = let e : x ≡ r = cc in let t : same (key r) (key x) ≡ true = rw e (itself (key r)) in cc
    go false false i h n ih = ih h n

-- the link to send under stands
pub sending_there : LinkLaws → (p : Party) (peer : List ℕ) (label : Option (List ℕ)) (l : LinkRec) → sending_link p peer label ≡ Some l → link_with (link_key l) p ≡ None → ⊥
sending_there links p peer None l h n = found_under link_key same_link (λ k. (links.same k k).1 refl) (is_usable peer Sends) l p.links h n
sending_there links p peer (Some label) l h n = go (bytes_eq label centre_label) h
  where
    by_ready : (m : LinkRec) (b : Bool) → cond b (Some m) None ≡ Some l → Some m ≡ Some l
    by_ready m true h = h
    by_ready m false h = cc

    found : (o : Option LinkRec) → if_ready o ≡ Some l → o ≡ Some l
    found None h = cc
    found (Some m) h = by_ready m m.ready h

    go : (b : Bool) → cond b None (if_ready (link_with (sends peer label) p)) ≡ Some l → ⊥
    go true h = cc
    go false h =
        let there : link_with (sends peer label) p ≡ Some l = found (link_with (sends peer label) p) h in
        let key : sends peer label ≡ link_key l = links.found (sends peer label) l p there in
        let none : link_with (sends peer label) p ≡ None = subst (λ (k : LinkKey). link_with k p ≡ None) (sym key) n in
        cc

absent : (a : Bool) (o : Option LinkRec) → (a && is_none o) ≡ true → o ≡ None
absent true None h = refl
absent true (Some l) h = cc
absent false o h = cc

kk_apart : HeldIfAccepted → LinkLaws → (p : Party) (peer new : List ℕ) (single : Bool) (o : Option LinkRec) (moment : ℕ) → ((l : LinkRec) → o ≡ Some l → link_with (link_key l) p ≡ None → ⊥) → is_accept (start_kk_under p peer new single o moment).verdict ≡ true → AreApart (start_kk_under p peer new single o moment).edits
kk_apart held links p peer new single None moment f h = tt
kk_apart held links p peer new single (Some l) moment f h = by_draw (kk_drawn p.generator moment single) h
  where
    by_draw : (d : Option KkDrawn) → is_accept (kk_sending p (start_tests p peer (Some l)) l new single d).verdict ≡ true → AreApart (kk_sending p (start_tests p peer (Some l)) l new single d).edits
    by_draw None h = tt
    by_draw (Some d) h =
        let all : TestsHold (start_tests p peer (Some l) ++ kk_tests p l new (Some d)) = held (start_tests p peer (Some l) ++ kk_tests p l new (Some d)) refl h in
        let none : link_with (sends l.peer new) p ≡ None = absent (not (bytes_eq new centre_label)) (link_with (sends l.peer new) p) all.1.1.1.1.0 in
        let other : same_link (sends l.peer new) (link_key l) ≡ false = false_from_ne_true (same_link (sends l.peer new) (link_key l)) (λ e. f l refl (subst (λ (k : LinkKey). link_with k p ≡ None) ((links.same (sends l.peer new) (link_key l)).0 e) none)) in
        ((refl, (refl, (refl, (refl, tt)))), ((other, (refl, (refl, tt))), ((refl, (refl, tt)), ((refl, tt), (tt, tt)))))

translate_apart : (p : Party) (centre u : List ℕ) (o : Option LinkRec) (moment : ℕ) → AreApart (translate_under p centre u o moment).edits
translate_apart p centre u None moment = tt
translate_apart p centre u (Some l) moment = by_draw (good_draw p.generator moment)
  where
    by_draw : (d : Option (ℕ × Gen)) → AreApart (translate_drawn p centre u l d).edits
    by_draw None = tt
    by_draw (Some d) = ((refl, (refl, tt)), ((refl, tt), (tt, tt)))

pub command_apart : HeldIfAccepted → LinkLaws → KeyLaws → (p : Party) (c : Command) (moment : ℕ) → is_accept (command_row p c moment).verdict ≡ true → AreApart (command_row p c moment).edits
command_apart held links keys p (command.Load peer label side pair) moment h = (tt, tt)
command_apart held links keys p (command.Start peer label) moment h = by_link (sending_link p peer label)
  where
    by_link : (o : Option LinkRec) → AreApart (start_under p peer o moment).edits
    by_link None = tt
    by_link (Some l) = sending_apart p (start_tests p peer (Some l)) l (good_draw p.generator moment)
command_apart held links keys p (command.StartKk peer label new single) moment h = kk_apart held links p peer new single (sending_link p peer label) moment (λ l e. sending_there links p peer label l e) h
command_apart held links keys p (command.Ask peer ultimate) moment h = by_ultimate ultimate
  where
    by_ultimate : (o : Option (List ℕ)) → AreApart (ask_of p peer o).edits
    by_ultimate None = tt
    by_ultimate (Some other) = (tt, tt)
command_apart held links keys p (command.Translate centre ultimate) moment h = translate_apart p centre ultimate (link_with (sends centre centre_label) p) moment
command_apart held links keys p (command.Resend peer) moment h = by_exchange (exchange_with peer p)
  where
    by_exchange : (o : Option Exchange) → AreApart (resend_of o).edits
    by_exchange None = tt
    by_exchange (Some e) = tt
command_apart held links keys p (command.End peer name) moment h = by_record (record_of p peer name)
  where
    by_record : (o : Option KeyRec) → AreApart (end_record p peer o).edits
    by_record None = tt
    by_record (Some k) = ((refl, tt), (tt, tt))
command_apart held links keys p (command.Drop peer) moment h = given_up_apart keys p peer (exchange_with peer p)
command_apart held links keys p command.Purge moment h = (tt, tt)
