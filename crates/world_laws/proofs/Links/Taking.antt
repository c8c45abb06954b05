-- How the links that a party takes under go on, whatever waits: none goes, and no next count falls.
use Rattle.std.proofs.Common.{◌≡◌, ℕ, Bool, true, false, cond, ◌&&◌, ◌⊎◌, inl, inr, Option, Some, None, List, [], ◌∷◌, refl, sym, ◌∙◌, ap, bytes_eq}
use Rattle.std.specs.List.{AllByRecursion}
use Rattle.x_base.specs.declared.party.Side.TheVariants.{Sends, Takes}
use Rattle.party_tables.specs.declared.link.LinkKey.{LinkKey}
use Rattle.party_tables.specs.declared.link.LinkRec.{LinkRec}
use Rattle.party_tables.specs.declared.exchange.Via.{Via}
use Rattle.party_state.specs.declared.edit.Edit.{Edit}
use Rattle.party_state.specs.declared.edit.Edit.TheVariants.{Begin, PutLink, DropLink, PutKey, DropEnded, PutExchange, DropExchange, PutAnswer, SetGen}
use Rattle.party_tables.specs.Tables.{put_row, drop_row}
use Rattle.party_tables.specs.Keys.{same_link, link_key, sends}
use Rattle.party_state.specs.State.{Party, apply_edit, apply, link_with, first_link, is_usable}
use Rattle.party_tables.proofs.Keys.{test_links}
use Rattle.party_tables.proofs.Tables.{find_key, find_put, find_drop}
use Rattle.role_base.specs.Exchanges.{new_label, new_link_at, new_link}
use Rattle.world_laws.proofs.Links.Growth.{LinkGrows, PartyGrows, Fine, AllFine, link_stays, link_on, edit_grows, first_in, first_drop}

pub record TakesGrow (s t : Party) : Type 0 where
  pub own : t.own ≡ s.own
  pub link : (k : LinkKey) (l : LinkRec) → k.side ≡ Takes → link_with k s ≡ Some l → (m : LinkRec) × (link_with k t ≡ Some m) × LinkGrows l m
  pub first : (peer : List ℕ) (l : LinkRec) → first_link peer Takes s ≡ Some l → (m : LinkRec) × (first_link peer Takes t ≡ Some m) × LinkGrows l m

pub grown_takes : (o : Option LinkKey) (s t : Party) → PartyGrows o s t → TakesGrow s t
grown_takes o s t g = record { own = g.own; link = λ k l side h. (elim (g.link k l h) [ inl x ↦ x | inr x ↦ (let e = x.0 in absurd (cc)) ]); first = g.first }

pub takes_stay : (s t : Party) → t.own ≡ s.own → t.links ≡ s.links → TakesGrow s t
takes_stay s t own links = record { own = own; link = λ k l side h. (l, (rw links h), link_stays l); first = λ p l h. (l, (rw links h), link_stays l) }

takes_on : {s t u : Party} → TakesGrow s t → TakesGrow t u → TakesGrow s u
takes_on a b = record {
  own = b.own ∙ a.own;
  link = λ k l side h. (let x = a.link k l side h in let y = b.link k x.0 side x.1 in (y.0, y.1, link_on x.2 y.2));
  first = λ p l h. (let x = a.first p l h in let y = b.first p x.0 x.1 in (y.0, y.1, link_on x.2 y.2));
}

-- what an edit has to meet so that they go on
abbrev pub KeepsTakes : Party → Edit → Type 0
KeepsTakes s (Begin own role generator) = ⊥
KeepsTakes s (PutLink m) = (m.side ≡ Sends) ⊎ (((l : LinkRec) × (link_with (link_key m) s ≡ Some l) × LinkGrows l m) ⊎ (link_with (link_key m) s ≡ None))
KeepsTakes s (DropLink peer label side) = side ≡ Sends
KeepsTakes s (PutKey k) = Unit {0}
KeepsTakes s DropEnded = Unit {0}
KeepsTakes s (PutExchange e) = Unit {0}
KeepsTakes s (DropExchange peer) = Unit {0}
KeepsTakes s (PutAnswer a) = Unit {0}
KeepsTakes s (SetGen v) = Unit {0}

abbrev pub AllKeepTakes : Party → List Edit → Type 0
AllKeepTakes s [] = Unit {0}
AllKeepTakes s (e ∷ es) = KeepsTakes s e × AllKeepTakes (apply_edit e s) es

-- a link that sends is none of them

and_false : (b : Bool) → (b && false) ≡ false
and_false true = refl
and_false false = refl

sends_no_first : (peer : List ℕ) (m : LinkRec) → m.side ≡ Sends → is_usable peer Takes m ≡ false
sends_no_first peer m side = rw side (and_false (bytes_eq peer m.peer))

takes_no_sends : (peer : List ℕ) (x : LinkRec) → is_usable peer Takes x ≡ true → x.side ≡ Sends → ⊥
takes_no_sends peer x d side = let none = sends_no_first peer x side in cc

first_put_sends : (m : LinkRec) → m.side ≡ Sends → (peer : List ℕ) (r : LinkRec) (ls : List LinkRec) → first_in peer ls ≡ Some r → first_in peer (put_row link_key same_link m ls) ≡ Some r
first_put_sends m side peer r [] h = absurd (cc)
first_put_sends m side peer r (x ∷ xs) h = go (same_link (link_key m) (link_key x)) (is_usable peer Takes x) refl refl h (first_put_sends m side peer r xs)
  where
    go : (b d : Bool) → same_link (link_key m) (link_key x) ≡ b → is_usable peer Takes x ≡ d → cond d (Some x) (first_in peer xs) ≡ Some r → (first_in peer xs ≡ Some r → first_in peer (put_row link_key same_link m xs) ≡ Some r) → first_in peer (cond b (m ∷ xs) (x ∷ put_row link_key same_link m xs)) ≡ Some r
    go true true b= d= h ih =
        let key : link_key m ≡ link_key x = (test_links.decides (link_key m) (link_key x)).0 b= in
        absurd (takes_no_sends peer x d= (ap (λ (y : LinkKey). y.side) (sym key) ∙ side))
    go true false b= d= h ih = rw (sends_no_first peer m side) h
    go false true b= d= h ih = rw d= h
    go false false b= d= h ih = rw d= (ih h)

put_sends : (m : LinkRec) (s : Party) → m.side ≡ Sends → (k : LinkKey) (l : LinkRec) → k.side ≡ Takes → link_with k s ≡ Some l → link_with k (apply_edit (PutLink m) s) ≡ Some l
put_sends m s side k l takes h = find_put link_key same_link test_links k m s.links ∙ go (same_link k (link_key m)) refl
  where
    go : (b : Bool) → same_link k (link_key m) ≡ b → cond b (Some m) (link_with k s) ≡ Some l
    go true e = (let i : k ≡ link_key m = (test_links.decides k (link_key m)).0 e in let j : k.side ≡ m.side = ap (λ (y : LinkKey). y.side) i in absurd (cc))
    go false e = h

drop_sends : (j : LinkKey) (s : Party) → j.side ≡ Sends → (k : LinkKey) (l : LinkRec) → k.side ≡ Takes → link_with k s ≡ Some l → link_with k (record s { links = drop_row link_key same_link j s.links }) ≡ Some l
drop_sends j s side k l takes h = find_drop link_key same_link test_links k j s.links ∙ go (same_link k j) refl
  where
    go : (b : Bool) → same_link k j ≡ b → cond b None (link_with k s) ≡ Some l
    go true e = (let i : k ≡ j = (test_links.decides k j).0 e in let m : k.side ≡ j.side = ap (λ (y : LinkKey). y.side) i in absurd (cc))
    go false e = h

edit_takes : (s : Party) (e : Edit) → KeepsTakes s e → TakesGrow s (apply_edit e s)
edit_takes s (Begin own role generator) f = absurd f
edit_takes s (PutLink m) (inl side) = record { own = refl; link = λ k l takes h. (l, put_sends m s side k l takes h, link_stays l); first = λ p l h. (l, first_put_sends m side p l s.links h, link_stays l) }
edit_takes s (PutLink m) (inr (inl f)) = grown_takes None s (apply_edit (PutLink m) s) (edit_grows None s (PutLink m) (inl f))
edit_takes s (PutLink m) (inr (inr none)) = grown_takes (Some (link_key m)) s (apply_edit (PutLink m) s) (edit_grows (Some (link_key m)) s (PutLink m) (inr (refl, none)))
edit_takes s (DropLink peer label side) f = record { own = refl; link = λ k l takes h. (l, drop_sends (record { peer = peer; label = label; side = side }) s f k l takes h, link_stays l); first = λ p l h. (l, first_drop (record { peer = peer; label = label; side = side }) f p l s.links h, link_stays l) }
edit_takes s (PutKey k) f = takes_stay s (apply_edit (PutKey k) s) refl refl
edit_takes s DropEnded f = takes_stay s (apply_edit DropEnded s) refl refl
edit_takes s (PutExchange e) f = takes_stay s (apply_edit (PutExchange e) s) refl refl
edit_takes s (DropExchange peer) f = takes_stay s (apply_edit (DropExchange peer) s) refl refl
edit_takes s (PutAnswer a) f = takes_stay s (apply_edit (PutAnswer a) s) refl refl
edit_takes s (SetGen v) f = takes_stay s (apply_edit (SetGen v) s) refl refl

pub change_takes : (es : List Edit) (s : Party) → AllKeepTakes s es → TakesGrow s (apply es s)
change_takes [] s f = takes_stay s s refl refl
change_takes (e ∷ es) s f = takes_on (edit_takes s e f.0) (change_takes es (apply_edit e s) f.1)

-- so does every change that makes all links go on
fine_takes : (o : Option LinkKey) (s : Party) (e : Edit) → Fine o s e → KeepsTakes s e
fine_takes o s (Begin own role generator) f = f
fine_takes o s (PutLink m) (inl f) = inr (inl f)
fine_takes o s (PutLink m) (inr f) = inr (inr f.1)
fine_takes o s (DropLink peer label side) f = f.0
fine_takes o s (PutKey k) f = tt
fine_takes o s DropEnded f = tt
fine_takes o s (PutExchange e) f = tt
fine_takes o s (DropExchange peer) f = tt
fine_takes o s (PutAnswer a) f = tt
fine_takes o s (SetGen v) f = tt

pub all_fine_takes : (o : Option LinkKey) (es : List Edit) (s : Party) → AllFine o s es → AllKeepTakes s es
all_fine_takes o [] s f = tt
all_fine_takes o (e ∷ es) s f = (fine_takes o s e f.0, all_fine_takes o es (apply_edit e s) f.1)

-- edits that touch none of them
abbrev pub TouchesSends : Edit → Type 0
TouchesSends (Begin own role generator) = ⊥
TouchesSends (PutLink m) = m.side ≡ Sends
TouchesSends (DropLink peer label side) = side ≡ Sends
TouchesSends (PutKey k) = Unit {0}
TouchesSends DropEnded = Unit {0}
TouchesSends (PutExchange e) = Unit {0}
TouchesSends (DropExchange peer) = Unit {0}
TouchesSends (PutAnswer a) = Unit {0}
TouchesSends (SetGen v) = Unit {0}

touch_keeps : (s : Party) (e : Edit) → TouchesSends e → KeepsTakes s e
touch_keeps s (Begin own role generator) f = f
touch_keeps s (PutLink m) f = inl f
touch_keeps s (DropLink peer label side) f = f
touch_keeps s (PutKey k) f = tt
touch_keeps s DropEnded f = tt
touch_keeps s (PutExchange e) f = tt
touch_keeps s (DropExchange peer) f = tt
touch_keeps s (PutAnswer a) f = tt
touch_keeps s (SetGen v) f = tt

pub all_touch_keep : (es : List Edit) (s : Party) → AllByRecursion TouchesSends es → AllKeepTakes s es
all_touch_keep [] s f = tt
all_touch_keep (e ∷ es) s f = (touch_keeps s e f.0, all_touch_keep es (apply_edit e s) f.1)

-- the link of a new key-encrypting key sends
pub new_sends : (p : Party) (peer : List ℕ) (via : Via) (l : LinkRec) → new_link p peer via ≡ Some l → l.side ≡ Sends
new_sends p peer via l h = by_label (new_label via) h
  where
    by_label : (o : Option (List ℕ)) → new_link_at p peer o ≡ Some l → l.side ≡ Sends
    by_label None h = absurd (cc)
    by_label (Some label) h = (let key : sends peer label ≡ link_key l = find_key link_key same_link test_links (sends peer label) l p.links h in ap (λ (k : LinkKey). k.side) (sym key))
