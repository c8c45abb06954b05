-- What stays around an event, and from one event to the next.
use Rattle.std.proofs.Common.{◌≡◌, ◌⊎◌, inl, inr, ⊎_elim, Result, Ok, Err, OnOk, ℕ, ◌<◌, List, [], ◌∷◌, ◌++◌, length, length-append, sym, ◌∙◌, ap, subst, arith}
use Rattle.x_base.specs.Edge.{Rose}
use Rattle.x_disk.specs.Disk.{View}
use Rattle.x_disk.specs.Shelf.{alike_refl}
use Rattle.key_store.specs.Store.{Stored}
use Rattle.open_parties.specs.Around.{Around, ShelfStays}
use Rattle.open_parties.specs.Closing.{AllSlots, AnyFaulty}
use Rattle.open_parties.specs.OpenParties.{open_party, owners, Fills, AreOpen, IsEmptyAt, IsPlace, IsTakenOut}
use Rattle.open_parties.specs.declared.failure.Ending.{Ending}
use Rattle.open_parties.specs.declared.failure.Ending.TheVariants as ending
use Rattle.open_parties.specs.declared.failure.Failure.TheVariants as failure
use Rattle.open_parties.specs.declared.open_party.OpenParty.{OpenParty}
use Rattle.open_parties.specs.declared.open_party.PartyDisk.{PartyDisk}
use Rattle.open_parties.specs.declared.open_party.PartyDisk.TheVariants.{Open, Closed, Away}
use Rattle.open_parties.proofs.PuttingBack.{others_on, others_stay, rose_on, faulty_at}
use Rattle.open_parties.proofs.Members.{same_owners, still_open}

-- a shelf on which nothing changed
pub shelf_same : (own : List ℕ) (entry : List ℕ → View) (slot : List ℕ → Type 0) (n : ℕ) → ShelfStays own entry entry slot slot n n
shelf_same own entry slot n = record { others = λ other apart. alike_refl (entry other); slots = λ other is. is; later = omega arith }

module _ {D : Type 0} where
  -- from one event to the next, which goes on or not
  pub around_on : {T : Type 0} {U : Type 0} (told : D → View) (a b c : List (OpenParty D)) (old mid new : List ℕ → View) (had has keeps : List ℕ → Type 0) (low between high : ℕ) (x : T) (result : Result U Ending)
      → Around told a b old mid had has low between (Ok x) → Around told b c mid new has keeps between high result → Around told a c old new had keeps low high result
  around_on told a b c old mid new had has keeps low between high x result first more = record {
    owners_stay = more.owners_stay ∙ first.owners_stay;
    others = others_on old mid new a b first.owners_stay first.others more.others;
    slots = λ own is. more.slots own (first.slots own is);
    later = omega (arith, first.later, more.later);
    opened = more.opened;
    fault = λ is. ⊎_elim (λ rose. inl (rose_on low between high first.later rose)) (λ faulty. inr faulty) (more.fault is);
  }

  -- a call ends early as the one in it did
  pub around_err : {T : Type 0} {U : Type 0} (told : D → View) (a b : List (OpenParty D)) (old new : List ℕ → View) (had has : List ℕ → Type 0) (low high : ℕ) (e : Ending) → Around {T = T} told a b old new had has low high (Err e) → Around {T = U} told a b old new had has low high (Err e)
  around_err told a b old new had has low high e around = record {
    owners_stay = around.owners_stay;
    others = around.others;
    slots = around.slots;
    later = around.later;
    opened = tt;
    fault = λ is. (let same : e ≡ ending.Failed failure.Fault = cc is in around.fault (ap Err same));
  }

  -- a call that went on answers another value
  pub around_ok : {T : Type 0} {U : Type 0} (told : D → View) (a b : List (OpenParty D)) (old new : List ℕ → View) (had has : List ℕ → Type 0) (low high : ℕ) (x : T) (y : U) → Around told a b old new had has low high (Ok x) → Around told a b old new had has low high (Ok y)
  around_ok told a b old new had has low high x y around = record {
    owners_stay = around.owners_stay;
    others = around.others;
    slots = around.slots;
    later = around.later;
    opened = around.opened;
    fault = λ is. absurd (cc is);
  }

  -- or ended late, but not by a fault
  pub around_late : {T : Type 0} {U : Type 0} (told : D → View) (a b : List (OpenParty D)) (old new : List ℕ → View) (had has : List ℕ → Type 0) (low high : ℕ) (x : T) (e : Ending) → (e ≡ ending.Failed failure.Fault → ⊥) → Around told a b old new had has low high (Ok x) → Around {T = U} told a b old new had has low high (Err e)
  around_late told a b old new had has low high x e other around = record {
    owners_stay = around.owners_stay;
    others = around.others;
    slots = around.slots;
    later = around.later;
    opened = tt;
    fault = λ is. (let same : e ≡ ending.Failed failure.Fault = cc is in absurd (other same));
  }

  module _ (old mid new : List (OpenParty D)) (place : ℕ) (node : Stored D) (l : IsTakenOut old mid place node) (held : PartyDisk D) (fills : Fills mid new place held) where
    is : new ≡ l.front ++ open_party l.own held ∷ l.back
    is = fills l.front l.own l.back l.after l.size

    pub filled_owners : owners new ≡ owners old
    filled_owners = ap owners is ∙ (same_owners l.front l.own held (Open node) l.back ∙ sym (ap owners l.before))

    pub around_place : {T : Type 0} (told : D → View) (own : List ℕ) → IsPlace old own place → (before after : List ℕ → View) (had has : List ℕ → Type 0) (low high : ℕ) (result : Result T Ending) → ShelfStays own before after had has low high
        → OnOk result (AreOpen new) → (result ≡ Err (ending.Failed failure.Fault) → Rose low high ⊎ AnyFaulty told new) → Around told old new before after had has low high result
    around_place told own is_place before after had has low high result stays opened fault = record {
      owners_stay = filled_owners;
      others = others_stay told before after old place node mid own is_place l stays.others;
      slots = stays.slots;
      later = stays.later;
      opened = opened;
      fault = fault;
    }

  -- the same party was put back in its place
  pub refilled : (old mid new : List (OpenParty D)) (place : ℕ) (node again : Stored D) → IsTakenOut old mid place node → again ≡ node → Fills mid new place (Open again) → new ≡ old
  refilled old mid new place node again l same fills = fills l.front l.own l.back l.after l.size ∙ (ap (λ (n : Stored D). l.front ++ open_party l.own (Open n) ∷ l.back) same ∙ sym l.before)

  pub filled_open : (old mid new : List (OpenParty D)) (place : ℕ) (node again : Stored D) → IsTakenOut old mid place node → Fills mid new place (Open again) → AreOpen old → AreOpen new
  filled_open old mid new place node again l fills all = subst AreOpen (sym (fills l.front l.own l.back l.after l.size)) (still_open l.front l.own node again l.back (subst AreOpen l.before all))

  pub filled_faulty : (told : D → View) (mid new : List (OpenParty D)) (place : ℕ) (disk : D) → IsEmptyAt mid place → Fills mid new place (Closed disk) → 0 < (told disk).faults → AnyFaulty told new
  filled_faulty told mid new place disk e fills some = subst (AnyFaulty told) (sym (fills e.front e.own e.back e.is e.size)) (faulty_at told e.front e.own disk e.back some)

  pub empty_within : (open_parties : List (OpenParty D)) (place : ℕ) → IsEmptyAt open_parties place → place < length open_parties
  empty_within open_parties place e = omega (arith, ap length e.is, length-append e.front (open_party e.own Away ∷ e.back), e.size)

  -- the party of a place has a slot
  pub slot_at : (slot : List ℕ → Type 0) (old : List (OpenParty D)) (place : ℕ) (own : List ℕ) (mid : List (OpenParty D)) (node : Stored D) → AllSlots slot (owners old) → IsPlace old own place → IsTakenOut old mid place node → slot own
  slot_at slot old place own mid node all is_place l =
      subst slot (is_place l.front (open_party l.own (Open node)) l.back l.before l.size).1 (go l.front (subst (λ (ss : List (OpenParty D)). AllSlots slot (owners ss)) l.before all))
    where
      go : (front : List (OpenParty D)) → AllSlots slot (owners (front ++ open_party l.own (Open node) ∷ l.back)) → slot l.own
      go [] all = all.0
      go (f ∷ front) all = go front all.1
