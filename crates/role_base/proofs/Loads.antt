-- A key-encrypting key is loaded exactly where it can be, and what stands then.
use Rattle.std.proofs.Common.{◌≡◌, ℕ, ◌+◌, ◌↔◌, true, not, nat_le, is_some, Option, Some, None, List, length, refl}
use Rattle.std.proofs.lemmas.Bool.{leb-true, le-leb, not-true, not_from_false, false_from_ne_true}
use Rattle.x_base.specs.declared.party.Side.{Side}
use Rattle.x_base.specs.declared.verdict.Verdict.TheVariants.{Accept}
use Rattle.x_mac.specs.declared.pair.Pair.{Pair}
use Rattle.party_tables.specs.declared.link.LinkKey.{LinkKey}
use Rattle.party_tables.specs.declared.link.LinkRec.{LinkRec}
use Rattle.party_state.specs.Limits.{most_links}
use Rattle.party_tables.specs.Keys.{same_link, link_key}
use Rattle.party_state.specs.State.{Party, apply, link_with, has_pair, aliases}
use Rattle.party_state.specs.Verdicts.{TestsHold}
use Rattle.role_base.specs.Conditions.{has_link_room}
use Rattle.role_base.specs.Load.{odd_pair, load_tests, load}
use Rattle.role_base.specs.Loading.{CanLoad, Loads}
use Rattle.role_base.proofs.PartyLaws.{HeldAtAccept, AcceptedIfHeld, LinkLaws, put_same, put_other}

absent : (o : Option LinkRec) → not (is_some o) ≡ true → o ≡ None
absent None h = refl
absent (Some l) h = absurd (cc)

module _ (held : HeldAtAccept) (accepted : AcceptedIfHeld) (p : Party) (peer label : List ℕ) (side : Side) (pair : Pair) where
  abbrev key : LinkKey
  key = record { peer = peer; label = label; side = side }

  loads : (load p peer label side pair).verdict ≡ Accept → CanLoad p peer label side pair
  loads e =
      let h : TestsHold (load_tests p key pair) = held (load_tests p key pair) refl e in
      let free : link_with key p ≡ None = absent (link_with key p) h.0 in
      let room : nat_le (length p.links + 1) most_links ≡ true = rw free at h.1.1.1.0 in
      record {
        free = free;
        other = not-true (has_pair (odd_pair pair) p) h.1.0;
        alone = not-true (aliases peer p) h.1.1.0;
        room = leb-true (length p.links + 1) most_links room;
      }

  loaded : CanLoad p peer label side pair → (load p peer label side pair).verdict ≡ Accept
  loaded c =
      let free : not (is_some (link_with key p)) ≡ true = rw c.free refl in
      let room : nat_le (length p.links + 1) most_links ≡ true = le-leb (length p.links + 1) most_links c.room in
      let place : has_link_room p key ≡ true = rw c.free room in
      accepted (load_tests p key pair) (free, (not_from_false (has_pair (odd_pair pair) p) c.other, (not_from_false (aliases peer p) c.alone, (place, tt))))

  pub loads_exactly : ((load p peer label side pair).verdict ≡ Accept) ↔ CanLoad p peer label side pair
  loads_exactly = (loads, loaded)

pub leaves_loaded : LinkLaws → (p : Party) (peer label : List ℕ) (side : Side) (pair : Pair) → Loads p (apply (load p peer label side pair).edits p) (load p peer label side pair) (record { peer = peer; label = label; side = side }) pair
leaves_loaded links p peer label side pair = record {
  link = put_same links loaded_link p;
  others = λ k n. put_other links k loaded_link p (false_from_ne_true (same_link k (link_key loaded_link)) (λ e. n ((links.same k (link_key loaded_link)).0 e)));
  rest = refl;
  silent = refl;
}
  where
    loaded_link : LinkRec
    loaded_link = record { peer = peer; label = label; side = side; pair = odd_pair pair; next = 1; ready = true }
