-- Loading a key-encrypting key that both ends were given (ANSI X9.17; the tests are this project's profile).
use Rattle.std.specs.Prelude.{ℕ, not, is_some, true, List, [], ◌∷◌, None}
use Rattle.x_base.specs.declared.party.Side.{Side}
use Rattle.x_base.specs.declared.verdict.Verdict.TheVariants.{LabelTaken, SameKey, Alias, LinksFull}
use Rattle.x_mac.specs.declared.pair.Pair.{Pair}
use Rattle.x_gen.specs.Parity.{odd_parity_of}
use Rattle.party_tables.specs.declared.link.LinkKey.{LinkKey}
use Rattle.party_state.specs.declared.edit.Edit.TheVariants.{PutLink}
use Rattle.party_state.specs.State.{Party, link_with, has_pair, aliases}
use Rattle.party_state.specs.Verdicts.{Test, verdict_of}
use Rattle.party_state.specs.Rows.{Row}
use Rattle.role_base.specs.Conditions.{has_link_room}

-- both halves with odd parity
abbrev pub odd_pair : Pair → Pair
odd_pair pair = record { left = odd_parity_of pair.left; right = odd_parity_of pair.right }

abbrev pub load_tests : Party → LinkKey → Pair → List Test
load_tests p key pair =
    (not (is_some (link_with key p)), LabelTaken) ∷ (not (has_pair (odd_pair pair) p), SameKey)
    ∷ (not (aliases key.peer p), Alias) ∷ (has_link_room p key, LinksFull) ∷ []

abbrev pub load : Party → List ℕ → List ℕ → Side → Pair → Row
load p peer label side pair = record {
  verdict = verdict_of (load_tests p (record { peer = peer; label = label; side = side }) pair);
  edits = PutLink (record { peer = peer; label = label; side = side; pair = odd_pair pair; next = 1; ready = true }) ∷ [];
  reply = None;
  uses = [];
  makes = None;
  accepts = None;
  answer = None;
}
