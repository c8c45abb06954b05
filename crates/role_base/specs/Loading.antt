-- When a key-encrypting key that both ends were given can be loaded, and what stands then (ANSI X9.17; the bounds are this
-- project's profile). "After" is the party with the edits of the row.
use Rattle.std.specs.Prelude.{ℕ, ◌≡◌, ◌≢◌, ◌+◌, ◌≤◌, true, false, List, length, Some, None}
use Rattle.x_base.specs.declared.party.Side.{Side}
use Rattle.x_mac.specs.declared.pair.Pair.{Pair}
use Rattle.x_gen.specs.Parity.{odd_parity_of}
use Rattle.party_tables.specs.declared.link.LinkKey.{LinkKey}
use Rattle.party_state.specs.State.{Party, link_with, has_pair, aliases}
use Rattle.party_state.specs.Rows.{Row}
use Rattle.party_state.specs.Limits.{most_links}

pub record CanLoad (p : Party) (peer label : List ℕ) (side : Side) (pair : Pair) : Type 0 where
  -- no link with the peer has the label on this side
  pub free : link_with (record { peer = peer; label = label; side = side }) p ≡ None
  -- no link has the pair, once it has odd parity
  pub other : has_pair (record { left = odd_parity_of pair.left; right = odd_parity_of pair.right }) p ≡ false
  -- the peer doesn't expand as this party does, nor as another peer of a link
  pub alone : aliases peer p ≡ false
  -- with its link 64 stand at most
  pub room : length p.links + 1 ≤ most_links

pub record Loads (p after : Party) (r : Row) (key : LinkKey) (pair : Pair) : Type 0 where
  -- the link has the pair, with odd parity, is ready, and its next count is the first
  pub link : link_with key after ≡ Some (record {
    peer = key.peer;
    label = key.label;
    side = key.side;
    pair = record { left = odd_parity_of pair.left; right = odd_parity_of pair.right };
    next = 1;
    ready = true;
  })
  -- nothing else changes, and nothing is written
  pub others : (k : LinkKey) → k ≢ key → link_with k after ≡ link_with k p
  pub rest : after ≡ record p { links = after.links }
  pub silent : r.reply ≡ None
