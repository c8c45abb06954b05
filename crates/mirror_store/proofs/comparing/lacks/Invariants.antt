use Rattle.std.proofs.Common.{◌≡◌, false, take}
use Rattle.std.specs.List.{list_any}
use Rattle.party_tables.specs.declared.link.LinkRec.{LinkRec}
use Rattle.party_tables.specs.Keys.{link_key}
use Rattle.party_state.specs.State.{link_with}
use Rattle.mirror_store.specs.Comparing.{is_below}
use Rattle.mirror_store.proofs.comparing.lacks.Given as goal

abbrev pub invariant-loop-i : goal.invariant-loop-i
invariant-loop-i l = list_any (λ (k : LinkRec). is_below (link_with (link_key k) l.state) k) (take l.i l.other.links) ≡ false
