-- Two keys are sent under a link, at two counts.
use Rattle.std.proofs.Common.{arith, ◌≡◌, ℕ, ◌+◌, Option, Some, None, List, ◌++◌, refl, ap, subst, inl}
use Rattle.party_tables.specs.declared.link.LinkKey.{LinkKey}
use Rattle.party_tables.specs.declared.link.LinkRec.{LinkRec}
use Rattle.party_tables.specs.Keys.{same_link, link_key, sends}
use Rattle.party_state.specs.State.{Party, link_with}
use Rattle.party_state.specs.Rows.{Use, OneKey}
use Rattle.party_state.specs.Verdicts.{Test, verdict_of}
use Rattle.party_tables.proofs.Keys.{test_links}
use Rattle.party_tables.proofs.Tables.{find_put_same}
use Rattle.bank_arrivals.specs.declared.draws.TwinsDrawn.{TwinsDrawn}
use Rattle.bank_arrivals.specs.SendingTwins.{twins_tests, twins_sending_drawn}
use Rattle.world_laws.proofs.Links.Growth.{next_up}
use Rattle.world_laws.proofs.Links.Found.{SendingAt}
use Rattle.world_laws.proofs.Links.Waiting.{change_waits}
use Rattle.world_laws.proofs.Counting.Sound.{IsSound, UsesMeet}
use Rattle.world_laws.proofs.Counting.Quiet.{pairs_two, no_new, no_free, refused_sound}

pub twins_sound : (p : Party) (text : List ℕ) (front : List Test) (peer : List ℕ) (l : LinkRec) (drawn : Option TwinsDrawn) → SendingAt p peer l → IsSound None p text (twins_sending_drawn p front l drawn)
twins_sound p text front peer l None s = refused_sound p text (verdict_of (front ++ twins_tests p l None))
twins_sound p text front peer l (Some d) s =
    let up : LinkRec = record l { next = l.next + 2 } in
    let key : link_key l ≡ sends l.peer l.label = (λ j. record { peer = l.peer; label = l.label; side = (ap (λ (k : LinkKey). k.side) s.at.key) j }) in
    let first : Use = record { recipient = l.peer; label = l.label; count = l.next; sealed = OneKey d.first } in
    let second : Use = record { recipient = l.peer; label = l.label; count = l.next + 1; sealed = OneKey d.second } in
    let at_key : link_with (link_key l) p ≡ Some l = rw s.at.key s.at.found in
    let at_l : link_with (sends l.peer l.label) p ≡ Some l = subst (λ (k : LinkKey). link_with k p ≡ Some l) key at_key in
    record {
      made = no_new None;
      free = no_free p;
      edits = (tt, (inl (l, at_key, next_up l (l.next + 2) (omega arith)), (tt, (tt, (tt, tt)))));
      waits = change_waits (twins_sending_drawn p front l (Some d)).edits p (tt, ((l, at_key, refl), (tt, (tt, (refl, tt)))));
      uses = (
        record { before = inl (l, at_l, omega arith); after = (up, rw (← key) (find_put_same link_key same_link test_links up p.links), omega arith) },
        (record { before = inl (l, at_l, omega arith); after = (up, rw (← key) (find_put_same link_key same_link test_links up p.links), omega arith) }, tt),
      );
      apart = pairs_two first second (λ (h : UsesMeet first second). (let e : l.next ≡ l.next + 1 = h.2 in omega (arith, e)));
      accepts = tt;
    }
