-- What a translation centre's rows put is in range, and what they write is short.
use Rattle.std.proofs.Common.{◌≡◌, ℕ, ◌+◌, ◌<◌, ◌^◌, true, Option, Some, None, Ok, List, refl, lit≤}
use Rattle.std.specs.List.{AllByRecursion}
use Rattle.x_base.specs.Count.{IsCount}
use Rattle.x_base.specs.declared.verdict.Verdict.{Verdict}
use Rattle.x_mac.specs.declared.pair.Pair.{Pair}
use Rattle.x_gen.specs.Laws.{OddStays}
use Rattle.x_seal.specs.Wrapped.{seal_of}
use Rattle.csm_grammar.specs.declared.arrival.Arrival.{Arrival}
use Rattle.csm_grammar.specs.declared.message.Message.{Message}
use Rattle.csm_grammar.specs.declared.message.Message.TheVariants as message
use Rattle.csm_grammar.specs.declared.message.Rfs.{Rfs}
use Rattle.csm_grammar.specs.Arrivals.{IsArrived, AllArrived}
use Rattle.csm_grammar.specs.Kinds.{IsFieldOfKind}
use Rattle.csm_grammar.specs.Messages.{fields_of}
use Rattle.csm_write.specs.Shortness.{CanonShort}
use Rattle.party_tables.specs.Keys.{sends, takes}
use Rattle.party_tables.specs.declared.link.LinkRec.{LinkRec}
use Rattle.party_state.specs.declared.command.Input.{Input}
use Rattle.party_state.specs.declared.command.Input.TheVariants as input
use Rattle.party_state.specs.Ranges.{IsParty}
use Rattle.party_state.specs.State.{Party, centre_label, link_with}
use Rattle.party_state.specs.Verdicts.{TestsHold, is_accept}
use Rattle.party_state.specs.Rows.{refused}
use Rattle.role_base.specs.Deciding.{decision_of}
use Rattle.role_base.specs.Ranged.{IsInput, IsRanged}
use Rattle.role_base.specs.Standing.{LinkStands}
use Rattle.role_base.specs.Texts.{is_verified}
use Rattle.role_base.proofs.Counted.{left_is_count, next_on}
use Rattle.role_base.proofs.Found.{found_stands}
use Rattle.role_base.proofs.PartyLaws.{HeldIfAccepted, LinksFound, LinksInRange}
use Rattle.role_base.proofs.Ranged.{row_ranged, nothing_ranged, refused_kept, coded_short, with_next, error_short, order_ranged}
use Rattle.translation_role.specs.Service.{rfs_value, rfs_under, rfs_answer, rfs_counts, rfs_tests, rfs_between, rfs}
use Rattle.translation_role.specs.Rows.{translation_message, translation_row}
use Rattle.translation_role.proofs.Translated.{rfs_tells_count}
use Rattle.translation_role.proofs.TranslatedKept.{rfs_kept}

abbrev pub SealsBelow : Type 0
SealsBelow = (kk : Pair) (from to : List ℕ) (count key : ℕ) → seal_of kk from to count key < 2 ^ 64

rfs_ranged : CanonShort → SealsBelow → HeldIfAccepted → LinksFound → LinksInRange → (p : Party) (a : Arrival) (m : Rfs) → AllByRecursion IsFieldOfKind (fields_of (message.Rfs m)) → IsParty p → IsRanged p (decision_of p (rfs p a m))
rfs_ranged short seals held links in_range p a m h w = by_links (link_with (takes m.originator centre_label) p) (link_with (sends m.ultimate centre_label) p) refl refl
  where
    cta : IsCount m.cta
    cta = h.1.1.1.1.0

    by_links : (o q : Option LinkRec) → link_with (takes m.originator centre_label) p ≡ o → link_with (sends m.ultimate centre_label) p ≡ q → IsRanged p (decision_of p (rfs_between p a m o q))
    by_links None q f g = row_ranged p (rfs_between p a m None q) (refused_kept p _) (nothing_ranged _)
    by_links (Some l) None f g = row_ranged p (rfs_between p a m (Some l) None) (refused_kept p _) (nothing_ranged _)
    by_links (Some l) (Some b) f g =
        let s : LinkStands p l = found_stands links in_range p (takes m.originator centre_label) l w f in
        let t : LinkStands p b = found_stands links in_range p (sends m.ultimate centre_label) b w g in
        row_ranged p (rfs_between p a m (Some l) (Some b)) (rfs_kept held p a m l b (Ok (decision_of p (rfs_between p a m (Some l) (Some b)))) s t cta refl).kept
        (record {
          edits = λ v. (with_next l (m.cta + 1) s.range (next_on m.cta (m.cta + 1) cta refl), (with_next b (b.next + 1) t.range (next_on b.next (b.next + 1) (left t v) refl), tt));
          reply = λ v. coded_short short (message.Rtr (rfs_answer p m l b)) (rfs_under p m) (rfs_value m l) (h.1.0, (w.own, (h.1.1.0, (seals b.pair m.originator m.ultimate b.next (rfs_value m l), (left t v, tt))))) (lit≤ tt);
          answer = error_short short p m.originator (rfs_counts m) (rfs_between p a m (Some l) (Some b)).verdict (rfs_under p m) (rfs_value m l) w.own h.1.0 (record { ctp = tt; cta = cta; ctb = tt }) (rfs_tells_count p m l b (is_verified a (rfs_value m l)) s.range.next);
        })
      where
        left : LinkStands p b → is_accept (rfs_between p a m (Some l) (Some b)).verdict ≡ true → IsCount b.next
        left t v = let x : TestsHold (rfs_tests p a m l b) = held (rfs_tests p a m l b) refl v in left_is_count b t.range.next x.1.1.1.1.1.1.1.0

arrival_in_range : CanonShort → SealsBelow → HeldIfAccepted → LinksFound → LinksInRange → (p : Party) (a : Arrival) → IsArrived a → IsParty p → IsRanged p (decision_of p (translation_row p (input.Arrived a)))
arrival_in_range short seals held links in_range p a arrived w = by_message a.parsed.message arrived.typed
  where
    refused_message : (v : Verdict) → IsRanged p (decision_of p (refused v))
    refused_message v = row_ranged p (refused v) (refused_kept p v) (nothing_ranged v)

    by_message : (m : Message) → AllByRecursion IsFieldOfKind (fields_of m) → IsRanged p (decision_of p (translation_message p a m))
    by_message (message.Rsi m) h = refused_message _
    by_message (message.Rfs m) h = rfs_ranged short seals held links in_range p a m h w
    by_message (message.Rtr m) h = refused_message _
    by_message (message.Ksm m) h = refused_message _
    by_message (message.Rsm m) h = refused_message _
    by_message (message.Ers m) h = refused_message _
    by_message (message.Esm m) h = refused_message _
    by_message (message.Dsm m) h = refused_message _

pub row_in_range : OddStays → CanonShort → SealsBelow → HeldIfAccepted → LinksFound → LinksInRange → AllArrived → (p : Party) (i : Input) → IsParty p → IsInput i → IsRanged p (decision_of p (translation_row p i))
row_in_range stays short seals held links in_range arrived p (input.Ordered c) w k = order_ranged stays held p c k
row_in_range stays short seals held links in_range arrived p (input.Arrived a) w k = arrival_in_range short seals held links in_range p a (arrived a) w
