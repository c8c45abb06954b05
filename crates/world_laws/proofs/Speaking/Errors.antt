-- The error messages that answer refused key service messages and requests for service are well formed.
use Rattle.party_tables.specs.Keys.{record_key}
use Rattle.bank_keys.specs.Ksm.{body_code, body_record, body_second, have_room}
use Rattle.x_base.specs.declared.verdict.Verdict.TheVariants as verdict
use Rattle.world_laws.proofs.Links.Taken.{name_link}
use Rattle.csm_grammar.specs.declared.message.KsmBody.TheVariants as body
use Rattle.csm_grammar.specs.declared.message.Message.TheVariants as message
use Rattle.bank_keys.specs.Ksm.{body_count, body_new, body_link, body_name, body_tests, key_row}
use Rattle.translation_role.specs.Service.{rfs_value, rfs_under, rfs_tests, rfs_between}
use Rattle.csm_grammar.specs.Arrivals.{authenticated_text}
use Rattle.csm_grammar.specs.Spelling.{Says}
use Rattle.csm_grammar.specs.declared.arrival.Arrival.{Arrival}
use Rattle.csm_grammar.specs.declared.message.Esm.{Esm}
use Rattle.csm_grammar.specs.declared.message.Ksm.{Ksm}
use Rattle.csm_grammar.specs.declared.message.KsmBody.{KsmBody}
use Rattle.csm_grammar.specs.declared.message.Rfs.{Rfs}
use Rattle.party_tables.specs.Keys.{takes}
use Rattle.party_state.specs.State.{Party, centre_label, link_with}
use Rattle.party_state.specs.Verdicts.{verdict_of}
use Rattle.party_tables.specs.declared.link.LinkRec.{LinkRec}
use Rattle.std.proofs.Common.{◌≡◌, ℕ, Option, Some, None, List, [], ◌∷◌, ◌++◌, refl}
use Rattle.std.specs.Prelude.{option_map}
use Rattle.world_laws.proofs.Links.Found.{HasLinks}
use Rattle.x_base.specs.declared.key_name.FullName.{FullName}
use Rattle.std.proofs.Common.{IfSome}
use Rattle.x_base.specs.Names.{IsIdent}
use Rattle.x_base.specs.Count.{IsCount}
use Rattle.role_base.specs.Errors.{TellsCount}
use Rattle.role_base.specs.Conditions.{has_count, count_tests}
use Rattle.role_base.specs.Errors.{error_letter, expected_count, coded_under}
use Rattle.bank_keys.specs.Ksm.{new_tests, body_message, body_link}
use Rattle.translation_role.specs.Service.{rfs_message, rfs_tests}
use Rattle.world_laws.proofs.Texts.Names.{LinkNamed, IsNamed}
use Rattle.world_laws.proofs.Texts.OwnMessages.{IsLetter, letter_is, body_error_own, rfs_error_own}
use Rattle.csm_grammar.proofs.Parts.{ksm_org, rfs_org, rfs_cta}
use Rattle.world_laws.proofs.Texts.Bodies.{body_counts}
use Rattle.world_laws.proofs.Speaking.Wellformed.{TellsEsm, tells_after, told_by, counts_told, new_told, told_count, linked}

module _ (p : Party) (i : IsNamed p) where
  error_tells : (originator : List ℕ) (b : KsmBody) (under : FullName) (value : ℕ) (ctr : Option ℕ) (o : Option (List ℕ)) → IsIdent originator → IsCount (body_count b) → IfSome ctr IsCount → IfSome o IsLetter → TellsEsm (coded_under under value (option_map (λ erf. body_message p originator b erf ctr) o))
  error_tells originator b under value ctr None peer count told letter = tt
  error_tells originator b under value ctr (Some erf) peer count told letter = (let e = is_esm b in (e.0, e.1, body_error_own p originator b erf ctr i.own peer count letter told))
    where
      is_esm : (b : KsmBody) → (e : Esm) × (body_message p originator b erf ctr ≡ message.Esm e)
      is_esm (body.Direct idk2 new kd ctp) = (_, refl)
      is_esm (body.Centre centre kdu ctb) = (_, refl)
      is_esm (body.Twin idk2 first second ctp) = (_, refl)

  pub key_tells : (a : Arrival) (m : Ksm) (b : KsmBody) (o : Option LinkRec) → HasLinks p → m.body ≡ b → body_link p m.originator b ≡ o → Says (authenticated_text a) (message.Ksm m) → TellsEsm (key_row p a m b o).answer
  key_tells a m b None d is found said = tt
  key_tells a m b (Some l) d is found said =
      let at : link_with (takes (body_name p m.originator b l).name.issuer (body_name p m.originator b l).name.label) p ≡ Some l = name_link p m.originator b l d found in
      let named : LinkNamed l = linked p i (takes (body_name p m.originator b l).name.issuer (body_name p m.originator b l).name.label) l at in
      let told : TellsCount (verdict_of (body_tests p a m b l)) = told_by (body_tests p a m b l) (λ e. tt, (λ e. tt, (λ e. tt, (λ e. tt, tells_after (count_tests l (body_count b)) (new_tests p m.originator l (body_count b) (body_new b) ++ (have_room p (record_key (body_record p m b l)) (body_second p m b l), verdict.KeysFull) ∷ []) (counts_told l (body_count b) named.next) (tells_after (new_tests p m.originator l (body_count b) (body_new b)) ((have_room p (record_key (body_record p m b l)) (body_second p m b l), verdict.KeysFull) ∷ []) (new_told p m.originator l (body_count b) (body_new b)) (λ e. tt, tt)))))) in
      error_tells m.originator b (body_name p m.originator b l) (body_code l.pair m.originator p.own b) (expected_count (verdict_of (body_tests p a m b l))) (error_letter (verdict_of (body_tests p a m b l))) (ksm_org (authenticated_text a) m said) (body_counts (authenticated_text a) m b is said) (told_count (verdict_of (body_tests p a m b l)) told) (letter_is (verdict_of (body_tests p a m b l)))

  rfs_error_tells : (m : Rfs) (under : FullName) (value : ℕ) (ctr : Option ℕ) (o : Option (List ℕ)) → IsIdent m.originator → IsCount m.cta → IfSome ctr IsCount → IfSome o IsLetter → TellsEsm (coded_under under value (option_map (λ erf. rfs_message p m erf ctr) o))
  rfs_error_tells m under value ctr None peer count told letter = tt
  rfs_error_tells m under value ctr (Some erf) peer count told letter = (_, refl, rfs_error_own p m erf ctr i.own peer count letter told)

  pub rfs_tells : (a : Arrival) (m : Rfs) (fa fb : Option LinkRec) → Says (authenticated_text a) (message.Rfs m) → link_with (takes m.originator centre_label) p ≡ fa → TellsEsm (rfs_between p a m fa fb).answer
  rfs_tells a m None fb said ea = tt
  rfs_tells a m (Some l) None said ea = tt
  rfs_tells a m (Some l) (Some b) said ea =
      let named : LinkNamed l = linked p i (takes m.originator centre_label) l ea in
      let told : TellsCount (verdict_of (rfs_tests p a m l b)) = told_by (rfs_tests p a m l b) (λ e. tt, (λ e. tt, (λ e. tt, (λ e. tt, (λ e. tt, tells_after (count_tests l m.cta) ((has_count b, verdict.CountSpent) ∷ []) (counts_told l m.cta named.next) (λ e. tt, tt)))))) in
      rfs_error_tells m (rfs_under p m) (rfs_value m l) (expected_count (verdict_of (rfs_tests p a m l b))) (error_letter (verdict_of (rfs_tests p a m l b))) (rfs_org (authenticated_text a) m said) (rfs_cta (authenticated_text a) m said) (told_count (verdict_of (rfs_tests p a m l b)) told) (letter_is (verdict_of (rfs_tests p a m l b)))
