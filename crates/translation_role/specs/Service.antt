-- A data key arrives at a key translation centre (ANSI X9.17, request for service): it goes back to its originator,
-- encrypted for the ultimate recipient; a refusal for a count is answered by an error message.
use Rattle.std.specs.Prelude.{ℕ, ◌+◌, Bool, true, false, cond, not, List, [], ◌∷◌, ◌++◌, Option, Some, None, bytes_eq}
use Rattle.x_base.specs.declared.key_name.FullName.{FullName}
use Rattle.x_base.specs.declared.verdict.Verdict.{Verdict}
use Rattle.x_base.specs.declared.verdict.Verdict.TheVariants.{UnknownKk, BadMac, CountSpent}
use Rattle.x_seal.specs.Wrapped.{unwrap_of, seal_of}
use Rattle.csm_grammar.specs.declared.message.Message.{Message}
use Rattle.csm_grammar.specs.declared.message.Message.TheVariants as message
use Rattle.csm_grammar.specs.declared.message.Rfs.{Rfs}
use Rattle.csm_grammar.specs.declared.message.Rtr.{Rtr}
use Rattle.csm_grammar.specs.declared.arrival.Arrival.{Arrival}
use Rattle.party_tables.specs.declared.link.LinkRec.{LinkRec}
use Rattle.party_state.specs.declared.edit.Edit.{Edit}
use Rattle.party_state.specs.declared.edit.Edit.TheVariants.{PutLink}
use Rattle.party_state.specs.declared.decision.Lead.{Lead}
use Rattle.party_tables.specs.Keys.{sends, takes}
use Rattle.party_state.specs.State.{Party, centre_label, link_with}
use Rattle.party_state.specs.Verdicts.{Test, verdict_of, tests_pass}
use Rattle.party_state.specs.Rows.{Row, Reply, Coded, OneKey, refused}
use Rattle.role_base.specs.declared.errors.ErrorCounts.{ErrorCounts}
use Rattle.role_base.specs.Texts.{direct_name, no_extras, is_verified, lead_under}
use Rattle.role_base.specs.Conditions.{has_count, count_tests}
use Rattle.role_base.specs.Errors.{error_message, error_for, coded_under}
use Rattle.role_base.specs.Centres.{request_front}

-- the key that came, and its full name
abbrev pub rfs_value : Rfs → LinkRec → ℕ
rfs_value m l = unwrap_of l.pair m.cta m.kd

abbrev pub rfs_under : Party → Rfs → FullName
rfs_under p m = record { name = direct_name m.originator centre_label m.cta; recipient = p.own }

abbrev pub rfs_answer : Party → Rfs → LinkRec → LinkRec → Rtr
rfs_answer p m l b = record { receiver = m.originator; originator = p.own; ultimate = m.ultimate; kd = None; kdu = seal_of b.pair m.originator m.ultimate b.next (rfs_value m l); ctb = b.next; extras = no_extras }

abbrev pub rfs_reply : Party → Rfs → LinkRec → LinkRec → Reply
rfs_reply p m l b = Coded (message.Rtr (rfs_answer p m l b)) (rfs_under p m) (rfs_value m l)

-- the count that came is used, and one of the ultimate recipient's link
abbrev pub rfs_edits : Rfs → LinkRec → LinkRec → List Edit
rfs_edits m l b = PutLink (record l { next = m.cta + 1 }) ∷ PutLink (record b { next = b.next + 1 }) ∷ []

abbrev pub rfs_front : Party → Rfs → Bool → List Test
rfs_front p m linked = request_front p m.receiver m.originator (not (bytes_eq m.ultimate m.originator)) ++ (linked, UnknownKk) ∷ []

-- the tests behind the code's
abbrev pub rfs_rest : Rfs → LinkRec → LinkRec → List Test
rfs_rest m l b = count_tests l m.cta ++ (has_count b, CountSpent) ∷ []

abbrev pub rfs_tests : Party → Arrival → Rfs → LinkRec → LinkRec → List Test
rfs_tests p a m l b = rfs_front p m true ++ (is_verified a (rfs_value m l), BadMac) ∷ rfs_rest m l b

-- a refusal names the count that came

abbrev pub rfs_counts : Rfs → ErrorCounts
rfs_counts m = record { ctp = None; cta = Some m.cta; ctb = None }

abbrev pub rfs_message : Party → Rfs → List ℕ → Option ℕ → Message
rfs_message p m erf ctr = error_message p m.originator (rfs_counts m) erf ctr

abbrev pub rfs_error : Party → Rfs → Verdict → Option Message
rfs_error p m v = error_for p m.originator (rfs_counts m) v

abbrev pub rfs_between : Party → Arrival → Rfs → Option LinkRec → Option LinkRec → Row
rfs_between p a m None found = refused (verdict_of (rfs_front p m false))
rfs_between p a m (Some l) None = refused (verdict_of (rfs_front p m false))
rfs_between p a m (Some l) (Some b) = record {
  verdict = verdict_of (rfs_tests p a m l b);
  edits = rfs_edits m l b;
  reply = Some (rfs_reply p m l b);
  uses = record { recipient = m.ultimate; label = centre_label; count = b.next; sealed = OneKey (rfs_value m l) } ∷ [];
  makes = None;
  accepts = None;
  answer = coded_under (rfs_under p m) (rfs_value m l) (rfs_error p m (verdict_of (rfs_tests p a m l b)));
}

abbrev pub rfs : Party → Arrival → Rfs → Row
rfs p a m = rfs_between p a m (link_with (takes m.originator centre_label) p) (link_with (sends m.ultimate centre_label) p)

-- the key under which its code is tested: the one that it carries

abbrev pub rfs_lead_between : Party → Arrival → Rfs → Option LinkRec → Option LinkRec → Option Lead
rfs_lead_between p a m None found = None
rfs_lead_between p a m (Some l) None = None
rfs_lead_between p a m (Some l) (Some b) = cond (tests_pass (rfs_front p m true)) (Some (lead_under a (rfs_under p m) (rfs_value m l))) None

abbrev pub rfs_lead : Party → Arrival → Rfs → Option Lead
rfs_lead p a m = rfs_lead_between p a m (link_with (takes m.originator centre_label) p) (link_with (sends m.ultimate centre_label) p)
