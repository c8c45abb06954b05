-- The messages that a bank writes under keys are such that their texts say them.
use Rattle.std.proofs.Common.{◌+◌, ◌<◌, ◌^◌, Bool, true, false, Option}
use Rattle.x_base.specs.Names.{IsLabel}
use Rattle.csm_grammar.specs.declared.message.Message.TheVariants as message
use Rattle.csm_grammar.specs.declared.message.KsmBody.{KsmBody}
use Rattle.csm_grammar.specs.declared.message.KsmBody.TheVariants as body
use Rattle.csm_grammar.specs.declared.message.Rtr.{Rtr}
use Rattle.csm_grammar.specs.declared.message.Rfs.{Rfs}
use Rattle.csm_grammar.specs.declared.message.Esm.{Esm}
use Rattle.bank_orders.specs.declared.draws.KkDrawn.{KkDrawn}
use Rattle.bank_arrivals.specs.declared.draws.TwinsDrawn.{TwinsDrawn}
use Rattle.bank_arrivals.specs.SendingTwins.{twins_message}
use Rattle.bank_orders.specs.StartKk.{kk_message}
use Rattle.bank_keys.specs.Ksm.{body_count, body_message}
use Rattle.bank_orders.specs.Translate.{translate_message}
use Rattle.bank_keys.specs.Rtr.{centre_ksm}
use Rattle.bank_arrivals.specs.declared.asking_again.Retry.{Retry}
use Rattle.bank_arrivals.specs.AskingAgain.{ers_message}
use Rattle.distribution_role.specs.Answering.{rtr_of}
use Rattle.translation_role.specs.Service.{rfs_value, rfs_answer, rfs_message}
use Rattle.x_seal.proofs.Undoing.{sealed_below}
use Rattle.csm_grammar.specs.Kinds.{IsReason}
use Rattle.std.proofs.Common.{arith, ℕ, ◌≤◌, Option, Some, None, List, refl}
use Rattle.std.specs.Prelude.{IfSome, length}
use Rattle.std.proofs.lemmas.List.Elements.{All-from_recursion}
use Rattle.x_base.specs.Names.{IsIdent}
use Rattle.x_base.specs.Count.{IsCount}
use Rattle.x_base.specs.declared.verdict.Verdict.{Verdict}
use Rattle.x_base.specs.declared.verdict.Verdict.TheVariants as verdict
use Rattle.csm_grammar.specs.Values.{AText, OfReason, kind_of, Denotes}
use Rattle.csm_grammar.specs.Messages.{Valued, fields_of}
use Rattle.csm_write.specs.Writable.{IsProperText, IsTypedField}
use Rattle.party_tables.specs.declared.link.LinkRec.{LinkRec}
use Rattle.party_tables.specs.declared.key.KeyRec.{KeyRec}
use Rattle.party_state.specs.State.{Party}
use Rattle.role_base.specs.Sending.{data_key_message}
use Rattle.bank_orders.specs.Ending.{end_message}
use Rattle.bank_keys.specs.Ksm.{response}
use Rattle.role_base.specs.Errors.{error_message, error_letter}
use Rattle.bank_arrivals.specs.Dsm.{dsm_response}
use Rattle.x_seal.proofs.Undoing.{wrapped_below}
use Rattle.world_laws.proofs.Texts.Names.{LinkNamed, RecordNamed}
use Rattle.world_laws.proofs.Texts.Own.{IsOwn}

abbrev ProperField : Valued → Type 0
ProperField v = IsProperText (kind_of v.tag) v.value

pub data_key_own : (p : Party) (l : LinkRec) (key : ℕ) → IsIdent p.own → LinkNamed l → IsCount l.next → IsOwn (data_key_message p l key)
data_key_own p l key own named count = record {
  fields = All-from_recursion IsTypedField (fields_of (data_key_message p l key)) (named.peer, (own, (named.label, (wrapped_below l.pair l.next key, (count, tt)))));
  texts = All-from_recursion ProperField (fields_of (data_key_message p l key)) (tt, (tt, (tt, (tt, (tt, tt)))));
  allowed = refl;
  free = omega arith;
}

pub response_own : (p : Party) (originator : List ℕ) → IsIdent p.own → IsIdent originator → IsOwn (response p originator)
response_own p originator own peer = record {
  fields = All-from_recursion IsTypedField (fields_of (response p originator)) (peer, (own, tt));
  texts = All-from_recursion ProperField (fields_of (response p originator)) (tt, (tt, tt));
  allowed = refl;
  free = omega arith;
}

pub dsm_response_own : (p : Party) (k : KeyRec) → IsIdent p.own → RecordNamed k → IsOwn (dsm_response p k)
dsm_response_own p k own named = record {
  fields = All-from_recursion IsTypedField (fields_of (dsm_response p k)) (named.peer, (own, (named.name, tt)));
  texts = All-from_recursion ProperField (fields_of (dsm_response p k)) (tt, (tt, (tt, tt)));
  allowed = refl;
  free = omega arith;
}

pub end_own : (p : Party) (k : KeyRec) → IsIdent p.own → RecordNamed k → IsOwn (end_message p k)
end_own p k own named = record {
  fields = All-from_recursion IsTypedField (fields_of (end_message p k)) (named.peer, (own, (named.name, tt)));
  texts = All-from_recursion ProperField (fields_of (end_message p k)) (tt, (tt, (tt, tt)));
  allowed = refl;
  free = omega arith;
}

-- the letters of refusals
pub record IsLetter (erf : List ℕ) : Type 0 where
  pub proper : Denotes OfReason erf (AText erf)
  pub short : length erf ≤ 64

pub letter_is : (v : Verdict) → IfSome (error_letter v) IsLetter
letter_is (verdict.CountLow expected) = record { proper = refl; short = omega arith }
letter_is verdict.CountSpent = record { proper = refl; short = omega arith }
letter_is verdict.LabelTaken = record { proper = refl; short = omega arith }
letter_is verdict.SameKey = record { proper = refl; short = omega arith }
letter_is verdict.LinksFull = record { proper = refl; short = omega arith }
letter_is verdict.KeysFull = record { proper = refl; short = omega arith }
letter_is _ = _

pub error_own : (p : Party) (originator : List ℕ) (ctp : ℕ) (erf : List ℕ) (ctr : Option ℕ) → IsIdent p.own → IsIdent originator → IsCount ctp → IsLetter erf → IfSome ctr IsCount → IsOwn (error_message p originator (record { ctp = Some ctp; cta = None; ctb = None }) erf ctr)
error_own p originator ctp erf None own peer count letter told = let short = letter.short in record {
  fields = All-from_recursion IsTypedField (fields_of (error_message p originator (record { ctp = Some ctp; cta = None; ctb = None }) erf None)) (peer, (own, (count, (tt, tt))));
  texts = All-from_recursion ProperField (fields_of (error_message p originator (record { ctp = Some ctp; cta = None; ctb = None }) erf None)) (tt, (tt, (tt, (letter.proper, tt))));
  allowed = refl;
  free = omega (arith, short);
}
error_own p originator ctp erf (Some n) own peer count letter told = let short = letter.short in record {
  fields = All-from_recursion IsTypedField (fields_of (error_message p originator (record { ctp = Some ctp; cta = None; ctb = None }) erf (Some n))) (peer, (own, (count, (told, (tt, tt)))));
  texts = All-from_recursion ProperField (fields_of (error_message p originator (record { ctp = Some ctp; cta = None; ctb = None }) erf (Some n))) (tt, (tt, (tt, (tt, (letter.proper, tt)))));
  allowed = refl;
  free = omega (arith, short);
}

-- the messages with a new key-encrypting key, and of centres

pub kk_own : (p : Party) (l : LinkRec) (new : List ℕ) (single : Bool) (d : KkDrawn) → IsIdent p.own → LinkNamed l → IsLabel new → IsCount l.next → IsOwn (kk_message p l new single d)
kk_own p l new true d own named label count = record {
  fields = All-from_recursion IsTypedField (fields_of (kk_message p l new true d)) (named.peer, (own, (label, (named.label, (wrapped_below l.pair l.next d.pair.left, (wrapped_below d.pair 1 d.key, (count, tt)))))));
  texts = All-from_recursion ProperField (fields_of (kk_message p l new true d)) (tt, (tt, (tt, (tt, (tt, (tt, (tt, tt)))))));
  allowed = refl;
  free = omega arith;
}
kk_own p l new false d own named label count = record {
  fields = All-from_recursion IsTypedField (fields_of (kk_message p l new false d)) (named.peer, (own, (label, (named.label, ((wrapped_below l.pair l.next d.pair.left, wrapped_below l.pair l.next d.pair.right), (wrapped_below d.pair 1 d.key, (count, tt)))))));
  texts = All-from_recursion ProperField (fields_of (kk_message p l new false d)) (tt, (tt, (tt, (tt, (tt, (tt, (tt, tt)))))));
  allowed = refl;
  free = omega arith;
}

pub twins_own : (p : Party) (l : LinkRec) (d : TwinsDrawn) → IsIdent p.own → LinkNamed l → IsCount l.next → IsOwn (twins_message p l d)
twins_own p l d own named count = record {
  fields = All-from_recursion IsTypedField (fields_of (twins_message p l d)) (named.peer, (own, (named.label, (wrapped_below l.pair l.next d.first, (wrapped_below l.pair (l.next + 1) d.second, (count, tt))))));
  texts = All-from_recursion ProperField (fields_of (twins_message p l d)) (tt, (tt, (tt, (tt, (tt, (tt, tt))))));
  allowed = refl;
  free = omega arith;
}

pub translate_own : (p : Party) (centre u : List ℕ) (l : LinkRec) (key : ℕ) → IsIdent p.own → IsIdent centre → IsIdent u → IsCount l.next → IsOwn (translate_message p centre u l key)
translate_own p centre u l key own to for count = record {
  fields = All-from_recursion IsTypedField (fields_of (translate_message p centre u l key)) (to, (own, (for, (wrapped_below l.pair l.next key, (count, tt)))));
  texts = All-from_recursion ProperField (fields_of (translate_message p centre u l key)) (tt, (tt, (tt, (tt, (tt, tt)))));
  allowed = refl;
  free = omega arith;
}

pub centre_ksm_own : (p : Party) (m : Rtr) → IsIdent p.own → IsIdent m.originator → IsIdent m.ultimate → m.kdu < 2 ^ 64 → IsCount m.ctb → IsOwn (message.Ksm (centre_ksm p m))
centre_ksm_own p m own centre ultimate key count = record {
  fields = All-from_recursion IsTypedField (fields_of (message.Ksm (centre_ksm p m))) (ultimate, (own, (centre, (key, (count, tt)))));
  texts = All-from_recursion ProperField (fields_of (message.Ksm (centre_ksm p m))) (tt, (tt, (tt, (tt, (tt, tt)))));
  allowed = refl;
  free = omega arith;
}

pub rtr_own : (p : Party) (requester u : List ℕ) (a b : LinkRec) (key : ℕ) → IsIdent p.own → IsIdent requester → IsIdent u → IsCount a.next → IsCount b.next → IsOwn (message.Rtr (rtr_of p requester u a b key))
rtr_own p requester u a b key own to for cta ctb = record {
  fields = All-from_recursion IsTypedField (fields_of (message.Rtr (rtr_of p requester u a b key))) (to, (own, (for, (wrapped_below a.pair a.next key, (sealed_below b.pair requester u b.next key, (cta, (ctb, tt)))))));
  texts = All-from_recursion ProperField (fields_of (message.Rtr (rtr_of p requester u a b key))) (tt, (tt, (tt, (tt, (tt, (tt, (tt, tt)))))));
  allowed = refl;
  free = omega arith;
}

pub translated_own : (p : Party) (m : Rfs) (l b : LinkRec) → IsIdent p.own → IsIdent m.originator → IsIdent m.ultimate → IsCount b.next → IsOwn (message.Rtr (rfs_answer p m l b))
translated_own p m l b own to for ctb = record {
  fields = All-from_recursion IsTypedField (fields_of (message.Rtr (rfs_answer p m l b))) (to, (own, (for, (sealed_below b.pair m.originator m.ultimate b.next (rfs_value m l), (ctb, tt)))));
  texts = All-from_recursion ProperField (fields_of (message.Rtr (rfs_answer p m l b))) (tt, (tt, (tt, (tt, (tt, tt)))));
  allowed = refl;
  free = omega arith;
}

pub ers_own : (p : Party) (m : Esm) (t : Retry) → IsIdent p.own → IsIdent m.originator → IsIdent t.centre → IsCount t.ctr → IsReason m.erf → IsOwn (ers_message p m t)
ers_own p m t own from to count reason = let short = reason.short in record {
  fields = All-from_recursion IsTypedField (fields_of (ers_message p m t)) (to, (own, (from, (count, (tt, tt)))));
  texts = All-from_recursion ProperField (fields_of (ers_message p m t)) (tt, (tt, (tt, (tt, (reason.proper, tt)))));
  allowed = refl;
  free = omega (arith, short);
}

-- the error messages to refused texts of the other forms
pub body_error_own : (p : Party) (originator : List ℕ) (b : KsmBody) (erf : List ℕ) (ctr : Option ℕ) → IsIdent p.own → IsIdent originator → IsCount (body_count b) → IsLetter erf → IfSome ctr IsCount → IsOwn (body_message p originator b erf ctr)
body_error_own p originator (body.Direct idk2 new kd ctp) erf ctr own peer count letter told = error_own p originator ctp erf ctr own peer count letter told
body_error_own p originator (body.Twin idk2 first second ctp) erf ctr own peer count letter told = error_own p originator ctp erf ctr own peer count letter told
body_error_own p originator (body.Centre centre kdu ctb) erf None own peer count letter told = let short = letter.short in record {
  fields = All-from_recursion IsTypedField (fields_of (body_message p originator (body.Centre centre kdu ctb) erf None)) (peer, (own, (count, (tt, tt))));
  texts = All-from_recursion ProperField (fields_of (body_message p originator (body.Centre centre kdu ctb) erf None)) (tt, (tt, (tt, (letter.proper, tt))));
  allowed = refl;
  free = omega (arith, short);
}
body_error_own p originator (body.Centre centre kdu ctb) erf (Some n) own peer count letter told = let short = letter.short in record {
  fields = All-from_recursion IsTypedField (fields_of (body_message p originator (body.Centre centre kdu ctb) erf (Some n))) (peer, (own, (count, (told, (tt, tt)))));
  texts = All-from_recursion ProperField (fields_of (body_message p originator (body.Centre centre kdu ctb) erf (Some n))) (tt, (tt, (tt, (tt, (letter.proper, tt)))));
  allowed = refl;
  free = omega (arith, short);
}

pub rfs_error_own : (p : Party) (m : Rfs) (erf : List ℕ) (ctr : Option ℕ) → IsIdent p.own → IsIdent m.originator → IsCount m.cta → IsLetter erf → IfSome ctr IsCount → IsOwn (rfs_message p m erf ctr)
rfs_error_own p m erf None own peer count letter told = let short = letter.short in record {
  fields = All-from_recursion IsTypedField (fields_of (rfs_message p m erf None)) (peer, (own, (count, (tt, tt))));
  texts = All-from_recursion ProperField (fields_of (rfs_message p m erf None)) (tt, (tt, (tt, (letter.proper, tt))));
  allowed = refl;
  free = omega (arith, short);
}
rfs_error_own p m erf (Some n) own peer count letter told = let short = letter.short in record {
  fields = All-from_recursion IsTypedField (fields_of (rfs_message p m erf (Some n))) (peer, (own, (count, (told, (tt, tt)))));
  texts = All-from_recursion ProperField (fields_of (rfs_message p m erf (Some n))) (tt, (tt, (tt, (tt, (letter.proper, tt)))));
  allowed = refl;
  free = omega (arith, short);
}
