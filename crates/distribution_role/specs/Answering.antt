-- The answer of a key distribution centre (ANSI X9.17, response to request): a drawn key, encrypted for the requester
-- and for the ultimate recipient, each under its link with the centre at that link's next count.
use Rattle.std.specs.Prelude.{ℕ, ◌+◌, true, false, List, [], ◌∷◌, ◌++◌, Option, Some, None}
use Rattle.x_base.specs.declared.key_name.FullName.{FullName}
use Rattle.x_base.specs.declared.verdict.Verdict.TheVariants.{WeakDraws}
use Rattle.x_gen.specs.declared.generator.Gen.{Gen}
use Rattle.x_seal.specs.Wrapped.{wrap_of, seal_of}
use Rattle.csm_grammar.specs.declared.message.Message.TheVariants as message
use Rattle.csm_grammar.specs.declared.message.Rtr.{Rtr}
use Rattle.party_tables.specs.declared.link.LinkRec.{LinkRec}
use Rattle.party_state.specs.declared.edit.Edit.{Edit}
use Rattle.party_state.specs.declared.edit.Edit.TheVariants.{PutLink, PutAnswer, SetGen}
use Rattle.party_state.specs.State.{Party, centre_label}
use Rattle.party_state.specs.Verdicts.{Test, verdict_of}
use Rattle.party_state.specs.Rows.{Row, Reply, Coded, OneKey, refused}
use Rattle.role_base.specs.Texts.{direct_name, no_extras}
use Rattle.distribution_role.specs.declared.answering.RecipientLinks.{RecipientLinks}

-- the links with both banks, each with its next count
abbrev pub links_of : LinkRec → LinkRec → RecipientLinks
links_of a b = record { requester = a; cta = a.next; ultimate = b; ctb = b.next }

-- the answer: the drawn key for both banks
abbrev pub rtr_of : Party → List ℕ → List ℕ → LinkRec → LinkRec → ℕ → Rtr
rtr_of p requester u a b key = record {
  receiver = requester;
  originator = p.own;
  ultimate = u;
  kd = Some (wrap_of a.pair a.next key, a.next);
  kdu = seal_of b.pair requester u b.next key;
  ctb = b.next;
  extras = no_extras;
}

-- the full name of the key as it is sent to the requester
abbrev pub answer_under : Party → List ℕ → ℕ → FullName
answer_under p requester cta = record { name = direct_name p.own centre_label cta; recipient = requester }

abbrev pub answer_reply : Party → List ℕ → List ℕ → LinkRec → LinkRec → ℕ → Reply
answer_reply p requester u a b key = Coded (message.Rtr (rtr_of p requester u a b key)) (answer_under p requester a.next) key

-- the generator goes on, both counts are used, and the key is kept for a request that comes again
abbrev pub answer_edits : List ℕ → List ℕ → LinkRec → LinkRec → ℕ → ℕ → List Edit
answer_edits requester u a b key v =
    SetGen v
    ∷ PutLink (record a { next = a.next + 1 })
    ∷ PutLink (record b { next = b.next + 1 })
    ∷ PutAnswer (record { requester = requester; ultimate = u; cta = a.next; value = key })
    ∷ []

-- the row behind the tests that come before, with what is drawn
abbrev pub answering : Party → List ℕ → List ℕ → List Test → LinkRec → LinkRec → Option (ℕ × Gen) → Row
answering p requester u tests a b None = refused (verdict_of (tests ++ (false, WeakDraws) ∷ []))
answering p requester u tests a b (Some d) = record {
  verdict = verdict_of (tests ++ (true, WeakDraws) ∷ []);
  edits = answer_edits requester u a b d.0 d.1.v;
  reply = Some (answer_reply p requester u a b d.0);
  uses = record { recipient = requester; label = centre_label; count = a.next; sealed = OneKey d.0 } ∷ record { recipient = u; label = centre_label; count = b.next; sealed = OneKey d.0 } ∷ [];
  makes = None;
  accepts = None;
  answer = None;
}
