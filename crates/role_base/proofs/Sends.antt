-- What a bank sends with a new data key under a link, and what it keeps.
use Rattle.std.proofs.Common.{◌≡◌, ℕ, ◌+◌, ◌<◌, ◌^◌, Some, None, List, refl}
use Rattle.x_mac.specs.declared.pair.Pair.{Pair}
use Rattle.x_gen.specs.declared.generator.Gen.{Gen}
use Rattle.x_gen.specs.Gen.{good_draw}
use Rattle.x_gen.specs.Laws.{DrawsOdd}
use Rattle.x_seal.specs.Wrapped.{wrap_of, unwrap_of}
use Rattle.csm_grammar.specs.declared.message.KsmBody.TheVariants as body
use Rattle.csm_grammar.specs.declared.message.Ksm.{Ksm}
use Rattle.party_tables.specs.declared.link.LinkRec.{LinkRec}
use Rattle.party_tables.specs.declared.key.KeyRec.{KeyRec}
use Rattle.party_tables.specs.declared.key.KeyStatus.TheVariants.{Pending}
use Rattle.party_tables.specs.declared.exchange.Exchange.{Exchange}
use Rattle.party_tables.specs.declared.exchange.Via.TheVariants as vias
use Rattle.party_tables.specs.declared.exchange.Kind.TheVariants as kind
use Rattle.party_state.specs.State.{Party, apply}
use Rattle.party_state.specs.Verdicts.{Test}
use Rattle.role_base.specs.Texts.{text_of, no_extras}
use Rattle.role_base.specs.Sending.{next_name, data_key_reply, sending_drawn, sending}
use Rattle.role_base.specs.Sends.{SendsKey}
use Rattle.role_base.proofs.PartyLaws.{LinkLaws, KeyLaws, ExchangeLaws, put_same, key_put_same, exchange_put}

abbrev pub Unwraps : Type 0
Unwraps = (kk : Pair) (count key : ℕ) → key < 2 ^ 64 → unwrap_of kk count (wrap_of kk count key) ≡ key

module _ (unwraps : Unwraps) (odd : DrawsOdd) (links : LinkLaws) (keys : KeyLaws) (exchanges : ExchangeLaws) where
  sends_drawn : (p : Party) (front : List Test) (l : LinkRec) (moment : ℕ) (d : ℕ × Gen) → good_draw p.generator moment ≡ Some d → SendsKey p (apply (sending_drawn p front l (Some d)).edits p) (sending_drawn p front l (Some d)) l moment
  unfolding text_of
  sends_drawn p front l moment d drawn = record {
    key = d.0;
    generator = d.1;
    drawn = drawn;
    goes_on = refl;
    name = next_name p l;
    named = refl;
    ksm = ksm;
    kd = wrap_of l.pair l.next d.0;
    written = refl;
    receiver = refl;
    sender = refl;
    carries = refl;
    bare = refl;
    opened = unwraps l.pair l.next d.0 (odd p.generator moment d drawn).below;
    used = put_same links (record l { next = l.next + 1 }) p;
    pending = key_put_same keys pending p;
    waits = exchange_put exchanges waits p;
  }
    where
      ksm : Ksm
      ksm = record { receiver = l.peer; originator = p.own; body = body.Direct (Some l.label) None (wrap_of l.pair l.next d.0) l.next; extras = no_extras }

      pending : KeyRec
      pending = record { peer = l.peer; name = next_name p l; value = d.0; status = Pending }

      waits : Exchange
      waits = record { peer = l.peer; kind = kind.KeySent (next_name p l) (vias.Direct l.label None); text = text_of (data_key_reply p l d.0) }

  pub sends : (p : Party) (front : List Test) (l : LinkRec) (moment : ℕ) (d : ℕ × Gen) → good_draw p.generator moment ≡ Some d → SendsKey p (apply (sending p front l moment).edits p) (sending p front l moment) l moment
  sends p front l moment d drawn = rw drawn (sends_drawn p front l moment d drawn)
