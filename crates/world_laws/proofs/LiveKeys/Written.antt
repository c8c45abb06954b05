-- A text that a party writes is heard where it arrives, and its code agrees.
use Rattle.std.proofs.Common.{arith, ◌≡◌, ◌≤◌, ◌+◌, ℕ, true, Some, None, List, [], ◌++◌, length, drop, refl, sym, ◌∙◌, ap, subst, append-nil}
use Rattle.std.specs.Prelude.{◌==◌, codes}
use Rattle.std.proofs.lemmas.Bool.{eq-eqb, ne_eqb}
use Rattle.std.proofs.lemmas.List.{take_all, drop_all}
use Rattle.std.proofs.Math.Seq.{take-append_seam}
use Rattle.csm_grammar.specs.declared.arrival.Arrival.{Arrival}
use Rattle.csm_grammar.specs.declared.message.Message.{Message}
use Rattle.csm_grammar.specs.Messages.{form_of, fields_of, shut_field}
use Rattle.csm_grammar.specs.Spelling.{field_text}
use Rattle.csm_grammar.specs.Reading.{IsRead, IsArrival}
use Rattle.csm_read.proofs.Written.{written_read}
use Rattle.std.specs.List.{All}
use Rattle.csm_grammar.specs.declared.parsed.Shut.TheVariants as shut
use Rattle.csm_grammar.specs.Classes.{allows}
use Rattle.csm_grammar.specs.Values.{kind_of}
use Rattle.csm_write.specs.declared.closing.Closing.{Closing}
use Rattle.csm_write.specs.declared.closing.Closing.TheVariants as closing
use Rattle.csm_write.specs.Canon.{auth_of, shut_of, canon, field_for}
use Rattle.csm_write.specs.Writable.{IsProperText, IsTypedField, AreTyped, Writable}
use Rattle.csm_write.specs.Shortness.{free_length}
use Rattle.canon_laws.specs.Laws.{read_of}
use Rattle.canon_laws.proofs.Reading.{reads_back}
use Rattle.csm_write.proofs.Lengths.{canon_short}
use Rattle.csm_feed.specs.Heard.{leading, first_other, refused_place, trailing, input_limit}
use Rattle.x_mac.specs.Code.{mac_of, edc_of}
use Rattle.csm_grammar.specs.Arrivals.{authenticated_text}
use Rattle.role_base.specs.Texts.{is_verified, is_right}
use Rattle.world_laws.specs.Hearing.{IsHeard}
use Rattle.world_laws.proofs.Texts.Own.{IsOwn}

module _ (m : Message) (c : Closing) (typed : AreTyped m c) (writable : Writable m c) where
  pub read : IsRead (canon m c) (read_of m c)
  read = subst (λ (b : List ℕ). IsRead b (read_of m c)) (append-nil (canon m c)) (reads_back written_read m c typed writable [])

  pub arrives : IsArrival (canon m c) (read_of m c)
  arrives = record { read = read; whole = refl }

  -- the arrival of the text
  abbrev pub arrival_of : Arrival
  arrival_of = record { parsed = read_of m c; text = canon m c; arrived = ∣ arrives ∣₁ }

  nothing_behind : trailing (canon m c) (length (canon m c)) ≡ None
  nothing_behind =
      let none : first_other (drop (length (canon m c)) (canon m c)) ≡ None = ap first_other (drop_all (length (canon m c)) (canon m c) (omega arith)) in
      ap (refused_place (length (canon m c)) (length (canon m c))) none ∙ not_full (length (canon m c)) writable.short
    where
      not_full : (n : ℕ) → n ≤ 1024 → refused_place n n None ≡ None
      not_full n l = rw (ne_eqb n input_limit (λ e. omega (arith, l, e))) refl

  none_leads : leading (canon m c) + length (canon m c) ≡ length (canon m c)
  none_leads = (let none : leading (canon m c) ≡ 0 = refl in omega (arith, none))

  pub heard_of : IsHeard (canon m c) (Some arrival_of)
  heard_of = ((read, ap (trailing (canon m c)) none_leads ∙ nothing_behind), sym (take_all (length (canon m c)) (canon m c) (omega arith)))

  pub auth_of_is : authenticated_text arrival_of ≡ auth_of m
  auth_of_is = take-append_seam (auth_of m) (field_text (field_for (shut_field (shut_of m c))) ++ codes ")")

-- under a key
module _ (m : Message) (k : ℕ) (o : IsOwn m) where
  pub typed_own : AreTyped m (closing.Mac k)
  typed_own = record { fields = o.fields; closing = tt }

  pub writable_own : Writable m (closing.Mac k)
  writable_own = record { texts = o.texts; allowed = o.allowed; short = canon_short m (closing.Mac k) typed_own o.free }

  abbrev pub arrival : Arrival
  arrival = arrival_of m (closing.Mac k) typed_own writable_own

  pub heard : IsHeard (canon m (closing.Mac k)) (Some arrival)
  heard = heard_of m (closing.Mac k) typed_own writable_own

  pub auth_is : authenticated_text arrival ≡ auth_of m
  auth_is = auth_of_is m (closing.Mac k) typed_own writable_own

  -- its code agrees with the key, also as another came by it
  pub verified_as : (v : ℕ) → v ≡ k → is_verified arrival v ≡ true
  unfolding is_verified
  verified_as v same = go (authenticated_text arrival) auth_is
    where
      go : (t : List ℕ) → t ≡ auth_of m → (mac_of v t == mac_of k (auth_of m)) ≡ true
      go t e = rw (e, same) (eq-eqb (mac_of k (auth_of m)) (mac_of k (auth_of m)) refl)

-- a request, which has an error detection code
pub record IsRequest (m : Message) : Type 0 where
  pub fields : All IsTypedField (fields_of m)
  pub texts : All (λ v. IsProperText (kind_of v.tag) v.value) (fields_of m)
  pub allowed : allows (form_of m) (shut_field (shut.Edc 0)).tag ≡ true
  pub free : free_length m ≤ 64

module _ (m : Message) (r : IsRequest m) where
  pub typed_request : AreTyped m closing.Edc
  typed_request = record { fields = r.fields; closing = tt }

  pub writable_request : Writable m closing.Edc
  writable_request = record { texts = r.texts; allowed = r.allowed; short = canon_short m closing.Edc typed_request r.free }

  abbrev pub request : Arrival
  request = arrival_of m closing.Edc typed_request writable_request

  pub request_heard : IsHeard (canon m closing.Edc) (Some request)
  request_heard = heard_of m closing.Edc typed_request writable_request

  pub request_right : is_right request ≡ true
  unfolding is_right
  request_right = go (authenticated_text request) (auth_of_is m closing.Edc typed_request writable_request)
    where
      go : (t : List ℕ) → t ≡ auth_of m → (edc_of t == edc_of (auth_of m)) ≡ true
      go t e = rw e (eq-eqb (edc_of (auth_of m)) (edc_of (auth_of m)) refl)
