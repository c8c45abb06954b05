-- The rows that use a key-encrypting key.
use Rattle.std.proofs.Common.{◌≡◌, ℕ, ◌+◌, ◌<◌, ◌^◌, Bool, Option, Some, None, List, [], ◌∷◌, ◌++◌, refl, sym, ◌∙◌, ap, subst}
use Rattle.x_mac.specs.declared.pair.Pair.{Pair}
use Rattle.x_gen.specs.declared.generator.Gen.{Gen}
use Rattle.x_gen.specs.Gen.{good_draw}
use Rattle.x_seal.specs.Wrapped.{wrap_of, unwrap_of, seal_of, unseal_of}
use Rattle.x_seal.proofs.Undoing.{unwraps, unseals, unwrapped_below}
use Rattle.csm_grammar.specs.declared.message.NewKk.{NewKk}
use Rattle.csm_grammar.specs.declared.message.NewKk.TheVariants as new_kk
use Rattle.csm_grammar.specs.declared.message.Rfs.{Rfs}
use Rattle.csm_grammar.specs.declared.arrival.Arrival.{Arrival}
use Rattle.party_tables.specs.declared.link.LinkKey.{LinkKey}
use Rattle.party_tables.specs.declared.link.LinkRec.{LinkRec}
use Rattle.party_tables.specs.Keys.{sends}
use Rattle.party_state.specs.State.{Party, centre_label, link_with}
use Rattle.party_state.specs.Verdicts.{Test}
use Rattle.party_state.specs.Rows.{Row, Reply, Coded, Plain, Again, Use, Made, OnePair}
use Rattle.role_base.specs.Sending.{sending_drawn}
use Rattle.bank_keys.specs.Ksm.{opened_kk}
use Rattle.bank_orders.specs.Start.{start_tests, start_under}
use Rattle.bank_orders.specs.declared.draws.KkDrawn.{KkDrawn}
use Rattle.bank_orders.specs.StartKk.{sealed_kk, kk_sending, start_kk_under}
use Rattle.bank_orders.specs.Draws.{kk_drawn}
use Rattle.bank_orders.specs.Translate.{translate_drawn, translate_under}
use Rattle.bank_arrivals.specs.declared.draws.TwinsDrawn.{TwinsDrawn}
use Rattle.bank_arrivals.specs.SendingTwins.{twins_drawn, twins_sending_drawn}
use Rattle.distribution_role.specs.Answering.{answering}
use Rattle.translation_role.specs.Service.{rfs_value, rfs_between}
use Rattle.world_laws.specs.Carried.{carried_kk}
use Rattle.world_laws.specs.Shown.{one_use, under_pair, under_link, message_uses, message_birth}
use Rattle.world_laws.proofs.Links.Found.{SendingAt}
use Rattle.world_laws.proofs.Texts.Drawn.{drawn_below}
use Rattle.world_laws.proofs.Agreeing.SendingRows.{KkSound, opened_is, kk_draw_sound}
use Rattle.world_laws.proofs.Agreeing.TwinRows.{TwinsBelow, twins_below}

-- what a reply shows

abbrev pub reply_uses : Party → Option Reply → List Use
reply_uses p None = []
reply_uses p (Some (Coded m under value)) = message_uses p m
reply_uses p (Some (Plain m)) = []
reply_uses p (Some (Again text)) = []

abbrev pub reply_birth : Option Reply → Option Made
reply_birth None = None
reply_birth (Some (Coded m under value)) = message_birth m
reply_birth (Some (Plain m)) = None
reply_birth (Some (Again text)) = None

pub record RowShows (p : Party) (r : Row) : Type 0 where
  pub uses : r.uses ≡ reply_uses p r.reply
  pub birth : r.makes ≡ reply_birth r.reply

-- a pair under the link with this recipient and label, at a count
abbrev one_pair : List ℕ → List ℕ → ℕ → Pair → Use
one_pair recipient label count pair = record { recipient = recipient; label = label; count = count; sealed = OnePair pair }

-- what was wrapped is shown
wrapped_shows : (p : Party) (recipient label : List ℕ) (l : LinkRec) (count key : ℕ) → link_with (sends recipient label) p ≡ Some l → key < 2 ^ 64
    → one_use recipient label count key ∷ [] ≡ under_link p recipient label (λ pair. one_use recipient label count (unwrap_of pair count (wrap_of l.pair count key)) ∷ [])
wrapped_shows p recipient label l count key at below =
    subst (λ (o : Option LinkRec). one_use recipient label count key ∷ [] ≡ under_pair o (λ pair. one_use recipient label count (unwrap_of pair count (wrap_of l.pair count key)) ∷ [])) (sym at)
    (ap (λ (k : ℕ). one_use recipient label count k ∷ []) (sym (unwraps l.pair count key below)))

sealed_shows : (p : Party) (requester u : List ℕ) (l : LinkRec) (count key : ℕ) → link_with (sends u centre_label) p ≡ Some l → key < 2 ^ 64
    → one_use u centre_label count key ∷ [] ≡ under_link p u centre_label (λ pair. one_use u centre_label count (unseal_of pair requester u count (seal_of l.pair requester u count key)) ∷ [])
sealed_shows p requester u l count key at below =
    subst (λ (o : Option LinkRec). one_use u centre_label count key ∷ [] ≡ under_pair o (λ pair. one_use u centre_label count (unseal_of pair requester u count (seal_of l.pair requester u count key)) ∷ [])) (sym at)
    (ap (λ (k : ℕ). one_use u centre_label count k ∷ []) (sym (unseals l.pair requester u count key below)))

-- the link to send under is that of its peer and label
sending_link_at : (p : Party) (peer : List ℕ) (l : LinkRec) → SendingAt p peer l → link_with (sends l.peer l.label) p ≡ Some l
sending_link_at p peer l s =
    let peer_is : l.peer ≡ peer = ap (λ (k : LinkKey). k.peer) s.at.key in
    subst (λ (q : List ℕ). link_with (sends q l.label) p ≡ Some l) (sym peer_is) s.at.found

pub sending_shows : (p : Party) (front : List Test) (peer : List ℕ) (l : LinkRec) (g : Gen) (moment : ℕ) (drawn : Option (ℕ × Gen)) → good_draw g moment ≡ drawn → SendingAt p peer l → RowShows p (sending_drawn p front l drawn)
sending_shows p front peer l g moment None e s = record { uses = refl; birth = refl }
sending_shows p front peer l g moment (Some d) e s = record { uses = wrapped_shows p l.peer l.label l l.next d.0 (sending_link_at p peer l s) (drawn_below g moment d e); birth = refl }

pub start_shows : (p : Party) (peer : List ℕ) (o : Option LinkRec) (moment : ℕ) → ((l : LinkRec) → o ≡ Some l → SendingAt p peer l) → RowShows p (start_under p peer o moment)
start_shows p peer None moment f = record { uses = refl; birth = refl }
start_shows p peer (Some l) moment f = sending_shows p (start_tests p peer (Some l)) peer l p.generator moment (good_draw p.generator moment) refl (f l refl)

kk_same : (pair : Pair) (count : ℕ) (kk : NewKk) → carried_kk pair count kk ≡ opened_kk pair count kk
kk_same pair count (new_kk.Double left right) = refl
kk_same pair count (new_kk.Single key) = refl

pub kk_shows : (p : Party) (front : List Test) (peer new : List ℕ) (single : Bool) (l : LinkRec) (moment : ℕ) (drawn : Option KkDrawn) → kk_drawn p.generator moment single ≡ drawn → SendingAt p peer l → RowShows p (kk_sending p front l new single drawn)
kk_shows p front peer new single l moment None e s = record { uses = refl; birth = refl }
kk_shows p front peer new single l moment (Some d) e s =
    let k : KkSound single d = kk_draw_sound p.generator moment single d e in
    let pair_is : carried_kk l.pair l.next (sealed_kk l.pair l.next single d.pair) ≡ d.pair = kk_same l.pair l.next (sealed_kk l.pair l.next single d.pair) ∙ opened_is l.pair l.next single d k in
    let key_is : unwrap_of (carried_kk l.pair l.next (sealed_kk l.pair l.next single d.pair)) 1 (wrap_of d.pair 1 d.key) ≡ d.key = ap (λ (q : Pair). unwrap_of q 1 (wrap_of d.pair 1 d.key)) pair_is ∙ unwraps d.pair 1 d.key k.key in
    record {
      uses = subst (λ (o : Option LinkRec). one_pair l.peer l.label l.next d.pair ∷ one_use l.peer new 1 d.key ∷ []
          ≡ under_pair o (λ pair. one_pair l.peer l.label l.next (carried_kk pair l.next (sealed_kk l.pair l.next single d.pair)) ∷ one_use l.peer new 1 (unwrap_of (carried_kk pair l.next (sealed_kk l.pair l.next single d.pair)) 1 (wrap_of d.pair 1 d.key)) ∷ []))
          (sym (sending_link_at p peer l s)) (λ i. one_pair l.peer l.label l.next ((sym pair_is) i) ∷ one_use l.peer new 1 ((sym key_is) i) ∷ []);
      birth = refl;
    }

pub twins_shows : (p : Party) (front : List Test) (peer : List ℕ) (l : LinkRec) (moment : ℕ) (drawn : Option TwinsDrawn) → twins_drawn p.generator moment ≡ drawn → SendingAt p peer l → RowShows p (twins_sending_drawn p front l drawn)
twins_shows p front peer l moment None e s = record { uses = refl; birth = refl }
twins_shows p front peer l moment (Some d) e s =
    let b : TwinsBelow d = twins_below p.generator moment d e in
    let first : unwrap_of l.pair l.next (wrap_of l.pair l.next d.first) ≡ d.first = unwraps l.pair l.next d.first b.first in
    let second : unwrap_of l.pair (l.next + 1) (wrap_of l.pair (l.next + 1) d.second) ≡ d.second = unwraps l.pair (l.next + 1) d.second b.second in
    record {
      uses = subst (λ (o : Option LinkRec). one_use l.peer l.label l.next d.first ∷ one_use l.peer l.label (l.next + 1) d.second ∷ []
          ≡ under_pair o (λ pair. one_use l.peer l.label l.next (unwrap_of pair l.next (wrap_of l.pair l.next d.first)) ∷ one_use l.peer l.label (l.next + 1) (unwrap_of pair (l.next + 1) (wrap_of l.pair (l.next + 1) d.second)) ∷ []))
          (sym (sending_link_at p peer l s)) (λ i. one_use l.peer l.label l.next ((sym first) i) ∷ one_use l.peer l.label (l.next + 1) ((sym second) i) ∷ []);
      birth = refl;
    }

pub start_kk_shows : (p : Party) (peer new : List ℕ) (single : Bool) (o : Option LinkRec) (moment : ℕ) → ((l : LinkRec) → o ≡ Some l → SendingAt p peer l) → RowShows p (start_kk_under p peer new single o moment)
start_kk_shows p peer new single None moment f = record { uses = refl; birth = refl }
start_kk_shows p peer new single (Some l) moment f = kk_shows p (start_tests p peer (Some l)) peer new single l moment (kk_drawn p.generator moment single) refl (f l refl)

pub translate_shows : (p : Party) (centre u : List ℕ) (o : Option LinkRec) (moment : ℕ) → link_with (sends centre centre_label) p ≡ o → RowShows p (translate_under p centre u o moment)
translate_shows p centre u None moment e = record { uses = refl; birth = refl }
translate_shows p centre u (Some l) moment e = by_draw (good_draw p.generator moment) refl
  where
    by_draw : (d : Option (ℕ × Gen)) → good_draw p.generator moment ≡ d → RowShows p (translate_drawn p centre u l d)
    by_draw None i = record { uses = refl; birth = refl }
    by_draw (Some d) i = record { uses = wrapped_shows p centre centre_label l l.next d.0 e (drawn_below p.generator moment d i); birth = refl }

pub answering_shows : (p : Party) (requester u : List ℕ) (tests : List Test) (a b at_b : LinkRec) (g : Gen) (moment : ℕ) (drawn : Option (ℕ × Gen)) → good_draw g moment ≡ drawn → link_with (sends requester centre_label) p ≡ Some a → link_with (sends u centre_label) p ≡ Some b → at_b.pair ≡ b.pair → RowShows p (answering p requester u tests a at_b drawn)
answering_shows p requester u tests a b at_b g moment None e la lb pair = record { uses = refl; birth = refl }
answering_shows p requester u tests a b at_b g moment (Some d) e la lb pair =
    let below : d.0 < 2 ^ 64 = drawn_below g moment d e in
    let first = wrapped_shows p requester centre_label a a.next d.0 la below in
    let second : one_use u centre_label at_b.next d.0 ∷ [] ≡ under_link p u centre_label (λ q. one_use u centre_label at_b.next (unseal_of q requester u at_b.next (seal_of at_b.pair requester u at_b.next d.0)) ∷ []) =
    subst (λ (k : Pair). one_use u centre_label at_b.next d.0 ∷ [] ≡ under_link p u centre_label (λ q. one_use u centre_label at_b.next (unseal_of q requester u at_b.next (seal_of k requester u at_b.next d.0)) ∷ [])) (sym pair)
    (sealed_shows p requester u b at_b.next d.0 lb below) in
    record { uses = (λ i. first i ++ second i); birth = refl }

pub rfs_shows : (p : Party) (a : Arrival) (m : Rfs) (fa fb : Option LinkRec) → link_with (sends m.ultimate centre_label) p ≡ fb → RowShows p (rfs_between p a m fa fb)
rfs_shows p a m None fb e = record { uses = refl; birth = refl }
rfs_shows p a m (Some l) None e = record { uses = refl; birth = refl }
rfs_shows p a m (Some l) (Some b) e = record { uses = sealed_shows p m.originator m.ultimate b b.next (rfs_value m l) e (unwrapped_below l.pair m.cta m.kd); birth = refl }
