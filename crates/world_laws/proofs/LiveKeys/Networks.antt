-- A start is told link by link: from what holds of each member's links follows what is asked of the network.
use Rattle.std.proofs.Common.{arith, ◌≡◌, ℕ, zero, suc, false, Some, List, [], ◌∷◌, refl, sym, ◌∙◌, ap, subst, bytes_eq, AllPairs}
use Rattle.std.specs.List.{All}
use Rattle.std.proofs.lemmas.List.Elements.{All-nil, All-weaker}
use Rattle.x_base.specs.Names.{IsIdent}
use Rattle.x_mac.specs.declared.pair.Pair.{Pair}
use Rattle.x_base.specs.declared.party.Side.TheVariants.{Sends, Takes}
use Rattle.party_tables.specs.declared.link.LinkKey.{LinkKey}
use Rattle.party_tables.specs.declared.link.LinkRec.{LinkRec}
use Rattle.party_tables.specs.Tables.{Distinct}
use Rattle.party_tables.specs.Keys.{same_link, same_record, same_answer, link_key, record_key, exchange_key, answer_key, sends, takes}
use Rattle.party_tables.specs.Ranges.{IsLink, IsRecord, IsExchange, IsCentreAnswer}
use Rattle.party_state.specs.Ranges.{IsGen, IsParty}
use Rattle.party_state.specs.State.{link_with, expands_alike}
use Rattle.party_tables.proofs.Each.{find_all}
use Rattle.party_tables.proofs.Keys.{test_idents, test_links}
use Rattle.party_tables.proofs.Tables.{find_key}
use Rattle.member.specs.Member.{Member}
use Rattle.world_laws.specs.World.{World, own_of, member_at}
use Rattle.world_laws.specs.Starts.{Each, HasOnlyLinks, HasOtherEnd, IsUnused, LinksUnused, SendsEnds, TakesEnds, PairsApart, IsStart}

-- the end at which a pair's key-encrypting key is for sending: its party and its link
pub record Origin : Type 0 where
  pub own : List ℕ
  pub key : LinkKey

pub record StartLink (ms : List Member) (origin : ℕ → Origin) (own : List ℕ) (l : LinkRec) : Type 0 where
  pub link : IsLink l
  pub unused : IsUnused l
  pub sent : l.side ≡ Sends → HasOtherEnd ms l.peer (takes own l.label) l
  pub taken : l.side ≡ Takes → HasOtherEnd ms l.peer (sends own l.label) l
  pub first : l.side ≡ Sends → origin l.pair.left ≡ record { own = own; key = link_key l }

pub record StartMember (ms : List Member) (origin : ℕ → Origin) (x : Member) : Type 0 where
  pub own : IsIdent x.party.own
  pub generator : IsGen x.party.generator
  pub links : All (StartLink ms origin x.party.own) x.party.links
  pub once : Distinct link_key same_link x.party.links
  pub empty : HasOnlyLinks x.party

pub pairs_more : {X : Type 0} (R : X → X → Type 0) (x : X) (xs : List X) → All (R x) xs → AllPairs R xs → AllPairs R (x ∷ xs)
pairs_more R x xs a b zero zero d l m = absurd (omega arith)
pairs_more R x xs a b zero (suc j) d l m = a j d (omega arith)
pairs_more R x xs a b (suc i) zero d l m = absurd (omega arith)
pairs_more R x xs a b (suc i) (suc j) d l m = b i j d (omega arith) (omega arith)

-- nothing has happened yet
abbrev pub beginning : List Member → World
beginning ms = record { members = ms; texts = []; facts = []; births = []; uses = []; acceptances = [] }

module _ (ms : List Member) (origin : ℕ → Origin) (all : All (StartMember ms origin) ms) where
  member : (p : List ℕ) (x : Member) → member_at p ms ≡ Some x → StartMember ms origin x
  member p x at = find_all (StartMember ms origin) own_of bytes_eq p x ms all at

  own_is : (p : List ℕ) (x : Member) → member_at p ms ≡ Some x → p ≡ x.party.own
  own_is p x at = find_key own_of bytes_eq test_idents p x ms at

  link : (p : List ℕ) (x : Member) (k : LinkKey) (l : LinkRec) → member_at p ms ≡ Some x → link_with k x.party ≡ Some l → StartLink ms origin x.party.own l
  link p x k l at found = find_all (StartLink ms origin x.party.own) link_key same_link k l x.party.links (member p x at).links found

  key_is : (x : Member) (k : LinkKey) (l : LinkRec) → link_with k x.party ≡ Some l → k ≡ link_key l
  key_is x k l found = find_key link_key same_link test_links k l x.party.links found

  parties : Each (λ x. IsParty x.party) ms
  parties p x at =
      let m = member p x at in
      record {
        own = m.own;
        generator = m.generator;
        links = All-weaker (StartLink ms origin x.party.own) IsLink (λ l s. s.link) x.party.links m.links;
        keys = subst (All IsRecord) (sym m.empty.keys) (All-nil IsRecord);
        exchanges = subst (All IsExchange) (sym m.empty.exchanges) (All-nil IsExchange);
        answers = subst (All IsCentreAnswer) (sym m.empty.answers) (All-nil IsCentreAnswer);
        links_once = m.once;
        keys_once = subst (Distinct record_key same_record) (sym m.empty.keys) tt;
        exchanges_once = subst (Distinct exchange_key bytes_eq) (sym m.empty.exchanges) tt;
        answers_once = subst (Distinct answer_key same_answer) (sym m.empty.answers) tt;
      }

  unused : Each (λ x. LinksUnused x.party) ms
  unused p x at k l found = (link p x k l at found).unused

  sends_ends : SendsEnds ms
  sends_ends p x peer label l at found =
      let k : sends peer label ≡ link_key l = key_is x (sends peer label) l found in
      let own : x.party.own ≡ p = sym (own_is p x at) in
      let there = (link p x (sends peer label) l at found).sent (sym (ap (λ (z : LinkKey). z.side) k)) in
      subst (λ (q : List ℕ). HasOtherEnd ms peer (takes q label) l) own
      (subst (λ (z : LinkKey). HasOtherEnd ms z.peer (takes x.party.own z.label) l) (sym k) there)

  takes_ends : TakesEnds ms
  takes_ends p x peer label l at found =
      let k : takes peer label ≡ link_key l = key_is x (takes peer label) l found in
      let own : x.party.own ≡ p = sym (own_is p x at) in
      let there = (link p x (takes peer label) l at found).taken (sym (ap (λ (z : LinkKey). z.side) k)) in
      subst (λ (q : List ℕ). HasOtherEnd ms peer (sends q label) l) own
      (subst (λ (z : LinkKey). HasOtherEnd ms z.peer (sends x.party.own z.label) l) (sym k) there)

  pairs : PairsApart ms
  pairs p q x y j k l m atp atq foundl foundm sidel sidem same =
      let jl = key_is x j l foundl in
      let km = key_is y k m foundm in
      let a = (link p x j l atp foundl).first (sym (ap (λ (z : LinkKey). z.side) jl) ∙ sidel) in
      let b = (link q y k m atq foundm).first (sym (ap (λ (z : LinkKey). z.side) km) ∙ sidem) in
      let one : record { own = x.party.own; key = link_key l } ≡ record { own = y.party.own; key = link_key m } = sym a ∙ (ap (λ (z : Pair). origin z.left) same ∙ b) in
      (own_is p x atp ∙ (ap (λ (o : Origin). o.own) one ∙ sym (own_is q y atq)), jl ∙ (ap (λ (o : Origin). o.key) one ∙ sym km))

  pub is_start : Distinct own_of bytes_eq ms → AllPairs (λ x y. expands_alike x.party.own y.party.own ≡ false) ms → IsStart (beginning ms)
  is_start members apart = record {
    members = members;
    apart = apart;
    parties = parties;
    only_links = λ p x at. (member p x at).empty;
    unused = unused;
    sends_ends = sends_ends;
    takes_ends = takes_ends;
    pairs = pairs;
    no_history = record { texts = refl; facts = refl; births = refl; uses = refl; acceptances = refl };
  }
