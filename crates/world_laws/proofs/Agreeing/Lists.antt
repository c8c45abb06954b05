-- The lists of which agreement speaks, before and after a row; names, links and exchanges as a party goes on.
use Rattle.std.proofs.Common.{◌≡◌, ◌⊎◌, inl, inr, ℕ, ◌≤◌, true, cond, Option, Some, List, ◌++◌, refl, subst, bytes_eq}
use Rattle.x_base.specs.declared.key_name.FullName.{FullName}
use Rattle.x_base.specs.declared.party.Side.TheVariants.{Takes}
use Rattle.party_tables.specs.declared.link.LinkKey.{LinkKey}
use Rattle.party_tables.specs.declared.link.LinkRec.{LinkRec}
use Rattle.party_tables.specs.declared.key.RecordKey.{RecordKey}
use Rattle.party_tables.specs.declared.key.KeyStatus.{KeyStatus}
use Rattle.party_tables.specs.declared.key.KeyStatus.TheVariants.{Pending, Live, Held, Closing, Ended}
use Rattle.party_tables.specs.declared.exchange.Exchange.{Exchange}
use Rattle.party_tables.specs.Tables.{put_row}
use Rattle.party_tables.specs.Keys.{sends}
use Rattle.party_state.specs.State.{Party, centre_label, link_with, apply}
use Rattle.party_state.specs.Rows.{Row, Reply}
use Rattle.bank_keys.specs.declared.waits.KeyAtCentre.{KeyAtCentre}
use Rattle.bank_keys.specs.Waiting.{waiting_with}
use Rattle.change_code.specs.declared.space.Space.{Space}
use Rattle.member.specs.Member.{Member}
use Rattle.world_laws.specs.World.{Fact, Acceptance, World, own_of}
use Rattle.world_laws.specs.Steps.{facts_of, acceptances_of}
use Rattle.world_laws.proofs.Links.Growth.{LinkGrows, PartyGrows, link_stays}

-- a key that its holder counts
abbrev pub Counts : KeyStatus → Type 0
Counts Pending = ⊥
Counts Live = Unit {0}
Counts Held = Unit {0}
Counts Closing = Unit {0}
Counts Ended = ⊥

-- the lists of a world of which agreement speaks
pub record Lists : Type 0 where
  pub members : List Member
  pub facts : List Fact
  pub acceptances : List Acceptance

abbrev pub lists_of : World → Lists
lists_of w = record { members = w.members; facts = w.facts; acceptances = w.acceptances }

-- the member after a row, and the lists after it
abbrev pub after : Member → Space → Row → Member
after x space r = record { party = apply r.edits x.party; space = space }

abbrev pub members_after : List Member → Member → Space → Row → List Member
members_after ms x space r = put_row own_of bytes_eq (after x space r) ms

abbrev pub facts_after : List Fact → Member → Option Reply → List Fact
facts_after fs x reply = fs ++ facts_of x.party.own reply

abbrev pub acceptances_after : List Acceptance → Member → List ℕ → Row → List Acceptance
acceptances_after accs x text r = accs ++ acceptances_of x.party.own text r.accepts

abbrev pub lists_after : Lists → Member → Space → List ℕ → Row → Lists
lists_after v x space text r = record { members = members_after v.members x space r; facts = facts_after v.facts x r.reply; acceptances = acceptances_after v.acceptances x text r }

abbrev pub to_peer : RecordKey → FullName
to_peer k = record { name = k.name; recipient = k.peer }

abbrev pub to_own : RecordKey → List ℕ → FullName
to_own k own = record { name = k.name; recipient = own }

abbrev pub full_at : List ℕ → RecordKey → FullName
full_at own k = record { name = k.name; recipient = cond (bytes_eq k.name.originator own) k.peer own }

-- how links go on that take, or are ready
pub record Goes (s t : Party) : Type 0 where
  pub own : t.own ≡ s.own
  pub taking : (k : LinkKey) (l : LinkRec) → k.side ≡ Takes → link_with k s ≡ Some l → (m : LinkRec) × (link_with k t ≡ Some m) × LinkGrows l m
  pub ready : (k : LinkKey) (l : LinkRec) → link_with k s ≡ Some l → l.ready ≡ true → (m : LinkRec) × (link_with k t ≡ Some m) × LinkGrows l m

pub goes_of : (o : Option LinkKey) (s t : Party) → PartyGrows o s t → Goes s t
goes_of o s t g = record {
  own = g.own;
  taking = λ k l side h. (elim (g.link k l h) [ inl m ↦ m | inr n ↦ absurd (let a = n.0 in cc) ]);
  ready = λ k l h r. (elim (g.link k l h) [ inl m ↦ m | inr n ↦ absurd (let a = n.1 in cc) ]);
}

pub goes_stays : (s : Party) → Goes s s
goes_stays s = record { own = refl; taking = λ k l e h. (l, h, link_stays l); ready = λ k l h r. (l, h, link_stays l) }

-- how the keys with translation centres move: what waits waited before, or at a count that its link had not reached
abbrev pub WaitsMove : Party → Party → Type 0
WaitsMove s t = (peer : List ℕ) (v : KeyAtCentre) → waiting_with t peer ≡ Some v → (waiting_with s peer ≡ Some v) ⊎ ((l : LinkRec) × (link_with (sends peer centre_label) s ≡ Some l) × (l.next ≤ v.cta))

pub waits_stay : (s t : Party) → t.exchanges ≡ s.exchanges → WaitsMove s t
waits_stay s t e peer v h = inl (subst (λ (es : List Exchange). waiting_with (record s { exchanges = es }) peer ≡ Some v) e h)
