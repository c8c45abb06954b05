-- What the laws that need no honesty ask of a row.
use Rattle.party_state.specs.State.{exchange_with}
use Rattle.party_state.specs.State.{centre_label}
use Rattle.std.proofs.Common.{◌≢◌}
use Rattle.std.proofs.Common.{◌≡◌, ℕ, ◌≤◌, ◌<◌, ◌⊎◌, Option, Some, None, List, [], ◌∷◌, sym, subst, AllPairs}
use Rattle.std.specs.List.{AllByRecursion}
use Rattle.x_base.specs.declared.party.Side.TheVariants.{Sends}
use Rattle.csm_grammar.specs.declared.message.Ksm.{Ksm}
use Rattle.csm_grammar.specs.declared.message.Message.TheVariants as message
use Rattle.csm_grammar.specs.Spelling.{Says}
use Rattle.party_tables.specs.declared.link.LinkKey.{LinkKey}
use Rattle.party_tables.specs.declared.link.LinkRec.{LinkRec}
use Rattle.party_state.specs.declared.edit.Edit.{Edit}
use Rattle.party_state.specs.declared.edit.Edit.TheVariants.{Begin, PutLink, DropLink, PutKey, DropEnded, PutExchange, DropExchange, PutAnswer, SetGen}
use Rattle.party_tables.specs.Keys.{same_link, link_key, sends}
use Rattle.party_state.specs.State.{Party, link_with, apply_edit, apply}
use Rattle.party_state.specs.Rows.{Row, Use, Made, Accepted, OfKsm}
use Rattle.party_tables.proofs.Keys.{test_links}
use Rattle.party_tables.proofs.Distinct.{distinct_put, distinct_drop}
use Rattle.world_laws.proofs.Links.Growth.{PartyGrows, AllFine, change_grows}
use Rattle.world_laws.proofs.Links.Found.{HasLinks}
use Rattle.world_laws.proofs.Links.Taken.{ksm_link, ksm_count, ksm_names, ksm_next}
use Rattle.world_laws.proofs.Links.Waiting.{Waits}

-- a use takes a count that its link had not reached, or is of the link that the row makes; and the link is past it afterwards
pub record UseFine (s t : Party) (made : Option Made) (u : Use) : Type 0 where
  pub before : ((l : LinkRec) × (link_with (sends u.recipient u.label) s ≡ Some l) × (l.next ≤ u.count)) ⊎ (made ≡ Some (record { recipient = u.recipient; label = u.label }))
  pub after : (l : LinkRec) × (link_with (sends u.recipient u.label) t ≡ Some l) × (u.count < l.next)

-- two uses of one row
abbrev pub UsesMeet : Use → Use → Type 0
UsesMeet a b = (a.recipient ≡ b.recipient) × (a.label ≡ b.label) × (a.count ≡ b.count)

-- an accepted key service message has a count that its link had not reached, and the link is past it afterwards
pub record KsmFine (s t : Party) (text : List ℕ) (a : Accepted) : Type 0 where
  pub ksm : Ksm
  pub said : Says text (message.Ksm ksm)
  pub link : LinkRec
  pub before : ksm_link s ksm ≡ Some link
  pub names : a.names ≡ ksm_names s ksm link
  pub low : link.next ≤ ksm_count ksm
  pub later : LinkRec
  pub after : ksm_link t ksm ≡ Some later
  pub past : ksm_next ksm ≤ later.next

abbrev pub AcceptsFine : Party → Party → List ℕ → Option Accepted → Type 0
AcceptsFine s t text None = Unit {0}
AcceptsFine s t text (Some a) = a.class ≡ OfKsm → KsmFine s t text a

-- a new link that sends is one that the row makes
abbrev pub NewMade : Option LinkKey → Option Made → Type 0
NewMade o made = (k : LinkKey) → o ≡ Some k → k.side ≡ Sends → made ≡ Some (record { recipient = k.peer; label = k.label })

-- it isn't a centre's, and no exchange with its peer stood before
abbrev pub NewFree : Option LinkKey → Party → Type 0
NewFree o s = (k : LinkKey) → o ≡ Some k → k.side ≡ Sends → (k.label ≢ centre_label) × (exchange_with k.peer s ≡ None)

-- the key names the only link that is new
pub record IsSound (o : Option LinkKey) (s : Party) (text : List ℕ) (r : Row) : Type 0 where
  pub made : NewMade o r.makes
  pub free : NewFree o s
  pub edits : AllFine o s r.edits
  pub waits : Waits s → Waits (apply r.edits s)
  pub uses : AllByRecursion (UseFine s (apply r.edits s) r.makes) r.uses
  pub apart : AllPairs (λ a b. ¬ (UsesMeet a b)) r.uses
  pub accepts : AcceptsFine s (apply r.edits s) text r.accepts

-- the same of the party afterwards
pub record Moves (o : Option LinkKey) (s t : Party) (text : List ℕ) (r : Row) : Type 0 where
  pub made : NewMade o r.makes
  pub free : NewFree o s
  pub grown : PartyGrows o s t
  pub links : HasLinks s → HasLinks t
  pub waits : Waits s → Waits t
  pub uses : AllByRecursion (UseFine s t r.makes) r.uses
  pub apart : AllPairs (λ a b. ¬ (UsesMeet a b)) r.uses
  pub accepts : AcceptsFine s t text r.accepts

-- with the link that is new, if one is
pub record SomeMoves (s t : Party) (text : List ℕ) (r : Row) : Type 0 where
  pub new : Option LinkKey
  pub moves : Moves new s t text r

-- a row with its new link, if it makes one
pub record SoundRow (s : Party) (text : List ℕ) (r : Row) : Type 0 where
  pub new : Option LinkKey
  pub sound : IsSound new s text r

edit_links : (s : Party) (e : Edit) → HasLinks s → HasLinks (apply_edit e s)
edit_links s (Begin own role generator) d = tt
edit_links s (PutLink m) d = distinct_put link_key same_link test_links m s.links d
edit_links s (DropLink peer label side) d = distinct_drop link_key same_link (record { peer = peer; label = label; side = side }) s.links d
edit_links s (PutKey k) d = d
edit_links s DropEnded d = d
edit_links s (PutExchange e) d = d
edit_links s (DropExchange peer) d = d
edit_links s (PutAnswer a) d = d
edit_links s (SetGen v) d = d

pub change_links : (es : List Edit) (s : Party) → HasLinks s → HasLinks (apply es s)
change_links [] s d = d
change_links (e ∷ es) s d = change_links es (apply_edit e s) (edit_links s e d)

pub moves : (o : Option LinkKey) (s t : Party) (text : List ℕ) (r : Row) → t ≡ apply r.edits s → IsSound o s text r → Moves o s t text r
moves o s t text r e g = subst (λ (u : Party). Moves o s u text r) (sym e) (record {
  made = g.made;
  free = g.free;
  grown = change_grows o r.edits s g.edits;
  links = change_links r.edits s;
  waits = g.waits;
  uses = g.uses;
  apart = g.apart;
  accepts = g.accepts;
})
