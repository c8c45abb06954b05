-- The edits of a row are apart: the two links that a translation puts have different sides. No row begins anything.
use Rattle.std.proofs.Common.{◌≡◌, ℕ, false, Option, Some, None, List, refl, sym, ap, ◌∙◌}
use Rattle.std.proofs.lemmas.Bool.{false_from_ne_true}
use Rattle.x_base.specs.declared.party.Side.TheVariants.{Sends, Takes}
use Rattle.csm_grammar.specs.declared.arrival.Arrival.{Arrival}
use Rattle.csm_grammar.specs.declared.message.Message.{Message}
use Rattle.csm_grammar.specs.declared.message.Message.TheVariants as message
use Rattle.csm_grammar.specs.declared.message.Rfs.{Rfs}
use Rattle.party_state.specs.declared.command.Command.{Command}
use Rattle.party_state.specs.declared.command.Input.{Input}
use Rattle.party_state.specs.declared.command.Input.TheVariants as input
use Rattle.party_tables.specs.declared.link.LinkKey.{LinkKey}
use Rattle.party_tables.specs.declared.link.LinkRec.{LinkRec}
use Rattle.party_tables.specs.Keys.{same_link, link_key, sends, takes}
use Rattle.party_state.specs.State.{Party, centre_label, link_with}
use Rattle.role_base.specs.Beginning.{AllBeginFree}
use Rattle.role_base.specs.Apart.{AreApart}
use Rattle.role_base.proofs.PartyLaws.{LinkLaws}
use Rattle.role_base.specs.Centres.{centre_command}
use Rattle.translation_role.specs.Service.{rfs_between}
use Rattle.translation_role.specs.Rows.{translation_message, translation_row}

-- links on different sides aren't one link
pub other_side : LinkLaws → (r u : List ℕ) → same_link (sends u centre_label) (takes r centre_label) ≡ false
other_side links r u = false_from_ne_true (same_link (sends u centre_label) (takes r centre_label)) (λ t. let e : Sends ≡ Takes = ap (λ (k : LinkKey). k.side) ((links.same (sends u centre_label) (takes r centre_label)).0 t) in cc)

pub side_other : LinkLaws → (r u : List ℕ) → same_link (takes r centre_label) (sends u centre_label) ≡ false
side_other links r u = false_from_ne_true (same_link (takes r centre_label) (sends u centre_label)) (λ t. let e : Takes ≡ Sends = ap (λ (k : LinkKey). k.side) ((links.same (takes r centre_label) (sends u centre_label)).0 t) in cc)

links_apart : LinkLaws → (p : Party) (r u : List ℕ) (a b : LinkRec) → link_with (takes r centre_label) p ≡ Some a → link_with (sends u centre_label) p ≡ Some b → same_link (link_key b) (link_key a) ≡ false
links_apart links p r u a b f g =
    let i : takes r centre_label ≡ link_key a = links.found (takes r centre_label) a p f in
    let j : sends u centre_label ≡ link_key b = links.found (sends u centre_label) b p g in
    ap (λ (k : LinkKey). same_link k (link_key a)) (sym j) ∙ (ap (λ (k : LinkKey). same_link (sends u centre_label) k) (sym i) ∙ other_side links r u)

rfs_apart : LinkLaws → (p : Party) (a : Arrival) (m : Rfs) (o q : Option LinkRec) → link_with (takes m.originator centre_label) p ≡ o → link_with (sends m.ultimate centre_label) p ≡ q → AreApart (rfs_between p a m o q).edits
rfs_apart links p a m None q f g = tt
rfs_apart links p a m (Some l) None f g = tt
rfs_apart links p a m (Some l) (Some b) f g = ((links_apart links p m.originator m.ultimate l b f g, tt), (tt, tt))

pub row_apart : LinkLaws → ((p : Party) (c : Command) → AreApart (centre_command p c).edits) → (p : Party) (i : Input) → AreApart (translation_row p i).edits
row_apart links orders p (input.Ordered c) = orders p c
row_apart links orders p (input.Arrived a) = by_message a.parsed.message
  where
    by_message : (m : Message) → AreApart (translation_message p a m).edits
    by_message (message.Rsi m) = tt
    by_message (message.Rfs m) = rfs_apart links p a m (link_with (takes m.originator centre_label) p) (link_with (sends m.ultimate centre_label) p) refl refl
    by_message (message.Rtr m) = tt
    by_message (message.Ksm m) = tt
    by_message (message.Rsm m) = tt
    by_message (message.Ers m) = tt
    by_message (message.Esm m) = tt
    by_message (message.Dsm m) = tt

-- no row puts an exchange

rfs_begins : (p : Party) (a : Arrival) (m : Rfs) (o q : Option LinkRec) → AllBeginFree p (rfs_between p a m o q).edits
rfs_begins p a m None q = tt
rfs_begins p a m (Some l) None = tt
rfs_begins p a m (Some l) (Some b) = (tt, (tt, tt))

pub row_begins : ((p : Party) (c : Command) → AllBeginFree p (centre_command p c).edits) → (p : Party) (i : Input) → AllBeginFree p (translation_row p i).edits
row_begins orders p (input.Ordered c) = orders p c
row_begins orders p (input.Arrived a) = by_message a.parsed.message
  where
    by_message : (m : Message) → AllBeginFree p (translation_message p a m).edits
    by_message (message.Rsi m) = tt
    by_message (message.Rfs m) = rfs_begins p a m (link_with (takes m.originator centre_label) p) (link_with (sends m.ultimate centre_label) p)
    by_message (message.Rtr m) = tt
    by_message (message.Ksm m) = tt
    by_message (message.Rsm m) = tt
    by_message (message.Ers m) = tt
    by_message (message.Esm m) = tt
    by_message (message.Dsm m) = tt
