-- What lists of edits make of a party, and what stays true of every party.
use Rattle.std.proofs.Common.{◌≡◌, ℕ, not, List, [], ◌∷◌, ◌++◌, refl, bytes_eq}
use Rattle.std.proofs.lemmas.List.Elements.{All-nil, All-filter, All-head, All-tail}
use Rattle.x_base.specs.Names.{IsIdent}
use Rattle.x_base.specs.declared.party.Role.{Role}
use Rattle.x_gen.specs.declared.generator.Gen.{Gen}
use Rattle.party_tables.specs.declared.key.KeyRec.{KeyRec}
use Rattle.party_state.specs.declared.edit.Edit.{Edit}
use Rattle.party_state.specs.declared.edit.Edit.TheVariants.{Begin, PutLink, DropLink, PutKey, DropEnded, PutExchange, DropExchange, PutAnswer, SetGen}
use Rattle.party_tables.specs.Keys.{same_link, same_record, same_answer, link_key, record_key, exchange_key, answer_key}
use Rattle.party_tables.specs.Statuses.{is_ended}
use Rattle.party_state.specs.State.{Party, begun, apply_edit, apply}
use Rattle.party_tables.specs.Ranges.{IsLink, IsRecord, IsExchange, IsCentreAnswer}
use Rattle.party_state.specs.Ranges.{IsGen, InRange, AreInRange, IsParty}
use Rattle.party_tables.proofs.Keys.{test_idents, test_links, test_records, test_answers}
use Rattle.party_tables.proofs.Each.{all_put, all_drop}
use Rattle.party_tables.proofs.Distinct.{distinct_put, distinct_drop, distinct_filter}

-- two lists of edits, one after another
pub apply_append : (es fs : List Edit) (p : Party) → apply (es ++ fs) p ≡ apply fs (apply es p)
apply_append [] fs p = refl
apply_append (e ∷ es) fs p = apply_append es fs (apply_edit e p)

-- a party that begins
pub party_new : (own : List ℕ) (role : Role) (g : Gen) → IsIdent own → IsGen g → IsParty (begun own role g)
party_new own role g i r = record { own = i; generator = r; links = All-nil IsLink; keys = All-nil IsRecord; exchanges = All-nil IsExchange; answers = All-nil IsCentreAnswer; links_once = tt; keys_once = tt; exchanges_once = tt; answers_once = tt }

-- a party after an edit
pub party_edit : (e : Edit) (p : Party) → InRange e → IsParty p → IsParty (apply_edit e p)
party_edit (Begin own role g) p r i = party_new own role g r.0 r.1
party_edit (PutLink l) p r i = record { own = i.own; generator = i.generator; links = all_put IsLink link_key same_link l p.links r i.links; keys = i.keys; exchanges = i.exchanges; answers = i.answers; links_once = distinct_put link_key same_link test_links l p.links i.links_once; keys_once = i.keys_once; exchanges_once = i.exchanges_once; answers_once = i.answers_once }
party_edit (DropLink peer label side) p r i = record { own = i.own; generator = i.generator; links = all_drop IsLink link_key same_link (record { peer = peer; label = label; side = side }) p.links i.links; keys = i.keys; exchanges = i.exchanges; answers = i.answers; links_once = distinct_drop link_key same_link (record { peer = peer; label = label; side = side }) p.links i.links_once; keys_once = i.keys_once; exchanges_once = i.exchanges_once; answers_once = i.answers_once }
party_edit (PutKey k) p r i = record { own = i.own; generator = i.generator; links = i.links; keys = all_put IsRecord record_key same_record k p.keys r i.keys; exchanges = i.exchanges; answers = i.answers; links_once = i.links_once; keys_once = distinct_put record_key same_record test_records k p.keys i.keys_once; exchanges_once = i.exchanges_once; answers_once = i.answers_once }
party_edit DropEnded p r i = record { own = i.own; generator = i.generator; links = i.links; keys = All-filter (λ (k : KeyRec). not (is_ended k.status)) IsRecord p.keys i.keys; exchanges = i.exchanges; answers = i.answers; links_once = i.links_once; keys_once = distinct_filter record_key same_record (λ (k : KeyRec). not (is_ended k.status)) p.keys i.keys_once; exchanges_once = i.exchanges_once; answers_once = i.answers_once }
party_edit (PutExchange e) p r i = record { own = i.own; generator = i.generator; links = i.links; keys = i.keys; exchanges = all_put IsExchange exchange_key bytes_eq e p.exchanges r i.exchanges; answers = i.answers; links_once = i.links_once; keys_once = i.keys_once; exchanges_once = distinct_put exchange_key bytes_eq test_idents e p.exchanges i.exchanges_once; answers_once = i.answers_once }
party_edit (DropExchange peer) p r i = record { own = i.own; generator = i.generator; links = i.links; keys = i.keys; exchanges = all_drop IsExchange exchange_key bytes_eq peer p.exchanges i.exchanges; answers = i.answers; links_once = i.links_once; keys_once = i.keys_once; exchanges_once = distinct_drop exchange_key bytes_eq peer p.exchanges i.exchanges_once; answers_once = i.answers_once }
party_edit (PutAnswer a) p r i = record { own = i.own; generator = i.generator; links = i.links; keys = i.keys; exchanges = i.exchanges; answers = all_put IsCentreAnswer answer_key same_answer a p.answers r i.answers; links_once = i.links_once; keys_once = i.keys_once; exchanges_once = i.exchanges_once; answers_once = distinct_put answer_key same_answer test_answers a p.answers i.answers_once }
party_edit (SetGen v) p r i = record { own = i.own; generator = record { key = i.generator.key; v = r }; links = i.links; keys = i.keys; exchanges = i.exchanges; answers = i.answers; links_once = i.links_once; keys_once = i.keys_once; exchanges_once = i.exchanges_once; answers_once = i.answers_once }

-- a party after a list of edits
pub party_apply : (es : List Edit) (p : Party) → AreInRange es → IsParty p → IsParty (apply es p)
party_apply [] p r i = i
party_apply (e ∷ es) p r i = party_apply es (apply_edit e p) (All-tail InRange e es r) (party_edit e p (All-head InRange e es r) i)
