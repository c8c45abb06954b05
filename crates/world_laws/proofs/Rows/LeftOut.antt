-- The edits of each accepted row that make no difference can be left out.
use Rattle.std.proofs.Common.{◌≡◌, ℕ, true, false, List, bytes_eq, ap}
use Rattle.x_base.specs.declared.party.Role.{Role}
use Rattle.x_base.specs.declared.party.Role.TheVariants.{Bank, Distribution, Translation}
use Rattle.party_state.specs.declared.command.Input.{Input}
use Rattle.party_tables.specs.declared.answer.Answer.{Answer}
use Rattle.party_state.specs.declared.edit.Edit.{Edit}
use Rattle.party_tables.specs.declared.exchange.Exchange.{Exchange}
use Rattle.party_tables.specs.declared.key.KeyRec.{KeyRec}
use Rattle.party_tables.specs.declared.link.LinkRec.{LinkRec}
use Rattle.party_tables.specs.Keys.{same_link, same_record, same_answer, link_key, record_key, exchange_key, answer_key}
use Rattle.party_state.specs.State.{Party, apply_edit, apply}
use Rattle.party_state.specs.Verdicts.{is_accept}
use Rattle.party_state.specs.Rows.{Row}
use Rattle.party_tables.proofs.Keys.{test_links, test_records, test_answers}
use Rattle.party_tables.proofs.Tables.{find_key, find_put, put_stands}
use Rattle.party_tables.proofs.Lengths.{drop_absent}
use Rattle.party_state.proofs.Verdicts.{held}
use Rattle.role_base.specs.Differing.{differs, differing}
use Rattle.role_base.proofs.PartyLaws.{KeysFound, AnswersFound, LinkLaws, KeyLaws, StandingLaws}
use Rattle.role_base.proofs.Unchanged.{unchanged}
use Rattle.role_base.proofs.LeftOut.{left_out}
use Rattle.bank_orders.proofs.OrdersApart.{command_apart}
use Rattle.bank_keys.proofs.KeysApart.{ksm_apart, rtr_apart}
use Rattle.bank_arrivals.proofs.ArrivalsApart.{rsi_apart, rsm_apart, esm_apart, dsm_apart}
use Rattle.member.proofs.BankApart as bank
use Rattle.role_base.proofs.CentresApart.{order_apart}
use Rattle.distribution_role.proofs.AnswersApart as distribution
use Rattle.translation_role.proofs.TranslatedApart as translation
use Rattle.member.specs.Rows.{row_by}
use Rattle.world_laws.proofs.Links.Found.{HasLinks}

-- the row without what makes no difference
abbrev pub LeftOut : Party → Row → Type 0
LeftOut p r = apply (differing p r.edits) p ≡ apply r.edits p

-- what the laws of a party's tables say

links_known : LinkLaws
links_known = record {
  same = test_links.decides;
  found = λ k l p h. find_key link_key same_link test_links k l p.links h;
  put = λ k l p. find_put link_key same_link test_links k l p.links;
}

keys_found : KeysFound
keys_found k r p h = find_key record_key same_record test_records k r p.keys h

keys_known : KeyLaws
keys_known = record {
  same = test_records.decides;
  found = keys_found;
  put = λ k r p. find_put record_key same_record test_records k r p.keys;
}

answers_found : AnswersFound
answers_found k a p h = find_key answer_key same_answer test_answers k a p.answers h

standing : StandingLaws
standing = record {
  link = λ l p h. ap (λ (rows : List LinkRec). record p { links = rows }) (put_stands link_key same_link l p.links h);
  key = λ r p h. ap (λ (rows : List KeyRec). record p { keys = rows }) (put_stands record_key same_record r p.keys h);
  answer = λ a p h. ap (λ (rows : List Answer). record p { answers = rows }) (put_stands answer_key same_answer a p.answers h);
  no_link = λ k p h. ap (λ (rows : List LinkRec). record p { links = rows }) (drop_absent link_key same_link k p.links h);
  no_exchange = λ peer p h. ap (λ (rows : List Exchange). record p { exchanges = rows }) (drop_absent exchange_key bytes_eq peer p.exchanges h);
}

no_change : (p : Party) (e : Edit) → differs p e ≡ false → apply_edit e p ≡ p
no_change = unchanged links_known.found keys_found answers_found standing

bank_rows : bank.RowsApart
bank_rows = record { command = command_apart held links_known keys_known; rsi = rsi_apart keys_known; rtr = rtr_apart held; ksm = ksm_apart held links_known keys_known; rsm = rsm_apart keys_known; esm = esm_apart links_known keys_known; dsm = dsm_apart keys_known }

pub left_out_by : (r : Role) (p : Party) (i : Input) (moment : ℕ) → HasLinks p → is_accept (row_by r p i moment).verdict ≡ true → LeftOut p (row_by r p i moment)
left_out_by Bank p i moment links h = left_out no_change p (row_by Bank p i moment).edits (bank.row_apart bank_rows p i moment links h)
left_out_by Distribution p i moment links h = left_out no_change p (row_by Distribution p i moment).edits (distribution.row_apart held links_known order_apart p i moment h)
left_out_by Translation p i moment links h = left_out no_change p (row_by Translation p i moment).edits (translation.row_apart links_known order_apart p i)
