use Rattle.std.proofs.Common.{bytes_eq, not, ap, true, false, ◌≡◌, Bool, refl}
use Rattle.party_tables.specs.declared.key.KeyRec.{KeyRec}
use Rattle.party_tables.specs.Keys.{same_link, same_record, link_key, record_key, exchange_key}
use Rattle.party_tables.specs.Statuses.{is_ended}
use Rattle.party_tables.proofs.Keys.{test_idents, test_links, test_records}
use Rattle.party_tables.proofs.Tables.{find_drop, filter_keeps}
use Rattle.party_tables.proofs.Distinct.{filter_back, filter_passed}
use Rattle.party_state.proofs.laws.law_drop.Goals as goal

not_true : (b : Bool) → not b ≡ true → b ≡ false
not_true true h = cc
not_true false h = refl

pub returns-clause-link : goal.returns-clause-link
returns-clause-link c = λ k j p. find_drop link_key same_link test_links k j p.links

pub returns-clause-exchange : goal.returns-clause-exchange
returns-clause-exchange c = λ peer other p. find_drop exchange_key bytes_eq test_idents peer other p.exchanges

pub returns-clause-ended : goal.returns-clause-ended
returns-clause-ended c = λ k r p i. (
  λ h. (
    filter_back record_key same_record test_records (λ (y : KeyRec). not (is_ended y.status)) k r p.keys i.keys_once h,
    not_true (is_ended r.status) (filter_passed record_key same_record (λ (y : KeyRec). not (is_ended y.status)) k r p.keys h),
  ),
  λ h. filter_keeps record_key same_record (λ (y : KeyRec). not (is_ended y.status)) k r p.keys (ap not h.1) h.0,
)
