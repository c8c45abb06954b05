use Rattle.std.proofs.Common.{rules, not, ap, ◌∙◌}
use Rattle.std.specs.Map.{values_of}
use Rattle.indexmap.proofs.CallerLemmas.{filter-RetainsPairs}
use Rattle.party_tables.specs.declared.key.KeyRec.{KeyRec}
use Rattle.party_tables.specs.Keys.{record_key, same_record}
use Rattle.party_tables.specs.Statuses.{is_ended}
use Rattle.party_tables.specs.Ranges.{IsRecord}
use Rattle.party_tables.proofs.Entries.{table_filter, values_filter}
use Rattle.party_tables.proofs.table.Table+RecordKey+KeyRec.remove_ended.Goals as goal

pub invariant_of-self : goal.invariant_of-self
invariant_of-self c =
    let e = filter-RetainsPairs _ (λ p. not (is_ended p.1.status)) _ (λ k v b w g call. search rules) c.self.inside.map.entries _ c.retain.ensures.filtered in
    rw e (table_filter record_key same_record IsRecord (λ (k : KeyRec). not (is_ended k.status)) c.self.inside.map.entries c.self.invariant)

pub returns-clause-rows : goal.returns-clause-rows
returns-clause-rows c =
    let e = filter-RetainsPairs _ (λ p. not (is_ended p.1.status)) _ (λ k v b w g call. search rules) c.self.inside.map.entries _ c.retain.ensures.filtered in
    rw (← c.self.view_is) (ap (λ es. values_of es) e ∙ values_filter record_key same_record (λ (k : KeyRec). not (is_ended k.status)) c.self.inside.map.entries)
