use Rattle.std.proofs.Common.{ap, ◌∙◌}
use Rattle.indexmap.specs.IndexSet.{insert_key}
use Rattle.scenario.specs.declared.tables.Tables.{Tables}
use Rattle.scenario.specs.Rules.{same_two}
use Rattle.scenario.proofs.tables.Tables.note_link.Goals as goal

pub returns : goal.returns
returns c = record {
  pairs = ap (λ (t : Tables). t.pairs.keys) c.in_ok-count_loads.ensures.others ∙ c.in-Ok.ensures.keys
      ∙ ap (insert_key same_two c.args.self.now.pairs.keys) c.odd_halves.ensures;
  ends = ap (λ (t : Tables). t.ends.keys) c.in_ok-count_loads.ensures.others ∙ c.in-Ok-insert.ensures.keys;
  loads = c.in_ok-count_loads.ensures.loads;
  only_parties = ap (λ (t : Tables). t.only_parties) c.in_ok-count_loads.ensures.others;
  only_set_up = ap (λ (t : Tables). t.only_set_up) c.in_ok-count_loads.ensures.others;
  parties = ap (λ (t : Tables). t.parties.entries) c.in_ok-count_loads.ensures.others;
  expansions = ap (λ (t : Tables). t.expansions.keys) c.in_ok-count_loads.ensures.others;
}
