-- The first test that fails, and its verdict.
use Rattle.std.specs.Prelude.{not, Option, List, option_map}
use Rattle.std.specs.List.{find}
use Rattle.x_base.specs.declared.verdict.Verdict.{Verdict}
use Rattle.party_state.specs.Verdicts.{Test}

abbrev pub failed_in : List Test → Option Verdict
failed_in ts = option_map (λ (t : Test). t.1) (find (λ (t : Test). not t.0) ts)
