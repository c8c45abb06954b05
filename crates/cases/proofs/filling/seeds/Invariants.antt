use Rattle.std.proofs.Common.{◌≡◌, length}
use Rattle.std.specs.List.{All}
use Rattle.cases.specs.Seeds.{IsSeed}
use Rattle.cases.proofs.filling.seeds.Given as goal

abbrev pub invariant-filling : goal.invariant-filling
invariant-filling l = record { few : length l.change ≡ l.counter; all : All IsSeed l.change }
