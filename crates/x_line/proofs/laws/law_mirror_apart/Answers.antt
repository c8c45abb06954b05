use Rattle.x_line.proofs.Limiting.{compares_apart}
use Rattle.x_line.proofs.Mirrored.{mirrors_apart}
use Rattle.x_line.proofs.laws.law_mirror_apart.Goals as goal

pub returns-clause-mirrors : goal.returns-clause-mirrors
returns-clause-mirrors c = mirrors_apart

pub returns-clause-compares : goal.returns-clause-compares
returns-clause-compares c = compares_apart
