-- A writing that ends early (this project's profile).
use Rattle.open_parties.specs.declared.failure.Ending.{Ending}
use Rattle.open_parties.specs.declared.failure.Ending.TheVariants as ending
use Rattle.open_parties.specs.declared.failure.Failure.TheVariants as failure

-- the sink failed, or no memory was left
abbrev pub IsWriteEnd : Ending → Type 0
IsWriteEnd (ending.Forged n) = ⊥
IsWriteEnd ending.Write = Unit {0}
IsWriteEnd (ending.Failed failure.Fault) = ⊥
IsWriteEnd (ending.Failed failure.NoMemory) = Unit {0}
IsWriteEnd (ending.Failed (failure.Damaged place)) = ⊥
