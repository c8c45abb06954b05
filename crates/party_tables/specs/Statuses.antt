-- How far a data key has come (this project's profile).
use Rattle.std.specs.Prelude.{Bool, true, false}
use Rattle.party_tables.specs.declared.key.KeyStatus.{KeyStatus}
use Rattle.party_tables.specs.declared.key.KeyStatus.TheVariants.{Ended}

-- the key was discontinued
abbrev pub is_ended : KeyStatus → Bool
is_ended Ended = true
is_ended _ = false
