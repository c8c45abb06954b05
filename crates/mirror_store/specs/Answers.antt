-- The disks of an answer.
use Rattle.std.specs.Prelude.{Result, Ok, Err}
use Rattle.mirror_store.specs.Pairs.{Twin}
use Rattle.disk_pair.specs.declared.disks.Disks.{Disks}
use Rattle.mirror_store.specs.declared.pair.PairUnmade.{PairUnmade}
use Rattle.mirror_store.specs.declared.mirror.PairTurn.{PairTurn}
use Rattle.mirror_store.specs.declared.mirror.PairTurn.TheVariants.{Done, Refused, Broken, NoMemory}

abbrev pub twin_disks : {D : Type 0} → Twin D → Disks D
twin_disks m = record { first = m.first.disk; second = m.second.disk }

abbrev pub opened_disks : {D : Type 0} → Result (Twin D) (PairUnmade D) → Disks D
opened_disks (Ok m) = twin_disks m
opened_disks (Err u) = u.disks

abbrev pub turn_disks : {D : Type 0} → PairTurn D → Disks D
turn_disks (Done m reply under) = twin_disks m
turn_disks (Refused m verdict reply under) = twin_disks m
turn_disks (Broken u) = u.disks
turn_disks (NoMemory m) = twin_disks m
