-- A spool is begun for a party (this project's profile).
use Rattle.std.specs.Prelude.{ℕ, List, Result}
use Rattle.x_disk.specs.Disk.{View, Tells}
use Rattle.key_store.specs.Store.{Stored}
use Rattle.member.specs.Member.{Member}
use Rattle.csm_batch.specs.declared.entry.Entry.{Entry}
use Rattle.spool_store.specs.declared.cause.Unbegun.{Unbegun}
use Rattle.spool_store.specs.Beginning.{begun_disk}
use Rattle.spool_store.specs.Spools.{Spooled}
use Rattle.csm_spool.specs.InStep.{PairsInStep}

-- over a spool's disk that tells, a party and a spool that were in step are so afterwards, whatever came
abbrev pub StaysInStep : {D E : Type 0} → (D → View) → (E → View) → List ℕ → List Entry → Stored D → E → Result (Spooled E) (Unbegun E) → Type 0
StaysInStep told_party told_spool text entries node old result = (x : Member) → Tells (told_spool old)
    → PairsInStep (told_party node.disk) (told_spool old) text x entries
    → PairsInStep (told_party node.disk) (told_spool (begun_disk result)) text x entries
