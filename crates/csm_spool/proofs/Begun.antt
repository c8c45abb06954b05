-- A spool that is begun is in step with its party.
use Rattle.std.proofs.Common.{◌≡◌, ◌⊎◌, inl, inr, ℕ, List, Some, Bool, true, false, Result, sym, refl, ◌∙◌}
use Rattle.x_disk.specs.Disk.{View, IsSound}
use Rattle.key_journal.specs.Journal.{is_blank}
use Rattle.key_store.specs.Store.{Stored}
use Rattle.member.specs.Member.{Member}
use Rattle.node_core.specs.Turns.{IsImageOf}
use Rattle.csm_batch.specs.declared.entry.Entry.{Entry}
use Rattle.spool_store.specs.declared.cause.Unbegun.{Unbegun}
use Rattle.spool_store.specs.Contents.{Progress}
use Rattle.spool_store.specs.Beginning.{IsBegun, IsBlankOrBegun, begun_disk}
use Rattle.spool_store.specs.Spools.{Spooled}
use Rattle.csm_spool.specs.Beginning.{StaysInStep}
use Rattle.csm_spool.specs.InStep.{InStep}
use Rattle.csm_spool.specs.Laws.{LawBegins}
use Rattle.x_disk.proofs.Alike.{told_now}
use Rattle.csm_spool.proofs.Images.{NotBlank, left_now}

-- where the spool's image is blank, the party stands at the start
at_start : NotBlank → (party spool text : List ℕ) (x : Member) (entries : List Entry) → is_blank spool ≡ true → InStep party spool text x entries → IsImageOf x party
at_start not_blank party spool text x entries blank (inl (none, stands)) = stands
at_start not_blank party spool text x entries blank (inr u) =
    let p : Progress = record { text = text; entries = entries; plans = u.plans } in
    let both : true ≡ false = sym blank ∙ not_blank spool (Some p) u.holds in
    absurd (cc both)

module _ (not_blank : NotBlank) (law : LawBegins) {D E : Type 0} (told : D → View) (told_spool : E → View) (text : List ℕ) (entries : List Entry) (node : Stored D) (old : E) (result : Result (Spooled E) (Unbegun E))
    (is : IsBegun told_spool text entries old result) (sound : IsSound (told_spool old)) (sound_after : IsSound (told_spool (begun_disk result))) where
  pub stays : StaysInStep told told_spool text entries node old result
  stays x tells pairs i j at_party at_spool = by_image (is_blank b.0) refl
    where
      b : (image : List ℕ) × ((told_spool old).now ≡ Some image)
      b = told_now (told_spool old).now tells

      was : InStep i b.0 text x entries
      was = pairs i b.0 at_party (sound.now_among b.0 b.1)

      by_left : IsImageOf x i → IsBlankOrBegun text entries j ⊎ (told_spool old).may_leave j → InStep i j text x entries
      by_left stands (inl begun) = law i j text x entries stands begun
      by_left stands (inr before) = pairs i j at_party before

      by_image : (blank : Bool) → is_blank b.0 ≡ blank → InStep i j text x entries
      by_image true blank = by_left (at_start not_blank i b.0 text x entries blank was) (left_now (told_spool old) (told_spool (begun_disk result)) (λ c. IsBlankOrBegun text entries c ⊎ (told_spool old).may_leave c) sound_after (is.any_moment tells) j at_spool)
      by_image false blank = pairs i j at_party (left_now (told_spool old) (told_spool (begun_disk result)) (told_spool old).may_leave sound_after (is.untouched b.0 b.1 blank).any_moment j at_spool)
