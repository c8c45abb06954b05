-- The first body of a spool, with its batch.
use Rattle.std.proofs.Common.{◌≡◌, ℕ, List, [], ◌∷◌, drop, Option, Some, None, refl, sym, ap, subst, ◌∙◌, arith}
use Rattle.key_journal.specs.Journal.{frame_of}
use Rattle.journal_state.specs.Keeping.{IsFrameOf}
use Rattle.csm_batch.specs.declared.entry.Entry.{Entry}
use Rattle.csm_batch.specs.Batches.{IsBatch, IsSized}
use Rattle.csm_batch.specs.Laws.{OneReading}
use Rattle.spool_store.specs.declared.entry_plan.EntryPlan.{EntryPlan}
use Rattle.spool_store.specs.Contents.{Progress, Goes, no_plans}

-- the batch that is read again is the same
pub read_again : (text : List ℕ) (entries : List Entry) (bytes : List ℕ) (read : List ℕ × List Entry) (plans : List EntryPlan) → OneReading → IsBatch text entries → bytes ≡ text → (read.0 ≡ bytes) × IsBatch bytes read.1 → plans ≡ []
    → record { text = read.0; entries = read.1; plans = plans } ≡ no_plans text entries
read_again text entries bytes read plans one batch same again none =
    let whole : IsBatch text read.1 = subst (λ (l : List ℕ). IsBatch l read.1) same again.1 in
    λ i. record { text = (again.0 ∙ same) i; entries = one.one_batch text read.1 entries whole batch i; plans = none i }

-- the frame of the first body leads to it
pub framed : (text : List ℕ) (entries : List Entry) (bytes behind frame : List ℕ) (contents : Option Progress) → IsBatch text entries → IsSized text entries
    → bytes ≡ text → behind ≡ 0 ∷ 0 ∷ 0 ∷ 0 ∷ 83 ∷ bytes → frame ≡ frame_of (drop 4 behind) → contents ≡ Some (no_plans text entries) → IsFrameOf Goes frame None contents
framed text entries bytes behind frame contents batch sized same laid closed made =
    subst (λ (o : Option Progress). IsFrameOf Goes frame None o) (sym made) (record {
      body = 83 ∷ text;
      is_body = record { some = omega arith; small = omega (arith, sized.short) };
      is = closed ∙ (ap (λ (l : List ℕ). frame_of (drop 4 l)) laid ∙ ap (λ (l : List ℕ). frame_of (83 ∷ l)) same);
      leads = record { is = refl; batch = batch; none = refl };
    })
