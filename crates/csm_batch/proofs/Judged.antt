-- Each text is a batch or has one first bad line.
use Rattle.std.proofs.Common.{◌⊎◌, ℕ, ◌+◌, List, length, inl, inr, refl, sym, ap, ◌∙◌}
use Rattle.scenario.specs.Behind.{EachBehind, FirstFails}
use Rattle.scenario.specs.Rows.{rows_of}
use Rattle.scenario.proofs.Judging.{first_fails, never_fails, same_place}
use Rattle.csm_batch.specs.declared.entry.Entry.{Entry}
use Rattle.csm_batch.specs.Batches.{IsBatch, IsFirstBad, entries_in, is_good}
use Rattle.csm_batch.specs.Laws.{HasReading, OneReading}

pub has_reading : HasReading
has_reading text = by (first_fails is_good (rows_of text))
  where
    by : (EachBehind is_good (rows_of text) ⊎ ((before : _) × FirstFails is_good (rows_of text) before))
        → ((entries : List Entry) × IsBatch text entries) ⊎ ((number : ℕ) × IsFirstBad text number)
    by (inl h) = inl (entries_in (rows_of text), record { good = h; values = refl })
    by (inr f) = inr (length f.0 + 1, (f.0, f.1, refl))

pub one_reading : OneReading
one_reading = record {
  one_batch = λ text a b f g. f.values ∙ sym g.values;
  one_bad = λ text a b f g. f.2 ∙ ap (λ n. n + 1) (same_place is_good (rows_of text) f.0 g.0 f.1 g.1) ∙ sym g.2;
  never_both = λ text entries number f g. never_fails is_good (rows_of text) g.0 f.good g.1;
}
