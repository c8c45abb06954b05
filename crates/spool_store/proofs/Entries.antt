-- An entry of a batch has few bytes.
use Rattle.std.proofs.Common.{◌≡◌, ℕ, ◌<◌, ◌≤◌, List, length, get_or, sym, ap, subst, ◌∙◌}
use Rattle.std.proofs.lemmas.List.Elements.{All-get_or}
use Rattle.csm_batch.specs.declared.entry.Entry.{Entry}
use Rattle.csm_batch.specs.Batches.{IsShort, IsSized}

pub short_at : (text : List ℕ) (entries items : List Entry) (k : ℕ) (e : Entry) → IsSized text entries → items ≡ entries → k < length entries → e ≡ get_or items k e → length e.bytes ≤ 1040
short_at text entries items k e sized same less is =
    let all : IsShort (get_or entries k e) = All-get_or IsShort entries k e less sized.each in
    let got : e ≡ get_or entries k e = is ∙ ap (λ (l : List Entry). get_or l k e) same in
    subst (λ (x : Entry). length x.bytes ≤ 1040) (sym got) all.short
