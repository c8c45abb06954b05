use Rattle.std.proofs.Common.{rules, ◌≡◌, Some, None, true, false, sym, subst, slice_get}
use Rattle.fact_book.specs.Book.{is_this_text}
use Rattle.fact_book.proofs.Walking.{Seen, seen_first, seen_none, seen_within, seen_found, seen_next, seen_less}
use Rattle.fact_book.proofs.book.is_reached.Goals as goal

pub earlier-init : goal.earlier-init
earlier-init c = seen_first c.args.entries.now c.args.texts.now c.args.under.now c.args.text.now c.args.from c.requires.reaches

pub returns-in_default-entry_at : goal.returns-in_default-entry_at
returns-in_default-entry_at c =
    let is : c.earlier.at ≡ Some c.in-Some.place = search rules in
    let none : slice_get c.args.entries.now c.in-Some.place ≡ None = search rules in
    absurd (seen_within c.args.entries.now c.args.texts.now c.args.under.now c.args.text.now c.in-Some.place (subst (Seen c.args.entries.now c.args.texts.now c.args.under.now c.args.text.now) is c.earlier.invariant) none)

pub returns-then-has_text : goal.returns-then-has_text
returns-then-has_text c =
    let is : c.earlier.at ≡ Some c.in-Some.place = search rules in
    let got : slice_get c.args.entries.now c.in-Some.place ≡ Some c.in-Some-entry_at.entry.now = search rules in
    let same : is_this_text c.args.text.now (slice_get c.args.texts.now c.in-Some.place) ≡ true = search rules in
    sym (seen_found c.args.entries.now c.args.texts.now c.args.under.now c.args.text.now c.in-Some.place c.in-Some-entry_at.entry.now (subst (Seen c.args.entries.now c.args.texts.now c.args.under.now c.args.text.now) is c.earlier.invariant) got same)

pub earlier-smaller : goal.earlier-smaller
earlier-smaller c =
    let is : c.earlier.at ≡ Some c.in-Some.place = search rules in
    let got : slice_get c.args.entries.now c.in-Some.place ≡ Some c.in-Some-entry_at.entry.now = search rules in
    rw is (seen_less c.args.entries.now c.args.texts.now c.args.under.now c.args.text.now c.in-Some.place c.in-Some-entry_at.entry.now (subst (Seen c.args.entries.now c.args.texts.now c.args.under.now c.args.text.now) is c.earlier.invariant) got)

pub earlier-preserved : goal.earlier-preserved
earlier-preserved c =
    let is : c.earlier.at ≡ Some c.in-Some.place = search rules in
    let got : slice_get c.args.entries.now c.in-Some.place ≡ Some c.in-Some-entry_at.entry.now = search rules in
    let other : is_this_text c.args.text.now (slice_get c.args.texts.now c.in-Some.place) ≡ false = search rules in
    seen_next c.args.entries.now c.args.texts.now c.args.under.now c.args.text.now c.in-Some.place c.in-Some-entry_at.entry.now (subst (Seen c.args.entries.now c.args.texts.now c.args.under.now c.args.text.now) is c.earlier.invariant) got other

pub returns : goal.returns
returns c =
    let is : c.earlier.at ≡ None = search rules in
    sym (seen_none c.args.entries.now c.args.texts.now c.args.under.now c.args.text.now (subst (Seen c.args.entries.now c.args.texts.now c.args.under.now c.args.text.now) is c.earlier.invariant))
