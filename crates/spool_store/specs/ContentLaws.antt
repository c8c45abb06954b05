-- A body makes one thing of what the ones before it made (this project's profile).
use Rattle.std.proofs.Common.{◌≡◌, ℕ, ◌+◌, ◌<◌, ◌≤◌, ◌^◌, Bool, true, false, List, ◌∷◌, ◌++◌, length, Option, Some, None, refl, sym, ap, ◌∙◌, arith, length-append}
use Rattle.std.specs.Prelude.{◌==◌, ◌&&◌, ◌||◌, nat_le}
use Rattle.std.proofs.lemmas.Bool.{leb-true, eqb-true}
use Rattle.scenario.specs.Rows.{rows_of}
use Rattle.change_code.specs.Code.{two}
use Rattle.change_code.proofs.Numbers.{two_apart, two_long, same_fronts}
use Rattle.csm_batch.specs.declared.entry.Entry.{Entry}
use Rattle.csm_batch.specs.Batches.{entries_in}
use Rattle.spool_store.specs.declared.entry_plan.EntryPlan.{EntryPlan}
use Rattle.spool_store.specs.Plans.{is_number, plan_body, IsEntryPlan}
use Rattle.spool_store.specs.Contents.{Progress, with_plan, BeginsBatch, AddsPlan, Goes}

pub body_long : (p : EntryPlan) → length (plan_body p) ≡ 5 + (length p.reply + length p.change)
body_long p =
    let inner = length-append p.reply p.change in
    let second = length-append (two (length p.reply)) (p.reply ++ p.change) in
    let first = length-append (two p.number) (two (length p.reply) ++ (p.reply ++ p.change)) in
    omega (arith, inner, second, first, two_long p.number, two_long (length p.reply))

pub reply_short : (p : EntryPlan) → IsEntryPlan p → length p.reply < 2 ^ 16
reply_short p is = omega (arith, body_long p, is.short)

pub number_small : (n : ℕ) → is_number n ≡ true → n < 2 ^ 16
number_small n is = go (n == 0) (nat_le n 15) (nat_le n 34) (nat_le n 38) refl refl refl refl is
  where
    go : (zero low mid high : Bool) → (n == 0) ≡ zero → nat_le n 15 ≡ low → nat_le n 34 ≡ mid → nat_le n 38 ≡ high → (zero || ((nat_le 4 n && low) || ((nat_le 18 n && mid) || (nat_le 37 n && high)))) ≡ true → n < 2 ^ 16
    go true low mid high z l m h is = let none : n ≡ 0 = eqb-true n 0 z in omega (arith, none)
    go false true mid high z l m h is = let le : n ≤ 15 = leb-true n 15 l in omega (arith, le)
    go false false true high z l m h is = let le : n ≤ 34 = leb-true n 34 m in omega (arith, le)
    go false false false true z l m h is = let le : n ≤ 38 = leb-true n 38 h in omega (arith, le)
    go false false false false z l m h is = absurd (never (nat_le 4 n) (nat_le 18 n) (nat_le 37 n) is)
      where
        never : (a b c : Bool) → (false || ((a && false) || ((b && false) || (c && false)))) ≡ true → ⊥
        never true true true is = cc is
        never true true false is = cc is
        never true false true is = cc is
        never true false false is = cc is
        never false true true is = cc is
        never false true false is = cc is
        never false false true is = cc is
        never false false false is = cc is

-- bytes are those of one plan
pub same_plan : (p q : EntryPlan) → IsEntryPlan p → IsEntryPlan q → plan_body p ≡ plan_body q → p ≡ q
same_plan p q one other is =
    let tails : two p.number ++ (two (length p.reply) ++ (p.reply ++ p.change)) ≡ two q.number ++ (two (length q.reply) ++ (q.reply ++ q.change)) = cc is in
    let numbers = two_apart p.number q.number (two (length p.reply) ++ (p.reply ++ p.change)) (two (length q.reply) ++ (q.reply ++ q.change)) (number_small p.number one.number) (number_small q.number other.number) tails in
    let lengths = two_apart (length p.reply) (length q.reply) (p.reply ++ p.change) (q.reply ++ q.change) (reply_short p one) (reply_short q other) numbers.1 in
    let texts = same_fronts p.reply q.reply p.change q.change lengths.0 lengths.1 in
    ap (λ (n : ℕ). let r : EntryPlan = record { number = n; reply = p.reply; change = p.change } in r) numbers.0
    ∙ (ap (λ (t : List ℕ). let r : EntryPlan = record { number = q.number; reply = t; change = p.change } in r) texts.0
    ∙ ap (λ (t : List ℕ). let r : EntryPlan = record { number = q.number; reply = q.reply; change = t } in r) texts.1)

one_begin : (body : List ℕ) (a b : Progress) → BeginsBatch body a → BeginsBatch body b → a ≡ b
one_begin body a b first second =
    let both : 83 ∷ a.text ≡ 83 ∷ b.text = sym first.is ∙ second.is in
    let text : a.text ≡ b.text = cc both in
    let entries : a.entries ≡ b.entries = first.batch.values ∙ (ap (λ (t : List ℕ). entries_in (rows_of t)) text ∙ sym second.batch.values) in
    ap (λ (t : List ℕ). let r : Progress = record { text = t; entries = a.entries; plans = a.plans } in r) text
    ∙ (ap (λ (es : List Entry). let r : Progress = record { text = b.text; entries = es; plans = a.plans } in r) entries
    ∙ ap (λ (ps : List EntryPlan). let r : Progress = record { text = b.text; entries = b.entries; plans = ps } in r) (first.none ∙ sym second.none))

one_more : (body : List ℕ) (old a b : Progress) → AddsPlan body old a → AddsPlan body old b → a ≡ b
one_more body old a b first second =
    first.after ∙ (ap (with_plan old) (same_plan first.plan second.plan first.is_plan second.is_plan (sym first.is ∙ second.is)) ∙ sym second.after)

some_of : (a b : Progress) → a ≡ b → (let x : Option Progress = Some a in let y : Option Progress = Some b in x ≡ y)
some_of a b is = ap (λ (p : Progress). let x : Option Progress = Some p in x) is

pub one_next : (body : List ℕ) (old a b : Option Progress) → Goes body old a → Goes body old b → a ≡ b
one_next body old None b first second = absurd first
one_next body old (Some a) None first second = absurd second
one_next body None (Some a) (Some b) first second = some_of a b (one_begin body a b first second)
one_next body (Some old) (Some a) (Some b) first second = some_of a b (one_more body old a b first second)
