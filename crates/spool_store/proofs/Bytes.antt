-- The bytes of a plan, part by part.
use Rattle.std.proofs.Common.{◌≡◌, ℕ, ◌+◌, ◌≤◌, ◌<◌, ◌^◌, true, List, [], ◌∷◌, ◌++◌, length, take, drop, sym, ap, subst, ◌∙◌, arith, length-append, append_assoc}
use Rattle.std.proofs.lemmas.List.{take-append-drop}
use Rattle.std.specs.Prelude.{Result, Ok, Err, OnOk, OnErr}
use Rattle.std.specs.List.{All}
use Rattle.std.proofs.lemmas.List.Elements.{All-push}
use Rattle.change_code.specs.Code.{two}
use Rattle.spool_store.specs.Contents.{Progress, IsProgress}
use Rattle.change_code.proofs.Numbers.{two_apart, two_long, same_fronts}
use Rattle.spool_store.specs.declared.entry_plan.EntryPlan.{EntryPlan}
use Rattle.spool_store.specs.Plans.{is_number, longest_plan, plan_body, IsChange, IsEntryPlan, IsPlanBody, IsSplit}
use Rattle.spool_store.specs.ContentLaws.{body_long, number_small, reply_short}

-- a plan has five bytes at least
pub five : (body : List ℕ) (p : EntryPlan) → IsPlanBody body p → 5 ≤ length body
five body p is = omega (arith, ap length is.is, body_long p)

pub no_fewer : (body : List ℕ) (p : EntryPlan) → length body < 5 → IsPlanBody body p → ⊥
no_fewer body p few is = omega (arith, few, five body p is)

-- the front of so many bytes, and what stands behind it
pub cut_at : (n : ℕ) (body front tail : List ℕ) → front ≡ take n body → tail ≡ drop n body → body ≡ front ++ tail
cut_at n body front tail f b = sym (ap (λ (l : List ℕ). l ++ tail) f ∙ (ap (λ (l : List ℕ). take n body ++ l) b ∙ take-append-drop n body))

-- a byte and two numbers, read one behind the other
pub read_apart : (body r0 r1 r2 rest : List ℕ) (b n m : ℕ) → r0 ≡ body → r0 ≡ b ∷ r1 → b ≡ 80 → r1 ≡ two n ++ r2 → r2 ≡ two m ++ rest → body ≡ 80 ∷ (two n ++ (two m ++ rest))
read_apart body r0 r1 r2 rest b n m i0 i1 kind i2 i3 =
    sym i0 ∙ (i1 ∙ (ap (λ (k : ℕ). k ∷ r1) kind ∙ ap (λ (l : List ℕ). 80 ∷ l) (i2 ∙ ap (λ (l : List ℕ). two n ++ l) i3)))

-- what stands behind the two numbers
pub behind_numbers : (body rest front tail : List ℕ) (n m : ℕ) → body ≡ 80 ∷ (two n ++ (two m ++ rest)) → body ≡ front ++ tail → length front ≡ 5 → rest ≡ tail
behind_numbers body rest front tail n m is cut long =
    let head : List ℕ = 80 ∷ (two n ++ two m) in
    let whole : head ++ rest ≡ front ++ tail = ap (λ (l : List ℕ). 80 ∷ l) (append_assoc (two n) (two m) rest) ∙ (sym is ∙ cut) in
    let size : length head ≡ length front = omega (arith, length-append (two n) (two m), two_long n, two_long m, long) in
    (same_fronts head front rest tail size whole).1

pub parted : (body rest front tail reply change : List ℕ) (n m : ℕ) → body ≡ 80 ∷ (two n ++ (two m ++ rest)) → body ≡ front ++ tail → length front ≡ 5 → tail ≡ reply ++ change → length reply ≡ m → IsSplit body n reply change
parted body rest front tail reply change n m is cut long parts size =
    let rest_is : rest ≡ reply ++ change = behind_numbers body rest front tail n m is cut long ∙ parts in
    is ∙ (ap (λ (l : List ℕ). 80 ∷ (two n ++ (two m ++ l))) rest_is ∙ ap (λ (k : ℕ). 80 ∷ (two n ++ (two k ++ (reply ++ change)))) (sym size))

-- a reply that is too long
pub no_reply : (body rest front tail : List ℕ) (n m : ℕ) (p : EntryPlan) → n < 2 ^ 16 → m < 2 ^ 16 → body ≡ 80 ∷ (two n ++ (two m ++ rest)) → body ≡ front ++ tail → length front ≡ 5 → length tail < m → IsPlanBody body p → ⊥
no_reply body rest front tail n m p small short is cut long few plan =
    let rest_is : rest ≡ tail = behind_numbers body rest front tail n m is cut long in
    let both : 80 ∷ (two n ++ (two m ++ rest)) ≡ plan_body p = sym is ∙ plan.is in
    let tails : two n ++ (two m ++ rest) ≡ two p.number ++ (two (length p.reply) ++ (p.reply ++ p.change)) = cc both in
    let numbers = two_apart n p.number (two m ++ rest) (two (length p.reply) ++ (p.reply ++ p.change)) small (number_small p.number plan.plan.number) tails in
    let lengths = two_apart m (length p.reply) rest (p.reply ++ p.change) short (reply_short p plan.plan) numbers.1 in
    omega (arith, ap length rest_is, ap length lengths.1, lengths.0, length-append p.reply p.change, few)

-- a plan of these parts is the bytes' own
pub same_parts : (body reply change : List ℕ) (n : ℕ) (p : EntryPlan) → n < 2 ^ 16 → length reply < 2 ^ 16 → IsSplit body n reply change → IsPlanBody body p → (n ≡ p.number) × (change ≡ p.change)
same_parts body reply change n p small short is plan =
    let both : 80 ∷ (two n ++ (two (length reply) ++ (reply ++ change))) ≡ plan_body p = sym is ∙ plan.is in
    let tails : two n ++ (two (length reply) ++ (reply ++ change)) ≡ two p.number ++ (two (length p.reply) ++ (p.reply ++ p.change)) = cc both in
    let numbers = two_apart n p.number (two (length reply) ++ (reply ++ change)) (two (length p.reply) ++ (p.reply ++ p.change)) small (number_small p.number plan.plan.number) tails in
    let lengths = two_apart (length reply) (length p.reply) (reply ++ change) (p.reply ++ p.change) short (reply_short p plan.plan) numbers.1 in
    (numbers.0, (same_fronts reply p.reply change p.change lengths.0 lengths.1).1)

-- a plan of copies of these parts has the bytes
pub plan_of : (body reply change copy copied : List ℕ) (n : ℕ) → IsSplit body n reply change → length body ≤ longest_plan → is_number n ≡ true → IsChange change → copy ≡ reply → copied ≡ change
    → IsPlanBody body (record { number = n; reply = copy; change = copied })
plan_of body reply change copy copied n split short number goes same_reply same_change =
    let is : body ≡ plan_body (record { number = n; reply = copy; change = copied }) =
    split ∙ (ap (λ (l : List ℕ). 80 ∷ (two n ++ (two (length l) ++ (l ++ change)))) (sym same_reply) ∙ ap (λ (l : List ℕ). 80 ∷ (two n ++ (two (length copy) ++ (copy ++ l)))) (sym same_change)) in
    record { plan = record { number = number; change = subst IsChange (sym same_change) goes; short = subst (λ (l : List ℕ). length l ≤ longest_plan) is short }; is = is }

pub plan_long : (p : EntryPlan) → length (plan_body p) ≡ 5 + (length p.reply + length p.change)
plan_long p = body_long p

-- a plan more, or the plans as they were
pub pushed : {T F : Type 0} (p : Progress) (plan : EntryPlan) (plans : List EntryPlan) (result : Result T F) → IsProgress p → IsEntryPlan plan → length p.plans < length p.entries → OnOk result (plans ≡ p.plans ++ plan ∷ []) → OnErr result (plans ≡ p.plans)
    → IsProgress (record { text = p.text; entries = p.entries; plans = plans })
pushed p plan plans (Ok x) is kept next done same = record {
  batch = is.batch;
  sized = is.sized;
  each = subst (All IsEntryPlan) (sym done) (All-push IsEntryPlan p.plans plan is.each kept);
  few = omega (arith, next, ap length done, length-append p.plans (plan ∷ []));
}
pushed p plan plans (Err x) is kept next done same = record { batch = is.batch; sized = is.sized; each = subst (All IsEntryPlan) (sym same) is.each; few = omega (arith, is.few, ap length same) }
