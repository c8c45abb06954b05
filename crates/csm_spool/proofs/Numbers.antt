-- The numbers of plans, and how long a plan of a refusal is.
use Rattle.std.proofs.Common.{◌≡◌, inl, ℕ, ◌<◌, ◌^◌, true, refl, sym, subst, arith}
use Rattle.x_base.specs.Verdict.{number_of}
use Rattle.x_base.specs.declared.verdict.Verdict.{Verdict}
use Rattle.x_base.specs.declared.verdict.Verdict.TheVariants as verdict
use Rattle.csm_grammar.specs.declared.refusal.ReadRefusal.TheVariants as refusal
use Rattle.csm_feed.specs.declared.unheard.Unheard.{Unheard}
use Rattle.csm_feed.specs.declared.unheard.Unheard.TheVariants as unheard
use Rattle.csm_feed.specs.Numbers.{unheard_number}
use Rattle.spool_store.specs.Plans.{is_number, IsEntryPlan}
use Rattle.spool_store.specs.ContentLaws.{number_small, body_long}
use Rattle.csm_spool.specs.Planning.{plan_of_unheard}

pub unheard_listed : (u : Unheard) → is_number (unheard_number u) ≡ true
unheard_listed (unheard.Text (refusal.NotCsm place)) = refl
unheard_listed (unheard.Text (refusal.TooLong place)) = refl
unheard_listed (unheard.Text (refusal.Unended place)) = refl
unheard_listed (unheard.Text (refusal.BadTag place)) = refl
unheard_listed (unheard.Text (refusal.UnknownTag place)) = refl
unheard_listed (unheard.Text (refusal.Repeated tag place)) = refl
unheard_listed (unheard.Text (refusal.Missing tag place)) = refl
unheard_listed (unheard.Text (refusal.Unwanted tag place)) = refl
unheard_listed (unheard.Text (refusal.BadContents tag place)) = refl
unheard_listed (unheard.Text (refusal.Unsupported tag place)) = refl
unheard_listed (unheard.Text refusal.NoMemory) = refl
unheard_listed (unheard.Trailing place) = refl

pub verdict_listed : (v : Verdict) → is_number (number_of v) ≡ true
verdict_listed verdict.Accept = refl
verdict_listed verdict.WeakDraws = refl
verdict_listed verdict.JournalFull = refl
verdict_listed verdict.NotEmpty = refl
verdict_listed verdict.LinksFull = refl
verdict_listed verdict.KeysFull = refl
verdict_listed verdict.NotForMe = refl
verdict_listed verdict.UnknownPeer = refl
verdict_listed verdict.WrongClass = refl
verdict_listed verdict.NoExchange = refl
verdict_listed verdict.Outstanding = refl
verdict_listed verdict.UnknownKk = refl
verdict_listed verdict.UnknownKey = refl
verdict_listed verdict.BadMac = refl
verdict_listed verdict.BadEdc = refl
verdict_listed (verdict.CountLow expected) = refl
verdict_listed verdict.CountSpent = refl
verdict_listed verdict.LabelTaken = refl
verdict_listed verdict.SameKey = refl
verdict_listed verdict.Alias = refl
verdict_listed verdict.Blank = refl

pub unheard_small : (u : Unheard) → unheard_number u < 2 ^ 16
unheard_small u = number_small (unheard_number u) (unheard_listed u)

pub verdict_small : (v : Verdict) → number_of v < 2 ^ 16
verdict_small v = number_small (number_of v) (verdict_listed v)

pub listed_as : (v : Verdict) (n : ℕ) → n ≡ number_of v → is_number n ≡ true
listed_as v n is = subst (λ (m : ℕ). is_number m ≡ true) (sym is) (verdict_listed v)

pub unheard_kept : (u : Unheard) → IsEntryPlan (plan_of_unheard u)
unheard_kept u = record { number = unheard_listed u; change = inl refl; short = omega (arith, body_long (plan_of_unheard u)) }
