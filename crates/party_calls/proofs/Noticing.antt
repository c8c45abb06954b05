-- The notice of a message that is taken.
use Rattle.std.proofs.Common.{◌≡◌, inl, inr, ℕ, Bool, true, false, List, [], ◌∷◌, Option, Some, None, IfSome, refl, sym, subst}
use Rattle.x_disk.specs.Disk.{View}
use Rattle.csm_grammar.specs.declared.arrival.Arrival.{Arrival}
use Rattle.call_ends.specs.Listening.{IsHeard}
use Rattle.x_line.specs.declared.order.Order.{Order}
use Rattle.x_line.specs.declared.order.Order.TheVariants as order
use Rattle.x_party.specs.declared.outcome.Outcome.{Outcome}
use Rattle.x_party.specs.declared.outcome.Outcome.TheVariants as outcome
use Rattle.call_ends.specs.declared.status.Status.{Status}
use Rattle.call_ends.specs.declared.status.Status.TheVariants as status
use Rattle.x_party.specs.Notices.{HasNotice}
use Rattle.call_ends.specs.Puts.{Puts}
use Rattle.party_calls.specs.Ends.{Ends}
use Rattle.x_pair.specs.Notices.{HasPairNotice}
use Rattle.party_calls.specs.Notice.{LeavesMirroredNotice, LeavesNotice, notice_at}

-- only what is done ends as done
not_done : (text : Option (List ℕ)) (answer : Status) (before after : Option (List ℕ)) → (answer ≡ status.Done → ⊥) → Puts text (10 ∷ []) answer status.Done before after → ⊥
not_done None answer before after never puts = never (sym puts.0)
not_done (Some text) answer before after never (inl put) = never (sym put.0)
not_done (Some text) answer before after never (inr part) = let no : status.Done ≡ status.WriteFault = part.0 in cc

done_by : (o : Outcome) (before after : Option (List ℕ)) → Ends o (10 ∷ []) status.Done before after → (reply : Option (List ℕ)) × (o ≡ outcome.Done reply)
done_by (outcome.Done reply) before after ends = (reply, refl)
done_by (outcome.Refused verdict reply) before after ends = absurd (not_done reply _ before after (λ is. cc) ends)
done_by (outcome.OtherParty asked found) before after ends = let no = ends.0 in absurd cc
done_by (outcome.Damaged place) before after ends = let no = ends.0 in absurd cc
done_by outcome.Fault before after ends = let no = ends.0 in absurd cc
done_by outcome.NoMemory before after ends = let no = ends.0 in absurd cc

-- what holds of a message that was heard
heard_of : (left : Option (List ℕ)) (a : Arrival) (rest : Type 0) (P : Arrival → Type 0) → IfSome left (λ all. IsHeard all a × rest) → P a → IfSome left (λ all. (b : Arrival) × IsHeard all b × P b)
heard_of None a rest P heard is = tt
heard_of (Some all) a rest P heard is = (a, heard.0, is)

module _ (party : List ℕ) (moment : ℕ) (a : Arrival) (rest : Type 0) (left : Option (List ℕ)) (old : List ℕ → View) (heard : IfSome left (λ all. IsHeard all a × rest)) where
  of_done : (o : Outcome) (notice before after : Option (List ℕ)) → Ends o (10 ∷ []) status.Done before after → HasNotice (old party) a moment o notice
      → LeavesNotice true (order.Take party) moment status.Done left old notice
  of_done o notice before after ends has =
      let done = done_by o before after ends in
      heard_of left a rest (λ (b : Arrival). HasNotice (old party) b moment (outcome.Done done.0) notice) heard (subst (λ (x : Outcome). HasNotice (old party) a moment x notice) done.1 has)

  pub leaves : (s : Status) (o : Outcome) (notice before after : Option (List ℕ)) → Ends o (10 ∷ []) s before after → HasNotice (old party) a moment o notice
      → LeavesNotice true (order.Take party) moment s left old (notice_at s notice)
  leaves status.Done o notice before after ends has = of_done o notice before after ends has
  leaves s o notice before after ends has = refl

  -- over two disks
  module _ (mirror : List ℕ) where
    of_two_done : (o : Outcome) (notice before after : Option (List ℕ)) → Ends o (10 ∷ []) status.Done before after → HasPairNotice (old party) (old mirror) a moment o notice
        → LeavesMirroredNotice true (order.Take party) mirror moment status.Done left old notice
    of_two_done o notice before after ends has =
        let done = done_by o before after ends in
        heard_of left a rest (λ (b : Arrival). HasPairNotice (old party) (old mirror) b moment (outcome.Done done.0) notice) heard
        (subst (λ (x : Outcome). HasPairNotice (old party) (old mirror) a moment x notice) done.1 has)

    pub leaves_of_two : (wanted : Bool) (s : Status) (o : Outcome) (notice before after : Option (List ℕ)) → Ends o (10 ∷ []) s before after
        → (wanted ≡ true → HasPairNotice (old party) (old mirror) a moment o notice) → (wanted ≡ false → notice ≡ None)
        → LeavesMirroredNotice wanted (order.Take party) mirror moment s left old (notice_at s notice)
    leaves_of_two true status.Done o notice before after ends has none = of_two_done o notice before after ends (has refl)
    leaves_of_two false status.Done o notice before after ends has none = none refl
    leaves_of_two wanted s o notice before after ends has none = refl

-- where no message is taken, or no notice of it is wanted, there is none
pub none_left : (wanted : Bool) (o : Order) → ((party : List ℕ) → wanted ≡ true → o ≡ order.Take party → ⊥) → (moment : ℕ) (s : Status) (left : Option (List ℕ)) (old : List ℕ → View)
    → LeavesNotice wanted o moment s left old None
none_left true (order.Take party) never moment s left old = absurd (never party refl refl)
none_left wanted o never moment s left old = refl

-- nor where it isn't done
pub none_unread : (party : List ℕ) (moment : ℕ) (s : Status) (left : Option (List ℕ)) (old : List ℕ → View) → (s ≡ status.Done → ⊥) → LeavesNotice true (order.Take party) moment s left old None
none_unread party moment status.Done left old never = absurd (never refl)
none_unread party moment s left old never = refl

pub none_without_memory : (wanted : Bool) (o : Order) (moment : ℕ) (left : Option (List ℕ)) (old : List ℕ → View) → LeavesNotice wanted o moment status.NoMemory left old None
none_without_memory true (order.Take party) moment left old = refl
none_without_memory wanted o moment left old = refl

-- ---- over two disks

pub none_left_of_two : (wanted : Bool) (o : Order) → ((party : List ℕ) → wanted ≡ true → o ≡ order.Take party → ⊥) → (mirror : List ℕ) (moment : ℕ) (s : Status) (left : Option (List ℕ)) (old : List ℕ → View)
    → LeavesMirroredNotice wanted o mirror moment s left old None
none_left_of_two true (order.Take party) never mirror moment s left old = absurd (never party refl refl)
none_left_of_two wanted o never mirror moment s left old = refl

pub none_of_two_unread : (wanted : Bool) (party mirror : List ℕ) (moment : ℕ) (s : Status) (left : Option (List ℕ)) (old : List ℕ → View) → (s ≡ status.Done → ⊥)
    → LeavesMirroredNotice wanted (order.Take party) mirror moment s left old None
none_of_two_unread true party mirror moment status.Done left old never = absurd (never refl)
none_of_two_unread wanted party mirror moment s left old never = refl

pub none_of_two_without_memory : (wanted : Bool) (o : Order) (mirror : List ℕ) (moment : ℕ) (left : Option (List ℕ)) (old : List ℕ → View) → LeavesMirroredNotice wanted o mirror moment status.NoMemory left old None
none_of_two_without_memory true (order.Take party) mirror moment left old = refl
none_of_two_without_memory wanted o mirror moment left old = refl
