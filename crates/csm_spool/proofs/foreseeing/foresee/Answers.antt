use Rattle.std.proofs.Common.{List, ℕ, Err, refl, sym, subst}
use Rattle.csm_feed.specs.Heard.{Heard}
use Rattle.spool_store.specs.Plans.{IsEntryPlan}
use Rattle.csm_spool.specs.Courses.{IsHeard}
use Rattle.csm_spool.proofs.Numbers.{unheard_kept}
use Rattle.csm_spool.proofs.Steps.{heard_message, heard_none}
use Rattle.csm_spool.proofs.foreseeing.foresee.Goals as goal

pub foresee_message-requires : goal.foresee_message-requires
foresee_message-requires g c =
    subst (λ (l : List ℕ). IsHeard l c.in-Ok-Ok.arrival) c.bytes.ensures
    (heard_message c.bytes.result.now c.in-Ok-Ok.field-0 c.in-Ok-Ok.arrival c.in-Ok-Ok.field-0-is c.in-Ok-Ok.ensures.heard c.in-Ok-Ok.ensures.text)

pub returns-in-Ok-Err : goal.returns-in-Ok-Err
returns-in-Ok-Err g c = record {
  unheard = c.in-Ok-Err.unheard;
  heard = subst (λ (l : List ℕ). Heard l (Err c.in-Ok-Err.unheard)) c.bytes.ensures (heard_none c.bytes.result.now c.in-Ok-Err.field-0 c.in-Ok-Err.unheard c.in-Ok-Err.field-0-is c.in-Ok-Err.ensures.heard);
  same = refl;
  plan_is = c.plan_of_unheard.ensures;
  kept = subst IsEntryPlan (sym c.plan_of_unheard.ensures) (unheard_kept c.in-Ok-Err.unheard);
}
