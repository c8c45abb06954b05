-- A plan is the one of the decision, by the room.
use Rattle.std.proofs.Common.{◌≡◌, ◌≢◌, ℕ, Bool, true, false, cond, List, [], Option, Some, None, unwrap_or, IfSome, IfNone, refl, sym, ◌∙◌, ap, subst}
use Rattle.party_state.specs.declared.command.Input.{Input}
use Rattle.party_state.specs.declared.decision.Decision.{Decision}
use Rattle.party_state.specs.declared.decision.Lead.{Lead}
use Rattle.party_state.specs.declared.edit.Edit.{Edit}
use Rattle.change_code.specs.declared.format.Format.{Format}
use Rattle.change_code.specs.declared.space.Space.{Space}
use Rattle.change_code.specs.Cost.{fits}
use Rattle.change_code.specs.Framed.{FramedEdits, space_for}
use Rattle.role_base.specs.Storable.{IsStorable}
use Rattle.member.specs.Deciding.{IsDecided}
use Rattle.member.specs.Leads.{lead_in}
use Rattle.member.specs.Member.{Member, Plan, as_decided, as_full, plan_of, plan_at}
use Rattle.member.specs.Answers.{IsPlan}

-- the edits of a decision as a change, which is empty where there are none
pub edits_are : (change : Option (List Edit)) (edits other taken : List Edit) → IfSome change (λ c. (c ≡ edits) × (edits ≢ [])) → IfNone change (edits ≡ []) → other ≡ []
    → taken ≡ unwrap_or change other → taken ≡ edits
edits_are (Some c) edits other taken some none empty is = is ∙ some.0
edits_are None edits other taken some none empty is = is ∙ (empty ∙ sym none)

chosen : (b : Bool) (first second : Plan) → b ≡ true → cond b first second ≡ first
chosen true first second is = refl
chosen false first second is = absurd (cc is)

space_with : (f : Format) (s : Space) → f ≡ s.format → (let t : Space = record { format = f; room = s.room } in t) ≡ s
space_with f s format = subst (λ (g : Format). (let t : Space = record { format = g; room = s.room } in t) ≡ s) (sym format) refl

module _ (x : Member) (i : Input) (moment : ℕ) (l : Option Lead) (lead_is : l ≡ lead_in x.party i) (d : Decision) (decided : IsDecided x.party i moment d) where
  at : plan_of x.space l d ≡ plan_at x i moment
  at = ap (λ m. plan_of x.space m d) lead_is ∙ ap (λ e. plan_of x.space (lead_in x.party i) e) decided.is

  pub fitting_plan : (framed : FramedEdits) → framed.format ≡ x.space.format → framed.edits ≡ d.change → fits (space_for framed x.space.room) framed.edits ≡ true
      → IsPlan x i moment (record { plan = record { lead = l; edits = framed.edits; verdict = d.verdict; reply = d.reply; under = d.under }; format = framed.format })
  fitting_plan framed format is fit =
      let fit_here : fits x.space framed.edits ≡ true = ap (λ (s : Space). fits s framed.edits) (sym (space_with framed.format x.space format)) ∙ fit in
      let fit_there : fits x.space d.change ≡ true = ap (λ (es : List Edit). fits x.space es) (sym is) ∙ fit_here in
      record {
        is = ap (λ (es : List Edit). record { lead = l; edits = es; verdict = d.verdict; reply = d.reply; under = d.under }) is
            ∙ (sym (chosen (fits x.space d.change) (as_decided l d) (as_full l) fit_there) ∙ at);
        format = format;
        kept = subst (λ (es : List Edit). IsStorable x.party es) (sym is) decided.kept;
        fits = fit_here;
      }
