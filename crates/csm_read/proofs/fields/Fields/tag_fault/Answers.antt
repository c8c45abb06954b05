use Rattle.std.proofs.Common.{◌≡◌, ℕ, Bool, true, false, ◌∷◌, Option, Some, None, refl, sym, ap, ◌∙◌}
use Rattle.std.specs.Prelude.{option_map, if◌then◌else◌}
use Rattle.csm_grammar.specs.declared.tag.Tag.{Tag}
use Rattle.csm_grammar.specs.declared.refusal.ReadRefusal.{ReadRefusal}
use Rattle.csm_grammar.specs.declared.refusal.ReadRefusal.TheVariants as refusal
use Rattle.csm_grammar.specs.Tags.{is_closing}
use Rattle.csm_grammar.specs.Spelling.{tags_in}
use Rattle.csm_read.specs.Faults.{or_else, contents_fault, is_repeated, forms_left, lacking}
use Rattle.csm_read.proofs.fields.Fields.tag_fault.Goals as goal

missing_fault : (b : Bool) (o m : Option Tag) (place : ℕ) → m ≡ (if b then o else None) → (if b then option_map (λ t. refusal.Missing t place) o else None) ≡ option_map (λ t. refusal.Missing t place) m
missing_fault true o m place e = ap (option_map (λ (t : Tag). refusal.Missing t place)) (sym e)
missing_fault false o m place e = ap (option_map (λ (t : Tag). refusal.Missing t place)) (sym e)

pub returns-then-is_unsupported : goal.returns-then-is_unsupported
returns-then-is_unsupported c = λ fs contents k. rw (sym c.is_unsupported.ensures ∙ c.if-is_unsupported.true) refl

pub returns-then-begins_wrongly : goal.returns-then-begins_wrongly
returns-then-begins_wrongly c = λ fs contents k.
    rw (sym c.is_unsupported.ensures ∙ c.if-is_unsupported.false, sym (c.begins_wrongly.ensures fs k) ∙ c.if-begins_wrongly.true) refl

pub returns-then-is_unwanted : goal.returns-then-is_unwanted
returns-then-is_unwanted c = λ fs contents k.
    let once : is_repeated fs c.args.tag ≡ false = cc (c.is_repeated.ensures fs k) in
    rw (
      sym c.is_unsupported.ensures ∙ c.if-is_unsupported.false,
      sym (c.begins_wrongly.ensures fs k) ∙ c.if-begins_wrongly.false,
      once,
      sym (c.is_unwanted.ensures fs k) ∙ c.if-is_unwanted.true,
    ) refl

pub returns-in-Some : goal.returns-in-Some
returns-in-Some c = λ fs contents k.
    let t = c.args.tag in
    let once : is_repeated fs t ≡ false = cc (c.is_repeated.ensures fs k) in
    rw (
      sym c.is_unsupported.ensures ∙ c.if-is_unsupported.false,
      sym (c.begins_wrongly.ensures fs k) ∙ c.if-begins_wrongly.false,
      once,
      sym (c.is_unwanted.ensures fs k) ∙ c.if-is_unwanted.false,
    )
    (ap (λ (o : Option ReadRefusal). or_else o (contents_fault t c.args.place contents))
    (missing_fault (is_closing t) (lacking (forms_left fs (t ∷ tags_in fs)) (tags_in fs)) (Some c.in-Some.missing) c.args.place (c.in-Some.ensures fs k)))

pub returns : goal.returns
returns c = λ fs contents k.
    let t = c.args.tag in
    let once : is_repeated fs t ≡ false = cc (c.is_repeated.ensures fs k) in
    rw (
      sym c.is_unsupported.ensures ∙ c.if-is_unsupported.false,
      sym (c.begins_wrongly.ensures fs k) ∙ c.if-begins_wrongly.false,
      once,
      sym (c.is_unwanted.ensures fs k) ∙ c.if-is_unwanted.false,
    )
    (ap (λ (o : Option ReadRefusal). or_else o (contents_fault t c.args.place contents))
    (missing_fault (is_closing t) (lacking (forms_left fs (t ∷ tags_in fs)) (tags_in fs)) None c.args.place (c.in_default.ensures fs k)))
