use Rattle.std.proofs.Common.{◌≡◌, ◌∙◌, Option, Some, None, refl, sym, inl, rules, tests}
use Rattle.std.specs.Prelude.{◌&&◌, option_map, is_none}
use Rattle.std.specs.List.{find}
use Rattle.std.proofs.lemmas.Iterator.{YieldsList-from_slice}
use Rattle.std.proofs.lemmas.Iterator.Consumers.{YieldsList-from_copied}
use Rattle.std.proofs.lemmas.Iterator.Search.{find_from_yields_List}
use Rattle.csm_grammar.specs.declared.form.Form.{Form}
use Rattle.csm_grammar.specs.Classes.{forms}
use Rattle.csm_grammar.specs.FormSets.{has_form}
use Rattle.csm_read.specs.Slotting.{absent_by}
use Rattle.csm_read.proofs.EndLemmas.{open_fault, some_form, present, second_present, some_mac, some_edc, ended}
use Rattle.csm_read.proofs.fields.Fields.end.Goals as goal

as_it_is : (o : Option Form) → option_map (λ x. x) o ≡ o
as_it_is None = refl
as_it_is (Some f) = refl

pub returns-then-not-is_closed : goal.returns-then-not-is_closed
returns-then-not-is_closed c = λ fs k. inl (open_fault c.args.self.now.slots c.args.self.now.left.bits fs c.args.place c.is_closed.result c.missing_tag.result k.keeps c.is_closed.ensures c.if-not-is_closed.true (c.missing_tag.ensures fs k.keeps))

pub unwrap-form-requires : goal.unwrap-form-requires
unwrap-form-requires c =
    let f : c.find.result ≡ find (λ f. has_form c.args.self.now.left.bits f && is_none (absent_by c.args.self.now.slots f)) forms =
    sym (as_it_is c.find.result) ∙ find_from_yields_List (λ f. has_form c.args.self.now.left.bits f && is_none (absent_by c.args.self.now.slots f)) _ _ c.find.result c.find.ensures.ran (YieldsList-from_copied (YieldsList-from_slice forms cc)) (λ x b q k. search (rules, tests)) in
    some_form c.args.self.now.slots c.args.self.now.left.bits c.requires.sound.0 c.requires.sound.1 c.is_closed.result c.is_closed.ensures c.if-not-is_closed.false c.find.result f

pub message-requires : goal.message-requires
message-requires c =
    let f : c.find.result ≡ find (λ f. has_form c.args.self.now.left.bits f && is_none (absent_by c.args.self.now.slots f)) forms =
    sym (as_it_is c.find.result) ∙ find_from_yields_List (λ f. has_form c.args.self.now.left.bits f && is_none (absent_by c.args.self.now.slots f)) _ _ c.find.result c.find.ensures.ran (YieldsList-from_copied (YieldsList-from_slice forms cc)) (λ x b q k. search (rules, tests)) in
    record {
      present = present c.args.self.now.slots c.args.self.now.left.bits c.requires.sound.0 c.requires.sound.1 c.is_closed.result c.is_closed.ensures c.if-not-is_closed.false c.find.result c.unwrap-form.result f c.unwrap-form.ensures;
      second = second_present c.args.self.now.slots c.args.self.now.left.bits c.requires.sound.0 c.requires.sound.1 c.is_closed.result c.is_closed.ensures c.if-not-is_closed.false c.find.result c.unwrap-form.result f c.unwrap-form.ensures;
    }

pub shut-requires-clause-mac : goal.shut-requires-clause-mac
shut-requires-clause-mac c = some_mac c.args.self.now.slots c.args.self.now.left.bits c.requires.sound.0 c.requires.sound.1 c.is_closed.result c.is_closed.ensures c.if-not-is_closed.false

pub shut-requires-clause-edc : goal.shut-requires-clause-edc
shut-requires-clause-edc c = some_edc c.args.self.now.slots c.args.self.now.left.bits c.requires.sound.0 c.requires.sound.1 c.is_closed.result c.is_closed.ensures c.if-not-is_closed.false

pub returns-in-Ok : goal.returns-in-Ok
returns-in-Ok c =
    let f : c.find.result ≡ find (λ f. has_form c.args.self.now.left.bits f && is_none (absent_by c.args.self.now.slots f)) forms =
    sym (as_it_is c.find.result) ∙ find_from_yields_List (λ f. has_form c.args.self.now.left.bits f && is_none (absent_by c.args.self.now.slots f)) _ _ c.find.result c.find.ensures.ran (YieldsList-from_copied (YieldsList-from_slice forms cc)) (λ x b q k. search (rules, tests)) in
    λ fs k. ended c.args.self.now.slots c.args.self.now.left.bits fs k c.is_closed.result c.is_closed.ensures c.if-not-is_closed.false c.find.result c.unwrap-form.result c.in-Ok.message c.shut.result c.args.place c.args.last f c.unwrap-form.ensures c.in-Ok.ensures c.shut.ensures
