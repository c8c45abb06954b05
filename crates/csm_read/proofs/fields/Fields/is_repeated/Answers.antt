use Rattle.std.proofs.Common.{Bool, sym, ◌∙◌, ap}
use Rattle.std.specs.Prelude.{◌&&◌}
use Rattle.std.proofs.Math.Bool.{and-false}
use Rattle.std.proofs.lemmas.Bool.{and_parts, and_left}
use Rattle.csm_grammar.specs.declared.tag.Tag.TheVariants.{Kd}
use Rattle.csm_grammar.specs.Tags.{same_tag}
use Rattle.csm_read.specs.Slotting.{came}
use Rattle.csm_read.proofs.SlotLemmas.{repeated_second, repeated_other}
use Rattle.csm_read.proofs.fields.Fields.is_repeated.Goals.{else-is_second-via-then-is_second+else-is_ksm, else-is_second-via-else-is_second}
use Rattle.csm_read.proofs.fields.Fields.is_repeated.Goals as goal

pub returns-then-is_ksm : goal.returns-then-is_ksm
returns-then-is_ksm c = λ fs k.
    let second = and_parts (same_tag c.args.tag Kd) (came c.args.self.now.slots Kd) (sym c.is_second.ensures ∙ c.if-is_second.true) in
    repeated_second c.args.self.now.slots c.args.self.now.left.bits fs c.args.tag c.has_second.result k second.0 (sym (c.is_ksm.ensures fs k) ∙ c.if-is_ksm.true) c.has_second.ensures

pub returns-else-is_second : goal.returns-else-is_second
returns-else-is_second c = λ fs k. elim c.else-is_second.branch [
  | else-is_second-via-then-is_second+else-is_ksm w ↦ repeated_other c.args.self.now.slots c.args.self.now.left.bits fs c.args.tag c.has.result k (ap (λ (b : Bool). (same_tag c.args.tag Kd && came c.args.self.now.slots Kd) && b) (sym (w.is_ksm.ensures fs k) ∙ w.if-is_ksm.false) ∙ and-false _) c.has.ensures
  | else-is_second-via-else-is_second w ↦ repeated_other c.args.self.now.slots c.args.self.now.left.bits fs c.args.tag c.has.result k (and_left _ _ (sym c.is_second.ensures ∙ w.if-is_second.false)) c.has.ensures
]
