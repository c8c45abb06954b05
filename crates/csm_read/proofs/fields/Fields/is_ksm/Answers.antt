use Rattle.std.proofs.Common.{ℕ, List, sym, ◌∙◌, ap}
use Rattle.std.specs.Prelude.{bytes_eq}
use Rattle.csm_read.proofs.SlotLemmas.{class_named, no_class}
use Rattle.csm_read.proofs.fields.Fields.is_ksm.Goals as goal

pub returns-in-Some : goal.returns-in-Some
returns-in-Some c = λ fs k. c.eq.ensures ∙ ap (λ (x : List ℕ). bytes_eq c.in-Some.class.now x) c.as_slice.ensures ∙ sym (class_named c.args.self.now.slots c.args.self.now.left.bits fs c.in-Some.class.now k (sym c.in-Some.ensures))

pub returns-in-None : goal.returns-in-None
returns-in-None c = λ fs k. sym (no_class c.args.self.now.slots c.args.self.now.left.bits fs k (sym c.in-None.ensures))
