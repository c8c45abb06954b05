-- The count and the new label of a key service message that is read are well formed.
use Rattle.std.proofs.Common.{◌≡◌, ℕ, Option, Some, List, ap, ◌∙◌}
use Rattle.x_base.specs.Names.{IsLabel}
use Rattle.x_base.specs.Count.{IsCount}
use Rattle.csm_grammar.specs.declared.message.Ksm.{Ksm}
use Rattle.csm_grammar.specs.declared.message.KsmBody.{KsmBody}
use Rattle.csm_grammar.specs.declared.message.KsmBody.TheVariants as body
use Rattle.csm_grammar.specs.declared.message.Message.TheVariants as message
use Rattle.csm_grammar.specs.declared.message.NewKk.{NewKk}
use Rattle.csm_grammar.specs.Spelling.{Says}
use Rattle.csm_grammar.proofs.Parts.{direct_count, centre_count, twin_count, new_label}
use Rattle.bank_keys.specs.Ksm.{body_count, body_new}

pub body_counts : (text : List ℕ) (m : Ksm) (b : KsmBody) → m.body ≡ b → Says text (message.Ksm m) → IsCount (body_count b)
body_counts text m (body.Direct idk2 new kd ctp) e s = direct_count text m idk2 new kd ctp e s
body_counts text m (body.Centre centre kdu ctb) e s = centre_count text m centre kdu ctb e s
body_counts text m (body.Twin idk2 first second ctp) e s = twin_count text m idk2 first second ctp e s

pub body_label : (text : List ℕ) (m : Ksm) (b : KsmBody) (n : List ℕ × NewKk) → m.body ≡ b → body_new b ≡ Some n → Says text (message.Ksm m) → IsLabel n.0
body_label text m (body.Direct idk2 new kd ctp) n e f s = new_label text m idk2 n kd ctp (e ∙ ap (λ (o : Option (List ℕ × NewKk)). body.Direct idk2 o kd ctp) f) s
body_label text m (body.Centre centre kdu ctb) n e f s = absurd (cc)
body_label text m (body.Twin idk2 first second ctp) n e f s = absurd (cc)
