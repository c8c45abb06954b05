use Rattle.std.proofs.Common.{◌≡◌, ℕ, Bool, true, false, List, Option, Some, refl, sym, ap, subst, ◌∙◌}
use Rattle.std.specs.Prelude.{◌&&◌, not, if◌then◌else◌}
use Rattle.std.specs.Borrow.{Bor}
use Rattle.csm_grammar.specs.declared.tag.Tag.{Tag}
use Rattle.csm_grammar.specs.declared.tag.Tag.TheVariants.{Kd}
use Rattle.csm_grammar.specs.Tags.{same_tag}
use Rattle.csm_read.specs.Slotting.{slot_in, second_in, came, Puts}
use Rattle.csm_read.proofs.fields.Fields.put.Goals.{then-is_second, else-is_second}
use Rattle.csm_read.proofs.fields.Fields.put.Goals as goal

second_behind : (b x : Bool) (o : Option (List ℕ)) (a : List ℕ) → x ≡ true → o ≡ (if b && not x then Some a else o)
second_behind true true o a h = refl
second_behind false true o a h = refl
second_behind b false o a h = cc

first_behind : (b x : Bool) (o : Option (List ℕ)) (a : List ℕ) → x ≡ false → (if b then Some a else o) ≡ (if b && not x then Some a else o)
first_behind true false o a h = refl
first_behind false false o a h = refl
first_behind b true o a h = cc

puts_second : (slots more : List (Option (Bor (List ℕ)))) (tag : Tag) (contents : List ℕ) → (same_tag tag Kd && came slots Kd) ≡ true → ((t : Tag) → slot_in more t ≡ slot_in slots t) → second_in more ≡ Some contents → Puts slots more tag contents
puts_second slots more tag contents is same second = record {
  behind = λ t. same t ∙ second_behind (same_tag tag t) (same_tag tag Kd && came slots Kd) (slot_in slots t) contents is;
  second = second ∙ ap (λ (b : Bool). if b then Some contents else second_in slots) (sym is);
}

puts_first : (slots more : List (Option (Bor (List ℕ)))) (tag : Tag) (contents : List ℕ) → (same_tag tag Kd && came slots Kd) ≡ false → ((t : Tag) → slot_in more t ≡ (if same_tag tag t then Some contents else slot_in slots t)) → second_in more ≡ second_in slots → Puts slots more tag contents
puts_first slots more tag contents is put second = record {
  behind = λ t. put t ∙ first_behind (same_tag tag t) (same_tag tag Kd && came slots Kd) (slot_in slots t) contents is;
  second = second ∙ ap (λ (b : Bool). if b then Some contents else second_in slots) (sym is);
}

pub returns-clause-contents : goal.returns-clause-contents
returns-clause-contents c = elim c.if-is_second.branch [
  | then-is_second w ↦ subst (λ f. Puts c.args.self.now.slots f.slots c.args.tag c.args.contents.now) (sym w.self-is) (puts_second c.args.self.now.slots w.put_second.new.self.slots c.args.tag c.args.contents.now (sym c.is_second.ensures ∙ w.if-is_second.true) w.put_second.ensures.contents w.put_second.ensures.second)
  | else-is_second w ↦ subst (λ f. Puts c.args.self.now.slots f.slots c.args.tag c.args.contents.now) (sym w.self-is) (puts_first c.args.self.now.slots w.put_first.new.self.slots c.args.tag c.args.contents.now (sym c.is_second.ensures ∙ w.if-is_second.false) w.put_first.ensures.contents w.put_first.ensures.second)
]

pub returns-clause-forms : goal.returns-clause-forms
returns-clause-forms c = c.left_behind-left.ensures
