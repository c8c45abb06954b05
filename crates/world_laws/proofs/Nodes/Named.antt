-- A fact stands where it stands in the list without the makers.
use Rattle.std.proofs.Common.{◌≡◌, ℕ, Bool, ◌||◌, List, [], ◌∷◌, map, refl, ap}
use Rattle.x_base.specs.declared.key_name.FullName.{FullName}
use Rattle.world_laws.specs.World.{Fact}
use Rattle.fact_book.specs.Facts.{has_named}
use Rattle.world_laws.specs.Honest.{is_fact, named_text, has_fact}

pub named_facts : (facts : List Fact) (under : FullName) (text : List ℕ) → has_named (map named_text facts) under text ≡ has_fact facts under text
named_facts [] under text = refl
named_facts (f ∷ fs) under text = ap (λ (b : Bool). is_fact under text f || b) (named_facts fs under text)
