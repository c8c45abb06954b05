-- What moving bytes from a source and to a sink does to them, where they are told (this project's profile).
use Rattle.std.specs.Prelude.{◌≡◌, ◌≤◌, ◌++◌, ℕ, List, [], length, take, Option, Some, None, IfSome}
use Rattle.x_base.specs.Edge.{Rose}
use Rattle.call_ends.specs.declared.status.Status.{Status}
use Rattle.call_ends.specs.declared.status.Status.TheVariants.{ReadFault, WriteFault}

-- the text was taken from the front of what was left
abbrev pub Took : Option (List ℕ) → Option (List ℕ) → List ℕ → Type 0
Took None after text = Unit {0}
Took (Some all) None text = ⊥
Took (Some all) (Some rest) text = all ≡ text ++ rest

-- some text of at most so many bytes was taken
abbrev pub TookAtMost : ℕ → Option (List ℕ) → Option (List ℕ) → Type 0
TookAtMost limit before after = (text : List ℕ) × (length text ≤ limit) × Took before after text

-- nothing is left
abbrev pub IsAtEnd : Option (List ℕ) → Option (List ℕ) → Type 0
IsAtEnd before after = IfSome before (λ _. after ≡ Some [])

-- the text is the front of what was left, up to the limit
abbrev pub IsFront : ℕ → Option (List ℕ) → List ℕ → Type 0
IsFront limit before text = IfSome before (λ all. text ≡ take limit all)

-- no count of faults rose
abbrev pub IsQuiet : ℕ → ℕ → Type 0
IsQuiet before after = Rose before after → ⊥

-- what a call takes of a source: at most so many bytes, from the front; and it answers that the source failed only where its
-- count of faults rose
pub record TakesInput (limit : ℕ) (s : Status) (left rest : Option (List ℕ)) (read reads : ℕ) : Type 0 where
  pub most : TookAtMost limit left rest
  pub fault : s ≡ ReadFault → Rose read reads

-- what a call gives to a sink: with these statuses nothing; and it answers that the sink failed only where its count of faults
-- rose
pub record GivesOutput (s : Status) (is_silent unwritten : Type 0) (put puts : ℕ) : Type 0 where
  pub silent : is_silent → unwritten
  pub fault : s ≡ WriteFault → Rose put puts
