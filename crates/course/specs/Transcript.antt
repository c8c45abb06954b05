-- The lines of a transcript (this project's profile).
use Rattle.std.specs.Prelude.{ℕ, ◌+◌, List, [], ◌∷◌, ◌++◌, length, Option, Some, None, slice_get, codes}
use Rattle.std.specs.Fmt.{decimal}
use Rattle.party_show.specs.Show.{shown}
use Rattle.member.specs.Member.{Member}
use Rattle.course.specs.declared.progress.EventOutcome.{EventOutcome}
use Rattle.course.specs.declared.progress.EventOutcome.TheVariants as outcome

-- the line of event e: what became of it
abbrev pub outcome_line : ℕ → EventOutcome → List ℕ
outcome_line e outcome.Done = codes "E" ++ (decimal e ++ codes " DONE\n")
outcome_line e (outcome.Refused number) = codes "E" ++ (decimal e ++ (codes " REFUSED " ++ (decimal number ++ codes "\n")))
outcome_line e outcome.Stopped = codes "E" ++ (decimal e ++ codes " STOPPED\n")
outcome_line e outcome.Nothing = codes "E" ++ (decimal e ++ codes " NONE\n")

-- the line of the text of number k, if one was written
abbrev pub text_line : ℕ → Option (List ℕ) → List ℕ
text_line k None = []
text_line k (Some text) = codes "T" ++ (decimal k ++ (codes " " ++ (text ++ codes "\n")))

-- the text that an event wrote: the one behind those that were written before, if there is one
abbrev pub written_between : List (List ℕ) → List (List ℕ) → Option (List ℕ)
written_between before after = slice_get after (length before)

-- the lines of event e, with the texts before and after it
abbrev pub event_lines : ℕ → EventOutcome → List (List ℕ) → List (List ℕ) → List ℕ
event_lines e o before after = outcome_line e o ++ text_line (length before + 1) (written_between before after)

-- the show lines of each party in their order
abbrev pub show_lines : List Member → List ℕ
show_lines [] = []
show_lines (x ∷ members) = shown x.party ++ show_lines members
