-- The numbers of what isn't heard (this project's profile).
use Rattle.std.specs.Prelude.{ℕ}
use Rattle.csm_grammar.specs.Places.{read_number}
use Rattle.csm_feed.specs.declared.unheard.Unheard.{Unheard}
use Rattle.csm_feed.specs.declared.unheard.Unheard.TheVariants.{Text, Trailing}

-- the number of why nothing is heard: of a refusal to read, or of what stands behind a message
abbrev pub unheard_number : Unheard → ℕ
unheard_number (Text refusal) = read_number refusal
unheard_number (Trailing place) = 38
