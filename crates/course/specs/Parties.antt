-- The parties of a scenario, as its lines declare them (this project's profile).
use Rattle.std.specs.Prelude.{ℕ, List, Option, Some, None, option_map}
use Rattle.std.specs.List.{filter_map}
use Rattle.scenario.specs.declared.line.Line.{Line}
use Rattle.member.specs.Member.{Member}
use Rattle.course.specs.Starts.{generator_of, first_member, with_loads, loads_of}
use Rattle.course.specs.declared.declaring.NewParty.{NewParty}
use Rattle.scenario.specs.declared.line.Line.TheVariants as line

-- the party of a PARTY line
abbrev pub new_party : Line → Option NewParty
new_party (line.Party name role pair v) = Some (record { own = name; role = role; generator = generator_of pair v })
new_party l = None

-- the line that declares it
abbrev pub line_of_party : NewParty → Line
line_of_party p = line.Party p.own p.role p.generator.key p.generator.v

abbrev pub own_of_new : NewParty → List ℕ
own_of_new p = p.own

abbrev pub party_in : Line → Option (List ℕ)
party_in l = option_map own_of_new (new_party l)

abbrev pub parties_in : List Line → List (List ℕ)
parties_in lines = filter_map party_in lines

-- the party with no link, and with all that the lines load
abbrev pub new_member : NewParty → Member
new_member p = first_member p.own p.role p.generator

abbrev pub full_member : List Line → NewParty → Member
full_member lines p = with_loads (new_member p) (loads_of p.own lines)
