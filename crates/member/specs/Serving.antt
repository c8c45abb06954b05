-- Which classes of messages a party serves, by its role (ANSI X9.17), and which commands (this project's profile).
use Rattle.x_base.specs.declared.party.Role.{Role}
use Rattle.x_base.specs.declared.party.Role.TheVariants.{Bank, Distribution, Translation}
use Rattle.csm_grammar.specs.declared.message.Message.{Message}
use Rattle.csm_grammar.specs.declared.message.Message.TheVariants as message
use Rattle.party_state.specs.declared.command.Input.{Input}
use Rattle.party_state.specs.declared.command.Input.TheVariants as input
use Rattle.distribution_role.specs.Serves as distribution
use Rattle.translation_role.specs.Serves as translation

-- no request that only a centre answers
abbrev pub IsForBank : Message → Type 0
IsForBank (message.Rfs m) = ⊥
IsForBank (message.Ers m) = ⊥
IsForBank _ = Unit {0}

-- a bank serves every command
abbrev pub BankServes : Input → Type 0
BankServes (input.Ordered c) = Unit {0}
BankServes (input.Arrived a) = IsForBank a.parsed.message

abbrev pub Serves : Role → Input → Type 0
Serves Bank i = BankServes i
Serves Distribution i = distribution.IsServed i
Serves Translation i = translation.IsServed i
