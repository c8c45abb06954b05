-- Agreement: each accepted row, and the answers to refused ones, at the party's role.
use Rattle.std.proofs.Common.{◌≡◌, ℕ, true, Option, Some, List}
use Rattle.party_state.specs.declared.command.Input.{Input}
use Rattle.party_state.specs.declared.command.Input.TheVariants as input
use Rattle.party_tables.specs.declared.link.LinkKey.{LinkKey}
use Rattle.party_state.specs.State.{Party}
use Rattle.party_state.specs.Verdicts.{is_accept}
use Rattle.member.specs.Member.{Member}
use Rattle.world_laws.specs.World.{World, member_at}
use Rattle.member.specs.Rows.{row_at}
use Rattle.world_laws.specs.Steps.{received_text}
use Rattle.world_laws.proofs.Roles.Inputs.{IsInput, HonestInput}
use Rattle.world_laws.proofs.Texts.Names.{IsNamed}
use Rattle.world_laws.proofs.Links.Found.{HasLinks}
use Rattle.world_laws.proofs.Counting.Counts.{CountedAt}
use Rattle.world_laws.proofs.Counting.Sound.{IsSound}
use Rattle.world_laws.proofs.Agreeing.Lists.{lists_of}
use Rattle.world_laws.proofs.Agreeing.Moves.{Agreeing}
use Rattle.world_laws.proofs.Agreeing.Agreed.{Agreed}
use Rattle.world_laws.proofs.Speaking.Wellformed.{Speaks, TellsEsm}
use Rattle.world_laws.proofs.Speaking.Centres.{role_speaks}
use Rattle.world_laws.proofs.Agreeing.Rows.{HonestFor, role_agrees}
use Rattle.world_laws.proofs.Speaking.Answers.{role_tells}
use Rattle.change_code.specs.declared.space.Space.{Space}

module _ (n : ℕ) (w : World) (p : List ℕ) (x : Member) (space : Space) (at : member_at p w.members ≡ Some x) (c : CountedAt n w) (i : Agreed (lists_of w)) where
  honest_for : (j : Input) → HonestInput w.facts x.party j → HonestFor n w p x space at c i x.party.role j
  honest_for (input.Ordered k) h = tt
  honest_for (input.Arrived a) h = h

  pub row_agrees : (o : Option LinkKey) (j : Input) (moment : ℕ) → IsInput j → HonestInput w.facts x.party j → is_accept (row_at x.party j moment).verdict ≡ true → IsSound o x.party (received_text j) (row_at x.party j moment) → Agreeing (lists_of w) x space (received_text j) (row_at x.party j moment)
  row_agrees o j moment e honest h sound = role_agrees n w p x space at c i o x.party.role j moment e (honest_for j honest) h sound

module _ (p : Party) (i : IsNamed p) where
  pub row_speaks : (j : Input) (moment : ℕ) → IsInput j → HasLinks p → is_accept (row_at p j moment).verdict ≡ true → Speaks (row_at p j moment)
  row_speaks j moment e d h = role_speaks p i p.role j moment e d h

  pub row_tells : (j : Input) (moment : ℕ) → IsInput j → HasLinks p → TellsEsm (row_at p j moment).answer
  row_tells j moment e d = role_tells p i p.role j moment e d
