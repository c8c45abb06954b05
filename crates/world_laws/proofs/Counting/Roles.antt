-- Each accepted row, at each role, and the member that it makes.
use Rattle.std.proofs.Common.{List}
use Rattle.party_state.specs.Rows.{Row}
use Rattle.world_laws.proofs.Roles.Inputs.{IsInput}
use Rattle.world_laws.proofs.Counting.Sound.{SoundRow, SomeMoves}
use Rattle.world_laws.proofs.Sound.Centres.{centre_command_sound, distribution_sound, translation_sound}
use Rattle.world_laws.proofs.Rows.LeftOut.{LeftOut, left_out_by}
use Rattle.std.proofs.Common.{◌≡◌, ℕ, true, None}
use Rattle.x_base.specs.declared.party.Role.{Role}
use Rattle.x_base.specs.declared.party.Role.TheVariants.{Bank, Distribution, Translation}
use Rattle.csm_read.proofs.Arrived.{arrival_says}
use Rattle.party_state.specs.declared.command.Input.{Input}
use Rattle.party_state.specs.declared.command.Input.TheVariants as input
use Rattle.party_state.specs.State.{Party, apply}
use Rattle.party_state.specs.Verdicts.{is_accept}
use Rattle.role_base.specs.Differing.{differing}
use Rattle.member.specs.Rows.{row_by, row_at}
use Rattle.world_laws.specs.Steps.{received_text}
use Rattle.world_laws.proofs.Links.Found.{HasLinks}
use Rattle.world_laws.proofs.Links.Waiting.{Waits}
use Rattle.world_laws.proofs.Counting.Sound.{IsSound, moves}
use Rattle.world_laws.proofs.Sound.Commands.{command_sound}
use Rattle.world_laws.proofs.Sound.Arrivals.{message_sound}

plain_sound : {p : Party} {text : List ℕ} {r : Row} → IsSound None p text r → SoundRow p text r
plain_sound {p} {text} {r} g = record { new = None; sound = g }

role_sound : (r : Role) (p : Party) (i : Input) (moment : ℕ) → IsInput i → HasLinks p → Waits p → is_accept (row_by r p i moment).verdict ≡ true → SoundRow p (received_text i) (row_by r p i moment)
role_sound Bank p (input.Ordered c) moment e d n h = command_sound p c moment e d n h
role_sound Bank p (input.Arrived a) moment e d n h = message_sound p a a.parsed.message moment d n (arrival_says a) h
role_sound Distribution p (input.Ordered c) moment e d n h = plain_sound (centre_command_sound p c e)
role_sound Distribution p (input.Arrived a) moment e d n h = plain_sound (distribution_sound p a a.parsed.message moment h)
role_sound Translation p (input.Ordered c) moment e d n h = plain_sound (centre_command_sound p c e)
role_sound Translation p (input.Arrived a) moment e d n h = plain_sound (translation_sound p a a.parsed.message h)

-- of the party that the edits give
pub row_is_sound : (p : Party) (i : Input) (moment : ℕ) → IsInput i → HasLinks p → Waits p → is_accept (row_at p i moment).verdict ≡ true → SoundRow p (received_text i) (row_at p i moment)
row_is_sound p i moment e d n h = role_sound p.role p i moment e d n h

pub row_left_out : (p : Party) (i : Input) (moment : ℕ) → HasLinks p → is_accept (row_at p i moment).verdict ≡ true → LeftOut p (row_at p i moment)
row_left_out p i moment d h = left_out_by p.role p i moment d h

-- and of the one that the edits that differ give
pub row_moves : (p : Party) (i : Input) (moment : ℕ) → IsInput i → HasLinks p → Waits p → is_accept (row_at p i moment).verdict ≡ true → SomeMoves p (apply (differing p (row_at p i moment).edits) p) (received_text i) (row_at p i moment)
row_moves p i moment e d n h = let g = row_is_sound p i moment e d n h in record { new = g.new; moves = moves g.new p (apply (differing p (row_at p i moment).edits) p) (received_text i) (row_at p i moment) (row_left_out p i moment d h) g.sound }
