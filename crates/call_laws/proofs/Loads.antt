-- What a party decides of a load that it accepts, whatever its role.
use Rattle.std.proofs.Common.{◌≡◌, ◌↔◌, ℕ, Bool, true, false, cond, None, List, [], ◌∷◌, refl, bytes_eq}
use Rattle.x_base.specs.declared.party.Role.{Role}
use Rattle.x_base.specs.declared.party.Role.TheVariants.{Bank, Distribution, Translation}
use Rattle.x_base.specs.declared.party.Side.{Side}
use Rattle.x_base.specs.declared.verdict.Verdict.TheVariants.{Accept, WrongClass}
use Rattle.x_mac.specs.declared.pair.Pair.{Pair}
use Rattle.party_state.specs.declared.command.Command.TheVariants as command
use Rattle.party_state.specs.declared.command.Input.{Input}
use Rattle.party_state.specs.declared.command.Input.TheVariants as input
use Rattle.party_state.specs.declared.decision.Decision.{Decision}
use Rattle.party_state.specs.declared.edit.Edit.TheVariants.{PutLink}
use Rattle.party_state.specs.Rows.{Row, refused}
use Rattle.party_state.specs.State.{Party, link_with, centre_label}
use Rattle.role_base.specs.Deciding.{decision_of}
use Rattle.role_base.specs.Differing.{differing}
use Rattle.role_base.specs.Load.{load}
use Rattle.role_base.specs.Loading.{CanLoad}
use Rattle.member.specs.Deciding.{decision}
use Rattle.member.specs.Rows.{row_by}
use Rattle.call_laws.specs.SetUp.{End, link_at}

pub record DecidesLoad (p : Party) (e : End) (d : Decision) : Type 0 where
  pub free : link_with e.key p ≡ None
  pub change : d.change ≡ PutLink (link_at e) ∷ []
  pub reply : d.reply ≡ None

abbrev pub LoadsExactly : Type 0
LoadsExactly = (p : Party) (peer label : List ℕ) (side : Side) (pair : Pair) → ((load p peer label side pair).verdict ≡ Accept) ↔ CanLoad p peer label side pair

abbrev pub loading : End → Input
loading e = input.Ordered (command.Load e.key.peer e.key.label e.key.side e.pair)

module _ (exactly : LoadsExactly) (p : Party) (e : End) (moment : ℕ) where
  abbrev row : Row
  row = load p e.key.peer e.key.label e.key.side e.pair

  load_decides : row.verdict ≡ Accept → DecidesLoad p e (decision_of p row)
  unfolding differing
  load_decides v =
      let c : CanLoad p e.key.peer e.key.label e.key.side e.pair = (exactly p e.key.peer e.key.label e.key.side e.pair).0 v in
      record { free = c.free; change = rw v (rw c.free refl); reply = rw v refl }

  served : (b : Bool) → (cond b row (refused WrongClass)).verdict ≡ Accept → DecidesLoad p e (decision_of p (cond b row (refused WrongClass)))
  served true v = load_decides v
  served false v = absurd (cc (v))

  by_role : (role : Role) → (row_by role p (loading e) moment).verdict ≡ Accept → DecidesLoad p e (decision_of p (row_by role p (loading e) moment))
  by_role Bank v = load_decides v
  by_role Distribution v = served (bytes_eq e.key.label centre_label) v
  by_role Translation v = served (bytes_eq e.key.label centre_label) v

  pub loads_decide : (decision p (loading e) moment).verdict ≡ Accept → DecidesLoad p e (decision p (loading e) moment)
  unfolding decision
  loads_decide v = by_role p.role v
