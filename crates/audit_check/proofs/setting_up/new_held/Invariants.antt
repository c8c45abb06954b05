use Rattle.std.proofs.Common.{◌≡◌, take}
use Rattle.course.specs.Parties.{new_member}
use Rattle.course.specs.Starts.{loads_of, with_loads}
use Rattle.audit_check.proofs.setting_up.new_held.Given as goal

abbrev pub invariant-loading : goal.invariant-loading
invariant-loading l = record {
  loaded : record { party = l.state; space = l.space } ≡ with_loads (new_member l.party) (loads_of l.party.own (take l.line-index l.lines));
}
