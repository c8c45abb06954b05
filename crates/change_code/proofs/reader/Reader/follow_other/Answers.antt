use Rattle.std.proofs.Common.{rules}
use Rattle.change_code.proofs.Steps.{followed_edit}
use Rattle.change_code.proofs.reader.Reader.follow_other.Goals as goal

pub returns-in_ok-edit-in-Some : goal.returns-in_ok-edit-in-Some
returns-in_ok-edit-in-Some c = followed_edit c.is_within.result c.in-Some.edit _ _ _ _ c.in-Some.ensures (search rules) c.in_ok-edit-in-Some.ensures.done c.is_within.ensures
