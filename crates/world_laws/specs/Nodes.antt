-- What a member does, as an event of each network of which it is a member (this project's profile).
use Rattle.std.specs.Prelude.{◌≡◌, ℕ, Bool, true, false, Option, Some, None, List, ◌++◌, map, bytes_eq, option_to_list}
use Rattle.party_tables.specs.Tables.{put_row}
use Rattle.party_state.specs.declared.command.Input.{Input}
use Rattle.change_code.specs.Cost.{is_change}
use Rattle.member.specs.Member.{Member}
use Rattle.member.specs.Acts.{Work, Keeps, WritesWhole, ClearsRest, Act, member_after}
use Rattle.fact_book.specs.Facts.{NamedText}
use Rattle.world_laws.specs.World.{World, own_of, member_at}
use Rattle.world_laws.specs.Events.{Completion, Whole, CutOld, CutNew}
use Rattle.world_laws.specs.Steps.{world_after_input}
use Rattle.world_laws.specs.Honest.{named_text}
use Rattle.world_laws.specs.Noted.{noted}

-- the network after an event at a member, which is this one then: this text is written, and these facts stand beside the
-- others
pub record IsAfter (w later : World) (y : Member) (reply : Option (List ℕ)) (facts : List NamedText) : Type 0 where
  pub members : later.members ≡ put_row own_of bytes_eq y w.members
  pub texts : later.texts ≡ w.texts ++ option_to_list reply
  pub facts_are : map named_text later.facts ≡ map named_text w.facts ++ facts

-- where this is done, a member is another afterwards
abbrev pub changes : Work → Bool
changes (Keeps es) = is_change es
changes (WritesWhole f) = true
changes ClearsRest = false

-- what a member does is this event, in each network: whole, the member is the one after it, and the reply is written, with
-- the fact of its code; cut off with the old state, nothing happens; and with the new one the same as whole but for the text,
-- where something changes, and nothing elsewhere
pub record IsEventOf (x : Member) (act : Act) (event : ℕ → World → Completion → World) : Type 0 where
  pub own : (member_after x act.work).party.own ≡ x.party.own
  pub whole : (n : ℕ) (w : World) → member_at x.party.own w.members ≡ Some x → IsAfter w (event n w Whole) (member_after x act.work) act.reply (noted act.under act.reply)
  pub old : (n : ℕ) (w : World) → event n w CutOld ≡ w
  pub new : (n : ℕ) (w : World) → member_at x.party.own w.members ≡ Some x → changes act.work ≡ true → IsAfter w (event n w CutNew) (member_after x act.work) None (noted act.under act.reply)
  pub none : (n : ℕ) (w : World) → changes act.work ≡ false → event n w CutNew ≡ w

-- the event of an input at a member
abbrev pub input_event : Member → Input → ℕ → ℕ → World → Completion → World
input_event x i moment n w completion = world_after_input n w x i moment completion
