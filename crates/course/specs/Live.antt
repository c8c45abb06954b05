-- A scenario at the end of whose course a key is live (this project's profile).
use Rattle.std.specs.Prelude.{◌≡◌, ◌++◌, ℕ, Bool, List, [], ◌∷◌, None, codes}
use Rattle.x_base.specs.declared.party.Role.TheVariants.{Bank}
use Rattle.x_mac.specs.declared.pair.Pair.{Pair}
use Rattle.scenario.specs.declared.line.Line.{Line}
use Rattle.scenario.specs.declared.line.Line.TheVariants as line
use Rattle.world_laws.specs.Reached.{HasLiveKey}
use Rattle.world_laws.specs.Exchanged.{sender_name, receiver_name, kk_label}
use Rattle.course.specs.Course.{Course, LinesLead}
use Rattle.course.specs.Ends.{Ran}
use Rattle.course.specs.Starts.{start_course}

-- two banks share a key-encrypting key; the first starts a data key, its text arrives at the second, and the second's answer at
-- the first. The first one's generator is under a weak key, with the seed 0
abbrev pub live_text : List ℕ
live_text =
    codes "PARTY BANKA BANK 01010101010101010101010101010101 0000000000000000\n"
    ++ (codes "PARTY BANKB BANK 0123456789ABCDEFFEDCBA9876543210 0000000000000001\n"
    ++ (codes "LINK BANKA BANKB K1 0123456789ABCDEFFEDCBA9876543210\n"
    ++ (codes "TIME 81985529216486895\n"
    ++ (codes "START BANKA BANKB\n"
    ++ (codes "PASS 1 BANKB\n"
    ++ codes "PASS 2 BANKA\n")))))

abbrev pub weak_pair : Pair
weak_pair = record { left = 0x0101010101010101; right = 0x0101010101010101 }

abbrev pub other_pair : Pair
other_pair = record { left = 0x0123456789ABCDEF; right = 0xFEDCBA9876543210 }

abbrev pub live_moment : ℕ
live_moment = 0x0123456789ABCDEF

-- what its lines are
abbrev pub live_lines : List Line
live_lines =
    line.Party sender_name Bank weak_pair 0
    ∷ line.Party receiver_name Bank other_pair 1
    ∷ line.Link sender_name receiver_name kk_label other_pair
    ∷ line.Time live_moment
    ∷ line.Start sender_name receiver_name None
    ∷ line.Pass 1 receiver_name
    ∷ line.Pass 2 sender_name
    ∷ []

-- lines lead from their start to one course and to no other, whatever the disks tell and however often they fail; it is an honest
-- run, and at its end a key is live at its originator, and held by its partner
pub record LeadsToLiveKey (lines : List Line) : Type 0 where
  pub end : Course
  pub leads : (tell : Bool) (before after : ℕ) → LinesLead tell before after lines (start_course lines) end
  pub alone : (tell : Bool) (before after : ℕ) (other : Course) → LinesLead tell before after lines (start_course lines) other → other ≡ end
  pub ran : Ran (start_course lines) end
  pub live : HasLiveKey end.world
