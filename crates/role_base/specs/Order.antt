-- The one order of the tests (this project's profile): a row makes its tests in the order of the places below.
use Rattle.std.specs.Prelude.{ℕ, ◌≡◌, Bool, true, ◌&&◌, nat_le, List, [], ◌∷◌}
use Rattle.x_base.specs.declared.verdict.Verdict.{Verdict}
use Rattle.x_base.specs.declared.verdict.Verdict.TheVariants as verdict
use Rattle.party_state.specs.Verdicts.{Test}

-- the place of a test in the order, from 1, by the verdict where it fails; 0 where no test of a row tells it
abbrev pub place : Verdict → ℕ
place verdict.NotForMe = 1
place verdict.UnknownPeer = 2
place verdict.WrongClass = 3
place verdict.NoExchange = 4
place verdict.Outstanding = 5
place verdict.UnknownKk = 6
place verdict.UnknownKey = 7
place verdict.BadMac = 8
place verdict.BadEdc = 9
place (verdict.CountLow expected) = 10
place verdict.CountSpent = 11
place verdict.LabelTaken = 12
place verdict.SameKey = 13
place verdict.Alias = 14
place verdict.LinksFull = 15
place verdict.KeysFull = 16
place verdict.WeakDraws = 17
place verdict.Accept = 0
place verdict.JournalFull = 0
place verdict.NotEmpty = 0
place verdict.Blank = 0

-- each test has a place, which is not before that of the one before it
abbrev pub goes_on_from : ℕ → List Test → Bool
goes_on_from n [] = true
goes_on_from n (t ∷ ts) = nat_le n (place t.1) && goes_on_from (place t.1) ts

-- the tests are made in the order
abbrev pub InOrder : List Test → Type 0
InOrder ts = goes_on_from 1 ts ≡ true
