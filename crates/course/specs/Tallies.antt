-- The outcomes of a scenario, and the key records of its parties at its end (this project's profile).
use Rattle.std.specs.Prelude.{◌≡◌, ◌+◌, ◌++◌, ℕ, Bool, true, false, List, [], ◌∷◌, cond}
use Rattle.std.specs.List.{sum_by}
use Rattle.party_tables.specs.declared.key.KeyRec.{KeyRec}
use Rattle.party_tables.specs.declared.key.KeyStatus.{KeyStatus}
use Rattle.party_tables.specs.declared.key.KeyStatus.TheVariants.{Pending, Live, Held, Closing, Ended}
use Rattle.member.specs.Member.{Member}
use Rattle.course.specs.declared.progress.Progress.{Progress}
use Rattle.course.specs.declared.tally.Tally.{Tally}

-- the key records of all members
abbrev pub records_of : List Member → List KeyRec
records_of [] = []
records_of (x ∷ members) = x.party.keys ++ records_of members

abbrev pub is_status : KeyStatus → KeyStatus → Bool
is_status Pending Pending = true
is_status Live Live = true
is_status Held Held = true
is_status Closing Closing = true
is_status Ended Ended = true
is_status a b = false

abbrev pub one_with : KeyStatus → KeyRec → ℕ
one_with status k = cond (is_status status k.status) 1 0

-- how many of the records have this status
abbrev pub count_status : KeyStatus → List KeyRec → ℕ
count_status status records = sum_by (one_with status) records

-- the events so far, their outcomes and texts, and the key records of these members
pub record IsTallied (now : Progress) (members : List Member) (t : Tally) : Type 0 where
  pub events : now.number ≡ t.events + 1
  pub done : t.done ≡ now.counts.done
  pub refused : t.refused ≡ now.counts.refused
  pub stopped : t.stopped ≡ now.counts.stopped
  pub none : t.none ≡ now.counts.none
  pub texts : t.texts ≡ now.counts.texts
  pub live : t.live ≡ count_status Live (records_of members)
  pub held : t.held ≡ count_status Held (records_of members)
  pub closing : t.closing ≡ count_status Closing (records_of members)
  pub ended : t.ended ≡ count_status Ended (records_of members)
