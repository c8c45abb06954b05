-- The state of an audit: parties in memory, and the network and the letters that they show.
use Rattle.std.specs.Prelude.{◌≡◌, ℕ, List, [], ◌∷◌, ◌++◌, Some, None, length, map}
use Rattle.scenario.specs.declared.line.Line.{Line}
use Rattle.member.specs.Member.{Member}
use Rattle.world_laws.specs.World.{World, own_of, member_at}
use Rattle.world_laws.specs.Events.{Event}
use Rattle.world_laws.specs.Honest.{named_text}
use Rattle.world_laws.specs.Steps.{step}
use Rattle.course.specs.Acts.{Means}
use Rattle.course.specs.LineEvents.{LineEvent, MakesEvent, IsFormed}
use Rattle.course.specs.declared.act.LineAct.{LineAct}
use Rattle.course.specs.declared.progress.EventOutcome.{EventOutcome}
use Rattle.audit_check.specs.Audits.{Audit, IsDone, IsNext, IsWrong, AuditLeads, Fails}
use Rattle.scenario.specs.AuditFaults.{fault_place}
use Rattle.audit_check.specs.Compared.{compared}
use Rattle.scenario.specs.declared.audit_fault.AuditFault.{AuditFault}
use Rattle.audit_check.specs.declared.parties.Parties.{Parties}
use Rattle.audit_check.specs.declared.state.AuditState.{AuditState}

-- the parties are these members, in their order, each under its identity
pub record HoldsMembers (p : Parties) (members : List Member) : Type 0 where
  pub named : p.names.keys ≡ map own_of members
  pub holds_each : p.members_held.items ≡ map Some members

abbrev pub HoldsEach : Parties → Type 0
HoldsEach p = (members : List Member) × HoldsMembers p members

-- the first member of this identity has this place
pub record IsPlaced (own : List ℕ) (members : List Member) (place : ℕ) : Type 0 where
  pub front : List Member
  pub member : Member
  pub back : List Member
  pub split : members ≡ front ++ member ∷ back
  pub size : length front ≡ place
  pub none : member_at own front ≡ None
  pub own_is : member.party.own ≡ own

-- one more party is behind the others, whose identity was none of theirs
abbrev pub Adds : Parties → Parties → Member → Type 0
Adds old new x = (members : List Member) → HoldsMembers old members → member_at x.party.own members ≡ None → HoldsMembers new (members ++ x ∷ [])

-- the parties are the members of the network, its texts and facts are kept, and these letters are left
pub record Shows (s : AuditState) (w : World) (letters : List ℕ) : Type 0 where
  pub holds_each : HoldsMembers s.parties w.members
  pub texts : s.texts ≡ w.texts
  pub facts : s.facts ≡ map named_text w.facts
  pub letters_are : s.letters ≡ letters

-- the state shows the audit; its transcript was compared with this one
pub record IsAt (given : List ℕ) (s : AuditState) (a : Audit) : Type 0 where
  pub shows : Shows s a.course.world a.letters
  pub now : s.now ≡ a.course.now
  pub compares : s.comparison ≡ compared a.course.transcript given

-- from each audit that the old state shows, what is to be done is an event to one that the new state shows
pub record IsActed (a : Audit) (h : LineEvent) (new : AuditState) (o : EventOutcome) : Type 0 where
  pub event : Event
  pub left : List ℕ
  pub done : IsDone a h event o left
  pub shows : Shows new (step a.course.now.number a.course.world event) left

abbrev pub Acts : LineAct → AuditState → AuditState → EventOutcome → Type 0
Acts act old new o = (a : Audit) (h : LineEvent) → a.course.now ≡ old.now → Shows old a.course.world a.letters → Means act h → IsActed a h new o

-- or it has this fault, at a line where it happens
abbrev pub ActsWrongly : LineAct → AuditState → AuditFault → Type 0
ActsWrongly act old f = (a : Audit) (h : LineEvent) (l : Line) → a.course.now ≡ old.now → Shows old a.course.world a.letters → Means act h
    → MakesEvent l a.course.world.texts h → IsFormed h → IsWrong l a f × (fault_place f ≡ a.course.now.number)

-- the line leads on
abbrev pub LeadsOn : Line → AuditState → AuditState → Type 0
LeadsOn l old new = (given : List ℕ) (a : Audit) → IsAt given old a → (next : Audit) × IsNext l a next × IsAt given new next

-- or it has this fault
abbrev pub IsWrongIn : Line → AuditState → AuditFault → Type 0
IsWrongIn l old f = (given : List ℕ) (a : Audit) → IsAt given old a → IsWrong l a f × (fault_place f ≡ a.course.now.number)

abbrev pub LeadAll : List Line → AuditState → AuditState → Type 0
LeadAll lines old new = (given : List ℕ) (a : Audit) → IsAt given old a → (end : Audit) × AuditLeads lines a end × IsAt given new end

abbrev pub AreWrong : List Line → AuditState → AuditFault → Type 0
AreWrong lines old f = (given : List ℕ) (a : Audit) → IsAt given old a → Fails lines a f
