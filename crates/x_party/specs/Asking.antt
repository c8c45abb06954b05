-- A question to the party of a disk, which changes nothing: the check value of a link (this project's profile). `old` and `new` are
-- what the shelf tells of the party's disk before and after.
use Rattle.std.specs.Prelude.{◌≡◌, ◌⊎◌, ℕ, Bool, true, false, List, Option, Some, None}
use Rattle.x_base.specs.declared.verdict.Verdict.TheVariants.{UnknownKk, UnknownPeer}
use Rattle.pair_check.specs.Values.{check_value_of}
use Rattle.x_disk.specs.Disk.{View}
use Rattle.party_tables.specs.declared.link.LinkKey.{LinkKey}
use Rattle.party_tables.specs.declared.link.LinkRec.{LinkRec}
use Rattle.party_state.specs.State.{Party, knows, link_with}
use Rattle.change_code.specs.declared.space.Space.{Space}
use Rattle.key_store.specs.Store.{Stands, IsFirstDamage}
use Rattle.x_party.specs.Images.{DiskStandsFor, OfParty}
use Rattle.x_party.specs.Dues.{FindsNobody}
use Rattle.x_party.specs.Steps.{HasNoParty}
use Rattle.x_party.specs.declared.outcome.Outcome.{Outcome}
use Rattle.x_party.specs.declared.outcome.Outcome.TheVariants as outcome

-- the answer, where a link was looked for, and the peer is one that the party knows or isn't
abbrev pub value_found : Option LinkRec → Bool → Outcome
value_found (Some l) known = outcome.Done (Some (check_value_of l.pair))
value_found None true = outcome.Refused UnknownKk None
value_found None false = outcome.Refused UnknownPeer None

-- the check value of the party's link with this key; it is refused as a start under a key that isn't there
abbrev pub value_answer : LinkKey → Party → Outcome
value_answer k p = value_found (link_with k p) (knows k.peer p)

-- the party answered so, and stays
pub record IsAnswered (new : View) (answer : Party → Outcome) (party : Party) (space : Space) (o : Outcome) : Type 0 where
  pub said : o ≡ answer party
  pub stands : DiskStandsFor new party space

-- what became of a question: the party answered, or none was opened
abbrev pub AsksParty : (Party → Outcome) → View → View → Outcome → Type 0
AsksParty answer old new o = OfParty old (λ party space. IsAnswered new answer party space o) ⊎ HasNoParty old new o

-- the outcome where no party stands on the disk
abbrev pub IsDueNobody : List ℕ → Outcome → Type 0
IsDueNobody image (outcome.Done reply) = ⊥
IsDueNobody image (outcome.Refused verdict reply) = FindsNobody image verdict reply
IsDueNobody image (outcome.OtherParty asked found) = ⊥
IsDueNobody image (outcome.Damaged place) = IsFirstDamage image place
IsDueNobody image outcome.Fault = ⊥
IsDueNobody image outcome.NoMemory = ⊥

-- the outcome that is due of a question, by the image of the party's disk
abbrev pub IsDueAnswer : (Party → Outcome) → List ℕ → Outcome → Type 0
IsDueAnswer answer image o = ((party : Party) × Stands image party × (o ≡ answer party)) ⊎ IsDueNobody image o
