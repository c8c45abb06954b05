-- What is decided of an entry of a batch, and the bytes in which a spool keeps it: this project's profile.
use Rattle.std.specs.Prelude.{◌≡◌, ◌⊎◌, ℕ, ◌≤◌, ◌==◌, ◌&&◌, ◌||◌, nat_le, Bool, true, List, [], ◌∷◌, ◌++◌, length}
use Rattle.party_state.specs.declared.edit.Edit.{Edit}
use Rattle.party_state.specs.Ranges.{HasNoBegin}
use Rattle.change_code.specs.declared.format.Format.TheVariants.{Two}
use Rattle.change_code.specs.Code.{two, IsCode}
use Rattle.spool_store.specs.declared.entry_plan.EntryPlan.{EntryPlan}

-- the numbers of verdicts, and of the refusals to hear a message
abbrev pub is_number : ℕ → Bool
is_number n = (n == 0) || ((nat_le 4 n && nat_le n 15) || ((nat_le 18 n && nat_le n 34) || (nat_le 37 n && nat_le n 38)))

-- nothing, or the code in format 2 of a change that begins no party
abbrev pub IsChange : List ℕ → Type 0
IsChange code = (code ≡ []) ⊎ ((edits : List Edit) × IsCode Two code edits × HasNoBegin edits)

-- a plan's bytes: P, the number and the reply's length in two bytes each, the reply, and the code of the change
abbrev pub plan_body : EntryPlan → List ℕ
plan_body p = 80 ∷ (two p.number ++ (two (length p.reply) ++ (p.reply ++ p.change)))

-- how many bytes a plan has at most
abbrev pub longest_plan : ℕ
longest_plan = 3000

-- a plan, as a spool may hold it
pub record IsEntryPlan (p : EntryPlan) : Type 0 where
  pub number : is_number p.number ≡ true
  pub change : IsChange p.change
  pub short : length (plan_body p) ≤ longest_plan

-- the bytes are this plan's
pub record IsPlanBody (body : List ℕ) (p : EntryPlan) : Type 0 where
  pub plan : IsEntryPlan p
  pub is : body ≡ plan_body p

-- the bytes have the parts of a plan, whatever they are
abbrev pub IsSplit : List ℕ → ℕ → List ℕ → List ℕ → Type 0
IsSplit body number reply change = body ≡ 80 ∷ (two number ++ (two (length reply) ++ (reply ++ change)))
