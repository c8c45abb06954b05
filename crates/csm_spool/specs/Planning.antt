-- What is decided of an entry of a batch, from what the party will do with it: this project's profile.
use Rattle.std.specs.Prelude.{ℕ, List, [], ◌∷◌, unwrap_or}
use Rattle.x_base.specs.Verdict.{number_of}
use Rattle.csm_feed.specs.declared.unheard.Unheard.{Unheard}
use Rattle.csm_feed.specs.Numbers.{unheard_number}
use Rattle.party_state.specs.declared.edit.Edit.{Edit}
use Rattle.change_code.specs.declared.format.Format.TheVariants.{Two}
use Rattle.change_code.specs.Code.{code_of_change}
use Rattle.member.specs.Member.{Plan}
use Rattle.spool_store.specs.declared.entry_plan.EntryPlan.{EntryPlan}

-- the code of a change, or nothing where nothing changes
abbrev pub code_or_nothing : List Edit → List ℕ
code_or_nothing [] = []
code_or_nothing (e ∷ es) = code_of_change Two (e ∷ es)

-- the plan of what a party will do
abbrev pub entry_plan : Plan → EntryPlan
entry_plan plan = record { number = number_of plan.verdict; reply = unwrap_or plan.reply []; change = code_or_nothing plan.edits }

-- the plan of an entry that is refused as no message
abbrev pub plan_of_unheard : Unheard → EntryPlan
plan_of_unheard u = record { number = unheard_number u; reply = []; change = [] }
