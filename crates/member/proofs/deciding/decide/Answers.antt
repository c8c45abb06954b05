use Rattle.std.proofs.Common.{Ok, sym, ap, ◌∙◌}
use Rattle.x_base.specs.declared.party.Role.TheVariants.{Bank, Distribution, Translation}
use Rattle.party_state.specs.declared.command.Input.{Input}
use Rattle.member.specs.Rows.{row_by}
use Rattle.member.proofs.Taking.{bank_row, decided_by, decided_at_bank}
use Rattle.member.proofs.deciding.decide.Goals as goal

pub returns-in-Distribution : goal.returns-in-Distribution
returns-in-Distribution c = decided_by c.law_taking.ensures c.law_passing.ensures c.args.state.now c.args.input.now c.args.moment (c.law_ranged.ensures c.args.state.now c.args.input.now c.args.moment c.law_party.ensures c.law_input.ensures) Distribution c.decide.result (sym c.role.ensures ∙ c.in-Distribution.is) c.decide.ensures

pub returns-in-Translation : goal.returns-in-Translation
returns-in-Translation c = decided_by c.law_taking.ensures c.law_passing.ensures c.args.state.now c.args.input.now c.args.moment (c.law_ranged.ensures c.args.state.now c.args.input.now c.args.moment c.law_party.ensures c.law_input.ensures) Translation c.decide-in-Translation.result (sym c.role.ensures ∙ c.in-Translation.is) c.decide-in-Translation.ensures

pub returns-in-Ordered : goal.returns-in-Ordered
returns-in-Ordered c = decided_at_bank c.law_taking.ensures c.law_passing.ensures c.args.state.now c.args.input.now c.args.moment (c.law_ranged.ensures c.args.state.now c.args.input.now c.args.moment c.law_party.ensures c.law_input.ensures) c.command.result _ (sym c.role.ensures ∙ c.in-Bank.is) (ap (λ (x : Input). row_by Bank c.args.state.now x c.args.moment) c.in-Ordered.is) c.command.ensures

pub returns-in-Rsi : goal.returns-in-Rsi
returns-in-Rsi c = decided_at_bank c.law_taking.ensures c.law_passing.ensures c.args.state.now c.args.input.now c.args.moment (c.law_ranged.ensures c.args.state.now c.args.input.now c.args.moment c.law_party.ensures c.law_input.ensures) c.rsi.result _ (sym c.role.ensures ∙ c.in-Bank.is) (bank_row c.args.state.now c.args.input.now c.args.moment c.in-Arrived.arrival _ c.in-Arrived.is c.in-Rsi.is) c.rsi.ensures

pub returns-in-Rtr : goal.returns-in-Rtr
returns-in-Rtr c = decided_at_bank c.law_taking.ensures c.law_passing.ensures c.args.state.now c.args.input.now c.args.moment (c.law_ranged.ensures c.args.state.now c.args.input.now c.args.moment c.law_party.ensures c.law_input.ensures) c.rtr.result _ (sym c.role.ensures ∙ c.in-Bank.is) (bank_row c.args.state.now c.args.input.now c.args.moment c.in-Arrived.arrival _ c.in-Arrived.is c.in-Rtr.is) c.rtr.ensures

pub returns-in-Ksm : goal.returns-in-Ksm
returns-in-Ksm c = decided_at_bank c.law_taking.ensures c.law_passing.ensures c.args.state.now c.args.input.now c.args.moment (c.law_ranged.ensures c.args.state.now c.args.input.now c.args.moment c.law_party.ensures c.law_input.ensures) c.ksm.result _ (sym c.role.ensures ∙ c.in-Bank.is) (bank_row c.args.state.now c.args.input.now c.args.moment c.in-Arrived.arrival _ c.in-Arrived.is c.in-Ksm.is) c.ksm.ensures

pub returns-in-Rsm : goal.returns-in-Rsm
returns-in-Rsm c = decided_at_bank c.law_taking.ensures c.law_passing.ensures c.args.state.now c.args.input.now c.args.moment (c.law_ranged.ensures c.args.state.now c.args.input.now c.args.moment c.law_party.ensures c.law_input.ensures) c.rsm.result _ (sym c.role.ensures ∙ c.in-Bank.is) (bank_row c.args.state.now c.args.input.now c.args.moment c.in-Arrived.arrival _ c.in-Arrived.is c.in-Rsm.is) c.rsm.ensures

pub returns-in-Esm : goal.returns-in-Esm
returns-in-Esm c = decided_at_bank c.law_taking.ensures c.law_passing.ensures c.args.state.now c.args.input.now c.args.moment (c.law_ranged.ensures c.args.state.now c.args.input.now c.args.moment c.law_party.ensures c.law_input.ensures) c.esm.result _ (sym c.role.ensures ∙ c.in-Bank.is) (bank_row c.args.state.now c.args.input.now c.args.moment c.in-Arrived.arrival _ c.in-Arrived.is c.in-Esm.is) c.esm.ensures

pub returns-in-Dsm : goal.returns-in-Dsm
returns-in-Dsm c = decided_at_bank c.law_taking.ensures c.law_passing.ensures c.args.state.now c.args.input.now c.args.moment (c.law_ranged.ensures c.args.state.now c.args.input.now c.args.moment c.law_party.ensures c.law_input.ensures) c.dsm.result _ (sym c.role.ensures ∙ c.in-Bank.is) (bank_row c.args.state.now c.args.input.now c.args.moment c.in-Arrived.arrival _ c.in-Arrived.is c.in-Dsm.is) c.dsm.ensures

pub returns-in-Rfs : goal.returns-in-Rfs
returns-in-Rfs c = decided_at_bank c.law_taking.ensures c.law_passing.ensures c.args.state.now c.args.input.now c.args.moment (c.law_ranged.ensures c.args.state.now c.args.input.now c.args.moment c.law_party.ensures c.law_input.ensures) (Ok c.other_class.result) _ (sym c.role.ensures ∙ c.in-Bank.is) (bank_row c.args.state.now c.args.input.now c.args.moment c.in-Arrived.arrival _ c.in-Arrived.is c.in-Rfs.is) c.other_class.ensures

pub returns-in-Ers : goal.returns-in-Ers
returns-in-Ers c = decided_at_bank c.law_taking.ensures c.law_passing.ensures c.args.state.now c.args.input.now c.args.moment (c.law_ranged.ensures c.args.state.now c.args.input.now c.args.moment c.law_party.ensures c.law_input.ensures) (Ok c.other_class-in-Ers.result) _ (sym c.role.ensures ∙ c.in-Bank.is) (bank_row c.args.state.now c.args.input.now c.args.moment c.in-Arrived.arrival _ c.in-Arrived.is c.in-Ers.is) c.other_class-in-Ers.ensures
