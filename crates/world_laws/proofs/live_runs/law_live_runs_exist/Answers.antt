use Rattle.world_laws.proofs.LiveKeys.EndRun.{end_run}
use Rattle.world_laws.proofs.LiveKeys.TwinRun.{twin_run}
use Rattle.world_laws.proofs.LiveKeys.DirectRun.{live_run}
use Rattle.world_laws.proofs.LiveKeys.NewKkRun.{new_kk_run}
use Rattle.world_laws.proofs.LiveKeys.DistributionRun.{distribution_run}
use Rattle.world_laws.proofs.LiveKeys.TranslationRun.{translation_run}
use Rattle.world_laws.proofs.LiveKeys.ClosingRun.{cut_run, closing_run, closed_run, forged_run}
use Rattle.world_laws.proofs.live_runs.law_live_runs_exist.Goals as goal

pub returns-clause-direct : goal.returns-clause-direct
returns-clause-direct c = live_run

pub returns-clause-under_new_kk : goal.returns-clause-under_new_kk
returns-clause-under_new_kk c = new_kk_run

pub returns-clause-distributed : goal.returns-clause-distributed
returns-clause-distributed c = distribution_run

pub returns-clause-translated : goal.returns-clause-translated
returns-clause-translated c = translation_run

pub returns-clause-two_at_once : goal.returns-clause-two_at_once
returns-clause-two_at_once c = twin_run

pub returns-clause-left : goal.returns-clause-left
returns-clause-left c = end_run

pub returns-clause-cut : goal.returns-clause-cut
returns-clause-cut c = cut_run

pub returns-clause-partner_ended : goal.returns-clause-partner_ended
returns-clause-partner_ended c = closing_run

pub returns-clause-answered : goal.returns-clause-answered
returns-clause-answered c = closed_run

pub returns-clause-forged : goal.returns-clause-forged
returns-clause-forged c = forged_run
