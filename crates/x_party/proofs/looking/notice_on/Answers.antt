use Rattle.std.proofs.Common.{◌∙◌}
use Rattle.x_party.proofs.Looks.{looked_at, looked_nowhere, not_free}
use Rattle.x_party.proofs.looking.notice_on.Goals as goal

pub returns-in-Ok-text-clause-notice : goal.returns-in-Ok-text-clause-notice
returns-in-Ok-text-clause-notice g c =
    looked_at (g.D.Disk.told c.args.disk) c.args.input.now c.args.class.now c.args.moment c.view.result.now c.in-Ok-text.text
    (λ image party now stands. c.view.ensures.party ∙ c.in-Ok.ensures.exact image party now stands) c.in-Ok-text.ensures

pub returns-in_default : goal.returns-in_default
returns-in_default g c = record {
  notice = looked_nowhere (g.D.Disk.told c.args.disk) c.args.input.now c.args.class.now c.args.moment c.in-Err.field-0.cause
      (not_free c.in-Err.field-0.cause c.in_default.not-Fault c.in_default.not-NoMemory) c.in-Err.ensures.never_refused;
  now = c.in-Err.ensures.now;
  images = c.in-Err.ensures.images;
  any_moment = c.in-Err.ensures.any_moment;
  fault = λ no. absurd (cc no);
}
