use Rattle.std.proofs.Common.{List, ℕ, drop, ap, ◌∙◌}
use Rattle.key_journal.specs.Journal.{frame_of}
use Rattle.pay_auth.specs.Bodies.{body_of}
use Rattle.pay_auth.proofs.Anew.{puts_anew}
use Rattle.pay_auth.proofs.keeping.whole_frame.Goals as goal

pub returns : goal.returns
returns c = record {
  body = body_of c.args.entries.now;
  is_body = c.in_ok-text.ensures.small;
  is = c.in_ok-close_frame.ensures.text ∙ ap (λ (t : List ℕ). frame_of (drop 4 t)) c.in_ok-text.ensures.text;
  leads = record { entries = c.args.entries.now; body = c.in_ok-text.ensures.body; after = puts_anew c.args.entries.now c.law_entries.ensures.once; within = c.law_entries.ensures.few };
}
