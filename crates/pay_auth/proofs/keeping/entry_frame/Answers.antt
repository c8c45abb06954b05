use Rattle.std.proofs.Common.{[], ◌∷◌, List, ℕ, drop, refl, ap, ◌∙◌}
use Rattle.key_journal.specs.Journal.{frame_of}
use Rattle.pay_auth.specs.Bodies.{body_of}
use Rattle.pay_auth.proofs.Sizing.{put_within}
use Rattle.pay_auth.proofs.keeping.entry_frame.Goals as goal

pub returns : goal.returns
returns c = λ old place few. record {
  body = body_of (c.args.entry.now ∷ []);
  is_body = c.in_ok-text.ensures.small;
  is = c.in_ok-close_frame.ensures.text ∙ ap (λ (t : List ℕ). frame_of (drop 4 t)) c.in_ok-text.ensures.text;
  leads = record { entries = c.args.entry.now ∷ []; body = c.in_ok-text.ensures.body; after = refl; within = put_within c.args.entry.now old place few };
}
