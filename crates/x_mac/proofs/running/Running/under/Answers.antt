use Rattle.std.proofs.Common.{refl, []}
use Rattle.x_mac.proofs.ChainLemmas.{holds_by}
use Rattle.x_mac.proofs.running.Running.under.Goals as goal

pub returns : goal.returns
returns c = holds_by _ c.args.schedule 0 0 [] _ refl c.new.ensures refl refl refl (λ rest. refl)
