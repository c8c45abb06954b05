use Rattle.std.proofs.Common.{◌≡◌, IfErr, subst}
use Rattle.party_state.specs.State.{Party}
use Rattle.change_code.specs.declared.fault.WholeFault.{WholeFault}
use Rattle.change_code.specs.declared.fault.WholeFault.TheVariants.{TooLarge}
use Rattle.change_code.specs.declared.format.Format.TheVariants.{Two}
use Rattle.change_code.specs.Whole.{IsTooLarge}
use Rattle.mirror_store.proofs.copying.framed.Goals as goal

pub returns-in-Ok-clause-too_large : goal.returns-in-Ok-clause-too_large
returns-in-Ok-clause-too_large c =
    subst (λ (p : Party). IfErr c.of.result (λ (fault : WholeFault). fault ≡ TooLarge → IsTooLarge Two p)) c.in-Ok.ensures c.of.ensures.too_large
