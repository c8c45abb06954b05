use Rattle.std.proofs.Common.{◌∙◌, ap, length, map, refl, subst, sym, List, ℕ}
use Rattle.std.proofs.lemmas.List.{length-map, length-replicate}
use Rattle.x_des.specs.Bits.{bits_of, number, pick}
use Rattle.x_des.specs.Des.{enciphered, keys_from, round_keys}
use Rattle.edc_slices.specs.Chains.{edc_key}
use Rattle.edc_slices.specs.Lanes.{HaveChains}
use Rattle.edc_slices.proofs.Chains.{no_chains}
use Rattle.edc_slices.proofs.chain.side_by_side.Goals as goal

pub of_round_keys-key-requires : goal.of_round_keys-key-requires
unfolding bits_of number pick keys_from round_keys
of_round_keys-key-requires c = refl

pub loop-step-init : goal.loop-step-init
loop-step-init c = record {
  size = ap length c.zeros-chains.ensures ∙ length-replicate {A = ℕ} 128 0;
  chains = no_chains c.args.bodies.now _ c.zeros-chains.result refl;
  made = c.requires.made;
}

pub loop-step-preserved : goal.loop-step-preserved
loop-step-preserved c =
    let bodies = c.args.bodies.now in
    let e = c.encrypt.ensures ∙ ap (λ key. map (enciphered key) c.feed.new.chains) c.of_round_keys-key.ensures in record {
      size = ap length e ∙ length-map c.feed.new.chains (enciphered edc_key) ∙ c.feed.ensures.size;
      chains = subst (λ (x : List ℕ). HaveChains bodies c.feed.new.lanes x) (sym e) c.feed.ensures.chains;
      made = c.feed.ensures.made;
    }
