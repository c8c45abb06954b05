-- The tests of commands are made in the order.
use Rattle.std.proofs.Common.{ℕ, Bool, false, Option, List, [], ◌∷◌, ◌++◌, refl}
use Rattle.x_base.specs.declared.verdict.Verdict.TheVariants.{UnknownKk}
use Rattle.x_gen.specs.declared.generator.Gen.{Gen}
use Rattle.party_tables.specs.declared.link.LinkRec.{LinkRec}
use Rattle.party_state.specs.State.{Party}
use Rattle.role_base.specs.Order.{InOrder}
use Rattle.role_base.specs.Sending.{sending_tests}
use Rattle.bank_orders.specs.declared.draws.KkDrawn.{KkDrawn}
use Rattle.bank_orders.specs.Start.{start_tests}
use Rattle.bank_orders.specs.StartKk.{kk_tests}
use Rattle.bank_orders.specs.Ask.{centre_front, ask_tests}
use Rattle.bank_orders.specs.Translate.{translate_tests}
use Rattle.bank_orders.specs.Ending.{end_tests}

pub start_order : (p : Party) (peer : List ℕ) (found : Option LinkRec) (l : LinkRec) (drawn : Option (ℕ × Gen)) → InOrder (start_tests p peer found ++ sending_tests p l drawn)
start_order p peer found l drawn = refl

pub start_kk_order : (p : Party) (peer new : List ℕ) (found : Option LinkRec) (l : LinkRec) (drawn : Option KkDrawn) → InOrder (start_tests p peer found ++ kk_tests p l new drawn)
start_kk_order p peer new found l drawn = refl

pub ask_order : (p : Party) (centre u : List ℕ) → InOrder (ask_tests p centre u)
ask_order p centre u = refl

pub translate_order : (p : Party) (centre u : List ℕ) (l : LinkRec) (drawn : Option (ℕ × Gen)) → InOrder (centre_front p centre u ++ translate_tests l drawn)
translate_order p centre u l drawn = refl

pub translate_front_order : (p : Party) (centre u : List ℕ) → InOrder (centre_front p centre u ++ (false, UnknownKk) ∷ [])
translate_front_order p centre u = refl

pub end_order : (p : Party) (peer : List ℕ) (found : Bool) → InOrder (end_tests p peer found)
end_order p peer found = refl
