-- The tests of requests are made in the order.
use Rattle.std.proofs.Common.{ℕ, Bool, false, List, [], ◌∷◌, ◌++◌, refl}
use Rattle.x_base.specs.declared.verdict.Verdict.TheVariants.{WeakDraws}
use Rattle.csm_grammar.specs.declared.arrival.Arrival.{Arrival}
use Rattle.csm_grammar.specs.declared.message.Rsi.{Rsi}
use Rattle.csm_grammar.specs.declared.message.Ers.{Ers}
use Rattle.party_tables.specs.declared.answer.Answer.{Answer}
use Rattle.party_tables.specs.declared.link.LinkRec.{LinkRec}
use Rattle.party_state.specs.State.{Party}
use Rattle.role_base.specs.Order.{InOrder}
use Rattle.role_base.specs.Centres.{request_front}
use Rattle.distribution_role.specs.Requests.{rsi_front, rsi_tests}
use Rattle.distribution_role.specs.Recovery.{ers_front, ers_tests}

pub rsi_order : (p : Party) (a : Arrival) (m : Rsi) (u : List ℕ) (l b : LinkRec) (drawn : Bool) → InOrder (rsi_tests p a m u l b ++ (drawn, WeakDraws) ∷ [])
rsi_order p a m u l b drawn = refl

pub rsi_front_order : (p : Party) (m : Rsi) (u : List ℕ) → InOrder (rsi_front p m u false)
rsi_front_order p m u = refl

pub alone_order : (p : Party) (receiver originator : List ℕ) → InOrder (request_front p receiver originator false)
alone_order p receiver originator = refl

pub ers_order : (p : Party) (a : Arrival) (m : Ers) (t : Answer) (l b : LinkRec) (drawn : Bool) → InOrder (ers_tests p a m t l b ++ (drawn, WeakDraws) ∷ [])
ers_order p a m t l b drawn = refl

pub ers_front_order : (p : Party) (m : Ers) (stands linked : Bool) → InOrder (ers_front p m stands linked)
ers_front_order p m stands linked = refl
