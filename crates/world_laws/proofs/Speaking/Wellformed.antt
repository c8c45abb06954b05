-- What rows write and put is well formed: names, counts, and what a verdict tells.
use Rattle.std.proofs.Common.{nat_le}
use Rattle.std.proofs.Common.{◌||◌}
use Rattle.x_base.specs.declared.verdict.Verdict.TheVariants as verdict
use Rattle.csm_grammar.specs.declared.message.Message.TheVariants as message
use Rattle.csm_grammar.specs.declared.message.Esm.{Esm}
use Rattle.csm_grammar.specs.declared.message.NewKk.{NewKk}
use Rattle.party_state.specs.Rows.{Row, Reply, Coded, Plain, Again}
use Rattle.party_state.specs.State.{Party, centre_label, link_with}
use Rattle.party_state.specs.Verdicts.{Test, verdict_of}
use Rattle.party_tables.specs.declared.link.LinkKey.{LinkKey}
use Rattle.party_tables.specs.declared.link.LinkRec.{LinkRec}
use Rattle.std.proofs.Common.{arith, ◌≡◌, ℕ, ◌+◌, Bool, true, false, not, cond, Option, Some, None, List, [], ◌∷◌, ◌++◌, refl}
use Rattle.world_laws.proofs.Texts.Own.{IsOwn}
use Rattle.x_base.specs.declared.verdict.Verdict.{Verdict}
use Rattle.std.specs.List.{AllByRecursion}
use Rattle.std.proofs.Common.{IfSome}
use Rattle.std.proofs.lemmas.Bool.{leb-true}
use Rattle.x_base.specs.Names.{IsLabel}
use Rattle.x_base.specs.Count.{IsCount}
use Rattle.party_tables.specs.Ranges.{IsNextCount}
use Rattle.role_base.specs.Errors.{TellsCount}
use Rattle.role_base.specs.Conditions.{has_count, count_tests}
use Rattle.role_base.specs.Errors.{expected_count}
use Rattle.bank_keys.specs.Ksm.{new_tests}
use Rattle.world_laws.proofs.Texts.Names.{LinkNamed, IsNamed, NamesFine, link_named}
use Rattle.world_laws.proofs.Texts.Own.{IsOwn}
use Rattle.world_laws.proofs.Agreeing.Moves.{OwnReply}

-- a row that stands keeps names well formed, and writes a text that says its message
pub record Speaks (r : Row) : Type 0 where
  pub names : AllByRecursion NamesFine r.edits
  pub reply : OwnReply r.reply

-- a refusal is answered by an error message, or not
abbrev pub TellsEsm : Option Reply → Type 0
TellsEsm None = Unit {0}
TellsEsm (Some (Coded m under value)) = (e : Esm) × (m ≡ message.Esm e) × IsOwn m
TellsEsm (Some (Plain m)) = ⊥
TellsEsm (Some (Again text)) = ⊥

-- what a verdict tells

abbrev pub TellsWell : List Test → Type 0
TellsWell [] = Unit {0}
TellsWell (t ∷ ts) = (t.0 ≡ false → TellsCount t.1) × TellsWell ts

pub tells_after : (ts us : List Test) → TellsWell ts → TellsWell us → TellsWell (ts ++ us)
tells_after [] us a b = b
tells_after (t ∷ ts) us a b = (a.0, tells_after ts us a.1 b)

pub told_by : (ts : List Test) → TellsWell ts → TellsCount (verdict_of ts)
told_by [] w = tt
told_by (t ∷ ts) w = go t.0 w.0 (told_by ts w.1)
  where
    go : (b : Bool) → (b ≡ false → TellsCount t.1) → TellsCount (verdict_of ts) → TellsCount (cond b (verdict_of ts) t.1)
    go true f rest = rest
    go false f rest = f refl

pub counts_told : (l : LinkRec) (count : ℕ) → IsNextCount l.next → TellsWell (count_tests l count)
counts_told l count n = (λ e. low (has_count l) refl e, (λ e. tt, tt))
  where
    low : (b : Bool) → has_count l ≡ b → (not b || nat_le l.next count) ≡ false → IsCount l.next
    low true h e = record { low = n.low; high = leb-true l.next 99999999999999 h }
    low false h e = absurd (cc)

pub new_told : (p : Party) (originator : List ℕ) (l : LinkRec) (count : ℕ) (n : Option (List ℕ × NewKk)) → TellsWell (new_tests p originator l count n)
new_told p originator l count None = tt
new_told p originator l count (Some n) = (λ e. tt, (λ e. tt, (λ e. tt, tt)))

pub told_count : (v : Verdict) → TellsCount v → IfSome (expected_count v) IsCount
told_count (verdict.CountLow expected) t = t
told_count _ t = _

pub label_c : IsLabel centre_label
label_c = refl

pub next_after : (n : ℕ) → IsCount n → IsNextCount (n + 1)
next_after n c = record { low = omega arith; high = omega (arith, c.high) }

pub count_of : (l : LinkRec) → IsNextCount l.next → has_count l ≡ true → IsCount l.next
count_of l n h = record { low = n.low; high = leb-true l.next 99999999999999 h }

module _ (p : Party) (i : IsNamed p) where
  pub linked : (k : LinkKey) (l : LinkRec) → link_with k p ≡ Some l → LinkNamed l
  linked k l h = link_named p k l i h

  pub up_named : (l : LinkRec) (n : ℕ) → LinkNamed l → IsNextCount n → LinkNamed (record l { next = n })
  up_named l n named next = record { peer = named.peer; label = named.label; next = next }
