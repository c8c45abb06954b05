-- Of the change of a decision no edit is done at the party, and all are done behind it.
use Rattle.std.proofs.Common.{◌≡◌, ℕ, Bool, true, false, cond, List, [], ◌∷◌, refl, subst}
use Rattle.party_state.specs.declared.command.Input.{Input}
use Rattle.party_state.specs.declared.edit.Edit.{Edit}
use Rattle.party_tables.specs.Keys.{link_key, same_link}
use Rattle.party_tables.specs.Tables.{Distinct}
use Rattle.party_state.specs.State.{Party, apply}
use Rattle.party_state.specs.Verdicts.{is_accept}
use Rattle.party_state.specs.Rows.{Row}
use Rattle.role_base.specs.Beginning.{AllBeginFree}
use Rattle.role_base.specs.Differing.{differing}
use Rattle.role_base.specs.Apart.{AreApart, AreDone, NoneDone}
use Rattle.role_base.specs.Deciding.{change_of}
use Rattle.member.specs.Rows.{row_at}
use Rattle.member.specs.Deciding.{decision}
use Rattle.member.proofs.ByRole.{RowsApart, RowsBegin, row_apart, row_begins}

-- what holds of no edits, and of those of an accepted row that make a difference, holds of the change
by_verdict : (P : List Edit → Type 0) (p : Party) (r : Row) → P [] → (is_accept r.verdict ≡ true → P (differing p r.edits)) → P (change_of p r)
by_verdict P p r none some = go (is_accept r.verdict) refl
  where
    go : (b : Bool) → is_accept r.verdict ≡ b → P (cond b (differing p r.edits) [])
    go true e = some e
    go false e = none

pub undone : RowsBegin → ((p : Party) (es : List Edit) → AllBeginFree p es → NoneDone p (differing p es)) → (p : Party) (i : Input) (moment : ℕ) → NoneDone p (decision p i moment).change
unfolding decision
undone rows law p i moment = by_verdict (λ (es : List Edit). NoneDone p es) p (row_at p i moment) tt (λ e. law p (row_at p i moment).edits (row_begins rows p i moment e))

pub done : RowsApart → ((p q : Party) (es : List Edit) → AreApart es → AreDone (apply (differing p es) q) (differing p es)) → (p q : Party) (i : Input) (moment : ℕ) → Distinct link_key same_link p.links
    → AreDone (apply (decision p i moment).change q) (decision p i moment).change
unfolding decision
done rows law p q i moment once = by_verdict (λ (es : List Edit). AreDone (apply es q) es) p (row_at p i moment) tt (λ e. law p q (row_at p i moment).edits (row_apart rows p i moment once e))

-- edits that are all done at a party, and none of which is, are none
pub none_there : (p : Party) (es : List Edit) → NoneDone p es → AreDone (apply es p) es → apply es p ≡ p → es ≡ []
none_there p es none all same = go es none (subst (λ (q : Party). AreDone q es) same all)
  where
    go : (es : List Edit) → NoneDone p es → AreDone p es → es ≡ []
    go [] n d = refl
    go (e ∷ es) n d = absurd (n.0 d.0)
