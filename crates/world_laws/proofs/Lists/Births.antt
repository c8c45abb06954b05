-- The births of key-encrypting keys.
use Rattle.std.proofs.Common.{arith, ◌≡◌, ℕ, suc, ◌<◌, ◌⊎◌, inl, inr, Bool, true, false, cond, Option, Some, None, List, [], ◌∷◌, ◌++◌, refl, sym, ◌∙◌, ap, All, bytes_eq, append-nil}
use Rattle.std.specs.List.{AllByRecursion}
use Rattle.std.proofs.lemmas.Bool.{cond_both}
use Rattle.std.proofs.lemmas.List.Elements.{All-weaker, All-push}
use Rattle.party_state.specs.Rows.{Made}
use Rattle.party_tables.proofs.Keys.{test_idents}
use Rattle.party_tables.proofs.Tables.{same_is}
use Rattle.world_laws.specs.World.{Birth}
use Rattle.world_laws.specs.Steps.{is_birth, last_birth, births_of}

last_more : (n : ℕ) (o r l : List ℕ) (bs : List Birth) (b : Birth) → last_birth n o r l (bs ++ b ∷ []) ≡ cond (is_birth o r l b) b.event (last_birth n o r l bs)
last_more n o r l [] b = refl
last_more n o r l (a ∷ bs) b = last_more (cond (is_birth o r l a) a.event n) o r l bs b

pub last_below : (m n : ℕ) (o r l : List ℕ) (bs : List Birth) → n < m → AllByRecursion (λ b. b.event < m) bs → last_birth n o r l bs < m
last_below m n o r l [] h all = h
last_below m n o r l (b ∷ bs) h all = last_below m (cond (is_birth o r l b) b.event n) o r l bs (cond_both (is_birth o r l b) b.event n (λ k. k < m) (λ e. all.0) (λ e. h)) all.1

-- a birth of these names makes the event its number
pub born_now : (n : ℕ) (own r l : List ℕ) (bs : List Birth) (made : Option Made) → made ≡ Some (record { recipient = r; label = l }) → last_birth 0 own r l (bs ++ births_of n own made) ≡ n
born_now n own r l bs None e = absurd (cc)
born_now n own r l bs (Some m) e =
    let recipient : m.recipient ≡ r = (let is : m ≡ record { recipient = r; label = l } = cc in ap (λ (y : Made). y.recipient) is) in
    let label : m.label ≡ l = (let is : m ≡ record { recipient = r; label = l } = cc in ap (λ (y : Made). y.label) is) in
    let a : bytes_eq own own ≡ true = same_is test_idents own in
    let b : bytes_eq r m.recipient ≡ true = (test_idents.decides r m.recipient).1 (sym recipient) in
    let c : bytes_eq l m.label ≡ true = (test_idents.decides l m.label).1 (sym label) in
    let t : is_birth own r l (record { originator = own; recipient = m.recipient; label = m.label; event = n }) ≡ true = rw (a, b, c) refl in
    last_more 0 own r l bs (record { originator = own; recipient = m.recipient; label = m.label; event = n }) ∙ (rw t refl)

-- otherwise the birth stays, or becomes the number of the event
pub born_cases : (n : ℕ) (own o r l : List ℕ) (bs : List Birth) (made : Option Made) → (last_birth 0 o r l (bs ++ births_of n own made) ≡ last_birth 0 o r l bs) ⊎ (last_birth 0 o r l (bs ++ births_of n own made) ≡ n)
born_cases n own o r l bs None = inl (ap (last_birth 0 o r l) (append-nil bs))
born_cases n own o r l bs (Some m) = go (is_birth o r l (record { originator = own; recipient = m.recipient; label = m.label; event = n })) refl
  where
    go : (b : Bool) → is_birth o r l (record { originator = own; recipient = m.recipient; label = m.label; event = n }) ≡ b → (last_birth 0 o r l (bs ++ births_of n own (Some m)) ≡ last_birth 0 o r l bs) ⊎ (last_birth 0 o r l (bs ++ births_of n own (Some m)) ≡ n)
    go true e = inr (last_more 0 o r l bs (record { originator = own; recipient = m.recipient; label = m.label; event = n }) ∙ rw e refl)
    go false e = inl (last_more 0 o r l bs (record { originator = own; recipient = m.recipient; label = m.label; event = n }) ∙ rw e refl)

pub births_on : (n : ℕ) (own : List ℕ) (bs : List Birth) (made : Option Made) → All (λ b. b.event < n) bs → All (λ b. b.event < suc n) (bs ++ births_of n own made)
births_on n own bs made all = go made
  where
    old : All (λ b. b.event < suc n) bs
    old = All-weaker (λ b. b.event < n) (λ b. b.event < suc n) (λ b h. omega arith) bs all

    go : (m : Option Made) → All (λ b. b.event < suc n) (bs ++ births_of n own m)
    go None = rw append-nil old
    go (Some m) = All-push (λ b. b.event < suc n) bs (record { originator = own; recipient = m.recipient; label = m.label; event = n }) old (omega arith)
