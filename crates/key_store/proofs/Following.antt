-- Bodies that were read ahead follow a party one after the other.
use Rattle.std.proofs.Common.{◌≡◌, inl, inr, ℕ, suc, ◌+◌, ◌<◌, ◌≤◌, Bool, true, false, List, [], ◌∷◌, ◌++◌, length, take, drop, get_or, Some, Result, Ok, Err, IfOk, IfErr, refl, sym, ◌∙◌, ap, subst, arith, append_assoc}
use Rattle.std.proofs.lemmas.List.{take_more, take-append-drop}
use Rattle.std.proofs.lemmas.Result.{IfOk-weaker}
use Rattle.std.proofs.Math.Seq.{split_at}
use Rattle.key_journal.specs.Layout.{area_size}
use Rattle.x_disk.specs.Disk.{View}
use Rattle.key_journal.specs.Journal.{HoldsBodies, Begins, frames, start, gate_place}
use Rattle.key_journal.specs.Opening.{IsFree, found_at}
use Rattle.key_journal.specs.States.{Reading, HasRead, HasBodies}
use Rattle.key_journal.specs.declared.cause.Cause.{Cause}
use Rattle.key_journal.specs.declared.cause.Cause.TheVariants as cause
use Rattle.party_state.specs.State.{Party}
use Rattle.party_state.specs.Limits.{IsWithinLimits}
use Rattle.change_code.specs.declared.format.Format.{Format}
use Rattle.change_code.specs.Following.{IsStep}
use Rattle.key_store.specs.Store.{Lead, Fold}
use Rattle.key_store.specs.Loading.{ReadTo, StopsSomewhere, StandsOnly}
use Rattle.key_store.specs.Ahead.{gate_behind, IsReadAhead, LeadsToUnsound, StopsAmong}
use Rattle.key_store.proofs.ReadAhead.{frames_append, frames_one}
use Rattle.key_store.proofs.Folding.{lead_append, fold_append, one_fold}
use Rattle.key_store.proofs.Frames.{same_image, sound_of, unsound_of, next_stops}
use Rattle.key_store.proofs.Loaded.{stops_on}
use Rattle.key_store.proofs.Within.{within_lead}

-- following

module _ (bodies : List (List ℕ)) (i : ℕ) (body : List ℕ) (few : i < length bodies) (at : body ≡ get_or bodies i body) where
  taken : take (i + 1) bodies ≡ take i bodies ++ body ∷ []
  taken = take_more bodies i body few ∙ ap (λ (b : List ℕ). take i bodies ++ b ∷ []) (sym at)

  -- one body more follows
  pub lead_more : (format : Format) (old mid new : Party) → Lead format old (take i bodies) mid → IsStep format body mid new → Lead format old (take (i + 1) bodies) new
  lead_more format old mid new lead step = subst (λ (l : List (List ℕ)). Lead format old l new) (sym taken) (lead_append format old mid new (take i bodies) (body ∷ []) lead (new, step, refl))

  pub place_more : (gate place : ℕ) → place ≡ gate_behind gate (take i bodies) → place + (5 + length body) ≡ gate_behind gate (take (i + 1) bodies)
  place_more gate place is = omega (arith, is, ap (λ (l : List (List ℕ)). length (frames l)) taken, frames_one (take i bodies) body)

  -- its gate lies no further than that behind all bodies
  pub place_within : (gate place : ℕ) → place ≡ gate_behind gate (take i bodies) → place + (5 + length body) ≤ gate_behind gate bodies
  place_within gate place is =
      omega (arith, place_more gate place is, frames_append (take (i + 1) bodies) (drop (i + 1) bodies), ap (λ (l : List (List ℕ)). length (frames l)) (take-append-drop (i + 1) bodies))

  -- or it can't follow
  pub unsound_here : (format : Format) (old mid : Party) (gate place : ℕ) → Lead format old (take i bodies) mid → place ≡ gate_behind gate (take i bodies)
      → ((new : Party) → IsStep format body mid new → ⊥) → LeadsToUnsound format old gate bodies (cause.Damaged place)
  unsound_here format old mid gate place lead is never = record {
    front = take i bodies;
    body = body;
    rest = drop (suc i) bodies;
    party = mid;
    whole = subst (λ (b : List ℕ). bodies ≡ take i bodies ++ b ∷ drop (suc i) bodies) (sym at) (split_at bodies i body few);
    lead = lead;
    never = never;
    place = ap (λ (n : ℕ). cause.Damaged n) is;
  }

-- what was read ahead

both_err : (result : Result Bool Cause) (P Q R : Cause → Type 0) → ((reason : Cause) → P reason → Q reason → R reason) → IfErr result P → IfErr result Q → IfErr result R
both_err (Ok more) P Q R make p q = tt
both_err (Err reason) P Q R make p q = make reason p q

module _ {D : Type 0} (told : D → View) (old new : Reading D) (bodies : List (List ℕ)) (result : Result Bool Cause) (ahead : IsReadAhead told old new bodies result)
    (format : Format) (party : Party) (read : ReadTo (told old.disk) old.gate old.end format party) where
  -- where a body can't follow
  module _ (front : (image : List ℕ) (bodies rest : List (List ℕ)) (last : ℕ) → Begins image (bodies ++ rest) last → Begins image bodies (gate_place image bodies))
      (next : (image : List ℕ) (bodies rest : List (List ℕ)) (body : List ℕ) (gate last : ℕ) → Begins image bodies gate → Begins image (bodies ++ body ∷ rest) last
      → found_at image gate (start image + area_size) ≡ Ok (Some body)) where
    unsound_stops : (reason : Cause) → LeadsToUnsound format party old.gate bodies reason → StopsSomewhere (told old.disk) reason
    unsound_stops reason b image now =
        let r = read image now in
        let there = ahead.read r.bodies (record { image = image; now = now; begins = r.begins }) in
        let last = gate_behind old.gate bodies in
        let same = same_image (told new.disk) image there.image (ahead.journal.still.now ∙ now) there.now in
        let all : Begins image (r.bodies ++ bodies) last = subst (λ (l : List ℕ). Begins l (r.bodies ++ bodies) last) same there.begins in
        let before = r.bodies ++ b.front in
        let cut : r.bodies ++ bodies ≡ before ++ b.body ∷ b.rest = ap (λ (l : List (List ℕ)). r.bodies ++ l) b.whole ∙ sym (append_assoc r.bodies b.front (b.body ∷ b.rest)) in
        let whole : Begins image (before ++ b.body ∷ b.rest) last = subst (λ (l : List (List ℕ)). Begins image l last) cut all in
        let place : gate_place image before ≡ gate_behind old.gate b.front = omega (arith, r.begins.place, frames_append r.bodies b.front) in
        let here : Begins image before (gate_behind old.gate b.front) = subst (λ (g : ℕ). Begins image before g) place (front image before (b.body ∷ b.rest) last whole) in
        let fold = fold_append format party b.party r.bodies b.front r.fold b.lead in
        inr (
          gate_behind old.gate b.front,
          b.place,
          record {
            bodies = before;
            begins = here;
            sound = sound_of format before b.party fold;
            damage = inr (b.body, next image before b.rest b.body (gate_behind old.gate b.front) last here whole, unsound_of format before b.party b.body fold b.never);
          },
        )

    pub among_stops : (reason : Cause) → StopsAmong format party old.gate bodies reason → StopsSomewhere (told old.disk) reason
    among_stops reason (inl none) = λ image now. inl (subst IsFree (sym none) tt)
    among_stops reason (inr unsound_here) = unsound_stops reason unsound_here

  -- where all bodies follow
  module _ (last : Party) (lead : Lead format party bodies last) where
    ahead_to : ReadTo (told new.disk) (gate_behind old.gate bodies) old.end format last
    ahead_to image now =
        let before = sym ahead.journal.still.now ∙ now in
        let r = read image before in
        let there = ahead.read r.bodies (record { image = image; now = before; begins = r.begins }) in
        record {
          bodies = r.bodies ++ bodies;
          begins = subst (λ (l : List ℕ). Begins l (r.bodies ++ bodies) (gate_behind old.gate bodies)) (same_image (told new.disk) image there.image now there.now) there.begins;
          fold = fold_append format party last r.bodies bodies r.fold lead;
          last = r.last;
        }

    pub ahead_read : IfOk result (λ more. more ≡ true → ReadTo (told new.disk) new.gate new.end format last)
    ahead_read = IfOk-weaker result _ _
        (λ more there is. subst (λ (e : ℕ). ReadTo (told new.disk) new.gate e format last) (sym ahead.end)
        (subst (λ (g : ℕ). ReadTo (told new.disk) g old.end format last) (sym (there is).0) ahead_to))
        ahead.more

    pub ahead_all : ((image : List ℕ) (first second : List (List ℕ)) → HoldsBodies image first → HoldsBodies image second → first ≡ second)
        → IfOk result (λ more. more ≡ false → (new.ended ≡ true) × StandsOnly (told new.disk) format last)
    ahead_all one = IfOk-weaker result _ _ (λ more there is. ((there is).0, only (there is).1)) ahead.all
      where
        only : ((front : List (List ℕ)) → HasRead (told old.disk) front old.gate → HasBodies (told new.disk) (front ++ bodies)) → StandsOnly (told new.disk) format last
        only all image now =
            let before = sym ahead.journal.still.now ∙ now in
            let r = read image before in
            let has = all r.bodies (record { image = image; now = before; begins = r.begins }) in
            let holds : HoldsBodies image (r.bodies ++ bodies) = subst (λ (l : List ℕ). HoldsBodies l (r.bodies ++ bodies)) (same_image (told new.disk) image has.image now has.now) has.holds in
            let fold = fold_append format party last r.bodies bodies r.fold lead in (
              record { bodies = r.bodies ++ bodies; holds = holds; fold = fold },
              λ other another stands.
                  let same = one image stands.bodies (r.bodies ++ bodies) stands.holds holds in
                  one_fold format other (r.bodies ++ bodies) last another fold (subst (λ (l : List (List ℕ)). Fold other l another) same stands.fold),
            )

    pub ahead_stops : IfErr result (StopsSomewhere (told old.disk))
    ahead_stops = both_err result _ _ (StopsSomewhere (told old.disk))
        (λ reason exact names. stops_on (told old.disk) (told new.disk) reason ahead.journal.still.now (gate_behind old.gate bodies)
        (next_stops (told new.disk) (gate_behind old.gate bodies) old.end format last ahead_to reason (λ image now. exact image (sym ahead.journal.still.now ∙ now)) names))
        ahead.exact ahead.names

    pub ahead_within : IfOk result (λ more. IsWithinLimits party → IsWithinLimits last)
    ahead_within = IfOk-weaker result _ _ (λ more there within. within_lead format party last bodies lead within) ahead.all
