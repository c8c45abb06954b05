-- A party takes an input, and its place again.
use Rattle.std.proofs.Common.{◌≡◌, ◌⊎◌, inl, inr, ℕ, ◌+◌, ◌<◌, true, false, map, List, ◌∷◌, ◌++◌, length, get_or, set, take, drop, Option, Some, None, bytes_eq, refl, sym, ◌∙◌, ap, subst, arith, take-append-drop}
use Rattle.std.specs.Prelude.{option_to_list}
use Rattle.std.proofs.lemmas.List.{set_at, get_or_at, length-map, drop_more, get_or-map, length-take-le, append-nil}
use Rattle.party_tables.specs.Tables.{put_row}
use Rattle.party_state.specs.declared.command.Input.{Input}
use Rattle.fact_book.specs.Facts.{NamedText}
use Rattle.member.specs.Acts.{taking}
use Rattle.member.specs.Member.{Member, plan_at, after}
use Rattle.world_laws.specs.World.{World, own_of, member_at}
use Rattle.world_laws.specs.Events.{Completion, Whole, CutOld, CutNew}
use Rattle.world_laws.specs.Honest.{named_text}
use Rattle.world_laws.specs.Nodes.{IsAfter, IsEventOf, input_event}
use Rattle.course.specs.Outcomes.{world_after_given, IsOutcome}
use Rattle.course.specs.Stops.{KeepsChange}
use Rattle.course.specs.declared.progress.EventOutcome.{EventOutcome}
use Rattle.course.specs.declared.progress.EventOutcome.TheVariants.{Refused, Stopped}
use Rattle.course.specs.declared.progress.Stop.{Stop}
use Rattle.audit_check.specs.Audits.{IsCut, IsCompleted, letter_old, letter_new}
use Rattle.audit_check.specs.Events.{IsActedHeld, IsWrongInput, PlaysAt, IsWrongAt, TakesLetter, LacksLetter, member_then, text_then, facts_then}
use Rattle.audit_check.specs.States.{HoldsMembers, HoldsEach, IsPlaced, Shows}
use Rattle.scenario.specs.declared.audit_fault.AuditFault.{AuditFault}
use Rattle.scenario.specs.declared.audit_fault.AuditFault.TheVariants as fault
use Rattle.audit_check.specs.declared.parties.Parties.{Parties}
use Rattle.audit_check.specs.declared.state.AuditState.{AuditState}
use Rattle.audit_check.proofs.HeldMembers.{found, put, map_at}

-- the party at a place was taken out, and another one took the place
module _ (p q : Parties) (place : ℕ) (held y : Member) (was : Some held ≡ get_or p.members_held.items place (Some held)) (names : q.names.keys ≡ p.names.keys)
    (members_held : q.members_held.items ≡ set (set p.members_held.items place None) place (Some y)) (own_stays : y.party.own ≡ held.party.own) where
  module _ (front : List Member) (x : Member) (back : List Member) (size : length front ≡ place) (is : HoldsMembers p (front ++ x ∷ back)) where
    split : p.members_held.items ≡ map Some front ++ Some x ∷ map Some back
    split = is.holds_each ∙ map_at Some front x back

    long : length (map Some front) ≡ place
    long = length-map front Some ∙ size

    pub same : held ≡ x
    same = let both : Some held ≡ Some x = was ∙ (ap (λ (l : List (Option Member)). get_or l place (Some held)) split ∙ get_or_at (map Some front) (Some x) (map Some back) (Some held) place long) in cc both

    pub held_again : HoldsMembers q (front ++ y ∷ back)
    held_again = record {
      named = names ∙ (is.named ∙ (map_at own_of front x back
          ∙ (ap (λ (o : List ℕ). map own_of front ++ o ∷ map own_of back) (sym (own_stays ∙ ap own_of same)) ∙ sym (map_at own_of front y back))));
      holds_each = members_held ∙ (ap (λ (l : List (Option Member)). set (set l place None) place (Some y)) split
          ∙ (ap (λ (l : List (Option Member)). set l place (Some y)) (set_at (map Some front) (Some x) (map Some back) None place long)
          ∙ (set_at (map Some front) None (map Some back) (Some y) place long ∙ sym (map_at Some front y back))));
    }

  pub still_held : place < length p.members_held.items → HoldsEach p → HoldsEach q
  still_held lt all =
      let ms = all.0 in
      let within : place < length ms = omega (arith, lt, ap length all.1.holds_each, length-map ms Some) in
      let read : held ≡ get_or ms place held = (let both : Some held ≡ Some (get_or ms place held) = was ∙ (ap (λ (l : List (Option Member)). get_or l place (Some held)) all.1.holds_each ∙ get_or-map Some ms place held (Some held) within) in cc both) in
      let parts : ms ≡ take place ms ++ held ∷ drop (place + 1) ms = sym (take-append-drop place ms) ∙ ap (λ (l : List Member). take place ms ++ l) (drop_more ms place held within ∙ ap (λ (m : Member). m ∷ drop (place + 1) ms) (sym read)) in
      (take place ms ++ y ∷ drop (place + 1) ms, held_again (take place ms) held (drop (place + 1) ms) (length-take-le place ms (omega (arith, within))) (subst (HoldsMembers p) parts all.1))

module _ (laws : (x : Member) (i : Input) (moment : ℕ) → IsEventOf x (taking (plan_at x i moment)) (input_event x i moment)) where
  own_then : (x : Member) (i : Input) (moment : ℕ) (completion : Completion) → (member_then x (plan_at x i moment) completion).party.own ≡ x.party.own
  own_then x i moment Whole = (laws x i moment).own
  own_then x i moment CutOld = refl
  own_then x i moment CutNew = (laws x i moment).own

  -- a cut leaves a new state only where something changes
  new_keeps : (stop : Option Stop) (letters left : List ℕ) (x : Member) (i : Option Input) (moment : ℕ) → IsCompleted stop letters x i moment CutNew left → KeepsChange x i moment
  new_keeps None letters left x i moment completes = let lie : CutNew ≡ Whole = completes.0 in absurd (cc lie)
  new_keeps (Some stop) letters left x i moment completes = go completes.2
    where
      go : {letter : ℕ} → IsCut letter x i moment CutNew → KeepsChange x i moment
      go (inl old) = let lie : CutNew ≡ CutOld = old.1 in absurd (cc lie)
      go (inr new) = new.1

  -- the network behind it
  record IsThen (w later : World) (y : Member) (texts : List (List ℕ)) (facts : List NamedText) : Type 0 where
    members : later.members ≡ put_row own_of bytes_eq y w.members
    texts_are : texts ≡ later.texts
    facts_are : facts ≡ map named_text later.facts

  after_is : {w later : World} {y : Member} {reply : Option (List ℕ)} {adds : List NamedText} (texts : List (List ℕ)) (facts : List NamedText) → IsAfter w later y reply adds → texts ≡ w.texts ++ option_to_list reply → facts ≡ map named_text w.facts ++ adds → IsThen w later y texts facts
  after_is texts facts after texts_are facts_are = record { members = after.members; texts_are = texts_are ∙ sym after.texts; facts_are = facts_are ∙ sym after.facts_are }

  module _ (n : ℕ) (w : World) (x : Member) (i : Input) (moment : ℕ) (at : member_at x.party.own w.members ≡ Some x) (stays : put_row own_of bytes_eq x w.members ≡ w.members) where
    then_is : (completion : Completion) (texts : List (List ℕ)) (facts : List NamedText) → (completion ≡ CutNew → KeepsChange x (Some i) moment)
        → texts ≡ w.texts ++ option_to_list (text_then (plan_at x i moment) completion) → facts ≡ map named_text w.facts ++ facts_then (plan_at x i moment) completion
        → IsThen w (world_after_given n w x (Some i) moment completion) (member_then x (plan_at x i moment) completion) texts facts
    then_is Whole texts facts keeps texts_are facts_are = after_is texts facts ((laws x i moment).whole n w at) texts_are facts_are
    then_is CutNew texts facts keeps texts_are facts_are = after_is texts facts ((laws x i moment).new n w at (keeps refl)) texts_are facts_are
    then_is CutOld texts facts keeps texts_are facts_are =
        let same : world_after_given n w x (Some i) moment CutOld ≡ w = (laws x i moment).old n w in
        record {
          members = ap (λ (v : World). v.members) same ∙ sym stays;
          texts_are = texts_are ∙ (append-nil w.texts ∙ ap (λ (v : World). v.texts) (sym same));
          facts_are = facts_are ∙ (append-nil (map named_text w.facts) ∙ ap (λ (v : World). map named_text v.facts) (sym same));
        }

  module _ (old post : AuditState) (mid q : Parties) (place : ℕ) (held y : Member) (i : Input) (o : EventOutcome) (was : Some held ≡ get_or old.parties.members_held.items place (Some held))
      (acted : IsActedHeld held i (record old { parties = mid }) post y o) where
    own_stays : y.party.own ≡ held.party.own
    own_stays = ap own_of acted.member ∙ own_then held i old.now.moment acted.completion

    module _ (names : q.names.keys ≡ old.parties.names.keys) (members_held : q.members_held.items ≡ set mid.members_held.items place (Some y)) (mid_held : mid.members_held.items ≡ set old.parties.members_held.items place None) where
      members_held_are : q.members_held.items ≡ set (set old.parties.members_held.items place None) place (Some y)
      members_held_are = members_held ∙ ap (λ (l : List (Option Member)). set l place (Some y)) mid_held

      pub held_then : place < length old.parties.members_held.items → HoldsEach old.parties → HoldsEach q
      held_then lt all = still_held old.parties q place held y was names members_held_are own_stays lt all

      pub plays_at : PlaysAt old (record post { parties = q }) place (Some i) 0 o
      plays_at = λ w n own letters placed shows.
          let holds_each : HoldsMembers old.parties (placed.front ++ placed.member ∷ placed.back) = subst (HoldsMembers old.parties) placed.split shows.holds_each in
          let is : held ≡ placed.member = same old.parties q place held y was names members_held_are own_stays placed.front placed.member placed.back placed.size holds_each in
          let own_is : held.party.own ≡ own = ap own_of is ∙ placed.own_is in
          let at : member_at own w.members ≡ Some held = ap (member_at own) placed.split ∙ (found own placed.front placed.member placed.back placed.none placed.own_is ∙ ap Some (sym is)) in
          let puts : (z : Member) → z.party.own ≡ held.party.own → put_row own_of bytes_eq z w.members ≡ placed.front ++ z ∷ placed.back =
          λ z z_own. ap (put_row own_of bytes_eq z) placed.split ∙ put own placed.front placed.member z placed.back placed.none placed.own_is (z_own ∙ own_is) in
          let stays : put_row own_of bytes_eq held w.members ≡ w.members = puts held refl ∙ (ap (λ (m : Member). placed.front ++ m ∷ placed.back) is ∙ sym placed.split) in
          let completes = subst (λ (ls : List ℕ). IsCompleted old.now.stop ls held (Some i) old.now.moment acted.completion post.letters) shows.letters_are acted.completes in
          let then = then_is n w held i old.now.moment (subst (λ (name : List ℕ). member_at name w.members ≡ Some held) (sym own_is) at) stays acted.completion post.texts post.facts
          (λ new. new_keeps old.now.stop letters post.letters held (Some i) old.now.moment (subst (λ (k : Completion). IsCompleted old.now.stop letters held (Some i) old.now.moment k post.letters) new completes))
          (acted.texts_are ∙ ap (λ (l : List (List ℕ)). l ++ option_to_list (text_then (plan_at held i old.now.moment) acted.completion)) shows.texts)
          (acted.facts_are ∙ ap (λ (l : List NamedText). l ++ facts_then (plan_at held i old.now.moment) acted.completion) shows.facts) in
          let later = world_after_given n w held (Some i) old.now.moment acted.completion in
          let members_are : later.members ≡ placed.front ++ y ∷ placed.back = then.members ∙ (puts (member_then held (plan_at held i old.now.moment) acted.completion) (own_then held i old.now.moment acted.completion) ∙ ap (λ (m : Member). placed.front ++ m ∷ placed.back) (sym acted.member)) in
          record {
            member = held;
            at = at;
            honest = acted.honest w.facts shows.facts;
            completion = acted.completion;
            left = post.letters;
            completes = completes;
            becomes = acted.becomes;
            shows = record {
              holds_each = subst (HoldsMembers q) (sym members_are) (held_again old.parties q place held y was names members_held_are own_stays placed.front placed.member placed.back placed.size holds_each);
              texts = then.texts_are;
              facts = then.facts_are;
              letters_are = refl;
            };
          }

-- or it has a fault
module _ (old : AuditState) (place : ℕ) (held : Member) (i : Input) (f : AuditFault) (was : Some held ≡ get_or old.parties.members_held.items place (Some held)) where
  pub wrong_held : ((known : List _) → old.facts ≡ map named_text known → IsWrongInput old.now known old.letters held (Some i) f) → IsWrongAt old place (Some i) f
  wrong_held wrong = λ w own letters placed shows.
      let holds_each = shows.holds_each.holds_each ∙ (ap (map Some) placed.split ∙ map_at Some placed.front placed.member placed.back) in
      let long : length (map Some placed.front) ≡ place = length-map placed.front Some ∙ placed.size in
      let both : Some held ≡ Some placed.member = was ∙ (ap (λ (l : List (Option Member)). get_or l place (Some held)) holds_each ∙ get_or_at (map Some placed.front) (Some placed.member) (map Some placed.back) (Some held) place long) in (
        held,
        ap (member_at own) placed.split ∙ (found own placed.front placed.member placed.back placed.none placed.own_is ∙ sym both),
        subst (λ (ls : List ℕ). IsWrongInput old.now w.facts ls held (Some i) f) shows.letters_are (wrong w.facts shows.facts),
      )

-- ---- bytes of which nothing is heard

module _ (old : AuditState) (place number : ℕ) where
  here : (w : World) (own letters : List ℕ) → (placed : IsPlaced own w.members place) → member_at own w.members ≡ Some placed.member
  here w own letters placed = ap (member_at own) placed.split ∙ found own placed.front placed.member placed.back placed.none placed.own_is

  pub unheard_whole : old.now.stop ≡ None → PlaysAt old old place None number (Refused number)
  unheard_whole waits = λ w n own letters placed shows. record {
    member = placed.member;
    at = here w own letters placed;
    honest = tt;
    completion = Whole;
    left = letters;
    completes = subst (λ (s : Option Stop). IsCompleted s letters placed.member None old.now.moment Whole letters) (sym waits) (refl, refl);
    becomes = subst (λ (s : Option Stop). IsOutcome s placed.member old.now.moment None number (Refused number)) (sym waits) refl;
    shows = shows;
  }

  pub unheard_cut : (stop : Stop) → old.now.stop ≡ Some stop → (left : List ℕ) → TakesLetter old.letters left false false → PlaysAt old (record old { letters = left }) place None number Stopped
  unheard_cut stop waits left t = λ w n own letters placed shows. record {
    member = placed.member;
    at = here w own letters placed;
    honest = tt;
    completion = CutOld;
    left = left;
    completes = subst (λ (s : Option Stop). IsCompleted s letters placed.member None old.now.moment CutOld left) (sym waits) (t.letter, sym shows.letters_are ∙ t.taken, inl (old_letter t.says, refl));
    becomes = subst (λ (s : Option Stop). IsOutcome s placed.member old.now.moment None number Stopped) (sym waits) refl;
    shows = record { holds_each = shows.holds_each; texts = shows.texts; facts = shows.facts; letters_are = refl };
  }
    where
      old_letter : ((false ≡ false) × (t.letter ≡ letter_old)) ⊎ ((false ≡ true) × (t.letter ≡ letter_new) × (false ≡ true)) → t.letter ≡ letter_old
      old_letter (inl is) = is.1
      old_letter (inr lie) = let l : false ≡ true = lie.2 in absurd (cc l)

  pub unheard_wrong : (stop : Stop) → old.now.stop ≡ Some stop → (f : AuditFault) → LacksLetter old.letters false old.now.number f → IsWrongAt old place None f
  unheard_wrong stop waits f lacks = λ w own letters placed shows. (placed.member, here w own letters placed, go f w own letters placed.member shows lacks)
    where
      go : (f : AuditFault) (w : World) (own letters : List ℕ) (x : Member) → Shows old w letters → LacksLetter old.letters false old.now.number f → IsWrongInput old.now w.facts letters x None f
      go (fault.Forged n) w own letters x shows lacks = absurd lacks
      go (fault.Impossible n) w own letters x shows lacks = (record { honest = tt; stop = stop; waits = waits }, (lacks.0, sym shows.letters_are ∙ lacks.1), (λ keeps. keeps), lacks.3)
      go (fault.Letters n) w own letters x shows lacks = (record { honest = tt; stop = stop; waits = waits }, sym shows.letters_are ∙ lacks.0, lacks.1)
      go (fault.Differs n) w own letters x shows lacks = absurd lacks
