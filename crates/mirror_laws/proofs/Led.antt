-- What a session over one disk or two each may have come to, by the events of its deeds: whichever images a crash may leave, also where
-- a first disk is lost then, there is a run that they stand for.
use Rattle.std.proofs.Common.{arith, ◌≡◌, ◌≢◌, ℕ, suc, ◌+◌, Bool, true, false, Option, Some, List, [], ◌∷◌, ◌++◌, length, refl, sym, ◌∙◌, ap, subst, bytes_eq, append-nil, append_assoc}
use Rattle.std.specs.Prelude.{is_some}
use Rattle.x_disk.specs.Disk.{View, Tells}
use Rattle.party_tables.proofs.Keys.{test_idents}
use Rattle.party_tables.proofs.Tables.{one_found}
use Rattle.member.specs.Member.{Member}
use Rattle.world_laws.specs.World.{World, member_at}
use Rattle.mirror_laws.specs.Runs.{PairEvent, pair_run, ArePairEvents}
use Rattle.mirror_laws.specs.Sessions.{PairDeed}
use Rattle.mirror_laws.specs.Deeds.{IsOfPairDeed, AreOfPairDeeds}
use Rattle.mirror_laws.proofs.Moves.{pair_number_after, pair_run_more, pair_events_more}
use Rattle.mirror_laws.proofs.Images.{Pair, StandsFor, MayBe}
use Rattle.mirror_laws.proofs.Ways.{Arrives, Going}
use Rattle.mirror_laws.proofs.OwnDisks.{second_view}

-- the images stand for a network with the names of the start, which has written these texts
pub record IsAt (start : World) (texts : List (List ℕ)) (images : List ℕ → Pair) (v : World) : Type 0 where
  pub stands : (q : List ℕ) (x : Member) → member_at q v.members ≡ Some x → StandsFor (images q).first (images q).second x
  pub there : (q : List ℕ) → is_some (member_at q v.members) ≡ is_some (member_at q start.members)
  pub texts_are : v.texts ≡ start.texts ++ texts

-- each is a pair that a crash may leave
abbrev pub IsPossible : World → (List ℕ → Option (List ℕ)) → (List ℕ → View) → (List ℕ → Pair) → Type 0
IsPossible start mirror disks images = (q : List ℕ) (x : Member) → member_at q start.members ≡ Some x → MayBe (disks q).may_leave (second_view (mirror q) disks).may_leave (images q).first (images q).second

pub record Led (start : World) (mirror : List ℕ → Option (List ℕ)) (disks : ℕ → List ℕ → View) (ds : List PairDeed) (images : List ℕ → Pair) : Type 0 where
  pub events : List PairEvent
  pub texts : List (List ℕ)
  pub of_deeds : AreOfPairDeeds mirror ds 0 disks events texts
  pub are_events : ArePairEvents events
  pub at : IsAt start texts images (pair_run 1 start events)

-- `disks` is what is told before each deed, and `now` what is told after these
pub record HasComeTo (start : World) (mirror : List ℕ → Option (List ℕ)) (disks : ℕ → List ℕ → View) (ds : List PairDeed) (now : List ℕ → View) : Type 0 where
  pub first_tells : (q : List ℕ) (x : Member) → member_at q start.members ≡ Some x → Tells (now q)
  pub second_tells : (q : List ℕ) (x : Member) → member_at q start.members ≡ Some x → Tells (second_view (mirror q) now)
  pub reach : (images : List ℕ → Pair) → IsPossible start mirror now images → Led start mirror disks ds images

-- one deed more
of_more : (mirror : List ℕ → Option (List ℕ)) (disks : ℕ → List ℕ → View) (ds : List PairDeed) (k : ℕ) (d : PairDeed) (es more : List PairEvent) (texts added : List (List ℕ)) → AreOfPairDeeds mirror ds k disks es texts
    → IsOfPairDeed mirror d (disks (k + length ds)) (disks (suc (k + length ds))) more added → AreOfPairDeeds mirror (ds ++ d ∷ []) k disks (es ++ more) (texts ++ added)
of_more mirror disks [] k d es more texts added is last =
    let place : k + 0 ≡ k = omega arith in
    record {
      first = more;
      others = [];
      whole = ap (λ (fs : List PairEvent). fs ++ more) is.0 ∙ sym (append-nil more);
      first_texts = added;
      other_texts = [];
      all = ap (λ (ts : List (List ℕ)). ts ++ added) is.1 ∙ sym (append-nil added);
      is = subst (λ (n : ℕ). IsOfPairDeed mirror d (disks n) (disks (suc n)) more added) place last;
      follow = (refl, refl);
    }
of_more mirror disks (c ∷ ds) k d es more texts added is last =
    let place : k + length (c ∷ ds) ≡ suc k + length ds = omega arith in
    record {
      first = is.first;
      others = is.others ++ more;
      whole = ap (λ (fs : List PairEvent). fs ++ more) is.whole ∙ append_assoc is.first is.others more;
      first_texts = is.first_texts;
      other_texts = is.other_texts ++ added;
      all = ap (λ (ts : List (List ℕ)). ts ++ added) is.all ∙ append_assoc is.first_texts is.other_texts added;
      is = is.is;
      follow = of_more mirror disks ds (suc k) d is.others more is.other_texts added is.follow (subst (λ (n : ℕ). IsOfPairDeed mirror d (disks n) (disks (suc n)) more added) place last);
    }

-- with no event
pub led_still : (start : World) (mirror : List ℕ → Option (List ℕ)) (disks : ℕ → List ℕ → View) (ds : List PairDeed) (images : List ℕ → Pair) (d : PairDeed) → IsOfPairDeed mirror d (disks (0 + length ds)) (disks (suc (0 + length ds))) [] []
    → Led start mirror disks ds images → Led start mirror disks (ds ++ d ∷ []) images
led_still start mirror disks ds images d none r = record {
  events = r.events;
  texts = r.texts;
  of_deeds = subst (λ (es : List PairEvent). AreOfPairDeeds mirror (ds ++ d ∷ []) 0 disks es r.texts) (append-nil r.events)
      (subst (λ (ts : List (List ℕ)). AreOfPairDeeds mirror (ds ++ d ∷ []) 0 disks (r.events ++ []) ts) (append-nil r.texts) (of_more mirror disks ds 0 d r.events [] r.texts [] r.of_deeds none));
  are_events = r.are_events;
  at = r.at;
}

-- one member goes on
module _ (start : World) (texts more : List (List ℕ)) (images new : List ℕ → Pair) (name : List ℕ) (w : World) (i : IsAt start texts images w)
    (x : Member) (at : member_at name w.members ≡ Some x) (others : (q : List ℕ) → q ≢ name → new q ≡ images q)
    (later : World) (arrives : Arrives name w later more (new name).first (new name).second) where
  stands : (q : List ℕ) (b : Bool) → bytes_eq q name ≡ b → (z : Member) → member_at q later.members ≡ Some z → StandsFor (new q).first (new q).second z
  stands q true e z h =
      let is : q ≡ name = (test_idents.decides q name).0 e in
      let at_z : member_at name later.members ≡ Some z = subst (λ (a : List ℕ). member_at a later.members ≡ Some z) is h in
      let same : arrives.member ≡ z = one_found arrives.member z arrives.moved.at at_z in
      let here : StandsFor (new name).first (new name).second z = subst (StandsFor (new name).first (new name).second) same arrives.stands in
      subst (λ (a : List ℕ). StandsFor (new a).first (new a).second z) (sym is) here
  stands q false e z h =
      let ne : q ≢ name = λ is. (let t : bytes_eq q name ≡ true = (test_idents.decides q name).1 is in cc) in
      let before : member_at q w.members ≡ Some z = sym (arrives.moved.others q ne) ∙ h in
      subst (λ (p : Pair). StandsFor p.first p.second z) (sym (others q ne)) (i.stands q z before)

  there : (q : List ℕ) (b : Bool) → bytes_eq q name ≡ b → is_some (member_at q later.members) ≡ is_some (member_at q start.members)
  there q true e =
      let is : q ≡ name = (test_idents.decides q name).0 e in
      let now : is_some (member_at q later.members) ≡ true = ap is_some (ap (λ (a : List ℕ). member_at a later.members) is ∙ arrives.moved.at) in
      let was : is_some (member_at q w.members) ≡ true = ap is_some (ap (λ (a : List ℕ). member_at a w.members) is ∙ at) in
      now ∙ (sym was ∙ i.there q)
  there q false e =
      let ne : q ≢ name = λ is. (let t : bytes_eq q name ≡ true = (test_idents.decides q name).1 is in cc) in
      ap is_some (arrives.moved.others q ne) ∙ i.there q

  one_more : IsAt start (texts ++ more) new later
  one_more = record {
    stands = λ q z h. stands q (bytes_eq q name) refl z h;
    there = λ q. there q (bytes_eq q name) refl;
    texts_are = arrives.moved.texts_are ∙ (ap (λ (ts : List (List ℕ)). ts ++ more) i.texts_are ∙ append_assoc start.texts texts more);
  }

-- with these events and texts, at the member of this name
pub led_on : (start : World) (mirror : List ℕ → Option (List ℕ)) (disks : ℕ → List ℕ → View) (ds : List PairDeed) (more : List (List ℕ)) (images new : List ℕ → Pair) (name : List ℕ) (r : Led start mirror disks ds images) (d : PairDeed) (x : Member)
    → member_at name (pair_run 1 start r.events).members ≡ Some x → ((q : List ℕ) → q ≢ name → new q ≡ images q)
    → Going name x more (λ es. IsOfPairDeed mirror d (disks (0 + length ds)) (disks (suc (0 + length ds))) es more) (new name).first (new name).second → Led start mirror disks (ds ++ d ∷ []) new
led_on start mirror disks ds more images new name r d x at others going = record {
  events = r.events ++ going.events;
  texts = r.texts ++ more;
  of_deeds = of_more mirror disks ds 0 d r.events going.events r.texts more r.of_deeds going.is;
  are_events = pair_events_more r.events going.events r.are_events going.are_events;
  at = subst (IsAt start (r.texts ++ more) new) (sym (pair_run_more 1 start r.events going.events))
      (one_more start r.texts more images new name (pair_run 1 start r.events) r.at x at others (pair_run (pair_number_after 1 r.events) (pair_run 1 start r.events) going.events)
      (going.arrives (pair_number_after 1 r.events) (pair_run 1 start r.events) at));
}
