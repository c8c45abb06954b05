-- A party with all its loads.
use Rattle.std.proofs.Common.{◌≡◌, ◌⊎◌, inl, inr, ℕ, zero, suc, ◌+◌, ◌*◌, ◌<◌, ◌≤◌, true, List, [], ◌∷◌, ◌++◌, length, get_or, take, drop, Option, Some, None, is_some, refl, sym, ◌∙◌, ap, subst, arith, take-append-drop}
use Rattle.std.specs.Prelude.{option_to_list}
use Rattle.std.proofs.lemmas.List.{take_all, take_at, append-nil, length_push}
use Rattle.std.proofs.lemmas.List.Elements.{filter_map-append}
use Rattle.x_disk.specs.Disk.{View, IsSound, LeavesOnly}
use Rattle.x_disk.proofs.Runs.{joined, weaker}
use Rattle.party_tables.specs.declared.link.LinkRec.{LinkRec}
use Rattle.key_store.specs.Store.{Stored, IsStore, space}
use Rattle.scenario.specs.declared.line.Line.{Line}
use Rattle.scenario.specs.Behind.{EachBehind}
use Rattle.scenario.specs.Rules.{may_follow}
use Rattle.member.specs.Member.{Member}
use Rattle.node_core.specs.Turns.{member_of, IsImageOf, IsOldOrNext}
use Rattle.course.specs.Starts.{load_at, loads_of, with_load, with_loads}
use Rattle.course.specs.Parties.{new_member, full_member}
use Rattle.replay.specs.SettingUp.{least_room, HasBegun, CanLoad, IsLoadOrSame, IsLoadedInPart, IsLoadedTo, IsPartlyLoaded, BeginsInPart, BeginsOnly, IsSetUp, IsFailedSetUpDisk}
use Rattle.open_parties.specs.declared.failure.Failure.{Failure}
use Rattle.course.specs.declared.declaring.NewParty.{NewParty}
use Rattle.replay.specs.declared.making.SetUpEnd.TheVariants.{Failed}
use Rattle.replay.proofs.Adding.{adds_all, adds_on}
use Rattle.replay.proofs.Begun.{none_loaded}
use Rattle.replay.proofs.Lengths.{longest_is}
use Rattle.replay.proofs.Loads.{loads_append, loads_more, first_loads, few_before, follows}

none_or_all : (o : Option LinkRec) (k : ℕ) → (take k (option_to_list o) ≡ []) ⊎ (take k (option_to_list o) ≡ option_to_list o)
none_or_all None k = inl (take_all k [] (omega arith))
none_or_all (Some l) zero = inl refl
none_or_all (Some l) (suc k) = inr (ap (λ (ls : List LinkRec). l ∷ ls) (take_all k [] (omega arith)))

-- the first of some are the first of more
first_of_more : (a b : List LinkRec) (k : ℕ) → (n : ℕ) × (take k a ≡ take n (a ++ b))
first_of_more [] b k = (0, take_all k [] (omega arith))
first_of_more (l ∷ a) b zero = (0, refl)
first_of_more (l ∷ a) b (suc k) = let more = first_of_more a b k in (suc more.0, ap (λ (ls : List LinkRec). l ∷ ls) more.1)

-- an image with some of the loads, and with one load more
in_more : (x : Member) (a b : List LinkRec) (image : List ℕ) → IsLoadedInPart x a image → IsLoadedInPart x (a ++ b) image
in_more x a b image part = let more = first_of_more a b part.0 in (more.0, subst (λ (m : Member). IsImageOf m image) (ap (with_loads x) more.1) part.1)

in_next : (x y : Member) (a : List LinkRec) (l : LinkRec) (image : List ℕ) → y ≡ with_loads x a → IsOldOrNext y (with_load y l) image → IsLoadedInPart x (a ++ l ∷ []) image
in_next x y a l image is (inl before) = (length a, subst (λ (m : Member). IsImageOf m image) (is ∙ ap (with_loads x) (sym (take_at a (l ∷ []) (length a) refl))) before)
in_next x y a l image is (inr after) =
    (length (a ++ l ∷ []), subst (λ (m : Member). IsImageOf m image) (ap (λ (m : Member). with_load m l) is ∙ (sym (loads_append x a (l ∷ [])) ∙ ap (with_loads x) (sym (take_all (length (a ++ l ∷ [])) (a ++ l ∷ []) (omega arith))))) after)

split_loads : (own : List ℕ) (lines : List Line) (i : ℕ) → loads_of own lines ≡ loads_of own (take i lines) ++ loads_of own (drop i lines)
split_loads own lines i = ap (loads_of own) (sym (take-append-drop i lines)) ∙ filter_map-append (load_at own) (take i lines) (drop i lines)

module _ {D : Type 0} (told : D → View) (old : Stored D) where
  -- before the first line
  pub loaded_none : IsSound (told old.disk) → IsStore (told old.disk) old.gate old.end old.format old.party → old.party.links ≡ [] → IsLoadedTo told old old []
  loaded_none sound store none = record {
    member = refl;
    tells = refl;
    links = omega (arith, ap length none);
    room = subst (λ (most : ℕ). (space old).room ≤ (space old).room + most * 0) (sym longest_is) (omega arith);
    any_moment = none_loaded told old sound store [];
  }

  module _ (own : List ℕ) (lines : List Line) (i : ℕ) (x : Line) (lt : i < length lines) (is : x ≡ get_or lines i x) (s : Stored D) (so_far : IsLoadedTo told old s (loads_of own (take i lines))) where
    so_room : (space old).room ≤ (space s).room + 73 * length (loads_of own (take i lines))
    so_room = subst (λ (most : ℕ). (space old).room ≤ (space s).room + most * length (loads_of own (take i lines))) longest_is so_far.room

    pub can_load : EachBehind may_follow lines → least_room ≤ (space old).room → CanLoad s (load_at own x)
    can_load rules least = go (load_at own x) refl
      where
        go : (o : Option LinkRec) → load_at own x ≡ o → CanLoad s o
        go None at = tt
        go (Some l) at =
            let few = few_before own (take i lines) x l (follows lines i x rules lt is) at in
            record { few = omega (arith, few, so_far.links); room = omega (arith, few, so_room, least, longest_is) }

    pub loaded_more : (new : Stored D) → IsLoadOrSame told s new (load_at own x) → IsLoadedTo told old new (loads_of own (take (i + 1) lines))
    loaded_more new load = subst (λ (ls : List LinkRec). IsLoadedTo told old new ls) (sym (loads_more own lines i x lt is)) (go (load_at own x) load)
      where
        go : (o : Option LinkRec) → IsLoadOrSame told s new o → IsLoadedTo told old new (loads_of own (take i lines) ++ option_to_list o)
        go None same =
            subst (λ (ls : List LinkRec). IsLoadedTo told old new ls) (sym (append-nil (loads_of own (take i lines)))) (subst (λ (t : Stored D). IsLoadedTo told old t (loads_of own (take i lines))) (sym same) so_far)
        go (Some l) one =
            let more = length_push (loads_of own (take i lines)) l in
            record {
              member = one.member ∙ (ap (λ (m : Member). with_load m l) so_far.member ∙ sym (loads_append (member_of old) (loads_of own (take i lines)) (l ∷ [])));
              tells = one.tells ∙ so_far.tells;
              links = omega (arith, more, one.links, so_far.links);
              room = subst (λ (most : ℕ). (space old).room ≤ (space new).room + most * length (loads_of own (take i lines) ++ l ∷ [])) (sym longest_is) (omega (arith, more, one.room, so_room, longest_is));
              any_moment = λ tells.
                  let x = member_of old in
                  let was = loads_of own (take i lines) in
                  let P = IsLoadedInPart x (was ++ l ∷ []) in
                  joined (told old.disk) (told s.disk) (told new.disk) P (weaker (told old.disk) (told s.disk) (IsLoadedInPart x was) P (so_far.any_moment tells) (in_more x was (l ∷ [])))
                  (weaker (told s.disk) (told new.disk) (IsOldOrNext (member_of s) (with_load (member_of s) l)) P (one.any_moment (so_far.tells ∙ tells)) (λ image. in_next x (member_of s) was l image so_far.member));
            }

    pub partly_more : (w : View) (why : Failure) → IsPartlyLoaded (told s.disk) w (member_of s) (option_to_list (load_at own x)) why → IsPartlyLoaded (told old.disk) w (member_of old) (loads_of own lines) why
    partly_more w why part = record {
      failing = λ tells. part.failing (so_far.tells ∙ tells);
      tells = part.tells ∙ so_far.tells;
      partly = λ tells image now. reached image (part.partly (so_far.tells ∙ tells) image now);
      any_moment = λ tells.
          joined (told old.disk) (told s.disk) w (IsLoadedInPart (member_of old) (loads_of own lines)) (weaker (told old.disk) (told s.disk) (IsLoadedInPart (member_of old) (loads_of own (take i lines))) (IsLoadedInPart (member_of old) (loads_of own lines)) (so_far.any_moment tells) reached_before)
          (weaker (told s.disk) w (IsLoadedInPart (member_of s) (option_to_list (load_at own x))) (IsLoadedInPart (member_of old) (loads_of own lines)) (part.any_moment (so_far.tells ∙ tells)) reached);
      fault = part.fault;
    }
      where
        first : with_loads (member_of s) [] ≡ with_loads (member_of old) (take (length (loads_of own (take i lines))) (loads_of own lines))
        first = so_far.member ∙ ap (with_loads (member_of old)) (sym (first_loads own lines i))

        next : with_loads (member_of s) (option_to_list (load_at own x)) ≡ with_loads (member_of old) (take (length (loads_of own (take (i + 1) lines))) (loads_of own lines))
        next = ap (λ (m : Member). with_loads m (option_to_list (load_at own x))) so_far.member
            ∙ (sym (loads_append (member_of old) (loads_of own (take i lines)) (option_to_list (load_at own x)))
            ∙ (ap (with_loads (member_of old)) (sym (loads_more own lines i x lt is)) ∙ ap (with_loads (member_of old)) (sym (first_loads own lines (i + 1)))))

        reach : (image : List ℕ) (k : ℕ) → IsImageOf (with_loads (member_of s) (take k (option_to_list (load_at own x)))) image
            → (take k (option_to_list (load_at own x)) ≡ []) ⊎ (take k (option_to_list (load_at own x)) ≡ option_to_list (load_at own x)) → (n : ℕ) × IsImageOf (with_loads (member_of old) (take n (loads_of own lines))) image
        reach image k stands (inl none) = (length (loads_of own (take i lines)), subst (λ (m : Member). IsImageOf m image) (ap (with_loads (member_of s)) none ∙ first) stands)
        reach image k stands (inr all) = (length (loads_of own (take (i + 1) lines)), subst (λ (m : Member). IsImageOf m image) (ap (with_loads (member_of s)) all ∙ next) stands)

        reached : (image : List ℕ) → IsLoadedInPart (member_of s) (option_to_list (load_at own x)) image → IsLoadedInPart (member_of old) (loads_of own lines) image
        reached image p = reach image p.0 p.1 (none_or_all (load_at own x) p.0)

        reached_before : (image : List ℕ) → IsLoadedInPart (member_of old) (loads_of own (take i lines)) image → IsLoadedInPart (member_of old) (loads_of own lines) image
        reached_before image p =
            subst (λ (ls : List LinkRec). IsLoadedInPart (member_of old) ls image) (sym (split_loads own lines i)) (in_more (member_of old) (loads_of own (take i lines)) (loads_of own (drop i lines)) image p)

  -- ---- the party is made

  module _ (v : View) (party : NewParty) (begun_is : HasBegun told v party old) where
    pub makes : (lines : List Line) (n : Stored D) → IsLoadedTo told old n (loads_of party.own lines) → IsSetUp told v (full_member lines party) n
    makes lines n done = record {
      blank = begun_is.blank;
      tells = done.tells ∙ begun_is.tells;
      member = done.member ∙ ap (λ (m : Member). with_loads m (loads_of party.own lines)) begun_is.member;
    }

    module _ (loads : List LinkRec) (sound : IsSound (told old.disk)) (only : BeginsOnly v (told old.disk) (new_member party) loads) where
      begun_in : (image : List ℕ) → IsLoadedInPart (member_of old) loads image → BeginsInPart v (new_member party) loads image
      begun_in image p = (begun_is.blank, inr (p.0, subst (λ (m : Member). IsImageOf (with_loads m (take p.0 loads)) image) begun_is.member p.1))

      -- a crash at any moment of the set-up
      pub makes_only : (w : View) → (is_some (told old.disk).now ≡ true → LeavesOnly (told old.disk) w (IsLoadedInPart (member_of old) loads)) → BeginsOnly v w (new_member party) loads
      makes_only w run = λ tells.
          let P = BeginsInPart v (new_member party) loads in
          adds_on v (told old.disk) w P sound (only tells) (adds_all (told old.disk) w P (weaker (told old.disk) w (IsLoadedInPart (member_of old) loads) P (run (begun_is.tells ∙ tells)) begun_in))

      pub failed_set_up_part : (w : View) (why : Failure) → IsPartlyLoaded (told old.disk) w (member_of old) loads why → IsFailedSetUpDisk v w (new_member party) loads (Failed why)
      failed_set_up_part w why part = record {
        failed_set_up = λ tells. record {
          failing = part.failing (begun_is.tells ∙ tells);
          tells = part.tells ∙ (begun_is.tells ∙ tells);
          begins = λ image now. inr (begun_in image (part.partly (begun_is.tells ∙ tells) image now));
        };
        any_moment = makes_only w part.any_moment;
        fault = λ is. part.fault (cc is);
      }
