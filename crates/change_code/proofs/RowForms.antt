-- The rows of a party's tables.
use Rattle.std.proofs.Common.{◌≡◌, ℕ, Bool, true, false, List, ◌++◌, Option, Some, None, refl, ap}
use Rattle.x_base.specs.declared.party.Side.{Side}
use Rattle.x_base.specs.declared.party.Side.TheVariants.{Sends, Takes}
use Rattle.x_base.specs.declared.party.Role.{Role}
use Rattle.x_base.specs.declared.party.Role.TheVariants as role
use Rattle.party_tables.specs.declared.key.KeyStatus.{KeyStatus}
use Rattle.party_tables.specs.declared.key.KeyStatus.TheVariants.{Pending, Live, Held, Closing, Ended}
use Rattle.change_code.specs.Reading.{Any, ident_form, label_form, word_form, count_form, next_form, name_form, pair_form, role_form, side_form, status_form, flag_form, maybe_form, link_form, key_form, answer_form}
use Rattle.change_code.proofs.Joining.{Apart, Shape, both, apart_both, apart_as}
use Rattle.change_code.proofs.Numbers.{word_apart, count_apart, next_apart}
use Rattle.change_code.proofs.Names.{ident_apart, label_apart, name_apart, pair_apart, short_apart}

side_same : (x y : Side) (r s : List ℕ) → Any x → Any y → side_form.code x ++ r ≡ side_form.code y ++ s → (x ≡ y) × (r ≡ s)
side_same Sends Sends r s fx fy is = (refl, cc is)
side_same Takes Takes r s fx fy is = (refl, cc is)
side_same Sends Takes r s fx fy is = absurd (cc is)
side_same Takes Sends r s fx fy is = absurd (cc is)

pub side_apart : Apart side_form
side_apart = record { same = side_same }

role_same : (x y : Role) (r s : List ℕ) → Any x → Any y → role_form.code x ++ r ≡ role_form.code y ++ s → (x ≡ y) × (r ≡ s)
role_same role.Bank role.Bank r s fx fy is = (refl, cc is)
role_same role.Distribution role.Distribution r s fx fy is = (refl, cc is)
role_same role.Translation role.Translation r s fx fy is = (refl, cc is)
role_same x y r s fx fy is = absurd (cc is)

pub role_apart : Apart role_form
role_apart = record { same = role_same }

status_same : (x y : KeyStatus) (r s : List ℕ) → Any x → Any y → status_form.code x ++ r ≡ status_form.code y ++ s → (x ≡ y) × (r ≡ s)
status_same Pending Pending r s fx fy is = (refl, cc is)
status_same Live Live r s fx fy is = (refl, cc is)
status_same Held Held r s fx fy is = (refl, cc is)
status_same Closing Closing r s fx fy is = (refl, cc is)
status_same Ended Ended r s fx fy is = (refl, cc is)
status_same x y r s fx fy is = absurd (cc is)

pub status_apart : Apart status_form
status_apart = record { same = status_same }

flag_same : (x y : Bool) (r s : List ℕ) → Any x → Any y → flag_form.code x ++ r ≡ flag_form.code y ++ s → (x ≡ y) × (r ≡ s)
flag_same false false r s fx fy is = (refl, cc is)
flag_same true true r s fx fy is = (refl, cc is)
flag_same x y r s fx fy is = absurd (cc is)

pub flag_apart : Apart flag_form
flag_apart = record { same = flag_same }

maybe_same : (x y : Option (List ℕ)) (r s : List ℕ) → maybe_form.Fits x → maybe_form.Fits y → maybe_form.code x ++ r ≡ maybe_form.code y ++ s → (x ≡ y) × (r ≡ s)
maybe_same None None r s fx fy is = (refl, cc is)
maybe_same (Some a) (Some b) r s fx fy is = let same = short_apart a b r s (cc is) in (ap Some same.0, same.1)
maybe_same None (Some b) r s fx fy is = absurd (cc is)
maybe_same (Some a) None r s fx fy is = absurd (cc is)

pub maybe_apart : Apart maybe_form
maybe_apart = record { same = maybe_same }

pub link_shape : Shape link_form (both ident_form (both label_form (both side_form (both pair_form (both next_form flag_form)))))
unfolding both
link_shape = record {
  parts = λ l. (l.peer, (l.label, (l.side, (l.pair, (l.next, l.ready)))));
  whole = λ p. record { peer = p.0; label = p.1.0; side = p.1.1.0; pair = p.1.1.1.0; next = p.1.1.1.1.0; ready = p.1.1.1.1.1 };
  back = λ l. refl;
  code = λ l. refl;
  fits = λ l is. (is.peer, (is.label, (tt, (is.pair, (is.next, tt)))));
}

pub link_apart : Apart link_form
link_apart = apart_as link_form _ link_shape
    (apart_both ident_form (both label_form (both side_form (both pair_form (both next_form flag_form)))) ident_apart
    (apart_both label_form (both side_form (both pair_form (both next_form flag_form))) label_apart
    (apart_both side_form (both pair_form (both next_form flag_form)) side_apart
    (apart_both pair_form (both next_form flag_form) pair_apart
    (apart_both next_form flag_form next_apart flag_apart)))))

pub key_shape : Shape key_form (both ident_form (both name_form (both word_form status_form)))
unfolding both
key_shape = record {
  parts = λ k. (k.peer, (k.name, (k.value, k.status)));
  whole = λ p. record { peer = p.0; name = p.1.0; value = p.1.1.0; status = p.1.1.1 };
  back = λ k. refl;
  code = λ k. refl;
  fits = λ k is. (is.peer, (is.name, (is.value, tt)));
}

pub key_apart : Apart key_form
key_apart = apart_as key_form _ key_shape
    (apart_both ident_form (both name_form (both word_form status_form)) ident_apart
    (apart_both name_form (both word_form status_form) name_apart
    (apart_both word_form status_form word_apart status_apart)))

pub answer_shape : Shape answer_form (both ident_form (both ident_form (both count_form word_form)))
unfolding both
answer_shape = record {
  parts = λ a. (a.requester, (a.ultimate, (a.cta, a.value)));
  whole = λ p. record { requester = p.0; ultimate = p.1.0; cta = p.1.1.0; value = p.1.1.1 };
  back = λ a. refl;
  code = λ a. refl;
  fits = λ a is. (is.requester, (is.ultimate, (is.cta, is.value)));
}

pub answer_apart : Apart answer_form
answer_apart = apart_as answer_form _ answer_shape
    (apart_both ident_form (both ident_form (both count_form word_form)) ident_apart
    (apart_both ident_form (both count_form word_form) ident_apart
    (apart_both count_form word_form count_apart word_apart)))
