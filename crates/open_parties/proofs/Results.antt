-- What holds of an answer, or of what may be there, made weaker.
use Rattle.std.proofs.Common.{◌≡◌, Result, Ok, Err, IfOk, IfErr, OnErr, Option, Some, None, IfSome, IfNone, subst}
use Rattle.std.specs.Result.{IsErrAnd}

pub if_ok : {T E : Type 0} (r : Result T E) (P Q : T → Type 0) → ((x : T) → P x → Q x) → IfOk r P → IfOk r Q
if_ok (Ok x) P Q more is = more x is
if_ok (Err e) P Q more is = tt

pub if_some : {T : Type 0} (o : Option T) (P Q : T → Type 0) → ((x : T) → P x → Q x) → IfSome o P → IfSome o Q
if_some (Some x) P Q more is = more x is
if_some None P Q more is = tt

pub if_none : {T : Type 0} (o : Option T) (P Q : Type 0) → (P → Q) → IfNone o P → IfNone o Q
if_none (Some x) P Q more is = tt
if_none None P Q more is = more is

-- an answer has one error
pub one_err : {T E : Type 0} (r : Result T E) (d e : E) → r ≡ Err d → r ≡ Err e → d ≡ e
one_err r d e first second = cc

pub on_err : {T E : Type 0} (r : Result T E) (P : Type 0) → P → OnErr r P
on_err (Ok x) P is = tt
on_err (Err e) P is = is

-- what holds of the error of an answer
pub of_err : {T E : Type 0} (r : Result T E) (P : E → Type 0) (e : E) → IsErrAnd r P → r ≡ Err e → P e
of_err r P e of is = subst (λ (x : Result _ _). IsErrAnd x P) is of

pub of_if_err : {T E : Type 0} (r : Result T E) (P : E → Type 0) (e : E) → IfErr r P → r ≡ Err e → P e
of_if_err r P e of is = subst (λ (x : Result _ _). IfErr x P) is of
