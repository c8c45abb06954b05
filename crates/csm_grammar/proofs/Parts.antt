-- The parts of a message that a text says are of the types that hold them.
use Rattle.std.proofs.Common.{◌≡◌, ℕ, ◌<◌, ◌^◌, Option, Some, None, List, subst}
use Rattle.std.specs.List.{AllByRecursion}
use Rattle.x_base.specs.Names.{IsIdent, IsLabel}
use Rattle.x_base.specs.Count.{IsCount}
use Rattle.csm_grammar.specs.declared.tag.Tag.TheVariants.{Kdu, Ctp, Cta, Ctb, Ctr, Idk1, Erf}
use Rattle.csm_grammar.specs.declared.message.NewKk.{NewKk}
use Rattle.csm_grammar.specs.declared.message.NewKk.TheVariants as new_kk
use Rattle.csm_grammar.specs.declared.message.KsmBody.{KsmBody}
use Rattle.csm_grammar.specs.declared.message.KsmBody.TheVariants as body
use Rattle.csm_grammar.specs.declared.message.Rtr.{Rtr}
use Rattle.csm_grammar.specs.declared.message.Rfs.{Rfs}
use Rattle.csm_grammar.specs.declared.message.Ers.{Ers}
use Rattle.csm_grammar.specs.declared.message.Ksm.{Ksm}
use Rattle.csm_grammar.specs.declared.message.Esm.{Esm}
use Rattle.csm_grammar.specs.declared.message.Message.TheVariants as message
use Rattle.csm_grammar.specs.Values.{OfLabel, OfKey, OfCount, OfReason}
use Rattle.csm_grammar.specs.Messages.{all_fields}
use Rattle.csm_grammar.specs.Spelling.{values_for, Says}
use Rattle.csm_grammar.specs.Kinds.{IsReason, IsOfKind}
use Rattle.csm_grammar.proofs.Typed.{values_typed, said_typed}

pub ksm_org : (text : List ℕ) (m : Ksm) → Says text (message.Ksm m) → IsIdent m.originator
ksm_org text m s = (said_typed text (message.Ksm m) s).1.0

pub esm_org : (text : List ℕ) (m : Esm) → Says text (message.Esm m) → IsIdent m.originator
esm_org text m s = (said_typed text (message.Esm m) s).1.0

pub rtr_org : (text : List ℕ) (m : Rtr) → Says text (message.Rtr m) → IsIdent m.originator
rtr_org text m s = (said_typed text (message.Rtr m) s).1.0

pub rfs_org : (text : List ℕ) (m : Rfs) → Says text (message.Rfs m) → IsIdent m.originator
rfs_org text m s = (said_typed text (message.Rfs m) s).1.0

pub rtr_ultimate : (text : List ℕ) (m : Rtr) → Says text (message.Rtr m) → IsIdent m.ultimate
rtr_ultimate text m s = (said_typed text (message.Rtr m) s).1.1.0

pub rtr_kdu : (text : List ℕ) (m : Rtr) → Says text (message.Rtr m) → m.kdu < 2 ^ 64
rtr_kdu text m s = go m.kd (values_typed Kdu text (message.Rtr m) s)
  where
    go : (o : Option (ℕ × ℕ)) → AllByRecursion (IsOfKind OfKey) (values_for Kdu (all_fields (message.Rtr (record m { kd = o })) s.shut)) → m.kdu < 2 ^ 64
    go None h = h.0
    go (Some k) h = h.0

pub rtr_ctb : (text : List ℕ) (m : Rtr) → Says text (message.Rtr m) → IsCount m.ctb
rtr_ctb text m s = go m.kd (values_typed Ctb text (message.Rtr m) s)
  where
    go : (o : Option (ℕ × ℕ)) → AllByRecursion (IsOfKind OfCount) (values_for Ctb (all_fields (message.Rtr (record m { kd = o })) s.shut)) → IsCount m.ctb
    go None h = h.0
    go (Some k) h = h.0

pub rtr_cta : (text : List ℕ) (m : Rtr) (k : ℕ × ℕ) → m.kd ≡ Some k → Says text (message.Rtr m) → IsCount k.1
rtr_cta text m k e s = go m.kd e (values_typed Cta text (message.Rtr m) s)
  where
    go : (o : Option (ℕ × ℕ)) → o ≡ Some k → AllByRecursion (IsOfKind OfCount) (values_for Cta (all_fields (message.Rtr (record m { kd = o })) s.shut)) → IsCount k.1
    go None i h = absurd (cc)
    go (Some j) i h = (let is : j ≡ k = cc in subst (λ (z : ℕ × ℕ). IsCount z.1) is h.0)

pub rfs_cta : (text : List ℕ) (m : Rfs) → Says text (message.Rfs m) → IsCount m.cta
rfs_cta text m s = (values_typed Cta text (message.Rfs m) s).0

pub ers_ctr : (text : List ℕ) (m : Ers) → Says text (message.Ers m) → IsCount m.ctr
ers_ctr text m s = (values_typed Ctr text (message.Ers m) s).0

-- the counts of a key service message
pub direct_count : (text : List ℕ) (m : Ksm) (idk2 : Option (List ℕ)) (new : Option (List ℕ × NewKk)) (kd ctp : ℕ) → m.body ≡ body.Direct idk2 new kd ctp → Says text (message.Ksm m) → IsCount ctp
direct_count text m idk2 new kd ctp e s = go idk2 new (subst (λ (z : KsmBody). AllByRecursion (IsOfKind OfCount) (values_for Ctp (all_fields (message.Ksm (record m { body = z })) s.shut))) e (values_typed Ctp text (message.Ksm m) s))
  where
    go : (o : Option (List ℕ)) (n : Option (List ℕ × NewKk)) → AllByRecursion (IsOfKind OfCount) (values_for Ctp (all_fields (message.Ksm (record m { body = body.Direct o n kd ctp })) s.shut)) → IsCount ctp
    go None None h = h.0
    go (Some label) None h = h.0
    go None (Some (n, new_kk.Double l r)) h = h.0
    go None (Some (n, new_kk.Single l)) h = h.0
    go (Some label) (Some (n, new_kk.Double l r)) h = h.0
    go (Some label) (Some (n, new_kk.Single l)) h = h.0

pub centre_count : (text : List ℕ) (m : Ksm) (centre : List ℕ) (kdu ctb : ℕ) → m.body ≡ body.Centre centre kdu ctb → Says text (message.Ksm m) → IsCount ctb
centre_count text m centre kdu ctb e s = (subst (λ (z : KsmBody). AllByRecursion (IsOfKind OfCount) (values_for Ctb (all_fields (message.Ksm (record m { body = z })) s.shut))) e (values_typed Ctb text (message.Ksm m) s)).0

pub twin_count : (text : List ℕ) (m : Ksm) (idk2 : Option (List ℕ)) (first second ctp : ℕ) → m.body ≡ body.Twin idk2 first second ctp → Says text (message.Ksm m) → IsCount ctp
twin_count text m idk2 first second ctp e s = go idk2 (subst (λ (z : KsmBody). AllByRecursion (IsOfKind OfCount) (values_for Ctp (all_fields (message.Ksm (record m { body = z })) s.shut))) e (values_typed Ctp text (message.Ksm m) s))
  where
    go : (o : Option (List ℕ)) → AllByRecursion (IsOfKind OfCount) (values_for Ctp (all_fields (message.Ksm (record m { body = body.Twin o first second ctp })) s.shut)) → IsCount ctp
    go None h = h.0
    go (Some label) h = h.0

-- the label of a new key
pub new_label : (text : List ℕ) (m : Ksm) (idk2 : Option (List ℕ)) (new : List ℕ × NewKk) (kd ctp : ℕ) → m.body ≡ body.Direct idk2 (Some new) kd ctp → Says text (message.Ksm m) → IsLabel new.0
new_label text m idk2 new kd ctp e s = (subst (λ (z : KsmBody). AllByRecursion (IsOfKind OfLabel) (values_for Idk1 (all_fields (message.Ksm (record m { body = z })) s.shut))) e (values_typed Idk1 text (message.Ksm m) s)).0

pub esm_reason : (text : List ℕ) (m : Esm) → Says text (message.Esm m) → IsReason m.erf
esm_reason text m s = go m.ctp m.cta m.ctb m.ctr (values_typed Erf text (message.Esm m) s)
  where
    go : (a b c d : Option ℕ) → AllByRecursion (IsOfKind OfReason) (values_for Erf (all_fields (message.Esm (record m { ctp = a; cta = b; ctb = c; ctr = d })) s.shut)) → IsReason m.erf
    go None None None None h = h.0
    go None None None (Some w) h = h.0
    go None None (Some z) None h = h.0
    go None None (Some z) (Some w) h = h.0
    go None (Some y) None None h = h.0
    go None (Some y) None (Some w) h = h.0
    go None (Some y) (Some z) None h = h.0
    go None (Some y) (Some z) (Some w) h = h.0
    go (Some x) None None None h = h.0
    go (Some x) None None (Some w) h = h.0
    go (Some x) None (Some z) None h = h.0
    go (Some x) None (Some z) (Some w) h = h.0
    go (Some x) (Some y) None None h = h.0
    go (Some x) (Some y) None (Some w) h = h.0
    go (Some x) (Some y) (Some z) None h = h.0
    go (Some x) (Some y) (Some z) (Some w) h = h.0

pub esm_counts : (text : List ℕ) (m : Esm) (ctr : ℕ) → m.ctr ≡ Some ctr → Says text (message.Esm m) → IsCount ctr
esm_counts text m ctr e s = go m.ctp m.cta m.ctb m.ctr e (values_typed Ctr text (message.Esm m) s)
  where
    go : (a b c d : Option ℕ) → d ≡ Some ctr → AllByRecursion (IsOfKind OfCount) (values_for Ctr (all_fields (message.Esm (record m { ctp = a; cta = b; ctb = c; ctr = d })) s.shut)) → IsCount ctr
    go a b c None i h = absurd (cc)
    go None None None (Some n) i h = (let is : n ≡ ctr = cc in subst IsCount is h.0)
    go None None (Some z) (Some n) i h = (let is : n ≡ ctr = cc in subst IsCount is h.0)
    go None (Some y) None (Some n) i h = (let is : n ≡ ctr = cc in subst IsCount is h.0)
    go None (Some y) (Some z) (Some n) i h = (let is : n ≡ ctr = cc in subst IsCount is h.0)
    go (Some x) None None (Some n) i h = (let is : n ≡ ctr = cc in subst IsCount is h.0)
    go (Some x) None (Some z) (Some n) i h = (let is : n ≡ ctr = cc in subst IsCount is h.0)
    go (Some x) (Some y) None (Some n) i h = (let is : n ≡ ctr = cc in subst IsCount is h.0)
    go (Some x) (Some y) (Some z) (Some n) i h = (let is : n ≡ ctr = cc in subst IsCount is h.0)
