-- What is promised of every arrival.
use Rattle.std.proofs.Common.{take}
use Rattle.std.proofs.Math.Logic.{∥∥₁_elim}
use Rattle.std.specs.List.{AllByRecursion-prop}
use Rattle.csm_grammar.specs.Kinds.{IsFieldOfKind}
use Rattle.csm_grammar.specs.Values.{kind_of}
use Rattle.csm_grammar.specs.Messages.{fields_of}
use Rattle.csm_grammar.specs.Arrivals.{AllArrived}
use Rattle.csm_grammar.proofs.Allowed.{read_allows}
use Rattle.csm_grammar.proofs.Typed.{spelled_typed}
use Rattle.csm_grammar.proofs.OneProof.{test_prop, kind_prop}

pub arrived : AllArrived
arrived a = record {
  allowed = ∥∥₁_elim a.arrived test_prop (λ i. read_allows a.text a.parsed i.read);
  typed = ∥∥₁_elim a.arrived (AllByRecursion-prop IsFieldOfKind (λ v. kind_prop (kind_of v.tag) v.value) (fields_of a.parsed.message)) (λ i. spelled_typed (take a.parsed.len a.text) a.parsed.message a.parsed.shut a.parsed.auth_len i.read.spelled);
}
