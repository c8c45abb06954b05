-- Help is written: it ends done, or the sink failed.
use Rattle.std.proofs.Common.{◌≡◌, ◌⊎◌, ◌++◌, inl, inr, ℕ, List, [], Option, Some, None, sym, ◌∙◌, subst}
use Rattle.x_base.specs.Edge.{Rose}
use Rattle.help_texts.specs.declared.asking.Topic.{Topic}
use Rattle.help_texts.specs.Lines.{head_of}
use Rattle.x_line.specs.declared.usage.UsageKind.{UsageKind}
use Rattle.x_line.specs.Usage.{usage_of}
use Rattle.call_ends.specs.declared.status.Status.{Status}
use Rattle.call_ends.specs.declared.status.Status.TheVariants as status
use Rattle.call_ends.specs.Causes.{HasFaults}
use Rattle.call_ends.specs.Puts.{Puts}
use Rattle.x917.specs.Helped.{IsHelp}

module _ (text : List ℕ) (s : Status) (before after : Option (List ℕ)) (puts : Puts (Some text) [] status.Done s before after) where
  pub help_of : (topic : Topic) → (words : List ℕ) × (text ≡ head_of topic ++ words) → IsHelp topic s before after
  help_of topic of = inl (of.0, subst (λ (t : List ℕ). Puts (Some t) [] status.Done s before after) of.1 puts)

  done_or_write : (s ≡ status.Done) ⊎ (s ≡ status.WriteFault)
  done_or_write = go puts where
    go : Puts (Some text) [] status.Done s before after → (s ≡ status.Done) ⊎ (s ≡ status.WriteFault)
    go (inl done) = inl done.0
    go (inr part) = inr part.0

  pub never_usage : (kind : UsageKind) → s ≡ status.Usage kind → ⊥
  never_usage kind is = go done_or_write where
    go : (s ≡ status.Done) ⊎ (s ≡ status.WriteFault) → ⊥
    go (inl done) = let no : status.Done ≡ status.Usage kind = sym done ∙ is in cc
    go (inr part) = let no : status.WriteFault ≡ status.Usage kind = sym part ∙ is in cc

  never_read : s ≡ status.ReadFault → ⊥
  never_read is = go done_or_write where
    go : (s ≡ status.Done) ⊎ (s ≡ status.WriteFault) → ⊥
    go (inl done) = let no : status.Done ≡ status.ReadFault = sym done ∙ is in cc
    go (inr part) = let no : status.WriteFault ≡ status.ReadFault = sym part ∙ is in cc

  never_disk : s ≡ status.DiskFault → ⊥
  never_disk is = go done_or_write where
    go : (s ≡ status.Done) ⊎ (s ≡ status.WriteFault) → ⊥
    go (inl done) = let no : status.Done ≡ status.DiskFault = sym done ∙ is in cc
    go (inr part) = let no : status.WriteFault ≡ status.DiskFault = sym part ∙ is in cc

  pub help_faults : (read put later disk : ℕ) → (s ≡ status.Done) ⊎ Rose put later → HasFaults s read read put later disk disk
  help_faults read put later disk cause = record {
    read_fault = λ is. absurd (never_read is);
    write_fault = λ is. rose is cause;
    disk_fault = λ is. absurd (never_disk is);
  } where
    rose : s ≡ status.WriteFault → (s ≡ status.Done) ⊎ Rose put later → Rose put later
    rose is (inl done) = let no : status.Done ≡ status.WriteFault = sym done ∙ is in absurd cc
    rose is (inr risen) = risen

-- words in which something is wrong stand for no order
pub no_order : {A : Type 0} (words : List (List ℕ)) (kind : UsageKind) → usage_of words ≡ Some kind → usage_of words ≡ None → A
no_order words kind wrong none = let no : Some kind ≡ None = sym wrong ∙ none in absurd cc
