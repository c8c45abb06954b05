use Rattle.std.proofs.Common.{◌≡◌, ◌≤◌, take}
use Rattle.std.specs.Prelude.{count_by}
use Rattle.audit_check.specs.Answers.{is_line_feed}
use Rattle.audit_check.proofs.comparison.line_feeds.Given as goal

abbrev pub invariant-loop-byte : goal.invariant-loop-byte
invariant-loop-byte l = record {
  counted : l.count ≡ count_by is_line_feed (take l.byte-index l.bytes);
  few : l.count ≤ l.byte-index;
}
