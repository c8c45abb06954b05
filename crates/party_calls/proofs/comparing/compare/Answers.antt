use Rattle.std.proofs.Common.{◌≡◌}
use Rattle.party_calls.proofs.Likening.{comparing, comparison_cause, comparison_follows, comparison_rest}
use Rattle.party_calls.proofs.comparing.compare.Goals as goal

pub returns : goal.returns
returns g c =
    let party = c.args.party.now in
    let mirror = c.args.mirror.now in
    let r = c.compare_pair-compared.ensures in
    let f = c.finish_comparison.ensures in
    let o = c.compare_pair-compared.result in
    let s = c.finish_comparison.result in
    let before = g.K.Sink.written c.args.sink.now in
    let after = g.K.Sink.written c.finish_comparison.new.sink in
    let old = g.H.Shelf.entry c.args.shelf.now in
    let new = g.H.Shelf.entry c.compare_pair-compared.new.shelf in
    let put = g.K.Sink.faults c.args.sink.now in
    let puts = g.K.Sink.faults c.finish_comparison.new.sink in
    let disk = g.H.Shelf.faults c.args.shelf.now in
    let disks = g.H.Shelf.faults c.compare_pair-compared.new.shelf in
    record {
      compared = comparing party mirror old new o s before after r.tells r.shelf.first_stays r.shelf.second_stays f.ends;
      follows = λ put_quiet disk_quiet. comparison_follows o s before after put puts disk disks f.ends f.output.fault r.shelf.fault (old party) (old mirror) r.due put_quiet disk_quiet;
      rest = comparison_rest o s before after put puts disk disks f.ends f.output.fault r.shelf.fault party mirror (g.H.Shelf.is_back c.compare_pair-compared.new.shelf)
          (c.finish_comparison.new.sink ≡ c.args.sink.now) old new r.shelf f.answered f.output.silent;
      cause = comparison_cause o s before after put puts disk disks f.ends f.output.fault r.shelf.fault;
    }
