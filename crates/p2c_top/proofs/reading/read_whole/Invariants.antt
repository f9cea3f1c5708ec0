use Rattle.std.proofs.Common.{◌≡◌, ◌≤◌, ◌+◌, ◌-◌, vec_len}
use Rattle.p2c_top.proofs.FrontLemmas.{IsFront}
use Rattle.p2c_top.proofs.reading.read_whole.Given as goal

abbrev pub invariant-loop-count : goal.invariant-loop-count
invariant-loop-count g l = record {
  bounded : vec_len l.bytes ≤ l.limit;
  front : IsFront (g.F.Files.told l.initial.files) l.name l.bytes.items;
  same : g.F.Files.told l.files ≡ g.F.Files.told l.initial.files;
  none_missing : g.F.Files.missing l.files ≡ g.F.Files.missing l.initial.files;
  no_fault : g.F.Files.faults l.files ≡ g.F.Files.faults l.initial.files;
}

abbrev pub decreases-loop-count : goal.decreases-loop-count
decreases-loop-count g l = l.limit + 1 - vec_len l.bytes
