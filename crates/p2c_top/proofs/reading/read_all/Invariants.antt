use Rattle.std.proofs.Common.{◌≡◌, length, map}
use Rattle.p2c_top.specs.Reading.{ReadUpTo}
use Rattle.p2c_top.proofs.reading.read_all.Given as goal

abbrev pub invariant-loop-name : goal.invariant-loop-name
invariant-loop-name g l = record {
  read : ReadUpTo (g.F.Files.told l.initial.files) (map (λ name. name.now) l.fn.names) (map (λ name. name.now) l.rest) l.texts l.room;
  same : g.F.Files.told l.files ≡ g.F.Files.told l.initial.files;
  none_missing : g.F.Files.missing l.files ≡ g.F.Files.missing l.initial.files;
  no_fault : g.F.Files.faults l.files ≡ g.F.Files.faults l.initial.files;
}

abbrev pub decreases-loop-name : goal.decreases-loop-name
decreases-loop-name g l = length l.rest
