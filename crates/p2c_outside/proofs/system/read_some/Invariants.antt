use Rattle.std.specs.Io.KnownBytes.{Keeps}
use Rattle.p2c_outside.proofs.system.read_some.Given as goal

-- a read that a signal interrupts consumes nothing
abbrev pub invariant-loop : goal.invariant-loop
invariant-loop g l = Keeps (g.R.Read.remaining l.initial.reader) (g.R.Read.remaining l.reader)
