use Rattle.std.proofs.Common.{◌≡◌, ◌+◌, length}
use Rattle.c_scanner.specs.Head.{later, strip}
use Rattle.c_scanner.proofs.scanning.after_lines.Given as goal

abbrev pub invariant-loop-wanted : goal.invariant-loop-wanted
invariant-loop-wanted l = record { stripped : strip l.fn.lines l.fn.bytes ≡ later l.n (strip l.wanted l.rest); within : l.n + length l.rest ≡ length l.fn.bytes }

abbrev pub decreases-loop-wanted : goal.decreases-loop-wanted
decreases-loop-wanted l = length l.wanted
