use Rattle.std.proofs.Common.{◌≡◌, map, take}
use Rattle.agreement.specs.Writers.{put_of}
use Rattle.translate_core.proofs.lower.puts.Given as goal

abbrev pub invariant-loop-byte : goal.invariant-loop-byte
invariant-loop-byte l = l.body.items ≡ map put_of (take l.byte-index l.bytes)
