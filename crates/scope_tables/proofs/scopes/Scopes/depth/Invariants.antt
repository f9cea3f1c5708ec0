use Rattle.std.proofs.Common.{◌≡◌, length, map}
use Rattle.scope_tables.specs.Scopes.{depth_of}
use Rattle.scope_tables.proofs.scopes.Scopes.depth.Given as goal

abbrev pub invariant-loop-scope : goal.invariant-loop-scope
invariant-loop-scope l = depth_of l.fn.self l.fn.name ≡ depth_of (map (λ scope. scope.entries) l.rest) l.fn.name

abbrev pub decreases-loop-scope : goal.decreases-loop-scope
decreases-loop-scope l = length l.rest
