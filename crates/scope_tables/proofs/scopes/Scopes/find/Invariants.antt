use Rattle.std.proofs.Common.{◌≡◌, length, map}
use Rattle.scope_tables.specs.Scopes.{found}
use Rattle.scope_tables.proofs.scopes.Scopes.find.Given as goal

abbrev pub invariant-loop-scope : goal.invariant-loop-scope
invariant-loop-scope l = found l.fn.self l.fn.name ≡ found (map (λ scope. scope.entries) l.open) l.fn.name

abbrev pub decreases-loop-scope : goal.decreases-loop-scope
decreases-loop-scope l = length l.open
