use Rattle.std.proofs.Common.{sym, ap, ◌∙◌, map}
use Rattle.scope_tables.proofs.Innermost.{found_here, found_further, map_inside}
use Rattle.scope_tables.proofs.scopes.Scopes.find.Goals as goal

pub returns-in-Some-declared_in : goal.returns-in-Some-declared_in
returns-in-Some-declared_in c =
    found_here _ _ _ c.args.name.now _ c.in-Some-declared_in.decl c.loop-scope.invariant
    (ap (λ l. map (λ scope. scope.entries) l) c.in-Some.ensures.cases.0 ∙ map_inside (λ scope. scope.entries) c.in-Some.outer.now c.in-Some.scope.now)
    (sym c.declared_in.ensures ∙ c.in-Some-declared_in.is)

pub loop-scope-preserved : goal.loop-scope-preserved
loop-scope-preserved c =
    found_further _ _ _ c.args.name.now _ c.loop-scope.invariant
    (ap (λ l. map (λ scope. scope.entries) l) c.in-Some.ensures.cases.0 ∙ map_inside (λ scope. scope.entries) c.in-Some.outer.now c.in-Some.scope.now)
    (sym c.declared_in.ensures ∙ c.in_default-declared_in.is)
