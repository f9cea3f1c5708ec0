use Rattle.std.proofs.Common.{sym, ap, ◌∙◌, map}
use Rattle.std.proofs.lemmas.List.{length-map}
use Rattle.scope_tables.proofs.Innermost.{depth_here, depth_further, map_inside}
use Rattle.scope_tables.proofs.scopes.Scopes.depth.Goals as goal
use Rattle.std.specs.Prelude.{is_some}

pub returns-then-is_some : goal.returns-then-is_some
returns-then-is_some c =
    depth_here _ _ _ c.args.name.now _ _ c.loop-scope.invariant
    (ap (λ l. map (λ scope. scope.entries) l) c.in-Some.ensures.cases.0 ∙ map_inside (λ scope. scope.entries) c.in-Some.before.now c.in-Some.scope.now)
    (ap is_some (sym c.declared_in.ensures) ∙ sym c.is_some.ensures ∙ c.if-is_some.true)
    (sym (length-map c.in-Some.before.now (λ scope. scope.entries)))

pub loop-scope-preserved : goal.loop-scope-preserved
loop-scope-preserved c =
    depth_further _ _ _ c.args.name.now _ c.loop-scope.invariant
    (ap (λ l. map (λ scope. scope.entries) l) c.in-Some.ensures.cases.0 ∙ map_inside (λ scope. scope.entries) c.in-Some.before.now c.in-Some.scope.now)
    (ap is_some (sym c.declared_in.ensures) ∙ sym c.is_some.ensures ∙ c.if-is_some.false)
