use Rattle.std.proofs.Common.{◌++◌, ◌∷◌, [], sym, ap, ◌∙◌, map}
use Rattle.scope_tables.specs.Scopes.{innermost}
use Rattle.scope_tables.proofs.Innermost.{all_but_last, before_last}
use Rattle.scope_tables.proofs.scopes.Scopes.leave.Goals as goal

pub returns : goal.returns
returns c =
    let items = c.self.inside.open.items in
    let n = before_last (λ scope. scope.entries) items c.args.self.now c.self.inside.open.len c.self.view_is c.requires c.self.inside.open.ok.0 in
    let all = all_but_last (λ scope. scope.entries) items _ n in
    let rest = ap (λ l. map (λ scope. scope.entries) l) c.pop.ensures.rest in
    rw (← c.self.view_is) (all ∙ ap (λ l. l ++ innermost (map (λ scope. scope.entries) items) ∷ []) (sym rest))
