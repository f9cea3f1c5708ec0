use Rattle.std.proofs.Common.{◌∙◌, sym}
use Rattle.indexmap.proofs.CallerLemmas.{insert_entry-new}
use Rattle.scope_tables.proofs.Innermost.{is_none}
use Rattle.scope_tables.proofs.scopes.declare_in.Goals as goal

pub returns-in-Ok-clause-declared : goal.returns-in-Ok-clause-declared
returns-in-Ok-clause-declared c =
    let none = is_none c.declared_in.result (sym c.is_some.ensures ∙ c.if-is_some.false) in
    c.in-Ok.ensures.entries ∙ insert_entry-new _ c.args.scope.now c.args.name c.args.decl (sym c.declared_in.ensures ∙ none)
