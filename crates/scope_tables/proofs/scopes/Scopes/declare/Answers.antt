use Rattle.std.proofs.Common.{◌≡◌, ◌-◌, suc, length, None, OnOk, IfErr, OnErr, Result, Ok, Err, sym, ap, ◌∙◌, subst}
use Rattle.indexmap.proofs.MapLemmas.{OnOk-map}
use Rattle.scope_tables.specs.Scopes.{innermost, with_declared, declared_in, IsRefused}
use Rattle.scope_tables.proofs.Innermost.{before_last, innermost_at, declared_at, same_at}
use Rattle.scope_tables.proofs.scopes.Scopes.declare.Goals as goal

on_error : {T E : Type 0} (r : Result T E) (P Q : Type 0) → (P → Q) → OnErr r P → OnErr r Q
on_error (Ok x) P Q f h = tt
on_error (Err e) P Q f h = f h

size : (c : goal.After-self-1) → length c.self.inside.open.items ≡ suc (c.len-last.result - 1)
size c = before_last (λ scope. scope.entries) c.self.inside.open.items c.args.self.now c.len-last.result c.self.view_is c.requires (c.len-last.ensures ∙ c.self.inside.open.ok.0)

-- the scope that was the innermost one
before : (c : goal.After-self-1) → innermost c.args.self.now ≡ c.index_mut.result.now.entries
before c = rw (← c.self.view_is) (innermost_at (λ scope. scope.entries) c.self.inside.open.items _ c.index_mut.result.now (size c) c.index_mut.ensures.value)

pub returns-clause-declared : goal.returns-clause-declared
returns-clause-declared c =
    let items = c.self.inside.open.items in
    OnOk-map c.declare_in.result _ _
    (λ put. declared_at (λ scope. scope.entries) items _ c.index_mut.result.now c.declare_in.new.scope c.args.name c.args.decl (size c) c.index_mut.ensures.value put
    ∙ ap (λ l. with_declared l c.args.name c.args.decl) c.self.view_is)
    c.declare_in.ensures.declared

pub returns-clause-new : goal.returns-clause-new
returns-clause-new c = subst (λ s. OnOk c.declare_in.result (declared_in s c.args.name ≡ None)) (sym (before c)) c.declare_in.ensures.new

pub returns-clause-refused : goal.returns-clause-refused
returns-clause-refused c = subst (λ s. IfErr c.declare_in.result (IsRefused s c.args.name)) (sym (before c)) c.declare_in.ensures.refused

pub returns-clause-unchanged : goal.returns-clause-unchanged
returns-clause-unchanged c =
    on_error c.declare_in.result _ _
    (λ put. same_at (λ scope. scope.entries) c.self.inside.open.items _ c.index_mut.result.now c.declare_in.new.scope (size c) c.index_mut.ensures.value put ∙ c.self.view_is)
    c.declare_in.ensures.unchanged
