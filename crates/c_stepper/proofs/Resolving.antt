-- The resolved forms of statements.
use Rattle.std.proofs.Common.{◌≡◌, List, [], ◌∷◌, ◌++◌, length, append_assoc, Some, refl, sym, ap, subst, ◌∙◌, arith}
use Rattle.std.proofs.lemmas.List.{append-nil}
use Rattle.c_tree.specs.Tree as t
use Rattle.c_tree.specs.Tree.{Expr, Place, Statement, Body}
use Rattle.c_tree.specs.declared.program.CVariable.{CVariable}
use Rattle.c_tree.specs.declared.program.CProgram.{CProgram}
use Rattle.c_evaluation.specs.Numbers.{IsVariable, Resolves}
use Rattle.c_evaluation.specs.declared.numbers.Variable.{Variable}
use Rattle.c_evaluation.specs.declared.numbers.Number.{Number}
use Rattle.c_stepper.specs.declared.resolved.code.Resolved.{Resolved}
use Rattle.c_stepper.specs.declared.resolved.code.Resolved.TheVariants as r
use Rattle.c_stepper.specs.Codes.{test_of, IsResolved, IsTest, IsChoice, ResolveAll}

module _ (c : CProgram) (vars : List CVariable) where
  pub is_store : (variable : Variable) (number : Number) (at : Place) (e : Expr) → IsVariable c vars variable at → Resolves c vars number e → IsResolved c vars (r.Store variable number) (t.Assign at e)
  is_store variable number at e p n = (at, e, refl, p, n)

  pub is_give : (number : Number) (e : Expr) → Resolves c vars number e → IsResolved c vars (r.Give number) (t.Return (Some e))
  is_give number e n = (e, refl, n)

  is_test : (res : Resolved) (s : Statement) (e : Expr) → test_of s ≡ Some e → IsTest c vars res e → IsResolved c vars res s
  is_test (r.Test number) s e h n = (e, h, n)
  is_test r.Other s e h n = tt
  is_test (r.Store variable number) s e h n = absurd n
  is_test (r.Choose number) s e h n = absurd n
  is_test (r.Give number) s e h n = absurd n
  is_test (r.Call call) s e h n = absurd n

  pub is_if : (res : Resolved) (e : Expr) (a : Body) → IsTest c vars res e → IsResolved c vars res (t.If e a)
  is_if res e a n = is_test res (t.If e a) e refl n

  pub is_if_else : (res : Resolved) (e : Expr) (a b : Body) → IsChoice c vars res e → IsResolved c vars res (t.IfElse e a b)
  is_if_else (r.Choose number) e a b n = (e, refl, n)
  is_if_else r.Other e a b n = tt
  is_if_else (r.Store variable number) e a b n = absurd n
  is_if_else (r.Test number) e a b n = absurd n
  is_if_else (r.Give number) e a b n = absurd n
  is_if_else (r.Call call) e a b n = absurd n

  pub is_while : (res : Resolved) (e : Expr) (a : Body) → IsTest c vars res e → IsResolved c vars res (t.While e a)
  is_while res e a n = is_test res (t.While e a) e refl n

  pub all_push : (numbers : List Number) (es : List Expr) (n : Number) (e : Expr) → ResolveAll c vars numbers es → Resolves c vars n e → ResolveAll c vars (numbers ++ n ∷ []) (es ++ e ∷ [])
  all_push [] [] n e h is = (is, tt)
  all_push (m ∷ numbers) (x ∷ es) n e h is = (h.0, all_push numbers es n e h.1 is)
  all_push [] (x ∷ es) n e h is = absurd h
  all_push (m ∷ numbers) [] n e h is = absurd h

  -- the next argument
  pub next_argument : (all rest after : List Expr) (numbers numbers' : List Number) (e : Expr) (n : Number) → (done : List Expr) × (done ++ rest ≡ all) × ResolveAll c vars numbers done
      → rest ≡ e ∷ after → numbers' ≡ numbers ++ n ∷ [] → Resolves c vars n e → (done : List Expr) × (done ++ after ≡ all) × ResolveAll c vars numbers' done
  next_argument all rest after numbers numbers' e n h split push is =
      (h.0 ++ e ∷ [], append_assoc h.0 (e ∷ []) after ∙ ap (λ l. h.0 ++ l) (sym split) ∙ h.1, subst (λ (l : List Number). ResolveAll c vars l (h.0 ++ e ∷ [])) (sym push) (all_push numbers h.0 n e h.2 is))

  no_rest : (rest : List Expr) → length rest ≡ 0 → rest ≡ []
  no_rest [] h = refl
  no_rest (s ∷ rest) h = absurd (omega (arith, h))

  pub all_arguments : (all rest : List Expr) (numbers : List Number) → (done : List Expr) × (done ++ rest ≡ all) × ResolveAll c vars numbers done → length rest ≡ 0 → ResolveAll c vars numbers all
  all_arguments all rest numbers h none =
      let whole : h.0 ≡ all = sym (append-nil h.0) ∙ ap (λ l. h.0 ++ l) (sym (no_rest rest none)) ∙ h.1 in
      subst (ResolveAll c vars numbers) whole h.2
