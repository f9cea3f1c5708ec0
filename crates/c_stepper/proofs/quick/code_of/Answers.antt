use Rattle.std.proofs.Common.{ℕ, List, Option, sym, ap, subst, ◌∙◌}
use Rattle.std.specs.Prelude.{slice_get}
use Rattle.c_stepper.specs.declared.resolved.code.Code.{Code}
use Rattle.c_stepper.specs.Quick.{code_at, IsCodeOf}
use Rattle.c_stepper.proofs.Coding.{main_code, code_found}
use Rattle.c_stepper.proofs.quick.code_of.Goals as goal

pub returns-in-None : goal.returns-in-None
returns-in-None c = record {
  code = subst (λ (f : Option ℕ). IsCodeOf c.args.code.now f c.args.code.now.main) (sym c.in-None.is) (main_code c.args.code.now);
  same = ap (code_at c.args.code.now) (sym c.in-None.is);
}

pub returns-in-Some : goal.returns-in-Some
returns-in-Some c =
    let found = c.code_in.ensures ∙ ap (λ (l : List Code). slice_get l c.in-Some.number) c.deref.ensures.value in
    record {
      code = code_found c.args.code.now c.args.function c.in-Some.number c.code_in.result c.in-Some.is found;
      same = found ∙ ap (code_at c.args.code.now) (sym c.in-Some.is);
    }
