-- Worked examples: a program whose conditions hold, and faults.
use Rattle.std.proofs.Common.{[], ◌∷◌, refl, lit<}
use Rattle.std.specs.Prelude.{codes}
use Rattle.c_tree.specs.Tree.{Null, While, Goto, Label, Empty, Then}
use Rattle.c_tree.specs.declared.program.CProgram.{CProgram}
use Rattle.c_grammar.specs.declared.fault.CTextKind.TheVariants.{BadGoto}
use Rattle.c_grammar.specs.Demands.{Leads, program_demands}
use Rattle.c_conditions.specs.Conditions.{HoldAllButLevels, FailsAt}

abbrev into_a_loop : CProgram
into_a_loop = record {
  forwards = [];
  declarations = [];
  globals = [];
  prototypes = [];
  functions = [];
  main = record { locals = []; body = Goto (codes "a") ∷ While Null (Then (Label (codes "a")) Empty) ∷ [] };
}

-- `int main(void) { goto a; while (NULL) { a: ; } }`
goto_into_a_loop : FailsAt (program_demands into_a_loop) BadGoto 7
goto_into_a_loop = record { demand = Leads (codes "a") []; among = (1, lit< tt, refl); of_kind = refl; fails = λ h. cc }

abbrev out_of_a_loop : CProgram
out_of_a_loop = record into_a_loop { main = record { locals = []; body = Label (codes "a") ∷ While Null (Then (Goto (codes "a")) Empty) ∷ [] } }

-- `int main(void) { a: ; while (NULL) { goto a; } }`
goto_out_of_a_loop : HoldAllButLevels (program_demands out_of_a_loop)
goto_out_of_a_loop = (tt, (refl, (tt, (tt, (tt, (refl, tt))))))
