use Rattle.std.proofs.Common.{ap, List, ℕ, Ok, Some}
use Rattle.c_meaning.specs.Cells.{Tree}
use Rattle.c_meaning.specs.States as s
use Rattle.c_meaning.specs.Steps.{taken}
use Rattle.c_evaluation.specs.Types.{place_type_of}
use Rattle.c_stepper.specs.Leaving.{given_of}
use Rattle.c_stepper.proofs.Leaving.{no_answer, answer_with}
use Rattle.c_stepper.proofs.leave.store_of.Goals as goal

pub returns-in_err-tree : goal.returns-in_err-tree
returns-in_err-tree c = λ blocks.
    no_answer (λ (t : Tree). t) blocks c.in_err-tree.field-0.0 c.from_residual.result (taken c.args.scope.now.program.now.declarations (place_type_of c.args.place) (given_of c.args.given.now)) (s.store blocks c.args.number c.args.path.now) c.from_residual.ensures.1 c.in_err-tree.ensures

pub returns : goal.returns
returns c = λ blocks.
    answer_with blocks (Ok (Some (record { number = c.args.number; path = c.in_ok-path.path; tree = c.in_ok-tree.tree }))) (taken c.args.scope.now.program.now.declarations (place_type_of c.args.place) (given_of c.args.given.now)) c.in_ok-tree.tree (s.store blocks c.args.number c.args.path.now) c.in_ok-tree.ensures
    (ap (λ (p : List ℕ). s.store blocks c.args.number p c.in_ok-tree.tree) c.in_ok-path.ensures)
