-- How a run comes from one point to another, and how that composes.
use Rattle.std.proofs.Common.{◌≡◌, ℕ, suc, List, ◌∷◌, length, refl, ap, ◌∙◌, arith}
use Rattle.c_tree.specs.Tree.{Statement}
use Rattle.c_tree.specs.declared.program.CProgram.{CProgram}
use Rattle.c_meaning.specs.Cells.{Blocks}
use Rattle.c_meaning.specs.States.{State}
use Rattle.c_meaning.specs.Steps.{Next, Onward, do_statement, CStep}
use Rattle.c_meaning.specs.Runs.{run_from}
use Rattle.c_meaning.specs.Comes.{Comes}
use Rattle.c_meaning.proofs.Frames.{Running, here, local_view, step_here}

pub stay : (c : CProgram) (a : Next) → Comes c a a
stay c a = record { by = λ k. (k, omega arith, refl) }

pub is_at : (c : CProgram) (a b : Next) → a ≡ b → Comes c a b
is_at c a b e = record { by = λ k. (k, omega arith, ap (run_from c k) e) }

-- from one to the next, and on
pub onto : (c : CProgram) (a b d : Next) → Comes c a b → Comes c b d → Comes c a d
onto c a b d p q = record { by = λ k. let y = q.by k in let x = p.by y.0 in (x.0, omega (arith, x.1, y.1), x.2 ∙ y.2) }

-- one step, and on
pub one : (c : CProgram) (st : State) (b : Next) → Comes c (CStep c st) b → Comes c (Onward st) b
one c st b p = record { by = λ k. let x = p.by k in (suc x.0, omega (arith, x.1), unfold run_from in x.2) }

-- one statement of a running function, of which it is known what it does, and on
pub does : (c : CProgram) (r : Running) (input output : List ℕ) (old own : Blocks) → length old ≡ r.base → (s : Statement) (todo : List Statement) (n b : Next)
    → do_statement c (local_view c r.reach r.variables r.base old own) (here r input output old own (s ∷ todo)) todo s ≡ n
    → Comes c n b
    → Comes c (Onward (here r input output old own (s ∷ todo))) b
does c r input output old own l s todo n b e p =
    one c (here r input output old own (s ∷ todo)) b (onto c _ n b (is_at c _ n (step_here c r input output old own l s todo ∙ e)) p)
