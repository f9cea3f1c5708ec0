-- A run comes from one point to another.
use Rattle.std.specs.Prelude.{◌≡◌, ℕ, ◌≤◌}
use Rattle.c_tree.specs.declared.program.CProgram.{CProgram}
use Rattle.c_meaning.specs.Steps.{Next}
use Rattle.c_meaning.specs.Runs.{run_from}

-- for every number of steps after b, as many or more after a lead to the same point
pub record Comes (c : CProgram) (a b : Next) : Type 0 where
  pub by : (k : ℕ) → (j : ℕ) × (k ≤ j) × (run_from c j a ≡ run_from c k b)
