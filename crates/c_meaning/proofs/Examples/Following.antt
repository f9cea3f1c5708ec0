-- A program that follows a Pascal meaning.
use Rattle.std.proofs.Common.{◌≡◌, ℕ, zero, suc, ◌≤◌, List, [], ◌∷◌, refl, ◌∙◌, arith}
use Rattle.c_tree.specs.declared.program.CProgram.{CProgram}
use Rattle.c_meaning.specs.Runs as c
use Rattle.c_meaning.specs.Runs.{CRun}
use Rattle.c_meaning.specs.Follows.{PascalAnswer, End, Cut, Undefined, Malformed, IsWellFormed, Follows}
use Rattle.c_meaning.specs.Whole.{run}
use Rattle.c_meaning.proofs.Backward.{follows_by_three}
use Rattle.c_meaning.proofs.Examples.Build.{num, put, stop, main}

-- it writes a byte and ends, and is cut before at the bound 0
abbrev pascal : ℕ → PascalAnswer
pascal zero = Cut [] []
pascal (suc n) = End (65 ∷ []) 0 []

abbrev program : CProgram
program = main [] (put (num 65) ∷ stop ∷ [])

first : CRun program [] 0 ≡ c.Going [] []
unfolding run
first = refl

last : CRun program [] 2 ≡ c.End (65 ∷ []) 0 []
unfolding run
last = refl

follows : Follows pascal (CRun program [])
follows = follows_by_three pascal program [] well ends goes_on reaches where
  well : IsWellFormed pascal
  well zero o k e = cc
  well (suc n) o k e = cc

  ends : (n : ℕ) (output : List ℕ) (status : ℕ) (calls : List ℕ) → pascal n ≡ End output status calls → (m : ℕ) × (CRun program [] m ≡ c.End output status calls)
  ends zero o s k e = cc
  ends (suc n) o s k e = let same : c.End (65 ∷ []) 0 [] ≡ c.End o s k = cc in (2, last ∙ same)

  goes_on : (n : ℕ) (output calls : List ℕ) → pascal n ≡ Cut output calls → (m : ℕ) × (n ≤ m) × (CRun program [] m ≡ c.Going output calls)
  goes_on zero o k e = let same : c.Going [] [] ≡ c.Going o k = cc in (0, omega arith, first ∙ same)
  goes_on (suc n) o k e = cc

  reaches : (n : ℕ) (output calls : List ℕ) → pascal n ≡ Undefined output calls → (m : ℕ) × (CRun program [] m ≡ c.Going output calls)
  reaches zero o k e = cc
  reaches (suc n) o k e = cc

-- a program whose tree is malformed at the bound 1
abbrev malformed : ℕ → PascalAnswer
malformed zero = Cut [] []
malformed (suc n) = Malformed [] []

-- no C follows it
not_followed : (c : CProgram) (input : List ℕ) → Follows malformed (CRun c input) → ⊥
not_followed c input h = h.well_formed 1 [] [] refl
