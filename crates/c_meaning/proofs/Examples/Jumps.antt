-- Labels and steps.
use Rattle.std.proofs.Common.{◌≡◌, [], ◌∷◌, refl}
use Rattle.c_tree.specs.Tree as t
use Rattle.c_tree.specs.declared.operators.CBinary.TheVariants as op
use Rattle.c_meaning.specs.Runs.{Going, End}
use Rattle.c_meaning.specs.Whole.{run}
use Rattle.c_meaning.proofs.Examples.Build as e
use Rattle.c_meaning.proofs.Examples.Build.{read, num, ints, set, put, give, stop, when, loop, main}

-- a goto out of two loops
out_of_two_loops : run (main (ints (e.i ∷ [])) (set e.i (num 0) ∷ loop (num 1) (loop (num 1) (set e.i (t.Binary op.Add (read e.i) (num 1)) ∷ when (t.Binary op.Greater (read e.i) (num 4)) (t.Goto e.out ∷ []) ∷ []) ∷ []) ∷ t.Label e.out ∷ give (read e.i) ∷ [])) [] 99
    ≡ End [] 5 []
unfolding run
out_of_two_loops = refl

-- a goto to a label above it
backward : run (main (ints (e.i ∷ [])) (set e.i (num 0) ∷ t.Label e.out ∷ set e.i (t.Binary op.Add (read e.i) (num 1)) ∷ when (t.Binary op.Less (read e.i) (num 5)) (t.Goto e.out ∷ []) ∷ give (read e.i) ∷ [])) [] 99
    ≡ End [] 5 []
unfolding run
backward = refl

-- a goto to a label in the body of a loop, which then goes on
in_the_loop : run (main (ints (e.i ∷ [])) (set e.i (num 0) ∷ loop (t.Binary op.Less (read e.i) (num 6)) (set e.i (t.Binary op.Add (read e.i) (num 1)) ∷ when (t.Binary op.Equal (read e.i) (num 3)) (t.Goto e.out ∷ []) ∷ put (read e.i) ∷ t.Label e.out ∷ []) ∷ give (num 1) ∷ [])) [] 99
    ≡ End (1 ∷ 2 ∷ 4 ∷ 5 ∷ 6 ∷ []) 1 []
unfolding run
in_the_loop = refl

-- a goto within an `else`
in_the_other_branch : run (main [] (t.IfElse (num 0) t.Empty (t.Then (t.Goto e.out) (t.Then (put (num 65)) (t.Then (t.Label e.out) (t.Then (put (num 66)) t.Empty)))) ∷ stop ∷ [])) [] 99
    ≡ End (66 ∷ []) 0 []
unfolding run
in_the_other_branch = refl

-- a goto is one step, and its label one more
steps_of_a_jump : run (main [] (t.Goto e.out ∷ put (num 65) ∷ t.Label e.out ∷ stop ∷ [])) [] 2
    ≡ Going [] []
unfolding run
steps_of_a_jump = refl

-- so this ends in three
after_a_jump : run (main [] (t.Goto e.out ∷ put (num 65) ∷ t.Label e.out ∷ stop ∷ [])) [] 3
    ≡ End [] 0 []
unfolding run
after_a_jump = refl

-- a test is a step, and so is each statement in a body
only_tests_count : run (main [] (when (num 1) (put (num 65) ∷ []) ∷ stop ∷ [])) [] 2
    ≡ Going (65 ∷ []) []
unfolding run
only_tests_count = refl
