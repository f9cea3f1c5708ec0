-- Small programs without calls, structs and pointers.
use Rattle.std.proofs.Common.{◌≡◌, ℕ, zero, suc, [], ◌∷◌, ◌++◌, refl, ap}
use Rattle.std.specs.Prelude.{codes}
use Rattle.c_tree.specs.Tree as t
use Rattle.c_tree.specs.declared.operators.CBinary.TheVariants as op
use Rattle.c_meaning.specs.declared.StuckKind.TheVariants as k
use Rattle.c_tree.specs.declared.program.CProgram.{CProgram}
use Rattle.c_meaning.specs.Steps.{Onward}
use Rattle.c_meaning.specs.Runs.{Going, End, Stuck, start, run_from, answer_of}
use Rattle.c_meaning.specs.Whole.{run}
use Rattle.c_meaning.proofs.Examples.Build as e
use Rattle.c_meaning.proofs.Examples.Build.{var, read, num, variable, ints, set, put, give, stop, when, loop, main}

-- copies its input up to the end, where `getchar` gives -1, and ends with 7
echo_ends : run (main (ints (e.c ∷ [])) (t.GetChar (var e.c) ∷ loop (t.Binary op.AtLeast (read e.c) (num 0)) (put (read e.c) ∷ t.GetChar (var e.c) ∷ []) ∷ give (num 7) ∷ [])) (codes "ab") 20
    ≡ End (codes "ab") 7 []
unfolding run
echo_ends = refl

-- before the first step there is no answer yet
nothing_at_first : run (main (ints (e.c ∷ [])) (t.GetChar (var e.c) ∷ loop (t.Binary op.AtLeast (read e.c) (num 0)) (put (read e.c) ∷ t.GetChar (var e.c) ∷ []) ∷ give (num 7) ∷ [])) (codes "ab") 0
    ≡ Going [] []
unfolding run
nothing_at_first = refl

-- after some steps a part of the output is written
echo_goes_on : run (main (ints (e.c ∷ [])) (t.GetChar (var e.c) ∷ loop (t.Binary op.AtLeast (read e.c) (num 0)) (put (read e.c) ∷ t.GetChar (var e.c) ∷ []) ∷ give (num 7) ∷ [])) (codes "ab") 3
    ≡ Going (97 ∷ []) []
unfolding run
echo_goes_on = refl

-- a `return` is one step
ends_in_one_step : run (main [] (stop ∷ [])) [] 1
    ≡ End [] 0 []
unfolding run
ends_in_one_step = refl

-- one step writes, and the next one would end
needs_two_steps : run (main [] (put (num 65) ∷ stop ∷ [])) [] 1
    ≡ Going (65 ∷ []) []
unfolding run
needs_two_steps = refl

-- what was written before the stuck step stays written
output_before_stuck : run (main (ints (e.a ∷ [])) (put (num 66) ∷ set e.a (t.Binary op.Divide (num 1) (num 0)) ∷ give (read e.a) ∷ [])) [] 9
    ≡ Stuck k.ZeroDivide (66 ∷ [])
unfolding run
output_before_stuck = refl

-- the status is at most 209
status_is_too_great : run (main [] (give (num 210) ∷ [])) [] 1
    ≡ Stuck k.BadStatus []
unfolding run
status_is_too_great = refl

-- and may be 209
greatest_status : run (main [] (give (num 209) ∷ [])) [] 1
    ≡ End [] 209 []
unfolding run
greatest_status = refl

-- a loop without an end goes on
abbrev endless : CProgram
endless = main [] (loop (num 1) [] ∷ stop ∷ [])

-- each of its steps, the test of the loop, leads to the same state
endless_steps : (m : ℕ) → run_from endless m (Onward (start endless [])) ≡ Onward (start endless [])
unfolding run
endless_steps zero = refl
endless_steps (suc m) = endless_steps m

-- so it goes on after every number of steps
goes_on_for_ever : (m : ℕ) → run endless [] m ≡ Going [] []
unfolding run
goes_on_for_ever m = ap answer_of (endless_steps m)

-- a local that holds nothing is written
writes_nothing : run (main (ints (e.a ∷ [])) (put (read e.a) ∷ stop ∷ [])) [] 9
    ≡ Stuck k.Indeterminate []
unfolding run
writes_nothing = refl

-- three bytes
says_hi : run (main [] (put (num 104) ∷ put (num 105) ∷ put (num 10) ∷ stop ∷ [])) [] 4
    ≡ End (codes "hi" ++ 10 ∷ []) 0 []
unfolding run
says_hi = refl

-- a name that is not declared is no fault where it is not reached
not_taken : run (main [] (when (num 0) (put (read e.b) ∷ []) ∷ stop ∷ [])) [] 2
    ≡ End [] 0 []
unfolding run
not_taken = refl

-- a loop of 200 turns
counts : run (main (ints (e.i ∷ [])) (set e.i (num 0) ∷ loop (t.Binary op.Less (read e.i) (num 200)) (set e.i (t.Binary op.Add (read e.i) (num 1)) ∷ []) ∷ give (read e.i) ∷ [])) [] 402
    ≡ Going [] []
unfolding run
counts = refl

-- it ends at step 403, after one assignment, 201 tests, 200 sums and the `return`
counted : run (main (ints (e.i ∷ [])) (set e.i (num 0) ∷ loop (t.Binary op.Less (read e.i) (num 200)) (set e.i (t.Binary op.Add (read e.i) (num 1)) ∷ []) ∷ give (read e.i) ∷ [])) [] 403
    ≡ End [] 200 []
unfolding run
counted = refl

-- the branches of an `if` with `else`
takes_other : run (main [] (t.IfElse (num 0) (t.Then (put (num 65)) t.Empty) (t.Then (put (num 66)) t.Empty) ∷ t.IfElse (num 5) (t.Then (put (num 67)) t.Empty) (t.Then (put (num 68)) t.Empty) ∷ stop ∷ [])) [] 9
    ≡ End (66 ∷ 67 ∷ []) 0 []
unfolding run
takes_other = refl

-- `getchar` takes one byte, and -1 is no byte to store in an `unsigned char`
first_bytes : run (main (variable e.a t.Byte ∷ []) (t.GetChar (var e.a) ∷ put (read e.a) ∷ t.GetChar (var e.a) ∷ stop ∷ [])) (255 ∷ []) 9
    ≡ Stuck k.BadByteValue (255 ∷ [])
unfolding run
first_bytes = refl
