-- Calls, pointers to functions, and what a function gives.
use Rattle.std.proofs.Common.{◌≡◌, [], ◌∷◌, Some, None, refl}
use Rattle.c_tree.specs.Tree as t
use Rattle.c_tree.specs.declared.operators.CBinary.TheVariants as op
use Rattle.c_tree.specs.declared.statement.CCallee.TheVariants as callee
use Rattle.c_meaning.specs.declared.StuckKind.TheVariants as k
use Rattle.c_meaning.specs.Runs.{Going, End, Stuck}
use Rattle.c_meaning.specs.Whole.{run}
use Rattle.c_meaning.proofs.Examples.Build as e
use Rattle.c_meaning.proofs.Examples.Build.{var, read, num, address, target, variable, ints, set, give, stop, when, call, ask, function, program, main}

-- a function that calls itself
recursion : run (program [] [] (function e.f (Some t.Int) (ints (e.a ∷ [])) (ints (e.r ∷ [])) (when (t.Binary op.Less (read e.a) (num 2)) (give (num 1) ∷ []) ∷ ask e.r e.f (t.Binary op.Subtract (read e.a) (num 1) ∷ []) ∷ give (t.Binary op.Multiply (read e.a) (read e.r)) ∷ []) ∷ []) (ints (e.r ∷ [])) (ask e.r e.f (num 5 ∷ []) ∷ give (read e.r) ∷ [])) [] 100
    ≡ End [] 120 []
unfolding run
recursion = refl

-- a call through a variable that points to a function
through_pointer : run (program [] [] (function e.f (Some t.Int) (ints (e.a ∷ [])) (ints (e.r ∷ [])) (when (t.Binary op.Less (read e.a) (num 2)) (give (num 1) ∷ []) ∷ ask e.r e.f (t.Binary op.Subtract (read e.a) (num 1) ∷ []) ∷ give (t.Binary op.Multiply (read e.a) (read e.r)) ∷ []) ∷ []) (variable e.r t.Int ∷ variable e.p (t.Named e.f_t) ∷ []) (set e.p (read e.f) ∷ t.Call (Some (var e.r)) (callee.Indirect (read e.p)) (num 3 ∷ []) ∷ give (read e.r) ∷ [])) [] 100
    ≡ End [] 6 []
unfolding run
through_pointer = refl

-- a callee that is the name of such a variable
callee_is_a_variable : run (program [] [] (function e.f (Some t.Int) (ints (e.a ∷ [])) [] (give (t.Binary op.Add (read e.a) (read e.a)) ∷ []) ∷ []) (variable e.r t.Int ∷ variable e.p (t.Named e.f_t) ∷ []) (set e.p (read e.f) ∷ ask e.r e.p (num 3 ∷ []) ∷ give (read e.r) ∷ [])) [] 100
    ≡ End [] 6 []
unfolding run
callee_is_a_variable = refl

-- a callee that follows the name of a function
target_is_a_function : run (program [] [] (function e.f (Some t.Int) (ints (e.a ∷ [])) [] (give (t.Binary op.Add (read e.a) (read e.a)) ∷ []) ∷ []) (ints (e.r ∷ [])) (t.Call (Some (var e.r)) (callee.Indirect (read e.f)) (num 4 ∷ []) ∷ give (read e.r) ∷ [])) [] 100
    ≡ End [] 8 []
unfolding run
target_is_a_function = refl

-- a pointer to a pointer to a function
through_two_pointers : run (program [] [] (function e.f (Some t.Int) (ints (e.a ∷ [])) [] (give (t.Binary op.Add (read e.a) (read e.a)) ∷ []) ∷ []) (variable e.r t.Int ∷ variable e.p (t.Named e.f_t) ∷ variable e.q (t.Pointer (t.Named e.f_t)) ∷ []) (set e.p (read e.f) ∷ set e.q (address e.p) ∷ t.Call (Some (var e.r)) (callee.Indirect (t.Read (target e.q))) (num 5 ∷ []) ∷ give (read e.r) ∷ [])) [] 100
    ≡ End [] 10 []
unfolding run
through_two_pointers = refl

-- a call through `NULL`
called_through_null : run (program [] [] (function e.f (Some t.Int) (ints (e.a ∷ [])) [] (give (t.Binary op.Add (read e.a) (read e.a)) ∷ []) ∷ []) (variable e.r t.Int ∷ variable e.p (t.Named e.f_t) ∷ []) (set e.p t.Null ∷ t.Call (Some (var e.r)) (callee.Indirect (read e.p)) (num 3 ∷ []) ∷ stop ∷ [])) [] 9
    ≡ Stuck k.NullUse []
unfolding run
called_through_null = refl

-- a call of `NULL` itself
called_null : run (program [] [] ([]) (ints (e.r ∷ [])) (t.Call (Some (var e.r)) (callee.Indirect t.Null) (num 3 ∷ []) ∷ stop ∷ [])) [] 9
    ≡ Stuck k.NullUse []
unfolding run
called_null = refl

-- a call through a variable that holds nothing
called_empty : run (program [] [] (function e.f (Some t.Int) (ints (e.a ∷ [])) [] (give (t.Binary op.Add (read e.a) (read e.a)) ∷ []) ∷ []) (variable e.r t.Int ∷ variable e.p (t.Named e.f_t) ∷ []) (t.Call (Some (var e.r)) (callee.Indirect (read e.p)) (num 3 ∷ []) ∷ stop ∷ [])) [] 9
    ≡ Stuck k.Indeterminate []
unfolding run
called_empty = refl

-- a call of a number
called_number : run (program [] [] ([]) (ints (e.r ∷ [])) (t.Call (Some (var e.r)) (callee.Indirect (num 3)) ([]) ∷ stop ∷ [])) [] 9
    ≡ Stuck k.Mismatch []
unfolding run
called_number = refl

-- pointers to functions are compared with each other and with `NULL`
functions_compared : run (program [] [] (function e.f (Some t.Int) (ints (e.a ∷ [])) [] (give (t.Binary op.Add (read e.a) (read e.a)) ∷ []) ∷ []) (variable e.r t.Int ∷ variable e.p (t.Named e.f_t) ∷ []) (set e.p (read e.f) ∷ give (t.Binary op.Add (t.Binary op.Equal (read e.p) (read e.f)) (t.Binary op.Add (t.Binary op.NotEqual (read e.f) t.Null) (t.Binary op.Equal (read e.f) (read e.f)))) ∷ [])) [] 9
    ≡ End [] 3 []
unfolding run
functions_compared = refl

-- a typedef takes only functions of its signature
other_signature : run (program [] [] (function e.f (Some t.Int) [] [] (give (num 1) ∷ []) ∷ []) (variable e.p (t.Named e.f_t) ∷ []) (set e.p (read e.f) ∷ stop ∷ [])) [] 9
    ≡ Stuck k.Mismatch []
unfolding run
other_signature = refl

-- the answer of a void function that is used
void_is_used : run (program [] [] (function e.g None [] [] ([]) ∷ []) (ints (e.r ∷ [])) (ask e.r e.g ([]) ∷ stop ∷ [])) [] 9
    ≡ Stuck k.NoValue []
unfolding run
void_is_used = refl

-- a function that ends without its value, which is used
fell_from_the_end : run (program [] [] (function e.f (Some t.Int) [] [] (t.Return None ∷ []) ∷ []) (ints (e.r ∷ [])) (ask e.r e.f ([]) ∷ stop ∷ [])) [] 9
    ≡ Stuck k.NoValue []
unfolding run
fell_from_the_end = refl

-- the same, where it is not used
answer_is_not_used : run (program [] [] (function e.f (Some t.Int) [] [] ([]) ∷ []) (ints (e.r ∷ [])) (call e.f ([]) ∷ stop ∷ [])) [] 3
    ≡ End [] 0 []
unfolding run
answer_is_not_used = refl

-- a value returned from a void function, used or not
void_gives_a_value : run (program [] [] (function e.g None [] [] (give (num 1) ∷ []) ∷ []) [] (call e.g ([]) ∷ stop ∷ [])) [] 9
    ≡ Stuck k.Mismatch []
unfolding run
void_gives_a_value = refl

-- `return;` in `main`
main_gives_nothing : run (main [] (t.Return None ∷ [])) [] 9
    ≡ Stuck k.BadStatus []
unfolding run
main_gives_nothing = refl

-- `main` falls from its end
main_falls : run (main [] ([])) [] 9
    ≡ Stuck k.BadStatus []
unfolding run
main_falls = refl

-- too few arguments
too_few : run (program [] [] (function e.f (Some t.Int) (ints (e.a ∷ [])) [] (give (t.Binary op.Add (read e.a) (read e.a)) ∷ []) ∷ []) [] (call e.f ([]) ∷ stop ∷ [])) [] 9
    ≡ Stuck k.Mismatch []
unfolding run
too_few = refl

-- too many arguments
too_many : run (program [] [] (function e.f (Some t.Int) (ints (e.a ∷ [])) [] (give (t.Binary op.Add (read e.a) (read e.a)) ∷ []) ∷ []) [] (call e.f (num 1 ∷ num 2 ∷ []) ∷ stop ∷ [])) [] 9
    ≡ Stuck k.Mismatch []
unfolding run
too_many = refl

-- an argument of another type
argument_of_other_type : run (program [] [] (function e.f (Some t.Int) (ints (e.a ∷ [])) [] (give (t.Binary op.Add (read e.a) (read e.a)) ∷ []) ∷ []) [] (call e.f (t.WordNumber 1 ∷ []) ∷ stop ∷ [])) [] 9
    ≡ Stuck k.Mismatch []
unfolding run
argument_of_other_type = refl

-- callee and place come before the arguments
arguments_before_names : run (program [] [] (function e.f (Some t.Int) (ints (e.a ∷ [])) [] (give (t.Binary op.Add (read e.a) (read e.a)) ∷ []) ∷ []) [] (ask e.b e.f (t.Binary op.Divide (num 1) (num 0) ∷ []) ∷ stop ∷ [])) [] 9
    ≡ Stuck k.UnknownName []
unfolding run
arguments_before_names = refl

-- the arguments come before the call
arguments_before_call : run (program [] [] (function e.f (Some t.Int) (ints (e.a ∷ [])) [] (give (t.Binary op.Add (read e.a) (read e.a)) ∷ []) ∷ []) [] (call e.f (t.WordNumber 1 ∷ t.Binary op.Divide (num 1) (num 0) ∷ []) ∷ stop ∷ [])) [] 9
    ≡ Stuck k.ZeroDivide []
unfolding run
arguments_before_call = refl

-- a parameter of type `unsigned char` takes 0..255
byte_parameter : run (program [] [] (function e.f (Some t.Byte) (variable e.a t.Byte ∷ []) [] (give (t.Binary op.Multiply (read e.a) (num 2)) ∷ []) ∷ []) [] (call e.f (num 256 ∷ []) ∷ stop ∷ [])) [] 9
    ≡ Stuck k.BadByteValue []
unfolding run
byte_parameter = refl

-- and so does a result, used or not
byte_result : run (program [] [] (function e.f (Some t.Byte) (variable e.a t.Byte ∷ []) [] (give (t.Binary op.Multiply (read e.a) (num 2)) ∷ []) ∷ []) [] (call e.f (num 128 ∷ []) ∷ stop ∷ [])) [] 9
    ≡ Stuck k.BadByteValue []
unfolding run
byte_result = refl

-- a result of that type is an `int64_t`
byte_is_a_number : run (program [] [] (function e.f (Some t.Byte) (variable e.a t.Byte ∷ []) [] (give (t.Binary op.Multiply (read e.a) (num 2)) ∷ []) ∷ []) (ints (e.r ∷ [])) (ask e.r e.f (num 100 ∷ []) ∷ give (read e.r) ∷ [])) [] 9
    ≡ End [] 200 []
unfolding run
byte_is_a_number = refl

-- a place for the answer that is gone by then
target_is_gone : run (program [] [] (function e.f (Some t.Int) (variable e.q (t.Pointer t.Int) ∷ []) [] (t.Free (read e.q) ∷ give (num 1) ∷ []) ∷ []) (variable e.p (t.Pointer t.Int) ∷ []) (t.Malloc (var e.p) t.Int ∷ t.Call (Some (target e.p)) (callee.Direct e.f) (read e.p ∷ []) ∷ stop ∷ [])) [] 9
    ≡ Stuck k.GoneUse []
unfolding run
target_is_gone = refl

-- a place of another type, which is asked where the function ends
target_is_of_other_type : run (program [] [] (function e.f (Some t.Int) (ints (e.a ∷ [])) [] (give (t.Binary op.Add (read e.a) (read e.a)) ∷ []) ∷ []) (variable e.r t.Word ∷ []) (ask e.r e.f (num 1 ∷ []) ∷ stop ∷ [])) [] 1
    ≡ Going [] []
unfolding run
target_is_of_other_type = refl

-- one step later
target_was_of_other_type : run (program [] [] (function e.f (Some t.Int) (ints (e.a ∷ [])) [] (give (t.Binary op.Add (read e.a) (read e.a)) ∷ []) ∷ []) (variable e.r t.Word ∷ []) (ask e.r e.f (num 1 ∷ []) ∷ stop ∷ [])) [] 2
    ≡ Stuck k.Mismatch []
unfolding run
target_was_of_other_type = refl

-- each call has its own variables
caller_waits : run (program [] [] (function e.f None (ints (e.a ∷ [])) [] (set e.a (num 9) ∷ []) ∷ []) (ints (e.a ∷ [])) (set e.a (num 5) ∷ call e.f (num 7 ∷ []) ∷ give (read e.a) ∷ [])) [] 9
    ≡ End [] 5 []
unfolding run
caller_waits = refl
