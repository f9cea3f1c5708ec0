-- Which name means what, and the calls that are counted.
use Rattle.std.proofs.Common.{◌≡◌, [], ◌∷◌, Some, None, refl}
use Rattle.std.specs.Prelude.{codes}
use Rattle.c_tree.specs.Tree as t
use Rattle.c_tree.specs.declared.operators.CBinary.TheVariants as op
use Rattle.c_meaning.specs.declared.StuckKind.TheVariants as k
use Rattle.c_meaning.specs.Runs.{Going, End, Stuck}
use Rattle.c_meaning.specs.Whole.{run}
use Rattle.c_meaning.proofs.Examples.Build as e
use Rattle.c_meaning.proofs.Examples.Build.{read, num, address, variable, ints, set, put, give, stop, call, ask, function, program, main}

-- a call of a function whose name ends in `_` and a number adds the number, read in decimal
entries : run (program [] [] (function (codes "f_7") None [] [] [] ∷ function (codes "f_007") None [] [] [] ∷ function (codes "f_") None [] [] [] ∷ function (codes "f7") None [] [] [] ∷ function (codes "p2c_x_12_30") None [] [] [] ∷ function (codes "f_1a") None [] [] [] ∷ []) [] (call (codes "f_7") [] ∷ call (codes "f_") [] ∷ call (codes "f7") [] ∷ call (codes "f_007") [] ∷ call (codes "p2c_x_12_30") [] ∷ call (codes "f_1a") [] ∷ stop ∷ [])) [] 99
    ≡ End [] 0 (7 ∷ 7 ∷ 30 ∷ [])
unfolding run
entries = refl

-- the number is added at the call
entries_while_going : run (program [] [] (function (codes "f_12") None [] [] [] ∷ []) [] (call (codes "f_12") [] ∷ stop ∷ [])) [] 1
    ≡ Going [] (12 ∷ [])
unfolding run
entries_while_going = refl

-- a name is a local before it is a global
local_first : run (program (ints (e.a ∷ [])) [] ([]) (ints (e.a ∷ [])) (set e.a (num 3) ∷ give (read e.a) ∷ [])) [] 9
    ≡ End [] 3 []
unfolding run
local_first = refl

-- and a global otherwise, which begins as 0
global_begins_as_zero : run (program (ints (e.a ∷ [])) [] ([]) (ints (e.b ∷ [])) (give (read e.a) ∷ [])) [] 9
    ≡ End [] 0 []
unfolding run
global_begins_as_zero = refl

-- a global is one variable for all functions
global_is_shared : run (program (ints (e.a ∷ [])) [] (function e.f None [] [] (set e.a (t.Binary op.Add (read e.a) (num 1)) ∷ []) ∷ []) [] (call e.f ([]) ∷ call e.f ([]) ∷ give (read e.a) ∷ [])) [] 9
    ≡ End [] 2 []
unfolding run
global_is_shared = refl

-- a local hides a function of its name
local_hides_a_function : run (program [] [] (function e.f (Some t.Int) (ints (e.a ∷ [])) [] (give (t.Binary op.Add (read e.a) (read e.a)) ∷ []) ∷ []) (variable e.f (t.Named e.f_t) ∷ variable e.r t.Int ∷ []) (ask e.r e.f (num 1 ∷ []) ∷ stop ∷ [])) [] 9
    ≡ Stuck k.Indeterminate []
unfolding run
local_hides_a_function = refl

-- a function that is nowhere
not_declared : run (main [] (call e.f ([]) ∷ stop ∷ [])) [] 9
    ≡ Stuck k.UnknownName []
unfolding run
not_declared = refl

-- a function whose text stands below is not declared here
declared_below : run (program [] [] (function e.g None [] [] (call e.f (num 1 ∷ []) ∷ []) ∷ function e.f (Some t.Int) (ints (e.a ∷ [])) [] (give (t.Binary op.Add (read e.a) (read e.a)) ∷ []) ∷ []) [] (call e.g ([]) ∷ stop ∷ [])) [] 9
    ≡ Stuck k.UnknownName []
unfolding run
declared_below = refl

-- above it is
declared_above : run (program [] [] (function e.f (Some t.Int) (ints (e.a ∷ [])) [] (give (t.Binary op.Add (read e.a) (read e.a)) ∷ []) ∷ function e.g None [] [] (call e.f (num 1 ∷ []) ∷ []) ∷ []) [] (call e.g ([]) ∷ stop ∷ [])) [] 9
    ≡ End [] 0 []
unfolding run
declared_above = refl

-- and where a line announced it
announced : run (program [] (record { name = e.f; result = Some t.Int; parameters = (ints (e.a ∷ [])) } ∷ []) (function e.g None [] [] (call e.f (num 1 ∷ []) ∷ []) ∷ function e.f (Some t.Int) (ints (e.a ∷ [])) [] (give (t.Binary op.Add (read e.a) (read e.a)) ∷ []) ∷ []) [] (call e.g ([]) ∷ stop ∷ [])) [] 9
    ≡ End [] 0 []
unfolding run
announced = refl

-- a function that is announced and has no text is a value, and no call of it goes on
only_announced : run (program [] (record { name = e.f; result = Some t.Int; parameters = (ints (e.a ∷ [])) } ∷ []) ([]) (variable e.p (t.Named e.f_t) ∷ []) (set e.p (read e.f) ∷ put (num 65) ∷ call e.f (num 1 ∷ []) ∷ stop ∷ [])) [] 9
    ≡ Stuck k.UnknownName (65 ∷ [])
unfolding run
only_announced = refl

-- a pointer reaches a function that is declared below
called_from_above : run (program (variable e.p (t.Named e.f_t) ∷ []) [] (function e.g (Some t.Int) [] (ints (e.r ∷ [])) (ask e.r e.p (num 4 ∷ []) ∷ give (read e.r) ∷ []) ∷ function e.f (Some t.Int) (ints (e.a ∷ [])) [] (give (t.Binary op.Add (read e.a) (read e.a)) ∷ []) ∷ []) (ints (e.r ∷ [])) (set e.p (read e.f) ∷ ask e.r e.g ([]) ∷ give (read e.r) ∷ [])) [] 9
    ≡ End [] 8 []
unfolding run
called_from_above = refl

-- the name of a function is no place
function_is_no_place : run (program [] [] (function e.f (Some t.Int) (ints (e.a ∷ [])) [] (give (t.Binary op.Add (read e.a) (read e.a)) ∷ []) ∷ []) [] (set e.f t.Null ∷ stop ∷ [])) [] 9
    ≡ Stuck k.Mismatch []
unfolding run
function_is_no_place = refl

-- and stands under no `&`
function_has_no_address : run (program [] [] (function e.f (Some t.Int) (ints (e.a ∷ [])) [] (give (t.Binary op.Add (read e.a) (read e.a)) ∷ []) ∷ []) [] (t.Free (address e.f) ∷ stop ∷ [])) [] 9
    ≡ Stuck k.Mismatch []
unfolding run
function_has_no_address = refl

-- a place that is not declared, before its value
place_is_unknown : run (main [] (set e.a (t.Binary op.Divide (num 1) (num 0)) ∷ stop ∷ [])) [] 9
    ≡ Stuck k.UnknownName []
unfolding run
place_is_unknown = refl
