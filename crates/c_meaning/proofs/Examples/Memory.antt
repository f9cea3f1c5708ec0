-- Structs, arrays, pointers and the heap.
use Rattle.std.proofs.Common.{◌≡◌, [], ◌∷◌, Some, refl}
use Rattle.c_tree.specs.Tree as t
use Rattle.c_tree.specs.declared.operators.CUnary.TheVariants as un
use Rattle.c_tree.specs.declared.operators.CBinary.TheVariants as op
use Rattle.c_tree.specs.declared.operators.CCast.TheVariants as to
use Rattle.c_meaning.specs.declared.StuckKind.TheVariants as k
use Rattle.c_meaning.specs.Runs.{Going, End, Stuck}
use Rattle.c_meaning.specs.Whole.{run}
use Rattle.c_meaning.proofs.Examples.Build as e
use Rattle.c_meaning.proofs.Examples.Build.{var, read, num, address, target, variable, ints, set, put, give, stop, when, ask, function, program, main}

-- a local begins empty
local_begins_empty : run (main (ints (e.a ∷ [])) (give (read e.a) ∷ [])) [] 9
    ≡ Stuck k.Indeterminate []
unfolding run
local_begins_empty = refl

-- a struct is copied cell by cell, its empty cells too
struct_copied : run (main (variable e.a (t.Struct e.s_t) ∷ variable e.b (t.Struct e.s_t) ∷ []) (t.Assign (t.Member (var e.a) e.k) (num 5) ∷ set e.b (read e.a) ∷ t.Assign (t.Member (var e.a) e.k) (num 6) ∷ give (t.Read (t.Member (var e.b) e.k)) ∷ [])) [] 9
    ≡ End [] 5 []
unfolding run
struct_copied = refl

-- a cell that was copied empty is empty
empty_cell_copied : run (main (variable e.a (t.Struct e.s_t) ∷ variable e.b (t.Struct e.s_t) ∷ []) (t.Assign (t.Member (var e.a) e.k) (num 5) ∷ set e.b (read e.a) ∷ give (t.Read (t.Index (t.Member (var e.b) e.bytes) (num 0))) ∷ [])) [] 9
    ≡ Stuck k.Indeterminate []
unfolding run
empty_cell_copied = refl

-- all cells of a global begin as zero and `NULL`
global_struct : run (program (variable e.a (t.Struct e.o_t) ∷ []) [] ([]) [] (give (t.Binary op.Add (t.Read (t.Index (t.Member (t.Member (var e.a) e.y) e.bytes) (num 2))) (t.Binary op.Equal (t.Read (t.Member (var e.a) e.p)) t.Null)) ∷ [])) [] 9
    ≡ End [] 1 []
unfolding run
global_struct = refl

-- a pointer into an array of a struct
into_array : run (main (variable e.a (t.Struct e.s_t) ∷ variable e.p (t.Pointer t.Byte) ∷ []) (set e.p (t.Address (t.Index (t.Member (var e.a) e.bytes) (num 1))) ∷ t.Assign (target e.p) (num 77) ∷ give (t.Read (t.Index (t.Member (var e.a) e.bytes) (num 1))) ∷ [])) [] 9
    ≡ End [] 77 []
unfolding run
into_array = refl

-- a pointer into a struct of a struct on the heap
into_struct : run (main (variable e.p (t.Pointer (t.Struct e.o_t)) ∷ variable e.q (t.Pointer (t.Struct e.s_t)) ∷ []) (t.Malloc (var e.p) (t.Struct e.o_t) ∷ set e.q (t.Address (t.Member (target e.p) e.y)) ∷ t.Assign (t.Member (target e.q) e.k) (num 8) ∷ give (t.Read (t.Member (t.Member (target e.p) e.y) e.k)) ∷ [])) [] 9
    ≡ End [] 8 []
unfolding run
into_struct = refl

-- a struct is passed and given back
struct_passed : run (program [] [] (function e.f (Some (t.Struct e.s_t)) (variable e.a (t.Struct e.s_t) ∷ []) [] (t.Assign (t.Member (var e.a) e.k) (t.Binary op.Add (t.Read (t.Member (var e.a) e.k)) (num 1)) ∷ give (read e.a) ∷ []) ∷ []) (variable e.a (t.Struct e.s_t) ∷ variable e.b (t.Struct e.s_t) ∷ []) (t.Assign (t.Member (var e.a) e.k) (num 5) ∷ ask e.b e.f (read e.a ∷ []) ∷ give (t.Binary op.Add (t.Binary op.Multiply (t.Read (t.Member (var e.b) e.k)) (num 10)) (t.Read (t.Member (var e.a) e.k))) ∷ [])) [] 20
    ≡ End [] 65 []
unfolding run
struct_passed = refl

-- a pointer to a variable of a function that ended may be stored
gone_local : run (program [] [] (function e.f (Some (t.Pointer t.Int)) [] (ints (e.a ∷ [])) (set e.a (num 1) ∷ give (address e.a) ∷ []) ∷ []) (variable e.p (t.Pointer t.Int) ∷ []) (ask e.p e.f ([]) ∷ put (num 65) ∷ give (t.Read (target e.p)) ∷ [])) [] 4
    ≡ Going (65 ∷ []) []
unfolding run
gone_local = refl

-- and not read
gone_local_read : run (program [] [] (function e.f (Some (t.Pointer t.Int)) [] (ints (e.a ∷ [])) (set e.a (num 1) ∷ give (address e.a) ∷ []) ∷ []) (variable e.p (t.Pointer t.Int) ∷ []) (ask e.p e.f ([]) ∷ put (num 65) ∷ give (t.Read (target e.p)) ∷ [])) [] 5
    ≡ Stuck k.GoneUse (65 ∷ [])
unfolding run
gone_local_read = refl

-- a pointer to a freed block is not read, nor freed once more
freed : run (main (variable e.p (t.Pointer t.Int) ∷ []) (t.Malloc (var e.p) t.Int ∷ t.Free (read e.p) ∷ t.Free (read e.p) ∷ stop ∷ [])) [] 9
    ≡ Stuck k.GoneUse []
unfolding run
freed = refl

-- a struct that holds such a pointer is copied
gone_pointer_copied : run (main (variable e.a (t.Struct e.o_t) ∷ variable e.b (t.Struct e.o_t) ∷ []) (t.Malloc (t.Member (var e.a) e.p) (t.Struct e.o_t) ∷ t.Free (t.Read (t.Member (var e.a) e.p)) ∷ set e.b (read e.a) ∷ stop ∷ [])) [] 9
    ≡ End [] 0 []
unfolding run
gone_pointer_copied = refl

-- a `malloc` block begins empty
heap_begins_empty : run (main (variable e.p (t.Pointer t.Int) ∷ []) (t.Malloc (var e.p) t.Int ∷ give (t.Read (target e.p)) ∷ [])) [] 9
    ≡ Stuck k.Indeterminate []
unfolding run
heap_begins_empty = refl

-- and holds what is stored in it
heap_used : run (main (variable e.p (t.Pointer t.Int) ∷ []) (t.Malloc (var e.p) t.Int ∷ t.Assign (target e.p) (num 9) ∷ put (t.Read (target e.p)) ∷ t.Free (read e.p) ∷ stop ∷ [])) [] 9
    ≡ End (9 ∷ []) 0 []
unfolding run
heap_used = refl

-- each `malloc` gives a block of its own
blocks_differ : run (main (variable e.p (t.Pointer t.Int) ∷ variable e.q (t.Pointer t.Int) ∷ []) (t.Malloc (var e.p) t.Int ∷ t.Malloc (var e.q) t.Int ∷ give (t.Binary op.Add (t.Binary op.Equal (read e.p) (read e.q)) (t.Binary op.Equal (read e.p) (read e.p))) ∷ [])) [] 9
    ≡ End [] 1 []
unfolding run
blocks_differ = refl

-- `free` of `NULL` does nothing
null_freed : run (main (variable e.p (t.Pointer t.Int) ∷ []) (t.Free t.Null ∷ set e.p t.Null ∷ t.Free (read e.p) ∷ stop ∷ [])) [] 9
    ≡ End [] 0 []
unfolding run
null_freed = refl

-- only the start of a `malloc` block is freed
member_freed : run (main (variable e.p (t.Pointer (t.Struct e.s_t)) ∷ []) (t.Malloc (var e.p) (t.Struct e.s_t) ∷ t.Free (t.Address (t.Member (target e.p) e.k)) ∷ stop ∷ [])) [] 9
    ≡ Stuck k.BadFree []
unfolding run
member_freed = refl

-- and no variable
local_freed : run (main (ints (e.a ∷ [])) (t.Free (address e.a) ∷ stop ∷ [])) [] 9
    ≡ Stuck k.BadFree []
unfolding run
local_freed = refl

-- nor a number
number_freed : run (main (ints (e.a ∷ [])) (t.Free (num 0) ∷ stop ∷ [])) [] 9
    ≡ Stuck k.Mismatch []
unfolding run
number_freed = refl

-- an index behind its array
too_far : run (main (variable e.a (t.Struct e.s_t) ∷ []) (t.Assign (t.Index (t.Member (var e.a) e.bytes) (num 3)) (num 1) ∷ stop ∷ [])) [] 9
    ≡ Stuck k.BadIndex []
unfolding run
too_far = refl

-- an index before it
before_the_first : run (main (variable e.a (t.Struct e.s_t) ∷ []) (t.Assign (t.Index (t.Member (var e.a) e.bytes) (t.Unary un.Minus (num 1))) (num 1) ∷ stop ∷ [])) [] 9
    ≡ Stuck k.BadIndex []
unfolding run
before_the_first = refl

-- a number that is no byte
byte_too_great : run (main (variable e.a (t.Struct e.s_t) ∷ []) (t.Assign (t.Index (t.Member (var e.a) e.bytes) (num 0)) (num 256) ∷ stop ∷ [])) [] 9
    ≡ Stuck k.BadByteValue []
unfolding run
byte_too_great = refl

-- a number below 0
byte_below_zero : run (main (variable e.a t.Byte ∷ []) (set e.a (t.Unary un.Minus (num 1)) ∷ stop ∷ [])) [] 9
    ≡ Stuck k.BadByteValue []
unfolding run
byte_below_zero = refl

-- `putchar` of no byte
no_byte_written : run (main [] (put (num 256) ∷ stop ∷ [])) [] 9
    ≡ Stuck k.BadByteValue []
unfolding run
no_byte_written = refl

-- `NULL` is followed
null_followed : run (main (variable e.p (t.Pointer t.Int) ∷ []) (set e.p t.Null ∷ give (t.Read (target e.p)) ∷ [])) [] 9
    ≡ Stuck k.NullUse []
unfolding run
null_followed = refl

-- a `void *` has no target
void_pointer_followed : run (main (variable e.p t.VoidPointer ∷ variable e.a t.Int ∷ []) (set e.p (t.Cast to.VoidPointer (address e.a)) ∷ give (t.Read (target e.p)) ∷ [])) [] 9
    ≡ Stuck k.Mismatch []
unfolding run
void_pointer_followed = refl

-- a pointer to a struct is cast to `void *` and back
cast_and_back : run (main (variable e.p t.VoidPointer ∷ variable e.a (t.Struct e.s_t) ∷ variable e.q (t.Pointer (t.Struct e.s_t)) ∷ []) (t.Assign (t.Member (var e.a) e.k) (num 3) ∷ set e.p (t.Cast to.VoidPointer (address e.a)) ∷ set e.q (t.Cast (to.StructPointer e.s_t) (read e.p)) ∷ give (t.Read (t.Member (target e.q) e.k)) ∷ [])) [] 9
    ≡ End [] 3 []
unfolding run
cast_and_back = refl

-- a cast looks at the block: a member that is such a struct
cast_of_a_member : run (main (variable e.p t.VoidPointer ∷ variable e.a (t.Struct e.o_t) ∷ variable e.q (t.Pointer (t.Struct e.s_t)) ∷ []) (t.Assign (t.Member (t.Member (var e.a) e.y) e.k) (num 4) ∷ set e.p (t.Cast to.VoidPointer (t.Address (t.Member (var e.a) e.y))) ∷ set e.q (t.Cast (to.StructPointer e.s_t) (read e.p)) ∷ give (t.Read (t.Member (target e.q) e.k)) ∷ [])) [] 9
    ≡ End [] 4 []
unfolding run
cast_of_a_member = refl

-- and a block of another type
cast_to_other_struct : run (main (variable e.p t.VoidPointer ∷ variable e.a (t.Struct e.o_t) ∷ variable e.q (t.Pointer (t.Struct e.s_t)) ∷ []) (set e.p (t.Cast to.VoidPointer (address e.a)) ∷ set e.q (t.Cast (to.StructPointer e.s_t) (read e.p)) ∷ stop ∷ [])) [] 9
    ≡ Stuck k.Mismatch []
unfolding run
cast_to_other_struct = refl

-- `NULL` is cast to any pointer
cast_of_null : run (main (variable e.q (t.Pointer (t.Struct e.s_t)) ∷ []) (set e.q (t.Cast (to.StructPointer e.s_t) (t.Cast to.VoidPointer t.Null)) ∷ give (t.Binary op.Equal (read e.q) t.Null) ∷ [])) [] 9
    ≡ End [] 1 []
unfolding run
cast_of_null = refl

-- a pointer to a function is not cast
cast_of_a_function : run (program [] [] (function e.f (Some t.Int) (ints (e.a ∷ [])) [] (give (t.Binary op.Add (read e.a) (read e.a)) ∷ []) ∷ []) (variable e.p t.VoidPointer ∷ []) (set e.p (t.Cast to.VoidPointer (read e.f)) ∷ stop ∷ [])) [] 9
    ≡ Stuck k.Mismatch []
unfolding run
cast_of_a_function = refl

-- a whole array is not read
array_read : run (main (variable e.a (t.Struct e.s_t) ∷ variable e.b (t.Struct e.s_t) ∷ []) (t.Assign (t.Member (var e.a) e.bytes) (t.Read (t.Member (var e.b) e.bytes)) ∷ stop ∷ [])) [] 9
    ≡ Stuck k.Mismatch []
unfolding run
array_read = refl

-- nor assigned
array_assigned : run (main (variable e.a (t.Struct e.s_t) ∷ []) (t.Assign (t.Member (var e.a) e.bytes) (num 0) ∷ stop ∷ [])) [] 9
    ≡ Stuck k.Mismatch []
unfolding run
array_assigned = refl

-- and has no address
array_addressed : run (main (variable e.a (t.Struct e.s_t) ∷ []) (t.Free (t.Address (t.Member (var e.a) e.bytes)) ∷ stop ∷ [])) [] 9
    ≡ Stuck k.Mismatch []
unfolding run
array_addressed = refl

-- a member that the struct does not have
no_such_member : run (main (variable e.a (t.Struct e.s_t) ∷ []) (give (t.Read (t.Member (var e.a) e.x)) ∷ [])) [] 9
    ≡ Stuck k.UnknownName []
unfolding run
no_such_member = refl

-- a member of what is no struct
member_of_a_number : run (main (ints (e.a ∷ [])) (give (t.Read (t.Member (var e.a) e.x)) ∷ [])) [] 9
    ≡ Stuck k.Mismatch []
unfolding run
member_of_a_number = refl

-- an element of what is no array
element_of_a_number : run (main (ints (e.a ∷ [])) (give (t.Read (t.Index (var e.a) (num 0))) ∷ [])) [] 9
    ≡ Stuck k.Mismatch []
unfolding run
element_of_a_number = refl

-- `malloc` goes to a pointer to its type
malloc_for_other_type : run (main (variable e.p (t.Pointer (t.Struct e.s_t)) ∷ []) (t.Malloc (var e.p) t.Int ∷ stop ∷ [])) [] 9
    ≡ Stuck k.Mismatch []
unfolding run
malloc_for_other_type = refl

-- structs are not compared
structs_compared : run (main (variable e.a (t.Struct e.s_t) ∷ []) (give (t.Binary op.Equal (read e.a) (read e.a)) ∷ [])) [] 9
    ≡ Stuck k.Mismatch []
unfolding run
structs_compared = refl

-- a `uint64_t` is no `int64_t`
word_for_a_number : run (main (ints (e.a ∷ [])) (set e.a (t.WordNumber 1) ∷ stop ∷ [])) [] 9
    ≡ Stuck k.Mismatch []
unfolding run
word_for_a_number = refl

-- and no byte
word_written : run (main [] (put (t.WordNumber 65) ∷ stop ∷ [])) [] 9
    ≡ Stuck k.Mismatch []
unfolding run
word_written = refl

-- it is kept in a place of its type
word_kept : run (main (variable e.a t.Word ∷ []) (set e.a (t.WordNumber 6) ∷ give (t.Cast to.Int (t.Binary op.BitXor (read e.a) (t.WordNumber 3))) ∷ [])) [] 9
    ≡ End [] 5 []
unfolding run
word_kept = refl

-- and decides nothing
word_tested : run (main [] (when (t.WordNumber 1) (stop ∷ []) ∷ stop ∷ [])) [] 9
    ≡ Stuck k.Mismatch []
unfolding run
word_tested = refl

-- a store through a pointer to a freed block
stored_after_free : run (main (variable e.p (t.Pointer t.Int) ∷ []) (t.Malloc (var e.p) t.Int ∷ t.Free (read e.p) ∷ t.Assign (target e.p) (num 1) ∷ stop ∷ [])) [] 9
    ≡ Stuck k.GoneUse []
unfolding run
stored_after_free = refl
