-- One step.
use Rattle.std.specs.Prelude.{ℕ, ◌+◌, true, false, if◌then◌else◌, List, [], ◌∷◌, ◌++◌, length, Option, Some, None, ℤ, pos, negsuc, nat_lt, slice_set}
use Rattle.c_tree.specs.Tree as t
use Rattle.c_tree.specs.Tree.{ObjectType, Expr, Statement}
use Rattle.c_tree.specs.declared.statement.CCallee.{CCallee}
use Rattle.c_tree.specs.declared.statement.CCallee.TheVariants as callee
use Rattle.c_tree.specs.declared.program.CVariable.{CVariable}
use Rattle.c_tree.specs.declared.program.CDeclaration.{CDeclaration}
use Rattle.c_tree.specs.declared.program.CFunction.{CFunction}
use Rattle.c_tree.specs.declared.program.CProgram.{CProgram}
use Rattle.c_meaning.specs.declared.StuckKind.{StuckKind}
use Rattle.c_meaning.specs.declared.StuckKind.TheVariants as k
use Rattle.c_meaning.specs.Cells.{Name, Cell, Null, Pointer, Function, Tree, Leaf, Block, Blocks, block_at}
use Rattle.c_meaning.specs.Answer.{Answer, Got, Bad, ◌>>=◌, or_bad, when}
use Rattle.c_meaning.specs.Types.{PlaceType, Plain, Array, Of, AnyPointer, Routine, points_to_object}
use Rattle.c_meaning.specs.Values.{Value, Typed, int, as_int, is_zero, value_of, leaf, converted}
use Rattle.c_meaning.specs.Evaluate.{View, Root, Named, At, Site, root_number, name_value, value, values, place}
use Rattle.c_meaning.specs.Fresh.{fresh, fresh_blocks}
use Rattle.c_meaning.specs.Entries.{number_at_end, with_entry}
use Rattle.c_meaning.specs.States.{Names, Target, Nowhere, Into, Frame, State, function_of, reach_of, store, without, view}
use Rattle.c_meaning.specs.Todo.{onto, from_label_of}

-- what a step gives: the next state, the end with a status, or a kind of being stuck
pub data Next : Type 0 where
  Onward : State → Next
  Ended : (status : ℕ) (output calls : List ℕ) → Next
  Halted : (kind : StuckKind) (output : List ℕ) → Next

-- the next state of a step that was taken in a state, or why there is none
unfoldable pub next : State → Answer State → Next
next st (Got new) = Onward new
next st (Bad kind) = Halted kind st.output

-- the same state, in which the function has other statements to do
unfoldable pub to_do : State → List Statement → State
to_do st todo = let f = st.frame in record st { frame = record f { todo = todo } }

-- the same state with other blocks, where there are such
unfoldable pub with_blocks : State → Answer Blocks → Answer State
with_blocks st blocks = blocks >>= (λ b. Got (record st { blocks = b }))

-- ---- stores

-- what a place takes of a value; a whole array takes none
unfoldable pub taken : List CDeclaration → PlaceType → Value → Answer Tree
taken ds (Plain of) x = converted ds of x
taken ds (Array n of) x = Bad k.Mismatch

-- the blocks after a part of a variable, or of a block, has changed
unfoldable pub put_root : View → Root → List ℕ → Tree → Answer Blocks
put_root v (Named x) path tree = v.put_named x path tree
put_root v (At n) path tree = v.put_block n path tree

-- the blocks after a store in a place
unfoldable pub put_value : View → Site → Value → Answer Blocks
put_value v at x = taken v.declared at.of x >>= put_root v at.root at.path

-- place = value;
unfoldable pub assign : View → t.Place → Expr → Answer Blocks
assign v at a = place v at >>= (λ site. value v a >>= put_value v site)

-- ---- the heap

-- place = malloc(sizeof(of)); the new block is the last one
unfoldable pub malloc : CProgram → View → Blocks → t.Place → ObjectType → Answer Blocks
malloc c v blocks at of =
    place v at >>= (λ site. put_value v site (Typed (Of (t.Pointer of)) (Leaf (Pointer (length blocks) []))) >>= (λ stored.
    Got (stored ++ Some (record { of = of; tree = fresh false c.declarations of; heap = true }) ∷ [])))

-- only the start of a block that `malloc` made is freed
unfoldable pub free_block : Blocks → ℕ → List ℕ → Option Block → Answer Blocks
free_block blocks n path None = Bad k.GoneUse
free_block blocks n [] (Some b) = when b.heap k.BadFree (Got (slice_set blocks n None))
free_block blocks n (i ∷ path) (Some b) = Bad k.BadFree

-- `NULL` is freed without effect
unfoldable pub free_cell : Blocks → Cell → Answer Blocks
free_cell blocks Null = Got blocks
free_cell blocks (Pointer n path) = free_block blocks n path (block_at blocks n)
free_cell blocks _ = Bad k.Mismatch

-- free(pointer);
unfoldable pub free_value : Blocks → Value → Answer Blocks
free_value blocks (Typed of tree) = when (points_to_object of) k.Mismatch (leaf tree >>= free_cell blocks)

-- ---- input and output

-- the next byte of the input, or -1
unfoldable pub next_byte : List ℕ → ℤ
next_byte [] = negsuc 0
next_byte (b ∷ rest) = pos b

-- the input after it
unfoldable pub after_byte : List ℕ → List ℕ
after_byte [] = []
after_byte (b ∷ rest) = rest

-- place = getchar();
unfoldable pub get_char : View → State → t.Place → Answer State
get_char v st at = with_blocks (record st { input = after_byte st.input }) (place v at >>= (λ site. put_value v site (int (next_byte st.input))))

-- a number is written, if it is a byte
unfoldable pub put_byte : State → ℤ → Answer State
put_byte st (pos n) = when (nat_lt n 256) k.BadByteValue (Got (record st { output = st.output ++ n ∷ [] }))
put_byte st (negsuc n) = Bad k.BadByteValue

-- putchar(value);
unfoldable pub put_char : View → State → Expr → Answer State
put_char v st a = value v a >>= (λ x. as_int x >>= put_byte st)

-- ---- calls

-- the name of the function that a value points to
unfoldable pub called_cell : Cell → Answer Name
called_cell (Function f) = Got f
called_cell Null = Bad k.NullUse
called_cell _ = Bad k.Mismatch

-- only a function, and a variable of a typedef's type, is called
unfoldable pub called_value : Value → Answer Name
called_value (Typed (Routine s) tree) = leaf tree >>= called_cell
called_value (Typed (Of (t.Named n)) tree) = leaf tree >>= called_cell
called_value (Typed AnyPointer tree) = Bad k.NullUse
called_value _ = Bad k.Mismatch

-- a callee that is a name is its value
unfoldable pub called : View → CCallee → Answer Name
called v (callee.Direct n) = name_value v n (v.named n) >>= called_value
called v (callee.Indirect a) = value v a >>= called_value

-- where the answer goes
unfoldable pub target_of : View → Option t.Place → Answer Target
target_of v None = Got Nowhere
target_of v (Some at) = place v at >>= (λ site. root_number v site.root >>= (λ n. Got (Into n site.path site.of)))

-- the blocks of the parameters
unfoldable pub parameter_blocks : List CDeclaration → List CVariable → List Value → Answer Blocks
parameter_blocks ds [] [] = Got []
parameter_blocks ds [] (x ∷ xs) = Bad k.Mismatch
parameter_blocks ds (q ∷ rest) [] = Bad k.Mismatch
parameter_blocks ds (q ∷ rest) (x ∷ xs) =
    converted ds q.of x >>= (λ tree. parameter_blocks ds rest xs >>= (λ blocks.
    Got (Some (record { of = q.of; tree = tree; heap = false }) ∷ blocks)))

-- variables with the numbers of their blocks, which begin at n
unfoldable pub names_from : ℕ → List CVariable → Names
names_from n [] = []
names_from n (x ∷ rest) = (x.name, n) ∷ names_from (n + 1) rest

-- a function is entered: fresh blocks for its parameters and locals, and its number among the calls
unfoldable pub enter : CProgram → State → List Statement → CFunction → Target → Blocks → State
enter c st rest g target parameters = let f = st.frame in record {
  frame = record { result = g.result; body = g.body; reach = reach_of g.name c.functions; names = names_from (length st.blocks) (g.parameters ++ g.locals); todo = g.body; target = target };
  below = record f { todo = rest } ∷ st.below;
  blocks = st.blocks ++ (parameters ++ fresh_blocks false c.declarations g.locals);
  input = st.input;
  output = st.output;
  calls = with_entry (number_at_end g.name) st.calls;
}

-- a call: callee, place and arguments are evaluated, and then the function is entered
unfoldable pub call : CProgram → View → State → List Statement → Option t.Place → CCallee → List Expr → Answer State
call c v st rest into who arguments =
    called v who >>= (λ name. target_of v into >>= (λ target. values v arguments >>= (λ xs.
    or_bad k.UnknownName (function_of name c.functions) >>= (λ g.
    parameter_blocks c.declarations g.parameters xs >>= (λ blocks. Got (enter c st rest g target blocks))))))

-- ---- the end of a function

-- what a function with this result gives of a value; `void` gives none
unfoldable pub result_of : List CDeclaration → Option ObjectType → Value → Answer Value
result_of ds None x = Bad k.Mismatch
result_of ds (Some of) x = converted ds of x >>= (λ tree. Got (value_of of tree))

-- the value of a `return`
unfoldable pub returned : View → Option ObjectType → Option Expr → Answer (Option Value)
returned v result None = Got None
returned v result (Some a) = value v a >>= (λ x. result_of v.declared result x >>= (λ y. Got (Some y)))

-- the blocks after the answer is stored
unfoldable pub answered : List CDeclaration → Blocks → Target → Option Value → Answer Blocks
answered ds blocks Nowhere answer = Got blocks
answered ds blocks (Into n path of) None = Bad k.NoValue
answered ds blocks (Into n path of) (Some x) = taken ds of x >>= store blocks n path

-- a status is one of 0..209
unfoldable pub in_status : ℤ → Answer ℕ
in_status (pos n) = when (nat_lt n 210) k.BadStatus (Got n)
in_status (negsuc n) = Bad k.BadStatus

-- the status that `main` gives
unfoldable pub status_of : Option Value → Answer ℕ
status_of None = Bad k.BadStatus
status_of (Some x) = as_int x >>= in_status

-- the end of the program
unfoldable pub finish : State → Answer ℕ → Next
finish st (Got status) = Ended status st.output st.calls
finish st (Bad kind) = Halted kind st.output

-- the function ends, and the one below goes on; without one, the program ends
unfoldable pub leave_to : CProgram → State → List Frame → Option Value → Next
leave_to c st [] answer = finish st (status_of answer)
leave_to c st (g ∷ below) answer = next st (with_blocks (record st { frame = g; below = below }) (answered c.declarations (without st.frame.names st.blocks) st.frame.target answer))

-- the end of the function that runs
unfoldable pub leave : CProgram → State → Option Value → Next
leave c st answer = leave_to c st st.below answer

-- the same, where it is known what it gives
unfoldable pub leave_with : CProgram → State → Answer (Option Value) → Next
leave_with c st (Got answer) = leave c st answer
leave_with c st (Bad kind) = Halted kind st.output

-- ---- statements

-- what a test chooses to do next
unfoldable pub branch : View → Expr → List Statement → List Statement → Answer (List Statement)
branch v test taken other = value v test >>= (λ x. as_int x >>= (λ z. Got (if is_zero z then other else taken)))

-- the function goes on with other statements
unfoldable pub go_on : State → Answer (List Statement) → Next
go_on st todo = next st (todo >>= (λ rest. Got (to_do st rest)))

-- one statement, before the rest
unfoldable pub do_statement : CProgram → View → State → List Statement → Statement → Next
do_statement c v st rest (t.Assign at a) = next st (with_blocks (to_do st rest) (assign v at a))
do_statement c v st rest (t.Call into who arguments) = next st (call c v st rest into who arguments)
do_statement c v st rest (t.Malloc at of) = next st (with_blocks (to_do st rest) (malloc c v st.blocks at of))
do_statement c v st rest (t.Free a) = next st (with_blocks (to_do st rest) (value v a >>= free_value st.blocks))
do_statement c v st rest (t.GetChar at) = next st (get_char v (to_do st rest) at)
do_statement c v st rest (t.PutChar a) = next st (put_char v (to_do st rest) a)
do_statement c v st rest (t.If test a) = go_on st (branch v test (onto a rest) rest)
do_statement c v st rest (t.IfElse test a b) = go_on st (branch v test (onto a rest) (onto b rest))
do_statement c v st rest (t.While test a) = go_on st (branch v test (onto a (t.While test a ∷ rest)) rest)
do_statement c v st rest (t.Goto l) = go_on st (or_bad k.UnknownName (from_label_of l st.frame.body))
do_statement c v st rest (t.Label l) = Onward (to_do st rest)
do_statement c v st rest (t.Return a) = leave_with c st (returned v st.frame.result a)

-- what a function sees when it is at a state
unfoldable pub view_of : CProgram → State → View
view_of c st = view c st.frame.reach st.frame.names st.blocks

-- the first statement, or where none is left the fall from the end
unfoldable pub do_next : CProgram → State → List Statement → Next
do_next c st [] = leave c st None
do_next c st (first ∷ rest) = do_statement c (view_of c st) st rest first

-- one step: the first statement that is still to do, or the fall from the function's end
unfoldable pub CStep : CProgram → State → Next
CStep c st = do_next c st st.frame.todo
