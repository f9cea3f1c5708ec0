-- The parts of a call.
use Rattle.std.specs.Prelude.{◌≡◌, ℕ, ◌+◌, ◌<◌, ◌++◌, length, if◌then◌else◌, Bool, true, false, List, [], ◌∷◌, Option, Some, None}
use Rattle.std.specs.Str.{bytes_eq}
use Rattle.c_tree.specs.Tree as t
use Rattle.c_tree.specs.Tree.{Expr}
use Rattle.c_tree.specs.declared.statement.CCallee.{CCallee}
use Rattle.c_tree.specs.declared.statement.CCallee.TheVariants as callee
use Rattle.c_tree.specs.declared.program.CDeclaration.{CDeclaration}
use Rattle.c_tree.specs.declared.program.CVariable.{CVariable}
use Rattle.c_tree.specs.declared.program.CFunction.{CFunction}
use Rattle.c_tree.specs.declared.program.CProgram.{CProgram}
use Rattle.c_meaning.specs.declared.StuckKind.TheVariants as k
use Rattle.c_meaning.specs.Cells.{Name, Block, Blocks}
use Rattle.c_meaning.specs.Answer.{Answer, Got, ◌>>=◌, or_bad}
use Rattle.c_meaning.specs.Values.{Value, leaf, converted}
use Rattle.c_evaluation.specs.Values.{tree_in}
use Rattle.c_meaning.specs.Evaluate.{View, Site, name_value, root_number, value, values}
use Rattle.c_meaning.specs.Fresh.{fresh_blocks}
use Rattle.c_meaning.specs.Entries.{number_at_end, with_entry}
use Rattle.c_meaning.specs.States as m
use Rattle.c_meaning.specs.States.{State}
use Rattle.c_meaning.specs.Steps.{called_cell, called_value, target_of, parameter_blocks, names_from}
use Rattle.c_stepper.specs.Runners as r
use Rattle.c_stepper.specs.Runners.{parts_at, name_at}
use Rattle.c_stepper.specs.declared.call.Entry.{Entry}
use Rattle.c_stepper.specs.declared.runner.Target.{Target}
use Rattle.c_stepper.specs.declared.runner.Done.{Done}
use Rattle.c_stepper.specs.declared.runner.Done.TheVariants as d

-- the place of the first function with a name, counted from i
abbrev pub function_from : ℕ → Name → List CFunction → Option ℕ
function_from i x [] = None
function_from i x (f ∷ rest) = if bytes_eq x f.name then Some i else function_from (i + 1) x rest

-- the value that is called
abbrev pub callee_value : View → CCallee → Answer Value
callee_value v (callee.Direct n) = name_value v n (v.named n)
callee_value v (callee.Indirect a) = value v a

-- the name of the function that a value points to
abbrev pub pointed_name : Value → Answer Name
pointed_name x = leaf (tree_in x) >>= called_cell

-- whether it is the type of a typedef
abbrev pub is_named : t.ObjectType → Bool
is_named (t.Named n) = true
is_named _ = false

-- the function with the name that a value points to
abbrev pub function_called : List CFunction → Value → Answer (Option ℕ)
function_called functions x = called_value x >>= (λ name. Got (function_from 0 name functions))

-- the function that is called
abbrev pub callee_function : CProgram → View → CCallee → Answer (Option ℕ)
callee_function c v who = callee_value v who >>= function_called c.functions

-- a place of a block, for an answer
abbrev pub placed : ℕ → Site → m.Target
placed n s = m.Into n s.path s.of

abbrev pub site_target : View → Site → Answer m.Target
site_target v s = root_number v s.root >>= (λ n. Got (placed n s))

-- the block of a parameter
abbrev pub parameter_block : List CDeclaration → CVariable → Value → Answer Block
parameter_block ds q x = converted ds q.of x >>= (λ tree. Got (record { of = q.of; tree = tree; heap = false }))

-- a function that is entered: its number, the place for its answer, and the blocks of its parameters
abbrev pub Entered : Type 0
Entered = ℕ × m.Target × Blocks

abbrev pub entered_of : Entry → Entered
entered_of e = (e.function, r.target_of e.target, e.parameters)

abbrev pub entry_with : ℕ → Target → Blocks → Entry
entry_with function target parameters = record { function = function; target = target; parameters = parameters }

-- the function is there, and has a block for each parameter
pub record IsEntry (c : CProgram) (e : Entry) : Type 0 where
  pub within : e.function < length c.functions
  pub fits : length e.parameters ≡ length (parts_at c (Some e.function)).parameters

abbrev pub fitted : CProgram → ℕ → m.Target → List Value → Answer Entered
fitted c n target xs = let p = parts_at c (Some n) in parameter_blocks c.declarations p.parameters xs >>= (λ blocks. Got (n, target, blocks))

-- the entry of the function with a number, or of none
abbrev pub entered_with : CProgram → m.Target → List Value → Option ℕ → Answer Entered
entered_with c target xs which = or_bad k.UnknownName which >>= (λ n. fitted c n target xs)

-- what a call enters
abbrev pub entered : CProgram → View → Option t.Place → CCallee → List Expr → Answer Entered
entered c v into who arguments =
    callee_function c v who >>= (λ which. target_of v into >>= (λ target. values v arguments >>= (λ xs. entered_with c target xs which)))

-- the state in which the function begins
abbrev pub entered_state : CProgram → State → List t.Statement → Entered → State
entered_state c st rest e = let f = st.frame in let p = parts_at c (Some e.0) in record {
  frame = record { result = p.result; body = p.body; reach = e.0 + 1; names = names_from (length st.blocks) (p.parameters ++ p.locals); todo = p.body; target = e.1 };
  below = record f { todo = rest } ∷ st.below;
  blocks = st.blocks ++ (e.2 ++ fresh_blocks false c.declarations p.locals);
  input = st.input;
  output = st.output;
  calls = with_entry (number_at_end (name_at c e.0)) st.calls;
}

-- whether the call is counted
abbrev pub entry_done : Bool → Done
entry_done true = d.Entered
entry_done false = d.Going
