-- Steps that reckon with numbers alone.
use Rattle.std.specs.Prelude.{◌≡◌, ℕ, ◌+◌, ◌<◌, ◌^◌, Bool, true, false, not, List, [], ◌∷◌, ◌++◌, Option, Some, None, slice_get}
use Rattle.c_tree.specs.Tree.{Statement}
use Rattle.c_tree.specs.declared.program.CVariable.{CVariable}
use Rattle.c_tree.specs.declared.program.CProgram.{CProgram}
use Rattle.c_meaning.specs.Cells.{Blocks}
use Rattle.c_meaning.specs.States.{State, view}
use Rattle.c_meaning.specs.Steps.{Onward, do_statement, names_from, to_do}
use Rattle.c_evaluation.specs.declared.numbers.Number.{Number}
use Rattle.c_meaning.specs.Runs.{run_from}
use Rattle.c_evaluation.specs.declared.numbers.Variable.{Variable}
use Rattle.c_evaluation.specs.Numbers.{Puts, Chooses}
use Rattle.label_ways.specs.declared.level.Level.{Level}
use Rattle.c_stepper.specs.declared.resolved.code.Code.{Code}
use Rattle.c_stepper.specs.declared.resolved.code.Row.{Row}
use Rattle.c_stepper.specs.declared.resolved.code.Node.{Node}
use Rattle.c_stepper.specs.declared.resolved.note.ProgramCode.{ProgramCode}
use Rattle.c_stepper.specs.Codes.{IsResolved, IsNode, IsRow, IsCode, IsProgramCode}
use Rattle.c_stepper.specs.declared.guide.Guide.{Guide}
use Rattle.c_stepper.specs.declared.runner.Frame.{Frame}
use Rattle.c_stepper.specs.declared.runner.Runner.{Runner}
use Rattle.c_stepper.specs.declared.spot.Spot.{Spot}
use Rattle.c_stepper.specs.declared.quick.Course.{Course}
use Rattle.c_stepper.specs.declared.quick.Course.TheVariants as k
use Rattle.c_stepper.specs.Guides.{IsGuide}
use Rattle.c_stepper.specs.Spots.{list_in, after_of, todo_at, todo_of}
use Rattle.c_stepper.specs.Runners.{parts_at, body_at, variables_at, statement_at, is_reading, state_of, AsksForByte}

-- ---- the code of a statement

-- the code of the function with a number, or of `main`
abbrev pub code_at : ProgramCode → Option ℕ → Option Code
code_at all None = Some all.main
code_at all (Some n) = slice_get all.functions.items n

-- in each program whose code this is, it is the code of the function
abbrev pub IsCodeOf : ProgramCode → Option ℕ → Code → Type 0
IsCodeOf all function code = (c : CProgram) → IsProgramCode c all → let p = parts_at c function in IsCode c (p.parameters ++ p.locals) code p.body

-- in each text whose code this is, the row is that of the innermost list
abbrev pub IsRowAt : Code → List Level → Row → Type 0
IsRowAt code outer row = (c : CProgram) (vars : List CVariable) (body : List Statement) → IsCode c vars code body → IsRow c vars code.nodes.items row (list_in body outer)

-- a statement stands at a place of it, and the node is its
abbrev pub IsNodeAt : Code → List Level → ℕ → Node → Type 0
IsNodeAt code outer at node = (c : CProgram) (vars : List CVariable) (body : List Statement) → IsCode c vars code body → (s : Statement) × (slice_get (list_in body outer) at ≡ Some s) × IsNode c vars code.nodes.items node s

-- in each program whose guide this is, a statement comes next, and the node is its
abbrev pub IsHere : Guide → Frame → Node → Type 0
IsHere guide f node = (c : CProgram) → IsGuide c guide → (s : Statement) × (statement_at c f ≡ Some s) × IsResolved c (variables_at c f) node.resolved s

-- the node that stands there among those of the function is that of the statement that comes next
pub record NextAt (guide : Guide) (f : Frame) (k : ℕ) : Type 0 where
  pub node : (code : Code) (node : Node) → code_at guide.code f.function ≡ Some code → slice_get code.nodes.items k ≡ Some node → IsHere guide f node
  pub small : f.spot.at + 1 < 2 ^ 64

-- ---- lists that are done

-- behind the innermost list, the list around it goes on here
abbrev pub Leaves : Code → List Level → ℕ → Type 0
Leaves code outer at = (above : List Level) (last : Level) → outer ≡ above ++ last ∷ [] → (c : CProgram) (vars : List CVariable) (body : List Statement) → IsCode c vars code body → after_of last.at (slice_get (list_in body above) last.at) ≡ at

-- the same is still to do
abbrev pub SameTodo : Code → Spot → Spot → Type 0
SameTodo code spot spot' = (c : CProgram) (vars : List CVariable) (body : List Statement) → IsCode c vars code body → todo_of body spot' ≡ todo_of body spot

-- ---- one step

-- the function goes on behind the statement
pub record GoesOn (f f' : Frame) : Type 0 where
  pub rest : f' ≡ record f { spot = f'.spot }
  pub outer : f'.spot.outer.items ≡ f.spot.outer.items
  pub at : f'.spot.at ≡ f.spot.at + 1

-- it goes into a branch of it
pub record Enters (second : Bool) (f f' : Frame) : Type 0 where
  pub rest : f' ≡ record f { spot = f'.spot }
  pub outer : f'.spot.outer.items ≡ f.spot.outer.items ++ record { at = f.spot.at; second = second } ∷ []
  pub at : f'.spot.at ≡ 0

-- where a test leads
abbrev pub Led : Bool → Frame → Frame → Type 0
Led true f f' = Enters false f f'
Led false f f' = GoesOn f f'

-- a test of the number says so
abbrev pub TestGoes : Blocks → Number → Frame → Frame → Type 0
TestGoes blocks number f f' = (b : Bool) × Chooses blocks f.base number b × Led b f f'

-- the same of an `if` with `else`
abbrev pub ChoiceGoes : Blocks → Number → Frame → Frame → Type 0
ChoiceGoes blocks number f f' = (b : Bool) × Chooses blocks f.base number b × Enters (not b) f f'

-- what the statement does, in each state in which the function and the blocks are these
abbrev pub DoesSo : Guide → Frame → Frame → (blocks blocks' : Blocks) → Type 0
DoesSo guide f f' blocks blocks' = (c : CProgram) (s : Statement) (st : State) → IsGuide c guide → statement_at c f ≡ Some s → st.blocks ≡ blocks
    → do_statement c (view c f.reach (names_from f.base (variables_at c f)) blocks) st (todo_at (body_at c f) f.spot.outer.items (f.spot.at + 1)) s ≡ Onward (record (to_do st (todo_of (body_at c f) f'.spot)) { blocks = blocks' })

-- a statement comes next that is no `getchar`
abbrev pub ReadsNot : Guide → Frame → Type 0
ReadsNot guide f = (c : CProgram) → IsGuide c guide → (s : Statement) × (statement_at c f ≡ Some s) × (is_reading s ≡ false)

-- the step of the statement that comes next
pub record QuickStep (guide : Guide) (f f' : Frame) (blocks blocks' : Blocks) : Type 0 where
  pub there : ReadsNot guide f
  pub rest : f' ≡ record f { spot = f'.spot }
  pub step : DoesSo guide f f' blocks blocks'

-- ---- what became of a statement

-- the function stands where it stood
pub record StaysAt (f f' : Frame) : Type 0 where
  pub rest : f' ≡ record f { spot = f'.spot }
  pub outer : f'.spot.outer.items ≡ f.spot.outer.items
  pub at : f'.spot.at ≡ f.spot.at

abbrev pub Entering : (second : Bool) → (f f' : Frame) → Course → Type 0
Entering second f f' k.Stopped = StaysAt f f'
Entering second f f' k.On = ⊥
Entering second f f' (k.Into branch) = (branch ≡ second) × Enters second f f'

abbrev pub StoreTakes : (blocks blocks' : Blocks) → Variable → Number → (f f' : Frame) → Course → Type 0
StoreTakes blocks blocks' variable number f f' k.Stopped = StaysAt f f' × (blocks' ≡ blocks)
StoreTakes blocks blocks' variable number f f' k.On = Puts blocks blocks' f.base variable number × GoesOn f f'
StoreTakes blocks blocks' variable number f f' (k.Into second) = ⊥

abbrev pub TestTakes : Blocks → Number → (f f' : Frame) → Course → Type 0
TestTakes blocks number f f' k.Stopped = StaysAt f f'
TestTakes blocks number f f' k.On = Chooses blocks f.base number false × GoesOn f f'
TestTakes blocks number f f' (k.Into second) = (second ≡ false) × Chooses blocks f.base number true × Enters false f f'

abbrev pub ChoiceTakes : Blocks → Number → (f f' : Frame) → Course → Type 0
ChoiceTakes blocks number f f' k.Stopped = StaysAt f f'
ChoiceTakes blocks number f f' k.On = ⊥
ChoiceTakes blocks number f f' (k.Into second) = Chooses blocks f.base number (not second) × Enters second f f'

-- where the function stands then
abbrev pub Moves : (f f' : Frame) → Course → Type 0
Moves f f' k.Stopped = Unit {0}
Moves f f' k.On = f'.spot.outer.items ≡ f.spot.outer.items
Moves f f' (k.Into second) = f'.spot.outer.items ≡ f.spot.outer.items ++ record { at = f.spot.at; second = second } ∷ []

-- it is a step, or nothing is done
abbrev pub Does : Guide → (f f' : Frame) → (blocks blocks' : Blocks) → Course → Type 0
Does guide f f' blocks blocks' k.Stopped = StaysAt f f' × (blocks' ≡ blocks)
Does guide f f' blocks blocks' k.On = QuickStep guide f f' blocks blocks'
Does guide f f' blocks blocks' (k.Into second) = QuickStep guide f f' blocks blocks'

-- the same, by whether there is a row in which the function goes on
abbrev pub Turns : Guide → (f f' : Frame) → (blocks blocks' : Blocks) → Option Row → Type 0
Turns guide f f' blocks blocks' None = StaysAt f f' × (blocks' ≡ blocks)
Turns guide f f' blocks blocks' (Some row) = QuickStep guide f f' blocks blocks'

-- ---- many steps

-- a runner with this guide, function and memory
abbrev pub with_parts : Runner → Guide → Frame → Blocks → Runner
with_parts it guide f blocks = record it { guide = guide; frame = f; memory = blocks }

-- so many steps lead from one to the other, and none of them asks for a byte
pub record QuickSteps (n : ℕ) (guide : Guide) (f f' : Frame) (blocks blocks' : Blocks) : Type 0 where
  pub rest : f' ≡ record f { spot = f'.spot }
  pub runs : (c : CProgram) (it : Runner) (input output calls : List ℕ) → IsGuide c guide
      → run_from c n (Onward (state_of c (with_parts it guide f blocks) input output calls)) ≡ Onward (state_of c (with_parts it guide f' blocks') input output calls)
  pub reads_not : (c : CProgram) (it : Runner) (input output calls : List ℕ) (j : ℕ) (st : State) → IsGuide c guide → j < n
      → run_from c j (Onward (state_of c (with_parts it guide f blocks) input output calls)) ≡ Onward st → AsksForByte c st → ⊥
