-- The statuses with which programs end.
use Rattle.std.proofs.Common.{◌≡◌, ℕ, zero, suc, ◌<◌, arith, Bool, true, false, List, [], ◌∷◌, ◌++◌, length, Option, Some, None, refl, ap, subst}
use Rattle.std.specs.Prelude.{ℤ, pos, negsuc, nat_lt}
use Rattle.std.proofs.lemmas.Bool.Decides.{nat_tests}
use Rattle.c_tree.specs.Tree as t
use Rattle.c_tree.specs.Tree.{Statement}
use Rattle.c_tree.specs.declared.program.CProgram.{CProgram}
use Rattle.c_meaning.specs.declared.StuckKind.TheVariants as k
use Rattle.c_meaning.specs.Answer.{Answer, Got, Bad, ◌>>=◌, when}
use Rattle.c_meaning.specs.Evaluate.{View}
use Rattle.c_meaning.specs.Values.{Value, as_int}
use Rattle.c_meaning.specs.States.{State, Frame}
use Rattle.c_meaning.specs.Steps.{Next, Ended, next, finish, in_status, status_of, leave, leave_to, leave_with, go_on, do_statement, do_next, CStep}
use Rattle.c_machine.specs.Machines.{stood, Takes, HasStatus, ended_by}
use Rattle.c_machine.specs.declared.machine.Machine.{Machine}
use Rattle.c_machine.specs.declared.machine.Stepped.{Stepped}
use Rattle.c_machine.specs.declared.machine.Stepped.TheVariants as s

abbrev IsFew : Answer ℕ → Type 0
IsFew (Got status) = status < 210
IsFew (Bad kind) = Unit {0}

abbrev EndsFew : Next → Type 0
EndsFew (Ended status output calls) = status < 210
EndsFew _ = Unit {0}

number_few : (n : ℕ) (b : Bool) → nat_lt n 210 ≡ b → IsFew (when b k.BadStatus (Got n))
unfolding when
number_few n true h = grind (arith, nat_tests, h)
number_few n false h = tt

few : (z : ℤ) → IsFew (in_status z)
unfolding in_status
few (pos n) = number_few n (nat_lt n 210) refl
few (negsuc n) = tt

value_few : (a : Answer ℤ) → IsFew (a >>= in_status)
unfolding ◌>>=◌
value_few (Got z) = few z
value_few (Bad kind) = tt

given_few : (answer : Option Value) → IsFew (status_of answer)
unfolding status_of
given_few None = tt
given_few (Some x) = value_few (as_int x)

finish_few : (st : State) (a : Answer ℕ) → IsFew a → EndsFew (finish st a)
unfolding finish
finish_few st (Got status) h = h
finish_few st (Bad kind) h = tt

next_few : (st : State) (a : Answer State) → EndsFew (next st a)
unfolding next
next_few st (Got new) = tt
next_few st (Bad kind) = tt

to_few : (c : CProgram) (st : State) (below : List Frame) (answer : Option Value) → EndsFew (leave_to c st below answer)
unfolding leave_to
to_few c st [] answer = finish_few st (status_of answer) (given_few answer)
to_few c st (g ∷ below) answer = next_few st _

leave_few : (c : CProgram) (st : State) (answer : Option Value) → EndsFew (leave c st answer)
unfolding leave
leave_few c st answer = to_few c st st.below answer

with_few : (c : CProgram) (st : State) (a : Answer (Option Value)) → EndsFew (leave_with c st a)
unfolding leave_with
with_few c st (Got answer) = leave_few c st answer
with_few c st (Bad kind) = tt

statement_few : (c : CProgram) (v : View) (st : State) (rest : List Statement) (s : Statement) → EndsFew (do_statement c v st rest s)
unfolding do_statement go_on
statement_few c v st rest (t.Label l) = tt
statement_few c v st rest (t.Return a) = with_few c st _
statement_few c v st rest (t.Assign at a) = next_few st _
statement_few c v st rest (t.Call into who arguments) = next_few st _
statement_few c v st rest (t.Malloc at of) = next_few st _
statement_few c v st rest (t.Free a) = next_few st _
statement_few c v st rest (t.GetChar at) = next_few st _
statement_few c v st rest (t.PutChar a) = next_few st _
statement_few c v st rest (t.If test a) = next_few st _
statement_few c v st rest (t.IfElse test a b) = next_few st _
statement_few c v st rest (t.While test a) = next_few st _
statement_few c v st rest (t.Goto l) = next_few st _

todo_few : (c : CProgram) (st : State) (todo : List Statement) → EndsFew (do_next c st todo)
unfolding do_next
todo_few c st [] = leave_few c st None
todo_few c st (first ∷ rest) = statement_few c _ st rest first

step_few : (c : CProgram) (st : State) → EndsFew (CStep c st)
unfolding CStep
step_few c st = todo_few c st st.frame.todo

-- so many calls
some_calls : (n : ℕ) → (calls : List ℕ) × (length calls ≡ n)
some_calls zero = ([], refl)
some_calls (suc n) = let calls = some_calls n in (0 ∷ calls.0, ap suc calls.1)

pub taken_few : (c : CProgram) (old new : Machine) (left left' w w' : Option (List ℕ)) (answer : Stepped) (calls : ℕ) → Takes c old new left left' w w' answer → HasStatus (ended_by calls answer)
taken_few c old new left left' w w' (s.Ended status) calls h =
    let some = some_calls old.calls in
    let told = h.step [] [] some.0 (λ _. refl) some.1 in
    subst EndsFew told.0 (step_few c (stood c old (h.taken ++ []) [] some.0))
taken_few c old new left left' w w' s.Going calls h = tt
taken_few c old new left left' w w' (s.Stuck kind) calls h = tt
taken_few c old new left left' w w' s.InputFault calls h = tt
taken_few c old new left left' w w' s.OutputFault calls h = tt
taken_few c old new left left' w w' (s.Memory e) calls h = tt
