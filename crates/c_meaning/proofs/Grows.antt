-- A step only adds to the output and the calls.
use Rattle.std.proofs.Common.{ℕ, List, [], ◌∷◌, ◌++◌, Option, Some, None, refl, sym, ap, ◌∙◌, append_assoc}
use Rattle.std.proofs.lemmas.List.{append-nil}
use Rattle.std.specs.Prelude.{ℤ, pos, negsuc}
use Rattle.c_tree.specs.Tree as t
use Rattle.c_tree.specs.Tree.{Statement, Expr}
use Rattle.c_tree.specs.declared.statement.CCallee.{CCallee}
use Rattle.c_tree.specs.declared.program.CFunction.{CFunction}
use Rattle.c_tree.specs.declared.program.CProgram.{CProgram}
use Rattle.c_meaning.specs.Cells.{Blocks}
use Rattle.c_meaning.specs.Answer.{Answer, Got, Bad}
use Rattle.c_meaning.specs.Values.{Value}
use Rattle.c_meaning.specs.Evaluate.{View}
use Rattle.c_meaning.specs.Entries.{with_entry}
use Rattle.c_meaning.specs.States.{Frame, State, Target}
use Rattle.c_meaning.specs.Steps.{next, to_do, with_blocks, get_char, put_byte, put_char, call, enter, finish, leave_to, leave, leave_with, go_on, do_statement, do_next, CStep}
use Rattle.c_meaning.specs.Follows.{Extends}
use Rattle.c_meaning.specs.Laws.{OnlyAdds, StepAdds}
use Rattle.c_meaning.proofs.Gives.{Gives, Ok, Not, bind, if_when}

pub same : (a : List ℕ) → Extends a a
same a = record { more = []; is = sym (append-nil a) }

pub longer : (a b c : List ℕ) → Extends a b → Extends b c → Extends a c
longer a b c h k = record { more = h.more ++ k.more; is = k.is ∙ ap (λ l. l ++ k.more) h.is ∙ append_assoc a h.more k.more }

record Adds (st new : State) : Type 0 where
  pub output : Extends st.output new.output
  pub calls : Extends st.calls new.calls

still : (st : State) → Adds st st
still st = record { output = same st.output; calls = same st.calls }

of_next : (st : State) (a : Answer State) → Gives (Adds st) a → OnlyAdds st (next st a)
unfolding next
of_next st a (Ok new h) = (h.output, h.calls)
of_next st a (Not kind) = refl

of_blocks : (st new : State) (b : Answer Blocks) → Adds st new → Gives (Adds st) (with_blocks new b)
unfolding with_blocks
of_blocks st new b h = bind b _ (λ x e. Ok _ (record { output = h.output; calls = h.calls }))

of_to_do : (st : State) (todo : List Statement) → Adds st (to_do st todo)
unfolding to_do
of_to_do st todo = record { output = same st.output; calls = same st.calls }

of_entry : (k : Option ℕ) (calls : List ℕ) → Extends calls (with_entry k calls)
unfolding with_entry
of_entry None calls = same calls
of_entry (Some k) calls = record { more = k ∷ []; is = refl }

of_enter : (c : CProgram) (st : State) (rest : List Statement) (g : CFunction) (target : Target) (b : Blocks) → Adds st (enter c st rest g target b)
unfolding enter
of_enter c st rest g target b = record { output = same st.output; calls = of_entry _ st.calls }

of_call : (c : CProgram) (v : View) (st : State) (rest : List Statement) (into : Option t.Place) (who : CCallee) (arguments : List Expr) → Gives (Adds st) (call c v st rest into who arguments)
unfolding call
of_call c v st rest into who arguments =
    bind _ _ (λ name e. bind _ _ (λ target e. bind _ _ (λ xs e. bind _ _ (λ g e. bind _ _ (λ b e. Ok _ (of_enter c st rest g target b))))))

of_byte : (st new : State) → Adds st new → (z : ℤ) → Gives (Adds st) (put_byte new z)
unfolding put_byte
of_byte st new h (pos n) = if_when _ _ _ (λ e. Ok _ (record { output = longer st.output new.output _ h.output (record { more = n ∷ []; is = refl }); calls = h.calls }))
of_byte st new h (negsuc n) = Not _

of_put : (v : View) (st new : State) (a : Expr) → Adds st new → Gives (Adds st) (put_char v new a)
unfolding put_char
of_put v st new a h = bind _ _ (λ x e. bind _ _ (λ z e. of_byte st new h z))

of_get : (v : View) (st new : State) (at : t.Place) → Adds st new → Gives (Adds st) (get_char v new at)
unfolding get_char
of_get v st new at h = of_blocks st _ _ (record { output = h.output; calls = h.calls })

of_go : (st : State) (todo : Answer (List Statement)) → OnlyAdds st (go_on st todo)
unfolding go_on
of_go st todo = of_next st _ (bind todo _ (λ rest e. Ok _ (of_to_do st rest)))

of_finish : (st : State) (status : Answer ℕ) → OnlyAdds st (finish st status)
unfolding finish
of_finish st (Got n) = (same st.output, same st.calls)
of_finish st (Bad kind) = refl

of_leave_to : (c : CProgram) (st : State) (below : List Frame) (answer : Option Value) → OnlyAdds st (leave_to c st below answer)
unfolding leave_to
of_leave_to c st [] answer = of_finish st _
of_leave_to c st (g ∷ below) answer = of_next st _ (of_blocks st _ _ (record { output = same st.output; calls = same st.calls }))

of_leave : (c : CProgram) (st : State) (answer : Option Value) → OnlyAdds st (leave c st answer)
unfolding leave
of_leave c st answer = of_leave_to c st st.below answer

of_leave_with : (c : CProgram) (st : State) (answer : Answer (Option Value)) → OnlyAdds st (leave_with c st answer)
unfolding leave_with
of_leave_with c st (Got answer) = of_leave c st answer
of_leave_with c st (Bad kind) = refl

of_statement : (c : CProgram) (v : View) (st : State) (rest : List Statement) (s : Statement) → OnlyAdds st (do_statement c v st rest s)
unfolding do_statement
of_statement c v st rest (t.Assign at a) = of_next st _ (of_blocks st _ _ (of_to_do st rest))
of_statement c v st rest (t.Call into who arguments) = of_next st _ (of_call c v st rest into who arguments)
of_statement c v st rest (t.Malloc at of) = of_next st _ (of_blocks st _ _ (of_to_do st rest))
of_statement c v st rest (t.Free a) = of_next st _ (of_blocks st _ _ (of_to_do st rest))
of_statement c v st rest (t.GetChar at) = of_next st _ (of_get v st _ at (of_to_do st rest))
of_statement c v st rest (t.PutChar a) = of_next st _ (of_put v st _ a (of_to_do st rest))
of_statement c v st rest (t.If test a) = of_go st _
of_statement c v st rest (t.IfElse test a b) = of_go st _
of_statement c v st rest (t.While test a) = of_go st _
of_statement c v st rest (t.Goto l) = of_go st _
of_statement c v st rest (t.Label l) = let h = of_to_do st rest in (h.output, h.calls)
of_statement c v st rest (t.Return a) = of_leave_with c st _

of_next_statement : (c : CProgram) (st : State) (todo : List Statement) → OnlyAdds st (do_next c st todo)
unfolding do_next
of_next_statement c st [] = of_leave c st None
of_next_statement c st (s ∷ rest) = of_statement c _ st rest s

pub step_adds : StepAdds
unfolding CStep
step_adds c st = of_next_statement c st st.frame.todo
