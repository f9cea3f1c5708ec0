-- A call: its entry, and the storing of the answer where the function ends.
use Rattle.std.proofs.Common.{◌≡◌, ℕ, ◌+◌, List, [], ◌∷◌, ◌++◌, length, false, Option, Some, None, refl, sym, ap, ◌∙◌, arith, append_assoc, length-append}
use Rattle.std.specs.Prelude.{slice_set}
use Rattle.c_tree.specs.Tree as t
use Rattle.c_tree.specs.Tree.{Expr, Statement}
use Rattle.c_tree.specs.declared.statement.CCallee.{CCallee}
use Rattle.c_tree.specs.declared.statement.CCallee.TheVariants as callee
use Rattle.c_tree.specs.declared.program.CVariable.{CVariable}
use Rattle.c_tree.specs.declared.program.CFunction.{CFunction}
use Rattle.c_tree.specs.declared.program.CProgram.{CProgram}
use Rattle.c_meaning.specs.Cells.{Name, Blocks}
use Rattle.c_meaning.specs.Answer.{Got, ◌>>=◌, or_bad}
use Rattle.c_meaning.specs.Types.{Signature}
use Rattle.c_meaning.specs.Values.{Value, leaf}
use Rattle.c_meaning.specs.Evaluate.{View, function_value, name_value, values}
use Rattle.c_meaning.specs.Fresh.{fresh_blocks}
use Rattle.c_meaning.specs.Entries.{number_at_end, with_entry}
use Rattle.c_meaning.specs.States.{Target, Frame, State, function_of, reach_of, without}
use Rattle.c_meaning.specs.Steps.{Next, Onward, next, with_blocks, called_cell, called_value, called, target_of, parameter_blocks, names_from, enter, call, answered, leave, leave_to, do_statement, view_of, do_next, CStep}
use Rattle.c_meaning.proofs.Frames.{Running, here, set_past}

-- ---- the entry

-- what the caller sees of a call: the function's name and text, the place, and the values and blocks of the arguments
pub record Ready (c : CProgram) (st : State) (into : Option t.Place) (who : CCallee) (arguments : List Expr) (g : CFunction) (target : Target) (parameters : Blocks) : Type 0 where
  pub name : Name
  pub given : List Value
  pub callee : called (view_of c st) who ≡ Got name
  pub answer : target_of (view_of c st) into ≡ Got target
  pub values : values (view_of c st) arguments ≡ Got given
  pub text : function_of name c.functions ≡ Some g
  pub fit : parameter_blocks c.declarations g.parameters given ≡ Got parameters

-- a callee that is the name of a function, and of no variable
pub direct : (v : View) (x : Name) (s : Signature) → v.named x ≡ None → v.function x ≡ Some s → called v (callee.Direct x) ≡ Got x
unfolding called name_value function_value called_value called_cell leaf ◌>>=◌
direct v x s h k = rw (h, k) refl

-- the function that a call enters
abbrev pub running : CProgram → State → List Statement → CFunction → Target → Running
running c st todo g target = let f = st.frame in record {
  variables = g.parameters ++ g.locals;
  base = length st.blocks;
  result = g.result;
  body = g.body;
  reach = reach_of g.name c.functions;
  target = target;
  below = record f { todo = todo } ∷ st.below;
  calls = with_entry (number_at_end g.name) st.calls;
}

-- the state in which it begins
abbrev pub begun : CProgram → State → List Statement → CFunction → Target → Blocks → State
begun c st todo g target parameters = here (running c st todo g target) st.input st.output st.blocks (parameters ++ fresh_blocks false c.declarations g.locals) g.body

enters_with : (c : CProgram) (st : State) (todo : List Statement) (into : Option t.Place) (who : CCallee) (arguments : List Expr) (g : CFunction) (target : Target) (parameters : Blocks)
    → Ready c st into who arguments g target parameters → do_next c st (t.Call into who arguments ∷ todo) ≡ Onward (enter c st todo g target parameters)
unfolding do_next do_statement call next ◌>>=◌ or_bad
enters_with c st todo into who arguments g target parameters h = rw (h.callee, h.answer, h.values, h.text, h.fit) refl

begins_with : (c : CProgram) (st : State) (todo : List Statement) (g : CFunction) (target : Target) (parameters : Blocks) → Onward (enter c st todo g target parameters) ≡ Onward (begun c st todo g target parameters)
unfolding enter
begins_with c st todo g target parameters = refl

-- one step leads from the call to the first statement of the function
pub enters : (c : CProgram) (st : State) (todo : List Statement) (into : Option t.Place) (who : CCallee) (arguments : List Expr) (g : CFunction) (target : Target) (parameters : Blocks)
    → st.frame.todo ≡ t.Call into who arguments ∷ todo → Ready c st into who arguments g target parameters → CStep c st ≡ Onward (begun c st todo g target parameters)
unfolding CStep
enters c st todo into who arguments g target parameters e h =
    ap (do_next c st) e ∙ enters_with c st todo into who arguments g target parameters h ∙ begins_with c st todo g target parameters

-- ---- the end

-- blocks that are gone, one for each variable
abbrev pub gone : List CVariable → Blocks
gone [] = []
gone (v ∷ vs) = None ∷ gone vs

own_gone : (vs : List CVariable) (old own more : Blocks) (base : ℕ) → length old ≡ base → length own ≡ length vs → without (names_from base vs) (old ++ (own ++ more)) ≡ old ++ (gone vs ++ more)
unfolding without names_from
own_gone [] old [] more base e l = refl
own_gone [] old (o ∷ own) more base e l = absurd (omega (arith, l))
own_gone (v ∷ vs) old [] more base e l = absurd (omega (arith, l))
own_gone (v ∷ vs) old (o ∷ own) more base e l =
    let at : base ≡ length old + 0 = omega (arith, e) in
    let next : length (old ++ None ∷ []) ≡ base + 1 = omega (arith, e, length-append old (None ∷ [])) in
    ap (λ bs. without (names_from (base + 1) vs) bs) (ap (λ n. slice_set (old ++ (o ∷ (own ++ more))) n None) at ∙ set_past old (o ∷ (own ++ more)) 0 None ∙ sym (append_assoc old (None ∷ []) (own ++ more)))
    ∙ own_gone vs (old ++ None ∷ []) own more (base + 1) next (omega (arith, l))
    ∙ append_assoc old (None ∷ []) (gone vs ++ more)

-- the caller after the call
abbrev pub after : Frame → List Frame → (input output calls : List ℕ) → Blocks → State
after f fs input output calls blocks = record { frame = f; below = fs; blocks = blocks; input = input; output = output; calls = calls }

-- it goes on, with the answer in its place
abbrev pub lands : CProgram → Frame → List Frame → Target → (input output calls : List ℕ) → Blocks → Option Value → Next
lands c f fs target input output calls blocks answer = next (after f fs input output calls blocks) (with_blocks (after f fs input output calls blocks) (answered c.declarations blocks target answer))

-- where a function ends, over old blocks, with its own and those that it made, the caller lands
pub leaves : (c : CProgram) (r : Running) (f : Frame) (fs : List Frame) (input output : List ℕ) (old own more : Blocks) (todo : List Statement) (answer : Option Value)
    → r.below ≡ f ∷ fs → length old ≡ r.base → length own ≡ length r.variables
    → leave c (here r input output old (own ++ more) todo) answer ≡ lands c f fs r.target input output r.calls (old ++ (gone r.variables ++ more)) answer
unfolding leave leave_to next with_blocks
leaves c r f fs input output old own more todo answer b l k =
    rw b (ap (λ blocks. lands c f fs r.target input output r.calls blocks answer) (own_gone r.variables old own more r.base l k))
