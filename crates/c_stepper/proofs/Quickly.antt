-- What quick steps do.
use Rattle.std.proofs.Common.{◌≡◌, ℕ, zero, suc, ◌+◌, ◌<◌, List, [], ◌∷◌, ◌++◌, Bool, true, false, Option, Some, refl, sym, ap, subst, ◌∙◌, inl, inr, ◌⊎◌, arith}
use Rattle.std.specs.Prelude.{not, if◌then◌else◌}
use Rattle.c_tree.specs.Tree as t
use Rattle.c_tree.specs.Tree.{Expr, Statement, Body}
use Rattle.c_tree.specs.declared.program.CProgram.{CProgram}
use Rattle.c_meaning.specs.Cells.{Blocks}
use Rattle.c_meaning.specs.Answer.{Got}
use Rattle.c_meaning.specs.Evaluate.{View}
use Rattle.c_meaning.specs.States.{State, view}
use Rattle.c_meaning.specs.Runs.{run_from}
use Rattle.c_meaning.specs.Todo.{onto}
use Rattle.c_meaning.specs.Steps.{Onward, do_statement, names_from, to_do, branch, go_on, CStep}
use Rattle.c_evaluation.specs.declared.numbers.Number.{Number}
use Rattle.c_evaluation.specs.declared.numbers.Variable.{Variable}
use Rattle.c_evaluation.specs.Numbers.{Puts, Chooses}
use Rattle.c_evaluation.specs.Stores.{chosen}
use Rattle.label_ways.specs.declared.level.Level.{Level}
use Rattle.c_stepper.specs.declared.resolved.code.Node.{Node}
use Rattle.c_stepper.specs.declared.resolved.code.Resolved.{Resolved}
use Rattle.c_stepper.specs.declared.resolved.code.Resolved.TheVariants as r
use Rattle.c_stepper.specs.Codes.{IsResolved, test_of, choice_of}
use Rattle.c_stepper.specs.declared.guide.Guide.{Guide}
use Rattle.c_stepper.specs.declared.runner.Frame.{Frame}
use Rattle.c_stepper.specs.declared.runner.Runner.{Runner}
use Rattle.c_stepper.specs.Guides.{IsGuide}
use Rattle.c_stepper.specs.Spots.{todo_at, todo_of}
use Rattle.c_stepper.specs.Runners.{parts_at, body_at, variables_at, statement_at, is_reading, frame_of, frames_of, state_of, runner_view, AsksForByte, FitsFrame, FitsFrames}
use Rattle.c_stepper.specs.declared.quick.Course.{Course}
use Rattle.c_stepper.specs.declared.quick.Course.TheVariants as k
use Rattle.c_stepper.specs.declared.resolved.code.Code.{Code}
use Rattle.c_stepper.specs.declared.spot.Spot.{Spot}
use Rattle.c_stepper.specs.Codes.{IsCode}
use Rattle.c_stepper.specs.Quick.{IsCodeOf, IsHere, SameTodo, GoesOn, Enters, Led, TestGoes, ChoiceGoes, QuickStep, StaysAt, Entering, StoreTakes, TestTakes, ChoiceTakes, Moves, Does, with_parts, QuickSteps}
use Rattle.c_stepper.proofs.Coding.{node_is}
use Rattle.c_stepper.proofs.Counting.{none_more, one_more}
use Rattle.c_stepper.proofs.Seeking.{reads_no_byte}
use Rattle.c_stepper.proofs.Stepping.{acted}
use Rattle.c_stepper.proofs.Acting.{stored, go}
use Rattle.c_stepper.proofs.Todo.{enter_if, enter_while, enter_first, enter_second}

-- the blocks of a state, named otherwise
same_blocks : (st : State) (todo : List Statement) (blocks : Blocks) → st.blocks ≡ blocks → to_do st todo ≡ record (to_do st todo) { blocks = blocks }
unfolding to_do
same_blocks st todo blocks h = λ i. record (to_do st todo) { blocks = h i }

-- ---- stores

pub store_step : (guide : Guide) (f f' : Frame) (old new : Blocks) (node : Node) (variable : Variable) (number : Number) → IsHere guide f node → node.resolved ≡ r.Store variable number → Puts old new f.base variable number → GoesOn f f' → QuickStep guide f f' old new
store_step guide f f' old new node variable number here is puts goes = record {
  there = λ c h. let n = here c h in let form = subst (λ (q : Resolved). IsResolved c (variables_at c f) q n.0) is n.2 in (n.0, n.1, ap is_reading form.2);
  rest = goes.rest;
  step = λ c s st h next same.
      let form = subst (λ (q : Resolved). IsResolved c (variables_at c f) q s) is (node_is guide f node here c s h next) in
      let v : View = view c f.reach (names_from f.base (variables_at c f)) old in
      let rest = todo_at (body_at c f) f.spot.outer.items (f.spot.at + 1) in
      let done = puts c f.reach (variables_at c f) form.0 form.1 form.3 form.4 in
      let there : rest ≡ todo_of (body_at c f) f'.spot = λ i. todo_at (body_at c f) (sym goes.outer i) (sym goes.at i) in
      ap (do_statement c v st rest) form.2 ∙ stored c v st rest form.0 form.1 new done ∙ ap (λ (todo : List Statement). Onward (record (to_do st todo) { blocks = new })) there;
}

-- ---- tests

module _ (c : CProgram) (f f' : Frame) (st : State) (blocks : Blocks) where
  abbrev v : View
  v = view c f.reach (names_from f.base (variables_at c f)) blocks

  abbrev outer : List Level
  outer = f.spot.outer.items

  abbrev rest : List Statement
  rest = todo_at (body_at c f) outer (f.spot.at + 1)

  abbrev Done : Statement → Type 0
  Done s = do_statement c v st rest s ≡ Onward (record (to_do st (todo_of (body_at c f) f'.spot)) { blocks = blocks })

  gone : GoesOn f f' → rest ≡ todo_of (body_at c f) f'.spot
  gone g = λ i. todo_at (body_at c f) (sym g.outer i) (sym g.at i)

  entered : (second : Bool) → Enters second f f' → todo_at (body_at c f) (outer ++ record { at = f.spot.at; second = second } ∷ []) 0 ≡ todo_of (body_at c f) f'.spot
  entered second e = λ i. todo_at (body_at c f) (sym e.outer i) (sym e.at i)

  led_if : (e : Expr) (a : Body) (b : Bool) → statement_at c f ≡ Some (t.If e a) → Led b f f' → (if b then onto a rest else rest) ≡ todo_of (body_at c f) f'.spot
  led_if e a true h l = sym (enter_if (body_at c f) outer f.spot.at e a a h) ∙ entered false l
  led_if e a false h l = gone l

  led_while : (e : Expr) (a : Body) (b : Bool) → statement_at c f ≡ Some (t.While e a) → Led b f f' → (if b then onto a (t.While e a ∷ rest) else rest) ≡ todo_of (body_at c f) f'.spot
  led_while e a true h l = sym (enter_while (body_at c f) outer f.spot.at e a a h) ∙ entered false l
  led_while e a false h l = gone l

  led_else : (e : Expr) (a b : Body) (q : Bool) → statement_at c f ≡ Some (t.IfElse e a b) → Enters (not q) f f' → (if q then onto a rest else onto b rest) ≡ todo_of (body_at c f) f'.spot
  led_else e a b true h l = sym (enter_first (body_at c f) outer f.spot.at e a b h) ∙ entered false l
  led_else e a b false h l = sym (enter_second (body_at c f) outer f.spot.at e a b h) ∙ entered true l

  went : (e : Expr) (taken other : List Statement) (b : Bool) → st.blocks ≡ blocks → chosen v e ≡ Got b → (if b then taken else other) ≡ todo_of (body_at c f) f'.spot → go_on st (branch v e taken other) ≡ Onward (record (to_do st (todo_of (body_at c f) f'.spot)) { blocks = blocks })
  went e taken other b same said there = go c v st rest e taken other b said ∙ ap (λ (todo : List Statement). Onward (to_do st todo)) there ∙ ap Onward (same_blocks st (todo_of (body_at c f) f'.spot) blocks same)

  tested : (s : Statement) (e : Expr) (b : Bool) → test_of s ≡ Some e → statement_at c f ≡ Some s → st.blocks ≡ blocks → chosen v e ≡ Got b → Led b f f' → Done s
  unfolding do_statement
  tested (t.If x a) e b is h same said l = let x_is : x ≡ e = cc in went x (onto a rest) rest b same (ap (chosen v) x_is ∙ said) (led_if x a b h l)
  tested (t.While x a) e b is h same said l = let x_is : x ≡ e = cc in went x (onto a (t.While x a ∷ rest)) rest b same (ap (chosen v) x_is ∙ said) (led_while x a b h l)
  tested (t.IfElse x a b') e b is h same said l = cc
  tested (t.Assign at x) e b is h same said l = cc
  tested (t.Call into who arguments) e b is h same said l = cc
  tested (t.Malloc at of) e b is h same said l = cc
  tested (t.Free x) e b is h same said l = cc
  tested (t.GetChar at) e b is h same said l = cc
  tested (t.PutChar x) e b is h same said l = cc
  tested (t.Goto l') e b is h same said l = cc
  tested (t.Label l') e b is h same said l = cc
  tested (t.Return x) e b is h same said l = cc

  chose : (s : Statement) (e : Expr) (b : Bool) → choice_of s ≡ Some e → statement_at c f ≡ Some s → st.blocks ≡ blocks → chosen v e ≡ Got b → Enters (not b) f f' → Done s
  unfolding do_statement
  chose (t.IfElse x a d) e b is h same said l = let x_is : x ≡ e = cc in went x (onto a rest) (onto d rest) b same (ap (chosen v) x_is ∙ said) (led_else x a d b h l)
  chose (t.If x a) e b is h same said l = cc
  chose (t.While x a) e b is h same said l = cc
  chose (t.Assign at x) e b is h same said l = cc
  chose (t.Call into who arguments) e b is h same said l = cc
  chose (t.Malloc at of) e b is h same said l = cc
  chose (t.Free x) e b is h same said l = cc
  chose (t.GetChar at) e b is h same said l = cc
  chose (t.PutChar x) e b is h same said l = cc
  chose (t.Goto l') e b is h same said l = cc
  chose (t.Label l') e b is h same said l = cc
  chose (t.Return x) e b is h same said l = cc

-- a test is no `getchar`
tests_not : (s : Statement) (e : Expr) → test_of s ≡ Some e → is_reading s ≡ false
tests_not (t.Assign at x) e h = refl
tests_not (t.Call into who arguments) e h = refl
tests_not (t.Malloc at of) e h = refl
tests_not (t.Free x) e h = refl
tests_not (t.PutChar x) e h = refl
tests_not (t.Goto l') e h = refl
tests_not (t.Label l') e h = refl
tests_not (t.Return x) e h = refl
tests_not (t.If x a) e h = refl
tests_not (t.IfElse x a b) e h = refl
tests_not (t.While x a) e h = refl
tests_not (t.GetChar at) e h = cc

chooses_not : (s : Statement) (e : Expr) → choice_of s ≡ Some e → is_reading s ≡ false
chooses_not (t.Assign at x) e h = refl
chooses_not (t.Call into who arguments) e h = refl
chooses_not (t.Malloc at of) e h = refl
chooses_not (t.Free x) e h = refl
chooses_not (t.PutChar x) e h = refl
chooses_not (t.Goto l') e h = refl
chooses_not (t.Label l') e h = refl
chooses_not (t.Return x) e h = refl
chooses_not (t.If x a) e h = refl
chooses_not (t.IfElse x a b) e h = refl
chooses_not (t.While x a) e h = refl
chooses_not (t.GetChar at) e h = cc

led_rest : (b : Bool) (f f' : Frame) → Led b f f' → f' ≡ record f { spot = f'.spot }
led_rest true f f' l = l.rest
led_rest false f f' l = l.rest

pub test_step : (guide : Guide) (f f' : Frame) (blocks : Blocks) (node : Node) (number : Number) → IsHere guide f node → node.resolved ≡ r.Test number → TestGoes blocks number f f' → QuickStep guide f f' blocks blocks
test_step guide f f' blocks node number here is goes = record {
  there = λ c h. let n = here c h in let form = subst (λ (q : Resolved). IsResolved c (variables_at c f) q n.0) is n.2 in (n.0, n.1, tests_not n.0 form.0 form.1);
  rest = led_rest goes.0 f f' goes.2;
  step = λ c s st h next same.
      let form = subst (λ (q : Resolved). IsResolved c (variables_at c f) q s) is (node_is guide f node here c s h next) in
      tested c f f' st blocks s form.0 goes.0 form.1 next same (goes.1 c f.reach (variables_at c f) form.0 form.2) goes.2;
}

pub choice_step : (guide : Guide) (f f' : Frame) (blocks : Blocks) (node : Node) (number : Number) → IsHere guide f node → node.resolved ≡ r.Choose number → ChoiceGoes blocks number f f' → QuickStep guide f f' blocks blocks
choice_step guide f f' blocks node number here is goes = record {
  there = λ c h. let n = here c h in let form = subst (λ (q : Resolved). IsResolved c (variables_at c f) q n.0) is n.2 in (n.0, n.1, chooses_not n.0 form.0 form.1);
  rest = goes.2.rest;
  step = λ c s st h next same.
      let form = subst (λ (q : Resolved). IsResolved c (variables_at c f) q s) is (node_is guide f node here c s h next) in
      chose c f f' st blocks s form.0 goes.0 form.1 next same (goes.1 c f.reach (variables_at c f) form.0 form.2) goes.2;
}

pub test_enters : (blocks : Blocks) (number : Number) (f f' : Frame) (course : Course) → Chooses blocks f.base number true → Entering false f f' course → TestTakes blocks number f f' course
test_enters blocks number f f' k.Stopped says e = e
test_enters blocks number f f' k.On says e = absurd e
test_enters blocks number f f' (k.Into second) says e = (e.0, says, e.1)

twice : (b : Bool) → b ≡ not (not b)
twice true = refl
twice false = refl

pub choice_enters : (blocks : Blocks) (number : Number) (f f' : Frame) (course : Course) (first : Bool) → Chooses blocks f.base number first → Entering (not first) f f' course → ChoiceTakes blocks number f f' course
choice_enters blocks number f f' k.Stopped first says e = e
choice_enters blocks number f f' k.On first says e = absurd e
choice_enters blocks number f f' (k.Into second) first says e = (subst (Chooses blocks f.base number) (twice first ∙ ap not (sym e.0)) says, subst (λ b. Enters b f f') (sym e.0) e.1)

pub stores : (guide : Guide) (f f' : Frame) (old new : Blocks) (node : Node) (variable : Variable) (number : Number) (course : Course) → node.resolved ≡ r.Store variable number → StoreTakes old new variable number f f' course → IsHere guide f node → Does guide f f' old new course
stores guide f f' old new node variable number k.Stopped is h here = h
stores guide f f' old new node variable number k.On is h here = store_step guide f f' old new node variable number here is h.0 h.1
stores guide f f' old new node variable number (k.Into second) is h here = absurd h

pub tests : (guide : Guide) (f f' : Frame) (blocks : Blocks) (node : Node) (number : Number) (course : Course) → node.resolved ≡ r.Test number → TestTakes blocks number f f' course → IsHere guide f node → Does guide f f' blocks blocks course
tests guide f f' blocks node number k.Stopped is h here = (h, refl)
tests guide f f' blocks node number k.On is h here = test_step guide f f' blocks node number here is (false, h.0, h.1)
tests guide f f' blocks node number (k.Into second) is h here = test_step guide f f' blocks node number here is (true, h.1, h.2)

pub choices : (guide : Guide) (f f' : Frame) (blocks : Blocks) (node : Node) (number : Number) (course : Course) → node.resolved ≡ r.Choose number → ChoiceTakes blocks number f f' course → IsHere guide f node → Does guide f f' blocks blocks course
choices guide f f' blocks node number k.Stopped is h here = (h, refl)
choices guide f f' blocks node number k.On is h here = absurd h
choices guide f f' blocks node number (k.Into second) is h here = choice_step guide f f' blocks node number here is (not second, h.0, subst (λ b. Enters b f f') (twice second) h.1)

pub store_moves : (f f' : Frame) (old new : Blocks) (variable : Variable) (number : Number) (course : Course) → StoreTakes old new variable number f f' course → Moves f f' course
store_moves f f' old new variable number k.Stopped h = tt
store_moves f f' old new variable number k.On h = h.1.outer
store_moves f f' old new variable number (k.Into second) h = absurd h

pub test_moves : (f f' : Frame) (blocks : Blocks) (number : Number) (course : Course) → TestTakes blocks number f f' course → Moves f f' course
test_moves f f' blocks number k.Stopped h = tt
test_moves f f' blocks number k.On h = h.1.outer
test_moves f f' blocks number (k.Into second) h = h.2.outer ∙ ap (λ b. f.spot.outer.items ++ record { at = f.spot.at; second = b } ∷ []) (sym h.0)

pub choice_moves : (f f' : Frame) (blocks : Blocks) (number : Number) (course : Course) → ChoiceTakes blocks number f f' course → Moves f f' course
choice_moves f f' blocks number k.Stopped h = tt
choice_moves f f' blocks number k.On h = absurd h
choice_moves f f' blocks number (k.Into second) h = h.1.outer

pub quick_acts : (c : CProgram) (old : Runner) (f' : Frame) (blocks' : Blocks) (s : Statement) (input output calls : List ℕ) → IsGuide c old.guide → statement_at c old.frame ≡ Some s → QuickStep old.guide old.frame f' old.memory blocks'
    → Onward (state_of c (record old { frame = f'; memory = blocks' }) input output calls)
    ≡ do_statement c (runner_view c old) (state_of c old input output calls) (todo_at (body_at c old.frame) old.frame.spot.outer.items (old.frame.spot.at + 1)) s
unfolding to_do
quick_acts c old f' blocks' s input output calls guide here q =
    ap (λ (f : Frame). Onward (state_of c (record old { frame = f; memory = blocks' }) input output calls)) q.rest ∙ sym (q.step c s (state_of c old input output calls) guide here refl)

-- it is the step of the program
pub quick_does : (c : CProgram) (old : Runner) (f' : Frame) (blocks' : Blocks) (input output calls : List ℕ) → IsGuide c old.guide → QuickStep old.guide old.frame f' old.memory blocks'
    → Onward (state_of c (record old { frame = f'; memory = blocks' }) input output calls) ≡ CStep c (state_of c old input output calls)
quick_does c old f' blocks' input output calls guide q =
    let s = q.there c guide in
    quick_acts c old f' blocks' s.0 input output calls guide s.1 q ∙ acted c old input output calls s.0 s.1

-- ---- many steps

pub no_steps : (guide : Guide) (f : Frame) (blocks : Blocks) → QuickSteps 0 guide f f blocks blocks
no_steps guide f blocks = record {
  rest = refl;
  runs = λ c it input output calls g. none_more c (Onward (state_of c (with_parts it guide f blocks) input output calls));
  reads_not = λ c it input output calls j st g low is asks. omega (arith, low);
}

pub one_step : (n : ℕ) (guide : Guide) (f f1 f2 : Frame) (b b1 b2 : Blocks) → QuickSteps n guide f f1 b b1 → QuickStep guide f1 f2 b1 b2 → QuickSteps (n + 1) guide f f2 b b2
one_step n guide f f1 f2 b b1 b2 h q = record {
  rest = q.rest ∙ ap (λ (x : Frame). record x { spot = f2.spot }) h.rest;
  runs = λ c it input output calls g.
      let from = Onward (state_of c (with_parts it guide f b) input output calls) in
      let at : Runner = with_parts it guide f1 b1 in
      one_more c n from (state_of c at input output calls) (h.runs c it input output calls g) ∙ sym (quick_does c at f2 b2 input output calls g q);
  reads_not = λ c it input output calls j st g low is asks.
      let at : Runner = with_parts it guide f1 b1 in
      elim (before j n low) [
        | inl less ↦ h.reads_not c it input output calls j st g less is asks
        | inr last ↦
            let same : st ≡ state_of c at input output calls = let both : Onward st ≡ Onward (state_of c at input output calls) = sym is ∙ ap (λ k. run_from c k (Onward (state_of c (with_parts it guide f b) input output calls))) last ∙ h.runs c it input output calls g in cc in
            reads_no_byte c at input output calls g q.there (subst (AsksForByte c) same asks)
      ];
}
  where
    before : (j n : ℕ) → j < n + 1 → (j < n) ⊎ (j ≡ n)
    before zero zero h = inr refl
    before zero (suc n) h = inl (omega arith)
    before (suc j) zero h = absurd (omega (arith, h))
    before (suc j) (suc n) h = elim (before j n (omega (arith, h))) [ inl l ↦ inl (omega (arith, l)) | inr e ↦ inr (ap (λ k. suc k) e) ]

-- lists that are left are no step
pub left_lists : (n : ℕ) (guide : Guide) (code : Code) (f f1 : Frame) (spot : Spot) (b b1 : Blocks) → IsCodeOf guide.code f.function code → SameTodo code f1.spot spot → QuickSteps n guide f f1 b b1 → QuickSteps n guide f (record f1 { spot = spot }) b b1
left_lists n guide code f f1 spot b b1 own todo h = record {
  rest = ap (λ (x : Frame). record x { spot = spot }) h.rest;
  runs = λ c it input output calls g.
      let function : f1.function ≡ f.function = ap (λ (x : Frame). x.function) h.rest in
      let code_is = subst (λ (k : Option ℕ). let p = parts_at c k in IsCode c (p.parameters ++ p.locals) code p.body) (sym function) (own c g.code) in
      let same : todo_of (body_at c f1) spot ≡ todo_of (body_at c f1) f1.spot = todo c (variables_at c f1) (body_at c f1) code_is in
      h.runs c it input output calls g ∙ ap (λ (todo : List Statement). Onward (record (state_of c (with_parts it guide f1 b1) input output calls) { frame = record (frame_of c f1) { todo = todo } })) (sym same);
  reads_not = h.reads_not;
}

-- nor is a statement that is not done
pub stays_steps : (n : ℕ) (guide : Guide) (f f1 f2 : Frame) (b b1 b2 : Blocks) → QuickSteps n guide f f1 b b1 → StaysAt f1 f2 → b2 ≡ b1 → QuickSteps n guide f f2 b b2
stays_steps n guide f f1 f2 b b1 b2 h stays same = record {
  rest = stays.rest ∙ ap (λ (x : Frame). record x { spot = f2.spot }) h.rest;
  runs = λ c it input output calls g.
      let frame : frame_of c f2 ≡ frame_of c f1 = ap (frame_of c) stays.rest ∙ (λ i. record (frame_of c f1) { todo = todo_at (body_at c f1) (stays.outer i) (stays.at i) }) in
      h.runs c it input output calls g ∙ sym (λ i. Onward (record { frame = frame i; below = frames_of c it.below.items []; blocks = same i; input = input; output = output; calls = calls }));
  reads_not = h.reads_not;
}

-- the frames stay in range
pub quick_fits : (c : CProgram) (n : ℕ) (old : Runner) (f' : Frame) (blocks' : Blocks) → QuickSteps n old.guide old.frame f' old.memory blocks' → FitsFrames c old → FitsFrames c (record old { frame = f'; memory = blocks' })
quick_fits c n old f' blocks' q h = record { frame = subst (FitsFrame c) (sym q.rest) h.frame; below = h.below; guide = h.guide }
