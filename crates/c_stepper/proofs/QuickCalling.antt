-- What quick calls do.
use Rattle.std.proofs.Common.{◌≡◌, ℕ, ◌+◌, ◌<◌, List, [], ◌∷◌, ◌++◌, length, map, Option, Some, None, false, Result, refl, sym, ap, subst, ◌∙◌, append_assoc, arith}
use Rattle.std.proofs.lemmas.List.{append-nil}
use Rattle.std.proofs.lemmas.Option.{slice_get_within}
use Rattle.std.specs.Prelude.{ℤ}
use Rattle.c_tree.specs.Tree as t
use Rattle.c_tree.specs.Tree.{ObjectType, Expr, Place, Statement}
use Rattle.c_tree.specs.declared.program.CVariable.{CVariable}
use Rattle.c_tree.specs.declared.program.CDeclaration.{CDeclaration}
use Rattle.c_tree.specs.declared.program.CProgram.{CProgram}
use Rattle.c_meaning.specs.declared.StuckKind.TheVariants as k
use Rattle.c_meaning.specs.Cells.{Int, Block, Blocks, block_at, joined_option}
use Rattle.c_meaning.specs.Answer.{Got, ◌>>=◌, or_bad, when}
use Rattle.c_meaning.specs.Types.{Plain, alike, type_eq}
use Rattle.c_meaning.specs.Values.{int, converted}
use Rattle.c_meaning.specs.Evaluate.{View, values, place, variable, root_number}
use Rattle.c_meaning.specs.States as m
use Rattle.c_meaning.specs.States.{number_of, numbered, view}
use Rattle.c_meaning.specs.Steps.{names_from, parameter_blocks, target_of}
use Rattle.c_cells.specs.Slots.{int_block, HoldsInt}
use Rattle.c_evaluation.specs.declared.numbers.Variable.{Variable}
use Rattle.c_evaluation.specs.declared.numbers.Number.{Number}
use Rattle.c_evaluation.specs.Numbers.{place_number, Evaluates}
use Rattle.c_stepper.specs.declared.resolved.code.Node.{Node}
use Rattle.c_stepper.specs.declared.resolved.code.Resolved.{Resolved}
use Rattle.c_stepper.specs.declared.resolved.code.Resolved.TheVariants as r
use Rattle.c_stepper.specs.declared.resolved.code.ResolvedCall.{ResolvedCall}
use Rattle.c_stepper.specs.Codes.{IsResolved, IsCall, IsTarget, ResolveAll, AreInts}
use Rattle.c_stepper.specs.declared.call.Entry.{Entry}
use Rattle.c_stepper.specs.declared.guide.Guide.{Guide}
use Rattle.c_stepper.specs.declared.runner.Frame.{Frame}
use Rattle.c_stepper.specs.Runners as runners
use Rattle.c_stepper.specs.Runners.{parts_of, parts_at, variables_at, statement_at}
use Rattle.c_stepper.specs.Calls.{IsEntry, callee_function, entered_with, entered}
use Rattle.c_meaning.specs.States.{State}
use Rattle.c_meaning.specs.Steps.{Onward, CStep}
use Rattle.c_cells.specs.declared.halt.Halt.{Halt}
use Rattle.c_stepper.specs.declared.runner.Runner.{Runner}
use Rattle.c_stepper.specs.declared.runner.Done.{Done}
use Rattle.c_stepper.specs.Spots.{todo_at}
use Rattle.c_stepper.specs.Runners.{body_at, state_of, runner_view, FitsFrames, Acts}
use Rattle.c_stepper.specs.Calls.{entered_state, entered_of}
use Rattle.c_stepper.proofs.Entering.{calls_enter}
use Rattle.c_stepper.proofs.Stepping.{acted}
use Rattle.c_stepper.specs.Quick.{IsHere, ReadsNot}
use Rattle.c_stepper.specs.QuickCalls.{IsTargetOf, HoldAll, Entering, QuickEntry}
use Rattle.c_stepper.proofs.Calling.{direct}

-- ---- the place for an answer

module _ (c : CProgram) (reach : ℕ) (vars : List CVariable) (blocks : Blocks) (base : ℕ) where
  abbrev v : View
  v = view c reach (names_from base vars) blocks

  target_is : (o : Option Variable) (into : Option Place) (target : m.Target) → IsTarget c vars o into → IsTargetOf blocks base o target → target_of v into ≡ Got target
  unfolding target_of place variable view numbered root_number or_bad ◌>>=◌ block_at joined_option
  target_is None into target h l = ap (target_of v) h ∙ ap Got (sym l)
  target_is (Some own) into target h l =
      let x = h.2.0 in
      let n = place_number base own in
      let number : number_of c (names_from base vars) x ≡ Some n = h.2.2 base in
      let named : v.named x ≡ Some (int_block l.1.0) = ap (numbered blocks) number ∙ ap joined_option l.1.1 in
      ap (target_of v) (h.1 ∙ ap Some h.2.1) ∙ ap (λ o. variable v x o >>= (λ site. root_number v site.root >>= (λ n. Got (m.Into n site.path site.of)))) named
      ∙ ap (λ o. or_bad k.UnknownName o >>= (λ n. Got (m.Into n [] (Plain t.Int)))) number ∙ ap Got (sym l.0)

  -- ---- arguments

  -- the numbers that blocks hold
  abbrev held : (numbers : List Number) (made : Blocks) → HoldAll blocks base numbers made → List ℤ
  held [] [] h = []
  held (n ∷ numbers) (b ∷ made) h = h.0.0 ∷ held numbers made h.1
  held [] (b ∷ made) h = []
  held (n ∷ numbers) [] h = []

  values_are : (numbers : List Number) (es : List Expr) (made : Blocks) → ResolveAll c vars numbers es → (h : HoldAll blocks base numbers made) → values v es ≡ Got (map int (held numbers made h))
  unfolding values ◌>>=◌
  values_are [] [] [] d h = refl
  values_are (n ∷ numbers) (e ∷ es) (b ∷ made) d h =
      ap (λ a. a >>= (λ x. values v es >>= (λ xs. Got (x ∷ xs)))) (h.0.2 c reach vars e d.0) ∙ ap (λ a. a >>= (λ xs. Got (int h.0.0 ∷ xs))) (values_are numbers es made d.1 h.1)
  values_are [] (e ∷ es) made d h = absurd d
  values_are (n ∷ numbers) [] made d h = absurd d
  values_are [] [] (b ∷ made) d h = absurd h
  values_are (n ∷ numbers) (e ∷ es) [] d h = absurd h

  blocks_are : (ds : List CDeclaration) (qs : List CVariable) (numbers : List Number) (made : Blocks) (h : HoldAll blocks base numbers made) → AreInts qs → length qs ≡ length numbers → parameter_blocks ds qs (map int (held numbers made h)) ≡ Got made
  unfolding parameter_blocks converted alike type_eq when int ◌>>=◌
  blocks_are ds [] [] [] h ints same = refl
  blocks_are ds (q ∷ qs) (n ∷ numbers) (b ∷ made) h ints same =
      ap (λ of. converted ds of (int h.0.0) >>= (λ tree. parameter_blocks ds qs (map int (held numbers made h.1)) >>= (λ blocks. Got (Some (record { of = of; tree = tree; heap = false }) ∷ blocks)))) ints.0
      ∙ ap (λ a. a >>= (λ blocks. Got (Some (int_block (Int h.0.0)) ∷ blocks))) (blocks_are ds qs numbers made h.1 ints.1 (omega (arith, same))) ∙ ap (λ o. Got (o ∷ made)) (sym h.0.1)
  blocks_are ds [] [] (b ∷ made) h ints same = absurd h
  blocks_are ds qs (n ∷ numbers) [] h ints same = absurd h
  blocks_are ds (q ∷ qs) [] made h ints same = absurd (omega (arith, same))
  blocks_are ds [] (n ∷ numbers) (b ∷ made) h ints same = absurd (omega (arith, same))

  many : (numbers : List Number) (made : Blocks) → HoldAll blocks base numbers made → length made ≡ length numbers
  many [] [] h = refl
  many (n ∷ numbers) (b ∷ made) h = omega (arith, many numbers made h.1)
  many [] (b ∷ made) h = absurd h
  many (n ∷ numbers) [] h = absurd h

  -- ---- calls

  with_entry : (call : ResolvedCall) (s : Statement) (i : IsCall c vars call s) (target : m.Target) (made : Blocks) → call.function < reach → IsTargetOf blocks base call.target target → HoldAll blocks base call.arguments.items made
      → Got (call.function, target, made) ≡ entered c v i.into i.who i.arguments
  unfolding or_bad ◌>>=◌
  with_entry call s i target made reached there h =
      let x = i.callee.0 in
      let f = i.ints.0 in
      let n = call.function in
      let xs = map int (held call.arguments.items made h) in
      let who : callee_function c v i.who ≡ Got (Some n) = ap (callee_function c v) i.callee.1 ∙ direct c reach (names_from base vars) blocks x n i.callee.2.1 reached (i.callee.2.0 base) in
      let parts : parts_at c (Some n) ≡ parts_of (Some f) = ap parts_of i.ints.1 in
      sym (ap (λ a. a >>= (λ which. target_of v i.into >>= (λ target. values v i.arguments >>= (λ xs. entered_with c target xs which)))) who
      ∙ ap (λ a. a >>= (λ target. values v i.arguments >>= (λ xs. entered_with c target xs (Some n)))) (target_is call.target i.into target i.target there)
      ∙ ap (λ a. a >>= (λ xs. entered_with c target xs (Some n))) (values_are call.arguments.items i.arguments made i.numbers h)
      ∙ ap (λ p. parameter_blocks c.declarations p.parameters xs >>= (λ blocks. Got (n, target, blocks))) parts
      ∙ ap (λ a. a >>= (λ blocks. Got (n, target, blocks))) (blocks_are c.declarations f.parameters call.arguments.items made h i.ints.2 i.ints.3))

  is_entry : (call : ResolvedCall) (s : Statement) (i : IsCall c vars call s) (e : Entry) → e.function ≡ call.function → HoldAll blocks base call.arguments.items e.parameters → IsEntry c e
  is_entry call s i e same h =
      let parts : parts_at c (Some e.function) ≡ parts_of (Some i.ints.0) = ap (λ n. parts_at c (Some n)) same ∙ ap parts_of i.ints.1 in
      record {
        within = subst (λ n. n < length c.functions) (sym same) (slice_get_within c.functions call.function i.ints.0 i.ints.1);
        fits = many call.arguments.items e.parameters h ∙ sym i.ints.3 ∙ ap (λ (p : runners.Parts). length p.parameters) (sym parts);
      }

pub enters : (guide : Guide) (f : Frame) (blocks : Blocks) (node : Node) (call : ResolvedCall) (e : Entry) → IsHere guide f node → node.resolved ≡ r.Call call → Entering f blocks call e → QuickEntry guide f blocks e
enters guide f blocks node call e here is parts = λ c g.
    let vars = variables_at c f in
    let n = here c g in
    let i = subst (λ (q : Resolved). IsResolved c vars q n.0) is n.2 in
    let done = with_entry c f.reach vars blocks f.base call n.0 i (runners.target_of e.target) e.parameters parts.reached parts.target parts.parameters in
    let function = ap (λ n. Got (n, runners.target_of e.target, e.parameters)) parts.function in
    (i.into, i.who, i.arguments, n.1 ∙ ap Some i.is, is_entry c f.reach vars blocks f.base call n.0 i e parts.function parts.parameters, function ∙ done)

-- ---- the numbers of arguments, one after another

module _ (blocks : Blocks) (base : ℕ) where
  hold_push : (numbers : List Number) (made : Blocks) (n : Number) (b : Option Block) (z : ℤ) → HoldAll blocks base numbers made → b ≡ Some (int_block (Int z)) → Evaluates blocks base n z → HoldAll blocks base (numbers ++ n ∷ []) (made ++ b ∷ [])
  hold_push [] [] n b z h is found = ((z, is, found), tt)
  hold_push (m ∷ numbers) (x ∷ made) n b z h is found = (h.0, hold_push numbers made n b z h.1 is found)
  hold_push [] (x ∷ made) n b z h is found = absurd h
  hold_push (m ∷ numbers) [] n b z h is found = absurd h

  pub next_parameter : (all rest after : List Number) (made made' : Blocks) (n : Number) (z : ℤ) → (done : List Number) × (done ++ rest ≡ all) × HoldAll blocks base done made → rest ≡ n ∷ after
      → made' ≡ made ++ Some (int_block (Int z)) ∷ [] → Evaluates blocks base n z → (done : List Number) × (done ++ after ≡ all) × HoldAll blocks base done made'
  next_parameter all rest after made made' n z h split push found =
      (h.0 ++ n ∷ [], append_assoc h.0 (n ∷ []) after ∙ ap (λ l. h.0 ++ l) (sym split) ∙ h.1, subst (HoldAll blocks base (h.0 ++ n ∷ [])) (sym push) (hold_push h.0 made n (Some (int_block (Int z))) z h.2 refl found))

  no_rest : (rest : List Number) → length rest ≡ 0 → rest ≡ []
  no_rest [] h = refl
  no_rest (n ∷ rest) h = absurd (omega (arith, h))

  pub all_parameters : (all rest : List Number) (made : Blocks) → (done : List Number) × (done ++ rest ≡ all) × HoldAll blocks base done made → length rest ≡ 0 → HoldAll blocks base all made
  all_parameters all rest made h none =
      let whole : h.0 ≡ all = sym (append-nil h.0) ∙ ap (λ l. h.0 ++ l) (sym (no_rest rest none)) ∙ h.1 in
      subst (λ (l : List Number). HoldAll blocks base l made) whole h.2

-- ---- the same where something is found

pub variable_target : (blocks : Blocks) (base number : ℕ) (variable : Variable) (target : m.Target) → number ≡ place_number base variable → HoldsInt blocks number → target ≡ m.Into number [] (Plain t.Int) → IsTargetOf blocks base (Some variable) target
variable_target blocks base number variable target place there is = (is ∙ ap (λ n. m.Into n [] (Plain t.Int)) place, subst (HoldsInt blocks) place there)

-- ---- a call

pub called : (c : CProgram) (old new : Runner) (e : Entry) (result : Result Done Halt) (input output calls : List ℕ) → FitsFrames c old → QuickEntry old.guide old.frame old.memory e
    → Acts c new input output calls result (Onward (entered_state c (state_of c old input output calls) (todo_at (body_at c old.frame) old.frame.spot.outer.items (old.frame.spot.at + 1)) (entered_of e)))
    → Acts c new input output calls result (CStep c (state_of c old input output calls))
called c old new e result input output calls fits q h =
    let p = q c fits.guide in
    let st : State = state_of c old input output calls in
    let rest = todo_at (body_at c old.frame) old.frame.spot.outer.items (old.frame.spot.at + 1) in
    let does = calls_enter c (runner_view c old) st rest p.0 p.1 p.2 (entered_of e) (sym p.5) in
    subst (Acts c new input output calls result) (sym does ∙ acted c old input output calls (t.Call p.0 p.1 p.2) p.3) h

pub call_reads_not : (guide : Guide) (f : Frame) (blocks : Blocks) (e : Entry) → QuickEntry guide f blocks e → ReadsNot guide f
call_reads_not guide f blocks e q = λ c g. let p = q c g in (t.Call p.0 p.1 p.2, p.3, refl)
