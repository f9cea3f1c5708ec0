-- What quick returns do.
use Rattle.std.proofs.Common.{◌≡◌, ◌≢◌, ℕ, zero, suc, ◌+◌, ◌<◌, List, [], ◌∷◌, Option, Some, None, Ok, refl, sym, ap, subst, ◌∙◌, arith}
use Rattle.std.proofs.lemmas.List.Elements.{All-pop}
use Rattle.std.specs.Prelude.{ℤ, slice_get, slice_set, IfSome}
use Rattle.c_tree.specs.Tree as t
use Rattle.c_tree.specs.Tree.{Expr, ObjectType, Statement}
use Rattle.c_tree.specs.declared.program.CVariable.{CVariable}
use Rattle.c_tree.specs.declared.program.CDeclaration.{CDeclaration}
use Rattle.c_tree.specs.declared.program.CProgram.{CProgram}
use Rattle.c_meaning.specs.Cells.{Int, Block, Blocks}
use Rattle.c_meaning.specs.Answer.{Got, ◌>>=◌, when}
use Rattle.c_meaning.specs.Types.{Plain, alike, type_eq}
use Rattle.c_meaning.specs.Values.{int, converted, value_of}
use Rattle.c_meaning.specs.Evaluate.{View, value}
use Rattle.c_meaning.specs.States as m
use Rattle.c_meaning.specs.States.{State, store, without}
use Rattle.c_meaning.specs.Steps.{Onward, names_from, result_of, returned, taken, answered, leave, leave_to, CStep}
use Rattle.c_meaning.proofs.Blocks.{get_other}
use Rattle.c_cells.specs.Slots.{int_block, HoldsInt}
use Rattle.c_cells.proofs.Blocks.{set_int}
use Rattle.c_evaluation.specs.declared.numbers.Number.{Number}
use Rattle.c_evaluation.specs.Numbers.{Evaluates}
use Rattle.c_stepper.specs.declared.resolved.code.Node.{Node}
use Rattle.c_stepper.specs.declared.resolved.code.Resolved.{Resolved}
use Rattle.c_stepper.specs.declared.resolved.code.Resolved.TheVariants as r
use Rattle.c_stepper.specs.declared.guide.Guide.{Guide}
use Rattle.c_stepper.specs.declared.runner.Frame.{Frame}
use Rattle.c_stepper.specs.declared.runner.Runner.{Runner}
use Rattle.c_stepper.specs.declared.runner.Done.TheVariants as d
use Rattle.c_stepper.specs.Codes.{IsResolved}
use Rattle.c_stepper.specs.Spots.{todo_at}
use Rattle.c_stepper.specs.Runners.{target_of, parts_at, variables_at, body_at, frame_of, frames_of, state_of, runner_view, FitsFrame, FitsFrames, Acts}
use Rattle.c_stepper.specs.Quick.{IsHere, ReadsNot}
use Rattle.c_stepper.specs.QuickReturns.{GivesNumber, LeavesNumber}
use Rattle.c_stepper.proofs.Entering.{frames_push}
use Rattle.c_stepper.proofs.Leaving.{gives, leaves}
use Rattle.c_stepper.proofs.Stepping.{acted, guide_stays}

pub gives_number : (guide : Guide) (f : Frame) (blocks : Blocks) (node : Node) (number : Number) (o : Option ℤ) → IsHere guide f node → node.resolved ≡ r.Give number → IfSome o (λ z. Evaluates blocks f.base number z) → IfSome o (λ z. GivesNumber guide f blocks z)
gives_number guide f blocks node number None here is found = tt
gives_number guide f blocks node number (Some z) here is found = λ c g.
    let vars = variables_at c f in
    let n = here c g in
    let form = subst (λ (q : Resolved). IsResolved c vars q n.0) is n.2 in
    (form.0, n.1 ∙ ap Some form.1, found c f.reach vars form.0 form.2)

pub return_reads_not : (guide : Guide) (f : Frame) (blocks : Blocks) (z : ℤ) → GivesNumber guide f blocks z → ReadsNot guide f
return_reads_not guide f blocks z number = λ c g. let n = number c g in (t.Return (Some n.0), n.1, refl)

-- ---- the blocks

set_commutes : {A : Type 0} (xs : List A) (i j : ℕ) (a b : A) → i ≢ j → slice_set (slice_set xs i a) j b ≡ slice_set (slice_set xs j b) i a
set_commutes [] i j a b d = refl
set_commutes (x ∷ xs) zero zero a b d = absurd (d refl)
set_commutes (x ∷ xs) zero (suc j) a b d = refl
set_commutes (x ∷ xs) (suc i) zero a b d = refl
set_commutes (x ∷ xs) (suc i) (suc j) a b d = ap (λ l. x ∷ l) (set_commutes xs i j a b (λ e. d (ap (λ k. suc k) e)))

-- what stands below the blocks of a function stays when they are gone
without_set : (vars : List CVariable) (first n : ℕ) (blocks : Blocks) (o : Option Block) → n < first → without (names_from first vars) (slice_set blocks n o) ≡ slice_set (without (names_from first vars) blocks) n o
unfolding without names_from
without_set [] first n blocks o h = refl
without_set (x ∷ vars) first n blocks o h =
    ap (λ (b : Blocks). without (names_from (first + 1) vars) b) (set_commutes blocks n first o None (λ e. absurd (omega (arith, e, h)))) ∙ without_set vars (first + 1) n (slice_set blocks first None) o (omega (arith, h))

without_get : (vars : List CVariable) (first n : ℕ) (blocks : Blocks) → n < first → slice_get (without (names_from first vars) blocks) n ≡ slice_get blocks n
unfolding without names_from
without_get [] first n blocks h = refl
without_get (x ∷ vars) first n blocks h = without_get vars (first + 1) n (slice_set blocks first None) (omega (arith, h)) ∙ get_other blocks first n None (λ e. absurd (omega (arith, e, h)))

number_answered : (ds : List CDeclaration) (blocks : Blocks) (n : ℕ) (z : ℤ) → HoldsInt blocks n → answered ds blocks (m.Into n [] (Plain t.Int)) (Some (int z)) ≡ Got (slice_set blocks n (Some (int_block (Int z))))
unfolding answered taken converted alike type_eq when int ◌>>=◌
number_answered ds blocks n z h = set_int blocks n z h

-- ---- the statement

number_returned : (v : View) (of : Option ObjectType) (x : Expr) (z : ℤ) → of ≡ Some t.Int → value v x ≡ Got (int z) → returned v of (Some x) ≡ Got (Some (int z))
unfolding returned result_of converted alike type_eq when int value_of ◌>>=◌
number_returned v of x z int_ found = ap (λ o. returned v o (Some x)) int_ ∙ ap (λ a. a >>= (λ x. result_of v.declared (Some t.Int) x >>= (λ y. Got (Some y)))) found

module _ (c : CProgram) (old new : Runner) (number : ℕ) (z : ℤ) where
  abbrev base : ℕ
  base = old.frame.base

  abbrev vars : List CVariable
  vars = variables_at c old.frame

  abbrev cell : Option Block
  cell = Some (int_block (Int z))

  -- the blocks after the answer
  memory_is : (h : LeavesNumber (names_from base vars) old new number z) → number < base → slice_set (without (names_from base vars) old.memory) number cell ≡ new.memory
  memory_is h low =
      let stored : slice_set old.memory number cell ≡ h.stored = let e : Got (slice_set old.memory number cell) ≡ Got h.stored = sym (set_int old.memory number z h.held) ∙ h.is in cc in
      sym (h.memory ∙ ap (λ (b : Blocks). without (names_from base vars) b) (sym stored) ∙ without_set vars base number old.memory cell low)

  answered_is : (h : LeavesNumber (names_from base vars) old new number z) → number < base → target_of old.frame.target ≡ m.Into number [] (Plain t.Int)
      → answered c.declarations (without (names_from base vars) old.memory) (target_of old.frame.target) (Some (int z)) ≡ Got new.memory
  answered_is h low target =
      let gone : Blocks = without (names_from base vars) old.memory in
      let held : HoldsInt gone number = (h.held.0, without_get vars base number old.memory low ∙ h.held.1) in
      ap (λ t. answered c.declarations gone t (Some (int z))) target ∙ number_answered c.declarations gone number z held ∙ ap Got (memory_is h low)

  left : (h : LeavesNumber (names_from base vars) old new number z) → number < base → target_of old.frame.target ≡ m.Into number [] (Plain t.Int) → (input output calls : List ℕ)
      → leave c (state_of c old input output calls) (Some (int z)) ≡ Onward (state_of c new input output calls)
  unfolding leave
  left h low target input output calls =
      let st : State = state_of c old input output calls in
      let below : frames_of c old.below.items [] ≡ frame_of c new.frame ∷ frames_of c new.below.items [] = ap (λ (fs : List Frame). frames_of c fs []) h.frame ∙ frames_push c new.below.items new.frame [] in
      ap (λ (fs : List m.Frame). leave_to c st fs (Some (int z))) below ∙ leaves c st (frame_of c new.frame) (frames_of c new.below.items []) (Some (int z)) new.memory (answered_is h low target)

  pub returns : (h : LeavesNumber (names_from base vars) old new number z) → number < base → target_of old.frame.target ≡ m.Into number [] (Plain t.Int) → (parts_at c old.frame.function).result ≡ Some t.Int
      → GivesNumber old.guide old.frame old.memory z → FitsFrames c old → (input output calls : List ℕ) → Acts c new input output calls (Ok d.Going) (CStep c (state_of c old input output calls))
  returns h low target int_ number fits input output calls =
      let v : View = runner_view c old in
      let st : State = state_of c old input output calls in
      let given = number c fits.guide in
      let e = Some given.0 in
      sym (gives c v st (todo_at (body_at c old.frame) old.frame.spot.outer.items (old.frame.spot.at + 1)) e (Some (int z)) (number_returned v (parts_at c old.frame.function).result given.0 z int_ given.2) ∙ left h low target input output calls)
      ∙ acted c old input output calls (t.Return e) given.1

  pub fits_left : (h : LeavesNumber (names_from base vars) old new number z) → FitsFrames c old → FitsFrames c new
  fits_left h fits =
      let both = All-pop (FitsFrame c) old.below.items new.below.items (Some new.frame) h.frame fits.below in
      record { frame = both.1; below = both.0; guide = guide_stays c old.guide new.guide h.guide fits.guide }
