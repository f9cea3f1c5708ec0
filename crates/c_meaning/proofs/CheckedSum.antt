-- The checked sum performs its operation: an example of a proof about a function of the runtime.
use Rattle.std.proofs.Common.{◌≡◌, ℕ, List, [], ◌∷◌, ◌++◌, length, Bool, true, false, Option, Some, None, refl, ◌∙◌, arith}
use Rattle.std.specs.Prelude.{codes, ℤ, pos, ◌+ℤ◌, ◌-ℤ◌, int_lt}
use Rattle.std.proofs.lemmas.Int.{ints}
use Rattle.c_tree.specs.Tree as t
use Rattle.c_tree.specs.Tree.{Expr, Statement, Body, Then, Empty}
use Rattle.c_tree.specs.declared.operators.CUnary.TheVariants as u
use Rattle.c_tree.specs.declared.operators.CBinary.TheVariants as b
use Rattle.c_tree.specs.declared.statement.CCallee.{CCallee}
use Rattle.c_tree.specs.declared.program.CVariable.{CVariable}
use Rattle.c_tree.specs.declared.program.CFunction.{CFunction}
use Rattle.c_tree.specs.declared.program.CProgram.{CProgram}
use Rattle.c_meaning.specs.Cells.{Name, Leaf, Int, Block, Blocks}
use Rattle.c_meaning.specs.Values.{int, fits_int}
use Rattle.c_meaning.specs.States.{Target, Frame, State, reach_of}
use Rattle.c_meaning.specs.Steps.{Next, Onward, leave, CStep}
use Rattle.c_meaning.specs.Comes.{Comes}
use Rattle.c_meaning.specs.Whole.{step}
use Rattle.c_meaning.proofs.Numbers.{Fits, top, bottom, fits_true, fits_false_high, fits_false_low, true_lt, false_le, by_test}
use Rattle.c_meaning.proofs.Frames.{Running, here}
use Rattle.c_meaning.proofs.Calls.{Ready, begun, enters, lands, leaves}
use Rattle.c_meaning.proofs.Comes.{stay, is_at, onto, one, does}

-- ---- the runtime's globals, and the function

abbrev read : Name → Expr
read x = t.Read (t.Variable x)

abbrev pub variable : Name → CVariable
variable x = record { name = x; of = t.Int }

abbrev pub p2c_escape : Name
p2c_escape = codes "p2c_escape"

abbrev pub p2c_add : Name
p2c_add = codes "p2c_add"

abbrev a_name : Name
a_name = codes "a"

abbrev b_name : Name
b_name = codes "b"

-- p2c_escape = INT64_C(203); return INT64_C(0);
abbrev raise : Statement
raise = t.Assign (t.Variable p2c_escape) (t.Number 203)

abbrev nothing : Statement
nothing = t.Return (Some (t.Number 0))

abbrev escapes : Body
escapes = Then raise (Then nothing Empty)

abbrev least : Expr
least = t.Binary b.Subtract (t.Unary u.Minus (t.Number 9223372036854775807)) (t.Number 1)

abbrev above : Statement
above = t.If (t.Binary b.Greater (read a_name) (t.Binary b.Subtract (t.Number 9223372036854775807) (read b_name))) escapes

abbrev below : Statement
below = t.If (t.Binary b.Less (read a_name) (t.Binary b.Subtract least (read b_name))) escapes

abbrev choice : Statement
choice = t.IfElse (t.Binary b.Greater (read b_name) (t.Number 0)) (Then above Empty) (Then below Empty)

abbrev sum : Statement
sum = t.Return (Some (t.Binary b.Add (read a_name) (read b_name)))

abbrev pub adder : CFunction
adder = record { name = p2c_add; result = Some t.Int; parameters = variable a_name ∷ variable b_name ∷ []; locals = []; body = choice ∷ sum ∷ [] }

-- a program whose first global is the flag
abbrev pub program : CProgram → List CVariable → CProgram
program c globals = record c { globals = variable p2c_escape ∷ globals }

-- ---- its steps

abbrev pub number : ℤ → Option Block
number z = Some (record { of = t.Int; tree = Leaf (Int z); heap = false })

module _ (c : CProgram) (globals : List CVariable) (target : Target) (g : Frame) (fs : List Frame) (reach : ℕ) (calls input output : List ℕ) (rest : Blocks) (x y : ℤ) where
  abbrev p : CProgram
  p = program c globals

  -- with this number in p2c_escape
  abbrev pub old : ℤ → Blocks
  old e = number e ∷ rest

  abbrev pub r : Running
  r = record { variables = variable a_name ∷ variable b_name ∷ []; base = length (old (pos 0)); result = Some t.Int; body = choice ∷ sum ∷ []; reach = reach; target = target; below = g ∷ fs; calls = calls }

  abbrev own : Blocks
  own = number x ∷ number y ∷ []

  abbrev pub at : ℤ → List Statement → Next
  at e todo = Onward (here r input output (old e) own todo)

  -- the function ends with a number
  abbrev pub returns : ℤ → ℤ → Next
  returns e z = leave p (here r input output (old e) own []) (Some (int z))

  -- the way out with an error
  escaped : (todo : List Statement) → Comes p (at (pos 0) (raise ∷ nothing ∷ todo)) (returns (pos 203) (pos 0))
  unfolding step
  escaped todo =
      does p r input output (old (pos 0)) own refl _ _ (at (pos 203) (nothing ∷ todo)) _ refl
      (does p r input output (old (pos 203)) own refl _ _ (returns (pos 203) (pos 0)) _ refl (stay p _))

  summed : fits_int (x +ℤ y) ≡ true → Comes p (at (pos 0) (sum ∷ [])) (returns (pos 0) (x +ℤ y))
  unfolding step
  summed fits = does p r input output (old (pos 0)) own refl _ _ (returns (pos 0) (x +ℤ y)) _ (rw fits refl) (stay p _)

  -- the sum where it is exact, and else 0 with the error
  abbrev pub sum_or_error : Bool → Next
  sum_or_error true = returns (pos 0) (x +ℤ y)
  sum_or_error false = returns (pos 203) (pos 0)

  sums : fits_int (x +ℤ y) ≡ true → Comes p (at (pos 0) (sum ∷ [])) (sum_or_error (fits_int (x +ℤ y)))
  sums e = rw e (summed e)

  fails : fits_int (x +ℤ y) ≡ false → Comes p (at (pos 0) (raise ∷ nothing ∷ sum ∷ [])) (sum_or_error (fits_int (x +ℤ y)))
  fails e = rw e (escaped (sum ∷ []))

  high : Fits x → Fits y → int_lt (pos 0) y ≡ true → Comes p (at (pos 0) (above ∷ sum ∷ [])) (sum_or_error (fits_int (x +ℤ y)))
  unfolding step
  high fx fy e =
      let more = true_lt (pos 0) y e in
      let fit : fits_int (top -ℤ y) ≡ true = fits_true (top -ℤ y) (record { low = omega (arith, ints, fy.high); high = omega (arith, ints, more) }) in
      by_test (int_lt (top -ℤ y) x) _
      (λ t. does p r input output (old (pos 0)) own refl _ _ (at (pos 0) (raise ∷ nothing ∷ sum ∷ [])) _ (rw fit (rw t refl))
      (fails (fits_false_high (x +ℤ y) (omega (arith, ints, true_lt (top -ℤ y) x t)))))
      (λ t. does p r input output (old (pos 0)) own refl _ _ (at (pos 0) (sum ∷ [])) _ (rw fit (rw t refl))
      (sums (fits_true (x +ℤ y) (record { low = omega (arith, ints, fx.low, more); high = omega (arith, ints, false_le (top -ℤ y) x t) }))))

  low : Fits x → Fits y → int_lt (pos 0) y ≡ false → Comes p (at (pos 0) (below ∷ sum ∷ [])) (sum_or_error (fits_int (x +ℤ y)))
  unfolding step
  low fx fy e =
      let less = false_le (pos 0) y e in
      let fit : fits_int (bottom -ℤ y) ≡ true = fits_true (bottom -ℤ y) (record { low = omega (arith, ints, less); high = omega (arith, ints, fy.low) }) in
      by_test (int_lt x (bottom -ℤ y)) _
      (λ t. does p r input output (old (pos 0)) own refl _ _ (at (pos 0) (raise ∷ nothing ∷ sum ∷ [])) _ (rw fit (rw t refl))
      (fails (fits_false_low (x +ℤ y) (omega (arith, ints, true_lt x (bottom -ℤ y) t)))))
      (λ t. does p r input output (old (pos 0)) own refl _ _ (at (pos 0) (sum ∷ [])) _ (rw fit (rw t refl))
      (sums (fits_true (x +ℤ y) (record { low = omega (arith, ints, false_le x (bottom -ℤ y) t); high = omega (arith, ints, fx.high, less) }))))

  -- its body, from its first statement to its end
  pub body_runs : Fits x → Fits y → Comes p (at (pos 0) (choice ∷ sum ∷ [])) (sum_or_error (fits_int (x +ℤ y)))
  unfolding step
  body_runs fx fy =
      by_test (int_lt (pos 0) y) _
      (λ t. does p r input output (old (pos 0)) own refl _ _ (at (pos 0) (above ∷ sum ∷ [])) _ (rw t refl) (high fx fy t))
      (λ t. does p r input output (old (pos 0)) own refl _ _ (at (pos 0) (below ∷ sum ∷ [])) _ (rw t refl) (low fx fy t))

-- ---- a call of it, from the call statement to the statement after it

module _ (c : CProgram) (globals : List CVariable) (f : Frame) (fs : List Frame) (todo : List Statement) (into : Option t.Place) (who : CCallee) (arguments : List Expr) (target : Target) (input output calls : List ℕ) (rest : Blocks) (x y : ℤ) where
  abbrev q : CProgram
  q = program c globals

  -- the caller, with the flag down; the call is its next statement
  abbrev pub calling : State
  calling = record { frame = record f { todo = t.Call into who arguments ∷ todo }; below = fs; blocks = number (pos 0) ∷ rest; input = input; output = output; calls = calls }

  -- the caller goes on after the call, with a number in the flag and one in the place for the answer; the blocks of the parameters are gone
  abbrev pub lands_with : ℤ → ℤ → Next
  lands_with e z = lands q (record f { todo = todo }) fs target input output calls (number e ∷ (rest ++ None ∷ None ∷ [])) (Some (int z))

  abbrev pub sum_or_error_lands : Bool → Next
  sum_or_error_lands true = lands_with (pos 0) (x +ℤ y)
  sum_or_error_lands false = lands_with (pos 203) (pos 0)

  abbrev reach' : ℕ
  reach' = reach_of p2c_add c.functions

  begins : Onward (begun q calling todo adder target (number x ∷ number y ∷ [])) ≡ at c globals target (record f { todo = todo }) fs reach' calls input output rest x y (pos 0) (choice ∷ sum ∷ [])
  unfolding step
  begins = refl

  stored : (e z : ℤ) → returns c globals target (record f { todo = todo }) fs reach' calls input output rest x y e z ≡ lands_with e z
  stored e z = leaves q (r c globals target (record f { todo = todo }) fs reach' calls input output rest x y) (record f { todo = todo }) fs input output (number e ∷ rest) (number x ∷ number y ∷ []) [] [] (Some (int z)) refl refl refl

  lands_so : (test : Bool) → sum_or_error c globals target (record f { todo = todo }) fs reach' calls input output rest x y test ≡ sum_or_error_lands test
  lands_so true = stored (pos 0) (x +ℤ y)
  lands_so false = stored (pos 203) (pos 0)

  -- from the call, C comes to the statement after it: with the sum where it is exact, and else with 0 and the error in the flag
  pub performs : Ready q calling into who arguments adder target (number x ∷ number y ∷ []) → Fits x → Fits y → Comes q (Onward calling) (sum_or_error_lands (fits_int (x +ℤ y)))
  performs h fx fy =
      one q calling _
      (onto q (CStep q calling) _ _ (is_at q (CStep q calling) _ (enters q calling todo into who arguments adder target (number x ∷ number y ∷ []) refl h ∙ begins))
      (onto q _ _ _ (body_runs c globals target (record f { todo = todo }) fs reach' calls input output rest x y fx fy)
      (is_at q _ _ (lands_so (fits_int (x +ℤ y))))))
