-- What each primitive does with its operands, in their order.
use Rattle.std.specs.Prelude.{ℕ, ℤ, pos, Bool, true, false, List, [], ◌∷◌, Option, Some, None}
use Rattle.typed_tree.specs.declared.types.Types.{Types}
use Rattle.typed_tree.specs.declared.operations.BinaryOp.{BinaryOp}
use Rattle.typed_tree.specs.declared.operations.BinaryOp.TheVariants as op
use Rattle.typed_tree.specs.declared.operations.UnaryOp.TheVariants as unary
use Rattle.typed_tree.specs.declared.operations.PredefCall.{PredefCall}
use Rattle.typed_tree.specs.declared.operations.PredefCall.TheVariants as call
use Rattle.typed_tree.specs.Ranges.{type_at}
use Rattle.typed_tree.specs.Fields.{Variant, Choice, variants_around}
use Rattle.meanings.specs.declared.errors.RuntimeError.TheVariants.{NoLabel, InactiveVariant}
use Rattle.meanings.specs.Values.{Tree, Undefined, SetOf, ArrayOf, tree}
use Rattle.meanings.specs.Outcomes.{Malformed, Checked, Passes, Fails, Misfits, ◌&>◌}
use Rattle.meanings.specs.Programs.{Prog, ◌>>=◌, ◌>>◌, pure, stop, ask, check, print}
use Rattle.pascal_meaning.specs.declared.operations.Primitive.{Primitive}
use Rattle.pascal_meaning.specs.declared.operations.Primitive.TheVariants as p
use Rattle.pascal_meaning.specs.Numbers.{when, in_range, whole}
use Rattle.pascal_meaning.specs.Sets.{set_of, with_member, with_members}
use Rattle.pascal_meaning.specs.Texts.{text_of, length_of, byte_of, read_text}
use Rattle.pascal_meaning.specs.Places.{among, Reach, InRange, ToLength, NoIndex, reach_of, pointed, converted, assign}
use Rattle.pascal_meaning.specs.Input.{read_into, read_line, look_ahead}
use Rattle.pascal_meaning.specs.Predefined.{Operand, Given, Target, Shown, tree_of, integer_of, counted, call_value, acted, write_one}
use Rattle.pascal_meaning.specs.Statements.{on_unary, operated}

-- ---- checks

-- the cell 0 of a string
unfoldable pub first_cell : Tree → Checked Tree
first_cell (ArrayOf (tree c ts)) = Passes c
first_cell _ = Misfits

unfoldable pub in_reach : Reach → Tree → ℤ → Checked ℤ
in_reach (InRange r) s i = in_range (Some r) i
in_reach ToLength s i = first_cell s &> λ c. byte_of c &> λ n. in_range (Some (pos 1, pos n)) i
in_reach NoIndex s i = Misfits

unfoldable pub innermost : List (Choice × Variant) → Option Variant
innermost [] = None
innermost (v ∷ []) = Some v.1
innermost (v ∷ w ∷ vs) = innermost (w ∷ vs)

unfoldable pub selects : Option Variant → ℤ → Checked ℤ
selects None z = Misfits
selects (Some v) z = when (among v.labels z) InactiveVariant z

-- a pointer that is not nil
unfoldable pub a_pointer : Tree → Checked Tree
a_pointer t = pointed t &> λ h. Passes t

-- ---- operands

-- with the type that the primitive names
unfoldable pub typed : ℕ → Operand → Operand
typed t (Given u v) = Given t v
typed t (Target q) = Target (record q { of = t })
typed t (Shown u v k) = Shown t v k
typed t x = x

unfoldable pub set_made : Checked (List Bool) → Checked Tree
set_made c = c &> λ s. Passes (SetOf s)

unfoldable pub included : Tree → ℤ → Checked Tree
included t z = set_of t &> λ s. set_made (with_member s z)

unfoldable pub range_included : Tree → (first last : ℤ) → Checked Tree
range_included t first last = set_of t &> λ s. set_made (with_members s first last)

-- a value that is written, with a width where one stands
unfoldable pub written_operand : (type : ℕ) → (wide : Bool) → List Operand → Checked Operand
written_operand t true (x ∷ k ∷ xs) = tree_of x &> λ v. integer_of k &> λ z. Passes (Shown t v (Some z))
written_operand t false (x ∷ xs) = tree_of x &> λ v. Passes (Shown t v None)
written_operand t w _ = Misfits

unfoldable pub last_operand : Operand → List Operand → Operand
last_operand x [] = x
last_operand x (y ∷ ys) = last_operand y ys

unfoldable pub target_of : List Operand → Operand
target_of [] = Given 0 Undefined
target_of (x ∷ xs) = last_operand x xs

-- ---- primitives

-- an operator on two operands of these types
unfoldable pub by_operator : BinaryOp → (left right : ℕ) → List Operand → Prog Tree
by_operator o l r (x ∷ y ∷ []) = check (λ types. tree_of x &> λ t. tree_of y &> λ u. operated types o (type_at types l) t (type_at types r) u)
by_operator o l r _ = stop Malformed

-- a function of one or more operands, the first of this type
unfoldable pub by_call : PredefCall → (first type : ℕ) → List Operand → Prog Tree
by_call c f t (x ∷ xs) = call_value c (typed f x ∷ xs) t
by_call c f t [] = call_value c [] t

-- a statement has no answer
unfoldable pub no_answer : Prog (Unit {0}) → Prog Tree
no_answer q = q >> pure Undefined

unfoldable pub store_into : (target source : ℕ) → List Operand → Prog (Unit {0})
store_into t s (Target q ∷ x ∷ []) = ask (λ c v. Passes (type_at c.program.types s)) >>= λ source. check (λ types. tree_of x) >>= λ u. assign (record q { of = t }) source u
store_into t s _ = stop Malformed

unfoldable pub read_target : ℕ → List Operand → Prog (Unit {0})
read_target t (Target q ∷ []) = read_into (record q { of = t })
read_target t _ = stop Malformed

-- what the operands of a check decide
unfoldable pub decided : Types → Primitive → List Operand → Checked Tree
decided types p.Negate (x ∷ []) = tree_of x &> λ t. on_unary unary.Minus t
decided types p.BitNot (x ∷ []) = tree_of x &> λ t. on_unary unary.BitNot t
decided types (p.Range first last) (x ∷ []) = whole (integer_of x &> λ z. in_range (Some (first, last)) z)
decided types (p.StringIndex string) (x ∷ i ∷ []) = tree_of x &> λ s. whole (integer_of i &> λ i. in_reach (reach_of types (type_at types string)) s i)
decided types (p.NotNil pointer) (x ∷ []) = tree_of x &> λ t. a_pointer t
decided types p.NoCase xs = Fails NoLabel
decided types (p.Selected r f) (x ∷ []) = whole (integer_of x &> λ z. selects (innermost (variants_around (type_at types r) f)) z)
decided types (p.TextLength string) (x ∷ []) = tree_of x &> λ t. counted (length_of (text_of (type_at types string) t))
decided types (p.TextRead text) (x ∷ []) = tree_of x &> λ t. read_text (text_of (type_at types text) t) &> λ bs. Passes Undefined
decided types p.Include (x ∷ y ∷ []) = tree_of x &> λ s. integer_of y &> λ z. included s z
decided types p.IncludeRange (x ∷ y ∷ z ∷ []) = tree_of x &> λ s. integer_of y &> λ first. integer_of z &> λ last. range_included s first last
decided types (p.Convert target text) (x ∷ []) = tree_of x &> λ t. converted types target (type_at types text) t
decided types _ xs = Misfits

unfoldable pub perform : Primitive → List Operand → Prog Tree
perform p.Add xs = by_operator op.Add 0 0 xs
perform p.Subtract xs = by_operator op.Sub 0 0 xs
perform p.Multiply xs = by_operator op.Mul 0 0 xs
perform p.Divide xs = by_operator op.Div 0 0 xs
perform p.Modulo xs = by_operator op.Mod 0 0 xs
perform p.BitAnd xs = by_operator op.BitAnd 0 0 xs
perform p.BitOr xs = by_operator op.BitOr 0 0 xs
perform p.BitXor xs = by_operator op.BitXor 0 0 xs
perform p.ShiftLeft xs = by_operator op.Shl 0 0 xs
perform p.ShiftRight xs = by_operator op.Shr 0 0 xs
perform p.Union xs = by_operator op.Union 0 0 xs
perform p.Difference xs = by_operator op.Difference 0 0 xs
perform p.Intersection xs = by_operator op.Intersection 0 0 xs
perform p.SetEqual xs = by_operator op.Equal 0 0 xs
perform p.SetUnequal xs = by_operator op.Unequal 0 0 xs
perform p.Subset xs = by_operator op.LessEq 0 0 xs
perform p.Superset xs = by_operator op.GreaterEq 0 0 xs
perform p.Member xs = by_operator op.Member 0 0 xs
perform (p.Join l r) xs = by_operator op.Join l r xs
perform (p.Compare o l r) xs = by_operator o l r xs
perform (p.StoreSet target) xs = no_answer (store_into target 0 xs)
perform (p.StoreText target text) xs = no_answer (store_into target text xs)
perform p.Abs xs = by_call call.Abs 0 0 xs
perform p.Sqr xs = by_call call.Sqr 0 0 xs
perform p.Odd xs = by_call call.Odd 0 0 xs
perform p.Ord xs = by_call call.Ord 0 0 xs
perform p.Chr xs = by_call call.Chr 0 0 xs
perform (p.Succ ordinal) xs = by_call call.Succ ordinal ordinal xs
perform (p.Pred ordinal) xs = by_call call.Pred ordinal ordinal xs
perform p.Eof xs = by_call call.Eof 0 0 []
perform p.Eoln xs = by_call call.Eoln 0 0 []
perform p.EscapeCode xs = by_call call.EscapeCode 0 0 []
perform p.LookAhead xs = ask (λ s v. Passes v.input) >>= λ bs. check (λ types. whole (look_ahead bs))
perform p.UpCase xs = by_call call.UpCase 0 0 xs
perform (p.Length text) xs = by_call call.Length text 0 xs
perform (p.StrLen text) xs = by_call call.StrLen text 0 xs
perform (p.StrMax string) xs = by_call call.StrMax string 0 (Given string Undefined ∷ [])
perform (p.Copy text) xs = by_call call.Copy text 0 xs
perform (p.TextPart text) xs = by_call call.Str text 0 xs
perform (p.StrLTrim text) xs = by_call call.StrLTrim text 0 xs
perform (p.StrRTrim text) xs = by_call call.StrRTrim text 0 xs
perform (p.StrRpt text) xs = by_call call.StrRpt text 0 xs
perform (p.Pos part text) (x ∷ y ∷ []) = call_value call.Pos (typed part x ∷ typed text y ∷ []) 0
perform (p.New pointer) (x ∷ []) = no_answer (acted call.New (typed pointer x ∷ []))
perform (p.Dispose pointer) xs = no_answer (acted call.Dispose xs)
perform (p.Pack a z) (x ∷ i ∷ y ∷ []) = no_answer (acted call.Pack (typed a x ∷ i ∷ typed z y ∷ []))
perform (p.Unpack z a) (x ∷ y ∷ i ∷ []) = no_answer (acted call.Unpack (typed z x ∷ typed a y ∷ i ∷ []))
perform p.Get xs = no_answer (acted call.Get [])
perform p.Page xs = no_answer (acted call.Page [])
perform (p.Read target) xs = no_answer (read_target target xs)
perform p.Readln xs = no_answer read_line
perform (p.Write t w) xs = no_answer (check (λ types. written_operand t w xs) >>= λ x. write_one x)
perform p.Writeln xs = no_answer (print (10 ∷ []))
perform (p.Inc target) (x ∷ xs) = no_answer (acted call.Inc (typed target x ∷ xs))
perform (p.Dec target) (x ∷ xs) = no_answer (acted call.Dec (typed target x ∷ xs))
perform (p.Insert text target) (x ∷ y ∷ i ∷ []) = no_answer (acted call.Insert (typed text x ∷ typed target y ∷ i ∷ []))
perform (p.Delete target) (x ∷ xs) = no_answer (acted call.Delete (typed target x ∷ xs))
perform (p.NumberText number target w) xs = no_answer (check (λ types. written_operand number w xs) >>= λ x. acted call.Str (x ∷ typed target (target_of xs) ∷ []))
perform (p.Val text i code) (x ∷ y ∷ z ∷ []) = no_answer (acted call.Val (typed text x ∷ typed i y ∷ typed code z ∷ []))
perform (p.StrAppend target text) (x ∷ y ∷ []) = no_answer (acted call.StrAppend (typed target x ∷ typed text y ∷ []))
perform (p.SetStrLen target) (x ∷ xs) = no_answer (acted call.SetStrLen (typed target x ∷ xs))
perform c xs = check (λ types. decided types c xs)
