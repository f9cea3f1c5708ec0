-- No parser gives tokens back.
use Rattle.std.proofs.Common.{◌≡◌, ℕ, zero, suc, ◌+◌, ◌<◌, ◌≤◌, Bool, true, false, List, [], ◌∷◌, length, Option, Some, None, Ok, Err, arith}
use Rattle.c_tree.specs.Tree.{ObjectType, Expr, Place, Statement}
use Rattle.c_tree.specs.declared.statement.CCallee.{CCallee}
use Rattle.c_tree.specs.declared.program.CVariable.{CVariable}
use Rattle.c_tree.specs.declared.program.CMember.{CMember}
use Rattle.c_grammar.specs.declared.token.Word.TheVariants as word
use Rattle.c_grammar.specs.declared.token.Mark.TheVariants as mark
use Rattle.c_grammar.specs.Token.{Token}
use Rattle.token_parsing.specs.Parser.{Outcome, Parser, and_then, begins}
use Rattle.token_parsing.specs.declared.refusal.Refusal.TheVariants.{Unexpected, TooDeep}
use Rattle.token_parsing.proofs.Tracked.{Shrinks, Shorter, refuses_short, stops_short, short, one_shrinks, then_shrinks, pure_shrinks, refuse_shrinks, stop_shrinks, either_shrinks, repeat_shrinks}
use Rattle.c_parser.specs.declared.program.Parts.{Parts}
use Rattle.c_expr_parser.specs.Classes.{names, words, marks, expect}
use Rattle.c_expr_parser.specs.Types.{result_type}
use Rattle.c_expr_parser.specs.Expressions.{expr}
use Rattle.c_parser.specs.Statements.{next_argument, some_arguments, listed_arguments, arguments, call, indirect, callee, calls, malloc_opening, malloc, get_char, value, call_into, assigned, callee_of, label_of, called, labelled, placed, free, put_char, goto, returned, return_with, no_brace, next_statement, statements, body, otherwise, conditional, while_loop, simple, statement_by, statement}
use Rattle.c_parser.specs.Programs as programs
use Rattle.c_parser.specs.Programs.{array_length, next_member, members, next_type, types_after, types, typedef_of, pointer_name, typedef, next_parameter, parameters_after, parameters, begins_local, next_local, locals, block, no_functions, no_prototypes, no_globals, no_declarations, when, forward, structure, type_definition, global, prototype, function, after_parameters, after_name, after_result, after_struct_name, after_struct, next_part, no_int, no_parts, parts, main, end_of, program}
use Rattle.c_expr_parser.proofs.Closed.{closed_shrinks}
use Rattle.c_parser.proofs.Arguments.{enclosed_shrinks}
use Rattle.c_expr_parser.proofs.Shrinks.{expr_shrinks, place_shrinks, result_shrinks, stars_shrinks, type_shrinks}

-- ---- statements

module _ (child : Parser Token Expr) (h : Shrinks child) where
  pub next_argument_shrinks : (all : List Expr) → Shrinks (next_argument child all)
  unfolding next_argument
  next_argument_shrinks all = then_shrinks (one_shrinks _) (λ _. then_shrinks h (λ a. pure_shrinks _))

  pub arguments_shrinks : Shrinks (listed_arguments child)
  unfolding listed_arguments some_arguments
  arguments_shrinks = either_shrinks (begins (marks mark.Close)) (pure_shrinks _) (then_shrinks h (λ a. repeat_shrinks (begins (marks mark.Comma)) (next_argument child) next_argument_shrinks (a ∷ [])))

  pub enclosed_arguments_shrinks : Shrinks (arguments child)
  unfolding arguments
  enclosed_arguments_shrinks = then_shrinks (one_shrinks _) (λ _. then_shrinks arguments_shrinks (λ all. then_shrinks (one_shrinks _) (λ _. then_shrinks (one_shrinks _) (λ _. pure_shrinks _))))

  pub call_shrinks : (into : Option Place) (c : CCallee) → Shrinks (call child into c)
  unfolding call
  call_shrinks into c = then_shrinks enclosed_arguments_shrinks (λ all. pure_shrinks _)

  pub callee_shrinks : Shrinks (callee child)
  unfolding callee indirect
  callee_shrinks =
      either_shrinks (begins names) (then_shrinks (one_shrinks _) (λ n. pure_shrinks _))
      (then_shrinks (one_shrinks _) (λ _. then_shrinks (one_shrinks _) (λ _. then_shrinks (closed_shrinks child h) (λ a. pure_shrinks _))))

  pub malloc_shrinks : (p : Place) → Shrinks (malloc p)
  unfolding malloc malloc_opening
  malloc_shrinks p =
      then_shrinks (then_shrinks (one_shrinks _) (λ _. then_shrinks (one_shrinks _) (λ _. then_shrinks (one_shrinks _) (λ _. then_shrinks (one_shrinks _) (λ _. pure_shrinks _))))) (λ _. then_shrinks type_shrinks (λ of.
      then_shrinks (one_shrinks _) (λ _. then_shrinks (one_shrinks _) (λ _. then_shrinks (one_shrinks _) (λ _. pure_shrinks _)))))

  pub get_char_shrinks : (p : Place) → Shrinks (get_char p)
  unfolding get_char
  get_char_shrinks p = then_shrinks (one_shrinks _) (λ _. then_shrinks (one_shrinks _) (λ _. then_shrinks (one_shrinks _) (λ _. then_shrinks (one_shrinks _) (λ _. pure_shrinks _))))

  pub value_shrinks : (p : Place) → Shrinks (value child p)
  unfolding value
  value_shrinks p = then_shrinks h (λ a. then_shrinks (one_shrinks _) (λ _. pure_shrinks _))

  pub call_into_shrinks : (p : Place) → Shrinks (call_into child p)
  unfolding call_into
  call_into_shrinks p = then_shrinks callee_shrinks (λ c. call_shrinks (Some p) c)

  pub after_assign_shrinks : (p : Place) → Shrinks (assigned child p)
  unfolding assigned
  after_assign_shrinks p = then_shrinks (one_shrinks _) (λ _. either_shrinks (begins (words word.Malloc)) (malloc_shrinks p) (either_shrinks (begins (words word.GetChar)) (get_char_shrinks p) (either_shrinks calls (call_into_shrinks p) (value_shrinks p))))

  called_shrinks : (c : Option CCallee) → Shrinks (called child c)
  called_shrinks None = refuse_shrinks
  called_shrinks (Some c) = call_shrinks None c

  labelled_shrinks : (l : Option (List ℕ)) → Shrinks (labelled l)
  labelled_shrinks None = refuse_shrinks
  labelled_shrinks (Some l) = then_shrinks (one_shrinks _) (λ _. then_shrinks (one_shrinks _) (λ _. pure_shrinks _))

  pub placed_shrinks : (p : Place) → Shrinks (placed child p)
  unfolding placed
  placed_shrinks p = either_shrinks (begins (marks mark.Assign)) (after_assign_shrinks p) (either_shrinks (begins (marks mark.Open)) (called_shrinks (callee_of p)) (labelled_shrinks (label_of p)))

  pub returned_shrinks : Shrinks (returned child)
  unfolding returned
  returned_shrinks = either_shrinks (begins (marks mark.Semicolon)) (pure_shrinks _) (then_shrinks h (λ a. pure_shrinks _))

  pub simple_shrinks : Shrinks (simple child)
  unfolding simple free put_char goto return_with
  simple_shrinks =
      either_shrinks (begins (words word.Free)) (then_shrinks (one_shrinks _) (λ _. then_shrinks (enclosed_shrinks child h) (λ a. then_shrinks (one_shrinks _) (λ _. pure_shrinks _))))
      (either_shrinks (begins (words word.PutChar)) (then_shrinks (one_shrinks _) (λ _. then_shrinks (enclosed_shrinks child h) (λ a. then_shrinks (one_shrinks _) (λ _. pure_shrinks _))))
      (either_shrinks (begins (words word.Goto)) (then_shrinks (one_shrinks _) (λ _. then_shrinks (one_shrinks _) (λ l. then_shrinks (one_shrinks _) (λ _. pure_shrinks _))))
      (either_shrinks (begins (words word.Return)) (then_shrinks (one_shrinks _) (λ _. then_shrinks returned_shrinks (λ a. then_shrinks (one_shrinks _) (λ _. pure_shrinks _))))
      (then_shrinks (place_shrinks child h) placed_shrinks))))

  module _ (inside : Parser Token Statement) (g : Shrinks inside) where
    pub next_statement_shrinks : (all : List Statement) → Shrinks (next_statement inside all)
    unfolding next_statement
    next_statement_shrinks all = then_shrinks g (λ a. pure_shrinks _)

    pub statements_shrinks : Shrinks (statements inside)
    unfolding statements
    statements_shrinks = repeat_shrinks no_brace (next_statement inside) next_statement_shrinks []

    pub body_shrinks : Shrinks (body inside)
    unfolding body
    body_shrinks = then_shrinks (one_shrinks _) (λ _. then_shrinks statements_shrinks (λ all. then_shrinks (one_shrinks _) (λ _. pure_shrinks _)))

    pub otherwise_shrinks : (a : Expr) (all : List Statement) → Shrinks (otherwise inside a all)
    unfolding otherwise
    otherwise_shrinks a all = then_shrinks (one_shrinks _) (λ _. then_shrinks body_shrinks (λ more. pure_shrinks _))

    pub statement_by_shrinks : Shrinks (statement_by child inside)
    unfolding statement_by conditional while_loop
    statement_by_shrinks =
        either_shrinks (begins (words word.If)) (then_shrinks (one_shrinks _) (λ _. then_shrinks (enclosed_shrinks child h) (λ a. then_shrinks body_shrinks (λ all. either_shrinks (begins (words word.Else)) (otherwise_shrinks a all) (pure_shrinks _)))))
        (either_shrinks (begins (words word.While)) (then_shrinks (one_shrinks _) (λ _. then_shrinks (enclosed_shrinks child h) (λ a. then_shrinks body_shrinks (λ all. pure_shrinks _)))) simple_shrinks)

pub statement_shrinks : (d : ℕ) → Shrinks (statement d)
unfolding statement
statement_shrinks zero = stop_shrinks
statement_shrinks (suc d) = statement_by_shrinks (expr d) (expr_shrinks d) (statement d) (statement_shrinks d)

-- ---- declarations

pub variable_shrinks : Shrinks programs.variable
unfolding programs.variable
variable_shrinks = then_shrinks type_shrinks (λ of. then_shrinks (one_shrinks _) (λ n. pure_shrinks _))

pub length_shrinks : Shrinks array_length
unfolding array_length
length_shrinks = either_shrinks (begins (marks mark.OpenBracket)) (then_shrinks (one_shrinks _) (λ _. then_shrinks (one_shrinks _) (λ n. then_shrinks (one_shrinks _) (λ _. pure_shrinks _)))) (pure_shrinks _)

pub member_shrinks : Shrinks programs.member
unfolding programs.member
member_shrinks = then_shrinks variable_shrinks (λ v. then_shrinks length_shrinks (λ l. then_shrinks (one_shrinks _) (λ _. pure_shrinks _)))

pub next_member_shrinks : (all : List CMember) → Shrinks (next_member all)
unfolding next_member
next_member_shrinks all = then_shrinks member_shrinks (λ m. pure_shrinks _)

pub members_shrinks : Shrinks members
unfolding members
members_shrinks =
    then_shrinks (one_shrinks _) (λ _. then_shrinks member_shrinks (λ m. then_shrinks (repeat_shrinks no_brace next_member next_member_shrinks (m ∷ [])) (λ all.
    then_shrinks (one_shrinks _) (λ _. then_shrinks (one_shrinks _) (λ _. pure_shrinks _)))))

pub next_type_shrinks : (all : List ObjectType) → Shrinks (next_type all)
unfolding next_type
next_type_shrinks all = then_shrinks (one_shrinks _) (λ _. then_shrinks type_shrinks (λ of. pure_shrinks _))

pub types_after_shrinks : (o : Option ObjectType) → Shrinks (types_after o)
types_after_shrinks None = pure_shrinks _
types_after_shrinks (Some of) = repeat_shrinks (begins (marks mark.Comma)) next_type next_type_shrinks (of ∷ [])

pub types_shrinks : Shrinks types
unfolding types
types_shrinks = then_shrinks result_shrinks types_after_shrinks

pub pointer_name_shrinks : Shrinks pointer_name
unfolding pointer_name
pointer_name_shrinks = then_shrinks (one_shrinks _) (λ _. then_shrinks (one_shrinks _) (λ _. then_shrinks (one_shrinks _) (λ n. then_shrinks (one_shrinks _) (λ _. pure_shrinks _))))

-- after `typedef`
pub typedef_ends : (a : Unit {0}) → Shrinks {T = Token} (λ s. and_then (result_type s) (λ r s. and_then (pointer_name s) (λ n s. and_then (expect mark.Open s) (λ _ s. and_then (types s) (λ all s.
    and_then (expect mark.Close s) (λ _ s. and_then (expect mark.Semicolon s) (λ _ s. Ok (typedef_of r n all, s))))))))
typedef_ends a =
    then_shrinks result_shrinks (λ r. then_shrinks pointer_name_shrinks (λ n. then_shrinks (one_shrinks _) (λ _. then_shrinks types_shrinks (λ all. then_shrinks (one_shrinks _) (λ _. then_shrinks (one_shrinks _) (λ _. pure_shrinks _))))))

pub typedef_shrinks : Shrinks typedef
unfolding typedef
typedef_shrinks = then_shrinks (one_shrinks _) typedef_ends

pub next_parameter_shrinks : (all : List CVariable) → Shrinks (next_parameter all)
unfolding next_parameter
next_parameter_shrinks all = then_shrinks (one_shrinks _) (λ _. then_shrinks variable_shrinks (λ v. pure_shrinks _))

pub parameters_after_shrinks : (o : Option ObjectType) → Shrinks (parameters_after o)
parameters_after_shrinks None = pure_shrinks _
parameters_after_shrinks (Some of) = then_shrinks (one_shrinks _) (λ n. repeat_shrinks (begins (marks mark.Comma)) next_parameter next_parameter_shrinks _)

pub parameters_shrinks : Shrinks parameters
unfolding parameters
parameters_shrinks = then_shrinks (one_shrinks _) (λ _. then_shrinks result_shrinks (λ r. then_shrinks (parameters_after_shrinks r) (λ all. then_shrinks (one_shrinks _) (λ _. pure_shrinks _))))

pub next_local_shrinks : (all : List CVariable) → Shrinks (next_local all)
unfolding next_local
next_local_shrinks all = then_shrinks variable_shrinks (λ v. then_shrinks (one_shrinks _) (λ _. pure_shrinks _))

pub locals_shrinks : Shrinks locals
unfolding locals
locals_shrinks = repeat_shrinks begins_local next_local next_local_shrinks []

pub block_shrinks : Shrinks block
unfolding block
block_shrinks =
    then_shrinks (one_shrinks _) (λ _. then_shrinks locals_shrinks (λ all. then_shrinks (statements_shrinks (expr 2400) (expr_shrinks 2400) (statement 2400) (statement_shrinks 2400)) (λ body.
    then_shrinks (one_shrinks _) (λ _. pure_shrinks _))))

-- ---- the parts of a program

when_shrinks : {A : Type 0} (b : Bool) {p : Parser Token A} → Shrinks p → Shrinks (when b p)
when_shrinks true h = h
when_shrinks false h = refuse_shrinks

module _ (p : Parts) where
  pub forward_shrinks : (n : List ℕ) → Shrinks (forward p n)
  unfolding forward
  forward_shrinks n = when_shrinks (no_declarations p) (then_shrinks (one_shrinks _) (λ _. pure_shrinks _))

  pub structure_shrinks : (n : List ℕ) → Shrinks (structure p n)
  unfolding structure
  structure_shrinks n = when_shrinks (no_globals p) (then_shrinks members_shrinks (λ all. pure_shrinks _))

  pub type_definition_shrinks : Shrinks (type_definition p)
  unfolding type_definition
  type_definition_shrinks = when_shrinks (no_globals p) (then_shrinks typedef_shrinks (λ t. pure_shrinks _))

  pub global_shrinks : (o : Option ObjectType) (n : List ℕ) → Shrinks (global p o n)
  global_shrinks None n = refuse_shrinks
  global_shrinks (Some of) n = when_shrinks (no_prototypes p) (then_shrinks (one_shrinks _) (λ _. pure_shrinks _))

  pub after_parameters_shrinks : (o : Option ObjectType) (n : List ℕ) (all : List CVariable) → Shrinks (after_parameters p o n all)
  unfolding after_parameters prototype function
  after_parameters_shrinks o n all =
      either_shrinks (begins (marks mark.Semicolon)) (when_shrinks (no_functions p) (then_shrinks (one_shrinks _) (λ _. pure_shrinks _))) (then_shrinks block_shrinks (λ b. pure_shrinks _))

  pub after_name_shrinks : (o : Option ObjectType) (n : List ℕ) → Shrinks (after_name p o n)
  unfolding after_name
  after_name_shrinks o n = either_shrinks (begins (marks mark.Semicolon)) (global_shrinks o n) (then_shrinks parameters_shrinks (after_parameters_shrinks o n))

  pub after_result_shrinks : (o : Option ObjectType) → Shrinks (after_result p o)
  unfolding after_result
  after_result_shrinks o = then_shrinks (one_shrinks _) (after_name_shrinks o)

  pub after_struct_name_shrinks : (n : List ℕ) → Shrinks (after_struct_name p n)
  unfolding after_struct_name
  after_struct_name_shrinks n = either_shrinks (begins (marks mark.Semicolon)) (forward_shrinks n) (either_shrinks (begins (marks mark.OpenBrace)) (structure_shrinks n) (then_shrinks (stars_shrinks _) (λ of. after_result_shrinks (Some of))))

  pub next_part_shrinks : Shrinks (next_part p)
  unfolding next_part after_struct
  next_part_shrinks = either_shrinks (begins (words word.Typedef)) type_definition_shrinks (either_shrinks (begins (words word.Struct)) (then_shrinks (one_shrinks _) (λ _. then_shrinks (one_shrinks _) after_struct_name_shrinks)) (then_shrinks result_shrinks after_result_shrinks))

pub main_shrinks : Shrinks main
unfolding main
main_shrinks =
    then_shrinks (one_shrinks _) (λ _. then_shrinks (one_shrinks _) (λ _. then_shrinks (one_shrinks _) (λ _. then_shrinks (one_shrinks _) (λ _. then_shrinks (one_shrinks _) (λ _. then_shrinks block_shrinks (λ b. pure_shrinks _))))))

pub end_shrinks : {A : Type 0} (a : A) → Shrinks (end_of a)
end_shrinks a n [] h = short a [] h
end_shrinks a n (t ∷ s) h = refuses_short (length (t ∷ s)) h

pub program_shrinks : Shrinks program
unfolding program parts
program_shrinks = then_shrinks (repeat_shrinks no_int next_part next_part_shrinks no_parts) (λ p. then_shrinks main_shrinks (λ m. end_shrinks _))

-- ---- a refused token is one of those that were given, or the end

refused_in : {A : Type 0} {n m : ℕ} (o : Outcome Token A) → Shorter n m o → (k : ℕ) → o ≡ Err (Unexpected k) → k < n
refused_in _ (short a r h) k e = absurd cc
refused_in _ (refuses_short i h) k e = let same : i ≡ k = cc in omega arith
refused_in _ (stops_short i h) k e = absurd cc

stopped_in : {A : Type 0} {n m : ℕ} (o : Outcome Token A) → Shorter n m o → (k : ℕ) → o ≡ Err (TooDeep k) → k < n + m
stopped_in _ (short a r h) k e = absurd cc
stopped_in _ (refuses_short i h) k e = absurd cc
stopped_in _ (stops_short i h) k e = let same : i ≡ k = cc in omega arith

pub unexpected_within : (tokens : List Token) (left : ℕ) → program tokens ≡ Err (Unexpected left) → left ≤ length tokens
unexpected_within tokens left e = let below = refused_in (program tokens) (program_shrinks (suc (length tokens)) tokens (omega arith)) left e in omega arith

pub too_deep_within : (tokens : List Token) (left : ℕ) → program tokens ≡ Err (TooDeep left) → left ≤ length tokens
too_deep_within tokens left e = let below = stopped_in (program tokens) (program_shrinks (suc (length tokens)) tokens (omega arith)) left e in omega arith
