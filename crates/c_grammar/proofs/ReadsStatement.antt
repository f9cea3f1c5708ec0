-- A statement is read back from the tokens that it spells.
use Rattle.std.proofs.Common.{◌≡◌, ℕ, zero, suc, ◌+◌, ◌≤◌, false, List, [], ◌∷◌, Option, Some, None, refl, ◌∙◌, ap, arith}
use Rattle.c_tree.specs.Tree.{Expr, Read, Number, WordNumber, Null, Address, Unary, Binary, Cast, Place, Variable, Pointee, Member, Index, Statement, Assign, Call, Malloc, Free, GetChar, PutChar, If, IfElse, While, Goto, Label, Return, Body, Empty, Then}
use Rattle.c_tree.specs.declared.statement.CCallee.{CCallee}
use Rattle.c_tree.specs.declared.statement.CCallee.TheVariants.{Direct, Indirect}
use Rattle.c_grammar.specs.declared.token.Word.TheVariants as word
use Rattle.c_grammar.specs.declared.token.Mark.TheVariants as mark
use Rattle.c_grammar.specs.Token.{Token, Quoted, Sign}
use Rattle.c_grammar.specs.Spelling.{spell_type, spell_expr, spell_place, spell_listed, spell_callee, spell_value, spell_statement, spell_body}
use Rattle.c_grammar.proofs.Reading.{Reader, at_mark, at_word, stars, read_expr}
use Rattle.c_grammar.proofs.ReadingStatement.{is_close, is_semicolon, is_close_brace, is_else, kind, places, next, source, from_value, place_callee, arguments_by, arguments, call_with, malloc_with, value_with, assigned, after_place, place_with, free_with, put_with, return_with, return_by, while_of, while_with, else_of, if_by, if_of, if_with, statement_by, then_of, body_with, body_by, read_body, read_statement}
use Rattle.c_grammar.proofs.ReadsExpr.{Stops, type_read, expr_need, place_need, expr_read, place_whole}
use Rattle.c_grammar.proofs.ReadsList.{list_need, listed_read}

-- ---- what comes first

place_kind : (p : Place) (rest : List Token) → kind (spell_place p rest) ≡ places
place_kind (Variable n) rest = refl
place_kind (Pointee a) rest = refl
place_kind (Member p n) rest = place_kind p _
place_kind (Index p a) rest = place_kind p _

place_source : (p : Place) (rest : List Token) → source (spell_place p rest) ≡ from_value
place_source (Variable n) rest = refl
place_source (Pointee a) rest = refl
place_source (Member p n) rest = place_source p _
place_source (Index p a) rest = place_source p _

expr_source : (e : Expr) (rest : List Token) → source (spell_expr e rest) ≡ from_value
expr_source (Read p) rest = place_source p rest
expr_source (Number n) rest = refl
expr_source (WordNumber n) rest = refl
expr_source Null rest = refl
expr_source (Address p) rest = refl
expr_source (Unary op a) rest = refl
expr_source (Binary op a b) rest = refl
expr_source (Cast to a) rest = refl

place_close : (p : Place) (rest : List Token) → at_mark is_close (spell_place p rest) ≡ false
place_close (Variable n) rest = refl
place_close (Pointee a) rest = refl
place_close (Member p n) rest = place_close p _
place_close (Index p a) rest = place_close p _

expr_close : (e : Expr) (rest : List Token) → at_mark is_close (spell_expr e rest) ≡ false
expr_close (Read p) rest = place_close p rest
expr_close (Number n) rest = refl
expr_close (WordNumber n) rest = refl
expr_close Null rest = refl
expr_close (Address p) rest = refl
expr_close (Unary op a) rest = refl
expr_close (Binary op a b) rest = refl
expr_close (Cast to a) rest = refl

place_semicolon : (p : Place) (rest : List Token) → at_mark is_semicolon (spell_place p rest) ≡ false
place_semicolon (Variable n) rest = refl
place_semicolon (Pointee a) rest = refl
place_semicolon (Member p n) rest = place_semicolon p _
place_semicolon (Index p a) rest = place_semicolon p _

expr_semicolon : (e : Expr) (rest : List Token) → at_mark is_semicolon (spell_expr e rest) ≡ false
expr_semicolon (Read p) rest = place_semicolon p rest
expr_semicolon (Number n) rest = refl
expr_semicolon (WordNumber n) rest = refl
expr_semicolon Null rest = refl
expr_semicolon (Address p) rest = refl
expr_semicolon (Unary op a) rest = refl
expr_semicolon (Binary op a b) rest = refl
expr_semicolon (Cast to a) rest = refl

-- a statement begins with no closing brace and no `else`
pub record Begun (ts : List Token) : Type 0 where
  pub brace : at_mark is_close_brace ts ≡ false
  pub other : at_word is_else ts ≡ false

place_begun : (p : Place) (rest : List Token) → Begun (spell_place p rest)
place_begun (Variable n) rest = record { brace = refl; other = refl }
place_begun (Pointee a) rest = record { brace = refl; other = refl }
place_begun (Member p n) rest = place_begun p _
place_begun (Index p a) rest = place_begun p _

callee_begun : (c : CCallee) (rest : List Token) → Begun (spell_callee c rest)
callee_begun (Direct n) rest = record { brace = refl; other = refl }
callee_begun (Indirect a) rest = record { brace = refl; other = refl }

pub statement_begun : (s : Statement) (rest : List Token) → Begun (spell_statement s rest)
statement_begun (Assign p a) rest = place_begun p _
statement_begun (Call None c all) rest = callee_begun c _
statement_begun (Call (Some p) c all) rest = place_begun p _
statement_begun (Malloc p of) rest = place_begun p _
statement_begun (Free a) rest = record { brace = refl; other = refl }
statement_begun (GetChar p) rest = place_begun p _
statement_begun (PutChar a) rest = record { brace = refl; other = refl }
statement_begun (If test a) rest = record { brace = refl; other = refl }
statement_begun (IfElse test a b) rest = record { brace = refl; other = refl }
statement_begun (While test a) rest = record { brace = refl; other = refl }
statement_begun (Goto l) rest = record { brace = refl; other = refl }
statement_begun (Label l) rest = record { brace = refl; other = refl }
statement_begun (Return a) rest = record { brace = refl; other = refl }

body_other : (b : Body) (rest : List Token) → at_word is_else (spell_body b (Sign mark.CloseBrace ∷ rest)) ≡ false
body_other Empty rest = refl
body_other (Then s more) rest = let b = statement_begun s (spell_body more (Sign mark.CloseBrace ∷ rest)) in b.other

-- ---- how much is needed

abbrev pub into_need : Option Place → ℕ
into_need None = 0
into_need (Some p) = place_need p

abbrev pub callee_need : CCallee → ℕ
callee_need (Direct n) = 1
callee_need (Indirect a) = suc (expr_need a)

abbrev pub value_need : Option Expr → ℕ
value_need None = 0
value_need (Some a) = expr_need a

abbrev mutual
  pub statement_need : Statement → ℕ
  statement_need (Assign p a) = suc (place_need p + expr_need a)
  statement_need (Call into c all) = suc (into_need into + callee_need c + list_need expr_need all)
  statement_need (Malloc p of) = suc (place_need p)
  statement_need (Free a) = suc (expr_need a)
  statement_need (GetChar p) = suc (place_need p)
  statement_need (PutChar a) = suc (expr_need a)
  statement_need (If test a) = suc (expr_need test + body_need a)
  statement_need (IfElse test a b) = suc (expr_need test + body_need a + body_need b)
  statement_need (While test a) = suc (expr_need test + body_need a)
  statement_need (Goto l) = 1
  statement_need (Label l) = 1
  statement_need (Return a) = suc (value_need a)

  pub body_need : Body → ℕ
  body_need Empty = 0
  body_need (Then s more) = suc (statement_need s + body_need more)

some_needed : (s : Statement) → statement_need s ≤ 0 → ⊥
some_needed (Assign p a) h = grind arith
some_needed (Call into c all) h = grind arith
some_needed (Malloc p of) h = grind arith
some_needed (Free a) h = grind arith
some_needed (GetChar p) h = grind arith
some_needed (PutChar a) h = grind arith
some_needed (If test a) h = grind arith
some_needed (IfElse test a b) h = grind arith
some_needed (While test a) h = grind arith
some_needed (Goto l) h = grind arith
some_needed (Label l) h = grind arith
some_needed (Return a) h = grind arith

-- ---- reading back

arguments_read : (all : List Expr) (g : ℕ) (rest : List Token) → list_need expr_need all ≤ g → arguments (read_expr g g) g (spell_listed spell_expr all (Sign mark.Close ∷ rest)) ≡ (all, Sign mark.Close ∷ rest)
arguments_read [] g rest h = refl
arguments_read (a ∷ more) g rest h =
    ap (λ b. arguments_by (read_expr g g) g b (spell_listed spell_expr (a ∷ more) (Sign mark.Close ∷ rest))) (expr_close a _)
    ∙ listed_read spell_expr (read_expr g g) Stops expr_need g (λ e rest n s. expr_read e g g rest n n s) (λ rest. refl) a more (Sign mark.Close ∷ rest) h refl refl

-- a callee is spelled as the place or expression that it is
abbrev callee_place : CCallee → Place
callee_place (Direct n) = Variable n
callee_place (Indirect a) = Pointee a

callee_spelled : (c : CCallee) (rest : List Token) → spell_callee c rest ≡ spell_place (callee_place c) rest
callee_spelled (Direct n) rest = refl
callee_spelled (Indirect a) rest = refl

callee_is : (c : CCallee) → place_callee (callee_place c) ≡ c
callee_is (Direct n) = refl
callee_is (Indirect a) = refl

callee_needed : (c : CCallee) → suc (place_need (callee_place c)) ≤ callee_need c
callee_needed (Direct n) = omega arith
callee_needed (Indirect a) = omega arith

-- after a place with which the statement begins
begin_place : (g : ℕ) (body : Reader Body) (p : Place) (rest : List Token) → place_need p ≤ g → Stops rest
    → statement_by (read_expr g g) g body (kind (spell_place p rest)) (spell_place p rest) ≡ after_place (read_expr g g) g p (next rest) rest
begin_place g body p rest h s =
    ap (λ k. statement_by (read_expr g g) g body k (spell_place p rest)) (place_kind p rest)
    ∙ ap (place_with (read_expr g g) g) (place_whole p g g rest h h s)

call_read : (g : ℕ) (into : Option Place) (c : CCallee) (all : List Expr) (rest : List Token) → list_need expr_need all ≤ g
    → call_with (read_expr g g) g into c (arguments (read_expr g g) g (spell_listed spell_expr all (Sign mark.Close ∷ Sign mark.Semicolon ∷ rest))) ≡ (Call into c all, rest)
call_read g into c all rest h = ap (call_with (read_expr g g) g into c) (arguments_read all g (Sign mark.Semicolon ∷ rest) h)

plain_call : (g : ℕ) (body : Reader Body) (c : CCallee) (all : List Expr) (rest : List Token) → callee_need c ≤ g → list_need expr_need all ≤ g
    → statement_by (read_expr g g) g body (kind (spell_statement (Call None c all) rest)) (spell_statement (Call None c all) rest) ≡ (Call None c all, rest)
plain_call g body c all rest h k =
    let after = Sign mark.Open ∷ spell_listed spell_expr all (Sign mark.Close ∷ Sign mark.Semicolon ∷ rest) in
    ap (λ ts. statement_by (read_expr g g) g body (kind ts) ts) (callee_spelled c after)
    ∙ begin_place g body (callee_place c) after (omega (arith, callee_needed c)) refl
    ∙ call_read g None (place_callee (callee_place c)) all rest k
    ∙ ap (λ d. (Call None d all, rest)) (callee_is c)

-- a value that is no call
value_read : (g : ℕ) (p : Place) (a : Expr) (rest : List Token) → expr_need a ≤ g
    → assigned (read_expr g g) g p (source (spell_expr a (Sign mark.Semicolon ∷ rest))) (spell_expr a (Sign mark.Semicolon ∷ rest)) ≡ (Assign p a, rest)
value_read g p a rest h =
    ap (λ k. assigned (read_expr g g) g p k (spell_expr a (Sign mark.Semicolon ∷ rest))) (expr_source a _)
    ∙ ap (value_with (read_expr g g) g p) (expr_read a g g (Sign mark.Semicolon ∷ rest) h h refl)

-- a call with a place for its answer
answer_read : (g : ℕ) (p : Place) (c : CCallee) (all : List Expr) (rest : List Token) → callee_need c ≤ g → list_need expr_need all ≤ g
    → let value = spell_callee c (Sign mark.Open ∷ spell_listed spell_expr all (Sign mark.Close ∷ Sign mark.Semicolon ∷ rest)) in
    assigned (read_expr g g) g p (source value) value ≡ (Call (Some p) c all, rest)
answer_read g p c all rest h k =
    let after = Sign mark.Open ∷ spell_listed spell_expr all (Sign mark.Close ∷ Sign mark.Semicolon ∷ rest) in
    let e = Read (callee_place c) in
    ap (λ ts. assigned (read_expr g g) g p (source ts) ts) (callee_spelled c after)
    ∙ ap (λ s. assigned (read_expr g g) g p s (spell_expr e after)) (expr_source e after)
    ∙ ap (value_with (read_expr g g) g p) (expr_read e g g after (omega (arith, callee_needed c)) (omega (arith, callee_needed c)) refl)
    ∙ call_read g (Some p) (place_callee (callee_place c)) all rest k
    ∙ ap (λ d. (Call (Some p) d all, rest)) (callee_is c)

return_read : (g : ℕ) (a : Option Expr) (rest : List Token) → value_need a ≤ g
    → return_by (read_expr g g) g (at_mark is_semicolon (spell_value a (Sign mark.Semicolon ∷ rest))) (spell_value a (Sign mark.Semicolon ∷ rest)) ≡ (Return a, rest)
return_read g None rest h = refl
return_read g (Some a) rest h =
    ap (λ b. return_by (read_expr g g) g b (spell_expr a (Sign mark.Semicolon ∷ rest))) (expr_semicolon a _)
    ∙ ap (return_with (read_expr g g) g) (expr_read a g g (Sign mark.Semicolon ∷ rest) h h refl)

mutual
  unfolding read_statement read_body stars

  pub statement_read : (s : Statement) (g n : ℕ) (rest : List Token) → statement_need s ≤ g → statement_need s ≤ n → at_word is_else rest ≡ false
      → read_statement g n (spell_statement s rest) ≡ (s, rest)
  statement_read s g zero rest h k f = absurd (some_needed s k)
  statement_read (Assign p a) g (suc n) rest h k f =
      begin_place g (read_body (read_statement g n) g) p (Sign mark.Assign ∷ spell_expr a (Sign mark.Semicolon ∷ rest)) (omega arith) refl ∙ value_read g p a rest (omega arith)
  statement_read (Call None c all) g (suc n) rest h k f = plain_call g (read_body (read_statement g n) g) c all rest (omega arith) (omega arith)
  statement_read (Call (Some p) c all) g (suc n) rest h k f =
      begin_place g (read_body (read_statement g n) g) p (Sign mark.Assign ∷ spell_callee c (Sign mark.Open ∷ spell_listed spell_expr all (Sign mark.Close ∷ Sign mark.Semicolon ∷ rest))) (omega arith) refl
      ∙ answer_read g p c all rest (omega arith) (omega arith)
  statement_read (Malloc p of) g (suc n) rest h k f =
      begin_place g (read_body (read_statement g n) g) p (Sign mark.Assign ∷ Quoted word.Malloc ∷ Sign mark.Open ∷ Quoted word.SizeOf ∷ Sign mark.Open
      ∷ spell_type of (Sign mark.Close ∷ Sign mark.Close ∷ Sign mark.Semicolon ∷ rest)) (omega arith) refl
      ∙ ap (malloc_with (read_expr g g) g p) (type_read of (Sign mark.Close ∷ Sign mark.Close ∷ Sign mark.Semicolon ∷ rest))
  statement_read (Free a) g (suc n) rest h k f = ap (free_with (read_expr g g) g) (expr_read a g g (Sign mark.Close ∷ Sign mark.Semicolon ∷ rest) (omega arith) (omega arith) refl)
  statement_read (GetChar p) g (suc n) rest h k f =
      begin_place g (read_body (read_statement g n) g) p (Sign mark.Assign ∷ Quoted word.GetChar ∷ Sign mark.Open ∷ Sign mark.Close ∷ Sign mark.Semicolon ∷ rest) (omega arith) refl
  statement_read (PutChar a) g (suc n) rest h k f = ap (put_with (read_expr g g) g) (expr_read a g g (Sign mark.Close ∷ Sign mark.Semicolon ∷ rest) (omega arith) (omega arith) refl)
  statement_read (If test a) g (suc n) rest h k f =
      let body = read_body (read_statement g n) g in
      ap (if_with (read_expr g g) g body) (expr_read test g g (Sign mark.Close ∷ Sign mark.OpenBrace ∷ spell_body a (Sign mark.CloseBrace ∷ rest)) (omega arith) (omega arith) refl)
      ∙ ap (if_of (read_expr g g) g body test) (body_read a g n g rest (omega arith) (omega arith) (omega arith))
      ∙ ap (λ b. if_by (read_expr g g) g body test a b rest) f
  statement_read (IfElse test a b) g (suc n) rest h k f =
      let body = read_body (read_statement g n) g in
      let second = Quoted word.Else ∷ Sign mark.OpenBrace ∷ spell_body b (Sign mark.CloseBrace ∷ rest) in
      ap (if_with (read_expr g g) g body) (expr_read test g g (Sign mark.Close ∷ Sign mark.OpenBrace ∷ spell_body a (Sign mark.CloseBrace ∷ second)) (omega arith) (omega arith) refl)
      ∙ ap (if_of (read_expr g g) g body test) (body_read a g n g second (omega arith) (omega arith) (omega arith))
      ∙ ap (else_of (read_expr g g) g test a) (body_read b g n g rest (omega arith) (omega arith) (omega arith))
  statement_read (While test a) g (suc n) rest h k f =
      let body = read_body (read_statement g n) g in
      ap (while_with (read_expr g g) g body) (expr_read test g g (Sign mark.Close ∷ Sign mark.OpenBrace ∷ spell_body a (Sign mark.CloseBrace ∷ rest)) (omega arith) (omega arith) refl)
      ∙ ap (while_of (read_expr g g) g test) (body_read a g n g rest (omega arith) (omega arith) (omega arith))
  statement_read (Goto l) g (suc n) rest h k f = refl
  statement_read (Label l) g (suc n) rest h k f = begin_place g (read_body (read_statement g n) g) (Variable l) (Sign mark.Colon ∷ Sign mark.Semicolon ∷ rest) (omega arith) refl
  statement_read (Return a) g (suc n) rest h k f = return_read g a rest (omega arith)

  pub body_read : (b : Body) (g n f : ℕ) (rest : List Token) → body_need b ≤ g → body_need b ≤ n → body_need b ≤ f
      → read_body (read_statement g n) f (spell_body b (Sign mark.CloseBrace ∷ rest)) ≡ (b, Sign mark.CloseBrace ∷ rest)
  body_read Empty g n zero rest h k i = refl
  body_read Empty g n (suc f) rest h k i = refl
  body_read (Then s more) g n zero rest h k i = absurd (grind arith)
  body_read (Then s more) g n (suc f) rest h k i =
      let after = spell_body more (Sign mark.CloseBrace ∷ rest) in let begun = statement_begun s after in
      ap (λ b. body_by (read_body (read_statement g n) f) (read_statement g n) b (spell_statement s after)) begun.brace
      ∙ ap (body_with (read_body (read_statement g n) f)) (statement_read s g n after (omega arith) (omega arith) (body_other more rest))
      ∙ ap (then_of s) (body_read more g n f rest (omega arith) (omega arith) (omega arith))
