-- The way back from tokens to statements.
use Rattle.std.proofs.Common.{ℕ, zero, suc, Bool, true, false, List, [], ◌∷◌, Option, Some, None}
use Rattle.c_tree.specs.Tree.{ObjectType, Expr, Read, Place, Variable, Pointee, Statement, Assign, Call, Malloc, Free, GetChar, PutChar, If, IfElse, While, Goto, Label, Return, Body, Empty, Then}
use Rattle.c_tree.specs.declared.statement.CCallee.{CCallee}
use Rattle.c_tree.specs.declared.statement.CCallee.TheVariants.{Direct, Indirect}
use Rattle.c_grammar.specs.declared.token.Word.{Word}
use Rattle.c_grammar.specs.declared.token.Word.TheVariants as word
use Rattle.c_grammar.specs.declared.token.Mark.{Mark}
use Rattle.c_grammar.specs.declared.token.Mark.TheVariants as mark
use Rattle.c_grammar.specs.Token.{Token, Identifier, Numeral, Quoted, Sign}
use Rattle.c_grammar.proofs.Reading.{Reader, tail, tail2, name_at, at_mark, at_word, listed, read_type, read_place, read_expr}

abbrev pub is_open : Mark → Bool
is_open mark.Open = true
is_open _ = false

abbrev pub is_close : Mark → Bool
is_close mark.Close = true
is_close _ = false

abbrev pub is_semicolon : Mark → Bool
is_semicolon mark.Semicolon = true
is_semicolon _ = false

abbrev pub is_close_brace : Mark → Bool
is_close_brace mark.CloseBrace = true
is_close_brace _ = false

abbrev pub is_else : Word → Bool
is_else word.Else = true
is_else _ = false

-- which statements begin so
pub data Kind : Type 0 where
  frees : Kind
  puts : Kind
  ifs : Kind
  whiles : Kind
  gotos : Kind
  returns : Kind
  places : Kind

abbrev pub word_kind : Word → Kind
word_kind word.Free = frees
word_kind word.PutChar = puts
word_kind word.If = ifs
word_kind word.While = whiles
word_kind word.Goto = gotos
word_kind word.Return = returns
word_kind _ = places

abbrev pub kind : List Token → Kind
kind [] = places
kind (Sign m ∷ rest) = places
kind (Identifier n ∷ rest) = places
kind (Numeral n ∷ rest) = places
kind (Quoted w ∷ rest) = word_kind w

-- what follows the place with which a statement begins
pub data Next : Type 0 where
  colon : Next
  calls : Next
  assigns : Next

abbrev pub next_of : Mark → Next
next_of mark.Colon = colon
next_of mark.Open = calls
next_of _ = assigns

abbrev pub next : List Token → Next
next [] = assigns
next (Sign m ∷ rest) = next_of m
next (Identifier n ∷ rest) = assigns
next (Numeral n ∷ rest) = assigns
next (Quoted w ∷ rest) = assigns

-- what is assigned
pub data Source : Type 0 where
  from_malloc : Source
  from_input : Source
  from_value : Source

abbrev pub source_of : Word → Source
source_of word.Malloc = from_malloc
source_of word.GetChar = from_input
source_of _ = from_value

abbrev pub source : List Token → Source
source [] = from_value
source (Sign m ∷ rest) = from_value
source (Identifier n ∷ rest) = from_value
source (Numeral n ∷ rest) = from_value
source (Quoted w ∷ rest) = source_of w

abbrev pub place_name : Place → List ℕ
place_name (Variable n) = n
place_name _ = []

abbrev pub place_callee : Place → CCallee
place_callee (Variable n) = Direct n
place_callee (Pointee a) = Indirect a
place_callee _ = Direct []

abbrev pub expr_callee : Expr → CCallee
expr_callee (Read p) = place_callee p
expr_callee _ = Direct []

module _ (x : Reader Expr) (g : ℕ) where
  abbrev pub arguments_by : Bool → Reader (List Expr)
  arguments_by true ts = ([], ts)
  arguments_by false ts = listed x g ts

  abbrev pub arguments : Reader (List Expr)
  arguments ts = arguments_by (at_mark is_close ts) ts

  abbrev pub call_with : Option Place → CCallee → List Expr × List Token → Statement × List Token
  call_with into callee all = (Call into callee all.0, tail2 all.1)

  abbrev pub malloc_with : Place → ObjectType × List Token → Statement × List Token
  malloc_with p of = (Malloc p of.0, tail2 (tail of.1))

  abbrev pub value_by : Place → Bool → Expr → Reader Statement
  value_by p true a ts = call_with (Some p) (expr_callee a) (arguments (tail ts))
  value_by p false a ts = (Assign p a, tail ts)

  abbrev pub value_with : Place → Expr × List Token → Statement × List Token
  value_with p a = value_by p (at_mark is_open a.1) a.0 a.1

  abbrev pub assigned : Place → Source → Reader Statement
  assigned p from_malloc ts = malloc_with p (read_type (tail2 (tail2 ts)))
  assigned p from_input ts = (GetChar p, tail2 (tail2 ts))
  assigned p from_value ts = value_with p (x ts)

  abbrev pub after_place : Place → Next → Reader Statement
  after_place p colon ts = (Label (place_name p), tail2 ts)
  after_place p calls ts = call_with None (place_callee p) (arguments (tail ts))
  after_place p assigns ts = assigned p (source (tail ts)) (tail ts)

  abbrev pub place_with : Place × List Token → Statement × List Token
  place_with p = after_place p.0 (next p.1) p.1

  abbrev pub free_with : Expr × List Token → Statement × List Token
  free_with a = (Free a.0, tail2 a.1)

  abbrev pub put_with : Expr × List Token → Statement × List Token
  put_with a = (PutChar a.0, tail2 a.1)

  abbrev pub return_with : Expr × List Token → Statement × List Token
  return_with a = (Return (Some a.0), tail a.1)

  abbrev pub return_by : Bool → Reader Statement
  return_by true ts = (Return None, tail ts)
  return_by false ts = return_with (x ts)

  abbrev pub while_of : Expr → Body × List Token → Statement × List Token
  while_of a b = (While a b.0, tail b.1)

  abbrev pub while_with : Reader Body → Expr × List Token → Statement × List Token
  while_with body a = while_of a.0 (body (tail2 a.1))

  abbrev pub else_of : Expr → Body → Body × List Token → Statement × List Token
  else_of a b c = (IfElse a b c.0, tail c.1)

  abbrev pub if_by : Reader Body → Expr → Body → Bool → Reader Statement
  if_by body a b true ts = else_of a b (body (tail2 ts))
  if_by body a b false ts = (If a b, ts)

  abbrev pub if_of : Reader Body → Expr → Body × List Token → Statement × List Token
  if_of body a b = if_by body a b.0 (at_word is_else (tail b.1)) (tail b.1)

  abbrev pub if_with : Reader Body → Expr × List Token → Statement × List Token
  if_with body a = if_of body a.0 (body (tail2 a.1))

  abbrev pub statement_by : Reader Body → Kind → Reader Statement
  statement_by body frees ts = free_with (x (tail2 ts))
  statement_by body puts ts = put_with (x (tail2 ts))
  statement_by body ifs ts = if_with body (x (tail2 ts))
  statement_by body whiles ts = while_with body (x (tail2 ts))
  statement_by body gotos ts = (Goto (name_at (tail ts)), tail2 (tail ts))
  statement_by body returns ts = return_by (at_mark is_semicolon (tail ts)) (tail ts)
  statement_by body places ts = place_with (read_place x g ts)

abbrev pub then_of : Statement → Body × List Token → Body × List Token
then_of s b = (Then s b.0, b.1)

abbrev pub body_with : Reader Body → Statement × List Token → Body × List Token
body_with more s = then_of s.0 (more s.1)

abbrev pub body_by : Reader Body → Reader Statement → Bool → Reader Body
body_by more s true ts = (Empty, ts)
body_by more s false ts = body_with more (s ts)

unfoldable pub read_body : Reader Statement → ℕ → Reader Body
read_body s zero ts = (Empty, ts)
read_body s (suc f) ts = body_by (read_body s f) s (at_mark is_close_brace ts) ts

unfoldable pub read_statement : (g n : ℕ) → Reader Statement
read_statement g zero ts = (Return None, ts)
read_statement g (suc n) ts = statement_by (read_expr g g) g (read_body (read_statement g n) g) (kind ts) ts
