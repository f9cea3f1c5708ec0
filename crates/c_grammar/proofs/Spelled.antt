-- What is spelled before other tokens is what is spelled alone, and then those.
use Rattle.std.proofs.Common.{◌≡◌, ◌+◌, List, [], ◌∷◌, ◌++◌, length, Option, Some, None, refl, ◌∙◌, ap, length-append}
use Rattle.c_tree.specs.Tree.{Int, Word, Byte, Struct, Named, VoidPointer, Pointer, Expr, Read, Number, WordNumber, Null, Address, Unary, Binary, Cast, Place, Variable, Pointee, Member, Index, Statement, Assign, Call, Malloc, Free, GetChar, PutChar, If, IfElse, While, Goto, Label, Return, Body, Empty, Then}
use Rattle.c_tree.specs.declared.operators.CCast.TheVariants as cast
use Rattle.c_tree.specs.declared.statement.CCallee.{CCallee}
use Rattle.c_tree.specs.declared.statement.CCallee.TheVariants.{Direct, Indirect}
use Rattle.c_grammar.specs.declared.token.Word.{Word as QuotedWord}
use Rattle.c_grammar.specs.declared.token.Word.TheVariants as word
use Rattle.c_grammar.specs.declared.token.Mark.{Mark}
use Rattle.c_grammar.specs.declared.token.Mark.TheVariants as mark
use Rattle.c_grammar.specs.Token.{Token, Identifier, Quoted, Sign}
use Rattle.c_grammar.specs.Spelling.{Spelling, count, spell_all, spell_next, spell_listed, spell_type, spell_cast, unary_mark, binary_mark, spell_expr, spell_place, spell_into, spell_callee, spell_value, spell_statement, spell_body}

-- the tokens after it only follow
abbrev pub Follow : {A : Type 0} → Spelling A → Type 0
Follow {A} spell = (a : A) (u v : List Token) → spell a (u ++ v) ≡ spell a u ++ v

pub count_more : {A : Type 0} (spell : Spelling A) → Follow spell → (a : A) (rest : List Token) → length (spell a rest) ≡ count spell a + length rest
count_more spell follow a rest = ap length (follow a [] rest) ∙ length-append (spell a []) rest

pub all_follow : {A : Type 0} (spell : Spelling A) → Follow spell → Follow (spell_all spell)
all_follow spell follow [] u v = refl
all_follow spell follow (a ∷ more) u v = ap (spell a) (all_follow spell follow more u v) ∙ follow a (spell_all spell more u) v

pub next_follow : {A : Type 0} (spell : Spelling A) → Follow spell → Follow (spell_next spell)
next_follow spell follow a u v = ap (λ l. Sign mark.Comma ∷ l) (follow a u v)

pub listed_follow : {A : Type 0} (spell : Spelling A) → Follow spell → Follow (spell_listed spell)
listed_follow spell follow [] u v = refl
listed_follow spell follow (a ∷ more) u v = ap (spell a) (all_follow (spell_next spell) (next_follow spell follow) more u v) ∙ follow a (spell_all (spell_next spell) more u) v

pub type_follow : Follow spell_type
type_follow Int u v = refl
type_follow Word u v = refl
type_follow Byte u v = refl
type_follow (Struct n) u v = refl
type_follow (Named n) u v = refl
type_follow VoidPointer u v = refl
type_follow (Pointer of) u v = type_follow of (Sign mark.Star ∷ u) v

pub cast_follow : Follow spell_cast
cast_follow cast.Int u v = refl
cast_follow cast.Word u v = refl
cast_follow cast.VoidPointer u v = refl
cast_follow (cast.StructPointer n) u v = refl

abbrev opened : List Token → List Token
opened l = Sign mark.Open ∷ l

abbrev closed : List Token → List Token
closed l = Sign mark.Close ∷ l

abbrev marked : Mark → List Token → List Token
marked m l = Sign m ∷ l

mutual
  pub expr_follow : (e : Expr) (u v : List Token) → spell_expr e (u ++ v) ≡ spell_expr e u ++ v
  expr_follow (Read p) u v = place_follow p u v
  expr_follow (Number n) u v = refl
  expr_follow (WordNumber n) u v = refl
  expr_follow Null u v = refl
  expr_follow (Address p) u v = ap (λ l. opened (marked mark.Ampersand l)) (place_follow p (closed u) v)
  expr_follow (Unary op a) u v = ap (λ l. opened (marked (unary_mark op) l)) (expr_follow a (closed u) v)
  expr_follow (Binary op a b) u v =
      ap (λ l. opened (spell_expr a (marked (binary_mark op) l))) (expr_follow b (closed u) v) ∙ ap opened (expr_follow a (marked (binary_mark op) (spell_expr b (closed u))) v)
  expr_follow (Cast to a) u v =
      ap (λ l. opened (opened (spell_cast to (closed l)))) (expr_follow a (closed u) v) ∙ ap (λ l. opened (opened l)) (cast_follow to (closed (spell_expr a (closed u))) v)

  pub place_follow : (p : Place) (u v : List Token) → spell_place p (u ++ v) ≡ spell_place p u ++ v
  place_follow (Variable n) u v = refl
  place_follow (Pointee a) u v = ap (λ l. opened (marked mark.Star l)) (expr_follow a (closed u) v)
  place_follow (Member p n) u v = place_follow p (Sign mark.Dot ∷ Identifier n ∷ u) v
  place_follow (Index p a) u v =
      ap (λ l. spell_place p (marked mark.OpenBracket l)) (expr_follow a (marked mark.CloseBracket u) v) ∙ place_follow p (marked mark.OpenBracket (spell_expr a (marked mark.CloseBracket u))) v

-- ---- statements

pub into_follow : Follow spell_into
into_follow None u v = refl
into_follow (Some p) u v = place_follow p (marked mark.Assign u) v

pub callee_follow : Follow spell_callee
callee_follow (Direct n) u v = refl
callee_follow (Indirect a) u v = ap (λ l. opened (marked mark.Star l)) (expr_follow a (closed u) v)

pub value_follow : Follow spell_value
value_follow None u v = refl
value_follow (Some a) u v = expr_follow a u v

abbrev ended : List Token → List Token
ended l = Sign mark.Semicolon ∷ l

abbrev braced : List Token → List Token
braced l = Sign mark.OpenBrace ∷ l

abbrev unbraced : List Token → List Token
unbraced l = Sign mark.CloseBrace ∷ l

abbrev worded : QuotedWord → List Token → List Token
worded w l = Quoted w ∷ l

call_follow : (into : Option Place) (callee : CCallee) (all : List Expr) (u v : List Token) → spell_statement (Call into callee all) (u ++ v) ≡ spell_statement (Call into callee all) u ++ v
call_follow into callee all u v =
    let rest = spell_listed spell_expr all (closed (ended u)) in
    ap (λ l. spell_into into (spell_callee callee (opened l))) (listed_follow spell_expr expr_follow all (closed (ended u)) v)
    ∙ ap (spell_into into) (callee_follow callee (opened rest) v) ∙ into_follow into (spell_callee callee (opened rest)) v

mutual
  pub statement_follow : (s : Statement) (u v : List Token) → spell_statement s (u ++ v) ≡ spell_statement s u ++ v
  statement_follow (Assign p a) u v = ap (λ l. spell_place p (marked mark.Assign l)) (expr_follow a (ended u) v) ∙ place_follow p (marked mark.Assign (spell_expr a (ended u))) v
  statement_follow (Call into callee all) u v = call_follow into callee all u v
  statement_follow (Malloc p of) u v =
      let before : List Token → List Token = λ l. marked mark.Assign (worded word.Malloc (opened (worded word.SizeOf (opened l)))) in
      ap (λ l. spell_place p (before l)) (type_follow of (closed (closed (ended u))) v) ∙ place_follow p (before (spell_type of (closed (closed (ended u))))) v
  statement_follow (Free a) u v = ap (λ l. worded word.Free (opened l)) (expr_follow a (closed (ended u)) v)
  statement_follow (GetChar p) u v = place_follow p (marked mark.Assign (worded word.GetChar (opened (closed (ended u))))) v
  statement_follow (PutChar a) u v = ap (λ l. worded word.PutChar (opened l)) (expr_follow a (closed (ended u)) v)
  statement_follow (If test a) u v =
      ap (λ l. worded word.If (opened (spell_expr test (closed (braced l))))) (body_follow a (unbraced u) v)
      ∙ ap (λ l. worded word.If (opened l)) (expr_follow test (closed (braced (spell_body a (unbraced u)))) v)
  statement_follow (IfElse test a b) u v =
      let second = unbraced (worded word.Else (braced (spell_body b (unbraced u)))) in
      ap (λ l. worded word.If (opened (spell_expr test (closed (braced (spell_body a (unbraced (worded word.Else (braced l))))))))) (body_follow b (unbraced u) v)
      ∙ ap (λ l. worded word.If (opened (spell_expr test (closed (braced l))))) (body_follow a second v)
      ∙ ap (λ l. worded word.If (opened l)) (expr_follow test (closed (braced (spell_body a second))) v)
  statement_follow (While test a) u v =
      ap (λ l. worded word.While (opened (spell_expr test (closed (braced l))))) (body_follow a (unbraced u) v)
      ∙ ap (λ l. worded word.While (opened l)) (expr_follow test (closed (braced (spell_body a (unbraced u)))) v)
  statement_follow (Goto l) u v = refl
  statement_follow (Label l) u v = refl
  statement_follow (Return a) u v = ap (worded word.Return) (value_follow a (ended u) v)

  pub body_follow : (b : Body) (u v : List Token) → spell_body b (u ++ v) ≡ spell_body b u ++ v
  body_follow Empty u v = refl
  body_follow (Then s more) u v = ap (spell_statement s) (body_follow more u v) ∙ statement_follow s (spell_body more u) v
