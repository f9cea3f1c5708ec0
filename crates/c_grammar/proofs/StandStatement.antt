-- The demands of types, expressions and statements stand at the tokens of which they speak.
use Rattle.std.proofs.Common.{◌≡◌, ℕ, suc, ◌+◌, List, ◌∷◌, ◌++◌, Option, Some, None, refl, arith}
use Rattle.std.specs.Prelude.{slice_get}
use Rattle.c_tree.specs.Tree.{ObjectType, Int, Word, Byte, Struct, Named, VoidPointer, Pointer, Expr, Read, Number, WordNumber, Null, Address, Unary, Binary, Cast, Place, Variable, Pointee, Member, Index, Statement, Assign, Call, Malloc, Free, GetChar, PutChar, If, IfElse, While, Goto, Label, Return, Body, Empty, Then}
use Rattle.c_tree.specs.declared.operators.CCast.{CCast}
use Rattle.c_tree.specs.declared.operators.CCast.TheVariants as cast
use Rattle.c_tree.specs.declared.statement.CCallee.{CCallee}
use Rattle.c_tree.specs.declared.statement.CCallee.TheVariants.{Direct, Indirect}
use Rattle.c_grammar.specs.declared.token.Word.TheVariants as word
use Rattle.c_grammar.specs.declared.token.Mark.TheVariants as mark
use Rattle.c_grammar.specs.Token.{Token, Identifier, Quoted, Sign}
use Rattle.c_grammar.specs.Types.{Known}
use Rattle.c_grammar.specs.Spelling.{count, binary_mark, spell_listed, spell_type, spell_cast, spell_expr, spell_place, spell_into, spell_callee, spell_value, spell_statement, spell_body}
use Rattle.c_grammar.specs.Demands.{Names, Level, Demands, after, listed_demands, same, pointed_demands, type_demands, cast_demands, expr_demands, place_demands, into_demands, callee_demands, value_demands, own_labels, labels_in, labels_of, statement_demands, body_demands}
use Rattle.c_grammar.proofs.Spelled.{cast_follow, expr_follow, place_follow, into_follow, callee_follow, statement_follow, body_follow}
use Rattle.c_grammar.proofs.Stand.{Stand, here, one, over, stand_later, stand_both, listed_stand}

pointed_stand : (k : Known) (of : ObjectType) (rest : List Token) → Stand (spell_type of rest) (pointed_demands k of)
pointed_stand k Int rest = tt
pointed_stand k Word rest = tt
pointed_stand k Byte rest = tt
pointed_stand k (Struct n) rest = ((Identifier n, refl, refl), tt)
pointed_stand k (Named n) rest = ((Identifier n, refl, refl), tt)
pointed_stand k VoidPointer rest = tt
pointed_stand k (Pointer of) rest = pointed_stand k of (Sign mark.Star ∷ rest)

pub type_stand : (k : Known) (of : ObjectType) (rest : List Token) → Stand (spell_type of rest) (type_demands k of)
type_stand k Int rest = tt
type_stand k Word rest = tt
type_stand k Byte rest = tt
type_stand k (Struct n) rest = ((Identifier n, refl, refl), tt)
type_stand k (Named n) rest = ((Identifier n, refl, refl), tt)
type_stand k VoidPointer rest = tt
type_stand k (Pointer of) rest = pointed_stand k of (Sign mark.Star ∷ rest)

cast_stand : (k : Known) (to : CCast) (rest : List Token) → Stand (spell_cast to rest) (cast_demands k to)
cast_stand k cast.Int rest = tt
cast_stand k cast.Word rest = tt
cast_stand k cast.VoidPointer rest = tt
cast_stand k (cast.StructPointer n) rest = ((Identifier n, refl, refl), tt)

-- ---- expressions

abbrev Starts : List Token → Type 0
Starts ts = (t : Token) × (slice_get ts 0 ≡ Some t)

place_starts : (p : Place) (rest : List Token) → Starts (spell_place p rest)
place_starts (Variable n) rest = (Identifier n, refl)
place_starts (Pointee a) rest = (Sign mark.Open, refl)
place_starts (Member p n) rest = place_starts p (Sign mark.Dot ∷ Identifier n ∷ rest)
place_starts (Index p a) rest = place_starts p (Sign mark.OpenBracket ∷ spell_expr a (Sign mark.CloseBracket ∷ rest))

leveled : (level : ℕ) (ts : List Token) (all : Demands) → Starts ts → Stand ts all → Stand ts ((0, Level level) ∷ all)
leveled level ts all (t, e) s = ((t, e, tt), s)

mutual
  pub expr_stand : (k : Known) (level : ℕ) (e : Expr) (rest : List Token) → Stand (spell_expr e rest) (expr_demands k level e)
  expr_stand k level (Read p) rest = leveled level (spell_place p rest) (place_demands k (suc level) p) (place_starts p rest) (place_stand k (suc level) p rest)
  expr_stand k level (Number n) rest = ((Quoted word.Int64, refl, tt), tt)
  expr_stand k level (WordNumber n) rest = ((Quoted word.Uint64, refl, tt), tt)
  expr_stand k level Null rest = ((Quoted word.Null, refl, tt), tt)
  expr_stand k level (Address p) rest =
      leveled level (spell_expr (Address p) rest) (after 2 (place_demands k (suc level) p)) (Sign mark.Open, refl)
      (stand_later (one _ (one _ here)) 2 (place_demands k (suc level) p) (omega arith) (place_stand k (suc level) p (Sign mark.Close ∷ rest)))
  expr_stand k level (Unary op a) rest =
      leveled level (spell_expr (Unary op a) rest) (after 2 (expr_demands k (suc level) a)) (Sign mark.Open, refl)
      (stand_later (one _ (one _ here)) 2 (expr_demands k (suc level) a) (omega arith) (expr_stand k (suc level) a (Sign mark.Close ∷ rest)))
  expr_stand k level (Binary op a b) rest =
      let ts = spell_expr (Binary op a b) rest in
      let da = expr_demands k (suc level) a in let db = expr_demands k (suc level) b in
      let m = count spell_expr a + 2 in
      leveled level ts (after 1 da ++ after m db) (Sign mark.Open, refl)
      (stand_both ts (after 1 da) (after m db)
      (stand_later (one _ here) 1 da (omega arith) (expr_stand k (suc level) a (Sign (binary_mark op) ∷ spell_expr b (Sign mark.Close ∷ rest))))
      (stand_later (one _ (over spell_expr expr_follow a (one _ here))) m db (omega arith) (expr_stand k (suc level) b (Sign mark.Close ∷ rest))))
  expr_stand k level (Cast to a) rest =
      let ts = spell_expr (Cast to a) rest in
      let dt = cast_demands k to in let da = expr_demands k (suc level) a in
      let m = count spell_cast to + 3 in
      leveled level ts (after 2 dt ++ after m da) (Sign mark.Open, refl)
      (stand_both ts (after 2 dt) (after m da)
      (stand_later (one _ (one _ here)) 2 dt (omega arith) (cast_stand k to (Sign mark.Close ∷ spell_expr a (Sign mark.Close ∷ rest))))
      (stand_later (one _ (one _ (over spell_cast cast_follow to (one _ here)))) m da (omega arith) (expr_stand k (suc level) a (Sign mark.Close ∷ rest))))

  pub place_stand : (k : Known) (level : ℕ) (p : Place) (rest : List Token) → Stand (spell_place p rest) (place_demands k level p)
  place_stand k level (Variable n) rest = tt
  place_stand k level (Pointee a) rest = stand_later (one _ (one _ here)) 2 (expr_demands k level a) (omega arith) (expr_stand k level a (Sign mark.Close ∷ rest))
  place_stand k level (Member p n) rest = place_stand k level p (Sign mark.Dot ∷ Identifier n ∷ rest)
  place_stand k level (Index p a) rest =
      let dp = place_demands k level p in let da = expr_demands k level a in
      let m = count spell_place p + 1 in
      stand_both (spell_place (Index p a) rest) dp (after m da)
      (place_stand k level p (Sign mark.OpenBracket ∷ spell_expr a (Sign mark.CloseBracket ∷ rest)))
      (stand_later (over spell_place place_follow p (one _ here)) m da (omega arith) (expr_stand k level a (Sign mark.CloseBracket ∷ rest)))

-- ---- statements

into_stand : (k : Known) (level : ℕ) (into : Option Place) (rest : List Token) → Stand (spell_into into rest) (into_demands k level into)
into_stand k level None rest = tt
into_stand k level (Some p) rest = place_stand k level p (Sign mark.Assign ∷ rest)

callee_stand : (k : Known) (level : ℕ) (c : CCallee) (rest : List Token) → Stand (spell_callee c rest) (callee_demands k level c)
callee_stand k level (Direct n) rest = tt
callee_stand k level (Indirect a) rest = stand_later (one _ (one _ here)) 2 (expr_demands k level a) (omega arith) (expr_stand k level a (Sign mark.Close ∷ rest))

value_stand : (k : Known) (level : ℕ) (a : Option Expr) (rest : List Token) → Stand (spell_value a rest) (value_demands k level a)
value_stand k level None rest = tt
value_stand k level (Some a) rest = expr_stand k level a rest

call_starts : (into : Option Place) (c : CCallee) (rest : List Token) → Starts (spell_into into (spell_callee c rest))
call_starts None (Direct n) rest = (Identifier n, refl)
call_starts None (Indirect a) rest = (Sign mark.Open, refl)
call_starts (Some p) c rest = place_starts p (Sign mark.Assign ∷ spell_callee c rest)

call_stand : (k : Known) (reached above : Names) (level : ℕ) (into : Option Place) (c : CCallee) (all : List Expr) (rest : List Token)
    → Stand (spell_statement (Call into c all) rest) (statement_demands k reached above level (Call into c all))
call_stand k reached above level into c all rest =
    let ts = spell_statement (Call into c all) rest in
    let end = spell_listed spell_expr all (Sign mark.Close ∷ Sign mark.Semicolon ∷ rest) in
    let di = into_demands k (suc level) into in let dc = callee_demands k (suc level) c in let da = listed_demands spell_expr same (expr_demands k) (suc level) all in
    let n = count spell_into into in let m = n + count spell_callee c + 1 in
    leveled level ts (di ++ after n dc ++ after m da) (call_starts into c (Sign mark.Open ∷ end))
    (stand_both ts (di ++ after n dc) (after m da)
    (stand_both ts di (after n dc)
    (into_stand k (suc level) into (spell_callee c (Sign mark.Open ∷ end)))
    (stand_later (over spell_into into_follow into here) n dc (omega arith) (callee_stand k (suc level) c (Sign mark.Open ∷ end))))
    (stand_later (over spell_into into_follow into (over spell_callee callee_follow c (one _ here))) m da (omega arith)
    (listed_stand spell_expr expr_follow same (expr_demands k) (λ s a rest. expr_stand k s a rest) (suc level) all (Sign mark.Close ∷ Sign mark.Semicolon ∷ rest))))

-- what begins with a word, a parenthesis and an expression
test_stand : (k : Known) (level : ℕ) (t : Token) (a : Expr) (rest : List Token) → Stand (t ∷ Sign mark.Open ∷ spell_expr a rest) (after 2 (expr_demands k (suc level) a))
test_stand k level t a rest = stand_later (one t (one (Sign mark.Open) here)) 2 (expr_demands k (suc level) a) (omega arith) (expr_stand k (suc level) a rest)

mutual
  pub statement_stand : (k : Known) (reached above : Names) (level : ℕ) (s : Statement) (rest : List Token) → Stand (spell_statement s rest) (statement_demands k reached above level s)
  statement_stand k reached above level (Assign p a) rest =
      let ts = spell_statement (Assign p a) rest in let after_p = Sign mark.Assign ∷ spell_expr a (Sign mark.Semicolon ∷ rest) in
      let dp = place_demands k (suc level) p in let da = expr_demands k (suc level) a in let m = count spell_place p + 1 in
      leveled level ts (dp ++ after m da) (place_starts p after_p)
      (stand_both ts dp (after m da) (place_stand k (suc level) p after_p)
      (stand_later (over spell_place place_follow p (one _ here)) m da (omega arith) (expr_stand k (suc level) a (Sign mark.Semicolon ∷ rest))))
  statement_stand k reached above level (Call into c all) rest = call_stand k reached above level into c all rest
  statement_stand k reached above level (Malloc p of) rest =
      let ts = spell_statement (Malloc p of) rest in let end = Sign mark.Close ∷ Sign mark.Close ∷ Sign mark.Semicolon ∷ rest in
      let after_p = Sign mark.Assign ∷ Quoted word.Malloc ∷ Sign mark.Open ∷ Quoted word.SizeOf ∷ Sign mark.Open ∷ spell_type of end in
      let dp = place_demands k (suc level) p in let dt = type_demands k of in let m = count spell_place p + 5 in
      leveled level ts (dp ++ after m dt) (place_starts p after_p)
      (stand_both ts dp (after m dt) (place_stand k (suc level) p after_p)
      (stand_later (over spell_place place_follow p (one _ (one _ (one _ (one _ (one _ here)))))) m dt (omega arith) (type_stand k of end)))
  statement_stand k reached above level (Free a) rest =
      leveled level (spell_statement (Free a) rest) (after 2 (expr_demands k (suc level) a)) (Quoted word.Free, refl) (test_stand k level (Quoted word.Free) a (Sign mark.Close ∷ Sign mark.Semicolon ∷ rest))
  statement_stand k reached above level (GetChar p) rest =
      let after_p = Sign mark.Assign ∷ Quoted word.GetChar ∷ Sign mark.Open ∷ Sign mark.Close ∷ Sign mark.Semicolon ∷ rest in
      leveled level (spell_statement (GetChar p) rest) (place_demands k (suc level) p) (place_starts p after_p) (place_stand k (suc level) p after_p)
  statement_stand k reached above level (PutChar a) rest =
      leveled level (spell_statement (PutChar a) rest) (after 2 (expr_demands k (suc level) a)) (Quoted word.PutChar, refl) (test_stand k level (Quoted word.PutChar) a (Sign mark.Close ∷ Sign mark.Semicolon ∷ rest))
  statement_stand k reached above level (If test a) rest =
      let ts = spell_statement (If test a) rest in let end = Sign mark.CloseBrace ∷ rest in
      let dt = expr_demands k (suc level) test in let da = body_demands k (own_labels a ++ reached) above (suc level) a in let m = count spell_expr test + 4 in
      leveled level ts (after 2 dt ++ after m da) (Quoted word.If, refl)
      (stand_both ts (after 2 dt) (after m da) (test_stand k level (Quoted word.If) test (Sign mark.Close ∷ Sign mark.OpenBrace ∷ spell_body a end))
      (stand_later (one _ (one _ (over spell_expr expr_follow test (one _ (one _ here))))) m da (omega arith) (body_stand k (own_labels a ++ reached) above (suc level) a end)))
  statement_stand k reached above level (IfElse test a b) rest =
      let ts = spell_statement (IfElse test a b) rest in let end = Sign mark.CloseBrace ∷ rest in
      let second = Sign mark.CloseBrace ∷ Quoted word.Else ∷ Sign mark.OpenBrace ∷ spell_body b end in
      let dt = expr_demands k (suc level) test in let da = body_demands k (own_labels a ++ reached) above (suc level) a in
      let db = body_demands k (own_labels b ++ reached) (above ++ labels_of a) (suc level) b in
      let m = count spell_expr test + 4 in let n = count spell_expr test + count spell_body a + 7 in
      leveled level ts (after 2 dt ++ after m da ++ after n db) (Quoted word.If, refl)
      (stand_both ts (after 2 dt ++ after m da) (after n db)
      (stand_both ts (after 2 dt) (after m da) (test_stand k level (Quoted word.If) test (Sign mark.Close ∷ Sign mark.OpenBrace ∷ spell_body a second))
      (stand_later (one _ (one _ (over spell_expr expr_follow test (one _ (one _ here))))) m da (omega arith) (body_stand k (own_labels a ++ reached) above (suc level) a second)))
      (stand_later (one _ (one _ (over spell_expr expr_follow test (one _ (one _ (over spell_body body_follow a (one _ (one _ (one _ here))))))))) n db (omega arith)
      (body_stand k (own_labels b ++ reached) (above ++ labels_of a) (suc level) b end)))
  statement_stand k reached above level (While test a) rest =
      let ts = spell_statement (While test a) rest in let end = Sign mark.CloseBrace ∷ rest in
      let dt = expr_demands k (suc level) test in let da = body_demands k (own_labels a ++ reached) above (suc level) a in let m = count spell_expr test + 4 in
      leveled level ts (after 2 dt ++ after m da) (Quoted word.While, refl)
      (stand_both ts (after 2 dt) (after m da) (test_stand k level (Quoted word.While) test (Sign mark.Close ∷ Sign mark.OpenBrace ∷ spell_body a end))
      (stand_later (one _ (one _ (over spell_expr expr_follow test (one _ (one _ here))))) m da (omega arith) (body_stand k (own_labels a ++ reached) above (suc level) a end)))
  statement_stand k reached above level (Goto l) rest = ((Quoted word.Goto, refl, tt), ((Identifier l, refl, refl), tt))
  statement_stand k reached above level (Label l) rest = ((Identifier l, refl, tt), ((Identifier l, refl, refl), tt))
  statement_stand k reached above level (Return a) rest =
      leveled level (spell_statement (Return a) rest) (after 1 (value_demands k (suc level) a)) (Quoted word.Return, refl)
      (stand_later (one (Quoted word.Return) here) 1 (value_demands k (suc level) a) (omega arith) (value_stand k (suc level) a (Sign mark.Semicolon ∷ rest)))

  pub body_stand : (k : Known) (reached above : Names) (level : ℕ) (b : Body) (rest : List Token) → Stand (spell_body b rest) (body_demands k reached above level b)
  body_stand k reached above level Empty rest = tt
  body_stand k reached above level (Then s more) rest =
      let ds = statement_demands k reached above level s in let dm = body_demands k reached (above ++ labels_in s) level more in let m = count spell_statement s in
      stand_both (spell_body (Then s more) rest) ds (after m dm) (statement_stand k reached above level s (spell_body more rest))
      (stand_later (over spell_statement statement_follow s here) m dm (omega arith) (body_stand k reached (above ++ labels_in s) level more rest))
