-- Statements that are read.
use Rattle.std.proofs.Common.{◌≡◌, ℕ, zero, suc, ◌+◌, ◌≤◌, List, [], ◌∷◌, ◌++◌, length, Option, Some, None, Ok, refl, sym, ap, subst, ◌∙◌, arith}
use Rattle.std.specs.List.{AllByRecursion}
use Rattle.std.specs.Option.{IfSome}
use Rattle.c_tree.specs.Tree.{Int, Expr, Null, Place, Variable, Pointee, Member, Index, Statement, Assign, Call, Malloc, Free, GetChar, PutChar, If, IfElse, While, Goto, Label, Return, Body, Empty, body_of}
use Rattle.c_tree.specs.declared.statement.CCallee.{CCallee}
use Rattle.c_tree.specs.declared.statement.CCallee.TheVariants.{Direct, Indirect}
use Rattle.c_grammar.specs.declared.token.Word.{Word as QuotedWord}
use Rattle.c_grammar.specs.declared.token.Word.TheVariants as word
use Rattle.c_grammar.specs.declared.token.Mark.TheVariants as mark
use Rattle.c_grammar.specs.Token.{Token, Identifier, Quoted, Sign}
use Rattle.c_grammar.specs.Spelling.{count, spell_all, spell_next, spell_listed, spell_expr, spell_place, spell_into, spell_callee, spell_value, spell_statement, spell_body, spell_type}
use Rattle.c_grammar.specs.Grammar.{IsExpr, IsPlace, IsCallee, IsStatement, IsBody}
use Rattle.c_grammar.specs.Seen.{AreTokens}
use Rattle.c_grammar.specs.Types.{Known}
use Rattle.c_grammar.specs.Demands.{Names, after, same, expr_demands, callee_demands, statement_demands, body_demands, listed_demands, own_labels, labels_of, program_demands}
use Rattle.c_grammar.specs.Text.{Begins, MayBegin}
use Rattle.c_grammar.proofs.Spelled.{count_more, next_follow, all_follow, expr_follow, place_follow, into_follow, callee_follow, body_follow}
use Rattle.token_parsing.specs.Parser.{Parser, begins}
use Rattle.token_parsing.proofs.Fair.{At, reads, at_same, fair_then, fair_either, fair_repeat, fair_so, fair_refuse, fair_stop}
use Rattle.c_expr_parser.specs.Classes.{names, marks, words}
use Rattle.c_expr_parser.specs.Expressions.{closed, expr}
use Rattle.c_parser.specs.Statements.{next_argument, some_arguments, listed_arguments, call, indirect, callee, calls, malloc_opening, malloc, get_char, value, call_into, assigned, callee_of, label_of, called, labelled, placed, free, put_char, goto, returned, return_with, no_brace, next_statement, statements, body, enclosed, otherwise, conditional, while_loop, simple, statement_by, statement}
use Rattle.c_expr_parser.specs.Depth.{expr_depth, place_depth, into_depth, callee_depth, arguments_depth, value_depth, statement_depth, body_depth}
use Rattle.c_expr_parser.proofs.FairTokens.{FairC, mark_fair, word_fair, name_fair, a_name, a_name_is}
use Rattle.c_expr_parser.proofs.FairTypes.{type_fair}
use Rattle.c_expr_parser.proofs.FairExpressions.{ReadPlace, ExprFair, place_fair, expr_fair}
use Rattle.c_expr_parser.proofs.Holes.{Law, Among, Filled, begins_by, inner, in_first, in_second, in_later, in_after, level_here, ExprHole, PlaceHole, TypeHole}
use Rattle.c_parser.proofs.Pushed.{all_pushed, each_pushed, body_pushed, is_body_pushed, body_depth_pushed, arguments_depth_pushed, all_last, body_last}
use Rattle.c_expr_parser.proofs.Closed.{fair_closed}
use Rattle.c_parser.proofs.Arguments.{fair_arguments}

-- ---- holes

abbrev pub StatementHas : ℕ → Statement → ℕ → ℕ → Type 0
StatementHas level s n l = (k : Known) (reached above : Names) → Among (statement_demands k reached above level s) n l

abbrev pub BodyHas : ℕ → Body → ℕ → ℕ → Type 0
BodyHas level b n l = (k : Known) (reached above : Names) → Among (body_demands k reached above level b) n l

abbrev pub StatementHole : ℕ → (List Token → List Token) → Type 0
StatementHole level front = (s : Statement) → IsStatement s → Filled front (spell_statement s) (StatementHas level s)

abbrev pub BodyHole : ℕ → (List Token → List Token) → Type 0
BodyHole level front = (b : Body) → IsBody b → Filled front (spell_body b) (BodyHas level b)

abbrev CalleeHole : ℕ → (List Token → List Token) → Type 0
CalleeHole level front = (c : CCallee) → IsCallee c → Filled front (spell_callee c) (λ n l. (k : Known) → Among (callee_demands k level c) n l)

abbrev ArgumentsHas : ℕ → List Expr → ℕ → ℕ → Type 0
ArgumentsHas level items n l = (k : Known) → Among (listed_demands spell_expr same (expr_demands k) level items) n l

abbrev ArgumentsHole : ℕ → (List Token → List Token) → Type 0
ArgumentsHole level front = (items : List Expr) → AllByRecursion IsExpr items → Filled front (spell_listed spell_expr items) (ArgumentsHas level items)

-- ---- what is read

abbrev ReadCallee : List Token → (List Token → List Token) → ℕ → CCallee → List Token → Type 0
ReadCallee all front d c r = At all (λ u. front (spell_callee c u)) r × IsCallee c × (callee_depth c ≤ d)

abbrev ReadArguments : List Token → (List Token → List Token) → ℕ → List Expr → List Token → Type 0
ReadArguments all front d items r = At all (λ u. front (spell_listed spell_expr items u)) r × AllByRecursion IsExpr items × (arguments_depth items ≤ d)

abbrev pub ReadStatement : List Token → (List Token → List Token) → ℕ → Statement → List Token → Type 0
ReadStatement all front d s r = At all (λ u. front (spell_statement s u)) r × IsStatement s × (statement_depth s ≤ d)

abbrev pub ReadBody : List Token → (List Token → List Token) → ℕ → List Statement → List Token → Type 0
ReadBody all front d items r = At all (λ u. front (spell_body (body_of items) u)) r × IsBody (body_of items) × (body_depth (body_of items) ≤ d)

abbrev pub StatementFair : List Token → ℕ → Parser Token Statement → Type 0
StatementFair all d p = (level : ℕ) (front : List Token → List Token) (s : List Token) → level + d ≡ 2401 → At all front s → StatementHole level front → FairC all (ReadStatement all front d) (p s)

-- ---- arguments

next_hole : {front : List Token → List Token} (level : ℕ) → Law front → (a : Expr) (more : List Expr) → IsExpr a → AllByRecursion IsExpr more → ArgumentsHole level front
    → ExprHole level (λ u. front (spell_listed spell_expr (a ∷ more) (Sign mark.Comma ∷ u)))
next_hole level law a more is each hole e ise =
    let f = hole (a ∷ (more ++ e ∷ [])) (is, each_pushed IsExpr more e each ise) in
    let long = count_more spell_expr expr_follow a (spell_all (spell_next spell_expr) more (Sign mark.Comma ∷ [])) in
    let long' = count_more (spell_all (spell_next spell_expr)) (all_follow (spell_next spell_expr) (next_follow spell_expr expr_follow)) more (Sign mark.Comma ∷ []) in
    inner law (λ u. spell_listed spell_expr (a ∷ more) (Sign mark.Comma ∷ u)) (count spell_expr a + (count (spell_all (spell_next spell_expr)) more + 1)) (omega (arith, long, long')) f f.more
    (ap (spell_expr a) (all_pushed (spell_next spell_expr) more e f.more))
    (λ n l h k. subst (λ m. Among (listed_demands spell_expr same (expr_demands k) level (a ∷ (more ++ e ∷ []))) m l) (omega arith)
    (in_second _ (in_after (count spell_expr a)
    (all_last (spell_next spell_expr) (next_follow spell_expr expr_follow) same (λ level a. after 1 (expr_demands k level a)) (λ m. m ≡ level) (λ m a i. i) level refl more e (1 + n) l
    (λ m i. in_after 1 (subst (λ m. Among (expr_demands k m e) n l) (sym i) (h k)))))))

module _ (all : List Token) (formed : AreTokens all) (d : ℕ) (child : Parser Token Expr) (good : ExprFair all d child) where
  -- what is read of arguments, of which there is one
  abbrev Some_ : (List Token → List Token) → List Expr → List Token → Type 0
  Some_ front items r = (a : Expr) × (more : List Expr) × (items ≡ a ∷ more) × At all (λ u. front (spell_listed spell_expr (a ∷ more) u)) r × IsExpr a × AllByRecursion IsExpr more × (arguments_depth (a ∷ more) ≤ d)

  next_argument_fair : (level : ℕ) (front : List Token → List Token) (items : List Expr) (s : List Token) → level + d ≡ 2401 → Law front → ArgumentsHole level front → Some_ front items s
      → FairC all (Some_ front) (next_argument child items s)
  unfolding next_argument
  next_argument_fair level front items s left law hole (a, more, e, at, is, each, deep) =
      mark_fair mark.Comma s at (let f = hole (a ∷ more) (is, each) in begins_by at f f.more refl) (λ _ r at1.
      fair_then (good level (λ u. front (spell_listed spell_expr (a ∷ more) (Sign mark.Comma ∷ u))) r left at1 (next_hole level law a more is each hole)) (λ x r (at2, isx, deep').
      reads (items ++ x ∷ []) r (
        a,
        more ++ x ∷ [],
        ap (λ z. z ++ x ∷ []) e,
        at_same at2 (λ u. front (spell_listed spell_expr (a ∷ (more ++ x ∷ [])) u)) (λ u. ap (λ z. front (spell_expr a z)) (sym (all_pushed (spell_next spell_expr) more x u))),
        is,
        each_pushed IsExpr more x each isx,
        arguments_depth_pushed (a ∷ more) x d deep deep',
      )))

  first_hole : {front : List Token → List Token} (level : ℕ) → ArgumentsHole level front → ExprHole level front
  first_hole level hole e is = let f = hole (e ∷ []) (is, tt) in record { c = f.c; more = f.more; of_grammar = f.of_grammar; is_spelled = f.is_spelled; kept = λ n l h. f.kept n l (λ k. in_first _ (h k)) }

  listed_arguments_fair : (level : ℕ) (front : List Token → List Token) (s : List Token) → level + d ≡ 2401 → At all front s → ArgumentsHole level front → FairC all (ReadArguments all front d) (listed_arguments child s)
  unfolding listed_arguments some_arguments
  listed_arguments_fair level front s left at hole =
      fair_either (begins (marks mark.Close) s) (λ _. reads [] s (at, tt, grind arith))
      (λ _. fair_then (good level front s left at (first_hole level hole)) (λ a r (at1, is, deep).
      fair_so (fair_repeat (begins (marks mark.Comma)) (next_argument child) (λ items s h e. next_argument_fair level front items s left at.law hole h) (a ∷ []) r
      (a, [], refl, at1, is, tt, grind arith))
      (λ items r (a, more, e, at2, is, each, deep). subst (λ z. ReadArguments all front d z r) (sym e) (at2, (is, each), deep))))

  -- ---- calls

  arguments_hole : {front : List Token → List Token} (level : ℕ) (into : Option Place) (c : CCallee) → Law front → IfSome into IsPlace → IsCallee c → StatementHole level front
      → ArgumentsHole (suc level) (λ u. front (spell_into into (spell_callee c (Sign mark.Open ∷ u))))
  arguments_hole level into c law isi isc hole items each =
      let f = hole (Call into c items) (isi, isc, each) in
      inner law (λ u. spell_into into (spell_callee c (Sign mark.Open ∷ u))) (count spell_into into + count spell_callee c + 1)
      (omega (arith, count_more spell_into into_follow into (spell_callee c (Sign mark.Open ∷ [])), count_more spell_callee callee_follow c (Sign mark.Open ∷ []))) f (Sign mark.Close ∷ Sign mark.Semicolon ∷ f.more) refl
      (λ n l h k reached above. in_later (in_second _ (in_after (count spell_into into + count spell_callee c + 1) (h k))))

  call_fair : (level : ℕ) (front : List Token → List Token) (into : Option Place) (c : CCallee) (s : List Token) → level + suc d ≡ 2401 → Law front → StatementHole level front
      → At all (λ u. front (spell_into into (spell_callee c u))) s → IfSome into IsPlace → IsCallee c → into_depth into ≤ d → callee_depth c ≤ d → FairC all (ReadStatement all front (suc d)) (call child into c s)
  unfolding call
  call_fair level front into c s left law hole at isi isc deep deep' =
      fair_arguments child s (λ items s. Ok (Call into c items, s)) (mark_fair mark.Open s at (let f = hole (Call into c []) (isi, isc, tt) in begins_by at f (Sign mark.Open ∷ Sign mark.Close ∷ Sign mark.Semicolon ∷ f.more) refl) (λ _ r at1.
      fair_then (listed_arguments_fair (suc level) (λ u. front (spell_into into (spell_callee c (Sign mark.Open ∷ u)))) r (omega arith) at1 (arguments_hole level into c law isi isc hole)) (λ items r (at2, each, deep'').
      let f = hole (Call into c items) (isi, isc, each) in
      mark_fair mark.Close r at2 (begins_by at2 f (Sign mark.Close ∷ Sign mark.Semicolon ∷ f.more) refl) (λ _ r at3.
      mark_fair mark.Semicolon r at3 (begins_by at3 f (Sign mark.Semicolon ∷ f.more) refl) (λ _ r at4.
      reads (Call into c items) r (at4, (isi, isc, each), grind arith))))))

  indirect_hole : {front : List Token → List Token} (level : ℕ) → Law front → CalleeHole level front → ExprHole level (λ u. front (Sign mark.Open ∷ Sign mark.Star ∷ u))
  indirect_hole level law hole e is = let f = hole (Indirect e) is in inner law (λ u. Sign mark.Open ∷ Sign mark.Star ∷ u) 2 refl f (Sign mark.Close ∷ f.more) refl (λ n l h k. in_after 2 (h k))

  callee_fair : (level : ℕ) (front : List Token → List Token) (s : List Token) → level + d ≡ 2401 → At all front s → CalleeHole level front → FairC all (ReadCallee all front d) (callee child s)
  unfolding callee indirect
  callee_fair level front s left at hole =
      let f = hole (Direct a_name) a_name_is in let start = begins_by at f (Identifier a_name ∷ f.more) refl in
      fair_either (begins names s) (λ _. name_fair formed s at start (λ n r is at1. reads (Direct n) r (at1, is, grind arith)))
      (λ _. mark_fair mark.Open s at start (λ _ r at1.
      mark_fair mark.Star r at1 (let g = hole (Indirect Null) tt in begins_by at1 g (Sign mark.Star ∷ spell_expr Null (Sign mark.Close ∷ g.more)) refl) (λ _ r at2.
      fair_closed child r (λ a s. Ok (Indirect a, s)) (fair_then (good level (λ u. front (Sign mark.Open ∷ Sign mark.Star ∷ u)) r left at2 (indirect_hole level at.law hole)) (λ a r (at3, is, deep).
      mark_fair mark.Close r at3 (let g = hole (Indirect a) is in begins_by at3 g (Sign mark.Close ∷ g.more) refl) (λ _ r at4.
      reads (Indirect a) r (at4, is, deep)))))))

  -- ---- assignments

  -- after a place
  abbrev After : Parser Token Statement → Place → Type 0
  After p q = (level : ℕ) (front : List Token → List Token) (s : List Token) → level + suc d ≡ 2401 → Law front → StatementHole level front → IsPlace q → place_depth q ≤ d
      → At all (λ u. front (spell_place q (Sign mark.Assign ∷ u))) s → FairC all (ReadStatement all front (suc d)) (p s)

  size_hole : {front : List Token → List Token} (level : ℕ) (p : Place) → Law front → IsPlace p → StatementHole level front
      → TypeHole (λ u. front (spell_place p (Sign mark.Assign ∷ Quoted word.Malloc ∷ Sign mark.Open ∷ Quoted word.SizeOf ∷ Sign mark.Open ∷ u)))
  size_hole level p law is hole of ist =
      let f = hole (Malloc p of) (is, ist) in
      inner law (λ u. spell_place p (Sign mark.Assign ∷ Quoted word.Malloc ∷ Sign mark.Open ∷ Quoted word.SizeOf ∷ Sign mark.Open ∷ u)) _ refl f (Sign mark.Close ∷ Sign mark.Close ∷ Sign mark.Semicolon ∷ f.more) refl (λ n l h. absurd h)

  -- up to the type
  abbrev sized : Place → List Token → List Token
  sized p u = spell_place p (Sign mark.Assign ∷ Quoted word.Malloc ∷ Sign mark.Open ∷ Quoted word.SizeOf ∷ Sign mark.Open ∷ u)

  malloc_fair : (p : Place) → After (malloc p) p
  unfolding malloc malloc_opening
  malloc_fair p level front s left law hole is deep at =
      let f = hole (GetChar p) is in let g = hole (Malloc p Int) (is, tt) in
      fair_then {P = λ _ r. At all (λ u. front (sized p u)) r}
      (word_fair word.Malloc s at (begins_by at f (Quoted word.GetChar ∷ Sign mark.Open ∷ Sign mark.Close ∷ Sign mark.Semicolon ∷ f.more) refl) (λ _ r at1.
      mark_fair mark.Open r at1 (begins_by at1 g (Sign mark.Open ∷ Quoted word.SizeOf ∷ Sign mark.Open ∷ spell_type Int (Sign mark.Close ∷ Sign mark.Close ∷ Sign mark.Semicolon ∷ g.more)) refl) (λ _ r at2.
      word_fair word.SizeOf r at2 (begins_by at2 g (Quoted word.SizeOf ∷ Sign mark.Open ∷ spell_type Int (Sign mark.Close ∷ Sign mark.Close ∷ Sign mark.Semicolon ∷ g.more)) refl) (λ _ r at3.
      mark_fair mark.Open r at3 (begins_by at3 g (Sign mark.Open ∷ spell_type Int (Sign mark.Close ∷ Sign mark.Close ∷ Sign mark.Semicolon ∷ g.more)) refl) (λ _ r at4. reads tt r at4))))) (λ _ r at4.
      fair_then (type_fair all formed _ r at4 (size_hole level p law is hole)) (λ of r (at5, ist).
      let h = hole (Malloc p of) (is, ist) in
      mark_fair mark.Close r at5 (begins_by at5 h (Sign mark.Close ∷ Sign mark.Close ∷ Sign mark.Semicolon ∷ h.more) refl) (λ _ r at6.
      mark_fair mark.Close r at6 (begins_by at6 h (Sign mark.Close ∷ Sign mark.Semicolon ∷ h.more) refl) (λ _ r at7.
      mark_fair mark.Semicolon r at7 (begins_by at7 h (Sign mark.Semicolon ∷ h.more) refl) (λ _ r at8.
      reads (Malloc p of) r (at8, (is, ist), omega arith))))))

  get_char_fair : (p : Place) → After (get_char p) p
  unfolding get_char
  get_char_fair p level front s left law hole is deep at =
      let f = hole (GetChar p) is in
      word_fair word.GetChar s at (begins_by at f (Quoted word.GetChar ∷ Sign mark.Open ∷ Sign mark.Close ∷ Sign mark.Semicolon ∷ f.more) refl) (λ _ r at1.
      mark_fair mark.Open r at1 (begins_by at1 f (Sign mark.Open ∷ Sign mark.Close ∷ Sign mark.Semicolon ∷ f.more) refl) (λ _ r at2.
      mark_fair mark.Close r at2 (begins_by at2 f (Sign mark.Close ∷ Sign mark.Semicolon ∷ f.more) refl) (λ _ r at3.
      mark_fair mark.Semicolon r at3 (begins_by at3 f (Sign mark.Semicolon ∷ f.more) refl) (λ _ r at4.
      reads (GetChar p) r (at4, is, omega arith)))))

  value_hole : {front : List Token → List Token} (level : ℕ) (p : Place) → Law front → IsPlace p → StatementHole level front → ExprHole (suc level) (λ u. front (spell_place p (Sign mark.Assign ∷ u)))
  value_hole level p law is hole e ise =
      let f = hole (Assign p e) (is, ise) in
      inner law (λ u. spell_place p (Sign mark.Assign ∷ u)) (count spell_place p + 1) (omega (arith, count_more spell_place place_follow p (Sign mark.Assign ∷ []))) f (Sign mark.Semicolon ∷ f.more) refl
      (λ n l h k reached above. in_later (in_second _ (in_after (count spell_place p + 1) (h k))))

  value_fair : (p : Place) → After (value child p) p
  unfolding value
  value_fair p level front s left law hole is deep at =
      fair_then (good (suc level) (λ u. front (spell_place p (Sign mark.Assign ∷ u))) s (omega arith) at (value_hole level p law is hole)) (λ a r (at1, isa, deep').
      mark_fair mark.Semicolon r at1 (let f = hole (Assign p a) (is, isa) in begins_by at1 f (Sign mark.Semicolon ∷ f.more) refl) (λ _ r at2.
      reads (Assign p a) r (at2, (is, isa), grind arith)))

  callee_hole : {front : List Token → List Token} (level : ℕ) (p : Place) → Law front → IsPlace p → StatementHole level front → CalleeHole (suc level) (λ u. front (spell_place p (Sign mark.Assign ∷ u)))
  callee_hole level p law is hole c isc =
      let f = hole (Call (Some p) c []) (is, isc, tt) in
      inner law (λ u. spell_place p (Sign mark.Assign ∷ u)) (count spell_into (Some p)) refl f (Sign mark.Open ∷ Sign mark.Close ∷ Sign mark.Semicolon ∷ f.more) refl
      (λ n l h k reached above. in_later (in_first _ (in_second _ (in_after (count spell_into (Some p)) (h k)))))

  call_into_fair : (p : Place) → After (call_into child p) p
  unfolding call_into
  call_into_fair p level front s left law hole is deep at =
      fair_then (callee_fair (suc level) (λ u. front (spell_place p (Sign mark.Assign ∷ u))) s (omega arith) at (callee_hole level p law is hole)) (λ c r (at1, isc, deep').
      call_fair level front (Some p) c r left law hole at1 is isc deep deep')

  assigned_fair : (level : ℕ) (front : List Token → List Token) (p : Place) (s : List Token) → level + suc d ≡ 2401 → Law front → StatementHole level front → ReadPlace all front d p s
      → FairC all (ReadStatement all front (suc d)) (assigned child p s)
  unfolding assigned
  assigned_fair level front p s left law hole (at, is, deep) =
      mark_fair mark.Assign s at (let f = hole (Assign p Null) (is, tt) in begins_by at f (Sign mark.Assign ∷ spell_expr Null (Sign mark.Semicolon ∷ f.more)) refl) (λ _ r at1.
      fair_either (begins (words word.Malloc) r) (λ _. malloc_fair p level front r left law hole is deep at1)
      (λ _. fair_either (begins (words word.GetChar) r) (λ _. get_char_fair p level front r left law hole is deep at1)
      (λ _. fair_either (calls r) (λ _. call_into_fair p level front r left law hole is deep at1) (λ _. value_fair p level front r left law hole is deep at1))))

  -- ---- what begins with a place

  refused_place : (level : ℕ) (front : List Token → List Token) (p : Place) (s : List Token) → StatementHole level front → ReadPlace all front d p s → Begins (front (spell_place p []))
  refused_place level front p s hole (at, is, deep) = let f = hole (Assign p Null) (is, tt) in begins_by at f (Sign mark.Assign ∷ spell_expr Null (Sign mark.Semicolon ∷ f.more)) refl

  called_fair : (level : ℕ) (front : List Token → List Token) (p : Place) (s : List Token) → level + suc d ≡ 2401 → Law front → StatementHole level front → ReadPlace all front d p s
      → FairC all (ReadStatement all front (suc d)) (called child (callee_of p) s)
  called_fair level front (Variable n) s left law hole (at, is, deep) = call_fair level front None (Direct n) s left law hole at tt is (omega arith) (omega arith)
  called_fair level front (Pointee a) s left law hole (at, is, deep) = call_fair level front None (Indirect a) s left law hole at tt is (omega arith) deep
  called_fair level front (Member p n) s left law hole h = fair_refuse h.0 (refused_place level front (Member p n) s hole h)
  called_fair level front (Index p a) s left law hole h = fair_refuse h.0 (refused_place level front (Index p a) s hole h)

  labelled_fair : (level : ℕ) (front : List Token → List Token) (p : Place) (s : List Token) → StatementHole level front → ReadPlace all front d p s
      → FairC all (ReadStatement all front (suc d)) (labelled (label_of p) s)
  labelled_fair level front (Variable n) s hole (at, is, deep) =
      let f = hole (Label n) is in
      mark_fair mark.Colon s at (begins_by at f (Sign mark.Colon ∷ Sign mark.Semicolon ∷ f.more) refl) (λ _ r at1.
      mark_fair mark.Semicolon r at1 (begins_by at1 f (Sign mark.Semicolon ∷ f.more) refl) (λ _ r at2. reads (Label n) r (at2, is, omega arith)))
  labelled_fair level front (Pointee a) s hole h = fair_refuse h.0 (refused_place level front (Pointee a) s hole h)
  labelled_fair level front (Member p n) s hole h = fair_refuse h.0 (refused_place level front (Member p n) s hole h)
  labelled_fair level front (Index p a) s hole h = fair_refuse h.0 (refused_place level front (Index p a) s hole h)

  placed_fair : (level : ℕ) (front : List Token → List Token) (p : Place) (s : List Token) → level + suc d ≡ 2401 → Law front → StatementHole level front → ReadPlace all front d p s
      → FairC all (ReadStatement all front (suc d)) (placed child p s)
  unfolding placed
  placed_fair level front p s left law hole h =
      fair_either (begins (marks mark.Assign) s) (λ _. assigned_fair level front p s left law hole h)
      (λ _. fair_either (begins (marks mark.Open) s) (λ _. called_fair level front p s left law hole h) (λ _. labelled_fair level front p s hole h))

  -- ---- the other simple statements

  abbrev Whole : Parser Token Statement → Type 0
  Whole p = (level : ℕ) (front : List Token → List Token) (s : List Token) → level + suc d ≡ 2401 → At all front s → StatementHole level front → FairC all (ReadStatement all front (suc d)) (p s)

  -- a statement may begin there
  start : {front : List Token → List Token} {s : List Token} (level : ℕ) → At all front s → StatementHole level front → Begins (front [])
  start level at hole = let f = hole (Return None) tt in begins_by at f (Quoted word.Return ∷ Sign mark.Semicolon ∷ f.more) refl

  free_hole : {front : List Token → List Token} (level : ℕ) → Law front → StatementHole level front → ExprHole (suc level) (λ u. front (Quoted word.Free ∷ Sign mark.Open ∷ u))
  free_hole level law hole e is =
      let f = hole (Free e) is in inner law (λ u. Quoted word.Free ∷ Sign mark.Open ∷ u) 2 refl f (Sign mark.Close ∷ Sign mark.Semicolon ∷ f.more) refl (λ n l h k reached above. in_later (in_after 2 (h k)))

  enclosed_fair : (level : ℕ) (front : List Token → List Token) (s : List Token) → level + d ≡ 2401 → At all front s → Begins (front []) → ExprHole level (λ u. front (Sign mark.Open ∷ u))
      → FairC all (λ a r. At all (λ u. front (Sign mark.Open ∷ spell_expr a (Sign mark.Close ∷ u))) r × IsExpr a × (expr_depth a ≤ d)) (enclosed child s)
  unfolding enclosed closed
  enclosed_fair level front s left at begun hole =
      mark_fair mark.Open s at begun (λ _ r at1.
      fair_then (good level (λ u. front (Sign mark.Open ∷ u)) r left at1 hole) (λ a r (at2, is, deep).
      mark_fair mark.Close r at2 (let f = hole a is in begins_by at2 f f.more refl) (λ _ r at3. reads a r (at3, is, deep))))

  free_fair : Whole (free child)
  unfolding free
  free_fair level front s left at hole =
      word_fair word.Free s at (start level at hole) (λ _ r at1.
      fair_then (enclosed_fair (suc level) (λ u. front (Quoted word.Free ∷ u)) r (omega arith) at1
      (let f = hole (Free Null) tt in begins_by at1 f (Sign mark.Open ∷ spell_expr Null (Sign mark.Close ∷ Sign mark.Semicolon ∷ f.more)) refl) (free_hole level at.law hole)) (λ a r (at2, is, deep).
      mark_fair mark.Semicolon r at2 (let f = hole (Free a) is in begins_by at2 f (Sign mark.Semicolon ∷ f.more) refl) (λ _ r at3.
      reads (Free a) r (at3, is, omega arith))))

  put_hole : {front : List Token → List Token} (level : ℕ) → Law front → StatementHole level front → ExprHole (suc level) (λ u. front (Quoted word.PutChar ∷ Sign mark.Open ∷ u))
  put_hole level law hole e is =
      let f = hole (PutChar e) is in inner law (λ u. Quoted word.PutChar ∷ Sign mark.Open ∷ u) 2 refl f (Sign mark.Close ∷ Sign mark.Semicolon ∷ f.more) refl (λ n l h k reached above. in_later (in_after 2 (h k)))

  put_char_fair : Whole (put_char child)
  unfolding put_char
  put_char_fair level front s left at hole =
      word_fair word.PutChar s at (start level at hole) (λ _ r at1.
      fair_then (enclosed_fair (suc level) (λ u. front (Quoted word.PutChar ∷ u)) r (omega arith) at1
      (let f = hole (PutChar Null) tt in begins_by at1 f (Sign mark.Open ∷ spell_expr Null (Sign mark.Close ∷ Sign mark.Semicolon ∷ f.more)) refl) (put_hole level at.law hole)) (λ a r (at2, is, deep).
      mark_fair mark.Semicolon r at2 (let f = hole (PutChar a) is in begins_by at2 f (Sign mark.Semicolon ∷ f.more) refl) (λ _ r at3.
      reads (PutChar a) r (at3, is, omega arith))))

  goto_fair : Whole goto
  unfolding goto
  goto_fair level front s left at hole =
      word_fair word.Goto s at (start level at hole) (λ _ r at1.
      name_fair formed r at1 (let f = hole (Goto a_name) a_name_is in begins_by at1 f (Identifier a_name ∷ Sign mark.Semicolon ∷ f.more) refl) (λ n r is at2.
      mark_fair mark.Semicolon r at2 (let f = hole (Goto n) is in begins_by at2 f (Sign mark.Semicolon ∷ f.more) refl) (λ _ r at3. reads (Goto n) r (at3, is, omega arith))))

  return_hole : {front : List Token → List Token} (level : ℕ) → Law front → StatementHole level front → ExprHole (suc level) (λ u. front (Quoted word.Return ∷ u))
  return_hole level law hole e is =
      let f = hole (Return (Some e)) is in inner law (λ u. Quoted word.Return ∷ u) 1 refl f (Sign mark.Semicolon ∷ f.more) refl (λ n l h k reached above. in_later (in_after 1 (h k)))

  return_fair : Whole (return_with child)
  unfolding return_with returned
  return_fair level front s left at hole =
      word_fair word.Return s at (start level at hole) (λ _ r at1.
      fair_then {P = λ a r. At all (λ u. front (Quoted word.Return ∷ spell_value a u)) r × IfSome a IsExpr × (value_depth a ≤ d)}
      (fair_either (begins (marks mark.Semicolon) r) (λ _. reads None r (at1, tt, omega arith))
      (λ _. fair_then (good (suc level) (λ u. front (Quoted word.Return ∷ u)) r (omega arith) at1 (return_hole level at.law hole)) (λ a r h. reads (Some a) r h)))
      (λ a r (at2, is, deep). mark_fair mark.Semicolon r at2 (let f = hole (Return a) is in begins_by at2 f (Sign mark.Semicolon ∷ f.more) refl) (λ _ r at3. reads (Return a) r (at3, is, omega arith))))

  placed_hole : {front : List Token → List Token} (level : ℕ) → StatementHole level front → PlaceHole (suc level) front
  placed_hole level hole p is =
      let f = hole (GetChar p) is in
      record { c = f.c; more = Sign mark.Assign ∷ Quoted word.GetChar ∷ Sign mark.Open ∷ Sign mark.Close ∷ Sign mark.Semicolon ∷ f.more; of_grammar = f.of_grammar; is_spelled = f.is_spelled; kept = λ n l h. f.kept n l (λ k reached above. in_later (h k)) }

  simple_fair : Whole (simple child)
  unfolding simple
  simple_fair level front s left at hole =
      fair_either (begins (words word.Free) s) (λ _. free_fair level front s left at hole)
      (λ _. fair_either (begins (words word.PutChar) s) (λ _. put_char_fair level front s left at hole)
      (λ _. fair_either (begins (words word.Goto) s) (λ _. goto_fair level front s left at hole)
      (λ _. fair_either (begins (words word.Return) s) (λ _. return_fair level front s left at hole)
      (λ _. fair_then (place_fair all formed d child good (suc level) front s (omega arith) (placed_hole level hole) at) (λ p r h. placed_fair level front p r left at.law hole h)))))

  -- ---- statements with bodies

  module _ (inside : Parser Token Statement) (fair : StatementFair all d inside) where
    statement_hole : {front : List Token → List Token} (level : ℕ) → Law front → (items : List Statement) → IsBody (body_of items) → BodyHole level front
        → StatementHole level (λ u. front (spell_body (body_of items) u))
    statement_hole level law items is hole e ise =
        let f = hole (body_of (items ++ e ∷ [])) (is_body_pushed items e is ise) in
        inner law (spell_body (body_of items)) (count spell_body (body_of items)) refl f f.more (body_pushed items e f.more)
        (λ n l h k reached above. body_last k reached above level items e n l (λ above. h k reached above))

    next_statement_fair : (level : ℕ) (front : List Token → List Token) (items : List Statement) (s : List Token) → level + d ≡ 2401 → Law front → BodyHole level front → ReadBody all front d items s
        → FairC all (ReadBody all front d) (next_statement inside items s)
    unfolding next_statement
    next_statement_fair level front items s left law hole (at, is, deep) =
        fair_then (fair level (λ u. front (spell_body (body_of items) u)) s left at (statement_hole level law items is hole)) (λ a r (at1, isa, deep').
        reads (items ++ a ∷ []) r (at_same at1 (λ u. front (spell_body (body_of (items ++ a ∷ [])) u)) (λ u. ap front (sym (body_pushed items a u))), is_body_pushed items a is isa, body_depth_pushed items a d deep deep'))

    pub statements_fair : (level : ℕ) (front : List Token → List Token) (s : List Token) → level + d ≡ 2401 → At all front s → BodyHole level front → FairC all (ReadBody all front d) (statements inside s)
    unfolding statements
    statements_fair level front s left at hole = fair_repeat no_brace (next_statement inside) (λ items s h e. next_statement_fair level front items s left at.law hole h) [] s (at, tt, grind arith)

    body_fair : (level : ℕ) (front : List Token → List Token) (s : List Token) → level + d ≡ 2401 → At all front s → Begins (front []) → BodyHole level (λ u. front (Sign mark.OpenBrace ∷ u))
        → FairC all (λ items r. At all (λ u. front (Sign mark.OpenBrace ∷ spell_body (body_of items) (Sign mark.CloseBrace ∷ u))) r × IsBody (body_of items) × (body_depth (body_of items) ≤ d)) (body inside s)
    unfolding body
    body_fair level front s left at begun hole =
        mark_fair mark.OpenBrace s at begun (λ _ r at1.
        fair_then (statements_fair level (λ u. front (Sign mark.OpenBrace ∷ u)) r left at1 hole) (λ items r (at2, is, deep).
        mark_fair mark.CloseBrace r at2 (let f = hole (body_of items) is in begins_by at2 f f.more refl) (λ _ r at3. reads items r (at3, is, deep))))

    -- up to the body
    abbrev headed : QuotedWord → Expr → List Token → List Token
    headed w a u = Quoted w ∷ Sign mark.Open ∷ spell_expr a (Sign mark.Close ∷ u)

    if_test_hole : {front : List Token → List Token} (level : ℕ) → Law front → StatementHole level front → ExprHole (suc level) (λ u. front (Quoted word.If ∷ Sign mark.Open ∷ u))
    if_test_hole level law hole e is =
        let f = hole (If e Empty) (is, tt) in
        inner law (λ u. Quoted word.If ∷ Sign mark.Open ∷ u) 2 refl f (Sign mark.Close ∷ Sign mark.OpenBrace ∷ Sign mark.CloseBrace ∷ f.more) refl (λ n l h k reached above. in_later (in_first _ (in_after 2 (h k))))

    if_body_hole : {front : List Token → List Token} (level : ℕ) (a : Expr) → Law front → IsExpr a → StatementHole level front → BodyHole (suc level) (λ u. front (headed word.If a (Sign mark.OpenBrace ∷ u)))
    if_body_hole level a law isa hole b is =
        let f = hole (If a b) (isa, is) in
        inner law (λ u. headed word.If a (Sign mark.OpenBrace ∷ u)) (count spell_expr a + 4) (omega (arith, count_more spell_expr expr_follow a (Sign mark.Close ∷ Sign mark.OpenBrace ∷ []))) f (Sign mark.CloseBrace ∷ f.more) refl
        (λ n l h k reached above. in_later (in_second _ (in_after (count spell_expr a + 4) (h k (own_labels b ++ reached) above))))

    -- up to the second body
    abbrev otherwise_headed : Expr → Body → List Token → List Token
    otherwise_headed a b u = headed word.If a (Sign mark.OpenBrace ∷ spell_body b (Sign mark.CloseBrace ∷ Quoted word.Else ∷ u))

    else_hole : {front : List Token → List Token} (level : ℕ) (a : Expr) (b : Body) → Law front → IsExpr a → IsBody b → StatementHole level front
        → BodyHole (suc level) (λ u. front (otherwise_headed a b (Sign mark.OpenBrace ∷ u)))
    else_hole level a b law isa isb hole more is =
        let f = hole (IfElse a b more) (isa, isb, is) in
        let after_body = Sign mark.CloseBrace ∷ Quoted word.Else ∷ Sign mark.OpenBrace ∷ [] in
        inner law (λ u. otherwise_headed a b (Sign mark.OpenBrace ∷ u)) (count spell_expr a + count spell_body b + 7)
        (omega (arith, count_more spell_expr expr_follow a (Sign mark.Close ∷ Sign mark.OpenBrace ∷ spell_body b after_body), count_more spell_body body_follow b after_body)) f (Sign mark.CloseBrace ∷ f.more) refl
        (λ n l h k reached above. in_later (in_second _ (in_after (count spell_expr a + count spell_body b + 7) (h k (own_labels more ++ reached) (above ++ labels_of b)))))

    otherwise_fair : (level : ℕ) (front : List Token → List Token) (a : Expr) (items : List Statement) (s : List Token) → level + suc d ≡ 2401 → Law front → StatementHole level front
        → At all (λ u. front (spell_statement (If a (body_of items)) u)) s → IsExpr a → IsBody (body_of items) → expr_depth a ≤ d → body_depth (body_of items) ≤ d
        → FairC all (ReadStatement all front (suc d)) (otherwise inside a items s)
    unfolding otherwise
    otherwise_fair level front a items s left law hole at isa isb deep deep' =
        let b = body_of items in let f = hole (If a b) (isa, isb) in let g = hole (IfElse a b Empty) (isa, isb, tt) in
        word_fair word.Else s at (begins_by at f f.more refl) (λ _ r at1.
        fair_then (body_fair (suc level) (λ u. front (otherwise_headed a b u)) r (omega arith) at1 (begins_by at1 g (Sign mark.OpenBrace ∷ Sign mark.CloseBrace ∷ g.more) refl) (else_hole level a b law isa isb hole)) (λ more r (at2, is, deep'').
        reads (IfElse a b (body_of more)) r (at2, (isa, isb, is), grind arith)))

    conditional_fair : Whole (conditional child inside)
    unfolding conditional
    conditional_fair level front s left at hole =
        let f = hole (If Null Empty) (tt, tt) in
        word_fair word.If s at (start level at hole) (λ _ r at1.
        fair_then (enclosed_fair (suc level) (λ u. front (Quoted word.If ∷ u)) r (omega arith) at1
        (begins_by at1 f (Sign mark.Open ∷ spell_expr Null (Sign mark.Close ∷ Sign mark.OpenBrace ∷ Sign mark.CloseBrace ∷ f.more)) refl) (if_test_hole level at.law hole)) (λ a r (at2, isa, deep).
        let g = hole (If a Empty) (isa, tt) in
        fair_then (body_fair (suc level) (λ u. front (headed word.If a u)) r (omega arith) at2 (begins_by at2 g (Sign mark.OpenBrace ∷ Sign mark.CloseBrace ∷ g.more) refl) (if_body_hole level a at.law isa hole)) (λ items r (at3, isb, deep').
        fair_either (begins (words word.Else) r) (λ _. otherwise_fair level front a items r left at.law hole at3 isa isb deep deep')
        (λ _. reads (If a (body_of items)) r (at3, (isa, isb), grind arith)))))

    while_test_hole : {front : List Token → List Token} (level : ℕ) → Law front → StatementHole level front → ExprHole (suc level) (λ u. front (Quoted word.While ∷ Sign mark.Open ∷ u))
    while_test_hole level law hole e is =
        let f = hole (While e Empty) (is, tt) in
        inner law (λ u. Quoted word.While ∷ Sign mark.Open ∷ u) 2 refl f (Sign mark.Close ∷ Sign mark.OpenBrace ∷ Sign mark.CloseBrace ∷ f.more) refl (λ n l h k reached above. in_later (in_first _ (in_after 2 (h k))))

    while_body_hole : {front : List Token → List Token} (level : ℕ) (a : Expr) → Law front → IsExpr a → StatementHole level front → BodyHole (suc level) (λ u. front (headed word.While a (Sign mark.OpenBrace ∷ u)))
    while_body_hole level a law isa hole b is =
        let f = hole (While a b) (isa, is) in
        inner law (λ u. headed word.While a (Sign mark.OpenBrace ∷ u)) (count spell_expr a + 4) (omega (arith, count_more spell_expr expr_follow a (Sign mark.Close ∷ Sign mark.OpenBrace ∷ []))) f (Sign mark.CloseBrace ∷ f.more) refl
        (λ n l h k reached above. in_later (in_second _ (in_after (count spell_expr a + 4) (h k (own_labels b ++ reached) above))))

    while_fair : Whole (while_loop child inside)
    unfolding while_loop
    while_fair level front s left at hole =
        let f = hole (While Null Empty) (tt, tt) in
        word_fair word.While s at (start level at hole) (λ _ r at1.
        fair_then (enclosed_fair (suc level) (λ u. front (Quoted word.While ∷ u)) r (omega arith) at1
        (begins_by at1 f (Sign mark.Open ∷ spell_expr Null (Sign mark.Close ∷ Sign mark.OpenBrace ∷ Sign mark.CloseBrace ∷ f.more)) refl) (while_test_hole level at.law hole)) (λ a r (at2, isa, deep).
        let g = hole (While a Empty) (isa, tt) in
        fair_then (body_fair (suc level) (λ u. front (headed word.While a u)) r (omega arith) at2 (begins_by at2 g (Sign mark.OpenBrace ∷ Sign mark.CloseBrace ∷ g.more) refl) (while_body_hole level a at.law isa hole)) (λ items r (at3, isb, deep').
        reads (While a (body_of items)) r (at3, (isa, isb), grind arith))))

    statement_by_fair : StatementFair all (suc d) (statement_by child inside)
    unfolding statement_by
    statement_by_fair level front s left at hole =
        fair_either (begins (words word.If) s) (λ _. conditional_fair level front s left at hole)
        (λ _. fair_either (begins (words word.While) s) (λ _. while_fair level front s left at hole) (λ _. simple_fair level front s left at hole))

-- a statement of the level of the hole may begin there
statement_may_begin : {all : List Token} {front : List Token → List Token} {s : List Token} (level : ℕ) → At all front s → StatementHole level front → MayBegin level (front [])
statement_may_begin {front} level at hole =
    let f = hole (Return None) tt in
    let same : length (front []) + 0 ≡ length (front []) = omega arith in
    let has = f.kept 0 level (λ k reached above. level_here) in
    let more = Quoted word.Return ∷ Sign mark.Semicolon ∷ f.more in
    (f.c, more, record { of_grammar = f.of_grammar; spelled = f.is_spelled ∙ at.law more }, (subst (λ k. Among (program_demands f.c) k level) same has).is)

pub statement_fair : (all : List Token) → AreTokens all → (d : ℕ) → StatementFair all d (statement d)
unfolding statement
statement_fair all formed zero level front s left at hole = fair_stop at (let same : level ≡ 2401 = omega (arith, left) in subst (λ l. MayBegin l (front [])) same (statement_may_begin level at hole))
statement_fair all formed (suc d) level front s left at hole = statement_by_fair all formed d (expr d) (expr_fair all formed d) (statement d) (statement_fair all formed d) level front s left at hole
