-- Statements of a text are followed.
use Rattle.std.proofs.Common.{◌≡◌, ◌⊎◌, inl, inr, ℕ, zero, suc, ◌<◌, ◌≤◌, Bool, true, false, List, [], ◌∷◌, ◌++◌, length, Option, Some, None, Ok, refl, sym, ap, subst, ◌∙◌, arith}
use Rattle.std.specs.List.{AllByRecursion}
use Rattle.std.specs.Option.{IfSome}
use Rattle.c_tree.specs.Tree.{ObjectType, Expr, Read, Number, WordNumber, Null, Address, Unary, Binary, Cast, Place, Variable, Pointee, Member, Index, Statement, Assign, Call, Malloc, Free, GetChar, PutChar, If, IfElse, While, Goto, Label, Return, body_of, list_of, body_of-list_of}
use Rattle.c_tree.specs.declared.statement.CCallee.{CCallee}
use Rattle.c_tree.specs.declared.statement.CCallee.TheVariants.{Direct, Indirect}
use Rattle.c_grammar.specs.declared.token.Word.{Word as QuotedWord}
use Rattle.c_grammar.specs.declared.token.Word.TheVariants as word
use Rattle.c_grammar.specs.declared.token.Mark.TheVariants as mark
use Rattle.c_grammar.specs.Token.{Token, Identifier, Quoted, Sign}
use Rattle.c_grammar.specs.Spelling.{spell_all, spell_next, spell_listed, spell_expr, spell_place, spell_callee, spell_value, spell_statement, spell_body, spell_type, binary_mark}
use Rattle.c_grammar.specs.Grammar.{IsExpr, IsPlace, IsCallee, IsStatement, IsBody}
use Rattle.c_grammar.proofs.Spelled.{expr_follow}
use Rattle.token_parsing.specs.Parser.{Parser, one_of, begins, rest, either}
use Rattle.token_parsing.proofs.Tracked.{Shrinks, Short, relaxed, stops_short, short_then, Takes, Along, ended, last, longer, Tracked, too_deep, one_shrinks, pure_shrinks, then_shrinks, either_shrinks, repeat_shrinks, takes_token, takes_then, takes_either, along_split, same_begins, begun_short, short_tracked, other_text, track_first, track_second, track_then, track_pure, Item, Listing, track_list}
use Rattle.c_expr_parser.specs.Classes.{same_word, same_mark, names, words, marks}
use Rattle.c_expr_parser.specs.Expressions.{closed, pointee, variable, base_place, place, opened, read_variable, read_pointee, expr_by, expr}
use Rattle.c_parser.specs.Statements.{next_argument, some_arguments, listed_arguments, call, indirect, callee, after_group, calls, malloc_opening, malloc, get_char, value, call_into, assigned, callee_of, called, placed, free, put_char, goto, returned, return_with, no_brace, next_statement, statements, body, enclosed, otherwise, conditional, while_loop, simple, statement_by, statement}
use Rattle.c_expr_parser.specs.Depth.{expr_depth, place_depth, callee_depth, arguments_depth, value_depth, statement_depth, body_depth}
use Rattle.c_expr_parser.proofs.Shrinks.{type_shrinks, selectors_shrinks, pointee_shrinks, opened_shrinks, expr_shrinks}
use Rattle.c_parser.proofs.Shrinks.{next_argument_shrinks, arguments_shrinks, call_shrinks, malloc_shrinks, get_char_shrinks, value_shrinks, call_into_shrinks, placed_shrinks, returned_shrinks, next_statement_shrinks, statements_shrinks, body_shrinks, otherwise_shrinks, statement_shrinks}
use Rattle.c_expr_parser.proofs.TrackedTokens.{mark_tracked, word_tracked, name_tracked}
use Rattle.c_expr_parser.proofs.TrackedTypes.{type_tracked}
use Rattle.c_expr_parser.proofs.TrackedExpressions.{NoSelector, no_selector_mark, expr_starts, unary_no_star, ExprTracked, place_tracked, expr_tracked}
use Rattle.c_parser.proofs.TrackedCalls.{expr_skipped}
use Rattle.c_expr_parser.proofs.Closed.{closed_shrinks, tracked_closed}
use Rattle.c_parser.proofs.Arguments.{enclosed_shrinks, tracked_arguments}

-- ---- what an expression does not begin with

place_no_close : (p : Place) (w : List Token) → begins (marks mark.Close) (spell_place p w) ≡ false
unfolding begins same_mark
place_no_close (Variable n) w = refl
place_no_close (Pointee a) w = refl
place_no_close (Member p n) w = place_no_close p (Sign mark.Dot ∷ Identifier n ∷ w)
place_no_close (Index p a) w = place_no_close p (Sign mark.OpenBracket ∷ spell_expr a (Sign mark.CloseBracket ∷ w))

expr_no_close : (e : Expr) (w : List Token) → begins (marks mark.Close) (spell_expr e w) ≡ false
unfolding begins same_mark
expr_no_close (Read p) w = place_no_close p w
expr_no_close (Number n) w = refl
expr_no_close (WordNumber n) w = refl
expr_no_close Null w = refl
expr_no_close (Address p) w = refl
expr_no_close (Unary op a) w = refl
expr_no_close (Binary op a b) w = refl
expr_no_close (Cast to a) w = refl

place_no_semicolon : (p : Place) (w : List Token) → begins (marks mark.Semicolon) (spell_place p w) ≡ false
unfolding begins same_mark
place_no_semicolon (Variable n) w = refl
place_no_semicolon (Pointee a) w = refl
place_no_semicolon (Member p n) w = place_no_semicolon p (Sign mark.Dot ∷ Identifier n ∷ w)
place_no_semicolon (Index p a) w = place_no_semicolon p (Sign mark.OpenBracket ∷ spell_expr a (Sign mark.CloseBracket ∷ w))

expr_no_semicolon : (e : Expr) (w : List Token) → begins (marks mark.Semicolon) (spell_expr e w) ≡ false
unfolding begins same_mark
expr_no_semicolon (Read p) w = place_no_semicolon p w
expr_no_semicolon (Number n) w = refl
expr_no_semicolon (WordNumber n) w = refl
expr_no_semicolon Null w = refl
expr_no_semicolon (Address p) w = refl
expr_no_semicolon (Unary op a) w = refl
expr_no_semicolon (Binary op a b) w = refl
expr_no_semicolon (Cast to a) w = refl

place_no_word : (p : Place) (w : List Token) (q : QuotedWord) → begins (words q) (spell_place p w) ≡ false
unfolding begins
place_no_word (Variable n) w q = refl
place_no_word (Pointee a) w q = refl
place_no_word (Member p n) w q = place_no_word p (Sign mark.Dot ∷ Identifier n ∷ w) q
place_no_word (Index p a) w q = place_no_word p (Sign mark.OpenBracket ∷ spell_expr a (Sign mark.CloseBracket ∷ w)) q

-- an expression is none of the calls for memory and input
expr_no_call : (e : Expr) (w : List Token) → (begins (words word.Malloc) (spell_expr e w) ≡ false) × (begins (words word.GetChar) (spell_expr e w) ≡ false)
unfolding begins same_word
expr_no_call (Read p) w = (place_no_word p w word.Malloc, place_no_word p w word.GetChar)
expr_no_call (Number n) w = (refl, refl)
expr_no_call (WordNumber n) w = (refl, refl)
expr_no_call Null w = (refl, refl)
expr_no_call (Address p) w = (refl, refl)
expr_no_call (Unary op a) w = (refl, refl)
expr_no_call (Binary op a b) w = (refl, refl)
expr_no_call (Cast to a) w = (refl, refl)

callee_no_word : (c : CCallee) (w : List Token) (q : QuotedWord) → begins (words q) (spell_callee c w) ≡ false
unfolding begins
callee_no_word (Direct n) w q = refl
callee_no_word (Indirect a) w q = refl

-- ---- arguments and callees

comma_goes : (w : List Token) → begins (marks mark.Comma) (Sign mark.Comma ∷ w) ≡ true
unfolding begins same_mark
comma_goes w = refl

close_stops : (w : List Token) → begins (marks mark.Comma) (Sign mark.Close ∷ w) ≡ false
unfolding begins same_mark
close_stops w = refl

next_argument_takes : (child : Parser Token Expr) → Shrinks child → (found : List Expr) (s : List Token) → Takes (length s) (next_argument child found s)
unfolding next_argument
next_argument_takes child shrinks found s = takes_token (marks mark.Comma) s (λ _. then_shrinks shrinks (λ _. pure_shrinks _))

argument_list : (n : ℕ) (W : Type 0) (child : Parser Token Expr) → Shrinks child
    → Listing n W (spell_next spell_expr) (spell_all (spell_next spell_expr)) (begins (marks mark.Comma)) (next_argument child) NoSelector
argument_list n W child shrinks = record {
  none = λ rest. refl;
  one_more = λ x more rest. refl;
  steady = λ n w s h. same_begins (marks mark.Comma) h;
  takes = next_argument_takes child shrinks;
  shrinks = next_argument_shrinks child shrinks;
  some = λ x rest e. absurd cc;
  goes = λ x rest. comma_goes (spell_expr x rest);
  follows = λ x rest. (no_selector_mark (spell_expr x rest)).3;
}

-- the first tokens are taken at any depth
pub record Taking (child : Parser Token Expr) : Type 0 where
  pub name : (name : List ℕ) (r : List Token) → Short (suc (length r)) (child (Identifier name ∷ r))
  pub open_ : (r : List Token) → Short (suc (length r)) (child (Sign mark.Open ∷ r))
  pub star : (r : List Token) → Short (suc (length r)) (child (Sign mark.Open ∷ Sign mark.Star ∷ r))

module _ (n : ℕ) (W : Type 0) (d : ℕ) (child : Parser Token Expr) (shrinks : Shrinks child) (good : ExprTracked n W d child) where
  argument_items : (all : List Expr) → AllByRecursion IsExpr all → (W → arguments_depth all ≤ d) → AllByRecursion (Item n W (spell_next spell_expr) (spell_all (spell_next spell_expr)) (begins (marks mark.Comma)) (next_argument child) NoSelector) all
  unfolding next_argument
  argument_items [] is deep = tt
  argument_items (a ∷ more) is deep = (
    λ found rest s none h. mark_tracked mark.Comma h (λ _. then_shrinks shrinks (λ _. pure_shrinks _)) (λ r h.
        track_then (good a is.0 (λ w. let all = deep w in grind (arith, all)) rest r none h) (λ _. pure_shrinks _) (λ r h. track_pure (found ++ a ∷ []) h)),
    argument_items more is.1 (λ w. let all = deep w in grind (arith, all)),
  )

  after_first : (more : List Expr) (rest : List Token) → NoSelector rest → NoSelector (spell_all (spell_next spell_expr) more rest)
  after_first [] rest none = none
  after_first (a ∷ more) rest none = (no_selector_mark (spell_expr a (spell_all (spell_next spell_expr) more rest))).3

  arguments_tracked : (all : List Expr) → AllByRecursion IsExpr all → (W → arguments_depth all ≤ d) → (w s : List Token) → Along n (spell_listed spell_expr all (Sign mark.Close ∷ w)) s
      → Tracked n W all (Sign mark.Close ∷ w) (listed_arguments child s)
  unfolding listed_arguments some_arguments begins same_mark
  arguments_tracked [] is deep w s h = track_first (begins (marks mark.Close) s) _ _ (same_begins (marks mark.Close) h) (track_pure [] h)
  arguments_tracked (a ∷ more) is deep w s h =
      let rest = Sign mark.Close ∷ w in
      track_second (begins (marks mark.Close) s) _ _ (same_begins (marks mark.Close) h ∙ expr_no_close a (spell_all (spell_next spell_expr) more rest))
      (track_then (good a is.0 (λ w. let all = deep w in grind (arith, all)) (spell_all (spell_next spell_expr) more rest) s (after_first more rest (no_selector_mark w).0) h)
      (λ b. repeat_shrinks (begins (marks mark.Comma)) (next_argument child) (next_argument_shrinks child shrinks) (b ∷ [])) (λ r h.
      track_list n W (spell_next spell_expr) (spell_all (spell_next spell_expr)) (begins (marks mark.Comma)) (next_argument child) NoSelector (argument_list n W child shrinks) more
      (argument_items more is.1 (λ w. let all = deep w in grind (arith, all))) rest (no_selector_mark w).0 (close_stops w) (a ∷ []) r h))

  call_tracked : (into : Option Place) (c : CCallee) (all : List Expr) → AllByRecursion IsExpr all → (W → arguments_depth all ≤ d) → (rest s : List Token)
      → Along n (Sign mark.Open ∷ spell_listed spell_expr all (Sign mark.Close ∷ Sign mark.Semicolon ∷ rest)) s → Tracked n W (Call into c all) rest (call child into c s)
  unfolding call
  call_tracked into c all is deep rest s h =
      tracked_arguments child s (λ all s. Ok (Call into c all, s)) (mark_tracked mark.Open h (λ _. then_shrinks (arguments_shrinks child shrinks) (λ _. then_shrinks (one_shrinks _) (λ _. then_shrinks (one_shrinks _) (λ _. pure_shrinks _)))) (λ r h.
      track_then (arguments_tracked all is deep (Sign mark.Semicolon ∷ rest) r h) (λ _. then_shrinks (one_shrinks _) (λ _. then_shrinks (one_shrinks _) (λ _. pure_shrinks _))) (λ r h.
      mark_tracked mark.Close h (λ _. then_shrinks (one_shrinks _) (λ _. pure_shrinks _)) (λ r h. mark_tracked mark.Semicolon h (λ _. pure_shrinks _) (λ r h. track_pure (Call into c all) h)))))

  callee_tracked : (c : CCallee) → IsCallee c → (W → callee_depth c ≤ d) → (rest s : List Token) → Along n (spell_callee c rest) s → Tracked n W c rest (callee child s)
  unfolding callee indirect begins same_mark
  callee_tracked (Direct name) is deep rest s h = track_first (begins names s) _ _ (same_begins names h) (name_tracked name h (λ _. pure_shrinks _) (λ r h. track_pure (Direct name) h))
  callee_tracked (Indirect a) is deep rest s h =
      track_second (begins names s) _ _ (same_begins names h)
      (mark_tracked mark.Open h (λ _. then_shrinks (one_shrinks _) (λ _. then_shrinks (closed_shrinks child shrinks) (λ _. pure_shrinks _))) (λ r h.
      mark_tracked mark.Star h (λ _. then_shrinks (closed_shrinks child shrinks) (λ _. pure_shrinks _)) (λ r h.
      tracked_closed child r (λ a s. Ok (Indirect a, s)) (track_then (good a is deep (Sign mark.Close ∷ rest) r (no_selector_mark rest).0 h) (λ _. then_shrinks (one_shrinks _) (λ _. pure_shrinks _)) (λ r h.
      mark_tracked mark.Close h (λ _. pure_shrinks _) (λ r h. track_pure (Indirect a) h))))))

  call_into_tracked : (p : Place) (c : CCallee) (all : List Expr) → IsCallee c → (W → callee_depth c ≤ d) → AllByRecursion IsExpr all → (W → arguments_depth all ≤ d) → (rest s : List Token)
      → Along n (spell_callee c (Sign mark.Open ∷ spell_listed spell_expr all (Sign mark.Close ∷ Sign mark.Semicolon ∷ rest))) s → Tracked n W (Call (Some p) c all) rest (call_into child p s)
  unfolding call_into
  call_into_tracked p c all isc deep is deep' rest s h =
      track_then (callee_tracked c isc deep (Sign mark.Open ∷ spell_listed spell_expr all (Sign mark.Close ∷ Sign mark.Semicolon ∷ rest)) s h) (λ c. call_shrinks child shrinks (Some p) c) (λ r h. call_tracked (Some p) c all is deep' rest r h)

  value_tracked : (p : Place) (a : Expr) → IsExpr a → (W → expr_depth a ≤ d) → (rest s : List Token) → Along n (spell_expr a (Sign mark.Semicolon ∷ rest)) s → Tracked n W (Assign p a) rest (value child p s)
  unfolding value
  value_tracked p a is deep rest s h =
      track_then (good a is deep (Sign mark.Semicolon ∷ rest) s (no_selector_mark rest).2 h) (λ _. then_shrinks (one_shrinks _) (λ _. pure_shrinks _)) (λ r h.
      mark_tracked mark.Semicolon h (λ _. pure_shrinks _) (λ r h. track_pure (Assign p a) h))

-- ---- a value or a call

calls_direct : (name : List ℕ) (r : List Token) → calls (Identifier name ∷ r) ≡ begins (marks mark.Open) r
unfolding calls begins
calls_direct name r = refl

calls_indirect : (a : Expr) (r : List Token) → calls (Sign mark.Open ∷ Sign mark.Star ∷ spell_expr a (Sign mark.Close ∷ r)) ≡ begins (marks mark.Open) r
unfolding calls begins same_mark after_group
calls_indirect a r = ap (begins (marks mark.Open)) (expr_skipped a 0 (Sign mark.Close ∷ r))

-- what is in parentheses and is no pointee is no callee
calls_none : (r : List Token) → begins (marks mark.Star) r ≡ false → calls (Sign mark.Open ∷ r) ≡ false
unfolding calls begins same_mark
calls_none r e = ap (λ b. elim b [ false ↦ false | true ↦ begins (marks mark.Open) (after_group 0 r) ]) e

module _ (W : Type 0) (d : ℕ) (child : Parser Token Expr) (shrinks : Shrinks child) (good : (n : ℕ) (V : Type 0) → ExprTracked n V d child) (taking : Taking child) (p : Place) where
  value_short : (n : ℕ) (s : List Token) → Short n (child s) → Short n (value child p s)
  unfolding value
  value_short n s h = short_then h (λ _. then_shrinks (one_shrinks _) (λ _. pure_shrinks _))

  call_name_short : (name : List ℕ) (r : List Token) → Short (suc (length r)) (call_into child p (Identifier name ∷ r))
  unfolding call_into callee begins
  call_name_short name r = short_then (begun_short names (Identifier name) r refl (λ _. pure_shrinks _)) (λ c. call_shrinks child shrinks (Some p) c)

  call_open_short : (r : List Token) → Short (suc (length r)) (call_into child p (Sign mark.Open ∷ r))
  unfolding call_into callee indirect begins same_mark
  call_open_short r =
      short_then (begun_short (marks mark.Open) (Sign mark.Open) r refl (λ _. then_shrinks (one_shrinks _) (λ _. then_shrinks (closed_shrinks child shrinks) (λ _. pure_shrinks _)))) (λ c. call_shrinks child shrinks (Some p) c)

  -- the text has a call, of which the parenthesis is not seen
  no_call_seen : (n : ℕ) (y : Statement) (rest : List Token) (c : CCallee) (w s : List Token) → IsCallee c → Along n (spell_callee c (Sign mark.Open ∷ w)) s → calls s ≡ false → Tracked n W y rest (value child p s)
  unfolding begins same_mark
  no_call_seen _ y rest (Direct name) w _ is (last _ _ r) e = short_tracked (omega arith) (value_short (suc (length r)) (Identifier name ∷ r) (taking.name name r))
  no_call_seen n y rest (Direct name) w _ is (longer _ _ _ r h) e = let seen = sym (calls_direct name r) ∙ e in let next = same_begins (marks mark.Open) h in absurd cc
  no_call_seen _ y rest (Indirect a) w _ is (last _ _ r) e = short_tracked (omega arith) (value_short (suc (length r)) (Sign mark.Open ∷ r) (taking.open_ r))
  no_call_seen _ y rest (Indirect a) w _ is (longer _ _ _ _ (last _ _ r)) e = short_tracked (omega arith) (value_short (suc (length r)) (Sign mark.Open ∷ Sign mark.Star ∷ r) (taking.star r))
  no_call_seen n y rest (Indirect a) w _ is (longer _ _ _ _ (longer _ _ _ s h)) e =
      by (along_split n (spell_expr a (Sign mark.Close ∷ [])) (Sign mark.Open ∷ w) s (subst (λ z. Along n z s) (expr_follow a (Sign mark.Close ∷ []) (Sign mark.Open ∷ w)) h))
    where
      by : ((0 < n) × ((z : List Token) → Along n (spell_expr a (Sign mark.Close ∷ []) ++ z) s)) ⊎ ((r : List Token) × (s ≡ spell_expr a (Sign mark.Close ∷ []) ++ r) × Along n (Sign mark.Open ∷ w) r)
          → Tracked n W y rest (value child p (Sign mark.Open ∷ Sign mark.Star ∷ s))
      by (inl (some, any)) =
          let there = subst (λ z. Along n z s) (sym (expr_follow a (Sign mark.Close ∷ []) (Sign mark.Semicolon ∷ []))) (any (Sign mark.Semicolon ∷ [])) in
          other_text some (value_tracked n ⊥ d child shrinks (good n ⊥) p (Read (Pointee a)) is (λ v. absurd v) [] (Sign mark.Open ∷ Sign mark.Star ∷ s) (longer n (Sign mark.Open) _ _ (longer n (Sign mark.Star) _ s there)))
      by (inr (r, same, after)) =
          let whole : s ≡ spell_expr a (Sign mark.Close ∷ r) = same ∙ sym (expr_follow a (Sign mark.Close ∷ []) r) in
          let seen = sym (calls_indirect a r) ∙ ap (λ z. calls (Sign mark.Open ∷ Sign mark.Star ∷ z)) (sym whole) ∙ e in
          let next = same_begins (marks mark.Open) after in absurd cc

  -- the text has no call, and one is seen
  call_of_place : (n : ℕ) (y : Statement) (rest : List Token) (q : Place) (w s : List Token) → IsPlace q → begins (marks mark.Open) w ≡ false → Along n (spell_place q w) s → calls s ≡ true → Tracked n W y rest (call_into child p s)
  unfolding begins same_mark
  call_of_place _ y rest (Variable name) w _ is none (last _ _ r) e = short_tracked (omega arith) (call_name_short name r)
  call_of_place n y rest (Variable name) w _ is none (longer _ _ _ r h) e = let seen = sym (calls_direct name r) ∙ e in let next = same_begins (marks mark.Open) h in absurd cc
  call_of_place _ y rest (Pointee a) w _ is none (last _ _ r) e = short_tracked (omega arith) (call_open_short r)
  call_of_place n y rest (Pointee a) w _ is none (longer _ _ _ s h) e =
      by (along_split n (Sign mark.Star ∷ spell_expr a (Sign mark.Close ∷ [])) w s (subst (λ z. Along n z s) (ap (λ z. Sign mark.Star ∷ z) (expr_follow a (Sign mark.Close ∷ []) w)) h))
    where
      by : ((0 < n) × ((z : List Token) → Along n ((Sign mark.Star ∷ spell_expr a (Sign mark.Close ∷ [])) ++ z) s)) ⊎ ((r : List Token) × (s ≡ (Sign mark.Star ∷ spell_expr a (Sign mark.Close ∷ [])) ++ r) × Along n w r)
          → Tracked n W y rest (call_into child p (Sign mark.Open ∷ s))
      by (inl (some, any)) =
          let more = Sign mark.Open ∷ Sign mark.Close ∷ Sign mark.Semicolon ∷ [] in
          let there = subst (λ z. Along n z s) (sym (ap (λ z. Sign mark.Star ∷ z) (expr_follow a (Sign mark.Close ∷ []) more))) (any more) in
          other_text some (call_into_tracked n ⊥ d child shrinks (good n ⊥) p (Indirect a) [] is (λ v. absurd v) tt (λ v. absurd v) [] (Sign mark.Open ∷ s) (longer n (Sign mark.Open) _ s there))
      by (inr (r, same, after)) =
          let whole : s ≡ Sign mark.Star ∷ spell_expr a (Sign mark.Close ∷ r) = same ∙ ap (λ z. Sign mark.Star ∷ z) (sym (expr_follow a (Sign mark.Close ∷ []) r)) in
          let seen = sym (calls_indirect a r) ∙ ap (λ z. calls (Sign mark.Open ∷ z)) (sym whole) ∙ e in
          let next = same_begins (marks mark.Open) after in absurd cc
  call_of_place n y rest (Member q name) w s is none h e = call_of_place n y rest q (Sign mark.Dot ∷ Identifier name ∷ w) s is.0 refl h e
  call_of_place n y rest (Index q a) w s is none h e = call_of_place n y rest q (Sign mark.OpenBracket ∷ spell_expr a (Sign mark.CloseBracket ∷ w)) s is.0 refl h e

  -- an expression in parentheses
  call_of_group : (n : ℕ) (y : Statement) (rest w s : List Token) → begins (marks mark.Star) w ≡ false → Along n (Sign mark.Open ∷ w) s → calls s ≡ true → Tracked n W y rest (call_into child p s)
  call_of_group _ y rest w _ none (last _ _ r) e = short_tracked (omega arith) (call_open_short r)
  call_of_group n y rest w _ none (longer _ _ _ r h) e = let seen = calls_none r (same_begins (marks mark.Star) h ∙ none) in absurd cc

  call_of_word : (n : ℕ) (y : Statement) (rest : List Token) (q : QuotedWord) (w s : List Token) → Along n (Quoted q ∷ w) s → calls s ≡ true → Tracked n W y rest (call_into child p s)
  unfolding calls begins
  call_of_word _ y rest q w _ (last _ _ r) e = absurd cc
  call_of_word n y rest q w _ (longer _ _ _ r h) e = absurd cc

  call_of_value : (n : ℕ) (y : Statement) (rest : List Token) (a : Expr) (w s : List Token) → IsExpr a → Along n (spell_expr a (Sign mark.Semicolon ∷ w)) s → calls s ≡ true → Tracked n W y rest (call_into child p s)
  unfolding begins same_mark
  call_of_value n y rest (Read q) w s is h e = call_of_place n y rest q (Sign mark.Semicolon ∷ w) s is refl h e
  call_of_value n y rest (Number m) w s is h e = call_of_word n y rest word.Int64 _ s h e
  call_of_value n y rest (WordNumber m) w s is h e = call_of_word n y rest word.Uint64 _ s h e
  call_of_value n y rest Null w s is h e = call_of_word n y rest word.Null _ s h e
  call_of_value n y rest (Address q) w s is h e = call_of_group n y rest _ s refl h e
  call_of_value n y rest (Unary op a) w s is h e = call_of_group n y rest _ s (unary_no_star op (spell_expr a (Sign mark.Close ∷ Sign mark.Semicolon ∷ w))) h e
  call_of_value n y rest (Binary op a b) w s is h e = call_of_group n y rest _ s (expr_starts a (Sign (binary_mark op) ∷ spell_expr b (Sign mark.Close ∷ Sign mark.Semicolon ∷ w))).star h e
  call_of_value n y rest (Cast to a) w s is h e = call_of_group n y rest _ s refl h e

  call_chosen : (n : ℕ) (y : Statement) (rest : List Token) (c : CCallee) (w s : List Token) → IsCallee c → Along n (spell_callee c (Sign mark.Open ∷ w)) s → Tracked n W y rest (call_into child p s)
      → (b : Bool) → calls s ≡ b → Tracked n W y rest (elim b [ true ↦ call_into child p s | false ↦ value child p s ])
  call_chosen n y rest c w s is h k true e = k
  call_chosen n y rest c w s is h k false e = no_call_seen n y rest c w s is h e

  value_chosen : (n : ℕ) (y : Statement) (rest : List Token) (a : Expr) (w s : List Token) → IsExpr a → Along n (spell_expr a (Sign mark.Semicolon ∷ w)) s → Tracked n W y rest (value child p s)
      → (b : Bool) → calls s ≡ b → Tracked n W y rest (elim b [ true ↦ call_into child p s | false ↦ value child p s ])
  value_chosen n y rest a w s is h k true e = call_of_value n y rest a w s is h e
  value_chosen n y rest a w s is h k false e = k

-- ---- statements

abbrev pub NoElse : List Token → Type 0
NoElse rest = begins (words word.Else) rest ≡ false

abbrev pub StatementTracked : ℕ → Type 0 → ℕ → Parser Token Statement → Type 0
StatementTracked n W d p = (a : Statement) → IsStatement a → (W → statement_depth a ≤ d) → (rest s : List Token) → NoElse rest → Along n (spell_statement a rest) s → Tracked n W a rest (p s)

-- with what a statement begins
record Begun (w : List Token) : Type 0 where
  some : w ≡ [] → ⊥
  no_brace : no_brace w ≡ true
  no_else : NoElse w

place_begun : (p : Place) (w : List Token) → Begun (spell_place p w)
unfolding begins same_mark same_word
place_begun (Variable n) w = record { some = λ e. absurd cc; no_brace = refl; no_else = refl }
place_begun (Pointee a) w = record { some = λ e. absurd cc; no_brace = refl; no_else = refl }
place_begun (Member p n) w = place_begun p (Sign mark.Dot ∷ Identifier n ∷ w)
place_begun (Index p a) w = place_begun p (Sign mark.OpenBracket ∷ spell_expr a (Sign mark.CloseBracket ∷ w))

callee_begun : (c : CCallee) (w : List Token) → Begun (spell_callee c w)
unfolding begins same_mark same_word
callee_begun (Direct n) w = record { some = λ e. absurd cc; no_brace = refl; no_else = refl }
callee_begun (Indirect a) w = record { some = λ e. absurd cc; no_brace = refl; no_else = refl }

statement_begun : (a : Statement) (w : List Token) → Begun (spell_statement a w)
unfolding begins same_mark same_word
statement_begun (Assign p a) w = place_begun p (Sign mark.Assign ∷ spell_expr a (Sign mark.Semicolon ∷ w))
statement_begun (Call None c all) w = callee_begun c (Sign mark.Open ∷ spell_listed spell_expr all (Sign mark.Close ∷ Sign mark.Semicolon ∷ w))
statement_begun (Call (Some p) c all) w = place_begun p (Sign mark.Assign ∷ spell_callee c (Sign mark.Open ∷ spell_listed spell_expr all (Sign mark.Close ∷ Sign mark.Semicolon ∷ w)))
statement_begun (Malloc p of) w = place_begun p (Sign mark.Assign ∷ Quoted word.Malloc ∷ Sign mark.Open ∷ Quoted word.SizeOf ∷ Sign mark.Open ∷ spell_type of (Sign mark.Close ∷ Sign mark.Close ∷ Sign mark.Semicolon ∷ w))
statement_begun (Free a) w = record { some = λ e. absurd cc; no_brace = refl; no_else = refl }
statement_begun (GetChar p) w = place_begun p (Sign mark.Assign ∷ Quoted word.GetChar ∷ Sign mark.Open ∷ Sign mark.Close ∷ Sign mark.Semicolon ∷ w)
statement_begun (PutChar a) w = record { some = λ e. absurd cc; no_brace = refl; no_else = refl }
statement_begun (If test a) w = record { some = λ e. absurd cc; no_brace = refl; no_else = refl }
statement_begun (IfElse test a b) w = record { some = λ e. absurd cc; no_brace = refl; no_else = refl }
statement_begun (While test a) w = record { some = λ e. absurd cc; no_brace = refl; no_else = refl }
statement_begun (Goto l) w = record { some = λ e. absurd cc; no_brace = refl; no_else = refl }
statement_begun (Label l) w = record { some = λ e. absurd cc; no_brace = refl; no_else = refl }
statement_begun (Return a) w = record { some = λ e. absurd cc; no_brace = refl; no_else = refl }

pub brace_steady : (n : ℕ) (w s : List Token) → Along n w s → no_brace s ≡ no_brace w
unfolding begins
brace_steady _ _ _ ended = refl
brace_steady _ _ _ (last t w r) = refl
brace_steady _ _ _ (longer n t w r h) = refl

brace_next : (w : List Token) → (no_brace (Sign mark.CloseBrace ∷ w) ≡ false) × NoElse (Sign mark.CloseBrace ∷ w)
unfolding begins same_mark
brace_next w = (refl, refl)

module _ (n : ℕ) (W : Type 0) (d : ℕ) (child : Parser Token Expr) (shrinks : Shrinks child) (good : (n : ℕ) (V : Type 0) → ExprTracked n V d child) (taking : Taking child) where
  -- what may stand after a place
  abbrev After : Place → (List Token → List Token) → Statement → Type 0
  After p text y = (rest s : List Token) → Along n (text rest) s → Tracked n W y rest (placed child p s)

  assign_tracked : (p : Place) (y : Statement) (rest w s : List Token) → Along n (Sign mark.Assign ∷ w) s
      → ((r : List Token) → Along n w r → Tracked n W y rest (either (begins (words word.Malloc)) (malloc p) (either (begins (words word.GetChar)) (get_char p) (either calls (call_into child p) (value child p))) r))
      → Tracked n W y rest (placed child p s)
  unfolding placed assigned begins same_mark
  assign_tracked p y rest w s h k =
      track_first (begins (marks mark.Assign) s) _ _ (same_begins (marks mark.Assign) h)
      (mark_tracked mark.Assign h (λ _. either_shrinks (begins (words word.Malloc)) (malloc_shrinks child shrinks p) (either_shrinks (begins (words word.GetChar)) (get_char_shrinks child shrinks p)
      (either_shrinks calls (call_into_shrinks child shrinks p) (value_shrinks child shrinks p)))) k)

  malloc_tracked : (p : Place) (of : ObjectType) (rest s : List Token)
      → Along n (Sign mark.Assign ∷ Quoted word.Malloc ∷ Sign mark.Open ∷ Quoted word.SizeOf ∷ Sign mark.Open ∷ spell_type of (Sign mark.Close ∷ Sign mark.Close ∷ Sign mark.Semicolon ∷ rest)) s → Tracked n W (Malloc p of) rest (placed child p s)
  unfolding malloc malloc_opening begins same_word same_mark
  malloc_tracked p of rest s h =
      assign_tracked p (Malloc p of) rest _ s h (λ r h. track_first (begins (words word.Malloc) r) _ _ (same_begins (words word.Malloc) h)
      (track_then (word_tracked {y = tt} {rest' = spell_type of (Sign mark.Close ∷ Sign mark.Close ∷ Sign mark.Semicolon ∷ rest)} word.Malloc h (λ _. then_shrinks (one_shrinks _) (λ _. then_shrinks (one_shrinks _) (λ _. then_shrinks (one_shrinks _) (λ _. pure_shrinks _)))) (λ r h.
      mark_tracked mark.Open h (λ _. then_shrinks (one_shrinks _) (λ _. then_shrinks (one_shrinks _) (λ _. pure_shrinks _))) (λ r h.
      word_tracked word.SizeOf h (λ _. then_shrinks (one_shrinks _) (λ _. pure_shrinks _)) (λ r h. mark_tracked mark.Open h (λ _. pure_shrinks _) (λ r h. track_pure tt h)))))
      (λ _. then_shrinks type_shrinks (λ _. then_shrinks (one_shrinks _) (λ _. then_shrinks (one_shrinks _) (λ _. then_shrinks (one_shrinks _) (λ _. pure_shrinks _))))) (λ r h.
      track_then (type_tracked n W of (Sign mark.Close ∷ Sign mark.Close ∷ Sign mark.Semicolon ∷ rest) r refl h) (λ _. then_shrinks (one_shrinks _) (λ _. then_shrinks (one_shrinks _) (λ _. then_shrinks (one_shrinks _) (λ _. pure_shrinks _)))) (λ r h.
      mark_tracked mark.Close h (λ _. then_shrinks (one_shrinks _) (λ _. then_shrinks (one_shrinks _) (λ _. pure_shrinks _))) (λ r h.
      mark_tracked mark.Close h (λ _. then_shrinks (one_shrinks _) (λ _. pure_shrinks _)) (λ r h.
      mark_tracked mark.Semicolon h (λ _. pure_shrinks _) (λ r h. track_pure (Malloc p of) h)))))))

  get_char_tracked : (p : Place) (rest s : List Token) → Along n (Sign mark.Assign ∷ Quoted word.GetChar ∷ Sign mark.Open ∷ Sign mark.Close ∷ Sign mark.Semicolon ∷ rest) s → Tracked n W (GetChar p) rest (placed child p s)
  unfolding get_char begins same_word
  get_char_tracked p rest s h =
      assign_tracked p (GetChar p) rest _ s h (λ r h. track_second (begins (words word.Malloc) r) _ _ (same_begins (words word.Malloc) h) (track_first (begins (words word.GetChar) r) _ _ (same_begins (words word.GetChar) h)
      (word_tracked word.GetChar h (λ _. then_shrinks (one_shrinks _) (λ _. then_shrinks (one_shrinks _) (λ _. then_shrinks (one_shrinks _) (λ _. pure_shrinks _)))) (λ r h.
      mark_tracked mark.Open h (λ _. then_shrinks (one_shrinks _) (λ _. then_shrinks (one_shrinks _) (λ _. pure_shrinks _))) (λ r h.
      mark_tracked mark.Close h (λ _. then_shrinks (one_shrinks _) (λ _. pure_shrinks _)) (λ r h.
      mark_tracked mark.Semicolon h (λ _. pure_shrinks _) (λ r h. track_pure (GetChar p) h)))))))

  value_there : (p : Place) (a : Expr) → IsExpr a → (W → expr_depth a ≤ d) → (rest s : List Token) → Along n (Sign mark.Assign ∷ spell_expr a (Sign mark.Semicolon ∷ rest)) s → Tracked n W (Assign p a) rest (placed child p s)
  value_there p a is deep rest s h =
      assign_tracked p (Assign p a) rest _ s h (λ r h. let none = expr_no_call a (Sign mark.Semicolon ∷ rest) in
      track_second (begins (words word.Malloc) r) _ _ (same_begins (words word.Malloc) h ∙ none.0) (track_second (begins (words word.GetChar) r) _ _ (same_begins (words word.GetChar) h ∙ none.1)
      (value_chosen W d child shrinks good taking p n (Assign p a) rest a rest r is h (value_tracked n W d child shrinks (good n W) p a is deep rest r h) (calls r) refl)))

  call_there : (p : Place) (c : CCallee) (all : List Expr) → IsCallee c → (W → callee_depth c ≤ d) → AllByRecursion IsExpr all → (W → arguments_depth all ≤ d) → (rest s : List Token)
      → Along n (Sign mark.Assign ∷ spell_callee c (Sign mark.Open ∷ spell_listed spell_expr all (Sign mark.Close ∷ Sign mark.Semicolon ∷ rest))) s → Tracked n W (Call (Some p) c all) rest (placed child p s)
  call_there p c all isc deep is deep' rest s h =
      assign_tracked p (Call (Some p) c all) rest _ s h (λ r h. let w = spell_listed spell_expr all (Sign mark.Close ∷ Sign mark.Semicolon ∷ rest) in
      track_second (begins (words word.Malloc) r) _ _ (same_begins (words word.Malloc) h ∙ callee_no_word c (Sign mark.Open ∷ w) word.Malloc) (track_second (begins (words word.GetChar) r) _ _ (same_begins (words word.GetChar) h ∙ callee_no_word c (Sign mark.Open ∷ w) word.GetChar)
      (call_chosen W d child shrinks good taking p n (Call (Some p) c all) rest c w r isc h (call_into_tracked n W d child shrinks (good n W) p c all isc deep is deep' rest r h) (calls r) refl)))

  -- a statement that begins with a place
  by_place : (p : Place) → IsPlace p → (W → place_depth p ≤ d) → (y : Statement) (rest w s : List Token) → NoSelector w → Along n (spell_place p w) s → ((r : List Token) → Along n w r → Tracked n W y rest (placed child p r)) → Tracked n W y rest (simple child s)
  unfolding simple
  by_place p is deep y rest w s none h k =
      track_second (begins (words word.Free) s) _ _ (same_begins (words word.Free) h ∙ place_no_word p w word.Free) (track_second (begins (words word.PutChar) s) _ _ (same_begins (words word.PutChar) h ∙ place_no_word p w word.PutChar)
      (track_second (begins (words word.Goto) s) _ _ (same_begins (words word.Goto) h ∙ place_no_word p w word.Goto) (track_second (begins (words word.Return) s) _ _ (same_begins (words word.Return) h ∙ place_no_word p w word.Return)
      (track_then (place_tracked n W d child shrinks (good n W) p is deep w s none h) (placed_shrinks child shrinks) k))))

  plain_call : (p : Place) (c : CCallee) (all : List Expr) → callee_of p ≡ Some c → AllByRecursion IsExpr all → (W → arguments_depth all ≤ d) → (rest s : List Token)
      → Along n (Sign mark.Open ∷ spell_listed spell_expr all (Sign mark.Close ∷ Sign mark.Semicolon ∷ rest)) s → Tracked n W (Call None c all) rest (placed child p s)
  unfolding placed begins same_mark
  plain_call p c all same is deep rest s h =
      track_second (begins (marks mark.Assign) s) _ _ (same_begins (marks mark.Assign) h) (track_first (begins (marks mark.Open) s) _ _ (same_begins (marks mark.Open) h)
      (subst (λ o. Tracked n W (Call None c all) rest (called child o s)) (sym same) (call_tracked n W d child shrinks (good n W) None c all is deep rest s h)))

  label_tracked : (l : List ℕ) (rest s : List Token) → Along n (Sign mark.Colon ∷ Sign mark.Semicolon ∷ rest) s → Tracked n W (Label l) rest (placed child (Variable l) s)
  unfolding placed begins same_mark
  label_tracked l rest s h =
      track_second (begins (marks mark.Assign) s) _ _ (same_begins (marks mark.Assign) h) (track_second (begins (marks mark.Open) s) _ _ (same_begins (marks mark.Open) h)
      (mark_tracked mark.Colon h (λ _. then_shrinks (one_shrinks _) (λ _. pure_shrinks _)) (λ r h. mark_tracked mark.Semicolon h (λ _. pure_shrinks _) (λ r h. track_pure (Label l) h))))

  enclosed_tracked : (a : Expr) → IsExpr a → (W → expr_depth a ≤ d) → (rest s : List Token) → Along n (Sign mark.Open ∷ spell_expr a (Sign mark.Close ∷ rest)) s → Tracked n W a rest (enclosed child s)
  unfolding enclosed closed
  enclosed_tracked a is deep rest s h =
      mark_tracked mark.Open h (λ _. then_shrinks shrinks (λ _. then_shrinks (one_shrinks _) (λ _. pure_shrinks _))) (λ r h.
      track_then (good n W a is deep (Sign mark.Close ∷ rest) r (no_selector_mark rest).0 h) (λ _. then_shrinks (one_shrinks _) (λ _. pure_shrinks _)) (λ r h. mark_tracked mark.Close h (λ _. pure_shrinks _) (λ r h. track_pure a h)))

  free_tracked : (a : Expr) → IsExpr a → (W → expr_depth a ≤ d) → (rest s : List Token) → Along n (spell_statement (Free a) rest) s → Tracked n W (Free a) rest (simple child s)
  unfolding simple free begins same_word
  free_tracked a is deep rest s h =
      track_first (begins (words word.Free) s) _ _ (same_begins (words word.Free) h)
      (word_tracked word.Free h (λ _. then_shrinks (enclosed_shrinks child shrinks) (λ _. then_shrinks (one_shrinks _) (λ _. pure_shrinks _))) (λ r h.
      track_then (enclosed_tracked a is deep (Sign mark.Semicolon ∷ rest) r h) (λ _. then_shrinks (one_shrinks _) (λ _. pure_shrinks _)) (λ r h. mark_tracked mark.Semicolon h (λ _. pure_shrinks _) (λ r h. track_pure (Free a) h))))

  put_char_tracked : (a : Expr) → IsExpr a → (W → expr_depth a ≤ d) → (rest s : List Token) → Along n (spell_statement (PutChar a) rest) s → Tracked n W (PutChar a) rest (simple child s)
  unfolding simple put_char begins same_word
  put_char_tracked a is deep rest s h =
      track_second (begins (words word.Free) s) _ _ (same_begins (words word.Free) h) (track_first (begins (words word.PutChar) s) _ _ (same_begins (words word.PutChar) h)
      (word_tracked word.PutChar h (λ _. then_shrinks (enclosed_shrinks child shrinks) (λ _. then_shrinks (one_shrinks _) (λ _. pure_shrinks _))) (λ r h.
      track_then (enclosed_tracked a is deep (Sign mark.Semicolon ∷ rest) r h) (λ _. then_shrinks (one_shrinks _) (λ _. pure_shrinks _)) (λ r h. mark_tracked mark.Semicolon h (λ _. pure_shrinks _) (λ r h. track_pure (PutChar a) h)))))

  goto_tracked : (l : List ℕ) (rest s : List Token) → Along n (spell_statement (Goto l) rest) s → Tracked n W (Goto l) rest (simple child s)
  unfolding simple goto begins same_word
  goto_tracked l rest s h =
      track_second (begins (words word.Free) s) _ _ (same_begins (words word.Free) h) (track_second (begins (words word.PutChar) s) _ _ (same_begins (words word.PutChar) h) (track_first (begins (words word.Goto) s) _ _ (same_begins (words word.Goto) h)
      (word_tracked word.Goto h (λ _. then_shrinks (one_shrinks _) (λ _. then_shrinks (one_shrinks _) (λ _. pure_shrinks _))) (λ r h.
      name_tracked l h (λ _. then_shrinks (one_shrinks _) (λ _. pure_shrinks _)) (λ r h. mark_tracked mark.Semicolon h (λ _. pure_shrinks _) (λ r h. track_pure (Goto l) h))))))

  returned_tracked : (a : Option Expr) → IfSome a IsExpr → (W → value_depth a ≤ d) → (rest s : List Token) → Along n (spell_value a (Sign mark.Semicolon ∷ rest)) s → Tracked n W a (Sign mark.Semicolon ∷ rest) (returned child s)
  unfolding returned begins same_mark
  returned_tracked None is deep rest s h = track_first (begins (marks mark.Semicolon) s) _ _ (same_begins (marks mark.Semicolon) h) (track_pure None h)
  returned_tracked (Some a) is deep rest s h =
      track_second (begins (marks mark.Semicolon) s) _ _ (same_begins (marks mark.Semicolon) h ∙ expr_no_semicolon a (Sign mark.Semicolon ∷ rest))
      (track_then (good n W a is deep (Sign mark.Semicolon ∷ rest) s (no_selector_mark rest).2 h) (λ _. pure_shrinks _) (λ r h. track_pure (Some a) h))

  return_tracked : (a : Option Expr) → IfSome a IsExpr → (W → value_depth a ≤ d) → (rest s : List Token) → Along n (spell_statement (Return a) rest) s → Tracked n W (Return a) rest (simple child s)
  unfolding simple return_with begins same_word
  return_tracked a is deep rest s h =
      track_second (begins (words word.Free) s) _ _ (same_begins (words word.Free) h) (track_second (begins (words word.PutChar) s) _ _ (same_begins (words word.PutChar) h) (track_second (begins (words word.Goto) s) _ _ (same_begins (words word.Goto) h)
      (track_first (begins (words word.Return) s) _ _ (same_begins (words word.Return) h)
      (word_tracked word.Return h (λ _. then_shrinks (returned_shrinks child shrinks) (λ _. then_shrinks (one_shrinks _) (λ _. pure_shrinks _))) (λ r h.
      track_then (returned_tracked a is deep rest r h) (λ _. then_shrinks (one_shrinks _) (λ _. pure_shrinks _)) (λ r h. mark_tracked mark.Semicolon h (λ _. pure_shrinks _) (λ r h. track_pure (Return a) h)))))))

  -- ---- statements with bodies

  module _ (inside : Parser Token Statement) (shrinks' : Shrinks inside) (takes' : (s : List Token) → Takes (length s) (inside s)) (good' : StatementTracked n W d inside) where
    next_takes : (found : List Statement) (s : List Token) → Takes (length s) (next_statement inside found s)
    unfolding next_statement
    next_takes found s = takes_then (length s) (inside s) (takes' s) (λ _. pure_shrinks _)

    statement_list : Listing n W spell_statement (λ all. spell_body (body_of all)) no_brace (next_statement inside) NoElse
    statement_list = record {
      none = λ rest. refl;
      one_more = λ x more rest. refl;
      steady = brace_steady;
      takes = next_takes;
      shrinks = next_statement_shrinks child shrinks inside shrinks';
      some = λ x rest. (statement_begun x rest).some;
      goes = λ x rest. (statement_begun x rest).no_brace;
      follows = λ x rest. (statement_begun x rest).no_else;
    }

    statement_items : (all : List Statement) → IsBody (body_of all) → (W → body_depth (body_of all) ≤ d)
        → AllByRecursion (Item n W spell_statement (λ all. spell_body (body_of all)) no_brace (next_statement inside) NoElse) all
    unfolding next_statement
    statement_items [] is deep = tt
    statement_items (a ∷ more) is deep = (
      λ found rest s none h. track_then (good' a is.0 (λ w. let all = deep w in grind (arith, all)) rest s none h) (λ _. pure_shrinks _) (λ r h. track_pure (found ++ a ∷ []) h),
      statement_items more is.1 (λ w. let all = deep w in grind (arith, all)),
    )

    pub statements_tracked : (all : List Statement) → IsBody (body_of all) → (W → body_depth (body_of all) ≤ d) → (rest s : List Token) → Along n (spell_body (body_of all) (Sign mark.CloseBrace ∷ rest)) s
        → Tracked n W all (Sign mark.CloseBrace ∷ rest) (statements inside s)
    unfolding statements
    statements_tracked all is deep rest s h =
        track_list n W spell_statement (λ all. spell_body (body_of all)) no_brace (next_statement inside) NoElse statement_list all (statement_items all is deep) (Sign mark.CloseBrace ∷ rest) (brace_next rest).1 (brace_next rest).0 [] s h

    body_tracked : (all : List Statement) → IsBody (body_of all) → (W → body_depth (body_of all) ≤ d) → (rest s : List Token) → Along n (Sign mark.OpenBrace ∷ spell_body (body_of all) (Sign mark.CloseBrace ∷ rest)) s
        → Tracked n W all rest (body inside s)
    unfolding body
    body_tracked all is deep rest s h =
        mark_tracked mark.OpenBrace h (λ _. then_shrinks (statements_shrinks child shrinks inside shrinks') (λ _. then_shrinks (one_shrinks _) (λ _. pure_shrinks _))) (λ r h.
        track_then (statements_tracked all is deep rest r h) (λ _. then_shrinks (one_shrinks _) (λ _. pure_shrinks _)) (λ r h. mark_tracked mark.CloseBrace h (λ _. pure_shrinks _) (λ r h. track_pure all h)))

    -- up to the end of the first body
    headed_tracked : (y : Statement) (rest : List Token) (a : Expr) (all : List Statement) → IsExpr a → IsBody (body_of all) → (W → expr_depth a ≤ d) → (W → body_depth (body_of all) ≤ d) → (w s : List Token)
        → Along n (Quoted word.If ∷ Sign mark.Open ∷ spell_expr a (Sign mark.Close ∷ Sign mark.OpenBrace ∷ spell_body (body_of all) (Sign mark.CloseBrace ∷ w))) s
        → ((r : List Token) → Along n w r → Tracked n W y rest (either (begins (words word.Else)) (otherwise inside a all) (λ s. Ok (If a (body_of all), s)) r)) → Tracked n W y rest (conditional child inside s)
    unfolding conditional
    headed_tracked y rest a all isa isb deep deep' w s h k =
        let ends : (a : Expr) (all : List Statement) → Shrinks (either (begins (words word.Else)) (otherwise inside a all) (λ s. Ok (If a (body_of all), s))) =
        λ a all. either_shrinks (begins (words word.Else)) (otherwise_shrinks child shrinks inside shrinks' a all) (pure_shrinks (If a (body_of all))) in
        word_tracked word.If h (λ _. then_shrinks (enclosed_shrinks child shrinks) (λ a. then_shrinks (body_shrinks child shrinks inside shrinks') (ends a))) (λ r h.
        track_then (enclosed_tracked a isa deep (Sign mark.OpenBrace ∷ spell_body (body_of all) (Sign mark.CloseBrace ∷ w)) r h) (λ a. then_shrinks (body_shrinks child shrinks inside shrinks') (ends a)) (λ r h.
        track_then (body_tracked all isb deep' w r h) (ends a) k))

    if_tracked : (a : Expr) (all : List Statement) → IsExpr a → IsBody (body_of all) → (W → statement_depth (If a (body_of all)) ≤ suc d) → (rest s : List Token) → NoElse rest
        → Along n (spell_statement (If a (body_of all)) rest) s → Tracked n W (If a (body_of all)) rest (conditional child inside s)
    if_tracked a all isa isb deep rest s none h =
        headed_tracked (If a (body_of all)) rest a all isa isb (λ w. let all = deep w in grind (arith, all)) (λ w. let all = deep w in grind (arith, all)) rest s h
        (λ r h. track_second (begins (words word.Else) r) _ _ (same_begins (words word.Else) h ∙ none) (track_pure (If a (body_of all)) h))

    if_else_tracked : (a : Expr) (all more : List Statement) → IsExpr a → IsBody (body_of all) → IsBody (body_of more) → (W → statement_depth (IfElse a (body_of all) (body_of more)) ≤ suc d) → (rest s : List Token)
        → Along n (spell_statement (IfElse a (body_of all) (body_of more)) rest) s → Tracked n W (IfElse a (body_of all) (body_of more)) rest (conditional child inside s)
    unfolding otherwise begins same_word
    if_else_tracked a all more isa isb isc deep rest s h =
        let y = IfElse a (body_of all) (body_of more) in
        headed_tracked y rest a all isa isb (λ w. let all = deep w in grind (arith, all)) (λ w. let all = deep w in grind (arith, all)) (Quoted word.Else ∷ Sign mark.OpenBrace ∷ spell_body (body_of more) (Sign mark.CloseBrace ∷ rest)) s h
        (λ r h. track_first (begins (words word.Else) r) _ _ (same_begins (words word.Else) h)
        (word_tracked word.Else h (λ _. then_shrinks (body_shrinks child shrinks inside shrinks') (λ more. pure_shrinks (IfElse a (body_of all) (body_of more)))) (λ r h.
        track_then (body_tracked more isc (λ w. let all = deep w in grind (arith, all)) rest r h) (λ more. pure_shrinks (IfElse a (body_of all) (body_of more))) (λ r h. track_pure y h))))

    while_tracked : (a : Expr) (all : List Statement) → IsExpr a → IsBody (body_of all) → (W → statement_depth (While a (body_of all)) ≤ suc d) → (rest s : List Token)
        → Along n (spell_statement (While a (body_of all)) rest) s → Tracked n W (While a (body_of all)) rest (while_loop child inside s)
    unfolding while_loop
    while_tracked a all isa isb deep rest s h =
        word_tracked word.While h (λ _. then_shrinks (enclosed_shrinks child shrinks) (λ a. then_shrinks (body_shrinks child shrinks inside shrinks') (λ all. pure_shrinks (While a (body_of all))))) (λ r h.
        track_then (enclosed_tracked a isa (λ w. let all = deep w in grind (arith, all)) (Sign mark.OpenBrace ∷ spell_body (body_of all) (Sign mark.CloseBrace ∷ rest)) r h)
        (λ a. then_shrinks (body_shrinks child shrinks inside shrinks') (λ all. pure_shrinks (While a (body_of all)))) (λ r h.
        track_then (body_tracked all isb (λ w. let all = deep w in grind (arith, all)) rest r h) (λ all. pure_shrinks (While a (body_of all))) (λ r h. track_pure (While a (body_of all)) h)))

    -- a statement that is no `if` and no `while`
    is_simple : (y : Statement) (rest w s : List Token) → Along n w s → (begins (words word.If) w ≡ false) × (begins (words word.While) w ≡ false) → Tracked n W y rest (simple child s) → Tracked n W y rest (statement_by child inside s)
    unfolding statement_by
    is_simple y rest w s h none k =
        track_second (begins (words word.If) s) _ _ (same_begins (words word.If) h ∙ none.0) (track_second (begins (words word.While) s) _ _ (same_begins (words word.While) h ∙ none.1) k)

    by_place_there : (p : Place) → IsPlace p → (W → place_depth p ≤ d) → (y : Statement) (rest w s : List Token) → NoSelector w → Along n (spell_place p w) s → ((r : List Token) → Along n w r → Tracked n W y rest (placed child p r)) → Tracked n W y rest (statement_by child inside s)
    by_place_there p is deep y rest w s none h k = is_simple y rest (spell_place p w) s h (place_no_word p w word.If, place_no_word p w word.While) (by_place p is deep y rest w s none h k)

    is_if : (y : Statement) (rest w s : List Token) → Along n (Quoted word.If ∷ w) s → Tracked n W y rest (conditional child inside s) → Tracked n W y rest (statement_by child inside s)
    unfolding statement_by begins same_word
    is_if y rest w s h k = track_first (begins (words word.If) s) _ _ (same_begins (words word.If) h) k

    is_while : (y : Statement) (rest w s : List Token) → Along n (Quoted word.While ∷ w) s → Tracked n W y rest (while_loop child inside s) → Tracked n W y rest (statement_by child inside s)
    unfolding statement_by begins same_word
    is_while y rest w s h k = track_second (begins (words word.If) s) _ _ (same_begins (words word.If) h) (track_first (begins (words word.While) s) _ _ (same_begins (words word.While) h) k)

    no_body_words : (w : List Token) → (begins (words word.If) (Quoted word.Free ∷ w) ≡ false) × (begins (words word.While) (Quoted word.Free ∷ w) ≡ false)
        × (begins (words word.If) (Quoted word.PutChar ∷ w) ≡ false) × (begins (words word.While) (Quoted word.PutChar ∷ w) ≡ false) × (begins (words word.If) (Quoted word.Goto ∷ w) ≡ false) × (begins (words word.While) (Quoted word.Goto ∷ w) ≡ false)
        × (begins (words word.If) (Quoted word.Return ∷ w) ≡ false) × (begins (words word.While) (Quoted word.Return ∷ w) ≡ false)
    unfolding begins same_word
    no_body_words w = (refl, refl, refl, refl, refl, refl, refl, refl)

    -- a list of statements in place of a body
    abbrev There : Statement → List Token → List Token → Type 0
    There a rest s = IsStatement a → (W → statement_depth a ≤ suc d) → Along n (spell_statement a rest) s → Tracked n W a rest (statement_by child inside s)

    statement_by_tracked : StatementTracked n W (suc d) (statement_by child inside)
    statement_by_tracked (Assign p a) is deep rest s none h =
        by_place_there p is.0 (λ w. let all = deep w in grind (arith, all)) (Assign p a) rest (Sign mark.Assign ∷ spell_expr a (Sign mark.Semicolon ∷ rest)) s (no_selector_mark _).4 h
        (λ r h. value_there p a is.1 (λ w. let all = deep w in grind (arith, all)) rest r h)
    statement_by_tracked (Call (Some p) c all) is deep rest s none h =
        by_place_there p is.0 (λ w. let all = deep w in grind (arith, all)) (Call (Some p) c all) rest (Sign mark.Assign ∷ spell_callee c (Sign mark.Open ∷ spell_listed spell_expr all (Sign mark.Close ∷ Sign mark.Semicolon ∷ rest))) s (no_selector_mark _).4 h
        (λ r h. call_there p c all is.1 (λ w. let all = deep w in grind (arith, all)) is.2 (λ w. let all = deep w in grind (arith, all)) rest r h)
    statement_by_tracked (Call None (Direct name) all) is deep rest s none h =
        by_place_there (Variable name) is.1 (λ w. omega arith) (Call None (Direct name) all) rest (Sign mark.Open ∷ spell_listed spell_expr all (Sign mark.Close ∷ Sign mark.Semicolon ∷ rest)) s (no_selector_mark _).5 h
        (λ r h. plain_call (Variable name) (Direct name) all refl is.2 (λ w. let all = deep w in grind (arith, all)) rest r h)
    statement_by_tracked (Call None (Indirect a) all) is deep rest s none h =
        by_place_there (Pointee a) is.1 (λ w. let all = deep w in grind (arith, all)) (Call None (Indirect a) all) rest (Sign mark.Open ∷ spell_listed spell_expr all (Sign mark.Close ∷ Sign mark.Semicolon ∷ rest)) s (no_selector_mark _).5 h
        (λ r h. plain_call (Pointee a) (Indirect a) all refl is.2 (λ w. let all = deep w in grind (arith, all)) rest r h)
    statement_by_tracked (Malloc p of) is deep rest s none h =
        by_place_there p is.0 (λ w. let all = deep w in omega (arith, all)) (Malloc p of) rest _ s (no_selector_mark _).4 h (λ r h. malloc_tracked p of rest r h)
    statement_by_tracked (GetChar p) is deep rest s none h =
        by_place_there p is (λ w. let all = deep w in omega (arith, all)) (GetChar p) rest _ s (no_selector_mark _).4 h (λ r h. get_char_tracked p rest r h)
    statement_by_tracked (Label l) is deep rest s none h =
        by_place_there (Variable l) is (λ w. omega arith) (Label l) rest (Sign mark.Colon ∷ Sign mark.Semicolon ∷ rest) s (no_selector_mark _).6 h (λ r h. label_tracked l rest r h)
    statement_by_tracked (Free a) is deep rest s none h =
        let no = no_body_words (Sign mark.Open ∷ spell_expr a (Sign mark.Close ∷ Sign mark.Semicolon ∷ rest)) in
        is_simple (Free a) rest _ s h (no.0, no.1) (free_tracked a is (λ w. let all = deep w in omega (arith, all)) rest s h)
    statement_by_tracked (PutChar a) is deep rest s none h =
        let no = no_body_words (Sign mark.Open ∷ spell_expr a (Sign mark.Close ∷ Sign mark.Semicolon ∷ rest)) in
        is_simple (PutChar a) rest _ s h (no.2, no.3) (put_char_tracked a is (λ w. let all = deep w in omega (arith, all)) rest s h)
    statement_by_tracked (Goto l) is deep rest s none h =
        let no = no_body_words (Identifier l ∷ Sign mark.Semicolon ∷ rest) in is_simple (Goto l) rest _ s h (no.4, no.5) (goto_tracked l rest s h)
    statement_by_tracked (Return a) is deep rest s none h =
        let no = no_body_words (spell_value a (Sign mark.Semicolon ∷ rest)) in is_simple (Return a) rest _ s h (no.6, no.7) (return_tracked a is (λ w. let all = deep w in omega (arith, all)) rest s h)
    statement_by_tracked (If a b) is deep rest s none h =
        subst (λ b. There (If a b) rest s) (body_of-list_of b) (λ is deep h. is_if _ rest _ s h (if_tracked a (list_of b) is.0 is.1 deep rest s none h)) is deep h
    statement_by_tracked (IfElse a b c) is deep rest s none h =
        subst (λ b. There (IfElse a b c) rest s) (body_of-list_of b) (subst (λ c. There (IfElse a (body_of (list_of b)) c) rest s) (body_of-list_of c)
        (λ is deep h. is_if _ rest _ s h (if_else_tracked a (list_of b) (list_of c) is.0 is.1 is.2 deep rest s h))) is deep h
    statement_by_tracked (While a b) is deep rest s none h =
        subst (λ b. There (While a b) rest s) (body_of-list_of b) (λ is deep h. is_while _ rest _ s h (while_tracked a (list_of b) is.0 is.1 deep rest s h)) is deep h

-- ---- the whole

star_taken : (d : ℕ) (r : List Token) → Short (suc (length r)) (expr_by (expr d) (Sign mark.Open ∷ Sign mark.Star ∷ r))
unfolding expr_by opened read_pointee pointee one_of begins same_mark
star_taken d r =
    relaxed (then_shrinks (then_shrinks (closed_shrinks (expr d) (expr_shrinks d)) (λ a. pure_shrinks _)) (λ p. then_shrinks (selectors_shrinks (expr d) (expr_shrinks d) p) (λ q. pure_shrinks (Read q))) (suc (length r)) r (omega arith))

pub expr_taking : (d : ℕ) → Taking (expr d)
unfolding expr expr_by read_variable variable begins same_mark
expr_taking zero = record { name = λ name r. stops_short _ (omega arith); open_ = λ r. stops_short _ (omega arith); star = λ r. stops_short _ (omega arith) }
expr_taking (suc d) = record {
  name = λ name r. short_then (begun_short names (Identifier name) r refl (λ _. pure_shrinks _)) (λ p. then_shrinks (selectors_shrinks (expr d) (expr_shrinks d) p) (λ q. pure_shrinks (Read q)));
  open_ = λ r. begun_short (marks mark.Open) (Sign mark.Open) r refl (λ _. opened_shrinks (expr d) (expr_shrinks d));
  star = star_taken d;
}

module _ (child : Parser Token Expr) (shrinks : Shrinks child) (s : List Token) where
  place_takes : Takes (length s) (place child s)
  unfolding place base_place variable
  place_takes = takes_then (length s) (base_place child s)
      (takes_either (length s) (begins names s) _ _ (takes_token names s (λ _. pure_shrinks _)) (takes_token (marks mark.Open) s (λ _. pointee_shrinks child shrinks))) (selectors_shrinks child shrinks)

  simple_takes : Takes (length s) (simple child s)
  unfolding simple free put_char goto return_with
  simple_takes =
      takes_either (length s) (begins (words word.Free) s) _ _ (takes_token (words word.Free) s (λ _. then_shrinks (enclosed_shrinks child shrinks) (λ _. then_shrinks (one_shrinks _) (λ _. pure_shrinks _))))
      (takes_either (length s) (begins (words word.PutChar) s) _ _ (takes_token (words word.PutChar) s (λ _. then_shrinks (enclosed_shrinks child shrinks) (λ _. then_shrinks (one_shrinks _) (λ _. pure_shrinks _))))
      (takes_either (length s) (begins (words word.Goto) s) _ _ (takes_token (words word.Goto) s (λ _. then_shrinks (one_shrinks _) (λ _. then_shrinks (one_shrinks _) (λ _. pure_shrinks _))))
      (takes_either (length s) (begins (words word.Return) s) _ _ (takes_token (words word.Return) s (λ _. then_shrinks (returned_shrinks child shrinks) (λ _. then_shrinks (one_shrinks _) (λ _. pure_shrinks _))))
      (takes_then (length s) (place child s) place_takes (placed_shrinks child shrinks)))))

  statement_by_takes : (inside : Parser Token Statement) → Shrinks inside → Takes (length s) (statement_by child inside s)
  unfolding statement_by conditional while_loop
  statement_by_takes inside shrinks' =
      takes_either (length s) (begins (words word.If) s) _ _
      (takes_token (words word.If) s (λ _. then_shrinks (enclosed_shrinks child shrinks) (λ a. then_shrinks (body_shrinks child shrinks inside shrinks')
      (λ all. either_shrinks (begins (words word.Else)) (otherwise_shrinks child shrinks inside shrinks' a all) (pure_shrinks (If a (body_of all)))))))
      (takes_either (length s) (begins (words word.While) s) _ _
      (takes_token (words word.While) s (λ _. then_shrinks (enclosed_shrinks child shrinks) (λ a. then_shrinks (body_shrinks child shrinks inside shrinks') (λ all. pure_shrinks (While a (body_of all))))))
      simple_takes)

pub statement_takes : (d : ℕ) (s : List Token) → Takes (length s) (statement d s)
unfolding statement
statement_takes zero s = tt
statement_takes (suc d) s = statement_by_takes (expr d) (expr_shrinks d) s (statement d) (statement_shrinks d)

statement_deep : (a : Statement) → 1 ≤ statement_depth a
statement_deep (Assign p a) = omega arith
statement_deep (Call into c all) = omega arith
statement_deep (Malloc p of) = omega arith
statement_deep (Free a) = omega arith
statement_deep (GetChar p) = omega arith
statement_deep (PutChar a) = omega arith
statement_deep (If test a) = omega arith
statement_deep (IfElse test a b) = omega arith
statement_deep (While test a) = omega arith
statement_deep (Goto l) = omega arith
statement_deep (Label l) = omega arith
statement_deep (Return a) = omega arith

pub statement_tracked : (n : ℕ) (W : Type 0) (d : ℕ) → StatementTracked n W d (statement d)
unfolding statement
statement_tracked n W zero a is deep rest s none h = too_deep (length s) (λ w. let all = deep w in absurd (omega (arith, all, statement_deep a)))
statement_tracked n W (suc d) a is deep rest s none h =
    statement_by_tracked n W d (expr d) (expr_shrinks d) (λ n V. expr_tracked n V d) (expr_taking d) (statement d) (statement_shrinks d) (statement_takes d) (statement_tracked n W d) a is deep rest s none h
