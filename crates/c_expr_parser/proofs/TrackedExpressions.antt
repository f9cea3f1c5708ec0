-- Expressions of a text are followed.
use Rattle.std.proofs.Common.{◌≡◌, ℕ, zero, suc, ◌≤◌, Bool, true, false, List, ◌∷◌, length, Ok, refl, ◌∙◌, arith}
use Rattle.c_tree.specs.Tree.{Expr, Read, Number, WordNumber, Null, Address, Unary, Binary, Cast, Place, Variable, Pointee, Member, Index}
use Rattle.c_tree.specs.declared.operators.CUnary.{CUnary}
use Rattle.c_tree.specs.declared.operators.CUnary.TheVariants as unary_
use Rattle.c_tree.specs.declared.operators.CBinary.{CBinary}
use Rattle.c_tree.specs.declared.operators.CBinary.TheVariants as binary_
use Rattle.c_tree.specs.declared.operators.CCast.{CCast}
use Rattle.c_tree.specs.declared.operators.CCast.TheVariants as cast_
use Rattle.c_grammar.specs.declared.token.Word.TheVariants as word
use Rattle.c_grammar.specs.declared.token.Mark.TheVariants as mark
use Rattle.c_grammar.specs.Token.{Token, Identifier, Sign}
use Rattle.c_grammar.specs.Spelling.{spell_cast, spell_expr, spell_place, unary_mark, binary_mark}
use Rattle.c_grammar.specs.Grammar.{IsExpr, IsPlace, IsNumber, IsWordNumber}
use Rattle.token_parsing.specs.Parser.{Parser, Outcome, and_then, begins, rest, again, repeat}
use Rattle.token_parsing.proofs.Tracked.{Shrinks, Short, stops_short, short_then, Along, ended, last, longer, Tracked, too_deep, one_shrinks, pure_shrinks, then_shrinks, Takes, takes_token, takes_either, along_some, same_begins, begun_short, short_tracked, track_first, track_second, track_then, track_pure, track_plain, track_turn, track_no_turn}
use Rattle.c_expr_parser.specs.Classes.{same_word, same_mark, names, words, marks, unaries, cast_words}
use Rattle.c_expr_parser.specs.Expressions.{largest_int, largest_word, number, word_number, null, begins_selector, member, element, selected, selectors, pointee, variable, base_place, place, read_pointee, address, unary, binary, cast, begins_cast, opened, read_variable, expr_by, expr}
use Rattle.c_expr_parser.specs.Depth.{expr_depth, place_depth}
use Rattle.c_expr_parser.proofs.Shrinks.{selected_shrinks, selectors_shrinks, pointee_shrinks, place_shrinks, cast_type_shrinks, opened_shrinks, expr_shrinks}
use Rattle.c_expr_parser.proofs.TrackedTokens.{mark_tracked, word_tracked, name_tracked, number_tracked, unary_tracked, binary_tracked}
use Rattle.c_expr_parser.proofs.TrackedTypes.{cast_tracked}
use Rattle.c_expr_parser.proofs.Closed.{closed_shrinks, tracked_closed}

-- no selector is next
abbrev pub NoSelector : List Token → Type 0
NoSelector rest = begins_selector rest ≡ false

pub selector_steady : (n : ℕ) (w s : List Token) → Along n w s → begins_selector s ≡ begins_selector w
unfolding begins
selector_steady _ _ _ ended = refl
selector_steady _ _ _ (last t w r) = refl
selector_steady _ _ _ (longer n t w r h) = refl

-- ---- with what an expression begins

-- the tests after an opening parenthesis fail
pub record Starts (w : List Token) : Type 0 where
  pub star : begins (marks mark.Star) w ≡ false
  pub ampersand : begins (marks mark.Ampersand) w ≡ false
  pub sign : begins unaries w ≡ false
  pub word : begins cast_words w ≡ false
  pub no_cast : begins_cast w ≡ false

place_starts : (p : Place) (w : List Token) → Starts (spell_place p w)
unfolding begins same_mark
place_starts (Variable n) w = record { star = refl; ampersand = refl; sign = refl; word = refl; no_cast = refl }
place_starts (Pointee a) w = record { star = refl; ampersand = refl; sign = refl; word = refl; no_cast = refl }
place_starts (Member p n) w = place_starts p (Sign mark.Dot ∷ Identifier n ∷ w)
place_starts (Index p a) w = place_starts p (Sign mark.OpenBracket ∷ spell_expr a (Sign mark.CloseBracket ∷ w))

unary_no_word : (op : CUnary) (w : List Token) → begins cast_words (Sign (unary_mark op) ∷ w) ≡ false
unfolding begins
unary_no_word op w = refl

pub expr_starts : (e : Expr) (w : List Token) → Starts (spell_expr e w)
unfolding begins same_mark
expr_starts (Read p) w = place_starts p w
expr_starts (Number n) w = record { star = refl; ampersand = refl; sign = refl; word = refl; no_cast = refl }
expr_starts (WordNumber n) w = record { star = refl; ampersand = refl; sign = refl; word = refl; no_cast = refl }
expr_starts Null w = record { star = refl; ampersand = refl; sign = refl; word = refl; no_cast = refl }
expr_starts (Address p) w = record { star = refl; ampersand = refl; sign = refl; word = refl; no_cast = refl }
expr_starts (Unary op a) w = record { star = refl; ampersand = refl; sign = refl; word = refl; no_cast = refl }
expr_starts (Binary op a b) w = record { star = refl; ampersand = refl; sign = refl; word = refl; no_cast = (expr_starts a (Sign (binary_mark op) ∷ spell_expr b (Sign mark.Close ∷ w))).word }
expr_starts (Cast to a) w = record { star = refl; ampersand = refl; sign = refl; word = refl; no_cast = refl }

pub unary_no_star : (op : CUnary) (w : List Token) → begins (marks mark.Star) (Sign (unary_mark op) ∷ w) ≡ false
unfolding begins same_mark
unary_no_star unary_.Minus w = refl
unary_no_star unary_.Not w = refl
unary_no_star unary_.Complement w = refl

unary_no_ampersand : (op : CUnary) (w : List Token) → begins (marks mark.Ampersand) (Sign (unary_mark op) ∷ w) ≡ false
unfolding begins same_mark
unary_no_ampersand unary_.Minus w = refl
unary_no_ampersand unary_.Not w = refl
unary_no_ampersand unary_.Complement w = refl

unary_begins : (op : CUnary) (w : List Token) → begins unaries (Sign (unary_mark op) ∷ w) ≡ true
unfolding begins
unary_begins unary_.Minus w = refl
unary_begins unary_.Not w = refl
unary_begins unary_.Complement w = refl

binary_no_selector : (op : CBinary) (w : List Token) → NoSelector (Sign (binary_mark op) ∷ w)
unfolding begins same_mark
binary_no_selector binary_.Add w = refl
binary_no_selector binary_.Subtract w = refl
binary_no_selector binary_.Multiply w = refl
binary_no_selector binary_.Divide w = refl
binary_no_selector binary_.Remainder w = refl
binary_no_selector binary_.Equal w = refl
binary_no_selector binary_.NotEqual w = refl
binary_no_selector binary_.Less w = refl
binary_no_selector binary_.AtMost w = refl
binary_no_selector binary_.Greater w = refl
binary_no_selector binary_.AtLeast w = refl
binary_no_selector binary_.And w = refl
binary_no_selector binary_.Or w = refl
binary_no_selector binary_.BitAnd w = refl
binary_no_selector binary_.BitOr w = refl
binary_no_selector binary_.BitXor w = refl
binary_no_selector binary_.ShiftLeft w = refl
binary_no_selector binary_.ShiftRight w = refl

pub no_selector_mark : (w : List Token) → NoSelector (Sign mark.Close ∷ w) × NoSelector (Sign mark.CloseBracket ∷ w) × NoSelector (Sign mark.Semicolon ∷ w) × NoSelector (Sign mark.Comma ∷ w) × NoSelector (Sign mark.Assign ∷ w) × NoSelector (Sign mark.Open ∷ w) × NoSelector (Sign mark.Colon ∷ w)
unfolding begins same_mark
no_selector_mark w = (refl, refl, refl, refl, refl, refl, refl)

-- ---- whether a cast follows takes two tokens

abbrev if_both : Bool → Bool → Bool
if_both b x = elim b [ true ↦ x | false ↦ false ]

-- the first of them was the last that is known
opens : (r : List Token) (t : Token) → begins_cast (t ∷ r) ≡ true → begins (marks mark.Open) (t ∷ r) ≡ true
opens r t e = by (begins (marks mark.Open) (t ∷ r)) e
  where
    by : (b : Bool) → if_both b (begins cast_words r) ≡ true → b ≡ true
    by true e = refl
    by false e = absurd cc

-- the test of the text, or a token more than is known is taken
cast_known : (n : ℕ) (t : Token) (w r : List Token) → Along n w r → begins_cast (t ∷ r) ≡ begins_cast (t ∷ w)
unfolding begins
cast_known n t w r h = by (begins (marks mark.Open) (t ∷ w))
  where
    by : (b : Bool) → if_both b (begins cast_words r) ≡ if_both b (begins cast_words w)
    by true = same_begins cast_words h
    by false = refl

-- a cast that begins with the last token that is known
cast_last : (child : Parser Token Expr) → Shrinks child → (t : Token) (r : List Token) → begins_cast (t ∷ r) ≡ true → Short (suc (length r)) (cast child (t ∷ r))
unfolding cast
cast_last child shrinks t r e = begun_short (marks mark.Open) t r (opens r t e)
    (λ _. then_shrinks cast_type_shrinks (λ _. then_shrinks (one_shrinks _) (λ _. then_shrinks (closed_shrinks child shrinks) (λ _. pure_shrinks _))))

-- a cast or an operator between operands, where the text has the second
binary_chosen : (n : ℕ) (W : Type 0) (child : Parser Token Expr) → Shrinks child → (y : Expr) (rest w s : List Token) → begins_cast w ≡ false → Along n w s → Tracked n W y rest (binary child s)
    → (b : Bool) → begins_cast s ≡ b → Tracked n W y rest (elim b [ true ↦ cast child s | false ↦ binary child s ])
unfolding begins
binary_chosen n W child shrinks y rest w s none h k false e = k
binary_chosen _ W child shrinks y rest _ _ none (last t w r) k true e = short_tracked (omega arith) (cast_last child shrinks t r e)
binary_chosen _ W child shrinks y rest _ _ none (longer n t w r h) k true e = let same = cast_known n t w r h in absurd cc
binary_chosen _ W child shrinks y rest _ _ none ended k true e = absurd cc

-- a parser that takes an opening parenthesis
abbrev Opens : Parser Token Expr → Type 0
Opens child = (r : List Token) → Short (suc (length r)) (child (Sign mark.Open ∷ r))

-- the same, where the text has the first
cast_chosen : (n : ℕ) (W : Type 0) (child : Parser Token Expr) → Shrinks child → Opens child → (y : Expr) (rest w s : List Token) → begins_cast (Sign mark.Open ∷ w) ≡ true → Along n (Sign mark.Open ∷ w) s → Tracked n W y rest (cast child s)
    → (b : Bool) → begins_cast s ≡ b → Tracked n W y rest (elim b [ true ↦ cast child s | false ↦ binary child s ])
unfolding binary
cast_chosen n W child shrinks opens y rest w s one h k true e = k
cast_chosen _ W child shrinks opens y rest _ _ one (last _ w r) k false e =
    short_tracked (omega arith) (short_then (opens r) (λ _. then_shrinks (one_shrinks _) (λ _. then_shrinks (closed_shrinks child shrinks) (λ _. pure_shrinks _))))
cast_chosen _ W child shrinks opens y rest _ _ one (longer n _ w r h) k false e = let same = cast_known n (Sign mark.Open) w r h in absurd cc

-- ---- places

abbrev pub ExprTracked : ℕ → Type 0 → ℕ → Parser Token Expr → Type 0
ExprTracked n W d p = (e : Expr) → IsExpr e → (W → expr_depth e ≤ d) → (rest s : List Token) → NoSelector rest → Along n (spell_expr e rest) s → Tracked n W e rest (p s)

module _ (n : ℕ) (W : Type 0) (d : ℕ) (child : Parser Token Expr) (shrinks : Shrinks child) (good : ExprTracked n W d child) where
  member_tracked : (p : Place) (name : List ℕ) (rest s : List Token) → Along n (Sign mark.Dot ∷ Identifier name ∷ rest) s → Tracked n W (Member p name) rest (selected child p s)
  unfolding selected member begins same_mark
  member_tracked p name rest s h =
      track_first (begins (marks mark.Dot) s) _ _ (same_begins (marks mark.Dot) h)
      (mark_tracked mark.Dot h (λ _. then_shrinks (one_shrinks _) (λ _. pure_shrinks _)) (λ r h. name_tracked name h (λ _. pure_shrinks _) (λ r h. track_pure (Member p name) h)))

  element_tracked : (p : Place) (a : Expr) → IsExpr a → (W → expr_depth a ≤ d) → (rest s : List Token) → Along n (Sign mark.OpenBracket ∷ spell_expr a (Sign mark.CloseBracket ∷ rest)) s → Tracked n W (Index p a) rest (selected child p s)
  unfolding selected element begins same_mark
  element_tracked p a is deep rest s h =
      track_second (begins (marks mark.Dot) s) _ _ (same_begins (marks mark.Dot) h)
      (mark_tracked mark.OpenBracket h (λ _. then_shrinks shrinks (λ _. then_shrinks (one_shrinks _) (λ _. pure_shrinks _))) (λ r h.
      track_then (good a is deep (Sign mark.CloseBracket ∷ rest) r (no_selector_mark rest).1 h) (λ _. then_shrinks (one_shrinks _) (λ _. pure_shrinks _)) (λ r h.
      mark_tracked mark.CloseBracket h (λ _. pure_shrinks _) (λ r h. track_pure (Index p a) h))))

  selected_takes : (p : Place) (s : List Token) → Takes (length s) (selected child p s)
  unfolding selected member element
  selected_takes p s = takes_either (length s) (begins (marks mark.Dot) s) _ _
      (takes_token (marks mark.Dot) s (λ _. then_shrinks (one_shrinks _) (λ _. pure_shrinks _))) (takes_token (marks mark.OpenBracket) s (λ _. then_shrinks shrinks (λ _. then_shrinks (one_shrinks _) (λ _. pure_shrinks _))))

  -- what is to be read after a place
  abbrev Then : {B : Type 0} → B → List Token → (Place → Parser Token B) → Place → List Token → Type 0
  Then y rest' f p rest = (g : ℕ) (r : List Token) → length r ≤ g → Along n rest r → Tracked n W y rest' (and_then (again begins_selector (selected child) g p r) f)

  -- the same after its base
  abbrev After : {B : Type 0} → B → List Token → (Place → Parser Token B) → Place → List Token → Type 0
  After y rest' f p rest = (r : List Token) → Along n rest r → Tracked n W y rest' (and_then (selectors child p r) f)

  place_by_base : {B : Type 0} {y : B} {rest' : List Token} (f : Place → Parser Token B) → ((p : Place) → Shrinks (f p)) → (whole : List Token → Outcome Token B)
      → ((name : List ℕ) (rest s : List Token) → Along n (Identifier name ∷ rest) s → After y rest' f (Variable name) rest → Tracked n W y rest' (whole s))
      → ((a : Expr) (rest s : List Token) → IsExpr a → (W → expr_depth a ≤ d) → Along n (Sign mark.Open ∷ Sign mark.Star ∷ spell_expr a (Sign mark.Close ∷ rest)) s → After y rest' f (Pointee a) rest → Tracked n W y rest' (whole s))
      → (p : Place) → IsPlace p → (W → place_depth p ≤ d) → (rest s : List Token) → Along n (spell_place p rest) s → Then y rest' f p rest → Tracked n W y rest' (whole s)
  unfolding selectors repeat begins same_mark
  place_by_base f shr whole var ptr (Variable name) is deep rest s h k = var name rest s h (λ r h. k (length r) r (omega arith) h)
  place_by_base f shr whole var ptr (Pointee a) is deep rest s h k = ptr a rest s is deep h (λ r h. k (length r) r (omega arith) h)
  place_by_base f shr whole var ptr (Member p name) is deep rest s h k =
      place_by_base f shr whole var ptr p is.0 deep (Sign mark.Dot ∷ Identifier name ∷ rest) s h (λ g r enough h'.
      track_turn begins_selector (selected child) f g p r (selector_steady n _ r h') enough (along_some h') (selected_takes p r) (selected_shrinks child shrinks) shr (member_tracked p name rest r h') k)
  place_by_base f shr whole var ptr (Index p a) is deep rest s h k =
      place_by_base f shr whole var ptr p is.0 (λ w. let both = deep w in grind (arith, both)) (Sign mark.OpenBracket ∷ spell_expr a (Sign mark.CloseBracket ∷ rest)) s h (λ g r enough h'.
      track_turn begins_selector (selected child) f g p r (selector_steady n _ r h') enough (along_some h') (selected_takes p r) (selected_shrinks child shrinks) shr
      (element_tracked p a is.1 (λ w. let both = deep w in grind (arith, both)) rest r h') k)

  no_selectors : {B : Type 0} (y : B) (f : Place → Parser Token B) (p : Place) (rest : List Token) → NoSelector rest → ((r : List Token) → Along n rest r → Tracked n W y rest (f p r)) → Then y rest f p rest
  no_selectors y f p rest none k g r enough h = track_no_turn begins_selector (selected child) f g p r (selector_steady n rest r h ∙ none) (k r h)

  pointee_tracked : (a : Expr) → IsExpr a → (W → expr_depth a ≤ d) → (rest s : List Token) → Along n (Sign mark.Star ∷ spell_expr a (Sign mark.Close ∷ rest)) s → Tracked n W (Pointee a) rest (pointee child s)
  unfolding pointee
  pointee_tracked a is deep rest s h =
      mark_tracked mark.Star h (λ _. then_shrinks (closed_shrinks child shrinks) (λ _. pure_shrinks _)) (λ r h.
      tracked_closed child r (λ a s. Ok (Pointee a, s)) (track_then (good a is deep (Sign mark.Close ∷ rest) r (no_selector_mark rest).0 h) (λ _. then_shrinks (one_shrinks _) (λ _. pure_shrinks _)) (λ r h.
      mark_tracked mark.Close h (λ _. pure_shrinks _) (λ r h. track_pure (Pointee a) h))))

  pub place_tracked : (p : Place) → IsPlace p → (W → place_depth p ≤ d) → (rest s : List Token) → NoSelector rest → Along n (spell_place p rest) s → Tracked n W p rest (place child s)
  unfolding place base_place variable begins same_mark
  place_tracked p is deep rest s none h =
      place_by_base {y = p} {rest' = rest} (λ p s. Ok (p, s)) (λ p. pure_shrinks p) (λ s. and_then (base_place child s) (selectors child))
      (λ name rest s h k. track_then (track_first (begins names s) _ _ (same_begins names h) (name_tracked name h (λ _. pure_shrinks _) (λ r h. track_pure (Variable name) h))) (selectors_shrinks child shrinks) (λ r h. track_plain (selectors child (Variable name) r) (k r h)))
      (λ a rest s is deep h k. track_then (track_second (begins names s) _ _ (same_begins names h) (mark_tracked mark.Open h (λ _. pointee_shrinks child shrinks) (λ r h. pointee_tracked a is deep rest r h))) (selectors_shrinks child shrinks)
      (λ r h. track_plain (selectors child (Pointee a) r) (k r h)))
      p is deep rest s h (no_selectors p (λ p s. Ok (p, s)) p rest none (λ r h. track_pure p h))

  -- ---- after an opening parenthesis

  address_tracked : (p : Place) → IsPlace p → (W → place_depth p ≤ d) → (rest s : List Token) → Along n (Sign mark.Ampersand ∷ spell_place p (Sign mark.Close ∷ rest)) s → Tracked n W (Address p) rest (opened child s)
  unfolding opened address begins same_mark
  address_tracked p is deep rest s h =
      track_second (begins (marks mark.Star) s) _ _ (same_begins (marks mark.Star) h) (track_first (begins (marks mark.Ampersand) s) _ _ (same_begins (marks mark.Ampersand) h)
      (mark_tracked mark.Ampersand h (λ _. then_shrinks (place_shrinks child shrinks) (λ _. then_shrinks (one_shrinks _) (λ _. pure_shrinks _))) (λ r h.
      track_then (place_tracked p is deep (Sign mark.Close ∷ rest) r (no_selector_mark rest).0 h) (λ _. then_shrinks (one_shrinks _) (λ _. pure_shrinks _)) (λ r h.
      mark_tracked mark.Close h (λ _. pure_shrinks _) (λ r h. track_pure (Address p) h)))))

  op_tracked : (op : CUnary) (a : Expr) → IsExpr a → (W → expr_depth a ≤ d) → (rest s : List Token) → Along n (Sign (unary_mark op) ∷ spell_expr a (Sign mark.Close ∷ rest)) s → Tracked n W (Unary op a) rest (opened child s)
  unfolding opened unary
  op_tracked op a is deep rest s h =
      track_second (begins (marks mark.Star) s) _ _ (same_begins (marks mark.Star) h ∙ unary_no_star op _) (track_second (begins (marks mark.Ampersand) s) _ _ (same_begins (marks mark.Ampersand) h ∙ unary_no_ampersand op _)
      (track_first (begins unaries s) _ _ (same_begins unaries h ∙ unary_begins op _)
      (unary_tracked op h (λ _. then_shrinks (closed_shrinks child shrinks) (λ _. pure_shrinks _)) (λ r h.
      tracked_closed child r (λ a s. Ok (Unary op a, s)) (track_then (good a is deep (Sign mark.Close ∷ rest) r (no_selector_mark rest).0 h) (λ _. then_shrinks (one_shrinks _) (λ _. pure_shrinks _)) (λ r h.
      mark_tracked mark.Close h (λ _. pure_shrinks _) (λ r h. track_pure (Unary op a) h)))))))

  operands_tracked : (op : CBinary) (a b : Expr) → IsExpr a → IsExpr b → (W → expr_depth a ≤ d) → (W → expr_depth b ≤ d) → (rest s : List Token)
      → Along n (spell_expr a (Sign (binary_mark op) ∷ spell_expr b (Sign mark.Close ∷ rest))) s → Tracked n W (Binary op a b) rest (binary child s)
  unfolding binary
  operands_tracked op a b isa isb deep deep' rest s h =
      track_then (good a isa deep (Sign (binary_mark op) ∷ spell_expr b (Sign mark.Close ∷ rest)) s (binary_no_selector op _) h) (λ _. then_shrinks (one_shrinks _) (λ _. then_shrinks (closed_shrinks child shrinks) (λ _. pure_shrinks _))) (λ r h.
      binary_tracked op h (λ _. then_shrinks (closed_shrinks child shrinks) (λ _. pure_shrinks _)) (λ r h.
      tracked_closed child r (λ b s. Ok (Binary op a b, s)) (track_then (good b isb deep' (Sign mark.Close ∷ rest) r (no_selector_mark rest).0 h) (λ _. then_shrinks (one_shrinks _) (λ _. pure_shrinks _)) (λ r h.
      mark_tracked mark.Close h (λ _. pure_shrinks _) (λ r h. track_pure (Binary op a b) h)))))

  module _ (opens : Opens child) where
    binary_tracked_there : (op : CBinary) (a b : Expr) → IsExpr a → IsExpr b → (W → expr_depth a ≤ d) → (W → expr_depth b ≤ d) → (rest s : List Token)
        → Along n (spell_expr a (Sign (binary_mark op) ∷ spell_expr b (Sign mark.Close ∷ rest))) s → Tracked n W (Binary op a b) rest (opened child s)
    unfolding opened
    binary_tracked_there op a b isa isb deep deep' rest s h =
        let w = spell_expr a (Sign (binary_mark op) ∷ spell_expr b (Sign mark.Close ∷ rest)) in
        let starts = expr_starts a (Sign (binary_mark op) ∷ spell_expr b (Sign mark.Close ∷ rest)) in
        track_second (begins (marks mark.Star) s) _ _ (same_begins (marks mark.Star) h ∙ starts.star) (track_second (begins (marks mark.Ampersand) s) _ _ (same_begins (marks mark.Ampersand) h ∙ starts.ampersand)
        (track_second (begins unaries s) _ _ (same_begins unaries h ∙ starts.sign)
        (binary_chosen n W child shrinks (Binary op a b) rest w s starts.no_cast h (operands_tracked op a b isa isb deep deep' rest s h) (begins_cast s) refl)))

    cast_begins : (to : CCast) (w : List Token) → begins_cast (Sign mark.Open ∷ spell_cast to w) ≡ true
    unfolding begins same_mark
    cast_begins cast_.Int w = refl
    cast_begins cast_.Word w = refl
    cast_begins cast_.VoidPointer w = refl
    cast_begins (cast_.StructPointer name) w = refl

    cast_tracked_there : (to : CCast) (a : Expr) → IsExpr a → (W → expr_depth a ≤ d) → (rest s : List Token) → Along n (Sign mark.Open ∷ spell_cast to (Sign mark.Close ∷ spell_expr a (Sign mark.Close ∷ rest))) s
        → Tracked n W (Cast to a) rest (opened child s)
    unfolding opened cast begins same_mark
    cast_tracked_there to a is deep rest s h =
        let w = spell_cast to (Sign mark.Close ∷ spell_expr a (Sign mark.Close ∷ rest)) in
        track_second (begins (marks mark.Star) s) _ _ (same_begins (marks mark.Star) h) (track_second (begins (marks mark.Ampersand) s) _ _ (same_begins (marks mark.Ampersand) h)
        (track_second (begins unaries s) _ _ (same_begins unaries h)
        (cast_chosen n W child shrinks opens (Cast to a) rest w s (cast_begins to (Sign mark.Close ∷ spell_expr a (Sign mark.Close ∷ rest))) h
        (mark_tracked mark.Open h (λ _. then_shrinks cast_type_shrinks (λ _. then_shrinks (one_shrinks _) (λ _. then_shrinks (closed_shrinks child shrinks) (λ _. pure_shrinks _)))) (λ r h.
        track_then (cast_tracked n W to (Sign mark.Close ∷ spell_expr a (Sign mark.Close ∷ rest)) r h) (λ _. then_shrinks (one_shrinks _) (λ _. then_shrinks (closed_shrinks child shrinks) (λ _. pure_shrinks _))) (λ r h.
        mark_tracked mark.Close h (λ _. then_shrinks (closed_shrinks child shrinks) (λ _. pure_shrinks _)) (λ r h.
        tracked_closed child r (λ a s. Ok (Cast to a, s)) (track_then (good a is deep (Sign mark.Close ∷ rest) r (no_selector_mark rest).0 h) (λ _. then_shrinks (one_shrinks _) (λ _. pure_shrinks _)) (λ r h.
        mark_tracked mark.Close h (λ _. pure_shrinks _) (λ r h. track_pure (Cast to a) h)))))))
        (begins_cast s) refl)))

    -- ---- expressions

    in_parentheses : (y : Expr) (rest w s : List Token) → Along n (Sign mark.Open ∷ w) s → ((r : List Token) → Along n w r → Tracked n W y rest (opened child r)) → Tracked n W y rest (expr_by child s)
    unfolding expr_by begins same_mark
    in_parentheses y rest w s h k =
        track_second (begins names s) _ _ (same_begins names h) (track_first (begins (marks mark.Open) s) _ _ (same_begins (marks mark.Open) h) (mark_tracked mark.Open h (λ _. opened_shrinks child shrinks) k))

    read_tracked : (p : Place) → IsPlace p → (W → place_depth p ≤ d) → (rest s : List Token) → NoSelector rest → Along n (spell_place p rest) s → Tracked n W (Read p) rest (expr_by child s)
    unfolding expr_by read_variable variable opened read_pointee begins same_mark
    read_tracked p is deep rest s none h =
        place_by_base {y = Read p} {rest' = rest} (λ q s. Ok (Read q, s)) (λ q. pure_shrinks (Read q)) (expr_by child)
        (λ name rest s h k. track_first (begins names s) _ _ (same_begins names h)
        (track_then (name_tracked name h (λ _. pure_shrinks _) (λ r h. track_pure (Variable name) h)) (λ p. then_shrinks (selectors_shrinks child shrinks p) (λ q. pure_shrinks (Read q))) k))
        (λ a rest s is deep h k. in_parentheses (Read p) _ _ s h (λ r h. track_first (begins (marks mark.Star) r) _ _ (same_begins (marks mark.Star) h)
        (track_then (pointee_tracked a is deep rest r h) (λ p. then_shrinks (selectors_shrinks child shrinks p) (λ q. pure_shrinks (Read q))) k)))
        p is deep rest s h (no_selectors (Read p) (λ q s. Ok (Read q, s)) p rest none (λ r h. track_pure (Read p) h))

    number_there : (m : ℕ) → IsNumber m → (rest s : List Token) → Along n (spell_expr (Number m) rest) s → Tracked n W (Number m) rest (expr_by child s)
    unfolding expr_by number begins same_mark same_word
    number_there m is rest s h =
        track_second (begins names s) _ _ (same_begins names h) (track_second (begins (marks mark.Open) s) _ _ (same_begins (marks mark.Open) h) (track_first (begins (words word.Int64) s) _ _ (same_begins (words word.Int64) h)
        (word_tracked word.Int64 h (λ _. then_shrinks (one_shrinks _) (λ _. then_shrinks (one_shrinks _) (λ _. then_shrinks (one_shrinks _) (λ _. pure_shrinks _)))) (λ r h.
        mark_tracked mark.Open h (λ _. then_shrinks (one_shrinks _) (λ _. then_shrinks (one_shrinks _) (λ _. pure_shrinks _))) (λ r h.
        number_tracked largest_int m (omega (arith, is)) h (λ _. then_shrinks (one_shrinks _) (λ _. pure_shrinks _)) (λ r h.
        mark_tracked mark.Close h (λ _. pure_shrinks _) (λ r h. track_pure (Number m) h)))))))

    word_number_there : (m : ℕ) → IsWordNumber m → (rest s : List Token) → Along n (spell_expr (WordNumber m) rest) s → Tracked n W (WordNumber m) rest (expr_by child s)
    unfolding expr_by word_number begins same_mark same_word
    word_number_there m is rest s h =
        track_second (begins names s) _ _ (same_begins names h) (track_second (begins (marks mark.Open) s) _ _ (same_begins (marks mark.Open) h) (track_second (begins (words word.Int64) s) _ _ (same_begins (words word.Int64) h)
        (track_first (begins (words word.Uint64) s) _ _ (same_begins (words word.Uint64) h)
        (word_tracked word.Uint64 h (λ _. then_shrinks (one_shrinks _) (λ _. then_shrinks (one_shrinks _) (λ _. then_shrinks (one_shrinks _) (λ _. pure_shrinks _)))) (λ r h.
        mark_tracked mark.Open h (λ _. then_shrinks (one_shrinks _) (λ _. then_shrinks (one_shrinks _) (λ _. pure_shrinks _))) (λ r h.
        number_tracked largest_word m (omega (arith, is)) h (λ _. then_shrinks (one_shrinks _) (λ _. pure_shrinks _)) (λ r h.
        mark_tracked mark.Close h (λ _. pure_shrinks _) (λ r h. track_pure (WordNumber m) h))))))))

    null_there : (rest s : List Token) → Along n (spell_expr Null rest) s → Tracked n W Null rest (expr_by child s)
    unfolding expr_by null begins same_mark same_word
    null_there rest s h =
        track_second (begins names s) _ _ (same_begins names h) (track_second (begins (marks mark.Open) s) _ _ (same_begins (marks mark.Open) h) (track_second (begins (words word.Int64) s) _ _ (same_begins (words word.Int64) h)
        (track_second (begins (words word.Uint64) s) _ _ (same_begins (words word.Uint64) h) (word_tracked word.Null h (λ _. pure_shrinks _) (λ r h. track_pure Null h)))))

    expr_by_tracked : ExprTracked n W (suc d) (expr_by child)
    expr_by_tracked (Read p) is deep rest s none h = read_tracked p is (λ w. let all = deep w in omega arith) rest s none h
    expr_by_tracked (Number m) is deep rest s none h = number_there m is rest s h
    expr_by_tracked (WordNumber m) is deep rest s none h = word_number_there m is rest s h
    expr_by_tracked Null is deep rest s none h = null_there rest s h
    expr_by_tracked (Address p) is deep rest s none h = in_parentheses (Address p) rest _ s h (λ r h. address_tracked p is (λ w. let all = deep w in omega arith) rest r h)
    expr_by_tracked (Unary op a) is deep rest s none h = in_parentheses (Unary op a) rest _ s h (λ r h. op_tracked op a is (λ w. let all = deep w in omega arith) rest r h)
    expr_by_tracked (Binary op a b) is deep rest s none h =
        in_parentheses (Binary op a b) rest _ s h (λ r h. binary_tracked_there op a b is.0 is.1 (λ w. let all = deep w in grind (arith, all)) (λ w. let all = deep w in grind (arith, all)) rest r h)
    expr_by_tracked (Cast to a) is deep rest s none h = in_parentheses (Cast to a) rest _ s h (λ r h. cast_tracked_there to a is.1 (λ w. let all = deep w in omega arith) rest r h)

expr_deep : (e : Expr) → 1 ≤ expr_depth e
expr_deep (Read p) = omega arith
expr_deep (Number n) = omega arith
expr_deep (WordNumber n) = omega arith
expr_deep Null = omega arith
expr_deep (Address p) = omega arith
expr_deep (Unary op a) = omega arith
expr_deep (Binary op a b) = omega arith
expr_deep (Cast to a) = omega arith

expr_opens : (d : ℕ) → Opens (expr d)
unfolding expr expr_by begins same_mark
expr_opens zero r = stops_short (suc (length r)) (omega arith)
expr_opens (suc d) r = begun_short (marks mark.Open) (Sign mark.Open) r refl (λ _. opened_shrinks (expr d) (expr_shrinks d))

pub expr_tracked : (n : ℕ) (W : Type 0) (d : ℕ) → ExprTracked n W d (expr d)
unfolding expr
expr_tracked n W zero e is deep rest s none h = too_deep (length s) (λ w. let all = deep w in absurd (omega (arith, all, expr_deep e)))
expr_tracked n W (suc d) e is deep rest s none h = expr_by_tracked n W d (expr d) (expr_shrinks d) (expr_tracked n W d) (expr_opens d) e is deep rest s none h
