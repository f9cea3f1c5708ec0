-- Expressions that are read.
use Rattle.std.proofs.Common.{◌≡◌, ℕ, zero, suc, ◌+◌, ◌≤◌, List, [], ◌∷◌, Ok, refl, ap, subst, ◌∙◌, arith}
use Rattle.c_tree.specs.Tree.{Expr, Read, Number, WordNumber, Null, Address, Unary, Binary, Cast, Place, Variable, Pointee, Member, Index}
use Rattle.c_tree.specs.declared.operators.CUnary.{CUnary}
use Rattle.c_tree.specs.declared.operators.CUnary.TheVariants as unary_
use Rattle.c_tree.specs.declared.operators.CBinary.{CBinary}
use Rattle.c_tree.specs.declared.operators.CBinary.TheVariants as binary_
use Rattle.c_tree.specs.declared.operators.CCast.{CCast}
use Rattle.c_tree.specs.declared.operators.CCast.TheVariants as cast_
use Rattle.c_grammar.specs.declared.token.Word.TheVariants as word
use Rattle.c_grammar.specs.declared.token.Mark.TheVariants as mark
use Rattle.c_grammar.specs.Token.{Token, Identifier, Numeral, Sign}
use Rattle.c_grammar.specs.Spelling.{count, spell_cast, spell_expr, spell_place, unary_mark, binary_mark}
use Rattle.c_grammar.specs.Grammar.{IsNumber, IsWordNumber, IsCast, IsExpr, IsPlace}
use Rattle.c_grammar.specs.Seen.{AreTokens}
use Rattle.c_grammar.specs.Text.{MayBegin}
use Rattle.c_grammar.proofs.Spelled.{count_more, cast_follow, expr_follow, place_follow}
use Rattle.token_parsing.specs.Parser.{Parser, and_then, begins}
use Rattle.token_parsing.proofs.Fair.{At, reads, at_token, fair_then, fair_either, fair_repeat, fair_token, fair_spelled, fair_stop}
use Rattle.c_expr_parser.specs.Classes.{names, numbers, marks, words, unaries, binaries}
use Rattle.c_expr_parser.specs.Expressions.{largest_int, largest_word, number, word_number, null, begins_selector, member, element, selected, selectors, pointee, variable, base_place, place, read_pointee, address, unary, binary, cast, begins_cast, opened, read_variable, expr_by, expr}
use Rattle.c_expr_parser.specs.Depth.{expr_depth, place_depth}
use Rattle.c_expr_parser.proofs.FairTokens.{FairC, mark_fair, word_fair, name_fair, number_is, number_most, unary_is, binary_is, a_name, a_name_is}
use Rattle.c_expr_parser.proofs.Holes.{Law, begins_by, inner, in_first, in_second, in_later, in_after, ExprHole, PlaceHole, CastHole, read_hole, may_begin}
use Rattle.c_expr_parser.proofs.FairTypes.{cast_type_fair}
use Rattle.c_expr_parser.proofs.Closed.{fair_closed}

-- ---- what is read

abbrev pub ReadExpr : List Token → (List Token → List Token) → ℕ → Expr → List Token → Type 0
ReadExpr all front d e r = At all (λ u. front (spell_expr e u)) r × IsExpr e × (expr_depth e ≤ d)

abbrev pub ReadPlace : List Token → (List Token → List Token) → ℕ → Place → List Token → Type 0
ReadPlace all front d p r = At all (λ u. front (spell_place p u)) r × IsPlace p × (place_depth p ≤ d)

-- a parser of expressions with so many levels left
abbrev pub ExprFair : List Token → ℕ → Parser Token Expr → Type 0
ExprFair all d p = (level : ℕ) (front : List Token → List Token) (s : List Token) → level + d ≡ 2401 → At all front s → ExprHole level front → FairC all (ReadExpr all front d) (p s)

-- ---- places

index_hole : {front : List Token → List Token} (level : ℕ) → Law front → (p : Place) → IsPlace p → PlaceHole level front → ExprHole level (λ u. front (spell_place p (Sign mark.OpenBracket ∷ u)))
index_hole level law p is hole e ise =
    let f = hole (Index p e) (is, ise) in
    inner law (λ u. spell_place p (Sign mark.OpenBracket ∷ u)) (count spell_place p + 1) (omega (arith, count_more spell_place place_follow p (Sign mark.OpenBracket ∷ []))) f (Sign mark.CloseBracket ∷ f.more) refl
    (λ n l h k. in_second _ (in_after (count spell_place p + 1) (h k)))

pointee_hole : {front : List Token → List Token} (level : ℕ) → Law front → PlaceHole level front → ExprHole level (λ u. front (Sign mark.Open ∷ Sign mark.Star ∷ u))
pointee_hole level law hole e is =
    let f = hole (Pointee e) is in inner law (λ u. Sign mark.Open ∷ Sign mark.Star ∷ u) 2 refl f (Sign mark.Close ∷ f.more) refl (λ n l h k. in_after 2 (h k))

module _ (all : List Token) (formed : AreTokens all) (d : ℕ) (child : Parser Token Expr) (good : ExprFair all d child) where
  member_fair : (level : ℕ) (front : List Token → List Token) (p : Place) (s : List Token) → PlaceHole level front → ReadPlace all front d p s → FairC all (ReadPlace all front d) (member p s)
  unfolding member
  member_fair level front p s hole (at, is, deep) =
      mark_fair mark.Dot s at (let f = hole p is in begins_by at f f.more refl) (λ _ r at1.
      name_fair formed r at1 (let f = hole (Member p a_name) (is, a_name_is) in begins_by at1 f (Identifier a_name ∷ f.more) refl) (λ n r isn at2.
      reads (Member p n) r (at2, (is, isn), deep)))

  element_fair : (level : ℕ) (front : List Token → List Token) (p : Place) (s : List Token) → level + d ≡ 2401 → Law front → PlaceHole level front → ReadPlace all front d p s → FairC all (ReadPlace all front d) (element child p s)
  unfolding element
  element_fair level front p s left law hole (at, is, deep) =
      mark_fair mark.OpenBracket s at (let f = hole p is in begins_by at f f.more refl) (λ _ r at1.
      fair_then (good level (λ u. front (spell_place p (Sign mark.OpenBracket ∷ u))) r left at1 (index_hole level law p is hole)) (λ a r (at2, isa, deep').
      mark_fair mark.CloseBracket r at2 (let f = hole (Index p a) (is, isa) in begins_by at2 f (Sign mark.CloseBracket ∷ f.more) refl) (λ _ r at3.
      reads (Index p a) r (at3, (is, isa), grind arith))))

  selectors_fair : (level : ℕ) (front : List Token → List Token) (p : Place) (s : List Token) → level + d ≡ 2401 → Law front → PlaceHole level front → ReadPlace all front d p s → FairC all (ReadPlace all front d) (selectors child p s)
  unfolding selectors selected
  selectors_fair level front p s left law hole h =
      fair_repeat begins_selector (selected child) (λ q s h e. fair_either (begins (marks mark.Dot) s) (λ _. member_fair level front q s hole h) (λ _. element_fair level front q s left law hole h)) p s h

  pointee_fair : (level : ℕ) (front : List Token → List Token) (s : List Token) → level + d ≡ 2401 → Law front → PlaceHole level front → At all (λ u. front (Sign mark.Open ∷ u)) s → FairC all (ReadPlace all front d) (pointee child s)
  unfolding pointee
  pointee_fair level front s left law hole at =
      mark_fair mark.Star s at (let f = hole (Pointee Null) tt in begins_by at f (Sign mark.Star ∷ spell_expr Null (Sign mark.Close ∷ f.more)) refl) (λ _ r at1.
      fair_closed child r (λ a s. Ok (Pointee a, s)) (fair_then (good level (λ u. front (Sign mark.Open ∷ Sign mark.Star ∷ u)) r left at1 (pointee_hole level law hole)) (λ a r (at2, isa, deep).
      mark_fair mark.Close r at2 (let f = hole (Pointee a) isa in begins_by at2 f (Sign mark.Close ∷ f.more) refl) (λ _ r at3.
      reads (Pointee a) r (at3, isa, deep)))))

  variable_fair : (level : ℕ) (front : List Token → List Token) (s : List Token) → PlaceHole level front → At all front s → FairC all (ReadPlace all front d) (variable s)
  unfolding variable
  variable_fair level front s hole at =
      name_fair formed s at (let f = hole (Variable a_name) a_name_is in begins_by at f (Identifier a_name ∷ f.more) refl) (λ n r is at1. reads (Variable n) r (at1, is, grind arith))

  pub place_fair : (level : ℕ) (front : List Token → List Token) (s : List Token) → level + d ≡ 2401 → PlaceHole level front → At all front s → FairC all (ReadPlace all front d) (place child s)
  unfolding place base_place
  place_fair level front s left hole at =
      fair_then (fair_either (begins names s) (λ _. variable_fair level front s hole at)
      (λ _. mark_fair mark.Open s at (let f = hole (Variable a_name) a_name_is in begins_by at f (Identifier a_name ∷ f.more) refl) (λ _ r at1. pointee_fair level front r left at.law hole at1)))
      (λ p r h. selectors_fair level front p r left at.law hole h)

  -- ---- after an opening parenthesis

  abbrev Opened : Parser Token Expr → Type 0
  Opened p = (level : ℕ) (front : List Token → List Token) (s : List Token) → level + suc d ≡ 2401 → Law front → ExprHole level front → At all (λ u. front (Sign mark.Open ∷ u)) s
      → FairC all (ReadExpr all front (suc d)) (p s)

  read_fair : (level : ℕ) (front : List Token → List Token) (p : Place) (s : List Token) → level + suc d ≡ 2401 → Law front → ExprHole level front → ReadPlace all front d p s
      → FairC all (ReadExpr all front (suc d)) (and_then (selectors child p s) (λ q s. Ok (Read q, s)))
  read_fair level front p s left law hole h =
      fair_then (selectors_fair (suc level) front p s (omega arith) law (read_hole level hole) h) (λ q r (at, is, deep). reads (Read q) r (at, is, omega arith))

  read_pointee_fair : Opened (read_pointee child)
  unfolding read_pointee
  read_pointee_fair level front s left law hole at =
      fair_then (pointee_fair (suc level) front s (omega arith) law (read_hole level hole) at) (λ p r h. read_fair level front p r left law hole h)

  address_hole : {front : List Token → List Token} (level : ℕ) → Law front → ExprHole level front → PlaceHole (suc level) (λ u. front (Sign mark.Open ∷ Sign mark.Ampersand ∷ u))
  address_hole level law hole p is =
      let f = hole (Address p) is in inner law (λ u. Sign mark.Open ∷ Sign mark.Ampersand ∷ u) 2 refl f (Sign mark.Close ∷ f.more) refl (λ n l h k. in_later (in_after 2 (h k)))

  address_fair : Opened (address child)
  unfolding address
  address_fair level front s left law hole at =
      mark_fair mark.Ampersand s at (let f = hole (Address (Variable a_name)) a_name_is in begins_by at f (Sign mark.Ampersand ∷ Identifier a_name ∷ Sign mark.Close ∷ f.more) refl) (λ _ r at1.
      fair_then (place_fair (suc level) (λ u. front (Sign mark.Open ∷ Sign mark.Ampersand ∷ u)) r (omega arith) (address_hole level law hole) at1) (λ p r (at2, is, deep).
      mark_fair mark.Close r at2 (let f = hole (Address p) is in begins_by at2 f (Sign mark.Close ∷ f.more) refl) (λ _ r at3.
      reads (Address p) r (at3, is, omega arith))))

  unary_hole : {front : List Token → List Token} (level : ℕ) (op : CUnary) → Law front → ExprHole level front → ExprHole (suc level) (λ u. front (Sign mark.Open ∷ Sign (unary_mark op) ∷ u))
  unary_hole level op law hole e is =
      let f = hole (Unary op e) is in inner law (λ u. Sign mark.Open ∷ Sign (unary_mark op) ∷ u) 2 refl f (Sign mark.Close ∷ f.more) refl (λ n l h k. in_later (in_after 2 (h k)))

  unary_fair : Opened (unary child)
  unfolding unary
  unary_fair level front s left law hole at =
      fair_spelled unaries (λ op. Sign (unary_mark op)) unary_is s at
      (let f = hole (Unary unary_.Minus Null) tt in begins_by at f (Sign mark.Minus ∷ spell_expr Null (Sign mark.Close ∷ f.more)) refl) (λ op r _ at1.
      fair_closed child r (λ a s. Ok (Unary op a, s)) (fair_then (good (suc level) (λ u. front (Sign mark.Open ∷ Sign (unary_mark op) ∷ u)) r (omega arith) at1 (unary_hole level op law hole)) (λ a r (at2, is, deep).
      mark_fair mark.Close r at2 (let f = hole (Unary op a) is in begins_by at2 f (Sign mark.Close ∷ f.more) refl) (λ _ r at3.
      reads (Unary op a) r (at3, is, omega arith)))))

  left_hole : {front : List Token → List Token} (level : ℕ) → Law front → ExprHole level front → ExprHole (suc level) (λ u. front (Sign mark.Open ∷ u))
  left_hole level law hole e is =
      let f = hole (Binary binary_.Add e Null) (is, tt) in
      inner law (λ u. Sign mark.Open ∷ u) 1 refl f (Sign mark.Plus ∷ spell_expr Null (Sign mark.Close ∷ f.more)) refl (λ n l h k. in_later (in_first _ (in_after 1 (h k))))

  right_hole : {front : List Token → List Token} (level : ℕ) (op : CBinary) (a : Expr) → Law front → IsExpr a → ExprHole level front
      → ExprHole (suc level) (λ u. front (Sign mark.Open ∷ spell_expr a (Sign (binary_mark op) ∷ u)))
  right_hole level op a law isa hole e is =
      let f = hole (Binary op a e) (isa, is) in
      inner law (λ u. Sign mark.Open ∷ spell_expr a (Sign (binary_mark op) ∷ u)) (count spell_expr a + 2) (omega (arith, count_more spell_expr expr_follow a (Sign (binary_mark op) ∷ []))) f (Sign mark.Close ∷ f.more) refl
      (λ n l h k. in_later (in_second _ (in_after (count spell_expr a + 2) (h k))))

  binary_fair : Opened (binary child)
  unfolding binary
  binary_fair level front s left law hole at =
      fair_then (good (suc level) (λ u. front (Sign mark.Open ∷ u)) s (omega arith) at (left_hole level law hole)) (λ a r (at1, isa, deep).
      fair_spelled binaries (λ op. Sign (binary_mark op)) binary_is r at1
      (let f = hole (Binary binary_.Add a Null) (isa, tt) in begins_by at1 f (Sign mark.Plus ∷ spell_expr Null (Sign mark.Close ∷ f.more)) refl) (λ op r _ at2.
      fair_closed child r (λ b s. Ok (Binary op a b, s)) (fair_then (good (suc level) (λ u. front (Sign mark.Open ∷ spell_expr a (Sign (binary_mark op) ∷ u))) r (omega arith) at2 (right_hole level op a law isa hole)) (λ b r (at3, isb, deep').
      mark_fair mark.Close r at3 (let f = hole (Binary op a b) (isa, isb) in begins_by at3 f (Sign mark.Close ∷ f.more) refl) (λ _ r at4.
      reads (Binary op a b) r (at4, (isa, isb), grind arith))))))

  cast_type_hole : {front : List Token → List Token} (level : ℕ) → Law front → ExprHole level front → CastHole (λ u. front (Sign mark.Open ∷ Sign mark.Open ∷ u))
  cast_type_hole level law hole to is =
      let f = hole (Cast to Null) (is, tt) in
      inner law (λ u. Sign mark.Open ∷ Sign mark.Open ∷ u) 2 refl f (Sign mark.Close ∷ spell_expr Null (Sign mark.Close ∷ f.more)) refl (λ n l h. absurd h)

  cast_hole : {front : List Token → List Token} (level : ℕ) (to : CCast) → Law front → IsCast to → ExprHole level front
      → ExprHole (suc level) (λ u. front (Sign mark.Open ∷ Sign mark.Open ∷ spell_cast to (Sign mark.Close ∷ u)))
  cast_hole level to law ist hole e is =
      let f = hole (Cast to e) (ist, is) in
      inner law (λ u. Sign mark.Open ∷ Sign mark.Open ∷ spell_cast to (Sign mark.Close ∷ u)) (count spell_cast to + 3) (omega (arith, count_more spell_cast cast_follow to (Sign mark.Close ∷ []))) f (Sign mark.Close ∷ f.more) refl
      (λ n l h k. in_later (in_second _ (in_after (count spell_cast to + 3) (h k))))

  cast_fair : Opened (cast child)
  unfolding cast
  cast_fair level front s left law hole at =
      mark_fair mark.Open s at (let f = hole (Cast cast_.Int Null) (tt, tt) in begins_by at f (Sign mark.Open ∷ spell_cast cast_.Int (Sign mark.Close ∷ spell_expr Null (Sign mark.Close ∷ f.more))) refl) (λ _ r at1.
      fair_then (cast_type_fair all formed (λ u. front (Sign mark.Open ∷ Sign mark.Open ∷ u)) r at1 (cast_type_hole level law hole)) (λ to r (at2, ist).
      mark_fair mark.Close r at2 (let f = hole (Cast to Null) (ist, tt) in begins_by at2 f (Sign mark.Close ∷ spell_expr Null (Sign mark.Close ∷ f.more)) refl) (λ _ r at3.
      fair_closed child r (λ a s. Ok (Cast to a, s)) (fair_then (good (suc level) (λ u. front (Sign mark.Open ∷ Sign mark.Open ∷ spell_cast to (Sign mark.Close ∷ u))) r (omega arith) at3 (cast_hole level to law ist hole)) (λ a r (at4, isa, deep).
      mark_fair mark.Close r at4 (let f = hole (Cast to a) (ist, isa) in begins_by at4 f (Sign mark.Close ∷ f.more) refl) (λ _ r at5.
      reads (Cast to a) r (at5, (ist, isa), omega arith)))))))

  opened_fair : Opened (opened child)
  unfolding opened
  opened_fair level front s left law hole at =
      fair_either (begins (marks mark.Star) s) (λ _. read_pointee_fair level front s left law hole at)
      (λ _. fair_either (begins (marks mark.Ampersand) s) (λ _. address_fair level front s left law hole at)
      (λ _. fair_either (begins unaries s) (λ _. unary_fair level front s left law hole at)
      (λ _. fair_either (begins_cast s) (λ _. cast_fair level front s left law hole at)
      (λ _. binary_fair level front s left law hole at))))

  -- ---- expressions

  abbrev Whole : Parser Token Expr → Type 0
  Whole p = (level : ℕ) (front : List Token → List Token) (s : List Token) → At all front s → ExprHole level front → FairC all (ReadExpr all front (suc d)) (p s)

  number_fair : Whole number
  unfolding number
  number_fair level front s at hole =
      word_fair word.Int64 s at (let f = hole Null tt in begins_by at f (spell_expr Null f.more) refl) (λ _ r at1.
      let zero_is : IsNumber 0 = omega arith in let f = hole (Number 0) zero_is in
      mark_fair mark.Open r at1 (begins_by at1 f (Sign mark.Open ∷ Numeral 0 ∷ Sign mark.Close ∷ f.more) refl) (λ _ r at2.
      fair_token (numbers largest_int) r at2 (begins_by at2 f (Numeral 0 ∷ Sign mark.Close ∷ f.more) refl) (λ t n r c e.
      let small = number_most largest_int t n c in let is : IsNumber n = omega (arith, small) in
      let at3 = at_token at2 (Numeral n) r (e ∙ ap (λ z. z ∷ r) (number_is largest_int t n c)) in
      mark_fair mark.Close r at3 (let g = hole (Number n) is in begins_by at3 g (Sign mark.Close ∷ g.more) refl) (λ _ r at4.
      reads (Number n) r (at4, is, omega arith)))))

  word_number_fair : Whole word_number
  unfolding word_number
  word_number_fair level front s at hole =
      word_fair word.Uint64 s at (let f = hole Null tt in begins_by at f (spell_expr Null f.more) refl) (λ _ r at1.
      let zero_is : IsWordNumber 0 = omega arith in let f = hole (WordNumber 0) zero_is in
      mark_fair mark.Open r at1 (begins_by at1 f (Sign mark.Open ∷ Numeral 0 ∷ Sign mark.Close ∷ f.more) refl) (λ _ r at2.
      fair_token (numbers largest_word) r at2 (begins_by at2 f (Numeral 0 ∷ Sign mark.Close ∷ f.more) refl) (λ t n r c e.
      let small = number_most largest_word t n c in let is : IsWordNumber n = omega (arith, small) in
      let at3 = at_token at2 (Numeral n) r (e ∙ ap (λ z. z ∷ r) (number_is largest_word t n c)) in
      mark_fair mark.Close r at3 (let g = hole (WordNumber n) is in begins_by at3 g (Sign mark.Close ∷ g.more) refl) (λ _ r at4.
      reads (WordNumber n) r (at4, is, omega arith)))))

  null_fair : Whole null
  unfolding null
  null_fair level front s at hole = word_fair word.Null s at (let f = hole Null tt in begins_by at f (spell_expr Null f.more) refl) (λ _ r at1. reads Null r (at1, tt, omega arith))

  expr_by_fair : ExprFair all (suc d) (expr_by child)
  unfolding expr_by read_variable
  expr_by_fair level front s left at hole =
      fair_either (begins names s) (λ _. fair_then (variable_fair (suc level) front s (read_hole level hole) at) (λ p r h. read_fair level front p r left at.law hole h))
      (λ _. fair_either (begins (marks mark.Open) s)
      (λ _. mark_fair mark.Open s at (let f = hole Null tt in begins_by at f (spell_expr Null f.more) refl) (λ _ r at1. opened_fair level front r left at.law hole at1))
      (λ _. fair_either (begins (words word.Int64) s) (λ _. number_fair level front s at hole)
      (λ _. fair_either (begins (words word.Uint64) s) (λ _. word_number_fair level front s at hole)
      (λ _. null_fair level front s at hole))))

pub expr_fair : (all : List Token) → AreTokens all → (d : ℕ) → ExprFair all d (expr d)
unfolding expr
expr_fair all formed zero level front s left at hole = fair_stop at (let same : level ≡ 2401 = omega (arith, left) in subst (λ l. MayBegin l (front [])) same (may_begin level at hole))
expr_fair all formed (suc d) level front s left at hole = expr_by_fair all formed d (expr d) (expr_fair all formed d) level front s left at hole
