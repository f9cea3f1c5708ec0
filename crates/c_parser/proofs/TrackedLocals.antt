-- The locals of a block and its statements are told apart by two tokens.
use Rattle.std.proofs.Common.{◌≡◌, ℕ, zero, suc, ◌<◌, ◌≤◌, Bool, true, false, List, [], ◌∷◌, ◌++◌, length, Some, None, Ok, Err, refl, sym, ap, subst, ◌∙◌, append_assoc, arith}
use Rattle.std.proofs.lemmas.List.{append-nil}
use Rattle.c_tree.specs.Tree.{ObjectType, Int, Word, Byte, Struct, Named, VoidPointer, Pointer, Place, Variable, Pointee, Member, Index, Statement, Assign, Call, Malloc, Free, GetChar, PutChar, If, IfElse, While, Goto, Label, Return, body_of}
use Rattle.c_tree.specs.declared.statement.CCallee.TheVariants.{Direct, Indirect}
use Rattle.c_tree.specs.declared.program.CVariable.{CVariable}
use Rattle.c_grammar.specs.declared.token.Word.TheVariants as word
use Rattle.c_grammar.specs.declared.token.Mark.TheVariants as mark
use Rattle.c_grammar.specs.Token.{Token, Identifier, Numeral, Quoted, Sign}
use Rattle.c_grammar.specs.Spelling.{spell_all, spell_listed, spell_expr, spell_place, spell_callee, spell_statement, spell_body, spell_type, spell_variable, spell_variable_line, spell_block}
use Rattle.c_grammar.specs.Grammar.{IsBody}
use Rattle.token_parsing.specs.Parser.{Parser, Outcome, and_then, begins, rest, again, repeat}
use Rattle.token_parsing.proofs.Tracked.{Shrinks, Short, stops_short, short_then, Takes, Along, ended, last, longer, Tracked, one_shrinks, pure_shrinks, then_shrinks, takes_token, takes_then, takes_either, same_begins, begun_short, short_tracked, short_turn, track_then, track_pure, track_turn, track_no_turn}
use Rattle.c_expr_parser.specs.Classes.{same_word, same_mark, names, words, marks, scalars, expect}
use Rattle.c_expr_parser.specs.Types.{struct_type, byte_type, void_pointer, base_type, object_type}
use Rattle.c_expr_parser.specs.Expressions.{variable, base_place, place, expr}
use Rattle.c_parser.specs.Statements.{no_brace, next_statement, statements, simple, statement_by, statement}
use Rattle.c_parser.specs.Programs as programs
use Rattle.c_parser.specs.Programs.{variable_of, type_words, begins_local, next_local, locals, block}
use Rattle.c_expr_parser.specs.Depth.{body_depth}
use Rattle.c_expr_parser.proofs.Shrinks.{stars_shrinks, selectors_shrinks, expr_shrinks}
use Rattle.c_parser.proofs.Shrinks.{placed_shrinks, next_statement_shrinks, statements_shrinks, statement_shrinks, next_local_shrinks, locals_shrinks}
use Rattle.c_expr_parser.proofs.TrackedTokens.{mark_tracked, name_tracked}
use Rattle.c_expr_parser.proofs.TrackedTypes.{NoStar, type_tracked}
use Rattle.c_expr_parser.proofs.TrackedExpressions.{expr_tracked}
use Rattle.c_parser.proofs.TrackedStatements.{expr_taking, statements_tracked, statement_takes, statement_tracked}

name_no_star : (name : List ℕ) (w : List Token) → NoStar (Identifier name ∷ w)
unfolding begins
name_no_star name w = refl

module _ (n : ℕ) (W : Type 0) where
  pub variable_tracked : (v : CVariable) (rest s : List Token) → Along n (spell_variable v rest) s → Tracked n W v rest (programs.variable s)
  unfolding programs.variable
  variable_tracked v rest s h =
      track_then (type_tracked n W v.of (Identifier v.name ∷ rest) s (name_no_star v.name rest) h) (λ _. then_shrinks (one_shrinks _) (λ _. pure_shrinks _)) (λ r h.
      name_tracked v.name h (λ _. pure_shrinks _) (λ r h. track_pure v h))

  local_tracked : (found : List CVariable) (v : CVariable) (rest s : List Token) → Along n (spell_variable_line v rest) s → Tracked n W (found ++ v ∷ []) rest (next_local found s)
  unfolding next_local
  local_tracked found v rest s h =
      track_then (variable_tracked v (Sign mark.Semicolon ∷ rest) s h) (λ _. then_shrinks (one_shrinks _) (λ _. pure_shrinks _)) (λ r h. mark_tracked mark.Semicolon h (λ _. pure_shrinks _) (λ r h. track_pure (found ++ v ∷ []) h))

-- ---- what takes a token

pub base_type_takes : (s : List Token) → Takes (length s) (base_type s)
unfolding base_type struct_type byte_type void_pointer
base_type_takes s =
    takes_either (length s) (begins names s) _ _ (takes_token names s (λ _. pure_shrinks _))
    (takes_either (length s) (begins (words word.Struct) s) _ _ (takes_token (words word.Struct) s (λ _. then_shrinks (one_shrinks _) (λ _. pure_shrinks _)))
    (takes_either (length s) (begins (words word.Unsigned) s) _ _ (takes_token (words word.Unsigned) s (λ _. then_shrinks (one_shrinks _) (λ _. pure_shrinks _)))
    (takes_either (length s) (begins (words word.Void) s) _ _ (takes_token (words word.Void) s (λ _. then_shrinks (one_shrinks _) (λ _. pure_shrinks _)))
    (takes_token scalars s (λ _. pure_shrinks _)))))

pub type_takes : (s : List Token) → Takes (length s) (object_type s)
unfolding object_type
type_takes s = takes_then (length s) (base_type s) (base_type_takes s) stars_shrinks

pub variable_takes : (s : List Token) → Takes (length s) (programs.variable s)
unfolding programs.variable
variable_takes s = takes_then (length s) (object_type s) (type_takes s) (λ _. then_shrinks (one_shrinks _) (λ _. pure_shrinks _))

local_takes : (found : List CVariable) (s : List Token) → Takes (length s) (next_local found s)
unfolding next_local
local_takes found s = takes_then (length s) (programs.variable s) (variable_takes s) (λ _. then_shrinks (one_shrinks _) (λ _. pure_shrinks _))

-- the first token of a local
base_short : (t : Token) (r : List Token) → begins_local (t ∷ r) ≡ true → Short (suc (length r)) (base_type (t ∷ r))
unfolding begins_local base_type struct_type byte_type void_pointer begins same_word
base_short (Identifier name) r e = begun_short names (Identifier name) r refl (λ _. pure_shrinks _)
base_short (Quoted word.Int64Type) r e = begun_short scalars (Quoted word.Int64Type) r refl (λ _. pure_shrinks _)
base_short (Quoted word.Uint64Type) r e = begun_short scalars (Quoted word.Uint64Type) r refl (λ _. pure_shrinks _)
base_short (Quoted word.Unsigned) r e = begun_short (words word.Unsigned) (Quoted word.Unsigned) r refl (λ _. then_shrinks (one_shrinks _) (λ _. pure_shrinks _))
base_short (Quoted word.Struct) r e = begun_short (words word.Struct) (Quoted word.Struct) r refl (λ _. then_shrinks (one_shrinks _) (λ _. pure_shrinks _))
base_short (Quoted word.Void) r e = begun_short (words word.Void) (Quoted word.Void) r refl (λ _. then_shrinks (one_shrinks _) (λ _. pure_shrinks _))
base_short _ r e = absurd cc

local_short : (found : List CVariable) (t : Token) (r : List Token) → begins_local (t ∷ r) ≡ true → Short (suc (length r)) (next_local found (t ∷ r))
unfolding next_local programs.variable object_type
local_short found t r e = short_then (short_then (short_then (base_short t r e) stars_shrinks) (λ _. then_shrinks (one_shrinks _) (λ _. pure_shrinks _))) (λ _. then_shrinks (one_shrinks _) (λ _. pure_shrinks _))

short_plain : {A : Type 0} {n : ℕ} (o : Outcome Token A) → Short n (and_then o (λ a s. Ok (a, s))) → Short n o
short_plain (Ok p) h = h
short_plain (Err e) h = h

-- what begins a local is some token
nonempty : (n : ℕ) (w s : List Token) → Along n w s → begins_local s ≡ true → 0 < length s
unfolding begins_local begins
nonempty n w [] h e = absurd cc
nonempty n w (t ∷ s) h e = omega arith

-- ---- the test

unfoldable if_name : Bool → Bool → Bool → Bool → Bool
if_name a b c d = elim a [ true ↦ elim b [ true ↦ true | false ↦ c ] | false ↦ d ]

local_known : (n : ℕ) (t : Token) (w r : List Token) → Along n w r → begins_local (t ∷ r) ≡ begins_local (t ∷ w)
unfolding begins_local begins if_name
local_known n t w r h =
    ap (λ b. if_name (begins names (t ∷ w)) b (begins (marks mark.Star) r) (begins type_words (t ∷ w))) (same_begins names h)
    ∙ ap (λ b. if_name (begins names (t ∷ w)) (begins names w) b (begins type_words (t ∷ w))) (same_begins (marks mark.Star) h)

type_local : (of : ObjectType) (name : List ℕ) (w : List Token) → (begins_local (spell_type of (Identifier name ∷ w)) ≡ true) × (begins_local (spell_type of (Sign mark.Star ∷ w)) ≡ true)
unfolding begins_local begins same_mark
type_local Int name w = (refl, refl)
type_local Word name w = (refl, refl)
type_local Byte name w = (refl, refl)
type_local (Struct m) name w = (refl, refl)
type_local (Named m) name w = (refl, refl)
type_local VoidPointer name w = (refl, refl)
type_local (Pointer of) name w = ((type_local of name (Identifier name ∷ w)).1, (type_local of name (Sign mark.Star ∷ w)).1)

place_no_local : (p : Place) (w : List Token) → begins names w ≡ false → begins (marks mark.Star) w ≡ false → begins_local (spell_place p w) ≡ false
unfolding begins_local begins same_mark
place_no_local (Variable name) w a b = ap (λ z. elim z [ true ↦ true | false ↦ begins (marks mark.Star) w ]) a ∙ b
place_no_local (Pointee e) w a b = refl
place_no_local (Member p name) w a b = place_no_local p (Sign mark.Dot ∷ Identifier name ∷ w) refl refl
place_no_local (Index p e) w a b = place_no_local p (Sign mark.OpenBracket ∷ spell_expr e (Sign mark.CloseBracket ∷ w)) refl refl

statement_no_local : (a : Statement) (w : List Token) → begins_local (spell_statement a w) ≡ false
unfolding begins_local begins same_mark
statement_no_local (Assign p a) w = place_no_local p (Sign mark.Assign ∷ spell_expr a (Sign mark.Semicolon ∷ w)) refl refl
statement_no_local (Call None (Direct name) all) w = refl
statement_no_local (Call None (Indirect a) all) w = refl
statement_no_local (Call (Some p) c all) w = place_no_local p (Sign mark.Assign ∷ spell_callee c (Sign mark.Open ∷ spell_listed spell_expr all (Sign mark.Close ∷ Sign mark.Semicolon ∷ w))) refl refl
statement_no_local (Malloc p of) w = place_no_local p (Sign mark.Assign ∷ Quoted word.Malloc ∷ Sign mark.Open ∷ Quoted word.SizeOf ∷ Sign mark.Open ∷ spell_type of (Sign mark.Close ∷ Sign mark.Close ∷ Sign mark.Semicolon ∷ w)) refl refl
statement_no_local (Free a) w = refl
statement_no_local (GetChar p) w = place_no_local p (Sign mark.Assign ∷ Quoted word.GetChar ∷ Sign mark.Open ∷ Sign mark.Close ∷ Sign mark.Semicolon ∷ w) refl refl
statement_no_local (PutChar a) w = refl
statement_no_local (If test a) w = refl
statement_no_local (IfElse test a b) w = refl
statement_no_local (While test a) w = refl
statement_no_local (Goto l) w = refl
statement_no_local (Label l) w = refl
statement_no_local (Return a) w = refl

body_no_local : (all : List Statement) (w : List Token) → begins_local (spell_body (body_of all) (Sign mark.CloseBrace ∷ w)) ≡ false
unfolding begins_local begins
body_no_local [] w = refl
body_no_local (a ∷ more) w = statement_no_local a (spell_body (body_of more) (Sign mark.CloseBrace ∷ w))

-- ---- blocks

statement_name_short : (d : ℕ) (name : List ℕ) (r : List Token) → Short (suc (length r)) (statement d (Identifier name ∷ r))
unfolding statement statement_by simple place base_place variable begins
statement_name_short zero name r = stops_short _ (omega arith)
statement_name_short (suc d) name r =
    short_then (short_then (begun_short names (Identifier name) r refl (λ _. pure_shrinks _)) (λ p. selectors_shrinks (expr d) (expr_shrinks d) p)) (placed_shrinks (expr d) (expr_shrinks d))

statements_name_short : (name : List ℕ) (r : List Token) → Short (suc (length r)) (statements (statement 2400) (Identifier name ∷ r))
unfolding statements repeat next_statement begins
statements_name_short name r =
    short_plain _ (short_turn no_brace (next_statement (statement 2400)) (λ a s. Ok (a, s)) (length (Identifier name ∷ r)) [] (Identifier name ∷ r) refl (omega arith) (omega arith)
    (short_then (statement_name_short 2400 name r) (λ _. pure_shrinks _)) (next_statement_shrinks (expr 2400) (expr_shrinks 2400) (statement 2400) (statement_shrinks 2400)) (λ a. pure_shrinks a))

-- the statements after the locals, and the closing brace
abbrev After : List CVariable → Parser Token (List CVariable × List Statement)
After ls s = and_then (statements (statement 2400) s) (λ body s. and_then (expect mark.CloseBrace s) (λ _ s. Ok ((ls, body), s)))

after_locals_shrinks : (ls : List CVariable) → Shrinks (After ls)
after_locals_shrinks ls = then_shrinks (statements_shrinks (expr 2400) (expr_shrinks 2400) (statement 2400) (statement_shrinks 2400)) (λ _. then_shrinks (one_shrinks _) (λ _. pure_shrinks _))

-- a token that may begin a local, and of which that is not seen, is a name
is_name : (t : Token) (w r : List Token) → begins_local (t ∷ w) ≡ true → begins_local (t ∷ r) ≡ false → (name : List ℕ) × (t ≡ Identifier name)
unfolding begins_local begins
is_name (Identifier name) w r e f = (name, refl)
is_name (Numeral m) w r e f = absurd cc
is_name (Quoted q) w r e f = absurd cc
is_name (Sign m) w r e f = absurd cc

after_tracked : (n : ℕ) (W : Type 0) (ls : List CVariable) (body : List Statement) → IsBody (body_of body) → (W → body_depth (body_of body) ≤ 2400) → (rest s : List Token)
    → Along n (spell_body (body_of body) (Sign mark.CloseBrace ∷ rest)) s → Tracked n W (ls, body) rest (After ls s)
after_tracked n W ls body is deep rest s h =
    track_then (statements_tracked n W 2400 (expr 2400) (expr_shrinks 2400) (λ n V. expr_tracked n V 2400) (expr_taking 2400) (statement 2400) (statement_shrinks 2400) (statement_takes 2400) (statement_tracked n W 2400) body is deep rest s h)
    (λ _. then_shrinks (one_shrinks _) (λ _. pure_shrinks _)) (λ r h. mark_tracked mark.CloseBrace h (λ _. pure_shrinks _) (λ r h. track_pure (ls, body) h))

-- there is no local more
no_local : (n : ℕ) (W : Type 0) (found : List CVariable) (body : List Statement) → IsBody (body_of body) → (W → body_depth (body_of body) ≤ 2400) → (rest w s : List Token) → begins_local w ≡ false → Along n w s
    → w ≡ spell_body (body_of body) (Sign mark.CloseBrace ∷ rest) → (g : ℕ) → length s ≤ g → (b : Bool) → begins_local s ≡ b → Tracked n W (found, body) rest (and_then (again begins_local next_local g found s) After)
unfolding begins_local begins
no_local n W found body is deep rest w s none h same g enough false e =
    track_no_turn begins_local next_local After g found s e (after_tracked n W found body is deep rest s (subst (λ z. Along n z s) same h))
no_local _ W found body is deep rest _ _ none (last t w r) same g enough true e =
    short_tracked (omega arith) (short_turn begins_local next_local After g found (t ∷ r) e enough (omega arith) (local_short found t r e) next_local_shrinks after_locals_shrinks)
no_local _ W found body is deep rest _ _ none (longer n t w r h) same g enough true e = let known = local_known n t w r h in absurd cc
no_local _ W found body is deep rest _ _ none ended same g enough true e = absurd cc

-- the text has a local, which is not seen
hidden_local : (n : ℕ) (W : Type 0) (y : List CVariable × List Statement) (found : List CVariable) (rest w s : List Token) → begins_local w ≡ true → Along n w s → begins_local s ≡ false → (g : ℕ)
    → Tracked n W y rest (and_then (again begins_local next_local g found s) After)
unfolding begins_local begins
hidden_local _ W y found rest _ _ one (last t w r) e g =
    let (name, same) = is_name t w r one e in
    subst (λ z. Tracked (suc (length r)) W y rest (and_then (again begins_local next_local g found (z ∷ r)) After)) (sym same)
    (track_no_turn begins_local next_local After g found (Identifier name ∷ r) (ap (λ z. begins_local (z ∷ r)) (sym same) ∙ e) (short_tracked (omega arith) (short_then (statements_name_short name r) (λ _. then_shrinks (one_shrinks _) (λ _. pure_shrinks _)))))
hidden_local _ W y found rest _ _ one (longer n t w r h) e g = let known = local_known n t w r h in absurd cc
hidden_local _ W y found rest _ _ one ended e g = absurd cc

module _ (n : ℕ) (W : Type 0) where
  one_local : (v : CVariable) (found : List CVariable) (y : List CVariable × List Statement) (rest after s : List Token) → Along n (spell_variable_line v after) s → (g : ℕ) → length s ≤ g
      → ((g : ℕ) (r : List Token) → length r ≤ g → Along n after r → Tracked n W y rest (and_then (again begins_local next_local g (found ++ v ∷ []) r) After))
      → (b : Bool) → begins_local s ≡ b → Tracked n W y rest (and_then (again begins_local next_local g found s) After)
  one_local v found y rest after s h g enough k true e =
      track_turn begins_local next_local After g found s e enough (nonempty n (spell_variable_line v after) s h e) (local_takes found s) next_local_shrinks after_locals_shrinks (local_tracked n W found v after s h) k
  one_local v found y rest after s h g enough k false e = hidden_local n W y found rest (spell_variable_line v after) s (type_local v.of v.name (Sign mark.Semicolon ∷ after)).0 h e g

  locals_then : (ls found : List CVariable) (body : List Statement) → IsBody (body_of body) → (W → body_depth (body_of body) ≤ 2400) → (rest s : List Token)
      → Along n (spell_all spell_variable_line ls (spell_body (body_of body) (Sign mark.CloseBrace ∷ rest))) s → (g : ℕ) → length s ≤ g → Tracked n W (found ++ ls, body) rest (and_then (again begins_local next_local g found s) After)
  locals_then [] found body is deep rest s h g enough =
      subst (λ z. Tracked n W (z, body) rest (and_then (again begins_local next_local g found s) After)) (sym (append-nil found))
      (no_local n W found body is deep rest (spell_body (body_of body) (Sign mark.CloseBrace ∷ rest)) s (body_no_local body rest) h refl g enough (begins_local s) refl)
  locals_then (v ∷ more) found body is deep rest s h g enough =
      one_local v found (found ++ v ∷ more, body) rest (spell_all spell_variable_line more (spell_body (body_of body) (Sign mark.CloseBrace ∷ rest))) s h g enough
      (λ g r enough h. subst (λ z. Tracked n W (z, body) rest (and_then (again begins_local next_local g (found ++ v ∷ []) r) After)) (append_assoc found (v ∷ []) more) (locals_then more (found ++ v ∷ []) body is deep rest r h g enough))
      (begins_local s) refl

  pub block_tracked : (ls : List CVariable) (body : List Statement) → IsBody (body_of body) → (W → body_depth (body_of body) ≤ 2400) → (rest s : List Token) → Along n (spell_block ls body rest) s → Tracked n W (ls, body) rest (block s)
  unfolding block locals repeat
  block_tracked ls body is deep rest s h =
      mark_tracked mark.OpenBrace h (λ _. then_shrinks locals_shrinks after_locals_shrinks) (λ r h. locals_then ls [] body is deep rest r h (length r) (omega arith))
