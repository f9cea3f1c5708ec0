-- The arms of a `case` in a text are followed.
use Rattle.std.proofs.Common.{◌≡◌, ◌⊎◌, inl, inr, ℕ, zero, suc, ◌<◌, ◌≤◌, Bool, true, false, ◌&&◌, ◌||◌, List, [], ◌∷◌, length, map, Some, None, Ok, Err, refl, sym, ap, subst, ◌∙◌, arith, true≢false}
use Rattle.std.specs.Prelude.{IsTrue}
use Rattle.p2c_text.specs.declared.dialect.Dialect.{Dialect}
use Rattle.p2c_text.specs.declared.place.Span.{Span}
use Rattle.dialect_lexer.specs.declared.token.Symbol.TheVariants as mark
use Rattle.pascal_tree.specs.declared.constants.Sign.TheVariants as a_sign
use Rattle.pascal_tree.specs.declared.constants.Constant.{Constant}
use Rattle.pascal_tree.specs.declared.constants.Constant.TheVariants as a_constant
use Rattle.pascal_tree.specs.declared.constants.CaseLabel.{CaseLabel}
use Rattle.pascal_tree.specs.declared.expressions.Expr.{Expr}
use Rattle.pascal_tree.specs.declared.statements.Arm.{Arm, out-Arm}
use Rattle.pascal_tree.specs.declared.statements.Stmt.{Stmt}
use Rattle.token_parsing.specs.Parser.{Parser, Outcome, and_then, begins, again, repeat, rest}
use Rattle.token_parsing.proofs.Tracked.{Shorter, short, refuses_short, stops_short, Takes, takes_token, Shrinks, short_then, one_shrinks, then_shrinks, pure_shrinks, again_shrinks, repeat_shrinks}
use Rattle.expr_parser.specs.Tokens.{Token, Placed, Symbol}
use Rattle.expr_parser.specs.Layout.{Done, ◌&◌, symbol, spanned, with_commas, after_commas}
use Rattle.expr_parser.specs.Grammar.{some_all}
use Rattle.expr_parser.specs.Classes.{identifiers, numbers, texts, symbols, same_symbol}
use Rattle.expr_parser.proofs.Layouts.{spell, spell_join}
use Rattle.expr_parser.proofs.Followed.{Until, Along, last, longer, Followed, meets, past, refuses_past, too_deep, Begun, Looks, limit, short_followed, on_first, follow_then, follow_pure, follow_token, begun_token, looks_at}
use Rattle.expr_parser.proofs.FollowedParts.{and_out, Part, part_as, part_first, part_second, part_left, part_right, part_inside, along_as}
use Rattle.expr_parser.proofs.Lookahead.{looks_sign, looks_name, looks_number, looks_text, looks_symbol, on_sign, on_name, on_number, on_text, on_symbol, accepts_symbol}
use Rattle.expr_parser.specs.ConstantNodes.{write_case_label, write_constant, formed_case_label}
use Rattle.expr_parser.specs.Semicolons.{after_semicolons, with_semicolons}
use Rattle.stmt_parser.specs.Writing.{write_arm, write_stmt}
use Rattle.stmt_parser.specs.Grammar.{some_up_to, formed_arm, formed_stmt}
use Rattle.expr_parser.specs.Constants.{begins_constant}
use Rattle.stmt_parser.specs.Cases.{arm, next_arm, begins_next_arm, more_arms, arms}
use Rattle.stmt_parser.proofs.WrittenStatements.{write_arm_of}
use Rattle.stmt_parser.proofs.FormedStatements.{formed_arm_of}
use Rattle.stmt_parser.proofs.StatementViews.{arm_is}
use Rattle.stmt_parser.proofs.Shrinks.{arm_shrinks, next_arm_shrinks}
use Rattle.stmt_parser.proofs.Ends.{StmtEnds, semicolon_ends}
use Rattle.expr_parser.proofs.FollowedConstants.{case_labels_followed}
use Rattle.stmt_parser.proofs.FollowedStatements.{StmtFollowed}

-- ---- with what an arm begins

abbrev pub on_constant : Token → Bool
on_constant x = on_sign x || on_name x || on_number x || on_text x

pub looks_constant : Looks begins_constant on_constant
unfolding begins
looks_constant = record {
  none = refl;
  some = λ t s. ap (λ b. b || begins identifiers (t ∷ s) || begins numbers (t ∷ s) || begins texts (t ∷ s)) (looks_sign.some t s) ∙ ap (λ b. on_sign t.token || b || begins numbers (t ∷ s) || begins texts (t ∷ s)) (looks_name.some t s)
      ∙ ap (λ b. on_sign t.token || on_name t.token || b || begins texts (t ∷ s)) (looks_number.some t s) ∙ ap (λ b. on_sign t.token || on_name t.token || on_number t.token || b) (looks_text.some t s);
}

constant_starts : (c : Constant) (w : List Token) → on_first on_constant (spell (write_constant c) w) ≡ true
constant_starts (a_constant.Number None v span) w = refl
constant_starts (a_constant.Number (Some a_sign.Plus) v span) w = refl
constant_starts (a_constant.Number (Some a_sign.Minus) v span) w = refl
constant_starts (a_constant.Name None i span) w = refl
constant_starts (a_constant.Name (Some a_sign.Plus) i span) w = refl
constant_starts (a_constant.Name (Some a_sign.Minus) i span) w = refl
constant_starts (a_constant.Text bs span) w = refl

labels_start : (d : Dialect) (xs : List CaseLabel) → IsTrue (some_all (map (formed_case_label d) xs)) → (w : List Token) → on_first on_constant (spell (with_commas (map write_case_label xs)) w) ≡ true
labels_start d [] formed w = absurd (true≢false (sym formed))
labels_start d (x ∷ xs) formed w =
    ap (on_first on_constant) (spell_join (write_case_label x) (after_commas (map write_case_label xs)) w ∙ spell_join (write_constant x.first) _ (spell (after_commas (map write_case_label xs)) w)) ∙ constant_starts x.first _

pub arm_written : (d : Dialect) (x : Arm) → write_arm d x ≡ spanned (out-Arm x).span (with_commas (map write_case_label (out-Arm x).labels) & symbol mark.Colon & write_stmt d (out-Arm x).body)
arm_written d x = ap (λ y. write_arm d y) (arm_is x) ∙ write_arm_of d (out-Arm x).labels (out-Arm x).body (out-Arm x).span

pub arm_formed : (d : Dialect) (x : Arm) (follows : Bool) → formed_arm d x follows ≡ (some_all (map (formed_case_label d) (out-Arm x).labels) && formed_stmt d (out-Arm x).body follows)
arm_formed d x follows = ap (λ y. formed_arm d y follows) (arm_is x) ∙ formed_arm_of d (out-Arm x).labels (out-Arm x).body (out-Arm x).span follows

arm_spelled : (d : Dialect) (x : Arm) (w : List Token) → spell (write_arm d x) w ≡ spell (with_commas (map write_case_label (out-Arm x).labels)) (Symbol mark.Colon ∷ spell (write_stmt d (out-Arm x).body) w)
arm_spelled d x w = ap (λ l. spell l w) (arm_written d x) ∙ spell_join (with_commas (map write_case_label (out-Arm x).labels)) (symbol mark.Colon & write_stmt d (out-Arm x).body) w

arm_starts : (d : Dialect) (x : Arm) (follows : Bool) → IsTrue (formed_arm d x follows) → (w : List Token) → on_first on_constant (spell (write_arm d x) w) ≡ true
arm_starts d x follows formed w =
    let labels = (and_out _ (formed_stmt d (out-Arm x).body follows) (subst IsTrue (arm_formed d x follows) formed)).0 in
    ap (on_first on_constant) (arm_spelled d x w) ∙ labels_start d (out-Arm x).labels labels (Symbol mark.Colon ∷ spell (write_stmt d (out-Arm x).body) w)

-- ---- tests of two tokens

-- no arm goes on here: no semicolon, or a semicolon before another token than a constant's first
pub data NoArm : List Token → Type 0 where
  other : (x : Token) (w : List Token) → on_symbol mark.Semicolon x ≡ false → NoArm (x ∷ w)
  closing : (y : Token) (w : List Token) → on_constant y ≡ false → NoArm (Symbol mark.Semicolon ∷ y ∷ w)

and_first : (a b : Bool) → (a && b) ≡ true → a ≡ true
and_first true b e = refl
and_first false b e = absurd cc

first_false : (a b : Bool) → a ≡ false → (a && b) ≡ false
first_false true b e = absurd cc
first_false false b e = refl

second_false : (a b : Bool) → b ≡ false → (a && b) ≡ false
second_false true b e = e
second_false false b e = refl

both_true : (a b : Bool) → a ≡ true → b ≡ true → (a && b) ≡ true
both_true true b e f = f
both_true false b e f = absurd cc

-- of two tokens of the text both are known, or the first is the last that is
pub two_known : {n : Until} {x y : Token} {w : List Token} {s : List Placed} → Along n (x ∷ y ∷ w) s → (length s ≤ limit n) ⊎ ((t : Placed) × (r : List Placed) × (s ≡ t ∷ r) × Along n (y ∷ w) r)
two_known (last t x w r e) = inl (omega arith)
two_known (longer n t x w r e h) = inr (t, r, refl, h)

pub shorter_still : {A : Type 0} {i j : ℕ} {o : Outcome Placed A} → i ≤ j → Shorter i 0 o → Shorter j 0 o
shorter_still below (short a r h) = short a r (omega arith)
shorter_still below (refuses_short m h) = refuses_short m (omega arith)
shorter_still below (stops_short m h) = stops_short m (omega arith)

-- what was read leaves fewer tokens
further : {A B : Type 0} {n : Until} {m : ℕ} {W : Type 0} {rest rest' : List Token} {o : Outcome Placed A} {f : A → Parser Placed B}
    → Followed n W rest o → Takes m o → ((a : A) → Shrinks (f a)) → ((a : A) (r : List Placed) → length r < m → Along n rest r → Followed n W rest' (f a r)) → Followed n W rest' (and_then o f)
further (meets a r h) takes shrinks k = k a r takes h
further (past a r h) takes shrinks k = short_followed (shrinks a _ r h)
further (refuses_past j h) takes shrinks k = refuses_past j h
further (too_deep j h) takes shrinks k = too_deep j h

joined : {A B C : Type 0} (o : Outcome Placed A) (f : A → Parser Placed B) (g : B → Parser Placed C) → and_then (and_then o f) g ≡ and_then o (λ a s. and_then (f a s) g)
joined (Ok p) f g = refl
joined (Err e) f g = refl

-- a text that begins with a token of a kind
first_token : (on : Token → Bool) (w : List Token) → on_first on w ≡ true → (y : Token) × (v : List Token) × (w ≡ y ∷ v) × (on y ≡ true)
first_token on [] e = absurd cc
first_token on (y ∷ v) e = (y, v, refl, e)

module _ (n : Until) (W : Type 0) (d : Dialect) (end : Span) (k : ℕ) (child : Parser Placed Expr) (shrinks : Shrinks child)
    (inner : Parser Placed Stmt) (inner_shrinks : Shrinks inner) (inner_good : StmtFollowed n W d k inner) where
  arm_read : (x : Arm) (follows : Bool) → Part W k (write_arm d x) (formed_arm d x follows) → (rest : List Token) → StmtEnds follows rest → (s : List Placed) → Along n (spell (write_arm d x) rest) s → Followed n W rest (arm d end inner s)
  unfolding arm same_symbol
  arm_read x follows part rest ends s h =
      let labels = with_commas (map write_case_label (out-Arm x).labels) in let body = write_stmt d (out-Arm x).body in
      let p = part_inside _ (part_as (arm_written d x) (arm_formed d x follows) part) in
      follow_then (case_labels_followed n W d end k (out-Arm x).labels (part_first labels (symbol mark.Colon & body) _ _ p) (Symbol mark.Colon ∷ spell body rest) refl refl s (along_as (arm_spelled d x rest) h))
      (λ ls. then_shrinks (one_shrinks _) (λ _. then_shrinks inner_shrinks (λ y. λ n r k. pure_shrinks _ n r k))) (λ ls r h.
      follow_token (symbols mark.Colon) (accepts_symbol mark.Colon) h (λ u. then_shrinks inner_shrinks (λ y. λ n r k. pure_shrinks _ n r k)) (λ _ r h.
      follow_then (inner_good (out-Arm x).body follows (part_right (symbol mark.Colon) body (part_second labels (symbol mark.Colon & body) _ _ p)) rest ends r h) (λ y. λ n r k. pure_shrinks _ n r k) (λ y r h. follow_pure _ h)))

  next_begun : (found : List Arm) → Begun begins_next_arm (next_arm d end inner found)
  unfolding next_arm
  next_begun found s e = begun_token (symbols mark.Semicolon) s (and_first _ _ e) (λ _. then_shrinks (arm_shrinks d end child shrinks inner inner_shrinks) (λ x. pure_shrinks _))

  next_read : (x : Arm) (follows : Bool) → Part W k (write_arm d x) (formed_arm d x follows) → (rest : List Token) → StmtEnds follows rest → (found : List Arm) (s : List Placed)
      → Along n (Symbol mark.Semicolon ∷ spell (write_arm d x) rest) s → Followed n W rest (next_arm d end inner found s)
  unfolding next_arm
  next_read x follows part rest ends found s h =
      follow_token (symbols mark.Semicolon) (accepts_symbol mark.Semicolon) h (λ _. then_shrinks (arm_shrinks d end child shrinks inner inner_shrinks) (λ y. pure_shrinks _)) (λ _ r h.
      follow_then (arm_read x follows part rest ends r h) (λ y. pure_shrinks _) (λ y r h. follow_pure _ h))

  next_takes : (found : List Arm) (s : List Placed) → Takes (length s) (next_arm d end inner found s)
  unfolding next_arm
  next_takes found s = takes_token (symbols mark.Semicolon) s (λ _. then_shrinks (arm_shrinks d end child shrinks inner inner_shrinks) (λ y. pure_shrinks _))

  -- Arms, and then a part that takes a semicolon where one is next: a semicolon that is the last known token is taken by the one or the other.
  module _ {B : Type 0} (f : List Arm → Parser Placed B) (f_shrinks : (all : List Arm) → Shrinks (f all)) (f_begun : (all : List Arm) → Begun (begins (symbols mark.Semicolon)) (f all)) where
    semicolon_taken : (g : ℕ) (found : List Arm) (s : List Placed) → begins (symbols mark.Semicolon) s ≡ true → Shorter (length s) 0 (and_then (again begins_next_arm (next_arm d end inner) g found s) f)
    unfolding again
    semicolon_taken zero found s e = f_begun found s e
    semicolon_taken (suc g) found s e = by (begins_next_arm s) refl
      where
        by : (b : Bool) → begins_next_arm s ≡ b → Shorter (length s) 0 (and_then (elim b [ true ↦ and_then (next_arm d end inner found s) (again begins_next_arm (next_arm d end inner) g) | false ↦ Ok (found, s) ]) f)
        by true t = short_then (short_then (next_begun found s t) (λ b. again_shrinks begins_next_arm (next_arm d end inner) (next_arm_shrinks d end child shrinks inner inner_shrinks) g b)) f_shrinks
        by false t = f_begun found s e

    -- ---- what follows the arms, and how it is read
    module _ (after_arms rest' : List Token) (none : NoArm after_arms) (f_followed : (all : List Arm) (s : List Placed) → Along n after_arms s → Followed n W rest' (f all s)) where
      no_turn : (found : List Arm) (s : List Placed) (b : Bool) → b ≡ false → Along n after_arms s → (o : Outcome Placed (List Arm)) → Followed n W rest' (and_then (elim b [ true ↦ o | false ↦ Ok (found, s) ]) f)
      no_turn found s true e h o = absurd cc
      no_turn found s false e h o = f_followed found s h

      last_turn : (g : ℕ) (found : List Arm) (s : List Placed) (w : List Token) → NoArm w → w ≡ after_arms → Along n w s → Followed n W rest' (and_then (again begins_next_arm (next_arm d end inner) g found s) f)
      unfolding again same_symbol
      last_turn zero found s w kind same h = f_followed found s (along_as same h)
      last_turn (suc g) found s _ (other x w e) same h = no_turn found s (begins_next_arm s) (first_false _ _ (looks_at (looks_symbol mark.Semicolon) h ∙ e)) (along_as same h) _
      last_turn (suc g) found s _ (closing y w e) same h = by (two_known h)
        where
          by : (length s ≤ limit n) ⊎ ((t : Placed) × (r : List Placed) × (s ≡ t ∷ r) × Along n (y ∷ w) r) → Followed n W rest' (and_then (again begins_next_arm (next_arm d end inner) (suc g) found s) f)
          by (inl most) = short_followed (shorter_still most (semicolon_taken (suc g) found s (looks_at (looks_symbol mark.Semicolon) h)))
          by (inr (t, r, is, known)) =
              let test : begins_next_arm s ≡ false = second_false (begins (symbols mark.Semicolon) s) _ (ap (λ z. begins_constant (rest z)) is ∙ looks_at looks_constant known ∙ e) in
              no_turn found s (begins_next_arm s) test (along_as same h) _

      abbrev others : List Arm → List Token
      others xs = spell (after_semicolons (map (write_arm d) xs)) after_arms

      first_turn : (b : Bool) (o o' : Outcome Placed (List Arm)) → b ≡ true → Followed n W rest' (and_then o f) → Followed n W rest' (and_then (elim b [ true ↦ o | false ↦ o' ]) f)
      first_turn true o o' e h = h
      first_turn false o o' e h = absurd cc

      -- a turn whose semicolon and next token are known
      one_turn : (x : Arm) (follows : Bool) → Part W k (write_arm d x) (formed_arm d x follows) → (w : List Token) → StmtEnds follows w → (g : ℕ) (found : List Arm) (s : List Placed) → length s ≤ g → Along n (Symbol mark.Semicolon ∷ spell (write_arm d x) w) s
          → ((g : ℕ) (found : List Arm) (s : List Placed) → length s ≤ g → Along n w s → Followed n W rest' (and_then (again begins_next_arm (next_arm d end inner) g found s) f))
          → (t : Placed) (r : List Placed) → s ≡ t ∷ r → begins_constant r ≡ true → Followed n W rest' (and_then (again begins_next_arm (next_arm d end inner) g found s) f)
      unfolding again same_symbol
      one_turn x follows part w ends zero found s enough h later t r is e = absurd (let size = ap length is in omega (arith, enough, size))
      one_turn x follows part w ends (suc g) found s enough h later t r is e =
          let test : begins_next_arm s ≡ true = both_true (begins (symbols mark.Semicolon) s) _ (looks_at (looks_symbol mark.Semicolon) h) (ap (λ z. begins_constant (rest z)) is ∙ e) in
          first_turn (begins_next_arm s) _ _ test
          (subst (λ o. Followed n W rest' o) (sym (joined (next_arm d end inner found s) (again begins_next_arm (next_arm d end inner) g) f))
          (further (next_read x follows part w ends found s h) (next_takes found s) (λ a. then_shrinks (again_shrinks begins_next_arm (next_arm d end inner) (next_arm_shrinks d end child shrinks inner inner_shrinks) g a) f_shrinks) (λ a r below h. later g a r (omega arith) h)))

      turn : (x : Arm) (follows : Bool) → Part W k (write_arm d x) (formed_arm d x follows) → (w : List Token) → StmtEnds follows w → (g : ℕ) (found : List Arm) (s : List Placed) → length s ≤ g → Along n (Symbol mark.Semicolon ∷ spell (write_arm d x) w) s
          → ((g : ℕ) (found : List Arm) (s : List Placed) → length s ≤ g → Along n w s → Followed n W rest' (and_then (again begins_next_arm (next_arm d end inner) g found s) f))
          → Followed n W rest' (and_then (again begins_next_arm (next_arm d end inner) g found s) f)
      unfolding same_symbol
      turn x follows part w ends g found s enough h later =
          let (y, v, starts, on_y) = first_token on_constant (spell (write_arm d x) w) (arm_starts d x follows part.formed w) in by y v on_y (two_known (along_as (ap (λ z. Symbol mark.Semicolon ∷ z) starts) h))
        where
          by : (y : Token) (v : List Token) → on_constant y ≡ true → (length s ≤ limit n) ⊎ ((t : Placed) × (r : List Placed) × (s ≡ t ∷ r) × Along n (y ∷ v) r) → Followed n W rest' (and_then (again begins_next_arm (next_arm d end inner) g found s) f)
          by y v on_y (inl most) = short_followed (shorter_still most (semicolon_taken g found s (looks_at (looks_symbol mark.Semicolon) h)))
          by y v on_y (inr (t, r, is, known)) = one_turn x follows part w ends g found s enough h later t r is (looks_at looks_constant known ∙ on_y)

      more_read : (follows : Bool) → StmtEnds follows after_arms → (x : Arm) (xs : List Arm) → Part W k (after_semicolons (map (write_arm d) (x ∷ xs))) (some_up_to (map (formed_arm d) (x ∷ xs)) follows) → (g : ℕ) (found : List Arm) (s : List Placed) → length s ≤ g
          → Along n (others (x ∷ xs)) s → Followed n W rest' (and_then (again begins_next_arm (next_arm d end inner) g found s) f)
      more_read follows ends x [] part g found s enough h =
          let a = write_arm d x in
          turn x follows (part_left a Done (part_right (symbol mark.Semicolon) (a & Done) part)) after_arms ends g found s enough (along_as (ap (λ w. Symbol mark.Semicolon ∷ w) (spell_join a Done after_arms)) h) (λ g found s enough h. last_turn g found s after_arms none refl h)
      more_read follows ends x (y ∷ ys) part g found s enough h =
          let a = write_arm d x in let more = after_semicolons (map (write_arm d) (y ∷ ys)) in
          let p = part_right (symbol mark.Semicolon) (a & more) part in
          turn x false (part_first a more _ _ p) (others (y ∷ ys)) (semicolon_ends _) g found s enough (along_as (ap (λ w. Symbol mark.Semicolon ∷ w) (spell_join a more after_arms)) h)
          (λ g found s enough h. more_read follows ends y ys (part_second a more _ _ p) g found s enough h)

      pub arms_followed : (follows : Bool) → StmtEnds follows after_arms → (xs : List Arm) → Part W k (with_semicolons (map (write_arm d) xs)) (some_up_to (map (formed_arm d) xs) follows) → (s : List Placed)
          → Along n (spell (with_semicolons (map (write_arm d) xs)) after_arms) s → Followed n W rest' (and_then (arms d end inner s) f)
      unfolding arms more_arms repeat
      arms_followed follows ends [] part s h = absurd (true≢false (sym part.formed))
      arms_followed follows ends (x ∷ []) part s h =
          let a = write_arm d x in
          subst (λ o. Followed n W rest' o) (sym (joined (arm d end inner s) (λ a. repeat begins_next_arm (next_arm d end inner) (a ∷ [])) f))
          (follow_then (arm_read x follows (part_left a Done part) after_arms ends s (along_as (spell_join a Done after_arms) h)) (λ y. then_shrinks (repeat_shrinks begins_next_arm (next_arm d end inner) (next_arm_shrinks d end child shrinks inner inner_shrinks) (y ∷ [])) f_shrinks)
          (λ y r h. last_turn (length r) (y ∷ []) r after_arms none refl h))
      arms_followed follows ends (x ∷ z ∷ zs) part s h =
          let a = write_arm d x in let more = after_semicolons (map (write_arm d) (z ∷ zs)) in
          subst (λ o. Followed n W rest' o) (sym (joined (arm d end inner s) (λ a. repeat begins_next_arm (next_arm d end inner) (a ∷ [])) f))
          (follow_then (arm_read x false (part_first a more _ _ part) (others (z ∷ zs)) (semicolon_ends _) s (along_as (spell_join a more after_arms) h)) (λ y. then_shrinks (repeat_shrinks begins_next_arm (next_arm d end inner) (next_arm_shrinks d end child shrinks inner inner_shrinks) (y ∷ [])) f_shrinks)
          (λ y r h. more_read follows ends z zs (part_second a more _ _ part) (length r) (y ∷ []) r (omega arith) h))
