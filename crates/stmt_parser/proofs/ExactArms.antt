-- The arms of a `case` that are written are read.
use Rattle.std.proofs.Common.{◌≡◌, ℕ, zero, suc, ◌≤◌, Bool, true, false, ◌&&◌, List, [], ◌∷◌, ◌++◌, length, map, Some, None, Ok, refl, sym, ap, ◌∙◌, append_assoc, arith, true≢false}
use Rattle.std.specs.Prelude.{IsTrue}
use Rattle.p2c_text.specs.declared.dialect.Dialect.{Dialect}
use Rattle.p2c_text.specs.declared.place.Span.{Span}
use Rattle.dialect_lexer.specs.declared.token.Symbol.TheVariants as mark
use Rattle.pascal_tree.specs.declared.constants.Sign.TheVariants as a_sign
use Rattle.pascal_tree.specs.declared.constants.Constant.{Constant}
use Rattle.pascal_tree.specs.declared.constants.Constant.TheVariants as a_constant
use Rattle.pascal_tree.specs.declared.constants.CaseLabel.{CaseLabel}
use Rattle.pascal_tree.specs.declared.statements.Arm.{Arm, out-Arm}
use Rattle.pascal_tree.specs.declared.statements.Stmt.{Stmt}
use Rattle.token_parsing.specs.Parser.{Parser, Outcome, again, repeat, rest}
use Rattle.expr_parser.specs.Tokens.{Token, Placed, Symbol, plain}
use Rattle.expr_parser.specs.Layout.{Done, ◌&◌, symbol, with_commas, after_commas, IsWritten}
use Rattle.expr_parser.specs.Grammar.{some_all}
use Rattle.expr_parser.specs.Classes.{symbols, same_symbol}
use Rattle.expr_parser.specs.Constants.{begins_constant}
use Rattle.expr_parser.specs.ConstantNodes.{write_case_label, write_constant, formed_case_label}
use Rattle.expr_parser.specs.Semicolons.{after_semicolons, with_semicolons}
use Rattle.expr_parser.proofs.Layouts.{spell, spell_join}
use Rattle.expr_parser.proofs.Followed.{on_first}
use Rattle.expr_parser.proofs.FollowedParts.{and_in, and_out, Part, part_as, part_first, part_second, part_left, part_right, part_inside}
use Rattle.expr_parser.proofs.FollowedConstants.{LabelEnds}
use Rattle.expr_parser.proofs.Lookahead.{looks_symbol, on_symbol, on_symbol_here, says_symbol}
use Rattle.expr_parser.proofs.Exact.{written_as, written_split, written_inside, written_plain, ends_plain, exact_then, exact_part, exact_token, exact_made, exact_first, exact_second, looks_plain, some_taken}
use Rattle.expr_parser.proofs.ExactConstants.{case_labels_exact}
use Rattle.stmt_parser.specs.Writing.{write_arm, write_stmt}
use Rattle.stmt_parser.specs.Grammar.{some_up_to, formed_arm, formed_stmt}
use Rattle.stmt_parser.specs.Cases.{arm_of, arm, next_arm, begins_next_arm, more_arms, arms}
use Rattle.stmt_parser.proofs.StatementViews.{arm_is}
use Rattle.stmt_parser.proofs.Ends.{StmtEnds, semicolon_ends}
use Rattle.stmt_parser.proofs.FollowedArms.{on_constant, looks_constant, arm_written, arm_formed, NoArm, other, closing}
use Rattle.stmt_parser.proofs.ExactStatements.{StmtExact}

-- ---- whether an arm goes on after a semicolon

-- of the tokens without their places
abbrev pub arm_goes_on : List Token → Bool
arm_goes_on w = on_first (on_symbol mark.Semicolon) w && on_first on_constant (rest w)

pub plain_rest : (s : List Placed) → plain (rest s) ≡ rest (plain s)
plain_rest [] = refl
plain_rest (t ∷ s) = refl

goes_on_plain : (s : List Placed) → begins_next_arm s ≡ arm_goes_on (plain s)
goes_on_plain s =
    ap (λ b. b && begins_constant (rest s)) (looks_plain (looks_symbol mark.Semicolon) s)
    ∙ ap (λ b. on_first (on_symbol mark.Semicolon) (plain s) && b) (looks_plain looks_constant (rest s) ∙ ap (on_first on_constant) (plain_rest s))

pub no_arm_goes_on : (w : List Token) → NoArm w → arm_goes_on w ≡ false
unfolding same_symbol
no_arm_goes_on _ (other x w e) = ap (λ b. b && on_first on_constant w) e
no_arm_goes_on _ (closing y w e) = e

constant_begins : (c : Constant) (w : List Token) → on_first on_constant (spell (write_constant c) w) ≡ true
constant_begins (a_constant.Number None v span) w = refl
constant_begins (a_constant.Number (Some a_sign.Plus) v span) w = refl
constant_begins (a_constant.Number (Some a_sign.Minus) v span) w = refl
constant_begins (a_constant.Name None i span) w = refl
constant_begins (a_constant.Name (Some a_sign.Plus) i span) w = refl
constant_begins (a_constant.Name (Some a_sign.Minus) i span) w = refl
constant_begins (a_constant.Text bs span) w = refl

labels_begin : (d : Dialect) (xs : List CaseLabel) → IsTrue (some_all (map (formed_case_label d) xs)) → (w : List Token) → on_first on_constant (spell (with_commas (map write_case_label xs)) w) ≡ true
labels_begin d [] formed w = absurd (true≢false (sym formed))
labels_begin d (x ∷ xs) formed w =
    let others = after_commas (map write_case_label xs) in
    ap (on_first on_constant) (spell_join (write_case_label x) others w ∙ spell_join (write_constant x.first) _ (spell others w)) ∙ constant_begins x.first _

arm_begins : (d : Dialect) (x : Arm) (follows : Bool) → IsTrue (formed_arm d x follows) → (w : List Token) → on_first on_constant (spell (write_arm d x) w) ≡ true
arm_begins d x follows formed w =
    let labels = with_commas (map write_case_label (out-Arm x).labels) in let body = symbol mark.Colon & write_stmt d (out-Arm x).body in
    let of_labels = (and_out _ (formed_stmt d (out-Arm x).body follows) (sym (arm_formed d x follows) ∙ formed)).0 in
    ap (λ l. on_first on_constant (spell l w)) (arm_written d x) ∙ ap (on_first on_constant) (spell_join labels body w) ∙ labels_begin d (out-Arm x).labels of_labels _

module _ (d : Dialect) (end : Span) (k : ℕ) (inner : Parser Placed Stmt) (inner_good : StmtExact d end k inner) where
  arm_exact : (x : Arm) (follows : Bool) → Part (Unit {0}) k (write_arm d x) (formed_arm d x follows) → (s r : List Placed) → IsWritten end (write_arm d x) s r → StmtEnds follows (plain r) → arm d end inner s ≡ Ok (x, r)
  unfolding arm same_symbol
  arm_exact x follows part s r h ends =
      let labels = with_commas (map write_case_label (out-Arm x).labels) in let body = write_stmt d (out-Arm x).body in let colon = symbol mark.Colon & body in
      let p = part_inside (labels & colon) (part_as (arm_written d x) (arm_formed d x follows) part) in
      let (place, inside) = written_inside end (out-Arm x).span (labels & colon) s r (written_as end s r (arm_written d x) h) in
      exact_part _ (out-Arm x).labels end labels colon s r inside (λ m left right.
      case_labels_exact d end k (out-Arm x).labels (part_first labels colon _ _ p) s m left (ends_plain LabelEnds end colon m r right refl) (ap (on_first (on_symbol mark.Comma)) (written_plain end colon m r right))) (λ m h.
      exact_token _ (symbols mark.Colon) (says_symbol mark.Colon) end body m r h (λ m h.
      exact_then _ (inner_good (out-Arm x).body follows (part_right (symbol mark.Colon) body (part_second labels colon _ _ p)) m r h ends) (exact_made end (out-Arm x).span (arm_of (out-Arm x).labels (out-Arm x).body) s r r refl (arm_is x) place)))

  next_exact : (x : Arm) (follows : Bool) → Part (Unit {0}) k (write_arm d x) (formed_arm d x follows) → (found : List Arm) (s r : List Placed) → IsWritten end (symbol mark.Semicolon & write_arm d x) s r → StmtEnds follows (plain r)
      → next_arm d end inner found s ≡ Ok (found ++ x ∷ [], r)
  unfolding next_arm
  next_exact x follows part found s r h ends =
      exact_token _ (symbols mark.Semicolon) (says_symbol mark.Semicolon) end (write_arm d x) s r h (λ m h. exact_then _ (arm_exact x follows part m r h ends) refl)

  abbrev turns : ℕ → List Arm → Parser Placed (List Arm)
  turns g found = again begins_next_arm (next_arm d end inner) g found

  turn : (x : Arm) (follows : Bool) → Part (Unit {0}) k (write_arm d x) (formed_arm d x follows) → (found : List Arm) (g : ℕ) (s m : List Placed) {out : Outcome Placed (List Arm)} → IsWritten end (symbol mark.Semicolon & write_arm d x) s m
      → StmtEnds follows (plain m) → length s ≤ g → ((g : ℕ) → length m ≤ g → turns g (found ++ x ∷ []) m ≡ out) → turns g found s ≡ out
  unfolding again
  turn x follows part found zero s m h ends enough go =
      let below = some_taken (on_symbol mark.Semicolon) end (symbol mark.Semicolon & write_arm d x) s m h (on_symbol_here mark.Semicolon) in absurd (omega (arith, enough, below))
  turn x follows part found (suc g) s m h ends enough go =
      let below = some_taken (on_symbol mark.Semicolon) end (symbol mark.Semicolon & write_arm d x) s m h (on_symbol_here mark.Semicolon) in
      let begun = goes_on_plain s ∙ ap arm_goes_on (written_plain end (symbol mark.Semicolon & write_arm d x) s m h) ∙ and_in (on_symbol mark.Semicolon (Symbol mark.Semicolon)) _ (on_symbol_here mark.Semicolon) (arm_begins d x follows part.formed (plain m)) in
      exact_first (begins_next_arm s) _ _ begun (exact_then (turns g) (next_exact x follows part found s m h ends) (go g (omega (arith, enough, below))))

  no_turn : (found : List Arm) (g : ℕ) (s r : List Placed) → s ≡ r → arm_goes_on (plain r) ≡ false → turns g found s ≡ Ok (found, r)
  unfolding again
  no_turn found zero s r h stops = ap (λ z. Ok (found, z)) h
  no_turn found (suc g) s r h stops = exact_second (begins_next_arm s) _ _ (goes_on_plain s ∙ ap (λ z. arm_goes_on (plain z)) h ∙ stops) (ap (λ z. Ok (found, z)) h)

  more_exact : (follows : Bool) (x : Arm) (xs : List Arm) → Part (Unit {0}) k (after_semicolons (map (write_arm d) (x ∷ xs))) (some_up_to (map (formed_arm d) (x ∷ xs)) follows) → (found : List Arm) (g : ℕ) (s r : List Placed)
      → IsWritten end (after_semicolons (map (write_arm d) (x ∷ xs))) s r → StmtEnds follows (plain r) → arm_goes_on (plain r) ≡ false → length s ≤ g → turns g found s ≡ Ok (found ++ x ∷ xs, r)
  more_exact follows x [] part found g s r h ends stops enough =
      let a = write_arm d x in
      let (m, left, right) = written_split end (symbol mark.Semicolon & a) Done s r h in
      turn x follows (part_left a Done (part_right (symbol mark.Semicolon) (a & Done) part)) found g s m left (ends_plain (λ w. StmtEnds follows w) end Done m r right ends) enough (λ g enough. no_turn (found ++ x ∷ []) g m r right stops)
  more_exact follows x (y ∷ ys) part found g s r h ends stops enough =
      let a = write_arm d x in let more = after_semicolons (map (write_arm d) (y ∷ ys)) in
      let p = part_right (symbol mark.Semicolon) (a & more) part in
      let (m, left, right) = written_split end (symbol mark.Semicolon & a) more s r h in
      turn x false (part_first a more _ _ p) found g s m left (ends_plain (λ w. StmtEnds false w) end more m r right (semicolon_ends _)) enough (λ g enough.
      more_exact follows y ys (part_second a more _ _ p) (found ++ x ∷ []) g m r right ends stops enough ∙ ap (λ z. Ok (z, r)) (append_assoc found (x ∷ []) (y ∷ ys)))

  pub arms_exact : (follows : Bool) (xs : List Arm) → Part (Unit {0}) k (with_semicolons (map (write_arm d) xs)) (some_up_to (map (formed_arm d) xs) follows) → (s r : List Placed) → IsWritten end (with_semicolons (map (write_arm d) xs)) s r
      → StmtEnds follows (plain r) → arm_goes_on (plain r) ≡ false → arms d end inner s ≡ Ok (xs, r)
  unfolding arms more_arms repeat
  arms_exact follows [] part s r h ends stops = absurd (true≢false (sym part.formed))
  arms_exact follows (x ∷ []) part s r h ends stops =
      let a = write_arm d x in
      exact_part _ x end a Done s r h (λ m left right. arm_exact x follows (part_left a Done part) s m left (ends_plain (λ w. StmtEnds follows w) end Done m r right ends)) (λ m h. no_turn (x ∷ []) (length m) m r h stops)
  arms_exact follows (x ∷ y ∷ ys) part s r h ends stops =
      let a = write_arm d x in let more = after_semicolons (map (write_arm d) (y ∷ ys)) in
      exact_part _ x end a more s r h (λ m left right. arm_exact x false (part_first a more _ _ part) s m left (ends_plain (λ w. StmtEnds false w) end more m r right (semicolon_ends _))) (λ m h.
      more_exact follows y ys (part_second a more _ _ part) (x ∷ []) (length m) m r h ends stops (omega arith))
