-- The statements `repeat`, `for`, `with` and `try` that are read.
use Rattle.std.proofs.Common.{◌≡◌, ℕ, ◌+◌, ◌≤◌, Bool, true, false, ◌&&◌, List, [], ◌∷◌, map, Some, None, refl, sym, ap, subst, ◌∙◌, arith}
use Rattle.std.specs.Prelude.{IsTrue}
use Rattle.p2c_text.specs.declared.dialect.Dialect.{Dialect}
use Rattle.p2c_text.specs.declared.dialect.Dialect.TheVariants as dialect
use Rattle.p2c_text.specs.declared.place.Span.{Span}
use Rattle.dialect_lexer.specs.Dialects.{is_hp}
use Rattle.dialect_lexer.specs.declared.token.Word.{Word as WordSymbol}
use Rattle.dialect_lexer.specs.declared.token.Word.TheVariants as word_
use Rattle.dialect_lexer.specs.declared.token.Symbol.TheVariants as mark
use Rattle.pascal_tree.specs.declared.names.Identifier.{Identifier}
use Rattle.pascal_tree.specs.declared.expressions.Expr.{Expr}
use Rattle.pascal_tree.specs.declared.expressions.Place.{Place}
use Rattle.pascal_tree.specs.declared.statements.Direction.{Direction}
use Rattle.pascal_tree.specs.declared.statements.Direction.TheVariants.{Up, Down}
use Rattle.pascal_tree.specs.declared.statements.Plain.{Plain}
use Rattle.pascal_tree.specs.declared.statements.Plain.TheVariants as plain_
use Rattle.pascal_tree.specs.declared.statements.Stmt.{Stmt}
use Rattle.token_parsing.specs.Parser.{Outcome, Parser, begins}
use Rattle.token_parsing.proofs.Fair.{reads, fair_then}
use Rattle.expr_parser.specs.Tokens.{Token, Placed, plain, Name, Number, Text, Word, Symbol}
use Rattle.expr_parser.specs.Spans.{span_between}
use Rattle.expr_parser.specs.Layout.{Layout, ◌&◌, word, symbol, spanned, with_commas, tokens_of, height_of, IsWritten}
use Rattle.expr_parser.specs.Semicolons.{with_semicolons}
use Rattle.expr_parser.specs.Writing.{identifier, write_expr, write_place}
use Rattle.expr_parser.specs.Grammar.{IsToken, AreTokens, some_all, formed_expr, formed_place}
use Rattle.expr_parser.specs.Classes.{operator_of, identifiers, words}
use Rattle.expr_parser.specs.Places.{place}
use Rattle.expr_parser.proofs.Layouts.{height_join, written_join}
use Rattle.expr_parser.proofs.ClassTokens.{identifier_is, some_is}
use Rattle.expr_parser.proofs.KnownTokens.{name_known, assign_known, do_known, to_known, until_known, recover_known}
use Rattle.expr_parser.proofs.WordsKnown.{word_of_dialect}
use Rattle.expr_parser.proofs.FollowedParts.{and_in}
use Rattle.expr_parser.proofs.Openings.{Opening, within, in_spanned, behind, before, Filled, filled_as, Hole}
use Rattle.expr_parser.proofs.Spots.{Answer, Spot, Good, are_last, are_joined, spot_behind, spot_within, begins_at}
use Rattle.expr_parser.proofs.SoundTokens.{written_node, written_token, written_name, answer_token, answer_symbol, answer_word}
use Rattle.expr_parser.proofs.SoundLists.{listed, ReadsList, list_sound}
use Rattle.expr_parser.proofs.SoundPlaces.{place_sound, a_name}
use Rattle.expr_parser.proofs.SoundFactors.{nil_expr, nil_expr_formed, nil_expr_known}
use Rattle.stmt_parser.specs.Classes.{direction_of, directions}
use Rattle.stmt_parser.specs.Writing.{direction_word, write_plain, write_stmt}
use Rattle.stmt_parser.specs.Grammar.{alone, some_alone, formed_plain, formed_stmt}
use Rattle.stmt_parser.specs.Statements.{repeat_loop, limits_of, limits, for_loop, next_place, more_places, places, with_places, try_block}
use Rattle.stmt_parser.specs.declared.headers.Limits.{Limits}
use Rattle.stmt_parser.proofs.WrittenStatements.{write_repeat_of, write_for_of, write_with_of, write_try_of}
use Rattle.stmt_parser.proofs.FormedStatements.{formed_repeat_of, formed_for_of, formed_with_of, formed_try_of}
use Rattle.stmt_parser.proofs.SoundRows.{ReadsOne}
use Rattle.stmt_parser.proofs.SoundStatements.{empty, empty_formed, empty_known, StmtGood, answer_wanted, plain_as, stmts_sound}

-- ---- tokens

direction_word_is : (w : WordSymbol) (to : Direction) → direction_of w ≡ Some to → Word w ≡ Word (direction_word to)
direction_word_is word_.KwTo to e = some_is (λ x. Word (direction_word x)) (Word word_.KwTo) Up to e refl
direction_word_is word_.KwDownto to e = some_is (λ x. Word (direction_word x)) (Word word_.KwDownto) Down to e refl
direction_word_is _ to e = absurd cc

direction_is : (t : Token) (to : Direction) → operator_of direction_of (λ s. None) t ≡ Some to → t ≡ Word (direction_word to)
direction_is (Word w) to e = direction_word_is w to e
direction_is (Symbol s) to e = absurd cc
direction_is (Name n) to e = absurd cc
direction_is (Number v) to e = absurd cc
direction_is (Text bs) to e = absurd cc

-- a dialect with `try` has `recover`
recover_with_try : (d : Dialect) → IsToken d (Word word_.KwTry) → IsToken d (Word word_.KwRecover)
recover_with_try d is = by d (word_of_dialect d word_.KwTry is)
  where
    by : (d : Dialect) → is_hp d ≡ true → IsToken d (Word word_.KwRecover)
    by dialect.Iso e = absurd cc
    by dialect.Turbo e = absurd cc
    by dialect.Ucsd e = absurd cc
    by dialect.Hp e = recover_known

module _ (d : Dialect) {C : Type 0} (layout : C → Layout) (form : C → Bool) (end : Span) (outer levels : ℕ) (tokens : List Placed) (known : AreTokens d (plain tokens)) (k : ℕ) where
  abbrev AnswerT : {A : Type 0} → (A → List Placed → Type 0) → Outcome Placed A → Type 0
  AnswerT P o = Answer d layout form end outer levels tokens P o

  abbrev SpotT : Opening → List Placed → Type 0
  SpotT o s = Spot d layout form end outer levels tokens o s

  abbrev moved : {o : Opening} {s r : List Placed} (l : Layout) → SpotT o s → IsWritten end l s r → SpotT (within o (behind l)) r
  moved l spot w = spot_behind d layout form end outer levels tokens known l spot w

  abbrev entered : {o : Opening} {s : List Placed} (p : Opening) → SpotT o s → p.left ≡ [] → AreTokens d p.right → SpotT (within o p) s
  entered p spot none closing = spot_within d layout form end outer levels tokens p spot none closing

  abbrev PlainReads : List Placed → Plain → List Placed → Type 0
  PlainReads s p r = ReadsOne d layout form end outer levels tokens known (write_plain d) (formed_plain d) k s p r

  abbrev PlainHole : Opening → Type 0
  PlainHole o = Hole d layout form (write_plain d) (λ p. alone (formed_plain d p)) o

  abbrev StmtHole : Opening → Type 0
  StmtHole o = Hole d layout form (write_stmt d) (λ x. alone (formed_stmt d x)) o

  abbrev inside : Opening → Opening
  inside o = within o (in_spanned end)

  module _ (child : Parser Placed Expr) (good : Good d layout form end outer levels tokens write_expr (formed_expr d) k child) where
    -- the limits of a `for`, before what may fill the rest
    record ReadsLimits (s : List Placed) (x : Limits) (r : List Placed) : Type 0 where
      pub one : List Placed
      pub two : List Placed
      pub three : List Placed
      pub four : List Placed
      pub assign : IsWritten end (symbol mark.Assign) s one
      pub first : IsWritten end (write_expr x.first) one two
      pub direction : IsWritten end (word (direction_word x.direction)) two three
      pub last : IsWritten end (write_expr x.last) three four
      pub does : IsWritten end (word word_.KwDo) four r
      pub first_formed : IsTrue (formed_expr d x.first)
      pub last_formed : IsTrue (formed_expr d x.last)
      pub first_fits : height_of (write_expr x.first) ≤ k
      pub last_fits : height_of (write_expr x.last) ≤ k

    abbrev limits_layout : Expr → Direction → Expr → Layout → Layout
    limits_layout a w b more = symbol mark.Assign & write_expr a & word (direction_word w) & write_expr b & word word_.KwDo & more

    limits_sound : (more : Layout) → AreTokens d (tokens_of more) → (o : Opening) (s : List Placed) → SpotT o s
        → ((a : Expr) (w : Direction) (b : Expr) → IsTrue (formed_expr d a) → IsTrue (formed_expr d b) → Filled layout form (o.plug (limits_layout a w b more))) → o.depth + k ≡ levels
        → AnswerT (ReadsLimits s) (limits child s)
    unfolding limits
    limits_sound more more_known o s spot filled deep =
        let n = write_expr nil_expr in let ok = nil_expr_formed d in
        let behind_last = word word_.KwDo & more in
        let behind_last_known : AreTokens d (tokens_of behind_last) = (do_known d, more_known) in
        let last = n & behind_last in
        let last_known : AreTokens d (tokens_of last) = are_joined d n behind_last (nil_expr_known d) behind_last_known in
        let up = word word_.KwTo & last in
        let up_known : AreTokens d (tokens_of up) = (to_known d, last_known) in
        let all_known : AreTokens d (tokens_of (symbol mark.Assign & n & up)) = (assign_known d, are_joined d n up (nil_expr_known d) up_known) in
        let hole0 : Hole {A = Unit {0}} d layout form (λ _. symbol mark.Assign & n & up) (λ _. true) o = record { at = λ _ _. filled nil_expr Up nil_expr ok ok } in
        answer_symbol d layout form end outer levels tokens mark.Assign s spot (begins_at d layout form end outer levels tokens spot hole0 tt refl all_known) (λ _ r1 w1.
        let o1 = within o (behind (symbol mark.Assign)) in
        let spot1 = moved (symbol mark.Assign) spot w1 in
        let hole1 : Hole d layout form write_expr (formed_expr d) (within o1 (before up)) = record { at = λ a h. filled a Up nil_expr h ok } in
        fair_then (good (within o1 (before up)) r1 (entered (before up) spot1 refl up_known) hole1 (omega (arith, deep))) (λ a r2 h.
        let o2 = within o1 (behind (write_expr a)) in
        let spot2 = moved (write_expr a) spot1 h.written in
        let hole2 : Hole {A = Unit {0}} d layout form (λ _. up) (λ _. true) o2 = record { at = λ _ _. filled a Up nil_expr h.formed ok } in
        answer_token d layout form end outer levels tokens directions r2 spot2 (begins_at d layout form end outer levels tokens spot2 hole2 tt refl up_known) (λ t w r3 is e.
        let way = word (direction_word w) in
        let w3 = written_token end (Word (direction_word w)) t r3 e (direction_is t.token w is) in
        let o3 = within o2 (behind way) in
        let spot3 = moved way spot2 w3 in
        let hole3 : Hole d layout form write_expr (formed_expr d) (within o3 (before behind_last)) = record { at = λ b g. filled a w b h.formed g } in
        fair_then (good (within o3 (before behind_last)) r3 (entered (before behind_last) spot3 refl behind_last_known) hole3 (omega (arith, deep))) (λ b r4 g.
        let o4 = within o3 (behind (write_expr b)) in
        let spot4 = moved (write_expr b) spot3 g.written in
        let hole4 : Hole {A = Unit {0}} d layout form (λ _. behind_last) (λ _. true) o4 = record { at = λ _ _. filled a w b h.formed g.formed } in
        answer_wanted d layout form end outer levels tokens known word_.KwDo r4 spot4 (begins_at d layout form end outer levels tokens spot4 hole4 tt refl behind_last_known) (λ _ r5 w5.
        reads (limits_of a w b) r5 (record { one = r1; two = r2; three = r3; four = r4; assign = w1; first = h.written; direction = w3; last = g.written; does = w5; first_formed = h.formed; last_formed = g.formed; first_fits = h.fits; last_fits = g.fits }))))))

    -- Place {"," Place}
    places_sound : (o : Opening) (s : List Placed) → SpotT o s → Hole d layout form (λ p. with_commas (map write_place (listed p))) (λ p. some_all (map (formed_place d) (listed p))) o → o.depth + k ≡ levels
        → AnswerT (ReadsList d layout form end outer levels tokens known write_place (formed_place d) k s) (places end child s)
    unfolding places more_places next_place
    places_sound o s spot hole deep =
        list_sound d layout form end outer levels tokens known write_place (formed_place d) k (place end child) (place_sound d layout form end outer levels tokens known k child good) o s spot hole deep

    module _ (inner : Parser Placed Stmt) (inner_good : StmtGood d layout form end outer levels tokens known k inner) where
      abbrev write_row : Stmt × List Stmt → Layout
      write_row p = with_semicolons (map (write_stmt d) (listed p))

      abbrev formed_row : Stmt × List Stmt → Bool
      formed_row p = some_alone (map (formed_stmt d) (listed p))

      pub repeat_sound : (o : Opening) (s : List Placed) → SpotT o s → PlainHole o → o.depth + k ≡ levels → begins (words word_.KwRepeat) s ≡ true → AnswerT (PlainReads s) (repeat_loop end child inner s)
      unfolding repeat_loop
      repeat_sound o s spot hole deep test = answer_word d layout form end outer levels tokens word_.KwRepeat s test (λ _ r1 w1.
          let filled : (p : Stmt × List Stmt) (e : Expr) → IsTrue (formed_row p) → IsTrue (formed_expr d e) → Filled layout form (o.plug (spanned end (word word_.KwRepeat & write_row p & word word_.KwUntil & write_expr e))) =
          λ p e ok ok2. filled_as layout form (ap o.plug (write_repeat_of d (listed p) e end)) (hole.at (plain_.Repeat (listed p) e end) (formed_repeat_of d (listed p) e end false ∙ and_in (formed_row p) (formed_expr d e) ok ok2)) in
          let until = word word_.KwUntil & write_expr nil_expr in
          let until_are : AreTokens d (tokens_of until) = (until_known d, nil_expr_known d) in
          let opened = within (inside o) (behind (word word_.KwRepeat)) in
          let spot1 = moved (word word_.KwRepeat) (entered (in_spanned end) spot refl tt) w1 in
          let hole2 : Hole d layout form write_row formed_row (within opened (before until)) = record { at = λ p ok. filled p nil_expr ok (nil_expr_formed d) } in
          fair_then (stmts_sound d layout form end outer levels tokens known k child good inner inner_good (within opened (before until)) r1 (entered (before until) spot1 refl until_are) hole2 (omega (arith, deep))) (λ ys r2 h.
          let p : Stmt × List Stmt = (h.first, h.others) in
          let list = write_row p in
          let o3 = within opened (behind list) in
          let spot3 = moved list spot1 h.written in
          let hole3 : Hole {A = Expr} d layout form (λ e. word word_.KwUntil & write_expr e) (formed_expr d) o3 = record { at = λ e ok. filled p e h.formed_alone ok } in
          answer_wanted d layout form end outer levels tokens known word_.KwUntil r2 spot3 (begins_at d layout form end outer levels tokens spot3 hole3 nil_expr (nil_expr_formed d) until_are) (λ _ r3 w3.
          let o4 = within o3 (behind (word word_.KwUntil)) in
          let hole4 : Hole d layout form write_expr (formed_expr d) o4 = record { at = λ e ok. hole3.at e ok } in
          fair_then (good o4 r3 (moved (word word_.KwUntil) spot3 w3) hole4 (omega (arith, deep))) (λ e r4 g.
          let span = span_between end s r4 in let f1 = h.fits in let f2 = g.fits in let c = write_expr e in
          let ok = and_in (formed_row p) (formed_expr d e) h.formed_alone g.formed in
          reads (plain_.Repeat ys e span) r4 (subst (λ z. PlainReads s (plain_.Repeat z e span) r4) (sym h.is) (plain_as d layout form end outer levels tokens known (write_repeat_of d (listed p) e span) (λ f. formed_repeat_of d (listed p) e span f)
          (written_node end (word word_.KwRepeat & list & word word_.KwUntil & c) _ _ (written_join end (word word_.KwRepeat) (list & word word_.KwUntil & c) s r1 r4 w1
          (written_join end list (word word_.KwUntil & c) r1 r2 r4 h.written (written_join end (word word_.KwUntil) c r2 r3 r4 w3 g.written))))
          ok (λ _. ok) (omega (arith, height_join list (word word_.KwUntil & c), f1, f2))))))))

      pub for_sound : (o : Opening) (s : List Placed) → SpotT o s → PlainHole o → o.depth + k ≡ levels → begins (words word_.KwFor) s ≡ true → AnswerT (PlainReads s) (for_loop end child inner s)
      unfolding for_loop
      for_sound o s spot hole deep test = answer_word d layout form end outer levels tokens word_.KwFor s test (λ _ r1 w1.
          let filled : (i : Identifier) (a : Expr) (w : Direction) (b : Expr) (x : Stmt) → IsTrue (formed_expr d a) → IsTrue (formed_expr d b) → IsTrue (alone (formed_stmt d x))
          → Filled layout form (o.plug (spanned end (word word_.KwFor & identifier i & limits_layout a w b (write_stmt d x)))) =
          λ i a w b x ok ok2 ok3. filled_as layout form (ap o.plug (write_for_of d i a w b x end)) (hole.at (plain_.For i a w b x end)
          (formed_for_of d i a w b x end false ∙ and_in (formed_expr d a && formed_expr d b) (alone (formed_stmt d x)) (and_in (formed_expr d a) (formed_expr d b) ok ok2) ok3)) in
          let opened = within (inside o) (behind (word word_.KwFor)) in
          let spot1 = moved (word word_.KwFor) (entered (in_spanned end) spot refl tt) w1 in
          let n = write_expr nil_expr in let ok = nil_expr_formed d in
          let body = word word_.KwDo & write_stmt d empty in
          let body_known : AreTokens d (tokens_of body) = (do_known d, empty_known d) in
          let up = word word_.KwTo & n & body in
          let up_known : AreTokens d (tokens_of up) = (to_known d, are_joined d n body (nil_expr_known d) body_known) in
          let value = symbol mark.Assign & n & up in
          let value_known : AreTokens d (tokens_of value) = (assign_known d, are_joined d n up (nil_expr_known d) up_known) in
          let hole1 : Hole {A = Unit {0}} d layout form (λ _. identifier a_name & value) (λ _. true) opened = record { at = λ _ _. filled a_name nil_expr Up nil_expr empty ok ok (empty_formed d false) } in
          answer_token d layout form end outer levels tokens identifiers r1 spot1 (begins_at d layout form end outer levels tokens spot1 hole1 tt refl (name_known d, value_known)) (λ t i r2 is e.
          let w2 = written_name end i t r2 e (identifier_is t.token t.span i is) in
          let o2 = within opened (behind (identifier i)) in
          let spot2 = moved (identifier i) spot1 w2 in
          fair_then (limits_sound (write_stmt d empty) (empty_known d) o2 r2 spot2 (λ a w b h g. filled i a w b empty h g (empty_formed d false)) (omega (arith, deep))) (λ l r3 b.
          let x = write_expr l.first in let way = word (direction_word l.direction) in let y = write_expr l.last in
          let o3 = within (within (within (within (within o2 (behind (symbol mark.Assign))) (behind x)) (behind way)) (behind y)) (behind (word word_.KwDo)) in
          let spot3 = moved (word word_.KwDo) (moved y (moved way (moved x (moved (symbol mark.Assign) spot2 b.assign) b.first) b.direction) b.last) b.does in
          let hole3 : StmtHole o3 = record { at = λ z ok. filled i l.first l.direction l.last z b.first_formed b.last_formed ok } in
          fair_then (inner_good o3 r3 spot3 hole3 (omega (arith, deep))) (λ z r4 h.
          let u = write_stmt d z in let span = span_between end s r4 in let f1 = b.first_fits in let f2 = b.last_fits in let f3 = h.fits in
          let formed = and_in (formed_expr d l.first) (formed_expr d l.last) b.first_formed b.last_formed in
          let last = y & word word_.KwDo & u in
          let first = x & way & last in
          reads (plain_.For i l.first l.direction l.last z span) r4 (plain_as d layout form end outer levels tokens known (write_for_of d i l.first l.direction l.last z span) (λ f. formed_for_of d i l.first l.direction l.last z span f)
          (written_node end (word word_.KwFor & identifier i & symbol mark.Assign & first) _ _
          (written_join end (word word_.KwFor) (identifier i & symbol mark.Assign & first) s r1 r4 w1 (written_join end (identifier i) (symbol mark.Assign & first) r1 r2 r4 w2 (written_join end (symbol mark.Assign) first r2 b.one r4 b.assign
          (written_join end x (way & last) b.one b.two r4 b.first (written_join end way last b.two b.three r4 b.direction (written_join end y (word word_.KwDo & u) b.three b.four r4 b.last (written_join end (word word_.KwDo) u b.four r3 r4 b.does h.written))))))))
          (and_in (formed_expr d l.first && formed_expr d l.last) _ formed h.formed_alone) (λ next. and_in (formed_expr d l.first && formed_expr d l.last) _ formed (h.before_else next))
          (omega (arith, height_join x (way & last), height_join y (word word_.KwDo & u), f1, f2, f3)))))))

      pub with_sound : (o : Opening) (s : List Placed) → SpotT o s → PlainHole o → o.depth + k ≡ levels → begins (words word_.KwWith) s ≡ true → AnswerT (PlainReads s) (with_places end child inner s)
      unfolding with_places
      with_sound o s spot hole deep test = answer_word d layout form end outer levels tokens word_.KwWith s test (λ _ r1 w1.
          let filled : (p : Place × List Place) (x : Stmt) → IsTrue (some_all (map (formed_place d) (listed p))) → IsTrue (alone (formed_stmt d x))
          → Filled layout form (o.plug (spanned end (word word_.KwWith & with_commas (map write_place (listed p)) & word word_.KwDo & write_stmt d x))) =
          λ p x ok ok2. filled_as layout form (ap o.plug (write_with_of d (listed p) x end)) (hole.at (plain_.With (listed p) x end) (formed_with_of d (listed p) x end false ∙ and_in (some_all (map (formed_place d) (listed p))) (alone (formed_stmt d x)) ok ok2)) in
          let body = word word_.KwDo & write_stmt d empty in
          let body_known : AreTokens d (tokens_of body) = (do_known d, empty_known d) in
          let opened = within (inside o) (behind (word word_.KwWith)) in
          let spot1 = moved (word word_.KwWith) (entered (in_spanned end) spot refl tt) w1 in
          let hole2 : Hole d layout form (λ p. with_commas (map write_place (listed p))) (λ p. some_all (map (formed_place d) (listed p))) (within opened (before body)) = record { at = λ p ok. filled p empty ok (empty_formed d false) } in
          fair_then (places_sound (within opened (before body)) r1 (entered (before body) spot1 refl body_known) hole2 (omega (arith, deep))) (λ ys r2 h.
          let p : Place × List Place = (h.first, h.others) in
          let list = with_commas (map write_place (listed p)) in
          let o3 = within opened (behind list) in
          let spot3 = moved list spot1 h.reads.written in
          let hole3 : Hole {A = Stmt} d layout form (λ x. word word_.KwDo & write_stmt d x) (λ x. alone (formed_stmt d x)) o3 = record { at = λ x ok. filled p x h.reads.formed ok } in
          answer_wanted d layout form end outer levels tokens known word_.KwDo r2 spot3 (begins_at d layout form end outer levels tokens spot3 hole3 empty (empty_formed d false) body_known) (λ _ r3 w3.
          let o4 = within o3 (behind (word word_.KwDo)) in
          let hole4 : StmtHole o4 = record { at = λ x ok. hole3.at x ok } in
          fair_then (inner_good o4 r3 (moved (word word_.KwDo) spot3 w3) hole4 (omega (arith, deep))) (λ x r4 g.
          let span = span_between end s r4 in let f1 = h.reads.fits in let f2 = g.fits in let u = write_stmt d x in let all_formed = some_all (map (formed_place d) (listed p)) in
          reads (plain_.With ys x span) r4 (subst (λ z. PlainReads s (plain_.With z x span) r4) (sym h.is) (plain_as d layout form end outer levels tokens known (write_with_of d (listed p) x span) (λ f. formed_with_of d (listed p) x span f)
          (written_node end (word word_.KwWith & list & word word_.KwDo & u) _ _ (written_join end (word word_.KwWith) (list & word word_.KwDo & u) s r1 r4 w1
          (written_join end list (word word_.KwDo & u) r1 r2 r4 h.reads.written (written_join end (word word_.KwDo) u r2 r3 r4 w3 g.written))))
          (and_in all_formed _ h.reads.formed g.formed_alone) (λ next. and_in all_formed _ h.reads.formed (g.before_else next)) (omega (arith, height_join list (word word_.KwDo & u), f1, f2))))))))

      pub try_sound : (o : Opening) (s : List Placed) → SpotT o s → PlainHole o → o.depth + k ≡ levels → begins (words word_.KwTry) s ≡ true → AnswerT (PlainReads s) (try_block end inner s)
      unfolding try_block
      try_sound o s spot hole deep test = answer_word d layout form end outer levels tokens word_.KwTry s test (λ _ r1 w1.
          let filled : (p : Stmt × List Stmt) (x : Stmt) → IsTrue (formed_row p) → IsTrue (alone (formed_stmt d x)) → Filled layout form (o.plug (spanned end (word word_.KwTry & write_row p & word word_.KwRecover & write_stmt d x))) =
          λ p x ok ok2. filled_as layout form (ap o.plug (write_try_of d (listed p) x end)) (hole.at (plain_.Try (listed p) x end) (formed_try_of d (listed p) x end false ∙ and_in (formed_row p) (alone (formed_stmt d x)) ok ok2)) in
          let opened = within (inside o) (behind (word word_.KwTry)) in
          let spot1 = moved (word word_.KwTry) (entered (in_spanned end) spot refl tt) w1 in
          let is_try : AreTokens d (Word word_.KwTry ∷ []) = are_last d (inside o).left (Word word_.KwTry ∷ []) spot1.known in
          let recovering = word word_.KwRecover & write_stmt d empty in
          let recovering_known : AreTokens d (tokens_of recovering) = (recover_with_try d is_try.0, empty_known d) in
          let hole2 : Hole d layout form write_row formed_row (within opened (before recovering)) = record { at = λ p ok. filled p empty ok (empty_formed d false) } in
          fair_then (stmts_sound d layout form end outer levels tokens known k child good inner inner_good (within opened (before recovering)) r1 (entered (before recovering) spot1 refl recovering_known) hole2 (omega (arith, deep))) (λ ys r2 h.
          let p : Stmt × List Stmt = (h.first, h.others) in
          let list = write_row p in
          let o3 = within opened (behind list) in
          let spot3 = moved list spot1 h.written in
          let hole3 : Hole {A = Stmt} d layout form (λ x. word word_.KwRecover & write_stmt d x) (λ x. alone (formed_stmt d x)) o3 = record { at = λ x ok. filled p x h.formed_alone ok } in
          answer_wanted d layout form end outer levels tokens known word_.KwRecover r2 spot3 (begins_at d layout form end outer levels tokens spot3 hole3 empty (empty_formed d false) recovering_known) (λ _ r3 w3.
          let o4 = within o3 (behind (word word_.KwRecover)) in
          let hole4 : StmtHole o4 = record { at = λ x ok. hole3.at x ok } in
          fair_then (inner_good o4 r3 (moved (word word_.KwRecover) spot3 w3) hole4 (omega (arith, deep))) (λ x r4 g.
          let span = span_between end s r4 in let f1 = h.fits in let f2 = g.fits in let u = write_stmt d x in
          reads (plain_.Try ys x span) r4 (subst (λ z. PlainReads s (plain_.Try z x span) r4) (sym h.is) (plain_as d layout form end outer levels tokens known (write_try_of d (listed p) x span) (λ f. formed_try_of d (listed p) x span f)
          (written_node end (word word_.KwTry & list & word word_.KwRecover & u) _ _ (written_join end (word word_.KwTry) (list & word word_.KwRecover & u) s r1 r4 w1
          (written_join end list (word word_.KwRecover & u) r1 r2 r4 h.written (written_join end (word word_.KwRecover) u r2 r3 r4 w3 g.written))))
          (and_in (formed_row p) _ h.formed_alone g.formed_alone) (λ next. and_in (formed_row p) _ h.formed_alone (g.before_else next)) (omega (arith, height_join list (word word_.KwRecover & u), f1, f2))))))))
