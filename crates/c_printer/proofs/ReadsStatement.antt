-- Statements are printed as they are spelled, on lines of their own.
use Rattle.std.proofs.Common.{◌≡◌, ℕ, zero, suc, ◌+◌, List, [], ◌∷◌, ◌++◌, Option, Some, None, refl, ap, append_assoc}
use Rattle.std.specs.Prelude.{codes}
use Rattle.std.specs.List.{AllByRecursion}
use Rattle.std.specs.Option.{IfSome}
use Rattle.c_tree.specs.Tree.{Expr, Place, Statement, Assign, Call, Malloc, Free, GetChar, PutChar, If, IfElse, While, Goto, Label, Return, Body, Empty, Then}
use Rattle.c_tree.specs.declared.statement.CCallee.{CCallee}
use Rattle.c_tree.specs.declared.statement.CCallee.TheVariants.{Direct, Indirect}
use Rattle.c_grammar.specs.declared.token.Word.TheVariants as word
use Rattle.c_grammar.specs.Token.{Token, is_name_byte}
use Rattle.c_grammar.specs.Spelling.{Spelling, spell_all, spell_next, spell_listed, spell_expr, spell_into, spell_callee, spell_statement, spell_body}
use Rattle.c_grammar.specs.Grammar.{IsExpr, IsPlace, IsCallee, IsStatement, IsBody}
use Rattle.c_grammar.proofs.Longest.{Stops}
use Rattle.c_printer.specs.Text.{expr_text, margin, line, more_exprs_text, exprs_text, into_text, callee_text, statement_text, body_text, more_text}
use Rattle.c_printer.proofs.ReadsExpr.{expr_reads, place_reads, assign}
use Rattle.c_printer.proofs.ReadsToken.{Reads, space, newline, name, quoted, open_parenthesis, close, open_brace, close_brace, semicolon, comma, colon, star}
use Rattle.c_printer.proofs.ReadsType.{type_reads}

pub margin_reads : (k : ℕ) {after : List ℕ} {tokens : List Token} → Reads after tokens → Reads (margin k ++ after) tokens
margin_reads zero r = r
margin_reads (suc k) r = simp append_assoc (margin_reads k (space (space r)))

pub line_reads : (k : ℕ) (text after : List ℕ) {tokens : List Token} → Reads (text ++ 10 ∷ after) tokens → Reads (line k text ++ after) tokens
line_reads k text after r = simp append_assoc (margin_reads k r)

-- ---- items between commas

-- each item is printed as it is spelled, before a byte that is of no name
pub record ItemReads {A : Type 0} (Is : A → Type 0) (text : A → List ℕ) (spell : Spelling A) : Type 0 where
  pub reads : (a : A) (after : List ℕ) (tokens : List Token) → Is a → Stops is_name_byte after → Reads after tokens → Reads (text a ++ after) (spell a tokens)

stops_more : {A : Type 0} (text : A → List ℕ) (all : List A) (after : List ℕ) → Stops is_name_byte after → Stops is_name_byte (more_text text all ++ after)
stops_more text [] after s = s
stops_more text (a ∷ rest) after s = refl

more_reads : {A : Type 0} {Is : A → Type 0} {text : A → List ℕ} {spell : Spelling A} → ItemReads Is text spell → (all : List A) {after : List ℕ} {tokens : List Token}
    → AllByRecursion Is all → Stops is_name_byte after → Reads after tokens → Reads (more_text text all ++ after) (spell_all (spell_next spell) all tokens)
more_reads item [] h s r = r
more_reads {text} item (a ∷ rest) h s r = simp append_assoc (comma (space (item.reads a _ _ h.0 (stops_more text rest _ s) (more_reads item rest h.1 s r))))

pub listed_reads : {A : Type 0} {Is : A → Type 0} {text : A → List ℕ} {spell : Spelling A} → ItemReads Is text spell → (a : A) (rest : List A) {after : List ℕ} {tokens : List Token}
    → AllByRecursion Is (a ∷ rest) → Stops is_name_byte after → Reads after tokens → Reads (text a ++ (more_text text rest ++ after)) (spell_listed spell (a ∷ rest) tokens)
listed_reads {text} item a rest h s r = item.reads a _ _ h.0 (stops_more text rest _ s) (more_reads item rest h.1 s r)

-- ---- calls

same_more : (all : List Expr) → more_exprs_text all ≡ more_text expr_text all
same_more [] = refl
same_more (a ∷ rest) = ap (λ l. codes ", " ++ expr_text a ++ l) (same_more rest)

expr_item : ItemReads IsExpr expr_text spell_expr
expr_item = record { reads = λ a after tokens. expr_reads a }

exprs_reads : (all : List Expr) {after : List ℕ} {tokens : List Token} → AllByRecursion IsExpr all → Stops is_name_byte after → Reads after tokens → Reads (exprs_text all ++ after) (spell_listed spell_expr all tokens)
exprs_reads [] h s r = r
exprs_reads (a ∷ rest) h s r = rw (same_more rest) (rw append_assoc (listed_reads expr_item a rest h s r))

into_reads : (into : Option Place) {after : List ℕ} {tokens : List Token} → IfSome into IsPlace → Reads after tokens → Reads (into_text into ++ after) (spell_into into tokens)
into_reads None h r = r
into_reads (Some p) h r = simp append_assoc (place_reads p h refl (assign r))

callee_reads : (callee : CCallee) {after : List ℕ} {tokens : List Token} → IsCallee callee → Stops is_name_byte after → Reads after tokens → Reads (callee_text callee ++ after) (spell_callee callee tokens)
callee_reads (Direct n) h s r = name n h s r
callee_reads (Indirect a) h s r = simp append_assoc (open_parenthesis (star (expr_reads a h refl (close r))))

-- ---- statements

mutual
  pub statement_reads : (k : ℕ) (s : Statement) {after : List ℕ} {tokens : List Token} → IsStatement s → Reads after tokens → Reads (statement_text k s ++ after) (spell_statement s tokens)
  statement_reads k (Assign p a) h r = simp append_assoc (margin_reads k (place_reads p h.0 refl (assign (expr_reads a h.1 refl (semicolon (newline r))))))
  statement_reads k (Call into callee all) h r = simp append_assoc
      (margin_reads k (into_reads into h.0 (callee_reads callee h.1 refl (open_parenthesis (exprs_reads all h.2 refl (close (semicolon (newline r))))))))
  statement_reads k (Malloc p of) h r = simp append_assoc
      (margin_reads k (place_reads p h.0 refl (assign (quoted word.Malloc refl (open_parenthesis (quoted word.SizeOf refl (open_parenthesis
      (type_reads of h.1 refl (close (close (semicolon (newline r))))))))))))
  statement_reads k (Free a) h r = simp append_assoc (margin_reads k (quoted word.Free refl (open_parenthesis (expr_reads a h refl (close (semicolon (newline r)))))))
  statement_reads k (GetChar p) h r = simp append_assoc (margin_reads k (place_reads p h refl (assign (quoted word.GetChar refl (open_parenthesis (close (semicolon (newline r))))))))
  statement_reads k (PutChar a) h r = simp append_assoc (margin_reads k (quoted word.PutChar refl (open_parenthesis (expr_reads a h refl (close (semicolon (newline r)))))))
  statement_reads k (If test a) h r = simp append_assoc
      (margin_reads k (quoted word.If refl (space (open_parenthesis (expr_reads test h.0 refl (close (space (open_brace (newline
      (body_reads (k + 1) a h.1 (margin_reads k (close_brace (newline r)))))))))))))
  statement_reads k (IfElse test a b) h r = simp append_assoc
      (margin_reads k (quoted word.If refl (space (open_parenthesis (expr_reads test h.0 refl (close (space (open_brace (newline
      (body_reads (k + 1) a h.1 (margin_reads k (close_brace (newline
      (margin_reads k (quoted word.Else refl (space (open_brace (newline
      (body_reads (k + 1) b h.2 (margin_reads k (close_brace (newline r))))))))))))))))))))))
  statement_reads k (While test a) h r = simp append_assoc
      (margin_reads k (quoted word.While refl (space (open_parenthesis (expr_reads test h.0 refl (close (space (open_brace (newline
      (body_reads (k + 1) a h.1 (margin_reads k (close_brace (newline r)))))))))))))
  statement_reads k (Goto l) h r = simp append_assoc (margin_reads k (quoted word.Goto refl (space (name l h refl (semicolon (newline r))))))
  statement_reads k (Label l) h r = simp append_assoc (margin_reads k (name l h refl (colon (space (semicolon (newline r))))))
  statement_reads k (Return None) h r = simp append_assoc (margin_reads k (quoted word.Return refl (semicolon (newline r))))
  statement_reads k (Return (Some a)) h r = simp append_assoc (margin_reads k (quoted word.Return refl (space (expr_reads a h refl (semicolon (newline r))))))

  pub body_reads : (k : ℕ) (b : Body) {after : List ℕ} {tokens : List Token} → IsBody b → Reads after tokens → Reads (body_text k b ++ after) (spell_body b tokens)
  body_reads k Empty h r = r
  body_reads k (Then s rest) h r = simp append_assoc (statement_reads k s h.0 (body_reads k rest h.1 r))
