-- What the Pascal program that writes literal texts does.
use Rattle.std.proofs.Common.{◌≡◌, ℕ, zero, suc, ◌+◌, ◌-◌, ◌<◌, List, [], ◌∷◌, ◌++◌, length, Option, Some, None, refl, sym, ap, ◌∙◌, append_assoc, append-nil, arith, pos, slice_get, ◌⊎◌, inl, inr}
use Rattle.p2c_text.specs.declared.dialect.Dialect.{Dialect}
use Rattle.typed_tree.specs.declared.types.Host.TheVariants.{Char}
use Rattle.typed_tree.specs.declared.types.PasType.{PasType}
use Rattle.typed_tree.specs.declared.types.PasType.TheVariants.{Ordinal, Literal}
use Rattle.typed_tree.specs.declared.types.Types.{Types}
use Rattle.typed_tree.specs.declared.statements.TypedStmt.{TypedStmt}
use Rattle.typed_tree.specs.Ranges.{type_at}
use Rattle.meanings.specs.Values.{Whole}
use Rattle.meanings.specs.Worlds.{World}
use Rattle.meanings.specs.Outcomes.{Outcome, Normal, Passes, ◌&>◌, expect}
use Rattle.meanings.specs.Programs.{Level, Setting, Prog, pure, ◌>>◌, ◌>>=◌, check, print, handle, turns}
use Rattle.meanings.specs.Fresh.{each_is, have_types}
use Rattle.meanings.specs.Code.{End, answer, answer_of, each_has_types, whole_program, initial_parts, start, level}
use Rattle.pascal_meaning.specs.Texts.{count, byte_of, read_cells, cells, cells_of, length_of, made, text_of as seen_text}
use Rattle.pascal_meaning.specs.Output.{width_of, written, shown as shown_value, shown_text, shown_length, padded, places}
use Rattle.pascal_meaning.specs.Predefined.{one_by_one, write_one, call_statement}
use Rattle.pascal_meaning.specs.Meaning.{code, outline, block_code, Exec, items, operand, Value, width, expr_type, Pas}
use Rattle.pascal_meaning.specs.Statements.{Item, run_all, begin_at, sequence}
use Rattle.pascal_meaning.specs.Whole.{run}
use Rattle.agreement.specs.Writers.{Writing, Nothing, LineEnd, Text, Line, bytes_of, all_bytes, types_of, all_types, typed_statement, typed_statements, row_of, sequence_of, typed_writer}

-- ---- cells

count_cells : (bs : List ℕ) → count (cells bs) ≡ length bs
unfolding count cells
count_cells [] = refl
count_cells (b ∷ bs) = ap suc (count_cells bs)

-- all of the cells that were made of bytes are these bytes
cells_read : (bs : List ℕ) → read_cells (length bs) (cells bs) ≡ Passes bs
unfolding read_cells cells ◌&>◌ byte_of
cells_read [] = refl
cells_read (b ∷ bs) = ap (λ c. c &> λ more. Passes (b ∷ more)) (cells_read bs)

-- ---- literal texts

no_padding : (n : ℕ) → 0 - n ≡ 0
no_padding n = omega arith

-- a text of a literal type is written as it is
text_written : (d : Dialect) (n : ℕ) (bs : List ℕ) → written d (Some (Literal n)) None (made bs) ≡ Passes bs
unfolding written width_of shown_value shown_text shown_length padded places length_of cells_of seen_text made ◌&>◌
text_written d n bs = rw (count_cells bs, cells_read bs, no_padding (length bs)) refl

untyped_written : (d : Dialect) (bs : List ℕ) → written d None None (made bs) ≡ Passes bs
unfolding written width_of shown_value shown_text shown_length padded places length_of cells_of seen_text made ◌&>◌
untyped_written d bs = rw (count_cells bs, cells_read bs, no_padding (length bs)) refl

char_written : (d : Dialect) (b : ℕ) → written d (Some (Ordinal Char (pos 0) (pos 255))) None (Whole (pos b)) ≡ Passes (b ∷ [])
unfolding written width_of shown_value shown_text shown_length padded places length_of cells_of seen_text count read_cells byte_of ◌&>◌
char_written d b = refl

-- ---- statements

abbrev pub put : World → List ℕ → World
put w bs = record w { output = w.output ++ bs }

abbrev done : World → Outcome (Unit {0})
done w = Normal tt w

nothing_put : (w : World) → done w ≡ done (put w [])
nothing_put w = ap (λ o. done (record w { output = o })) (sym (append-nil w.output))

put_put : (w : World) (as' bs : List ℕ) → put (put w as') bs ≡ put w (as' ++ bs)
put_put w as' bs = ap (λ o. record w { output = o }) (append_assoc w.output as' bs)

-- a statement without a label runs before those after it
first_then : (t : ℕ) (x : Writing) (more : List TypedStmt) → run_all (items (row_of (typed_statement t x ∷ more))) ≡ (Exec (typed_statement t x) >> run_all (items (row_of more)))
unfolding run_all items
first_then t Nothing more = refl
first_then t LineEnd more = refl
first_then t (Text bytes) more = refl
first_then t (Line bytes) more = refl

-- a sequence that runs to its end ends with it
in_sequence : (s : Setting) (l : Level) (is : List Item) (w v : World) → run_all is s l w ≡ done v → sequence is s l w ≡ done v
unfolding sequence turns handle begin_at pure ◌>>◌
in_sequence s [] is w v e = rw e refl
in_sequence s (run ∷ l) is w v e = rw e refl

-- the types with which a program that writes texts is made: `char`, and then literal types alone
pub record AreWriters (types : Types) : Type 0 where
  pub char : type_at types 0 ≡ Some (Ordinal Char (pos 0) (pos 255))
  pub literal : (t : ℕ) → 0 < t → (bs : List ℕ) → written types.dialect (type_at types t) None (made bs) ≡ Passes bs

module _ (s : Setting) (h : AreWriters s.program.types) (l : Level) where
  text_put : (t : ℕ) → 0 < t → (bytes : List ℕ) (w : World) → (check (λ types. written types.dialect (type_at types t) None (made bytes)) >>= λ bs. print bs) s l w ≡ done (put w bytes)
  unfolding check print ◌>>=◌
  text_put t p bytes w = rw (h.literal t p bytes) refl

  char_put : (b : ℕ) (w : World) → (check (λ types. written types.dialect (type_at types 0) None (Whole (pos b))) >>= λ bs. print bs) s l w ≡ done (put w (b ∷ []))
  unfolding check print ◌>>=◌
  char_put b w = rw (h.char, char_written s.program.types.dialect b) refl

  write_put : (t : ℕ) → 0 < t → (bytes : List ℕ) (w : World) → Exec (typed_statement t (Text bytes)) s l w ≡ done (put w bytes)
  unfolding Exec call_statement one_by_one write_one operand Value width expr_type pure ◌>>=◌ ◌>>◌
  write_put t p [] w = rw (text_put t p [] w) refl
  write_put t p (b ∷ []) w = rw (char_put b w) refl
  write_put t p (b ∷ c ∷ more) w = rw (text_put t p (b ∷ c ∷ more) w) refl

  line_put : (t : ℕ) → 0 < t → (bytes : List ℕ) (w : World) → Exec (typed_statement t (Line bytes)) s l w ≡ done (put (put w bytes) (10 ∷ []))
  unfolding Exec call_statement one_by_one write_one operand Value width expr_type pure print ◌>>=◌ ◌>>◌
  line_put t p [] w = rw (text_put t p [] w) refl
  line_put t p (b ∷ []) w = rw (char_put b w) refl
  line_put t p (b ∷ c ∷ more) w = rw (text_put t p (b ∷ c ∷ more) w) refl

  statement_put : (t : ℕ) → 0 < t → (x : Writing) (w : World) → Exec (typed_statement t x) s l w ≡ done (put w (bytes_of x))
  unfolding Exec call_statement one_by_one pure print ◌>>◌
  statement_put t p Nothing w = nothing_put w
  statement_put t p LineEnd w = refl
  statement_put t p (Text bytes) w = write_put t p bytes w
  statement_put t p (Line bytes) w = line_put t p bytes w ∙ ap done (put_put w bytes (10 ∷ []))

  next_put : (p q : Prog (Unit {0})) (w v : World) (r : Outcome (Unit {0})) → p s l w ≡ done v → q s l v ≡ r → (p >> q) s l w ≡ r
  unfolding ◌>>◌
  next_put p q w v r e k = rw e k

  all_put : (t : ℕ) → 0 < t → (ws : List Writing) (w : World) → run_all (items (row_of (typed_statements t ws))) s l w ≡ done (put w (all_bytes ws))
  unfolding run_all items pure
  all_put t p [] w = nothing_put w
  all_put t p (x ∷ ws) w =
      ap (λ q. q s l w) (first_then t x (typed_statements (t + length (types_of x)) ws))
      ∙ next_put (Exec (typed_statement t x)) (run_all (items (row_of (typed_statements (t + length (types_of x)) ws)))) w (put w (bytes_of x)) (done (put w (bytes_of x ++ all_bytes ws)))
      (statement_put t p x w)
      (all_put (t + length (types_of x)) (omega arith) ws (put w (bytes_of x)) ∙ ap done (put_put w (bytes_of x) (all_bytes ws)))

  body_put : (ws : List Writing) (w : World) → Exec (sequence_of (typed_statements 1 ws)) s l w ≡ done (put w (all_bytes ws))
  unfolding Exec
  body_put ws w = in_sequence s l (items (row_of (typed_statements 1 ws))) w (put w (all_bytes ws)) (all_put 1 (omega arith) ws w)

-- ---- the program

-- the types behind `char` are literal types
literal_at : (ws : List Writing) (t : ℕ) → (slice_get (all_types ws) t ≡ None) ⊎ ((n : ℕ) × (slice_get (all_types ws) t ≡ Some (Literal n)))
literal_at [] t = inl refl
literal_at (Nothing ∷ ws) t = literal_at ws t
literal_at (LineEnd ∷ ws) t = literal_at ws t
literal_at (Text [] ∷ ws) zero = inr (0, refl)
literal_at (Text [] ∷ ws) (suc t) = literal_at ws t
literal_at (Text (b ∷ []) ∷ ws) t = literal_at ws t
literal_at (Text (b ∷ c ∷ more) ∷ ws) zero = inr (length (b ∷ c ∷ more), refl)
literal_at (Text (b ∷ c ∷ more) ∷ ws) (suc t) = literal_at ws t
literal_at (Line [] ∷ ws) zero = inr (0, refl)
literal_at (Line [] ∷ ws) (suc t) = literal_at ws t
literal_at (Line (b ∷ []) ∷ ws) t = literal_at ws t
literal_at (Line (b ∷ c ∷ more) ∷ ws) zero = inr (length (b ∷ c ∷ more), refl)
literal_at (Line (b ∷ c ∷ more) ∷ ws) (suc t) = literal_at ws t

literal_written : (d : Dialect) (type : Option PasType) (bs : List ℕ) → (type ≡ None) ⊎ ((n : ℕ) × (type ≡ Some (Literal n))) → written d type None (made bs) ≡ Passes bs
literal_written d type bs (inl e) = rw e (untyped_written d bs)
literal_written d type bs (inr (n, e)) = rw e (text_written d n bs)

types_are : (d : Dialect) (ws : List Writing) → AreWriters (typed_writer d ws).types
unfolding type_at
types_are d ws = record { char = refl; literal = at }
  where
    at : (t : ℕ) → 0 < t → (bs : List ℕ) → written d (slice_get (Ordinal Char (pos 0) (pos 255) ∷ all_types ws) t) None (made bs) ≡ Passes bs
    at zero p bs = absurd (omega arith)
    at (suc t) p bs = literal_written d (slice_get (all_types ws) t) bs (literal_at ws t)

pub means : (d : Dialect) (ws : List Writing) (input : List ℕ) (n : ℕ) → Pas (typed_writer d ws) input n ≡ End (all_bytes ws) 0 []
unfolding Pas answer answer_of each_is have_types each_has_types whole_program initial_parts code outline block_code start check expect pure ◌>>◌
means d ws input n = rw (body_put (record { program = (code (typed_writer d ws)).outline; here = 0 }) (types_are d ws) (level (code (typed_writer d ws)) n) ws (start (code (typed_writer d ws)) input)) refl
