-- Lists of names, and names of types, that are read.
use Rattle.std.proofs.Common.{◌≡◌, ℕ, Bool, true, List, Ok, Err, refl, sym, subst, arith}
use Rattle.p2c_text.specs.declared.dialect.Dialect.{Dialect}
use Rattle.p2c_text.specs.declared.place.Span.{Span}
use Rattle.dialect_lexer.specs.declared.token.Word.{Word as WordSymbol}
use Rattle.dialect_lexer.specs.declared.token.Word.TheVariants as word_
use Rattle.pascal_tree.specs.declared.names.Identifier.{Identifier}
use Rattle.pascal_tree.specs.declared.types.TypeName.TheVariants as name_
use Rattle.token_parsing.specs.Parser.{Outcome, Parser, and_then, one_of, begins}
use Rattle.token_parsing.proofs.Fair.{reads, fair_either, fair_so}
use Rattle.expr_parser.specs.Tokens.{Placed, plain, Word}
use Rattle.expr_parser.specs.Layout.{Layout, word, IsWritten}
use Rattle.expr_parser.specs.Spans.{span_between}
use Rattle.expr_parser.specs.Writing.{identifier}
use Rattle.expr_parser.specs.Grammar.{AreTokens}
use Rattle.expr_parser.specs.Text.{Begins}
use Rattle.expr_parser.specs.Classes.{identifiers, words, expect_word}
use Rattle.expr_parser.proofs.ClassTokens.{identifier_is, word_is}
use Rattle.expr_parser.proofs.KnownTokens.{name_known}
use Rattle.expr_parser.proofs.Openings.{Opening, Hole}
use Rattle.expr_parser.proofs.Spots.{Answer, Spot, Reads, Good, begins_at}
use Rattle.expr_parser.proofs.SoundTokens.{written_node, written_token, written_name, answer_token, answer_begun}
use Rattle.expr_parser.proofs.SoundLists.{listed, list_sound}
use Rattle.type_parser.specs.Writing.{write_names, write_type_name}
use Rattle.type_parser.specs.Grammar.{some_names}
use Rattle.type_parser.specs.Names.{next_name, more_names, names, string_name, type_name}
use Rattle.type_parser.proofs.Fillers.{a_name}

module _ (d : Dialect) {C : Type 0} (layout : C → Layout) (form : C → Bool) (end : Span) (outer levels : ℕ) (tokens : List Placed) (known : AreTokens d (plain tokens)) where
  abbrev AnswerT : {A : Type 0} → (A → List Placed → Type 0) → Outcome Placed A → Type 0
  AnswerT P o = Answer d layout form end outer levels tokens P o

  abbrev SpotT : Opening → List Placed → Type 0
  SpotT o s = Spot d layout form end outer levels tokens o s

  abbrev ReadsT : {A : Type 0} → (A → Layout) → (A → Bool) → ℕ → List Placed → A → List Placed → Type 0
  ReadsT write formed k s a r = Reads d layout form end outer levels tokens write formed k s a r

  -- a word that is wanted
  pub answer_wanted : {B : Type 0} {Q : B → List Placed → Type 0} (w : WordSymbol) {o : Opening} (s : List Placed) {f : Unit {0} → Parser Placed B} → SpotT o s → Begins d layout form o.left
      → ((a : Unit {0}) (r : List Placed) → IsWritten end (word w) s r → AnswerT Q (f a r)) → AnswerT Q (and_then (expect_word w s) f)
  answer_wanted w s spot begun k = answer_token d layout form end outer levels tokens (words w) s spot begun (λ t a r is e. k a r (written_token end (Word w) t r e (word_is w t.token a is)))

  -- a name that is wanted
  pub answer_name : {B : Type 0} {Q : B → List Placed → Type 0} {o : Opening} (s : List Placed) {f : Identifier → Parser Placed B} → SpotT o s → Hole d layout form identifier (λ i. true) o
      → ((i : Identifier) (r : List Placed) → IsWritten end (identifier i) s r → AnswerT Q (f i r)) → AnswerT Q (and_then (one_of identifiers s) f)
  answer_name s spot hole k =
      answer_token d layout form end outer levels tokens identifiers s spot (begins_at d layout form end outer levels tokens spot hole a_name refl (name_known d, tt)) (λ t i r is e. k i r (written_name end i t r e (identifier_is t.token t.span i is)))

  -- a name that is there, as a test has shown
  pub answer_named : {B : Type 0} {Q : B → List Placed → Type 0} (s : List Placed) {f : Identifier → Parser Placed B} → begins identifiers s ≡ true
      → ((i : Identifier) (r : List Placed) → IsWritten end (identifier i) s r → AnswerT Q (f i r)) → AnswerT Q (and_then (one_of identifiers s) f)
  answer_named s test k = answer_begun d layout form end outer levels tokens identifiers s test (λ t i r is e. k i r (written_name end i t r e (identifier_is t.token t.span i is)))

  answer_plain : {A : Type 0} {P : A → List Placed → Type 0} (o : Outcome Placed A) → AnswerT P (and_then o (λ a s. Ok (a, s))) → AnswerT P o
  answer_plain (Ok p) h = h
  answer_plain (Err e) h = h

  module _ (k : ℕ) where
    name_good : Good d layout form end outer levels tokens identifier (λ i. true) k (one_of identifiers)
    name_good o s spot hole deep = answer_plain (one_of identifiers s) (answer_name s spot hole (λ i r w. reads i r (record { written = w; formed = refl; fits = omega arith })))

    pub names_sound : Good d layout form end outer levels tokens write_names some_names k names
    unfolding names more_names next_name
    names_sound o s spot hole deep =
        fair_so (list_sound d layout form end outer levels tokens known identifier (λ i. true) k (one_of identifiers) name_good o s spot (record { at = λ p ok. hole.at (listed p) refl }) deep)
        (λ ns r h. subst (λ z. ReadsT write_names some_names k s z r) (sym h.is) (let w = h.reads.written in let fits = h.reads.fits in record { written = w; formed = refl; fits = fits }))

    pub type_name_sound : (o : Opening) (s : List Placed) → SpotT o s → Hole d layout form write_type_name (λ t. true) o → AnswerT (ReadsT write_type_name (λ t. true) k s) (type_name end s)
    unfolding type_name string_name
    type_name_sound o s spot hole = fair_either (begins identifiers s)
        (λ test. answer_named s test (λ i r w. reads (name_.Name i) r (record { written = w; formed = refl; fits = omega arith })))
        (λ none. answer_wanted word_.KwString s spot (begins_at d layout form end outer levels tokens spot hole (name_.Name a_name) refl (name_known d, tt)) (λ _ r w.
        reads (name_.String (span_between end s r)) r (record { written = written_node end (word word_.KwString) _ _ w; formed = refl; fits = omega arith })))
