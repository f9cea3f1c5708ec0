-- What the definitions say of the bytes after the head lines, computed.
use Rattle.std.proofs.Common.{◌≡◌, ℕ, ◌+◌, List, [], ◌∷◌, ◌++◌, length, Option, Some, None, refl, subst}
use Rattle.c_tree.specs.declared.program.CProgram.{CProgram}
use Rattle.c_grammar.specs.declared.fault.CTextKind.{CTextKind}
use Rattle.c_grammar.specs.Token.{Token, Placed, IsTokens, head_lines}
use Rattle.c_grammar.specs.Spelling.{program_tokens}
use Rattle.c_grammar.specs.Demands.{Demands, Level, program_demands}
use Rattle.c_grammar.specs.Text.{plain}
use Rattle.c_grammar.proofs.Cutting.{Cutting, cuts, piece, word_piece, zero_piece, number_piece, mark_piece, single_piece, after_white, after_token, span}
use Rattle.c_grammar.proofs.Reading.{many, stars, selectors, read_expr}
use Rattle.c_grammar.proofs.ReadingStatement.{read_body, read_statement}
use Rattle.c_grammar.proofs.ReadingProgram.{read_program}
use Rattle.c_grammar.proofs.UniqueTree.{program_of}
use Rattle.c_grammar.proofs.Deciding.{failing}

abbrev pub found_tokens : {n : ℕ} {body : List ℕ} → Option (Cutting n body) → List Placed
found_tokens None = []
found_tokens (Some c) = c.tokens

-- how the bytes are cut, where each belongs to a token
unfoldable pub cut_of : (body : List ℕ) → Option (Cutting (length head_lines) body)
unfolding cuts piece word_piece zero_piece number_piece mark_piece single_piece after_white after_token span
cut_of body = cuts (length body + 1) (length head_lines) body

unfoldable pub placed_of : List ℕ → List Placed
unfolding cut_of
placed_of body = found_tokens (cut_of body)

unfoldable pub tokens_of : List ℕ → List Token
unfolding placed_of
tokens_of body = plain (placed_of body)

-- the only tree that may have these tokens
unfoldable pub tree_of : List Token → CProgram
unfolding many stars selectors read_expr read_body read_statement read_program
tree_of tokens = program_of (read_program (length tokens) tokens)

-- they spell a tree, of which these demands fail
abbrev pub Shows : List ℕ → List (ℕ × CTextKind) → Type 0
Shows body faults = let tokens = tokens_of body in let c = tree_of tokens in (program_tokens c ≡ tokens) × (failing (program_demands c) ≡ faults)

-- the levels of the statements and expressions, each with the number of tokens before it
abbrev pub levels : Demands → List (ℕ × ℕ)
levels [] = []
levels ((n, Level level) ∷ more) = (n, level) ∷ levels more
levels (d ∷ more) = levels more

abbrev pub levels_of : List ℕ → List (ℕ × ℕ)
levels_of body = levels (program_demands (tree_of (tokens_of body)))

found_by : {body : List ℕ} (t : Placed) (more : List Placed) (found : Option (Cutting (length head_lines) body)) → found_tokens found ≡ t ∷ more → IsTokens (head_lines ++ body) (t ∷ more)
found_by t more None e = absurd (cc)
found_by {body} t more (Some k) e = subst (IsTokens (head_lines ++ body)) e (body, refl, k.cut)

-- tokens that were found are those of the bytes
pub are_tokens : (body : List ℕ) (t : Placed) (more : List Placed) → placed_of body ≡ t ∷ more → IsTokens (head_lines ++ body) (t ∷ more)
unfolding placed_of
are_tokens body t more e = found_by t more (cut_of body) e
