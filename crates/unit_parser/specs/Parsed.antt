-- What the parser answers, in the words of `file`.
use Rattle.std.specs.Prelude.{◌≡◌, ℕ, List, [], Result, Ok, Err}
use Rattle.p2c_text.specs.declared.place.Span.{Span}
use Rattle.pascal_tree.specs.declared.files.SourceFile.{SourceFile}
use Rattle.token_parsing.specs.declared.refusal.Refusal.TheVariants as refusal
use Rattle.token_parsing.specs.Parser.{Outcome}
use Rattle.expr_parser.specs.declared.fault.SyntaxFault.{SyntaxFault}
use Rattle.expr_parser.specs.declared.fault.SyntaxFault.TheVariants as fault
use Rattle.expr_parser.specs.Tokens.{Placed}
use Rattle.expr_parser.specs.Parsed.{place_left}

-- the answer is what the parser gives: a tree, with no token left, or the place of a refusal
abbrev pub Answers : Span → List Placed → Outcome Placed SourceFile → Result SourceFile SyntaxFault → Type 0
Answers end tokens given (Ok f) = given ≡ Ok (f, [])
Answers end tokens given (Err (fault.Unexpected place)) = (left : ℕ) × (given ≡ Err (refusal.Unexpected left)) × (place ≡ place_left end tokens left)
Answers end tokens given (Err (fault.TooDeep place)) = (left : ℕ) × (given ≡ Err (refusal.TooDeep left)) × (place ≡ place_left end tokens left)
Answers end tokens given (Err (fault.Memory e)) = Unit {0}
