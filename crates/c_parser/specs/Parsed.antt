-- What a call of the parser answers.
use Rattle.std.specs.Prelude.{◌≡◌, ℕ, ◌+◌, List, [], length, Result, Ok, Err}
use Rattle.c_tree.specs.declared.program.CProgram.{CProgram}
use Rattle.c_grammar.specs.Token.{Token}
use Rattle.token_parsing.specs.declared.refusal.Refusal.TheVariants as refusal
use Rattle.c_parser.specs.declared.fault.ParseFault.{ParseFault}
use Rattle.c_parser.specs.declared.fault.ParseFault.TheVariants as fault
use Rattle.c_parser.specs.Programs.{program}

-- the answer is what the definition gives, a refusal with the number of tokens before its place; or memory was wanting
abbrev pub IsParsed : List Token → Result CProgram ParseFault → Type 0
IsParsed tokens (Ok c) = program tokens ≡ Ok (c, [])
IsParsed tokens (Err (fault.Unexpected n)) = (left : ℕ) × (n + left ≡ length tokens) × (program tokens ≡ Err (refusal.Unexpected left))
IsParsed tokens (Err (fault.TooDeep n)) = (left : ℕ) × (n + left ≡ length tokens) × (program tokens ≡ Err (refusal.TooDeep left))
IsParsed tokens (Err (fault.Memory e)) = Unit {0}
