use Rattle.std.specs.Prelude.{string_bytes}
use Rattle.std.proofs.Common.{map}
use Rattle.clap.specs.Words.{app_of, found_of, rows_of}
use Rattle.command_words.proofs.Matches.{first_true, refused, taken}
use Rattle.command_words.proofs.lines.matches.Goals as goal

pub returns-in-Ok : goal.returns-in-Ok
returns-in-Ok c = λ simple.
    taken (app_of c.args.line) (map string_bytes c.args.words.now) (rows_of (found_of c.in-Ok.found)) (c.in-Ok.ensures.kinds simple) (c.in-Ok.ensures.matches (first_true _ _ simple)).0

pub returns : goal.returns
returns c = λ simple.
    refused (app_of c.args.line) (map string_bytes c.args.words.now) c.in-Err.error (c.in-Err.ensures.kinds simple) (λ memory. let known = c.is_want_of_memory.ensures memory in absurd cc)
