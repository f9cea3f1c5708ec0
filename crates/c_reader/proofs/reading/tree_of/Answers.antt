use Rattle.std.proofs.Common.{Ok, subst}
use Rattle.c_grammar.specs.Seen.{tokens_of}
use Rattle.c_parser.specs.Parsed.{IsParsed}
use Rattle.c_reader.proofs.Texts.{text_is}
use Rattle.c_reader.proofs.reading.tree_of.Goals as goal

pub returns-in-Ok-check-clause-ok : goal.returns-in-Ok-check-clause-ok
returns-in-Ok-check-clause-ok c =
    let program = c.in-Ok.program in
    let read = subst (λ tokens. IsParsed (tokens_of tokens) (Ok program)) c.as_slice.ensures.value c.in-Ok.ensures in
    text_is c.args.bytes.now c.args.text.now c.requires.cut program read c.in-Ok-check.ensures.ok
