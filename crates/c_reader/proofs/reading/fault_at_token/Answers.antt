use Rattle.std.proofs.Common.{◌∙◌, ap, arith}
use Rattle.c_scanner.specs.Seen.{seen}
use Rattle.c_reader.specs.declared.fault.CTextFault.TheVariants.{At}
use Rattle.c_reader.specs.Read.{line_at}
use Rattle.c_reader.proofs.Fronts.{place_at, place_within}
use Rattle.c_reader.proofs.Texts.{token_of}
use Rattle.c_reader.proofs.reading.fault_at_token.Goals as goal

pub fault_at-requires-clause-within : goal.fault_at-requires-clause-within
fault_at-requires-clause-within c =
    let text = c.args.text.now in
    let (t, is) = token_of text c.args.token c.requires.within in
    let same = place_at text.tokens.items text.places.items c.args.token t c.index.result.now is c.index.ensures in
    omega (arith, place_within c.args.bytes.now (seen text) c.args.token t c.requires.cut.cut is)

pub returns : goal.returns
returns c = λ t is.
    let text = c.args.text.now in
    let same = place_at text.tokens.items text.places.items c.args.token t c.index.result.now is c.index.ensures in
    c.fault_at.ensures ∙ ap (λ place. At c.args.kind (line_at c.args.bytes.now place)) same
