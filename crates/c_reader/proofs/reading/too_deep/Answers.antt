use Rattle.std.proofs.Common.{arith}
use Rattle.c_reader.proofs.Texts.{too_deep_faults, too_deep_ends, too_deep_ends_begun}
use Rattle.c_reader.proofs.reading.too_deep.Goals as goal

pub fault_at_end-requires-clause-none : goal.fault_at_end-requires-clause-none
fault_at_end-requires-clause-none c = too_deep_ends c.args.bytes.now c.args.text.now c.requires.cut c.args.token c.requires.refused (omega arith)

pub returns-then-token-len : goal.returns-then-token-len
returns-then-token-len c =
    too_deep_faults c.args.bytes.now c.args.text.now c.requires.cut c.args.token c.fault_at_token.result c.requires.refused (omega arith) c.fault_at_token.ensures

pub fault_at_end-requires-clause-begun : goal.fault_at_end-requires-clause-begun
fault_at_end-requires-clause-begun c = too_deep_ends_begun c.args.bytes.now c.args.text.now c.requires.cut c.args.token c.requires.refused (omega arith)
