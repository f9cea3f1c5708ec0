use Rattle.std.proofs.Common.{sym, ap, ◌∙◌}
use Rattle.c_grammar.specs.Seen.{tokens_of}
use Rattle.c_reader.specs.Main.{has_main}
use Rattle.c_reader.proofs.Texts.{end_faults, main_faults}
use Rattle.c_reader.proofs.reading.fault_at_end.Goals as goal

pub returns-then-has_main : goal.returns-then-has_main
returns-then-has_main c = end_faults c.args.bytes.now c.args.text.now c.requires.cut c.fault_at.result c.requires.none c.requires.begun c.fault_at.ensures

pub returns-else-has_main : goal.returns-else-has_main
returns-else-has_main c =
    let without = ap (λ tokens. has_main (tokens_of tokens)) (sym c.as_slice.ensures.value) ∙ sym c.has_main.ensures ∙ c.if-has_main.false in
    main_faults c.args.bytes.now c.args.text.now c.requires.cut c.fault_at-else-has_main.result without c.requires.begun c.fault_at-else-has_main.ensures
