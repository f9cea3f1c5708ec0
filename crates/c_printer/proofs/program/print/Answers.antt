use Rattle.std.proofs.Common.{rules, ◌≡◌}
use Rattle.c_printer.specs.Text.{program_text}
use Rattle.c_printer.proofs.ReadBack.{text_read_back}
use Rattle.c_printer.proofs.program.print.Goals as goal

pub returns-clause-read_back : goal.returns-clause-read_back
returns-clause-read_back c =
    let written : c.put_main.new.out.items ≡ program_text c.args.program.now = search rules in
    text_read_back c.put_main.new.out.items c.args.program.now written
