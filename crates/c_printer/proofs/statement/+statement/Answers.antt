use Rattle.c_printer.proofs.statement.+statement.Goals as goal

pub put_statement-returns-in-Malloc : goal.put_statement-returns-in-Malloc
put_statement-returns-in-Malloc t c = rw (← c.s.view_is, c.in-Malloc.is) c.put_place_type_line.ensures

pub put_statement-returns-in-GetChar : goal.put_statement-returns-in-GetChar
put_statement-returns-in-GetChar t c = rw (← c.s.view_is, c.in-GetChar.is) c.put_place_line.ensures
