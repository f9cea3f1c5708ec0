use Rattle.std.proofs.Common.{refl, sym, subst}
use Rattle.c_scanner.specs.Scan.{IsRefused}
use Rattle.c_reader.specs.Read.{line_at, IsFault}
use Rattle.c_reader.proofs.Refused.{bad_byte}
use Rattle.c_reader.proofs.reading.uncut.Goals as goal

pub returns-in-At : goal.returns-in-At
returns-in-At c =
    let bytes = c.args.bytes.now in
    subst (IsFault bytes) (sym c.fault_at.ensures) (bad_byte bytes c.in-At.place (line_at bytes c.in-At.place) (subst (IsRefused bytes) c.in-At.is c.requires.refused) refl)
