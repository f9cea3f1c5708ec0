use Rattle.std.proofs.Common.{◌∙◌, ap}
use Rattle.std.specs.Option.{option_map}
use Rattle.unit_linker.specs.Files.{first_missing}
use Rattle.unit_linker.proofs.FileLemmas.{missing_in_first, missing_in_second}
use Rattle.unit_linker.proofs.units.missing_of.Goals as goal

pub returns-in-Some : goal.returns-in-Some
returns-in-Some c = missing_in_first _ _ _ c.missing_in.result c.in-Some.span (c.missing_in.ensures ∙ ap (λ l. option_map (λ name. name.span) (first_missing c.args.units.now.entries l)) c.interface_uses.ensures) c.in-Some.is

pub returns-in-None : goal.returns-in-None
returns-in-None c = missing_in_second _ _ _ c.missing_in.result _ (c.missing_in.ensures ∙ ap (λ l. option_map (λ name. name.span) (first_missing c.args.units.now.entries l)) c.interface_uses.ensures) c.in-None.is
    (c.missing_in-in-None.ensures ∙ ap (λ l. option_map (λ name. name.span) (first_missing c.args.units.now.entries l)) c.implementation_uses.ensures)
