use Rattle.std.proofs.Common.{◌≡◌, ◌<◌, ◌-◌, ◌∷◌, map, length, Err, ap, sym, subst, ◌∙◌, arith}
use Rattle.std.proofs.lemmas.List.{length-map}
use Rattle.p2c_outside.specs.Told.{WhereTold}
use Rattle.p2c_top.specs.Reading.{AddsFile, Lacks, LacksFirst, ReadUpTo}
use Rattle.p2c_top.specs.declared.reading.ReadRefusal.TheVariants as reading
use Rattle.p2c_top.proofs.Translations.{read_more, read_long, read_lacks}
use Rattle.p2c_top.proofs.reading.read_all.Goals as goal

pub returns-in-Err-clause-too_long : goal.returns-in-Err-clause-too_long
returns-in-Err-clause-too_long g c = λ e.
    let told = g.F.Files.told c.args.files.now in
    let names = map (λ name. name.now) c.args.names.now in
    let rest = map (λ name. name.now) c.loop-name.rest.now in
    let name = c.in-Some.name.now.now in
    let after = map (λ name. name.now) c.in-Some.after.now in
    let split : rest ≡ name ∷ after = ap (λ l. map (λ name. name.now) l) c.in-Some.ensures.cases.0 in
    let same : c.in-Err.refusal ≡ reading.TooLong = cc in
    read_long told names rest c.loop-name.texts c.loop-name.room name after c.loop-name.invariant.read split
    (subst (λ t. WhereTold t name (λ b. c.loop-name.room < length b)) c.loop-name.invariant.same (c.read_next.ensures.too_long (c.in-Err.is ∙ ap Err same)))

pub returns-in-Err-clause-absent : goal.returns-in-Err-clause-absent
returns-in-Err-clause-absent g c = λ same.
    let told = g.F.Files.told c.args.files.now in
    let names = map (λ name. name.now) c.args.names.now in
    let rest = map (λ name. name.now) c.loop-name.rest.now in
    let name = c.in-Some.name.now.now in
    let after = map (λ name. name.now) c.in-Some.after.now in
    let split : rest ≡ name ∷ after = ap (λ l. map (λ name. name.now) l) c.in-Some.ensures.cases.0 in
    let all = length-map c.args.names.now (λ name. name.now) in
    let others = length-map c.loop-name.rest.now (λ name. name.now) in
    let count : length names - length rest ≡ length c.args.names.now - length c.loop-name.rest.now = omega (arith, all, others) in
    subst (LacksFirst told names) count
    (read_lacks told names rest c.loop-name.texts c.loop-name.room name after c.loop-name.invariant.read split
    (subst (λ t. Lacks t name) c.loop-name.invariant.same (c.read_next.ensures.absent (c.in-Err.is ∙ ap Err same))))

pub loop-name-preserved : goal.loop-name-preserved
loop-name-preserved g c =
    let told = g.F.Files.told c.args.files.now in
    let names = map (λ name. name.now) c.args.names.now in
    let rest = map (λ name. name.now) c.loop-name.rest.now in
    let name = c.in-Some.name.now.now in
    let after = map (λ name. name.now) c.in-Some.after.now in
    let split : rest ≡ name ∷ after = ap (λ l. map (λ name. name.now) l) c.in-Some.ensures.cases.0 in
    let adds : AddsFile told name c.loop-name.room c.loop-name.texts c.read_next.new.texts c.in-Ok.left = subst (λ t. AddsFile t name c.loop-name.room c.loop-name.texts c.read_next.new.texts c.in-Ok.left) c.loop-name.invariant.same c.in-Ok.ensures.added in
    record {
      read = subst (λ r. ReadUpTo told names (map (λ name. name.now) r) c.read_next.new.texts c.in-Ok.left) (sym c.same-rest.ensures)
          (read_more told names rest c.loop-name.texts c.read_next.new.texts c.loop-name.room c.in-Ok.left name after c.loop-name.invariant.read split adds);
      same = c.in-Ok.ensures.same ∙ c.loop-name.invariant.same;
      none_missing = c.in-Ok.ensures.none_missing (λ e. absurd cc) (λ e. absurd cc) ∙ c.loop-name.invariant.none_missing;
      no_fault = c.in-Ok.ensures.no_fault (λ e. absurd cc) (λ e. absurd cc) ∙ c.loop-name.invariant.no_fault;
    }
