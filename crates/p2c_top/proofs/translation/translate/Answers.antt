use Rattle.std.proofs.Common.{map, length, ap, sym, subst, arith}
use Rattle.std.proofs.lemmas.List.{length-map}
use Rattle.p2c_outside.specs.Told.{Gains}
use Rattle.held_bytes.specs.Written.{GainsPart}
use Rattle.p2c_top.specs.Answers.{TranslationAnswer}
use Rattle.p2c_top.specs.Reading.{AreTexts}
use Rattle.p2c_top.proofs.Translations.{as_many, refused_with, written_answer}
use Rattle.p2c_top.proofs.translation.translate.Goals as goal

pub translate-requires-clause-some : goal.translate-requires-clause-some
translate-requires-clause-some g c =
    let many = as_many (g.F.Files.told c.args.files.now) (map (λ name. name.now) c.args.names.now) c.in-Ok.texts c.in-Ok.ensures.whole in
    let named = length-map c.args.names.now (λ name. name.now) in
    let items = ap length c.into_vec-files.ensures in
    let some = c.requires.some in
    omega (arith, many, named, items, some)

pub translate-requires-clause-few : goal.translate-requires-clause-few
translate-requires-clause-few g c =
    let many = as_many (g.F.Files.told c.args.files.now) (map (λ name. name.now) c.args.names.now) c.in-Ok.texts c.in-Ok.ensures.whole in
    let named = length-map c.args.names.now (λ name. name.now) in
    let items = ap length c.into_vec-files.ensures in
    let few = c.requires.few in
    omega (arith, many, named, items, few)

pub returns-in-Ok-translate-clause-answer : goal.returns-in-Ok-translate-clause-answer
returns-in-Ok-translate-clause-answer g c =
    let told = g.F.Files.told c.args.files.now in
    let names = map (λ name. name.now) c.args.names.now in
    let old = g.O.Sink.written c.args.out.now in
    let new = g.O.Sink.written c.written.new.out in
    written_answer told c.args.dialect names c.into_vec-files.result.items c.in-Ok-translate.text.items old new c.written.result
    (subst (AreTexts told names) (sym c.into_vec-files.ensures) c.in-Ok.ensures.whole) c.in-Ok-translate.ensures.ok c.written.ensures.either
    (λ e. subst (Gains old new) c.deref.ensures.value (c.written.ensures.done e)) (λ e. subst (GainsPart old new) c.deref.ensures.value (c.written.ensures.cut e))

pub returns-clause-answer : goal.returns-clause-answer
returns-clause-answer g c =
    let told = g.F.Files.told c.args.files.now in
    let names = map (λ name. name.now) c.args.names.now in
    let old = g.O.Sink.written c.args.out.now in
    subst (TranslationAnswer told c.args.dialect names old old) (sym c.answer_to.ensures)
    (refused_with told c.args.dialect names c.into_vec-files.result.items old c.in-Err-translate.refusal
    (subst (AreTexts told names) (sym c.into_vec-files.ensures) c.in-Ok.ensures.whole) c.in-Err-translate.ensures.err)
