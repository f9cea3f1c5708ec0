use Rattle.std.proofs.Common.{◌≡◌, ◌∙◌, sym, ap}
use Rattle.c_meaning.specs.Answer.{Got, Bad}
use Rattle.c_meaning.specs.Values.{as_word}
use Rattle.c_evaluation.proofs.Binary.{words_left, words_right}
use Rattle.c_cells.specs.Halts.{said}
use Rattle.c_evaluation.specs.Values.{value_of}
use Rattle.c_evaluation.specs.Operators.{of_words}
use Rattle.c_evaluation.proofs.operate.on_words.Goals as goal

pub returns-in-Ok-Err : goal.returns-in-Ok-Err
returns-in-Ok-Err c =
    let x = value_of c.args.x.now in
    let y = value_of c.args.y.now in
    let left : as_word x ≡ Got c.in-Ok-Err.field-0-0 = sym c.as_word.ensures ∙ ap (said (λ z. z)) c.in-Ok-Err.is-0 in
    let right : as_word y ≡ Bad c.in-Ok-Err.kind = sym c.as_word-2.ensures ∙ ap (said (λ z. z)) c.in-Ok-Err.is-1 in
    sym (words_right (of_words c.args.op) x y c.in-Ok-Err.field-0-0 c.in-Ok-Err.kind left right)

pub returns-in-Err-default : goal.returns-in-Err-default
returns-in-Err-default c =
    let x = value_of c.args.x.now in
    let left : as_word x ≡ Bad c.in-Err-default.kind = sym c.as_word.ensures ∙ ap (said (λ z. z)) c.in-Err-default.is-0 in
    sym (words_left (of_words c.args.op) x (value_of c.args.y.now) c.in-Err-default.kind left)
