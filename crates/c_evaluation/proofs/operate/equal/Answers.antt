use Rattle.std.proofs.Common.{◌≡◌, ◌∙◌, sym, ap, true}
use Rattle.c_meaning.specs.Answer.{Got, Bad}
use Rattle.c_meaning.specs.Types.{alike}
use Rattle.c_meaning.specs.Values.{leaf}
use Rattle.c_evaluation.proofs.Binary.{equal_left, equal_right, equal_both}
use Rattle.c_cells.specs.Halts.{said}
use Rattle.c_evaluation.specs.Values.{value_of, content_of, tree_in, type_in}
use Rattle.c_evaluation.proofs.operate.equal.Goals as goal

pub returns-in-Ok-Ok : goal.returns-in-Ok-Ok
returns-in-Ok-Ok c =
    let ds = c.args.scope.now.program.now.declarations in
    let x = value_of c.args.x.now in
    let y = value_of c.args.y.now in
    let same : alike ds (type_in x) (type_in y) ≡ true = cc in
    let left : leaf (tree_in x) ≡ Got (content_of c.in-Ok-Ok.a) = sym c.held.ensures ∙ ap (said content_of) c.in-Ok-Ok.is-0 in
    let right : leaf (tree_in y) ≡ Got (content_of c.in-Ok-Ok.b) = sym c.held-2.ensures ∙ ap (said content_of) c.in-Ok-Ok.is-1 in
    c.same_content.ensures ∙ sym (equal_both ds x y (content_of c.in-Ok-Ok.a) (content_of c.in-Ok-Ok.b) same left right)

pub returns-in-Ok-Err : goal.returns-in-Ok-Err
returns-in-Ok-Err c =
    let ds = c.args.scope.now.program.now.declarations in
    let x = value_of c.args.x.now in
    let y = value_of c.args.y.now in
    let same : alike ds (type_in x) (type_in y) ≡ true = cc in
    let left : leaf (tree_in x) ≡ Got (content_of c.in-Ok-Err.field-0-0) = sym c.held.ensures ∙ ap (said content_of) c.in-Ok-Err.is-0 in
    let right : leaf (tree_in y) ≡ Bad c.in-Ok-Err.kind = sym c.held-2.ensures ∙ ap (said content_of) c.in-Ok-Err.is-1 in
    sym (equal_right ds x y (content_of c.in-Ok-Err.field-0-0) c.in-Ok-Err.kind same left right)

pub returns-in-Err-default : goal.returns-in-Err-default
returns-in-Err-default c =
    let ds = c.args.scope.now.program.now.declarations in
    let x = value_of c.args.x.now in
    let y = value_of c.args.y.now in
    let same : alike ds (type_in x) (type_in y) ≡ true = cc in
    let left : leaf (tree_in x) ≡ Bad c.in-Err-default.kind = sym c.held.ensures ∙ ap (said content_of) c.in-Err-default.is-0 in
    sym (equal_left ds x y c.in-Err-default.kind same left)
