use Rattle.std.proofs.Common.{◌≡◌, ◌∙◌, ap, Some, length, arith}
use Rattle.std.specs.Prelude.{cond}
use Rattle.std.specs.Str.{bytes_eq}
use Rattle.c_cells.specs.Structs.{latest_in}
use Rattle.c_cells.proofs.LastStructs.{turned}
use Rattle.c_cells.proofs.structs.StructPlaces.note_name.Goals as goal

pub returns-clause-latest : goal.returns-clause-latest
returns-clause-latest c = λ x.
    let t = c.args.self.now in
    let count : c.len-place.result ≡ length t.earlier.items = omega (arith, t.earlier.ok.0) in
    c.in_ok-before.ensures.updates.0 x
    ∙ ap (λ n. cond (bytes_eq n x) (Some c.len-place.result) (latest_in t x)) c.in_ok-name.ensures
    ∙ ap (λ b. cond b (Some c.len-place.result) (latest_in t x)) (turned c.args.name.now x)
    ∙ ap (λ n. cond (bytes_eq x c.args.name.now) (Some n) (latest_in t x)) count
