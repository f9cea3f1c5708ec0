use Rattle.std.proofs.Common.{◌≡◌, true, Result, Ok, Err, [], take, drop, refl, sym, ap, subst, ◌∙◌, arith, rules}
use Rattle.std.specs.Prelude.{is_ok, OnOk}
use Rattle.dialect_lexer.specs.Patterns.{IsPiece}
use Rattle.dialect_lexer.specs.Tokens.{nothing, line_ends, line_ends_of}
use Rattle.dialect_lexer.proofs.LineEnds.{counted}
use Rattle.dialect_lexer.proofs.Cutting.{first_and_after, turn, drop_then, line_then}
use Rattle.dialect_lexer.proofs.lexing.tokens.Goals as goal

on_ok : {T E : Type 0} (r : Result T E) (P : Type 0) → OnOk r P → is_ok r ≡ true → P
on_ok (Ok x) P h e = h
on_ok (Err x) P h e = absurd cc

pub loop-rest-init : goal.loop-rest-init
loop-rest-init c = record {
  cut = ([], nothing 0 c.args.bytes.now, c.in_ok-tokens.ensures);
  rest = refl;
  within = omega arith;
  line = refl;
  small = omega arith;
}

pub loop-rest-preserved : goal.loop-rest-preserved
loop-rest-preserved c =
    let put = on_ok c.put_piece.result _ c.put_piece.ensures (sym c.map_err.ensures.variant ∙ ap is_ok c.in_ok-map_err.was) in
    let here = subst (λ w. IsPiece c.args.dialect w c.in-Ok.piece.len c.in-Ok.piece.kind) (first_and_after c.loop-rest.rest.now c.in-len1-up.len_at_least) c.in-Ok.ensures in
    let i = c.loop-rest.invariant in
    let bytes = c.args.bytes.now in
    let n = c.in-Ok.piece.len in
    let lines = line_then bytes c.loop-rest.start n in
    let all = c.line_ends_of.ensures.value ∙ ap (λ w. line_ends_of c.in-Ok.piece.kind w) c.split_at.ensures.front ∙ counted c.args.dialect c.loop-rest.rest.now n c.in-Ok.piece.kind here
    ∙ ap (λ w. line_ends (take n w)) i.rest in
    record {
      cut = turn c.args.dialect c.args.file bytes c.loop-rest.rest.now c.split_at.result.1.now c.loop-rest.tokens.items c.put_piece.new.tokens.items c.loop-rest.start c.loop-rest.line n
          c.in-Ok.piece.kind i.cut i.within i.line here put c.split_at.ensures.back;
      rest = c.split_at.ensures.back ∙ ap (λ w. drop n w) i.rest ∙ drop_then c.loop-rest.start n bytes;
      within = search rules;
      line = omega (arith, lines, all, i.line);
      small = search rules;
    }
