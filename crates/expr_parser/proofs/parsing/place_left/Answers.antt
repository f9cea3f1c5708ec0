use Rattle.std.proofs.Common.{◌≡◌, ap, ◌∙◌, ◌-◌, length, drop, arith}
use Rattle.expr_parser.specs.Tokens.{seen}
use Rattle.expr_parser.specs.Spans.{next_place}
use Rattle.expr_parser.proofs.Turns.{seen_rest, seen_length}
use Rattle.expr_parser.proofs.parsing.place_left.Goals as goal

pub returns : goal.returns
returns c =
    let bytes = c.args.source.now.bytes.now in
    let tokens = c.args.tokens.now in
    let long = seen_length bytes tokens in
    let before : c.saturating_sub-before.result ≡ length (seen bytes tokens) - c.args.left = omega (arith, long) in
    c.next_place.ensures ∙ ap (next_place c.args.source.now.end) (seen_rest bytes c.saturating_sub-before.result tokens) ∙ ap (λ n. next_place c.args.source.now.end (drop n (seen bytes tokens))) before
