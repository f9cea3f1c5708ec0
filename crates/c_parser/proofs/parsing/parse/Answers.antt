use Rattle.std.proofs.Common.{◌≡◌, Result, Err, subst, arith, rules}
use Rattle.std.proofs.lemmas.Grind.{common_steps}
use Rattle.token_parsing.specs.declared.refusal.Refusal.{Refusal}
use Rattle.token_parsing.specs.declared.refusal.Refusal.TheVariants.{Unexpected, TooDeep}
use Rattle.token_parsing.specs.declared.refusal.ParseError.{ParseError}
use Rattle.token_parsing.specs.declared.refusal.ParseError.TheVariants.{At}
use Rattle.token_parsing.specs.Parser.{Fails}
use Rattle.c_grammar.specs.Seen.{tokens_of}
use Rattle.c_parser.proofs.Shrinks.{unexpected_within, too_deep_within}
use Rattle.c_expr_parser.proofs.Turns.{as_long}
use Rattle.c_parser.proofs.parsing.parse.Goals as goal

refused : {Y : Type 0} (e : ParseError) (f : Refusal) (read : Result Y Refusal) → Fails e read → e ≡ At f → read ≡ Err f
refused e f read h is = subst (λ (e : ParseError). Fails e read) is h

pub before-requires : goal.before-requires
before-requires c =
    let is : c.in-Err-At-Unexpected.field-0 ≡ At (Unexpected c.in-Err-At-Unexpected.left) = first_of (cc, search rules, grind (arith, common_steps)) in
    let e = refused _ _ _ c.in-Err-At-Unexpected.ensures is in
    omega (arith, as_long c.args.tokens.now, unexpected_within (tokens_of c.args.tokens.now) c.in-Err-At-Unexpected.left e)

pub before-requires-in-Err-At-TooDeep : goal.before-requires-in-Err-At-TooDeep
before-requires-in-Err-At-TooDeep c =
    let is : c.in-Err-At-TooDeep.field-0 ≡ At (TooDeep c.in-Err-At-TooDeep.left) = first_of (cc, search rules, grind (arith, common_steps)) in
    let e = refused _ _ _ c.in-Err-At-TooDeep.ensures is in
    omega (arith, as_long c.args.tokens.now, too_deep_within (tokens_of c.args.tokens.now) c.in-Err-At-TooDeep.left e)

pub returns-in-Err-At-Unexpected : goal.returns-in-Err-At-Unexpected
returns-in-Err-At-Unexpected c =
    let is : c.in-Err-At-Unexpected.field-0 ≡ At (Unexpected c.in-Err-At-Unexpected.left) = first_of (cc, search rules, grind (arith, common_steps)) in
    let e = refused _ _ _ c.in-Err-At-Unexpected.ensures is in
    (c.in-Err-At-Unexpected.left, omega (arith, as_long c.args.tokens.now, unexpected_within (tokens_of c.args.tokens.now) c.in-Err-At-Unexpected.left e), e)

pub returns-in-Err-At-TooDeep : goal.returns-in-Err-At-TooDeep
returns-in-Err-At-TooDeep c =
    let is : c.in-Err-At-TooDeep.field-0 ≡ At (TooDeep c.in-Err-At-TooDeep.left) = first_of (cc, search rules, grind (arith, common_steps)) in
    let e = refused _ _ _ c.in-Err-At-TooDeep.ensures is in
    (c.in-Err-At-TooDeep.left, omega (arith, as_long c.args.tokens.now, too_deep_within (tokens_of c.args.tokens.now) c.in-Err-At-TooDeep.left e), e)
