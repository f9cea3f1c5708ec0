-- The span of a node, by the tokens from its first one on and those after its last.
use Rattle.std.specs.Prelude.{ℕ, ◌-◌, nat_lt, true, false, List, [], ◌∷◌, length, Option, Some, None, slice_get}
use Rattle.std.specs.Option.{option_map}
use Rattle.p2c_text.specs.declared.place.Span.{Span}
use Rattle.expr_parser.specs.Tokens.{Placed}

-- where the next token stands, or the text ends
abbrev pub next_place : Span → List Placed → Span
next_place end [] = end
next_place end (t ∷ more) = t.span

abbrev pub last_of : List Placed → List Placed → Option Placed
last_of from rest = elim (nat_lt (length rest) (length from)) [ true ↦ slice_get from (length from - length rest - 1) | false ↦ None ]

abbrev pub up_to_end : Span → Option ℕ → Span
up_to_end first None = record first { end = first.start }
up_to_end first (Some end) = record first { end = end }

-- From the first token to the last before the rest. A node without tokens is empty at the next token, or at the end of the text.
unfoldable pub span_between : Span → List Placed → List Placed → Span
span_between end from rest = up_to_end (next_place end from) (option_map (λ (t : Placed). t.span.end) (last_of from rest))
