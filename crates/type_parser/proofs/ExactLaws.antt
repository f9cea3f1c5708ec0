-- The trees of types and of formal parameters are unique, and those of the longest runs are read.
use Rattle.std.proofs.Common.{◌≡◌, ℕ, List, [], Ok}
use Rattle.p2c_text.specs.declared.dialect.Dialect.{Dialect}
use Rattle.p2c_text.specs.declared.place.Span.{Span}
use Rattle.pascal_tree.specs.declared.types.TypeNode.{TypeNode}
use Rattle.pascal_tree.specs.declared.declarations.Formals.{Formals}
use Rattle.expr_parser.specs.Tokens.{Placed}
use Rattle.expr_parser.specs.Layout.{IsWritten}
use Rattle.expr_parser.proofs.FollowedParts.{Part}
use Rattle.expr_parser.proofs.Unique as unique
use Rattle.type_parser.specs.Writing.{write_type, write_formals}
use Rattle.type_parser.specs.Grammar.{formed_type, formed_formals}
use Rattle.type_parser.specs.Levels.{type_node, formals}
use Rattle.type_parser.specs.Laws.{TypeIsUnique, LongestTypeIsRead, FormalsAreUnique, LongestFormalsAreRead}
use Rattle.type_parser.proofs.FollowedTypes.{type_ends_nothing}
use Rattle.type_parser.proofs.ExactFields.{type_exact}
use Rattle.type_parser.proofs.ExactFormals.{formals_exact}
use Rattle.type_parser.proofs.Clauses.{types_sound, types_follow, formals_are_sound, formals_follow}

types_exact : (d : Dialect) (end : Span) (levels : ℕ) (t : TypeNode) → Part (Unit {0}) levels (write_type t) (formed_type d t) → (s : List Placed) → IsWritten end (write_type t) s [] → type_node d end levels s ≡ Ok (t, [])
types_exact d end levels t part s h = type_exact d end levels t part s [] h type_ends_nothing

all_formals_exact : (end : Span) (levels : ℕ) (f : Formals) → Part (Unit {0}) levels (write_formals f) (formed_formals f) → (s : List Placed) → IsWritten end (write_formals f) s [] → formals end levels s ≡ Ok (f, [])
all_formals_exact end levels f part s h = formals_exact end levels f part s [] h

pub type_is_unique : TypeIsUnique
type_is_unique d end m n a b from rest h k = unique.derived_is_unique d write_type (formed_type d) (type_node d) (types_exact d) end m n a b from rest h k

pub longest_type_is_read : LongestTypeIsRead
longest_type_is_read d end levels from run rest t known longest tree =
    unique.longest_is_read d write_type (formed_type d) (type_node d) (types_exact d) end levels (types_sound d end levels) (types_follow d end levels) from run rest t known longest tree

pub formals_are_unique : FormalsAreUnique
formals_are_unique d end m n a b from rest h k = unique.derived_is_unique d write_formals formed_formals formals all_formals_exact end m n a b from rest h k

pub longest_formals_are_read : LongestFormalsAreRead
longest_formals_are_read d end levels from run rest f known longest tree =
    unique.longest_is_read d write_formals formed_formals formals all_formals_exact end levels (formals_are_sound d end levels) (formals_follow end levels) from run rest f known longest tree
