-- The parsers of types and of formal parameters where their text is all.
use Rattle.std.proofs.Common.{ℕ, List, [], arith}
use Rattle.p2c_text.specs.declared.dialect.Dialect.{Dialect}
use Rattle.p2c_text.specs.declared.place.Span.{Span}
use Rattle.pascal_tree.specs.declared.types.TypeNode.{TypeNode}
use Rattle.pascal_tree.specs.declared.declarations.Formals.{Formals}
use Rattle.expr_parser.specs.Tokens.{Placed, plain}
use Rattle.expr_parser.specs.Grammar.{AreTokens}
use Rattle.expr_parser.proofs.Layouts.{spell}
use Rattle.expr_parser.proofs.Followed.{Until, Along, Followed}
use Rattle.expr_parser.proofs.FollowedParts.{Part}
use Rattle.expr_parser.proofs.Openings.{whole}
use Rattle.expr_parser.proofs.Spots.{Answer, Reads}
use Rattle.expr_parser.proofs.Longest.{first_spot, first_hole}
use Rattle.type_parser.specs.Writing.{write_type, write_formals}
use Rattle.type_parser.specs.Grammar.{formed_type, formed_formals}
use Rattle.type_parser.specs.Levels.{type_node, formals}
use Rattle.type_parser.proofs.FollowedTypes.{type_ends_nothing}
use Rattle.type_parser.proofs.FollowedFields.{type_followed}
use Rattle.type_parser.proofs.FollowedFormals.{formals_followed}
use Rattle.type_parser.proofs.SoundFields.{type_sound}
use Rattle.type_parser.proofs.SoundFormals.{formals_sound}

pub types_sound : (d : Dialect) (end : Span) (levels outer : ℕ) (from : List Placed) → AreTokens d (plain from)
    → Answer d write_type (formed_type d) end outer levels from (Reads d write_type (formed_type d) end outer levels from write_type (formed_type d) levels from) (type_node d end levels from)
types_sound d end levels outer from known =
    type_sound d write_type (formed_type d) end outer levels from known levels whole from (first_spot d write_type (formed_type d) end outer levels from) (first_hole d write_type (formed_type d)) (omega arith)

pub types_follow : (d : Dialect) (end : Span) (levels : ℕ) (n : Until) (W : Type 0) (t : TypeNode) → Part W levels (write_type t) (formed_type d t) → (s : List Placed) → Along n (spell (write_type t) []) s → Followed n W [] (type_node d end levels s)
types_follow d end levels n W t part s h = type_followed n W d end levels t part [] type_ends_nothing s h

pub formals_are_sound : (d : Dialect) (end : Span) (levels outer : ℕ) (from : List Placed) → AreTokens d (plain from)
    → Answer d write_formals formed_formals end outer levels from (Reads d write_formals formed_formals end outer levels from write_formals formed_formals levels from) (formals end levels from)
formals_are_sound d end levels outer from known =
    formals_sound d write_formals formed_formals end outer levels from known levels whole from (first_spot d write_formals formed_formals end outer levels from) (first_hole d write_formals formed_formals) (omega arith)

pub formals_follow : (end : Span) (levels : ℕ) (n : Until) (W : Type 0) (f : Formals) → Part W levels (write_formals f) (formed_formals f) → (s : List Placed) → Along n (spell (write_formals f) []) s → Followed n W [] (formals end levels s)
formals_follow end levels n W f part s h = formals_followed n W end levels f part [] s h
