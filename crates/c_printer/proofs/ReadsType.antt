-- Types are printed as they are spelled.
use Rattle.std.proofs.Common.{ℕ, List, ◌∷◌, ◌++◌, Option, Some, None, refl, append_assoc}
use Rattle.std.specs.Option.{IfSome}
use Rattle.c_tree.specs.Tree.{ObjectType, Int, Word, Byte, Struct, Named, VoidPointer, Pointer}
use Rattle.c_grammar.specs.declared.token.Word.TheVariants as word
use Rattle.c_grammar.specs.declared.token.Mark.TheVariants as mark
use Rattle.c_grammar.specs.Token.{Token, Sign, is_name_byte}
use Rattle.c_grammar.specs.Spelling.{spell_type, spell_result}
use Rattle.c_grammar.specs.Grammar.{IsObjectType}
use Rattle.c_grammar.proofs.Longest.{Stops}
use Rattle.c_printer.specs.Text.{star_text, type_text, gap_text, result_text}
use Rattle.c_printer.proofs.ReadsToken.{Reads, space, name, quoted, star}

stops_star : (of : ObjectType) (after : List ℕ) → Stops is_name_byte (star_text of ++ after)
stops_star Int after = refl
stops_star Word after = refl
stops_star Byte after = refl
stops_star (Struct n) after = refl
stops_star (Named n) after = refl
stops_star VoidPointer after = refl
stops_star (Pointer to) after = refl

star_reads : (of : ObjectType) {after : List ℕ} {tokens : List Token} → Reads after tokens → Reads (star_text of ++ after) (Sign mark.Star ∷ tokens)
star_reads Int r = space (star r)
star_reads Word r = space (star r)
star_reads Byte r = space (star r)
star_reads (Struct n) r = space (star r)
star_reads (Named n) r = space (star r)
star_reads VoidPointer r = star r
star_reads (Pointer to) r = star r

pub type_reads : (of : ObjectType) {after : List ℕ} {tokens : List Token} → IsObjectType of → Stops is_name_byte after → Reads after tokens → Reads (type_text of ++ after) (spell_type of tokens)
type_reads Int h s r = quoted word.Int64Type s r
type_reads Word h s r = quoted word.Uint64Type s r
type_reads Byte h s r = quoted word.Unsigned refl (space (quoted word.Char s r))
type_reads (Struct n) h s r = quoted word.Struct refl (space (name n h s r))
type_reads (Named n) h s r = name n h s r
type_reads VoidPointer h s r = quoted word.Void refl (space (star r))
type_reads (Pointer to) h s r = simp append_assoc (type_reads to h (stops_star to _) (star_reads to r))

-- a type and what stands between it and the name that it gives
pub typed_reads : (of : ObjectType) {after : List ℕ} {tokens : List Token} → IsObjectType of → Reads after tokens → Reads (type_text of ++ (gap_text of ++ after)) (spell_type of tokens)
typed_reads Int h r = type_reads Int h refl (space r)
typed_reads Word h r = type_reads Word h refl (space r)
typed_reads Byte h r = type_reads Byte h refl (space r)
typed_reads (Struct n) h r = type_reads (Struct n) h refl (space r)
typed_reads (Named n) h r = type_reads (Named n) h refl (space r)
typed_reads VoidPointer h r = quoted word.Void refl (space (star r))
typed_reads (Pointer to) h r = simp append_assoc (type_reads to h (stops_star to _) (star_reads to r))

pub result_reads : (of : Option ObjectType) {after : List ℕ} {tokens : List Token} → IfSome of IsObjectType → Reads after tokens → Reads (result_text of ++ after) (spell_result of tokens)
result_reads None h r = quoted word.Void refl (space r)
result_reads (Some of) h r = simp append_assoc (typed_reads of h r)
