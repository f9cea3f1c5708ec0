-- Types that are written are read.
use Rattle.std.proofs.Common.{◌≡◌, ℕ, suc, Bool, true, false, not, List, [], ◌∷◌, map, Option, Some, None, Ok, refl, ap, ◌∙◌}
use Rattle.p2c_text.specs.declared.dialect.Dialect.{Dialect}
use Rattle.p2c_text.specs.declared.place.Span.{Span}
use Rattle.dialect_lexer.specs.declared.token.Word.TheVariants as word_
use Rattle.dialect_lexer.specs.declared.token.Symbol.TheVariants as mark
use Rattle.pascal_tree.specs.declared.names.Identifier.{Identifier}
use Rattle.pascal_tree.specs.declared.constants.Sign.TheVariants as a_sign
use Rattle.pascal_tree.specs.declared.constants.Constant.{Constant}
use Rattle.pascal_tree.specs.declared.constants.Constant.TheVariants as a_constant
use Rattle.pascal_tree.specs.declared.types.TypeNode.{TypeNode}
use Rattle.pascal_tree.specs.declared.types.TypeNode.TheVariants as node
use Rattle.pascal_tree.specs.declared.types.Struct.{Struct}
use Rattle.pascal_tree.specs.declared.types.Struct.TheVariants as struct_
use Rattle.pascal_tree.specs.declared.types.Fields.{Fields}
use Rattle.token_parsing.specs.Parser.{Parser, begins, rest}
use Rattle.expr_parser.specs.Tokens.{Placed, plain}
use Rattle.expr_parser.specs.Layout.{Layout, Done, ◌&◌, word, symbol, with_commas, IsWritten}
use Rattle.expr_parser.specs.Grammar.{some_all}
use Rattle.expr_parser.specs.Writing.{identifier}
use Rattle.expr_parser.specs.Classes.{identifiers, words, symbols, same_word, same_symbol}
use Rattle.expr_parser.specs.ConstantNodes.{write_constant}
use Rattle.expr_parser.proofs.Layouts.{spell}
use Rattle.expr_parser.proofs.Lookahead.{looks_name, looks_word, looks_symbol, on_word, on_symbol, on_symbol_here, says_word, says_symbol}
use Rattle.expr_parser.proofs.Followed.{on_first}
use Rattle.expr_parser.proofs.FollowedParts.{Part, part_as, part_first, part_second, part_left, part_right, part_inside, part_counted}
use Rattle.expr_parser.proofs.Exact.{written_as, written_split, written_inside, written_inside_both, written_under, written_plain, ends_plain, name_rest, exact_then, exact_part, exact_token, exact_name, exact_made, exact_first, exact_second, looks_plain, looks_written}
use Rattle.expr_parser.proofs.ExactLists.{commas_exact}
use Rattle.expr_parser.proofs.ExactConstants.{constant_exact}
use Rattle.type_parser.specs.Writing.{write_names, optional_word, optional_limit as write_limit, write_struct, write_type, write_fields}
use Rattle.type_parser.specs.Grammar.{formed_struct, formed_type, formed_fields}
use Rattle.type_parser.specs.Types.{pointer, enumeration, subrange, named, optional_limit, string_type, begins_name_alone, simple_type, of_type, next_type, more_types, types, indexes, array, record_type, set_type, file_type, structure, optional_packed, structured, struct_words, type_by}
use Rattle.type_parser.proofs.WrittenNodes.{write_struct_array, write_struct_record, write_struct_set, write_struct_file, write_type_structured, write_type_pointer, write_type_enumeration, write_type_subrange, write_type_named, write_type_string}
use Rattle.type_parser.proofs.FormedNodes.{formed_struct_array, formed_struct_record, formed_struct_set, formed_type_structured, formed_type_enumeration, formed_struct_file}
use Rattle.type_parser.proofs.Views.{type_cases, struct_cases}
use Rattle.type_parser.proofs.FollowedNames.{first_false, second_false, both_true}
use Rattle.type_parser.proofs.FollowedTypes.{TypeEnds, marks_end, Closing, at_end, on_struct, looks_struct, struct_starts}
use Rattle.type_parser.proofs.ExactNames.{names_exact}

-- ---- what it is to read the types and lists of fields that are written

module _ (d : Dialect) (end : Span) (k : ℕ) where
  abbrev pub TypeExact : Parser Placed TypeNode → Type 0
  TypeExact p = (t : TypeNode) → Part (Unit {0}) k (write_type t) (formed_type d t) → (s r : List Placed) → IsWritten end (write_type t) s r → TypeEnds (plain r) → p s ≡ Ok (t, r)

  abbrev pub FieldsExact : Parser Placed Fields → Type 0
  FieldsExact p = (f : Fields) → Part (Unit {0}) k (write_fields f) (formed_fields d f) → (s r : List Placed) → IsWritten end (write_fields f) s r → Closing (plain r) → p s ≡ Ok (f, r)

-- ---- constants of subranges

-- no other type begins so
record NoOther (s : List Placed) : Type 0 where
  structure : begins struct_words s ≡ false
  name : begins_name_alone s ≡ false
  caret : begins (symbols mark.Caret) s ≡ false
  open_ : begins (symbols mark.Open) s ≡ false
  string : begins (words word_.KwString) s ≡ false

module _ (end : Span) (s r : List Placed) where
  -- what begins with no name
  no_other : (l : Layout) → on_first on_struct (spell l (plain r)) ≡ false → begins identifiers s ≡ false → on_first (on_symbol mark.Caret) (spell l (plain r)) ≡ false → on_first (on_symbol mark.Open) (spell l (plain r)) ≡ false
      → on_first (on_word word_.KwString) (spell l (plain r)) ≡ false → IsWritten end l s r → NoOther s
  no_other l a b c e f h = record {
    structure = looks_written looks_struct end l s r h ∙ a;
    name = first_false _ _ b;
    caret = looks_written (looks_symbol mark.Caret) end l s r h ∙ c;
    open_ = looks_written (looks_symbol mark.Open) end l s r h ∙ e;
    string = looks_written (looks_word word_.KwString) end l s r h ∙ f;
  }

  abbrev range : Constant → Constant → Layout
  range a b = write_constant a & symbol mark.DotDot & write_constant b

  dots_behind : (i : Identifier) (b : Constant) (m : List Placed) → IsWritten end (identifier i) s m → IsWritten end (symbol mark.DotDot & write_constant b) m r → begins_name_alone s ≡ false
  dots_behind i b m name h =
      let dots : begins (symbols mark.DotDot) (rest s) ≡ true = ap (begins (symbols mark.DotDot)) (name_rest end i s m name) ∙ looks_written (looks_symbol mark.DotDot) end (symbol mark.DotDot & write_constant b) m r h ∙ on_symbol_here mark.DotDot in
      second_false (begins identifiers s) _ (ap not dots)

  range_of_name : (i : Identifier) (span : Span) (b : Constant) → IsWritten end (range (a_constant.Name None i span) b) s r → NoOther s
  unfolding same_symbol same_word
  range_of_name i span b h =
      let l = range (a_constant.Name None i span) b in let (m, first, others) = written_split end (write_constant (a_constant.Name None i span)) (symbol mark.DotDot & write_constant b) s r h in
      let name = written_inside end span (identifier i) s m first in record {
        structure = looks_written looks_struct end l s r h;
        name = dots_behind i b m name.1 others;
        caret = looks_written (looks_symbol mark.Caret) end l s r h;
        open_ = looks_written (looks_symbol mark.Open) end l s r h;
        string = looks_written (looks_word word_.KwString) end l s r h;
      }

  range_alone : (a b : Constant) → IsWritten end (range a b) s r → NoOther s
  unfolding same_symbol same_word
  range_alone (a_constant.Number None v span) b h = let l = range (a_constant.Number None v span) b in no_other l refl (looks_written looks_name end l s r h) refl refl refl h
  range_alone (a_constant.Number (Some a_sign.Plus) v span) b h = let l = range (a_constant.Number (Some a_sign.Plus) v span) b in no_other l refl (looks_written looks_name end l s r h) refl refl refl h
  range_alone (a_constant.Number (Some a_sign.Minus) v span) b h = let l = range (a_constant.Number (Some a_sign.Minus) v span) b in no_other l refl (looks_written looks_name end l s r h) refl refl refl h
  range_alone (a_constant.Name None i span) b h = range_of_name i span b h
  range_alone (a_constant.Name (Some a_sign.Plus) i span) b h = let l = range (a_constant.Name (Some a_sign.Plus) i span) b in no_other l refl (looks_written looks_name end l s r h) refl refl refl h
  range_alone (a_constant.Name (Some a_sign.Minus) i span) b h = let l = range (a_constant.Name (Some a_sign.Minus) i span) b in no_other l refl (looks_written looks_name end l s r h) refl refl refl h
  range_alone (a_constant.Text bs span) b h = let l = range (a_constant.Text bs span) b in no_other l refl (looks_written looks_name end l s r h) refl refl refl h

module _ (d : Dialect) (end : Span) (k : ℕ) (child : Parser Placed TypeNode) (good : TypeExact d end k child) (inner : Parser Placed Fields) (inner_good : FieldsExact d end k inner) where
  -- ---- types without types in them

  abbrev TypeRead : TypeNode → Type 0
  TypeRead t = Part (Unit {0}) (suc k) (write_type t) (formed_type d t) → (s r : List Placed) → IsWritten end (write_type t) s r → TypeEnds (plain r) → type_by end child inner s ≡ Ok (t, r)

  named_read : (i : Identifier) → TypeRead (node.Name i)
  unfolding type_by simple_type named
  named_read i part s r h ends =
      let l = identifier i in
      let inside = written_under end l s r (written_as end s r (write_type_named i) h) in
      let dots : begins (symbols mark.DotDot) (rest s) ≡ false = ap (begins (symbols mark.DotDot)) (name_rest end i s r inside) ∙ looks_plain (looks_symbol mark.DotDot) r ∙ ends.dots in
      exact_second _ _ _ (looks_written looks_struct end l s r inside) (exact_first (begins_name_alone s) _ _ (both_true _ _ (looks_written looks_name end l s r inside) (ap not dots))
      (exact_name _ i end Done s r inside (λ m h. ap (λ z. Ok (node.Name i, z)) h)))

  pointer_read : (domain : Identifier) (span : Span) → TypeRead (node.Pointer domain span)
  unfolding type_by simple_type pointer same_symbol
  pointer_read domain span part s r h ends =
      let l = symbol mark.Caret & identifier domain in
      let (place, inside) = written_inside_both end span l s r (written_as end s r (write_type_pointer domain span) h) in
      exact_second _ _ _ (looks_written looks_struct end l s r inside) (exact_second (begins_name_alone s) _ _ (first_false _ _ (looks_written looks_name end l s r inside)) (exact_first _ _ _ (looks_written (looks_symbol mark.Caret) end l s r inside)
      (exact_token _ (symbols mark.Caret) (says_symbol mark.Caret) end (identifier domain) s r inside (λ m h.
      exact_name _ domain end Done m r h (λ m h. exact_made end span (node.Pointer domain) s m r h refl place)))))

  enumeration_read : (names : List Identifier) (span : Span) → TypeRead (node.Enumeration names span)
  unfolding type_by simple_type enumeration same_symbol
  enumeration_read names span part s r h ends =
      let list = write_names names in let close = symbol mark.Close in let l = symbol mark.Open & list & close in
      let p = part_as (write_type_enumeration names span) (formed_type_enumeration d names span) part in
      let (place, inside) = written_inside_both end span l s r (written_as end s r (write_type_enumeration names span) h) in
      exact_second _ _ _ (looks_written looks_struct end l s r inside) (exact_second (begins_name_alone s) _ _ (first_false _ _ (looks_written looks_name end l s r inside)) (exact_second _ _ _ (looks_written (looks_symbol mark.Caret) end l s r inside)
      (exact_first _ _ _ (looks_written (looks_symbol mark.Open) end l s r inside)
      (exact_token _ (symbols mark.Open) (says_symbol mark.Open) end (list & close) s r inside (λ m h.
      exact_part _ names end list close m r h (λ m' left right. names_exact end names p.formed m m' left (ap (on_first (on_symbol mark.Comma)) (written_plain end close m' r right))) (λ m h.
      exact_token _ (symbols mark.Close) (says_symbol mark.Close) end Done m r h (λ m h. exact_made end span (node.Enumeration names) s m r h refl place)))))))

  limit_exact : (c : Option Constant) (s r : List Placed) → IsWritten end (write_limit c) s r → on_first (on_symbol mark.OpenBracket) (plain r) ≡ false → optional_limit end s ≡ Ok (c, r)
  unfolding optional_limit
  limit_exact None s r h ends = exact_second _ _ _ (looks_written (looks_symbol mark.OpenBracket) end Done s r h ∙ ends) (ap (λ z. Ok (None, z)) h)
  limit_exact (Some c) s r h ends =
      let close = symbol mark.CloseBracket in
      exact_first _ _ _ (looks_written (looks_symbol mark.OpenBracket) end (symbol mark.OpenBracket & write_constant c & close) s r h ∙ on_symbol_here mark.OpenBracket)
      (exact_token _ (symbols mark.OpenBracket) (says_symbol mark.OpenBracket) end (write_constant c & close) s r h (λ m h.
      exact_part _ c end (write_constant c) close m r h (λ m' left right. constant_exact end c m m' left) (λ m h.
      exact_token _ (symbols mark.CloseBracket) (says_symbol mark.CloseBracket) end Done m r h (λ m h. ap (λ z. Ok (Some c, z)) h))))

  string_read : (c : Option Constant) (span : Span) → TypeRead (node.String c span)
  unfolding type_by simple_type string_type same_symbol same_word
  string_read c span part s r h ends =
      let l = word word_.KwString & write_limit c in
      let (place, inside) = written_inside_both end span l s r (written_as end s r (write_type_string c span) h) in
      exact_second _ _ _ (looks_written looks_struct end l s r inside) (exact_second (begins_name_alone s) _ _ (first_false _ _ (looks_written looks_name end l s r inside)) (exact_second _ _ _ (looks_written (looks_symbol mark.Caret) end l s r inside)
      (exact_second _ _ _ (looks_written (looks_symbol mark.Open) end l s r inside) (exact_first _ _ _ (looks_written (looks_word word_.KwString) end l s r inside)
      (exact_token _ (words word_.KwString) (says_word word_.KwString) end (write_limit c) s r inside (λ m h.
      exact_then _ (limit_exact c m r h ends.limit) (exact_made end span (node.String c) s r r refl refl place)))))))

  subrange_read : (a b : Constant) (span : Span) → TypeRead (node.Subrange a b span)
  unfolding type_by simple_type subrange
  subrange_read a b span part s r h ends =
      let dots = symbol mark.DotDot & write_constant b in
      let (place, inside) = written_inside_both end span (write_constant a & dots) s r (written_as end s r (write_type_subrange a b span) h) in
      let none = range_alone end s r a b inside in
      exact_second _ _ _ none.structure (exact_second (begins_name_alone s) _ _ none.name (exact_second _ _ _ none.caret (exact_second _ _ _ none.open_ (exact_second _ _ _ none.string
      (exact_part _ a end (write_constant a) dots s r inside (λ m left right. constant_exact end a s m left) (λ m h.
      exact_token _ (symbols mark.DotDot) (says_symbol mark.DotDot) end (write_constant b) m r h (λ m h.
      exact_then _ (constant_exact end b m r h) (exact_made end span (node.Subrange a b) s r r refl refl place))))))))

  -- ---- types with types in them

  abbrev StructRead : Struct → Type 0
  StructRead x = Part (Unit {0}) k (write_struct x) (formed_struct d x) → (s r : List Placed) → IsWritten end (write_struct x) s r → TypeEnds (plain r) → structure end child inner s ≡ Ok (x, r)

  of_type_exact : (t : TypeNode) → Part (Unit {0}) k (write_type t) (formed_type d t) → (s r : List Placed) → IsWritten end (word word_.KwOf & write_type t) s r → TypeEnds (plain r) → of_type child s ≡ Ok (t, r)
  unfolding of_type
  of_type_exact t part s r h ends = exact_token (λ _. child) (words word_.KwOf) (says_word word_.KwOf) end (write_type t) s r h (λ m h. good t part m r h ends)

  types_exact : (ts : List TypeNode) → Part (Unit {0}) k (with_commas (map write_type ts)) (some_all (map (formed_type d) ts)) → (s r : List Placed) → IsWritten end (with_commas (map write_type ts)) s r → TypeEnds (plain r)
      → on_first (on_symbol mark.Comma) (plain r) ≡ false → types child s ≡ Ok (ts, r)
  unfolding types more_types next_type
  types_exact [] part s r h ends closed = let none = part.formed in absurd cc
  types_exact (t ∷ ts) part s r h ends closed = commas_exact end k write_type (formed_type d) child TypeEnds (λ w. (marks_end w).0) good t ts part s r h ends closed

  indexes_exact : (ts : List TypeNode) → Part (Unit {0}) k (with_commas (map write_type ts)) (some_all (map (formed_type d) ts)) → (after : Layout) (s r : List Placed)
      → IsWritten end (symbol mark.OpenBracket & with_commas (map write_type ts) & symbol mark.CloseBracket & after) s r → (m : List Placed) × IsWritten end after m r × (indexes child s ≡ Ok (ts, m))
  unfolding indexes same_symbol
  indexes_exact ts part after s r (first, more, is, same, h) =
      let list = with_commas (map write_type ts) in let close = symbol mark.CloseBracket & after in
      let (m, left, (last, m', is', same', right)) = written_split end list close more r h in
      let closing : IsWritten end close m r = (last, m', is', same', right) in (
        m',
        right,
        exact_token _ (symbols mark.OpenBracket) (says_symbol mark.OpenBracket) end list s m (first, more, is, same, left) (λ n h.
            exact_then _ (types_exact ts part n m h (ends_plain TypeEnds end close m r closing (marks_end _).1) (ap (on_first (on_symbol mark.Comma)) (written_plain end close m r closing)))
            (exact_token _ (symbols mark.CloseBracket) (says_symbol mark.CloseBracket) end Done m m' (last, m', is', same', refl) (λ n h. ap (λ z. Ok (ts, z)) h))),
      )

  array_read : (ts : List TypeNode) (t : TypeNode) (span : Span) → StructRead (struct_.Array ts t span)
  unfolding structure array same_word
  array_read ts t span part s r h ends =
      let list = with_commas (map write_type ts) in let of = word word_.KwOf & write_type t in let last = symbol mark.CloseBracket & of in let l = word word_.KwArray & symbol mark.OpenBracket & list & last in
      let p = part_right (word word_.KwArray & symbol mark.OpenBracket) (list & last) (part_inside _ (part_as (write_struct_array ts t span) (formed_struct_array d ts t span) part)) in
      let q = part_second list last (some_all (map (formed_type d) ts)) (formed_type d t) p in
      let (place, inside) = written_inside end span l s r (written_as end s r (write_struct_array ts t span) h) in
      exact_first _ _ _ (looks_written (looks_word word_.KwArray) end l s r inside)
      (exact_token _ (words word_.KwArray) (says_word word_.KwArray) end (symbol mark.OpenBracket & list & last) s r inside (λ m h.
      let (m', after, is) = indexes_exact ts (part_first list last (some_all (map (formed_type d) ts)) (formed_type d t) p) of m r h in
      exact_then _ is (exact_then _ (of_type_exact t (part_right (symbol mark.CloseBracket & word word_.KwOf) (write_type t) q) m' r after ends) (exact_made end span (struct_.Array ts t) s r r refl refl place))))

  record_read : (f : Fields) (span : Span) → StructRead (struct_.Record f span)
  unfolding structure record_type same_word
  record_read f span part s r h ends =
      let close = word word_.KwEnd in let l = word word_.KwRecord & write_fields f & close in
      let p = part_left (write_fields f) close (part_right (word word_.KwRecord) (write_fields f & close) (part_inside _ (part_as (write_struct_record f span) (formed_struct_record d f span) part))) in
      let (place, inside) = written_inside end span l s r (written_as end s r (write_struct_record f span) h) in
      exact_second _ _ _ (looks_written (looks_word word_.KwArray) end l s r inside) (exact_first _ _ _ (looks_written (looks_word word_.KwRecord) end l s r inside)
      (exact_token _ (words word_.KwRecord) (says_word word_.KwRecord) end (write_fields f & close) s r inside (λ m h.
      exact_part _ f end (write_fields f) close m r h (λ m' left right. inner_good f p m m' left (ends_plain Closing end close m' r right (at_end _))) (λ m h.
      exact_token _ (words word_.KwEnd) (says_word word_.KwEnd) end Done m r h (λ m h. exact_made end span (struct_.Record f) s m r h refl place)))))

  set_read : (t : TypeNode) (span : Span) → StructRead (struct_.Set t span)
  unfolding structure set_type same_word
  set_read t span part s r h ends =
      let of = word word_.KwOf & write_type t in let l = word word_.KwSet & of in
      let p = part_right (word word_.KwSet & word word_.KwOf) (write_type t) (part_inside _ (part_as (write_struct_set t span) (formed_struct_set d t span) part)) in
      let (place, inside) = written_inside end span l s r (written_as end s r (write_struct_set t span) h) in
      exact_second _ _ _ (looks_written (looks_word word_.KwArray) end l s r inside) (exact_second _ _ _ (looks_written (looks_word word_.KwRecord) end l s r inside) (exact_first _ _ _ (looks_written (looks_word word_.KwSet) end l s r inside)
      (exact_token _ (words word_.KwSet) (says_word word_.KwSet) end of s r inside (λ m h.
      exact_then _ (of_type_exact t p m r h ends) (exact_made end span (struct_.Set t) s r r refl refl place)))))

  file_read : (t : TypeNode) (span : Span) → StructRead (struct_.File t span)
  unfolding structure file_type same_word
  file_read t span part s r h ends =
      let of = word word_.KwOf & write_type t in let l = word word_.KwFile & of in
      let p = part_right (word word_.KwFile & word word_.KwOf) (write_type t) (part_inside _ (part_as (write_struct_file t span) (formed_struct_file d t span) part)) in
      let (place, inside) = written_inside end span l s r (written_as end s r (write_struct_file t span) h) in
      exact_second _ _ _ (looks_written (looks_word word_.KwArray) end l s r inside) (exact_second _ _ _ (looks_written (looks_word word_.KwRecord) end l s r inside) (exact_second _ _ _ (looks_written (looks_word word_.KwSet) end l s r inside)
      (exact_token _ (words word_.KwFile) (says_word word_.KwFile) end of s r inside (λ m h.
      exact_then _ (of_type_exact t p m r h ends) (exact_made end span (struct_.File t) s r r refl refl place)))))

  struct_exact : (x : Struct) → StructRead x
  struct_exact x = struct_cases StructRead (record { array = array_read; fields = record_read; set = set_read; file = file_read }) x

  packed_exact : (packed : Bool) (x : Struct) (s m r : List Placed) → IsWritten end (optional_word word_.KwPacked packed) s m → IsWritten end (write_struct x) m r → optional_packed s ≡ Ok (packed, m)
  unfolding optional_packed same_word
  packed_exact true x s m r h others =
      exact_first _ _ _ (looks_written (looks_word word_.KwPacked) end (word word_.KwPacked) s m h) (exact_token _ (words word_.KwPacked) (says_word word_.KwPacked) end Done s m h (λ n h. ap (λ z. Ok (true, z)) h))
  packed_exact false x s m r h others =
      exact_second _ _ _ (ap (begins (words word_.KwPacked)) h ∙ looks_written (looks_word word_.KwPacked) end (write_struct x) m r others ∙ (struct_starts x (plain r)).packed) (ap (λ z. Ok (false, z)) h)

  is_structured : (packed : Bool) (x : Struct) (s r : List Placed) → IsWritten end (optional_word word_.KwPacked packed & write_struct x) s r → begins struct_words s ≡ true
  is_structured true x s r h = looks_written looks_struct end (word word_.KwPacked & write_struct x) s r h
  is_structured false x s r h = looks_written looks_struct end (write_struct x) s r h ∙ (struct_starts x (plain r)).structure

  structured_read : (packed : Bool) (x : Struct) (span : Span) → TypeRead (node.Structured packed x span)
  unfolding type_by structured
  structured_read packed x span part s r h ends =
      let first = optional_word word_.KwPacked packed in
      let p = part_right first (write_struct x) (part_inside _ (part_counted _ (part_as (write_type_structured packed x span) (formed_type_structured d packed x span) part))) in
      let (place, inside) = written_inside_both end span (first & write_struct x) s r (written_as end s r (write_type_structured packed x span) h) in
      exact_first _ _ _ (is_structured packed x s r inside)
      (exact_part _ packed end first (write_struct x) s r inside (λ m left right. packed_exact packed x s m r left right) (λ m h.
      exact_then _ (struct_exact x p m r h ends) (exact_made end span (node.Structured packed x) s r r refl refl place)))

  pub type_by_exact : TypeExact d end (suc k) (type_by end child inner)
  type_by_exact t = type_cases TypeRead (record {
    structured = structured_read;
    pointer = pointer_read;
    enumeration = enumeration_read;
    subrange = subrange_read;
    named = named_read;
    string = string_read;
  }) t
