-- What the answers of the parts mean for a text with its tokens in two lists.
use Rattle.std.proofs.Common.{◌≡◌, ℕ, zero, suc, ◌<◌, ◌≤◌, Bool, true, false, ◌||◌, List, [], ◌∷◌, length, Some, Result, Ok, Err, refl, sym, ap, subst, IfOk, IfErr, arith}
use Rattle.std.specs.Prelude.{slice_get}
use Rattle.std.specs.List.{Contains}
use Rattle.c_tree.specs.declared.program.CProgram.{CProgram}
use Rattle.c_grammar.specs.declared.fault.CTextKind.{CTextKind}
use Rattle.c_grammar.specs.declared.fault.CTextKind.TheVariants as kind
use Rattle.c_grammar.specs.declared.token.Word.TheVariants as word
use Rattle.c_grammar.specs.Token.{Token, Quoted, Placed}
use Rattle.c_grammar.specs.Seen.{tokens_of, AreTokens}
use Rattle.c_grammar.specs.Demands.{program_demands}
use Rattle.c_grammar.specs.Text.{CText, Begins, Spells, plain}
use Rattle.c_grammar.proofs.UniqueTree.{same_text}
use Rattle.c_scanner.specs.declared.text.PlacedTokens.{PlacedTokens}
use Rattle.c_scanner.specs.Seen.{seen}
use Rattle.c_scanner.proofs.Places.{plain_places}
use Rattle.c_parser.specs.declared.fault.ParseFault.{ParseFault}
use Rattle.c_parser.specs.declared.fault.ParseFault.TheVariants as fault
use Rattle.c_parser.specs.Parsed.{IsParsed}
use Rattle.c_conditions.specs.Conditions.{HoldAllButLevels, FailsAt}
use Rattle.c_reader.specs.declared.fault.CTextFault.{CTextFault}
use Rattle.c_reader.specs.declared.fault.CTextFault.TheVariants.{At, Memory}
use Rattle.c_reader.specs.Main.{is_main, has_main}
use Rattle.c_reader.specs.Read.{line_at, IsCut, IsFault, IsTree}
use Rattle.c_reader.proofs.Fronts.{places_long, found_at}
use Rattle.c_reader.proofs.Refused.{ended, without_main, unexpected_at, too_deep_at, unexpected_end, too_deep_end, unexpected_end_begun, too_deep_end_begun, read_text, fails_at, fails_within}

pub token_of : (text : PlacedTokens) (token : ℕ) → token < length text.tokens.items → (t : Placed) × (slice_get (seen text) token ≡ Some t)
token_of text token h = found_at (seen text) token (omega (arith, places_long text.tokens.items text.places.items text.as_many))

-- ---- the word `main`

met : (t : Token) (tokens : List Token) → t ≡ Quoted word.Main → has_main (t ∷ tokens) ≡ false → ⊥
met t tokens is e = let here : has_main (t ∷ tokens) ≡ true = ap (λ u. has_main (u ∷ tokens)) is in absurd (cc)

rest : (t : Token) (tokens : List Token) → has_main (t ∷ tokens) ≡ false → has_main tokens ≡ false
rest t tokens e = by (is_main t) e
  where
    by : (b : Bool) → (b || has_main tokens) ≡ false → has_main tokens ≡ false
    by true h = absurd (cc)
    by false h = h

no_main : (tokens : List Token) → has_main tokens ≡ false → Contains tokens (Quoted word.Main) → ⊥
no_main [] e (k, h, at) = absurd (grind arith)
no_main (t ∷ tokens) e (zero, h, at) = absurd (met t tokens at e)
no_main (t ∷ tokens) e (suc k, h, at) = no_main tokens (rest t tokens e) (k, omega arith, at)

module _ (bytes : List ℕ) (text : PlacedTokens) (cut : IsCut bytes text) where
  abbrev tokens : List Token
  tokens = tokens_of text.tokens.items

  as_seen : plain (seen text) ≡ tokens
  as_seen = plain_places text.tokens.items text.places.items text.as_many

  formed : AreTokens (plain (seen text))
  formed = subst AreTokens (sym as_seen) cut.names

  parsed : (answer : Result CProgram ParseFault) → IsParsed tokens answer → IsParsed (plain (seen text)) answer
  parsed answer h = subst (λ ts. IsParsed ts answer) (sym as_seen) h

  as_long : length (seen text) ≡ length text.tokens.items
  as_long = places_long text.tokens.items text.places.items text.as_many

  -- the answer is the fault of this kind at a token
  abbrev pub Names : CTextKind → ℕ → CTextFault → Type 0
  Names k token answer = (t : Placed) → slice_get (seen text) token ≡ Some t → answer ≡ At k (line_at bytes t.place)

  -- ---- the end of the tokens

  pub end_faults : (answer : CTextFault) → ((c : CProgram) → Spells c tokens → ⊥) → Begins tokens → answer ≡ At kind.Unexpected (line_at bytes (length bytes)) → IsFault bytes answer
  end_faults answer none begun e =
      let none' = λ (c : CProgram) (s : Spells c (plain (seen text))). none c (subst (Spells c) as_seen s) in
      subst (IsFault bytes) (sym e) (ended bytes (seen text) (line_at bytes (length bytes)) cut.cut none' (subst Begins (sym as_seen) begun) refl)

  pub main_faults : (answer : CTextFault) → has_main tokens ≡ false → Begins tokens → answer ≡ At kind.NoMain (line_at bytes (length bytes)) → IsFault bytes answer
  main_faults answer without begun e =
      let none = λ (h : Contains (plain (seen text)) (Quoted word.Main)). no_main tokens without (subst (λ ts. Contains ts (Quoted word.Main)) as_seen h) in
      subst (IsFault bytes) (sym e) (without_main bytes (seen text) (line_at bytes (length bytes)) cut.cut none (subst Begins (sym as_seen) begun) refl)

  -- ---- a refused token

  module _ (token : ℕ) where
    pub unexpected_faults : (answer : CTextFault) → IsParsed tokens (Err (fault.Unexpected token)) → token < length text.tokens.items → Names kind.Unexpected token answer → IsFault bytes answer
    unexpected_faults answer refused below names =
        let (t, is) = token_of text token below in
        let refuses = parsed (Err (fault.Unexpected token)) refused in
        subst (IsFault bytes) (sym (names t is)) (unexpected_at bytes (seen text) cut.cut formed token t (line_at bytes t.place) refuses (omega (arith, as_long)) is refl)

    pub too_deep_faults : (answer : CTextFault) → IsParsed tokens (Err (fault.TooDeep token)) → token < length text.tokens.items → Names kind.TooDeep token answer → IsFault bytes answer
    too_deep_faults answer refused below names =
        let (t, is) = token_of text token below in
        let refuses = parsed (Err (fault.TooDeep token)) refused in
        subst (IsFault bytes) (sym (names t is)) (too_deep_at bytes (seen text) cut.cut formed token t (line_at bytes t.place) refuses (omega (arith, as_long)) is refl)

    pub unexpected_ends : IsParsed tokens (Err (fault.Unexpected token)) → length text.tokens.items ≤ token → (c : CProgram) → Spells c tokens → ⊥
    unexpected_ends refused above c s = unexpected_end bytes (seen text) cut.cut formed token (parsed (Err (fault.Unexpected token)) refused) (omega (arith, as_long)) c (subst (Spells c) (sym as_seen) s)

    pub too_deep_ends : IsParsed tokens (Err (fault.TooDeep token)) → length text.tokens.items ≤ token → (c : CProgram) → Spells c tokens → ⊥
    too_deep_ends refused above c s = too_deep_end bytes (seen text) cut.cut formed token (parsed (Err (fault.TooDeep token)) refused) (omega (arith, as_long)) c (subst (Spells c) (sym as_seen) s)

    pub unexpected_ends_begun : IsParsed tokens (Err (fault.Unexpected token)) → length text.tokens.items ≤ token → Begins tokens
    unexpected_ends_begun refused above = subst Begins as_seen (unexpected_end_begun bytes (seen text) cut.cut formed token (parsed (Err (fault.Unexpected token)) refused) (omega (arith, as_long)))

    pub too_deep_ends_begun : IsParsed tokens (Err (fault.TooDeep token)) → length text.tokens.items ≤ token → Begins tokens
    too_deep_ends_begun refused above = subst Begins as_seen (too_deep_end_begun bytes (seen text) cut.cut formed token (parsed (Err (fault.TooDeep token)) refused) (omega (arith, as_long)))

  -- ---- a tree

  module _ (c : CProgram) (read : IsParsed tokens (Ok c)) where
    pub text_is : HoldAllButLevels (program_demands c) → CText bytes c
    text_is h = read_text bytes (seen text) cut.cut c formed (parsed (Ok c) read) h

    module _ (k : CTextKind) (token : ℕ) (f : FailsAt (program_demands c) k token) where
      pub failing_below : token < length text.tokens.items
      failing_below = let within = fails_within bytes (seen text) cut.cut c formed (parsed (Ok c) read) k token f in omega (arith, as_long)

      pub failing_faults : (answer : CTextFault) → Names k token answer → IsFault bytes answer
      failing_faults answer names =
          let (t, is) = token_of text token failing_below in
          subst (IsFault bytes) (sym (names t is)) (fails_at bytes (seen text) cut.cut c formed (parsed (Ok c) read) k token f t (line_at bytes t.place) is refl)

pub tree_by : (bytes : List ℕ) (answer : Result CProgram CTextFault) (c : CProgram) → IfOk answer (CText bytes) → IfErr answer (IsFault bytes) → CText bytes c → IsTree c answer
tree_by bytes (Ok d) c ok fault text = same_text bytes d c ok text
tree_by bytes (Err (At k line)) c ok fault text = fault.none c text
tree_by bytes (Err (Memory e)) c ok fault text = tt
