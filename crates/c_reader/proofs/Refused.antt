-- What the answers of the parts mean for a text.
use Rattle.std.proofs.Common.{◌≡◌, ℕ, zero, suc, ◌+◌, ◌<◌, ◌≤◌, List, [], ◌∷◌, ◌++◌, length, Some, Ok, Err, inl, inr, refl, sym, ◌∙◌, ap, subst, length-append, arith}
use Rattle.std.specs.Prelude.{slice_get}
use Rattle.std.specs.List.{Contains}
use Rattle.std.proofs.lemmas.List.{append-nil}
use Rattle.std.proofs.lemmas.List.Elements.{All-contains, All-from_recursion}
use Rattle.c_tree.specs.declared.program.CProgram.{CProgram}
use Rattle.c_grammar.specs.declared.fault.CTextKind.{CTextKind}
use Rattle.c_grammar.specs.declared.fault.CTextKind.TheVariants as kind
use Rattle.c_grammar.specs.declared.token.Word.TheVariants as word
use Rattle.c_grammar.specs.Token.{Token, Quoted, Placed, IsTokens}
use Rattle.c_grammar.specs.Spelling.{program_tokens}
use Rattle.c_grammar.specs.Seen.{AreTokens}
use Rattle.c_grammar.specs.Demands.{HoldAll, Demand, Level, Leads, Differs, Declared, Length, Cells, Holds, kind_of, program_demands}
use Rattle.c_grammar.specs.Text.{CText, Spells, Begins, MayBegin, Faults, plain}
use Rattle.c_grammar.specs.Laws.{Stands}
use Rattle.c_grammar.proofs.NoFaults.{no_faults, plain_both}
use Rattle.c_grammar.proofs.StandProgram.{program_stand}
use Rattle.c_grammar.proofs.Unique.{same_tokens}
use Rattle.token_parsing.specs.declared.refusal.Refusal.{Refusal}
use Rattle.token_parsing.specs.declared.refusal.Refusal.TheVariants as refusal
use Rattle.c_expr_parser.specs.Depth.{Fits}
use Rattle.c_parser.specs.Laws.{Split, Ends}
use Rattle.c_parser.specs.Programs.{program}
use Rattle.c_parser.proofs.Clauses.{read_is_spelled, unexpected_is_first, too_deep_is_deep}
use Rattle.c_conditions.specs.Conditions.{HoldAllButLevels, FailsAt}
use Rattle.c_scanner.specs.Scan.{HasNoTokens}
use Rattle.c_reader.specs.Read.{line_at, BeginsUpTo, IsFirst, IsNoText}
use Rattle.c_reader.proofs.Depths.{program_fits}
use Rattle.c_reader.proofs.Fronts.{some_is, token_at, behind, plain_long}
use Rattle.c_reader.proofs.Levels.{hold_all, level_holds}
use Rattle.c_reader.proofs.Whole.{nothing_after}

-- bytes with a fault that is not of the depth are no text
no_text : (bytes : List ℕ) (k : CTextKind) (place line : ℕ) → Faults bytes k place → IsFirst bytes k place → (k ≡ kind.TooDeep → ⊥) → line ≡ line_at bytes place → IsNoText bytes k line
no_text bytes k place line fails first other e = record { none = λ c text. other (no_faults bytes c k place text fails); place = place; fails = fails; first = first; on_line = e }

-- the tree of a text spells the tokens of the bytes
spells : (bytes : List ℕ) (tokens : List Placed) (c : CProgram) → IsTokens bytes tokens → CText bytes c → Spells c (plain tokens)
spells bytes tokens c cut text = let tree = text.tree in record { of_grammar = tree.of_grammar; spelled = text.spelled ∙ ap plain (same_tokens bytes text.tokens tokens text.cut cut) }

conditions_of : (bytes : List ℕ) (c : CProgram) → CText bytes c → HoldAll (program_demands c)
conditions_of bytes c text = let tree = text.tree in tree.conditions

pub bad_byte : (bytes : List ℕ) (place line : ℕ) → HasNoTokens bytes place → line ≡ line_at bytes place → IsNoText bytes kind.BadByte line
bad_byte bytes place line h e = no_text bytes kind.BadByte place line h.at tt (λ other. absurd (cc)) e

-- ---- the end of the tokens

pub ended : (bytes : List ℕ) (tokens : List Placed) (line : ℕ) → IsTokens bytes tokens → ((c : CProgram) → Spells c (plain tokens) → ⊥) → Begins (plain tokens) → line ≡ line_at bytes (length bytes) → IsNoText bytes kind.Unexpected line
ended bytes tokens line cut none begun e = no_text bytes kind.Unexpected (length bytes) line (inr (tokens, cut, none, refl)) (inr (tokens, cut, begun, refl)) (λ other. absurd (cc)) e

pub without_main : (bytes : List ℕ) (tokens : List Placed) (line : ℕ) → IsTokens bytes tokens → (Contains (plain tokens) (Quoted word.Main) → ⊥) → Begins (plain tokens) → line ≡ line_at bytes (length bytes) → IsNoText bytes kind.NoMain line
without_main bytes tokens line cut none begun e = no_text bytes kind.NoMain (length bytes) line (tokens, cut, none, refl) (inr (tokens, cut, begun, refl)) (λ other. absurd (cc)) e

-- ---- a refused token

-- what the parser answers, with so many tokens before the place
abbrev pub Refuses : List Token → ℕ → (ℕ → Refusal) → Type 0
Refuses tokens token why = (left : ℕ) × (token + left ≡ length tokens) × (program tokens ≡ Err (why left))

front_long : (tokens front bad : List Token) (token left : ℕ) → Split tokens front bad left → token + left ≡ length tokens → length front ≡ token
front_long tokens front bad token left split e = omega (arith, split.long, ap length split.is, length-append front bad)

-- where no token is behind the front, the tokens are the front
all_before : (tokens front bad : List Token) → tokens ≡ front ++ bad → length bad ≡ 0 → Ends front bad → (c : CProgram) → Spells c tokens → ⊥
all_before tokens front [] e none ends c s = ends c (subst (Spells c) (e ∙ append-nil front) s)
all_before tokens front (u ∷ more) e none ends c s = absurd (omega arith)

all_begun : (tokens front bad : List Token) → tokens ≡ front ++ bad → length bad ≡ 0 → Begins front → Begins tokens
all_begun tokens front [] e none begun = subst Begins (sym (e ∙ append-nil front)) begun
all_begun tokens front (u ∷ more) e none begun = absurd (omega arith)

got_within : (tokens : List Token) (n : ℕ) (t : Token) → slice_get tokens n ≡ Some t → n < length tokens
got_within [] n t e = absurd (cc)
got_within (u ∷ tokens) zero t e = omega arith
got_within (u ∷ tokens) (suc n) t e = omega (arith, got_within tokens n t e)

no_token : (tokens : List Token) (t : Token) → slice_get tokens (length tokens) ≡ Some t → ⊥
no_token [] t e = absurd (cc)
no_token (u ∷ tokens) t e = no_token tokens t e

-- nothing of a text begins behind a whole text
goes_nowhere : (tokens front bad : List Token) → tokens ≡ front ++ bad → length bad ≡ 0 → (c : CProgram) → Spells c tokens
    → (d : CProgram) (more : List Token) → Spells d (front ++ more) → Contains (program_demands d) (length front, Level 2401) → ⊥
goes_nowhere tokens front [] e none c s d more t among =
    let whole : program_tokens c ≡ front = s.spelled ∙ e ∙ append-nil front in
    let ended : more ≡ [] = nothing_after c d more (t.spelled ∙ ap (λ l. l ++ more) (sym whole)) in
    let same : program_tokens d ≡ front = t.spelled ∙ ap (λ l. front ++ l) ended ∙ append-nil front in
    let (u, at, speaks) = All-contains (Stands (program_tokens d)) (program_demands d) (length front, Level 2401) (All-from_recursion (Stands (program_tokens d)) (program_demands d) (program_stand d)) among in
    no_token front u (ap (λ l. slice_get l (length front)) (sym same) ∙ at)
goes_nowhere tokens front (u ∷ bad) e none c s d more t among = absurd (omega arith)

module _ (bytes : List ℕ) (tokens : List Placed) (cut : IsTokens bytes tokens) where
  -- the tokens up to this one begin no text
  unexpected_there : (front bad : List Token) (t : Placed) → plain tokens ≡ front ++ bad → Ends front bad → length front < length tokens → slice_get tokens (length front) ≡ Some t → Faults bytes kind.Unexpected t.place
  unexpected_there front [] t e ends below is = absurd (omega (arith, plain_long tokens, ap length e, length-append front []))
  unexpected_there front (u ∷ more) t e ends below is =
      let b = behind tokens front u more e in
      let same : b.found ≡ t = some_is b.found t (sym b.is ∙ is) in
      let up_to : plain (b.before ++ b.found ∷ []) ≡ front ++ u ∷ [] = plain_both b.before (b.found ∷ []) ∙ (λ i. b.front_is i ++ b.token_is i ∷ []) in
      subst (λ (q : Placed). Faults bytes kind.Unexpected q.place) same
      (inl (b.before, b.found, token_at bytes tokens b.before b.later b.found cut b.whole, (λ w. ends (subst Begins up_to w)), refl))

  -- the tokens before this one begin some text
  begun_there : (front bad : List Token) (t : Placed) → plain tokens ≡ front ++ bad → Begins front → length front < length tokens → slice_get tokens (length front) ≡ Some t → BeginsUpTo bytes t.place
  begun_there front [] t e begun below is = absurd (omega (arith, plain_long tokens, ap length e, length-append front []))
  begun_there front (u ∷ more) t e begun below is =
      let b = behind tokens front u more e in
      let same : b.found ≡ t = some_is b.found t (sym b.is ∙ is) in
      subst (λ (q : Placed). BeginsUpTo bytes q.place) same
      (inl (b.before, b.found, token_at bytes tokens b.before b.later b.found cut b.whole, subst Begins (sym b.front_is) begun, refl))

  -- something of the level 2,401 may begin at this token
  deep_there : (front bad : List Token) (t : Placed) → plain tokens ≡ front ++ bad → MayBegin 2401 front → length front < length tokens → slice_get tokens (length front) ≡ Some t → Faults bytes kind.TooDeep t.place
  deep_there front [] t e deep below is = absurd (omega (arith, plain_long tokens, ap length e, length-append front []))
  deep_there front (u ∷ more) t e deep below is =
      let b = behind tokens front u more e in
      let same : b.found ≡ t = some_is b.found t (sym b.is ∙ is) in
      subst (λ (q : Placed). Faults bytes kind.TooDeep q.place) same
      (b.before, b.found, token_at bytes tokens b.before b.later b.found cut b.whole, subst (MayBegin 2401) (sym b.front_is) deep, refl)

  module _ (formed : AreTokens (plain tokens)) (token : ℕ) where
    pub unexpected_at : (t : Placed) (line : ℕ) → Refuses (plain tokens) token refusal.Unexpected → token < length tokens → slice_get tokens token ≡ Some t → line ≡ line_at bytes t.place → IsNoText bytes kind.Unexpected line
    unexpected_at t line (left, many, e) below is on =
        let (front, bad, split, begun, ends) = unexpected_is_first (plain tokens) left formed e in
        let long = front_long (plain tokens) front bad token left split many in
        let at = ap (slice_get tokens) long ∙ is in
        let fails = unexpected_there front bad t split.is ends (omega arith) at in
        let first = begun_there front bad t split.is begun (omega arith) at in
        no_text bytes kind.Unexpected t.place line fails first (λ other. absurd (cc)) on

    pub too_deep_at : (t : Placed) (line : ℕ) → Refuses (plain tokens) token refusal.TooDeep → token < length tokens → slice_get tokens token ≡ Some t → line ≡ line_at bytes t.place → IsNoText bytes kind.TooDeep line
    too_deep_at t line (left, many, e) below is on =
        let (front, bad, split, deep, none) = too_deep_is_deep (plain tokens) left formed e in
        let long = front_long (plain tokens) front bad token left split many in
        record {
          none = λ c text. none c (spells bytes tokens c cut text) (program_fits c (conditions_of bytes c text));
          place = t.place;
          fails = deep_there front bad t split.is deep (omega arith) (ap (slice_get tokens) long ∙ is);
          first = tt;
          on_line = on;
        }

    -- where the place is the end of the tokens
    pub unexpected_end : Refuses (plain tokens) token refusal.Unexpected → length tokens ≤ token → (c : CProgram) → Spells c (plain tokens) → ⊥
    unexpected_end (left, many, e) above c s =
        let (front, bad, split, begun, ends) = unexpected_is_first (plain tokens) left formed e in
        all_before (plain tokens) front bad split.is (omega (arith, split.long, plain_long tokens)) ends c s

    pub unexpected_end_begun : Refuses (plain tokens) token refusal.Unexpected → length tokens ≤ token → Begins (plain tokens)
    unexpected_end_begun (left, many, e) above =
        let (front, bad, split, begun, ends) = unexpected_is_first (plain tokens) left formed e in
        all_begun (plain tokens) front bad split.is (omega (arith, split.long, plain_long tokens)) begun

    pub too_deep_end_begun : Refuses (plain tokens) token refusal.TooDeep → length tokens ≤ token → Begins (plain tokens)
    too_deep_end_begun (left, many, e) above =
        let (front, bad, split, (d, more, t, among), none) = too_deep_is_deep (plain tokens) left formed e in
        all_begun (plain tokens) front bad split.is (omega (arith, split.long, plain_long tokens)) (d, more, t)

    pub too_deep_end : Refuses (plain tokens) token refusal.TooDeep → length tokens ≤ token → (c : CProgram) → Spells c (plain tokens) → ⊥
    too_deep_end (left, many, e) above c s =
        let (front, bad, split, (d, more, t, among), none) = too_deep_is_deep (plain tokens) left formed e in
        goes_nowhere (plain tokens) front bad split.is (omega (arith, split.long, plain_long tokens)) c s d more t among

  -- ---- the conditions

  -- the tree that was read, and what it spells
  pub read_text : (c : CProgram) → AreTokens (plain tokens) → program (plain tokens) ≡ Ok (c, []) → HoldAllButLevels (program_demands c) → CText bytes c
  read_text c formed e h =
      let (s, fits) = read_is_spelled (plain tokens) c [] formed e in
      record { tokens = tokens; cut = cut; spelled = s.spelled; tree = record { of_grammar = s.of_grammar; conditions = hold_all c h fits } }

  failing : (c : CProgram) (n : ℕ) (d : Demand) (t : Placed) (line : ℕ) → Spells c (plain tokens) → Fits 2400 c → Contains (program_demands c) (n, d) → (Holds d → ⊥) → slice_get tokens n ≡ Some t
      → line ≡ line_at bytes t.place → IsNoText bytes (kind_of d) line
  failing c n (Level l) t line s fits among fails is on = absurd (fails (level_holds c fits n l among))
  failing c n (Leads label labels) t line s fits among fails is on =
      no_text bytes kind.BadGoto t.place line (tokens, c, cut, s, n, Leads label labels, among, refl, fails, t, is, refl) tt (λ other. absurd (cc)) on
  failing c n (Differs name others) t line s fits among fails is on =
      no_text bytes kind.DoubleName t.place line (tokens, c, cut, s, n, Differs name others, among, refl, fails, t, is, refl) tt (λ other. absurd (cc)) on
  failing c n (Declared name above) t line s fits among fails is on =
      no_text bytes kind.BadType t.place line (tokens, c, cut, s, n, Declared name above, among, refl, fails, t, is, refl) tt (λ other. absurd (cc)) on
  failing c n (Length k) t line s fits among fails is on = no_text bytes kind.BadType t.place line (tokens, c, cut, s, n, Length k, among, refl, fails, t, is, refl) tt (λ other. absurd (cc)) on
  failing c n (Cells k) t line s fits among fails is on = no_text bytes kind.BadType t.place line (tokens, c, cut, s, n, Cells k, among, refl, fails, t, is, refl) tt (λ other. absurd (cc)) on

  module _ (c : CProgram) (formed : AreTokens (plain tokens)) (e : program (plain tokens) ≡ Ok (c, [])) (k : CTextKind) (n : ℕ) (f : FailsAt (program_demands c) k n) where
    pub fails_at : (t : Placed) (line : ℕ) → slice_get tokens n ≡ Some t → line ≡ line_at bytes t.place → IsNoText bytes k line
    fails_at t line is on =
        let (s, fits) = read_is_spelled (plain tokens) c [] formed e in subst (λ q. IsNoText bytes q line) f.of_kind (failing c n f.demand t line s fits f.among f.fails is on)

    -- the condition stands at a token
    pub fails_within : n < length tokens
    fails_within =
        let (s, fits) = read_is_spelled (plain tokens) c [] formed e in
        let (u, at, speaks) = All-contains (Stands (program_tokens c)) (program_demands c) (n, f.demand) (All-from_recursion (Stands (program_tokens c)) (program_demands c) (program_stand c)) f.among in
        let within = got_within (plain tokens) n u (ap (λ l. slice_get l n) (sym s.spelled) ∙ at) in
        omega (arith, plain_long tokens)
