-- A text has no fault but for places at which some other text gets too deep.
use Rattle.std.proofs.Common.{◌≡◌, ℕ, zero, suc, ◌+◌, true, false, List, [], ◌∷◌, ◌++◌, length, None, refl, sym, ◌∙◌, ap, subst, inl, inr, arith}
use Rattle.std.specs.List.{Contains}
use Rattle.std.proofs.lemmas.List.{append_cancel_left, append_assoc}
use Rattle.std.proofs.lemmas.List.Elements.{Contains-append_right}
use Rattle.c_tree.specs.declared.program.CProgram.{CProgram}
use Rattle.c_grammar.specs.declared.fault.CTextKind.{CTextKind}
use Rattle.c_grammar.specs.declared.fault.CTextKind.TheVariants as kind
use Rattle.c_grammar.specs.declared.token.Word.TheVariants as word
use Rattle.c_grammar.specs.Token.{Quoted, Placed, placed, form, form_by, is_white, Cut, nothing, white, token, head_lines, CutsTo, IsTokens}
use Rattle.c_grammar.specs.Spelling.{spell_all, spell_forward, spell_declaration, spell_variable_line, spell_prototype, spell_function, spell_main, program_tokens}
use Rattle.c_grammar.specs.Demands.{Demand, Demands, Holds, HoldAll, program_demands}
use Rattle.c_grammar.specs.Text.{CText, plain, HeadFails, NoTokenAt, UnexpectedToken, UnexpectedEnd, DemandFails, Faults}
use Rattle.c_grammar.proofs.Spelled.{all_follow}
use Rattle.c_grammar.proofs.SpelledProgram.{forward_follow, declaration_follow, line_follow, prototype_follow, function_follow}
use Rattle.c_grammar.proofs.Stand.{Later, here, over}
use Rattle.c_grammar.proofs.Unique.{even, shorter, longer, split, white_form, some_none, some_same, same_tokens}
use Rattle.c_grammar.proofs.UniqueTree.{same_tree}

-- the tokens of the whole begin with those of a front
record Goes (a b : List Placed) (rest : List ℕ) : Type 0 where
  more : List Placed
  place : ℕ
  whole : a ≡ b ++ more
  cut : Cut place rest more []

all_left : {n : ℕ} {x y ra : List ℕ} {a : List Placed} → Cut n x a ra → x ≡ y → ra ≡ [] → Goes a [] y
all_left {n} {x} {y} {ra} {a} c ex er = record { more = a; place = n; whole = refl; cut = subst (λ r. Cut n y a r) er (subst (λ r. Cut n r a ra) ex c) }

goes_on : {n m : ℕ} {x y ra rb : List ℕ} {a b : List Placed} → Cut n x a ra → Cut m y b rb → n ≡ m → x ≡ y → ra ≡ [] → Goes a b rb
goes_on (nothing n r) (nothing m s) en ex er = all_left (nothing n r) ex er
goes_on (nothing n r) (white m c w ts s h d) en ex er = absurd (cc)
goes_on (nothing n r) (token m [] w t ts s l d) en ex er = some_none l.is
goes_on (nothing n r) (token m (c ∷ f) w t ts s l d) en ex er = absurd (cc)
goes_on (white n b v us r h c) (nothing m s) en ex er = all_left (white n b v us r h c) ex er
goes_on (white n b v us r h c) (white m b' w ts s h' d) en ex er = goes_on c d (ap (λ k. k + 1) en) (cc) er
goes_on (white n b v us r h c) (token m [] w t ts s l d) en ex er = some_none l.is
goes_on (white n b v us r h c) (token m (b' ∷ f) w t ts s l d) en ex er =
    let e : b ≡ b' = cc in some_none (sym (white_form b f h) ∙ ap (λ k. form_by k f) e ∙ l.is)
goes_on (token n [] v t us r l c) d en ex er = some_none l.is
goes_on (token n (b ∷ f) v t us r l c) (nothing m s) en ex er = all_left (token n (b ∷ f) v t us r l c) ex er
goes_on (token n (b ∷ f) v t us r l c) (white m b' w ts s h d) en ex er =
    let e : b' ≡ b = cc in some_none (sym (white_form b' f h) ∙ ap (λ k. form_by k f) e ∙ l.is)
goes_on (token n (b ∷ f) v t us r l c) (token m g w u ts s k d) en ex er =
    elim (split (b ∷ f) g v w ex) [
      | even p q ↦
          let same : t ≡ u = some_same (sym l.is ∙ ap form p ∙ k.is) in
          let goes = goes_on c d (λ j. en j + length (p j)) q er in
          record { more = goes.more; place = goes.place; whole = λ i. placed (same i) (en i) ∷ goes.whole i; cut = goes.cut }
      | shorter more some p q ↦ some_none (sym (l.no_longer more w q some) ∙ ap form (sym p) ∙ k.is)
      | longer more some p q ↦ some_none (sym (k.no_longer more v q some) ∙ ap form (sym p) ∙ l.is)
    ]

goes_from : (bytes : List ℕ) (a b : List Placed) (rest : List ℕ) → IsTokens bytes a → CutsTo bytes b rest → Goes a b rest
goes_from bytes a b rest (body, e, c) (other, f, d) = goes_on c d refl (append_cancel_left head_lines body other (sym e ∙ f)) refl

-- ---- each kind

pub no_head_fault : (bytes : List ℕ) (place : ℕ) (tokens : List Placed) → IsTokens bytes tokens → HeadFails bytes place → ⊥
no_head_fault bytes place tokens (body, e, c) (front, wanted, lines, after, h, f, differs, at) =
    differs (lines ++ body) (append_cancel_left front after (wanted ∷ (lines ++ body)) (sym f ∙ e ∙ ap (λ l. l ++ body) h ∙ append_assoc front (wanted ∷ lines) body))

stuck : {n b : ℕ} {x rest r : List ℕ} {tokens : List Placed} → Cut n x tokens r → x ≡ b ∷ rest → r ≡ [] → is_white b ≡ false → ((front after : List ℕ) → b ∷ rest ≡ front ++ after → form front ≡ None) → ⊥
stuck (nothing n r) e f w formless = absurd (cc)
stuck {b = b} (white n b' v us r h c) e f w formless =
    let same : b' ≡ b = cc in let contra : true ≡ false = sym h ∙ ap is_white same ∙ w in absurd (cc)
stuck (token n front v t us r l c) e f w formless = some_none (sym (formless front v (sym e)) ∙ l.is)

pub no_stray_byte : (bytes : List ℕ) (place : ℕ) (tokens : List Placed) → IsTokens bytes tokens → NoTokenAt bytes place → ⊥
no_stray_byte bytes place tokens cut (before, b, rest, to, w, formless, at) = let goes = goes_from bytes tokens before (b ∷ rest) cut to in stuck goes.cut refl refl w formless

pub plain_both : (a b : List Placed) → plain (a ++ b) ≡ plain a ++ plain b
plain_both [] b = refl
plain_both (t ∷ a) b = ap (λ l. t.token ∷ l) (plain_both a b)

no_unexpected_token : (bytes : List ℕ) (place : ℕ) (c : CProgram) → CText bytes c → UnexpectedToken bytes place → ⊥
no_unexpected_token bytes place c s (before, t, (rest, to), none, at) =
    let goes = goes_from bytes s.tokens (before ++ t ∷ []) rest s.cut to in
    let tree = s.tree in
    none (c, plain goes.more, record { of_grammar = tree.of_grammar; spelled = s.spelled ∙ ap plain goes.whole ∙ plain_both (before ++ t ∷ []) goes.more })

no_unexpected_end : (bytes : List ℕ) (place : ℕ) (c : CProgram) → CText bytes c → UnexpectedEnd bytes place → ⊥
no_unexpected_end bytes place c s (tokens, cut, none, at) =
    let tree = s.tree in
    none c (record { of_grammar = tree.of_grammar; spelled = s.spelled ∙ ap plain (same_tokens bytes s.tokens tokens s.cut cut) })

all_contained : (all : Demands) (n : ℕ) (d : Demand) → HoldAll all → Contains all (n, d) → Holds d
all_contained [] n d h (k, below, e) = absurd (grind arith)
all_contained (x ∷ all) n d h (zero, below, e) = subst Holds (ap (λ (p : ℕ × Demand). p.1) e) h.0
all_contained (x ∷ all) n d h (suc k, below, e) = all_contained all n d h.1 (k, omega arith, e)

no_failing_demand : (bytes : List ℕ) (k : CTextKind) (place : ℕ) (c : CProgram) → CText bytes c → DemandFails k bytes place → ⊥
no_failing_demand bytes k place c s (tokens, other, cut, spells, n, d, contained, of_kind, fails, t, at, here') =
    let tree = s.tree in
    let same : c ≡ other = same_tree c other (s.spelled ∙ ap plain (same_tokens bytes s.tokens tokens s.cut cut) ∙ sym spells.spelled) in
    fails (all_contained (program_demands other) n d (subst (λ p. HoldAll (program_demands p)) same tree.conditions) contained)

-- `main` is spelled
main_later : (c : CProgram) → (n : ℕ) × Later (program_tokens c) n (spell_main c.main [])
main_later c = (
  _,
  over (spell_all spell_forward) (all_follow spell_forward forward_follow) c.forwards
      (over (spell_all spell_declaration) (all_follow spell_declaration declaration_follow) c.declarations
      (over (spell_all spell_variable_line) (all_follow spell_variable_line line_follow) c.globals
      (over (spell_all spell_prototype) (all_follow spell_prototype prototype_follow) c.prototypes
      (over (spell_all spell_function) (all_follow spell_function function_follow) c.functions here)))),
)

main_contained : (c : CProgram) → Contains (program_tokens c) (Quoted word.Main)
main_contained c =
    let later = (main_later c).1 in
    let inner : Contains (spell_main c.main []) (Quoted word.Main) = (1, omega arith, refl) in
    subst (λ l. Contains l (Quoted word.Main)) (sym later.whole) (Contains-append_right later.front (spell_main c.main []) (Quoted word.Main) inner)

no_want_of_main : (bytes : List ℕ) (place : ℕ) (c : CProgram) → CText bytes c → Faults bytes kind.NoMain place → ⊥
no_want_of_main bytes place c s (tokens, cut, none, at) =
    none (subst (λ l. Contains l (Quoted word.Main)) (s.spelled ∙ ap plain (same_tokens bytes s.tokens tokens s.cut cut)) (main_contained c))

pub no_faults : (bytes : List ℕ) (c : CProgram) (k : CTextKind) (place : ℕ) → CText bytes c → Faults bytes k place → k ≡ kind.TooDeep
no_faults bytes c kind.BadByte place s (inl f) = absurd (no_head_fault bytes place s.tokens s.cut f)
no_faults bytes c kind.BadByte place s (inr f) = absurd (no_stray_byte bytes place s.tokens s.cut f)
no_faults bytes c kind.Unexpected place s (inl f) = absurd (no_unexpected_token bytes place c s f)
no_faults bytes c kind.Unexpected place s (inr f) = absurd (no_unexpected_end bytes place c s f)
no_faults bytes c kind.TooDeep place s f = refl
no_faults bytes c kind.BadGoto place s f = absurd (no_failing_demand bytes kind.BadGoto place c s f)
no_faults bytes c kind.DoubleName place s f = absurd (no_failing_demand bytes kind.DoubleName place c s f)
no_faults bytes c kind.NoMain place s f = absurd (no_want_of_main bytes place c s f)
no_faults bytes c kind.BadType place s f = absurd (no_failing_demand bytes kind.BadType place c s f)
