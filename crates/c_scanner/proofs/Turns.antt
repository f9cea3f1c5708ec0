-- One turn of cutting, and where it stops.
use Rattle.std.proofs.Common.{◌≡◌, ℕ, ◌+◌, ◌<◌, Bool, true, false, ◌==◌, inl, inr, IsTrue, List, [], ◌∷◌, ◌++◌, length, take, drop, Option, Some, None, Result, Ok, Err, refl, sym, ap, subst, ◌∙◌, arith, length-append, take-append-drop}
use Rattle.std.specs.List.{list_all}
use Rattle.std.specs.Str.Parse.{digits_value}
use Rattle.c_grammar.specs.declared.token.Word.{Word}
use Rattle.c_grammar.specs.declared.token.Mark.{Mark}
use Rattle.c_grammar.specs.Token.{Token, Identifier, Numeral, Quoted, Sign, Placed, placed, form, form_by, when, named, signed, quoted_word, quoted_mark, is_letter, is_digit, is_name_byte, is_white, Cut, nothing, white, token, head_lines, CutsTo, is_nil}
use Rattle.c_grammar.specs.Seen.{IsToken, AreTokens}
use Rattle.c_grammar.specs.Text.{plain, HeadFails, NoTokenAt}
use Rattle.c_grammar.proofs.NoFaults.{no_head_fault, no_stray_byte}
use Rattle.c_scanner.specs.Cut.{White, Nothing}
use Rattle.c_scanner.specs.Fronts.{IsPiece, IsFront}
use Rattle.c_scanner.specs.Head.{later, strip}
use Rattle.c_scanner.specs.Scan.{HasNoTokens}
use Rattle.c_scanner.proofs.Pieces.{decide}

-- ---- the head lines

later_ok : (n : ℕ) (r : Result (List ℕ) ℕ) (rest : List ℕ) → later n r ≡ Ok rest → r ≡ Ok rest
later_ok n (Ok r) rest e = e
later_ok n (Err m) rest e = absurd (cc)

later_err : (n : ℕ) (r : Result (List ℕ) ℕ) (k : ℕ) → later n r ≡ Err k → (m : ℕ) × (r ≡ Err m) × (k ≡ n + m)
later_err n (Ok r) k e = absurd (cc)
later_err n (Err m) k e = (m, refl, cc)

pub stripped : (lines bytes rest : List ℕ) → strip lines bytes ≡ Ok rest → bytes ≡ lines ++ rest
unfolding strip
stripped [] bytes rest e = cc
stripped (line ∷ lines) [] rest e = absurd (cc)
stripped (line ∷ lines) (b ∷ more) rest e =
    elim (decide (b == line)) [
      | inl q ↦
          let same : b ≡ line = grind arith in
          let tail = stripped lines more rest (later_ok 1 (strip lines more) rest (rw q at e)) in
          λ i. same i ∷ tail i
      | inr q ↦ absurd (let e' = rw q at e in cc)
    ]

-- the bytes and these lines agree up to this place and not at it
abbrev Differ : List ℕ → List ℕ → ℕ → Type 0
Differ lines bytes place = (front : List ℕ) × (wanted : ℕ) × (more after : List ℕ)
    × (lines ≡ front ++ wanted ∷ more) × (bytes ≡ front ++ after) × ((others : List ℕ) → after ≡ wanted ∷ others → ⊥) × (place ≡ length front)

differ : (lines bytes : List ℕ) (n : ℕ) → strip lines bytes ≡ Err n → Differ lines bytes n
unfolding strip
differ [] bytes n e = absurd (cc)
differ (line ∷ lines) [] n e = let z : 0 ≡ n = cc in ([], line, lines, [], refl, refl, (λ others h. cc), sym z)
differ (line ∷ lines) (b ∷ more) n e =
    elim (decide (b == line)) [
      | inl q ↦
          let same : b ≡ line = grind arith in
          let inner = later_err 1 (strip lines more) n (rw q at e) in
          let d = differ lines more inner.0 inner.1 in
          (line ∷ d.0, d.1, d.2, d.3, (λ i. line ∷ d.4 i), (λ i. same i ∷ d.5 i), d.6, omega (arith, inner.2, d.7))
      | inr q ↦ let z : 0 ≡ n = let e' = rw q at e in cc in
          ([], line, lines, b ∷ more, refl, refl, (λ others h. absurd (unlike b line q (cc))), sym z)
    ]
  where
    unlike : (b line : ℕ) → (b == line) ≡ false → b ≡ line → ⊥
    unlike b line q e = grind arith

pub no_head : (bytes : List ℕ) (n : ℕ) → strip head_lines bytes ≡ Err n → HasNoTokens bytes n
no_head bytes n e = let fails : HeadFails bytes n = differ head_lines bytes n e in
    record { at = inl fails; none = λ tokens cut. no_head_fault bytes n tokens cut fails }

pub start : (bytes body : List ℕ) (tokens : List Placed) → strip head_lines bytes ≡ Ok body → tokens ≡ [] → CutsTo bytes tokens body
start bytes body tokens e none = (body, stripped head_lines bytes body e, subst (λ ts. Cut (length head_lines) body ts body) (sym none) (nothing (length head_lines) body))

pub start_long : (bytes body : List ℕ) → strip head_lines bytes ≡ Ok body → 71 + length body ≡ length bytes
start_long bytes body e = sym (ap length (stripped head_lines bytes body e) ∙ length-append head_lines body)

-- ---- one more piece

cut_white : {n : ℕ} {x rest : List ℕ} {tokens : List Placed} → Cut n x tokens rest → (b : ℕ) (more : List ℕ) → rest ≡ b ∷ more → IsTrue (is_white b) → Cut n x tokens more
cut_white (nothing n r) b more e w = subst (λ y. Cut n y [] more) (sym e) (white n b more [] more w (nothing (n + 1) more))
cut_white (white n c bytes tokens rest h cut) b more e w = white n c bytes tokens more h (cut_white cut b more e w)
cut_white (token n front bytes t tokens rest l cut) b more e w = token n front bytes t tokens more l (cut_white cut b more e w)

cut_token : {n : ℕ} {x rest : List ℕ} {tokens : List Placed} → Cut n x tokens rest → (place m : ℕ) (t : Token) → place + length rest ≡ n + length x → IsPiece rest t m
    → Cut n x (tokens ++ placed t place ∷ []) (drop m rest)
cut_token (nothing n r) place m t e p =
    let same : n ≡ place = omega arith in
    subst (λ y. Cut n y (placed t place ∷ []) (drop m r)) (take-append-drop m r)
    (subst (λ k. Cut n (take m r ++ drop m r) (placed t k ∷ []) (drop m r)) same (token n (take m r) (drop m r) t [] (drop m r) p.longest (nothing (n + length (take m r)) (drop m r))))
cut_token (white n c bytes tokens rest h cut) place m t e p = white n c bytes (tokens ++ placed t place ∷ []) (drop m rest) h (cut_token cut place m t (omega arith) p)
cut_token (token n front bytes u tokens rest l cut) place m t e p =
    token n front bytes u (tokens ++ placed t place ∷ []) (drop m rest) l (cut_token cut place m t (omega (arith, length-append front bytes)) p)

pub white_then : (bytes rest others : List ℕ) (tokens : List Placed) → CutsTo bytes tokens rest → IsFront rest White → others ≡ drop 1 rest → CutsTo bytes tokens others
white_then bytes [] others tokens cut w e = absurd w
white_then bytes (b ∷ more) others tokens (body, whole, cut) w e = (body, whole, subst (λ r. Cut (length head_lines) body tokens r) (sym e) (cut_white cut b more refl w))

pub piece_then : (bytes rest others : List ℕ) (tokens more : List Placed) (place m : ℕ) (t : Token) → CutsTo bytes tokens rest → place + length rest ≡ length bytes → IsPiece rest t m
    → more ≡ tokens ++ placed t place ∷ [] → others ≡ drop m rest → CutsTo bytes more others
piece_then bytes rest others tokens more place m t (body, whole, cut) within p put left =
    let long : length bytes ≡ length head_lines + length body = ap length whole ∙ length-append head_lines body in
    let then = cut_token cut place m t (within ∙ long) p in
    (body, whole, subst (λ ts. Cut (length head_lines) body ts others) (sym put) (subst (λ r. Cut (length head_lines) body (tokens ++ placed t place ∷ []) r) (sym left) then))

pub nothing_there : (bytes rest : List ℕ) (tokens : List Placed) (place : ℕ) → 0 < length rest → CutsTo bytes tokens rest → place + length rest ≡ length bytes → IsFront rest Nothing → HasNoTokens bytes place
nothing_there bytes [] tokens place some cut within s = absurd (omega arith)
nothing_there bytes (b ∷ more) tokens place some cut within s =
    let fails : NoTokenAt bytes place = (tokens, b, more, cut, s.not_white, s.no_form, within) in
    record { at = inr fails; none = λ others whole. no_stray_byte bytes place others whole fails }

-- ---- names

when_is : (holds : Bool) (t u : Token) → when holds t ≡ Some u → t ≡ u
when_is true t u e = cc
when_is false t u e = absurd (cc)

named_is : (found : Option Word) (bytes name : List ℕ) → named found bytes ≡ Identifier name → bytes ≡ name
named_is None bytes name e = cc
named_is (Some w) bytes name e = absurd (cc)

signed_is : (found : Option Mark) (name : List ℕ) → signed found ≡ Some (Identifier name) → ⊥
signed_is None name e = absurd (cc)
signed_is (Some m) name e = absurd (cc)

form_name : (front name : List ℕ) → form front ≡ Some (Identifier name) → front ≡ name
unfolding form_by
form_name [] name e = absurd (cc)
form_name (b ∷ more) name e =
    elim (decide (is_letter b)) [
      | inl l ↦ named_is (quoted_word (b ∷ more)) (b ∷ more) name (when_is (list_all is_name_byte more) _ (Identifier name) (rw l at e))
      | inr l ↦ elim (decide (b == 48)) [
        | inl z ↦ let other = when_is (is_nil more) (Numeral 0) (Identifier name) (rw (l, z) at e) in absurd (cc)
        | inr z ↦ elim (decide (is_digit b)) [
          | inl d ↦ let other = when_is (list_all is_digit more) (Numeral (digits_value 10 (b ∷ more))) (Identifier name) (rw (l, z, d) at e) in absurd (cc)
          | inr d ↦ absurd (signed_is (quoted_mark (b ∷ more)) name (rw (l, z, d) at e))
        ]
      ]
    ]

is_token : (front : List ℕ) (t : Token) → form front ≡ Some t → IsToken t
is_token front (Identifier name) e = let same : front ≡ name = form_name front name e in sym (ap form same) ∙ e
is_token front (Numeral n) e = tt
is_token front (Quoted w) e = tt
is_token front (Sign m) e = tt

cut_names : {n : ℕ} {x rest : List ℕ} {tokens : List Placed} → Cut n x tokens rest → AreTokens (plain tokens)
cut_names (nothing n r) = tt
cut_names (white n c bytes tokens rest h cut) = cut_names cut
cut_names (token n front bytes t tokens rest l cut) = (is_token front t l.is, cut_names cut)

pub are_tokens : (bytes rest : List ℕ) (tokens : List Placed) → CutsTo bytes tokens rest → AreTokens (plain tokens)
are_tokens bytes rest tokens (body, whole, cut) = cut_names cut
