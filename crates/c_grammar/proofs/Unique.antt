-- The bytes determine the tokens.
use Rattle.std.proofs.Common.{◌≡◌, ◌≢◌, ◌⊎◌, ℕ, ◌+◌, IsTrue, List, [], ◌∷◌, ◌++◌, length, Some, None, refl, sym, ◌∙◌, ap, inl, inr, arith}
use Rattle.std.proofs.lemmas.List.{append_cancel_left}
use Rattle.c_grammar.specs.Token.{Token, Placed, placed, form, form_by, is_white, Cut, nothing, white, token, head_lines, IsTokens}

-- two ways to cut a list in two
pub data Split (f g x y : List ℕ) : Type 0 where
  even : f ≡ g → x ≡ y → Split f g x y
  shorter : (more : List ℕ) → more ≢ [] → g ≡ f ++ more → x ≡ more ++ y → Split f g x y
  longer : (more : List ℕ) → more ≢ [] → f ≡ g ++ more → y ≡ more ++ x → Split f g x y

pub split : (f g x y : List ℕ) → f ++ x ≡ g ++ y → Split f g x y
split [] [] x y e = even refl e
split [] (c ∷ g) x y e = shorter (c ∷ g) (λ q. cc) refl e
split (c ∷ f) [] x y e = longer (c ∷ f) (λ q. cc) refl (sym e)
split (c ∷ f) (d ∷ g) x y e =
    let q : f ++ x ≡ g ++ y = cc in
    let h : c ≡ d = cc in
    elim (split f g x y q) [
      | even a b ↦ even (cc) b
      | shorter more n a b ↦ shorter more n (cc) b
      | longer more n a b ↦ longer more n (cc) b
    ]

white_is : (b : ℕ) → IsTrue (is_white b) → (b ≡ 9) ⊎ ((b ≡ 10) ⊎ (b ≡ 32))
white_is b h = grind arith

pub white_form : (b : ℕ) (more : List ℕ) → IsTrue (is_white b) → form_by b more ≡ None
unfolding form_by
white_form b more h = elim (white_is b h) [ inl e ↦ rw e refl | inr w ↦ elim w [ inl e ↦ rw e refl | inr e ↦ rw e refl ] ]

pub some_none : {t : Token} {P : Type 0} → None ≡ Some t → P
some_none e = absurd cc

pub some_same : {t u : Token} → Some t ≡ Some u → t ≡ u
some_same e = cc

same_cut : {n m : ℕ} {x y ra rb : List ℕ} {a b : List Placed} → Cut n x a ra → Cut m y b rb → n ≡ m → x ≡ y → ra ≡ [] → rb ≡ [] → a ≡ b
same_cut (nothing n r) (nothing m s) en ex er es = refl
same_cut (nothing n r) (white m c w ts s h d) en ex er es = cc
same_cut (nothing n r) (token m [] w t ts s l d) en ex er es = some_none l.is
same_cut (nothing n r) (token m (c ∷ f) w t ts s l d) en ex er es = cc
same_cut (white n b v us r h c) (nothing m s) en ex er es = cc
same_cut (white n b v us r h c) (white m b' w ts s h' d) en ex er es = same_cut c d (ap (λ k. k + 1) en) (cc) er es
same_cut (white n b v us r h c) (token m [] w t ts s l d) en ex er es = some_none l.is
same_cut (white n b v us r h c) (token m (b' ∷ f) w t ts s l d) en ex er es =
    let e : b ≡ b' = cc in some_none (sym (white_form b f h) ∙ ap (λ k. form_by k f) e ∙ l.is)
same_cut (token n [] v t us r l c) d en ex er es = some_none l.is
same_cut (token n (b ∷ f) v t us r l c) (nothing m s) en ex er es = cc
same_cut (token n (b ∷ f) v t us r l c) (white m b' w ts s h d) en ex er es =
    let e : b' ≡ b = cc in some_none (sym (white_form b' f h) ∙ ap (λ k. form_by k f) e ∙ l.is)
same_cut (token n (b ∷ f) v t us r l c) (token m g w u ts s k d) en ex er es =
    elim (split (b ∷ f) g v w ex) [
      | even p q ↦
          let same : t ≡ u = some_same (sym l.is ∙ ap form p ∙ k.is) in
          λ i. placed (same i) (en i) ∷ same_cut c d (λ j. en j + length (p j)) q er es i
      | shorter more some p q ↦ some_none (sym (l.no_longer more w q some) ∙ ap form (sym p) ∙ k.is)
      | longer more some p q ↦ some_none (sym (k.no_longer more v q some) ∙ ap form (sym p) ∙ l.is)
    ]

pub same_tokens : (bytes : List ℕ) (a b : List Placed) → IsTokens bytes a → IsTokens bytes b → a ≡ b
same_tokens bytes a b (body, e, c) (other, f, d) = same_cut c d refl (append_cancel_left head_lines body other (sym e ∙ f)) refl refl
