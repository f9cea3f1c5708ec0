-- The last place of a struct's name, and the tables that have it.
use Rattle.std.proofs.Common.{◌≡◌, ℕ, zero, suc, ◌<◌, ◌≤◌, ◌⊎◌, inl, inr, List, [], ◌∷◌, ◌++◌, length, true, false, Option, Some, None, refl, sym, ap, ◌∙◌, subst, arith}
use Rattle.std.specs.Prelude.{slice_get, if◌then◌else◌}
use Rattle.std.specs.Str.{bytes_eq}
use Rattle.std.proofs.lemmas.Slice.Eq.{bytes_eq-Decides}
use Rattle.std.proofs.lemmas.Bool.Decides.{same_from_decides}
use Rattle.std.proofs.lemmas.Option.{slice_get_past, slice_get_within}
use Rattle.c_tree.specs.declared.program.CStruct.{CStruct}
use Rattle.c_tree.specs.declared.program.CDeclaration.{CDeclaration}
use Rattle.c_tree.specs.declared.program.CDeclaration.TheVariants as d
use Rattle.c_meaning.specs.Cells.{Name, joined_option}
use Rattle.c_meaning.proofs.Blocks.{same_or_not, get_front}
use Rattle.c_cells.specs.Structs.{is_struct, last_struct, latest_in, latest_of, HoldsStructs}
use Rattle.c_cells.specs.declared.structs.StructPlaces.{StructPlaces}

-- ---- a table that grows

le_or_lt : (k n : ℕ) → (k ≤ n) ⊎ (n < k)
le_or_lt zero n = inl (omega arith)
le_or_lt (suc k) zero = inr (omega arith)
le_or_lt (suc k) (suc n) = elim (le_or_lt k n) [ inl l ↦ inl (omega (arith, l)) | inr l ↦ inr (omega (arith, l)) ]

pub turned : (x y : Name) → bytes_eq x y ≡ bytes_eq y x
turned x y =
    let xy = bytes_eq-Decides x y in
    let yx = bytes_eq-Decides y x in
    same_from_decides {P = x ≡ y} (bytes_eq x y) (bytes_eq y x) xy (λ e. sym (yx.0 e), λ h. yx.1 (sym h))

get_seam : {A : Type 0} (xs : List A) (a : A) → slice_get (xs ++ a ∷ []) (length xs) ≡ Some a
get_seam [] a = refl
get_seam (x ∷ xs) a = get_seam xs a

-- what is declared further on changes nothing
front : (x : Name) (ds more : List CDeclaration) (k : ℕ) → k ≤ length ds → last_struct (ds ++ more) x k ≡ last_struct ds x k
unfolding last_struct
front x ds more zero h = refl
front x ds more (suc k) h =
    ap (λ o. if is_struct x o then Some k else last_struct (ds ++ more) x k) (get_front ds more k (omega (arith, h)))
    ∙ ap (λ o. if is_struct x (slice_get ds k) then Some k else o) (front x ds more k (omega (arith, h)))

one_more : (x : Name) (ds : List CDeclaration) (e : CDeclaration) → last_struct (ds ++ e ∷ []) x (suc (length ds)) ≡ (if is_struct x (Some e) then Some (length ds) else last_struct ds x (length ds))
unfolding last_struct
one_more x ds e =
    ap (λ o. if is_struct x o then Some (length ds) else last_struct (ds ++ e ∷ []) x (length ds)) (get_seam ds e)
    ∙ ap (λ o. if is_struct x (Some e) then Some (length ds) else o) (front x ds (e ∷ []) (length ds) (omega arith))

longer : {A : Type 0} (xs : List A) (a : A) → length (xs ++ a ∷ []) ≡ suc (length xs)
longer [] a = refl
longer (x ∷ xs) a = ap (λ n. suc n) (longer xs a)

module _ (ds : List CDeclaration) (e : CDeclaration) (t u : StructPlaces) (before : Option ℕ) (was : before ≡ latest_of t e) (pushed : u.earlier.items ≡ t.earlier.items ++ before ∷ []) (h : HoldsStructs ds t) where
  old_place : (p : ℕ) (s : CStruct) → p < length ds → slice_get (ds ++ e ∷ []) p ≡ Some (d.Struct s) → slice_get u.earlier.items p ≡ Some (last_struct (ds ++ e ∷ []) s.name p)
  old_place p s l at =
      let same = h.counted in
      ap (λ items. slice_get items p) pushed ∙ get_front t.earlier.items (before ∷ []) p (omega (arith, same, l))
      ∙ h.earlier p s (sym (get_front ds (e ∷ []) p l) ∙ at) ∙ ap Some (sym (front s.name ds (e ∷ []) p (omega (arith, l))))

  new_place : (s : CStruct) → slice_get (ds ++ e ∷ []) (length ds) ≡ Some (d.Struct s) → slice_get u.earlier.items (length ds) ≡ Some (last_struct (ds ++ e ∷ []) s.name (length ds))
  new_place s at =
      let is : Some e ≡ Some (d.Struct s) = sym (get_seam ds e) ∙ at in
      let named : e ≡ d.Struct s = cc in
      ap (λ items. slice_get items (length ds)) pushed ∙ ap (slice_get (t.earlier.items ++ before ∷ [])) (sym h.counted) ∙ get_seam t.earlier.items before
      ∙ ap Some (was ∙ ap (latest_of t) named ∙ h.latest s.name ∙ sym (front s.name ds (e ∷ []) (length ds) (omega arith)))

  place : (p : ℕ) (s : CStruct) → slice_get (ds ++ e ∷ []) p ≡ Some (d.Struct s) → slice_get u.earlier.items p ≡ Some (last_struct (ds ++ e ∷ []) s.name p)
  place p s at = elim (same_or_not p (length ds)) [
    | inl same ↦ ap (slice_get u.earlier.items) same ∙ new_place s (ap (slice_get (ds ++ e ∷ [])) (sym same) ∙ at) ∙ ap (λ n. Some (last_struct (ds ++ e ∷ []) s.name n)) (sym same)
    | inr other ↦ old_place p s (let within = slice_get_within (ds ++ e ∷ []) p (d.Struct s) at in let one = longer ds e in omega (arith, within, one, other)) at
  ]

  pub grown : ((x : Name) → latest_in u x ≡ (if is_struct x (Some e) then Some (length t.earlier.items) else latest_in t x)) → HoldsStructs (ds ++ e ∷ []) u
  grown latest = record {
    latest = λ x. latest x ∙ ap (λ n. if is_struct x (Some e) then Some n else latest_in t x) h.counted ∙ ap (λ o. if is_struct x (Some e) then Some (length ds) else o) (h.latest x)
        ∙ sym (one_more x ds e) ∙ ap (last_struct (ds ++ e ∷ []) x) (sym (longer ds e));
    earlier = place;
    counted = ap length pushed ∙ longer t.earlier.items before ∙ ap (λ n. suc n) h.counted ∙ sym (longer ds e);
  }

-- ---- last places below others

module _ (ds : List CDeclaration) (x : Name) where
  pub below : (k p : ℕ) → last_struct ds x k ≡ Some p → p < k
  unfolding last_struct
  below zero p h = cc
  below (suc k) p h =
      elim (is_struct x (slice_get ds k)) as (λ b. (if b then Some k else last_struct ds x k) ≡ Some p → p < suc k)
      [ true ↦ (λ e. let same : k ≡ p = cc in omega (arith, same)) | false ↦ (λ e. let low = below k p e in omega (arith, low)) ] h

  pub there : (k p : ℕ) → last_struct ds x k ≡ Some p → is_struct x (slice_get ds p) ≡ true
  unfolding last_struct
  there zero p h = cc
  there (suc k) p h =
      elim (is_struct x (slice_get ds k)) as (λ b. is_struct x (slice_get ds k) ≡ b → (if b then Some k else last_struct ds x k) ≡ Some p → is_struct x (slice_get ds p) ≡ true) [
        | true ↦ (λ is e. let same : k ≡ p = cc in ap (λ n. is_struct x (slice_get ds n)) (sym same) ∙ is)
        | false ↦ (λ is e. there k p e)
      ] refl h

  pub none_below : (m k : ℕ) → k ≤ m → last_struct ds x m ≡ None → last_struct ds x k ≡ None
  unfolding last_struct
  none_below zero k l h = let none : k ≡ 0 = omega (arith, l) in ap (last_struct ds x) none
  none_below (suc m) k l h = elim (same_or_not k (suc m)) [
    | inl same ↦ ap (last_struct ds x) same ∙ h
    | inr other ↦
        elim (is_struct x (slice_get ds m)) as (λ b. (if b then Some m else last_struct ds x m) ≡ None → last_struct ds x k ≡ None)
        [ true ↦ (λ e. absurd cc) | false ↦ (λ e. none_below m k (omega (arith, l, other)) e) ] h
  ]

  pub some_below : (m k p : ℕ) → k ≤ m → p < k → last_struct ds x m ≡ Some p → last_struct ds x k ≡ Some p
  unfolding last_struct
  some_below zero k p l low h = absurd (omega (arith, l, low))
  some_below (suc m) k p l low h = elim (same_or_not k (suc m)) [
    | inl same ↦ ap (last_struct ds x) same ∙ h
    | inr other ↦
        elim (is_struct x (slice_get ds m)) as (λ b. (if b then Some m else last_struct ds x m) ≡ Some p → last_struct ds x k ≡ Some p) [
          | true ↦ (λ e. let same : m ≡ p = cc in absurd (omega (arith, same, l, low, other)))
          | false ↦ (λ e. some_below m k p (omega (arith, l, other)) low e)
        ] h
  ]

  -- there is nothing at the end and further on
  pub past : (k : ℕ) → length ds ≤ k → last_struct ds x k ≡ last_struct ds x (length ds)
  unfolding last_struct
  past zero l = let none : 0 ≡ length ds = omega (arith, l) in ap (last_struct ds x) none
  past (suc k) l = elim (same_or_not (suc k) (length ds)) [
    | inl same ↦ ap (last_struct ds x) same
    | inr other ↦
        let far : length ds ≤ k = omega (arith, l, other) in
        ap (λ o. if is_struct x o then Some k else last_struct ds x k) (slice_get_past ds k far) ∙ past k far
  ]

struct_there : (x : Name) (o : Option CDeclaration) → is_struct x o ≡ true → (s : CStruct) × (o ≡ Some (d.Struct s)) × (x ≡ s.name)
struct_there x None h = absurd cc
struct_there x (Some (d.Typedef f)) h = absurd cc
struct_there x (Some (d.Struct s)) h = (s, refl, (bytes_eq-Decides x s.name).0 h)

-- ---- steps back from a place to the one before of the same name

-- the place is the last one below a number that is not below k
abbrev pub IsNotBelow : List CDeclaration → Name → ℕ → Option ℕ → Type 0
IsNotBelow ds x k place = (m : ℕ) × (k ≤ m) × (place ≡ last_struct ds x m)

-- how many declarations are left
abbrev pub left : Option ℕ → ℕ
left None = 0
left (Some p) = suc p

module _ (ds : List CDeclaration) (t : StructPlaces) (h : HoldsStructs ds t) (x : Name) (k : ℕ) where
  pub from_latest : (place : Option ℕ) → place ≡ latest_in t x → IsNotBelow ds x k place
  from_latest place is =
      elim (le_or_lt k (length ds)) [
        | inl within ↦ (length ds, within, is ∙ h.latest x)
        | inr beyond ↦ (k, omega arith, is ∙ h.latest x ∙ sym (past ds x k (omega (arith, beyond))))
      ]

  pub before_is : (p m : ℕ) → Some p ≡ last_struct ds x m → joined_option (slice_get t.earlier.items p) ≡ last_struct ds x p
  unfolding joined_option
  before_is p m is =
      let s = struct_there x (slice_get ds p) (there ds x m p (sym is)) in
      ap joined_option (h.earlier p s.0 s.1) ∙ ap (λ y. last_struct ds y p) (sym s.2)

  module _ (place : Option ℕ) (r : IsNotBelow ds x k place) where
    pub found_none : place ≡ None → None ≡ last_struct ds x k
    found_none none = sym (none_below ds x r.0 k r.1 (sym r.2 ∙ none))

    module _ (p : ℕ) (is : place ≡ Some p) where
      last : Some p ≡ last_struct ds x r.0
      last = sym is ∙ r.2

      pub found : p < k → Some p ≡ last_struct ds x k
      found l = sym (some_below ds x r.0 k p r.1 l (sym last))

      pub within : p < length ds
      within = let s = struct_there x (slice_get ds p) (there ds x r.0 p (sym last)) in slice_get_within ds p (d.Struct s.0) s.1

      pub step_back : (before : Option ℕ) → k ≤ p → before ≡ joined_option (slice_get t.earlier.items p) → IsNotBelow ds x k before
      step_back before l back = (p, l, back ∙ before_is p r.0 last)

      pub fewer_left : (before : Option ℕ) → before ≡ joined_option (slice_get t.earlier.items p) → left before < left place
      fewer_left before back = subst (λ (o : Option ℕ). left before < left o) (sym is) (fewer before (back ∙ before_is p r.0 last)) where
        fewer : (o : Option ℕ) → o ≡ last_struct ds x p → left o < suc p
        fewer None e = omega arith
        fewer (Some q) e = let low = below ds x p q (sym e) in omega (arith, low)
