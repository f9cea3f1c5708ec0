-- Fresh trees, as they are built.
use Rattle.std.proofs.Common.{◌≡◌, ℕ, zero, suc, ◌+◌, ◌<◌, List, [], ◌∷◌, ◌++◌, map, Bool, true, false, Option, Some, None, refl, sym, ap, ◌∙◌, take, take_all, length, reverse, replicate, get_or, arith}
use Rattle.std.specs.Prelude.{ℤ, pos, slice_get, if◌then◌else◌}
use Rattle.std.proofs.lemmas.List.{append-nil, take_more, reverse-append}
use Rattle.std.proofs.lemmas.Option.{slice_get_within, slice_get_read, get_or_from_slice_get}
use Rattle.std.specs.Str.{bytes_eq}
use Rattle.c_tree.specs.declared.program.CMember.{CMember}
use Rattle.c_tree.specs.declared.program.CStruct.{CStruct}
use Rattle.c_tree.specs.declared.program.CTypedef.{CTypedef}
use Rattle.c_tree.specs.declared.program.CDeclaration.{CDeclaration}
use Rattle.c_tree.specs.declared.program.CDeclaration.TheVariants as d
use Rattle.c_tree.specs.Tree as t
use Rattle.c_tree.specs.Tree.{ObjectType}
use Rattle.c_tree.specs.declared.program.CVariable.{CVariable}
use Rattle.c_meaning.specs.Cells.{Name, Int, Tree, Leaf, Fork, End}
use Rattle.c_meaning.specs.Fresh.{fresh, fresh_block, object_tree, copies, member_tree, members_tree, struct_tree}
use Rattle.c_cells.specs.Forks.{forks}
use Rattle.c_cells.specs.Scalars.{scalar_cell}
use Rattle.c_cells.specs.Slots.{int_cell, int_block}
use Rattle.c_cells.specs.Structs.{is_struct, last_struct}
use Rattle.c_cells.proofs.LastStructs.{there}

pub int_block_fresh : (zeroed : Bool) (ds : List CDeclaration) (x : CVariable) (o : Option ℤ) → x.of ≡ t.Int → int_cell o ≡ scalar_cell zeroed (Int (pos 0)) → int_block (int_cell o) ≡ fresh_block zeroed ds x
unfolding fresh_block fresh object_tree
int_block_fresh zeroed ds x o of cell = λ i. record { of = sym of i; tree = (ap Leaf cell ∙ ap (fresh zeroed ds) (sym of)) i; heap = false }

pub copies_replicate : (n : ℕ) (a : Tree) → forks (replicate n a) ≡ copies n a
unfolding copies
copies_replicate zero a = refl
copies_replicate (suc n) a = ap (Fork a) (copies_replicate n a)

-- the trees of members
abbrev pub member_trees : Bool → List CDeclaration → List CMember → List Tree
member_trees zeroed above = map (λ (q : CMember). member_tree q.length (fresh zeroed above q.of))

pub members_list : (zeroed : Bool) (above : List CDeclaration) (members : List CMember) → members_tree zeroed (struct_tree zeroed (reverse above)) members ≡ forks (member_trees zeroed above members)
unfolding members_tree fresh
members_list zeroed above [] = refl
members_list zeroed above (q ∷ rest) = ap (Fork (member_tree q.length (object_tree zeroed (struct_tree zeroed (reverse above)) q.of))) (members_list zeroed above rest)

pub built : (zeroed : Bool) (above : List CDeclaration) (members rest : List CMember) (list : List Tree) → length rest < 1 → list ++ member_trees zeroed above rest ≡ member_trees zeroed above members
    → forks list ≡ members_tree zeroed (struct_tree zeroed (reverse above)) members
built zeroed above members [] list short h = ap forks (sym (append-nil list) ∙ h) ∙ sym (members_list zeroed above members)
built zeroed above members (q ∷ rest) list short h = absurd (omega arith)

-- ---- structs among the first declarations

last_of : (ds : List CDeclaration) (k : ℕ) (e : CDeclaration) → slice_get ds k ≡ Some e → reverse (take (suc k) ds) ≡ e ∷ reverse (take k ds)
last_of ds k e is =
    let next : suc k ≡ k + 1 = omega arith in
    let front : take (suc k) ds ≡ take k ds ++ e ∷ [] =
    ap (λ n. take n ds) next ∙ take_more ds k e (slice_get_within ds k e is) ∙ ap (λ x. take k ds ++ x ∷ []) (get_or_from_slice_get ds k e e is)
    in
    ap reverse front ∙ reverse-append (take k ds) (e ∷ [])

none_more : (ds : List CDeclaration) (k : ℕ) → slice_get ds k ≡ None → take (suc k) ds ≡ take k ds
none_more [] zero h = refl
none_more [] (suc k) h = refl
none_more (e ∷ ds) zero h = cc
none_more (e ∷ ds) (suc k) h = ap (λ l. e ∷ l) (none_more ds k h)

module _ (zeroed : Bool) (x : Name) (ds : List CDeclaration) where
  -- the tree of the struct, by the first k declarations
  abbrev pub tree_among : ℕ → Tree
  tree_among k = struct_tree zeroed (reverse (take k ds)) x

  found_last : (k : ℕ) (s : CStruct) → slice_get ds k ≡ Some (d.Struct s) → bytes_eq x s.name ≡ true → tree_among (suc k) ≡ members_tree zeroed (struct_tree zeroed (reverse (take k ds))) s.members
  unfolding struct_tree
  found_last k s is same = ap (λ l. struct_tree zeroed l x) (last_of ds k (d.Struct s) is)
      ∙ ap (λ q. elim q as (λ _. Tree) [ true ↦ members_tree zeroed (struct_tree zeroed (reverse (take k ds))) s.members | false ↦ tree_among k ]) same

  other_last : (k : ℕ) (o : Option CDeclaration) → slice_get ds k ≡ o → is_struct x o ≡ false → tree_among (suc k) ≡ tree_among k
  unfolding struct_tree
  other_last k None is other = ap (λ l. struct_tree zeroed (reverse l) x) (none_more ds k is)
  other_last k (Some (d.Typedef f)) is other = ap (λ l. struct_tree zeroed l x) (last_of ds k (d.Typedef f) is)
  other_last k (Some (d.Struct s)) is other = ap (λ l. struct_tree zeroed l x) (last_of ds k (d.Struct s) is)
      ∙ ap (λ q. elim q as (λ _. Tree) [ true ↦ members_tree zeroed (struct_tree zeroed (reverse (take k ds))) s.members | false ↦ tree_among k ]) other

  -- the last struct with the name says what the tree is
  pub struct_at : (k p : ℕ) (s : CStruct) → last_struct ds x k ≡ Some p → slice_get ds p ≡ Some (d.Struct s) → tree_among k ≡ members_tree zeroed (struct_tree zeroed (reverse (take p ds))) s.members
  unfolding last_struct
  struct_at zero p s h is = absurd cc
  struct_at (suc k) p s h is =
      elim (is_struct x (slice_get ds k)) as (λ b. is_struct x (slice_get ds k) ≡ b → (if b then Some k else last_struct ds x k) ≡ Some p → tree_among (suc k) ≡ members_tree zeroed (struct_tree zeroed (reverse (take p ds))) s.members) [
        | true ↦ (λ test e.
            let same : k ≡ p = cc in
            let here : slice_get ds k ≡ Some (d.Struct s) = ap (slice_get ds) same ∙ is in
            found_last k s here (ap (is_struct x) (sym here) ∙ test) ∙ ap (λ n. members_tree zeroed (struct_tree zeroed (reverse (take n ds))) s.members) same)
        | false ↦ (λ test e. other_last k (slice_get ds k) refl test ∙ struct_at k p s e is)
      ] refl h

  pub struct_none : (k : ℕ) → None ≡ last_struct ds x k → End ≡ tree_among k
  unfolding last_struct struct_tree
  struct_none zero h = refl
  struct_none (suc k) h =
      elim (is_struct x (slice_get ds k)) as (λ b. is_struct x (slice_get ds k) ≡ b → None ≡ (if b then Some k else last_struct ds x k) → End ≡ tree_among (suc k)) [
        | true ↦ (λ test e. absurd cc)
        | false ↦ (λ test e. struct_none k e ∙ sym (other_last k (slice_get ds k) refl test))
      ] refl h

  pub struct_found : (k p : ℕ) (s : CStruct) → Some p ≡ last_struct ds x k → p < length ds → d.Struct s ≡ get_or ds p (d.Struct s) → tree_among k ≡ members_tree zeroed (struct_tree zeroed (reverse (take p ds))) s.members
  struct_found k p s h l is = struct_at k p s (sym h) (slice_get_read ds (length ds) p (d.Struct s) refl l is)

  pub struct_typedef : (k p : ℕ) (f : CTypedef) → Some p ≡ last_struct ds x k → p < length ds → d.Typedef f ≡ get_or ds p (d.Typedef f) → End ≡ tree_among k
  struct_typedef k p f h l is =
      let here : slice_get ds p ≡ Some (d.Typedef f) = slice_get_read ds (length ds) p (d.Typedef f) refl l is in
      let no_struct : false ≡ true = sym (ap (is_struct x) here) ∙ there ds x k p (sym h) in
      absurd cc

pub among_all : (zeroed : Bool) (ds : List CDeclaration) (of : ObjectType) → fresh zeroed (take (length ds) ds) of ≡ fresh zeroed ds of
among_all zeroed ds of = ap (λ l. fresh zeroed l of) (take_all (length ds) ds (omega arith))
