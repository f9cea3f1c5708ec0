-- What is freed.
use Rattle.std.proofs.Common.{◌≡◌, ℕ, ◌<◌, ◌≤◌, true, false, Option, Some, None, List, [], ◌∷◌, Result, Ok, Err, length, refl, ap, ◌∙◌, subst, arith}
use Rattle.std.specs.Prelude.{slice_set}
use Rattle.std.specs.Result.{IsErrAnd}
use Rattle.c_meaning.specs.declared.StuckKind.{StuckKind}
use Rattle.c_meaning.specs.declared.StuckKind.TheVariants as k
use Rattle.c_meaning.specs.Cells.{Cell, Block, Blocks}
use Rattle.c_meaning.specs.Answer.{Answer, Got, Bad, ◌>>=◌, when}
use Rattle.c_meaning.specs.Types.{points_to_object}
use Rattle.c_meaning.specs.Values.{Value, Typed, leaf}
use Rattle.c_meaning.specs.Steps.{free_block, free_cell, free_value}
use Rattle.c_cells.specs.declared.halt.Halt.{Halt}
use Rattle.c_cells.specs.declared.halt.Halt.TheVariants.{Stuck, Memory}
use Rattle.c_cells.specs.Halts.{Tells}
use Rattle.c_evaluation.specs.Stores.{Frees}
use Rattle.c_evaluation.specs.Values.{tree_in, type_in}
use Rattle.c_evaluation.proofs.Binary.{bind_got, bind_bad}

at_inner : (blocks : Blocks) (n : ℕ) (path : List ℕ) (b : Block) → 0 < length path → free_block blocks n path (Some b) ≡ Bad k.BadFree
unfolding free_block
at_inner blocks n [] b l = absurd (omega arith)
at_inner blocks n (i ∷ path) b l = refl

at_start : (blocks : Blocks) (n : ℕ) (path : List ℕ) (b : Block) → length path ≤ 0 → free_block blocks n path (Some b) ≡ when b.heap k.BadFree (Got (slice_set blocks n None))
unfolding free_block
at_start blocks n [] b l = refl
at_start blocks n (i ∷ path) b l = absurd (omega arith)

module _ (blocks : Blocks) (n : ℕ) (path : List ℕ) (o : Option Block) where
  pub gone : o ≡ None → free_block blocks n path o ≡ Bad k.GoneUse
  unfolding free_block
  gone h = ap (free_block blocks n path) h

  pub inner : (b : Block) → o ≡ Some b → 0 < length path → free_block blocks n path o ≡ Bad k.BadFree
  inner b h l = ap (free_block blocks n path) h ∙ at_inner blocks n path b l

  pub no_heap : (b : Block) → o ≡ Some b → length path ≤ 0 → b.heap ≡ false → free_block blocks n path o ≡ Bad k.BadFree
  unfolding when
  no_heap b h l q = ap (free_block blocks n path) h ∙ at_start blocks n path b l ∙ ap (λ q. when q k.BadFree (Got (slice_set blocks n None))) q

  pub heap : (b : Block) → o ≡ Some b → length path ≤ 0 → b.heap ≡ true → free_block blocks n path o ≡ Got (slice_set blocks n None)
  unfolding when
  heap b h l q = ap (free_block blocks n path) h ∙ at_start blocks n path b l ∙ ap (λ q. when q k.BadFree (Got (slice_set blocks n None))) q

module _ (blocks : Blocks) (x : Value) where
  free_is : points_to_object (type_in x) ≡ true → free_value blocks x ≡ leaf (tree_in x) >>= free_cell blocks
  unfolding free_value when
  free_is = elim x as (λ x. points_to_object (type_in x) ≡ true → free_value blocks x ≡ leaf (tree_in x) >>= free_cell blocks)
      [ Typed of tree ↦ (λ h. ap (λ q. when q k.Mismatch (leaf tree >>= free_cell blocks)) h) ]

  pub no_object : points_to_object (type_in x) ≡ false → free_value blocks x ≡ Bad k.Mismatch
  unfolding free_value when
  no_object = elim x as (λ x. points_to_object (type_in x) ≡ false → free_value blocks x ≡ Bad k.Mismatch)
      [ Typed of tree ↦ (λ h. ap (λ q. when q k.Mismatch (leaf tree >>= free_cell blocks)) h) ]

  pub no_scalar : (kind : StuckKind) → points_to_object (type_in x) ≡ true → leaf (tree_in x) ≡ Bad kind → free_value blocks x ≡ Bad kind
  no_scalar kind h l = free_is h ∙ bind_bad (leaf (tree_in x)) kind (free_cell blocks) l

  pub scalar : (c : Cell) → points_to_object (type_in x) ≡ true → leaf (tree_in x) ≡ Got c → free_value blocks x ≡ free_cell blocks c
  scalar c h l = free_is h ∙ bind_got (leaf (tree_in x)) c (free_cell blocks) l

-- where an evaluation stops, nothing is freed
pub no_free : {A B : Type 0} (f : A → B) (blocks : Blocks) (e : Halt) (r : Result (Option ℕ) Halt) (a : Answer B) (h : B → Answer Blocks) → IsErrAnd r (λ x. x ≡ e) → Tells f (Err e) a → Frees blocks r (a >>= h)
unfolding ◌>>=◌
no_free f blocks e (Ok x) a h p t = absurd p
no_free f blocks (Stuck kind) (Err (Stuck k)) a h p t = let same : k ≡ kind = cc in ap Bad same ∙ ap (λ a. a >>= h) t
no_free f blocks (Stuck kind) (Err Memory) a h p t = tt
no_free f blocks Memory (Err (Stuck k)) a h p t = cc
no_free f blocks Memory (Err Memory) a h p t = tt

pub free_with : {B : Type 0} (blocks : Blocks) (r : Result (Option ℕ) Halt) (a : Answer B) (x : B) (h : B → Answer Blocks) → Got x ≡ a → Frees blocks r (h x) → Frees blocks r (a >>= h)
unfolding ◌>>=◌
free_with blocks r a x h e t = subst (λ a. Frees blocks r (a >>= h)) e t
