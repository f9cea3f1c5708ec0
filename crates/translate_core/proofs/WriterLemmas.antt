-- The C program that writes bytes is a tree of the subset.
use Rattle.std.proofs.Common.{ℕ, ◌<◌, List, [], ◌∷◌, ◌++◌, Some, map, lit<, lit≤, arith, get_or, suc}
use Rattle.std.specs.List.{AllByRecursion}
use Rattle.c_tree.specs.Tree.{Return, Number, body_of}
use Rattle.c_grammar.specs.Grammar.{IsBody, IsNumber}
use Rattle.c_grammar.specs.Types.{Known, known, seen_last}
use Rattle.c_grammar.specs.Demands.{HoldAll, Names, body_demands, own_labels}
use Rattle.c_grammar.specs.Text.{IsCTree}
use Rattle.c_grammar.proofs.Hold.{hold_after, hold_both}
use Rattle.agreement.specs.Laws.{IsByte}
use Rattle.agreement.specs.Writers.{put_of, writer_of}

is_body : (bytes : List ℕ) → AllByRecursion IsNumber bytes → IsBody (body_of (map put_of bytes ++ Return (Some (Number 0)) ∷ []))
is_body [] small = (lit< tt, tt)
is_body (b ∷ bytes) small = (small.0, is_body bytes small.1)

holds_body : (k : Known) (reached above : Names) (bytes : List ℕ) → HoldAll (body_demands k reached above 1 (body_of (map put_of bytes ++ Return (Some (Number 0)) ∷ [])))
holds_body k reached above [] = (lit≤ tt, (lit≤ tt, tt))
holds_body k reached above (b ∷ bytes) = (lit≤ tt, (lit≤ tt, hold_after _ _ (holds_body k reached (above ++ []) bytes)))

pub writer_is_tree : (bytes : List ℕ) → AllByRecursion IsNumber bytes → IsCTree (writer_of bytes)
writer_is_tree bytes small = record {
  of_grammar = (tt, tt, tt, tt, tt, (tt, is_body bytes small));
  conditions =
      let body = holds_body (known (seen_last (writer_of bytes))) (own_labels (body_of (map put_of bytes ++ Return (Some (Number 0)) ∷ []))) [] bytes in
      hold_after 0 _ (hold_after 0 _ (hold_after 0 _ (hold_after 0 _ (hold_after 0 _ (hold_both _ [] (hold_after 6 _ (hold_after 0 _ body)) tt)))));
}

pub are_bytes : (bytes : List ℕ) → ((i : ℕ) → get_or bytes i 0 < 256) → AllByRecursion IsByte bytes
are_bytes [] small = tt
are_bytes (b ∷ bytes) small = (small 0, are_bytes bytes (λ i. small (suc i)))

-- bytes are small numbers
pub bytes_are_numbers : (bytes : List ℕ) → AllByRecursion IsByte bytes → AllByRecursion IsNumber bytes
bytes_are_numbers [] small = tt
bytes_are_numbers (b ∷ bytes) small = let first : b < 256 = small.0 in (omega arith, bytes_are_numbers bytes small.1)
