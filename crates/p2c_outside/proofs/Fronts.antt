-- A list is the piece that was taken from it and what follows the piece.
use Rattle.std.proofs.Common.{◌≡◌, ℕ, ◌+◌, List, ◌++◌, take, drop, sym, ◌∙◌, ap}
use Rattle.std.proofs.lemmas.List.{take-append-drop, drop-drop}

pub drop_as_taken : (n at : ℕ) (bytes front : List ℕ) →
    front ≡ take n (drop at bytes) → drop at bytes ≡ front ++ drop (at + n) bytes
drop_as_taken n at bytes front is =
    let there = drop at bytes in
    sym (ap (λ f. f ++ drop (at + n) bytes) is
    ∙ ap (λ rest. take n there ++ rest) (sym (drop-drop n at bytes))
    ∙ take-append-drop n there)
