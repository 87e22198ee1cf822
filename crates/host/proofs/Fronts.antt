-- The front of a list of which a part from a place on was written: what stood before, and the front of the part.
use Rattle.std.proofs.Common.{◌≡◌, ℕ, ◌+◌, ◌≤◌, List, ◌++◌, take, length, ap, ◌∙◌}
use lib.Seq.{take-append-add, take-append-le, length-take-le}

pub take-part : (a n : ℕ) (xs ys rest : List ℕ) → a ≤ length xs → n ≤ length ys → take (a + n) (take a xs ++ (ys ++ rest)) ≡ take a xs ++ take n ys
take-part a n xs ys rest h k =
    let p = take-append-add (take a xs) (ys ++ rest) n in
    rw (length-take-le a xs h) at p ∙ ap (λ l. take a xs ++ l) (take-append-le n ys rest k)
