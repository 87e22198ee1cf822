-- What lent slices hold before a call.
use Rattle.std.specs.Prelude.{ℕ, Bool, List, ◌==◌}
use Rattle.std.specs.List.{list_all}

-- Is each byte the one that is lent?
abbrev pub lent : List ℕ → Bool
lent = list_all (λ b. b == 165)
