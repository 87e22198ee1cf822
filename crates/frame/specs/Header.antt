-- What a header brings: the station count.
use Rattle.std.specs.Prelude.{◌≡◌, ℕ, ◌+◌, ◌*◌, ◌≤◌, ◌<◌, Bool, true, false, List, length, get_or, drop, Option, MatchOption}
use Rattle.model.specs.declared.Limits.{Limits}
use Rattle.model.specs.Reading.{report_size, header_form}

-- n is the station count of the header f.
pub record Headed (m : Limits) (p : Bool) (f : List ℕ) (n : ℕ) : Type 0 where
  pub few : n ≤ m.stations
  pub some : 0 < n
  pub right : header_form m p (drop 1 f) ≡ true
  pub is : n ≡ get_or f 1 0
  pub long : length f ≡ n * report_size p + 2

-- The header f has a station count, or its form is wrong.
abbrev pub Counted : Limits → Bool → List ℕ → Option ℕ → Type 0
Counted m p f o = MatchOption o (header_form m p (drop 1 f) ≡ false) (λ n. Headed m p f n)
