-- A line piece by piece: each number with the byte behind it. Assumes nothing.
use Rattle.std.specs.Prelude.{ℕ, List, [], ◌∷◌}
use Rattle.listing.specs.Printed.{space, line_feed, line}

-- the byte after a number, by the numbers that follow it: a space, or a line feed after the last
unfoldable pub mark : List ℕ → ℕ
mark [] = line_feed
mark (n ∷ ns) = space

-- what is left of a line, by the numbers that are left: nothing where there is none
unfoldable pub left : List ℕ → List ℕ
left [] = []
left (n ∷ ns) = line (n ∷ ns)
