-- The first line of an item.
use Rattle.std.specs.Prelude.{◌≡◌, ℕ, List, ◌∷◌, ◌++◌}
use Rattle.net_certificate.specs.declared.reading.Heading.{Heading}
use Rattle.net_certificate.specs.declared.reading.Heading.TheVariants.{Reason, Map}
use Rattle.net_certificate.specs.Items.{IsTold}
use Rattle.net_certificate.specs.Rows.{Row, OfReason, OfMap, reason_text, map_word, row_line}

-- what stands after the number of a graph
abbrev pub heading_text : Heading → List ℕ
heading_text (Reason why) = reason_text why
heading_text Map = map_word

-- the first row of the item of graph k
abbrev pub heading_row : ℕ → Heading → Row
heading_row k (Reason why) = OfReason k why
heading_row k Map = OfMap k

-- the numbers have their bits
abbrev pub IsToldHeading : Heading → Type 0
IsToldHeading (Reason why) = IsTold why
IsToldHeading Map = Unit {0}

-- no item of graph k begins with what is left
abbrev pub NoPair : ℕ → List ℕ → Type 0
NoPair k left =
    (h : Heading) (rest : List ℕ) → IsToldHeading h → left ≡ row_line (heading_row k h) ++ 10 ∷ rest → ⊥
