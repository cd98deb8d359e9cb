-- The line of a refusal, with its vertices by their names.
use Rattle.std.specs.Prelude.{ℕ, ℤ, List, [], ◌++◌, codes}
use Rattle.std.specs.Fmt.{signed_decimal}
use Rattle.integers.specs.Vectors.{Vector, parts}
use Rattle.quotient_graph.specs.declared.split.Split.{Split}
use Rattle.elimination.specs.declared.place.Place.{Place}
use Rattle.barycentre.specs.declared.faults.WideSite.{WideSite}
use Rattle.barycentre.specs.declared.faults.WideSite.TheVariants.{Denominator, ArcPart, Beyond}
use Rattle.least_key.specs.declared.refusal.Refusal.{Refusal}
pub use Rattle.least_key.specs.declared.refusal.Refusal.TheVariants.{Disconnected, Degenerate, NoModulus, WidePlacement, Collision, TooMuch, NoMemory}
use Rattle.net_report.specs.Numbers.{IsNamed, vertex_text}
use Rattle.line_text.specs.Numbers.{field_text, list_text}

-- a colouring: its modulus, its vector, and an entry for each vertex
abbrev pub split_text : Split → List ℕ
split_text s = field_text (codes " q=") s.q ++ codes " c=" ++ list_text (parts s.dim s.c) ++ codes " h=" ++ list_text s.h

-- the place of a listed number
abbrev pub place_text : Place → List ℕ
place_text at =
    field_text (codes " part=") at.part ++ field_text (codes " k=") at.k ++ field_text (codes " i=") at.i ++ field_text (codes " j=") at.j
    ++ field_text (codes " c=") at.c

-- the vertices whose weight sums have no inverse, by their numbers
abbrev pub pivots_text : ℕ → ℕ → ℕ → List ℕ
pivots_text first second third =
    field_text (codes " pivots=") first ++ field_text (codes " ") second ++ field_text (codes " ") third

-- an arc from u to v by s, of dimension dim
abbrev pub arc_text : List (List ℕ) → ℕ → ℕ → ℕ → Vector → List ℕ
arc_text names dim u v s = codes " u=" ++ vertex_text names u ++ codes " v=" ++ vertex_text names v ++ codes " s=" ++ list_text (parts dim s)

-- where a number of a placement in this dimension stands
abbrev pub site_text : List (List ℕ) → ℕ → WideSite → List ℕ
site_text names dim (Denominator u c) = codes " denominator u=" ++ vertex_text names u ++ field_text (codes " c=") c
site_text names dim (ArcPart u v s c) = codes " arc" ++ arc_text names dim u v s ++ field_text (codes " c=") c
site_text names dim (Beyond at) = codes " beyond" ++ place_text at

-- a number past its limit, if it is reported
abbrev pub value_text : WideSite → ℤ → List ℕ
value_text (Denominator u c) value = codes " value=" ++ signed_decimal value
value_text (ArcPart u v s c) value = codes " value=" ++ signed_decimal value
value_text (Beyond at) value = []

-- two vertices at one position: u in cell 0, and v in cell t, which has dim parts
abbrev pub collision_text : List (List ℕ) → ℕ → ℕ → ℕ → Vector → List ℕ
collision_text names dim u v t = codes " u=" ++ vertex_text names u ++ codes " v=" ++ vertex_text names v ++ codes " t=" ++ list_text (parts dim t)

-- the starts that were counted whole, and the count
abbrev pub work_text : ℕ → ℕ → List ℕ
work_text done counted = field_text (codes " starts=") done ++ field_text (codes " counted=") counted

-- the number and the name of a refusal; running out of memory has none
abbrev pub refusal_name : Refusal → List ℕ
refusal_name (Disconnected split) = codes "1 Disconnected"
refusal_name (Degenerate split) = codes "2 Degenerate"
refusal_name (WidePlacement w) = codes "4 WidePlacement"
refusal_name (Collision dim u v t) = codes "5 Collision"
refusal_name (TooMuch done counted) = codes "6 TooMuch"
refusal_name (NoModulus first second third) = codes "7 NoModulus"
refusal_name NoMemory = []

-- what is reported after the name of a refusal
abbrev pub refusal_details : List (List ℕ) → Refusal → List ℕ
refusal_details names (Disconnected split) = split_text split
refusal_details names (Degenerate split) = split_text split
refusal_details names (WidePlacement w) = site_text names w.dim w.site ++ value_text w.site w.value
refusal_details names (Collision dim u v t) = collision_text names dim u v t
refusal_details names (TooMuch done counted) = work_text done counted
refusal_details names (NoModulus first second third) = pivots_text first second third
refusal_details names NoMemory = []

-- the line of a refusal
abbrev pub refused_text : List (List ℕ) → Refusal → List ℕ
refused_text names refusal = codes "refused " ++ refusal_name refusal ++ refusal_details names refusal ++ codes "\n"

-- if there are names, each vertex that is shown has one
abbrev pub AreNamed : List (List ℕ) → WideSite → Type 0
AreNamed names (Denominator u c) = IsNamed names u
AreNamed names (ArcPart u v s c) = IsNamed names u × IsNamed names v
AreNamed names (Beyond at) = Unit {0}

-- the refusal has a line with these names
abbrev pub HasLine : List (List ℕ) → Refusal → Type 0
HasLine names (Disconnected split) = Unit {0}
HasLine names (Degenerate split) = Unit {0}
HasLine names (NoModulus first second third) = Unit {0}
HasLine names (WidePlacement w) = AreNamed names w.site
HasLine names (Collision dim u v t) = IsNamed names u × IsNamed names v
HasLine names (TooMuch done counted) = Unit {0}
HasLine names NoMemory = ⊥
