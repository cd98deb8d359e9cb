-- The faults of a line in an item: each is a sentence about the line and the lines of its item before it, the nearest first.
use Rattle.std.specs.Prelude.{ℕ, Bool, ◌||◌, ◌&&◌, is_some, is_none, List, [], ◌∷◌, Option, None, codes}
use Rattle.cgd_read.specs.Units.{first_true}
use Rattle.keyline_import.specs.Names.{name_of_fields}
use Rattle.keyline_import.specs.Lines.{LineView, is_key, is_id, is_end}
use Rattle.keyline_import.specs.Rows.{KeyView}
use Rattle.keyline_import.specs.Keys.{key_of_fields}
use Rattle.keyline_import.specs.declared.line.LineKind.{LineKind}
use Rattle.keyline_import.specs.declared.line.LineKind.TheVariants.{Key, Id}
use Rattle.keyline_import.specs.declared.item.ItemFaultKind.{ItemFaultKind}
use Rattle.keyline_import.specs.declared.item.ItemFaultKind.TheVariants.{BadKey, BadId, Twice, Missing, NoEnd}

-- the key so far, after a line of this kind that says the first of these
abbrev pub key_after : LineKind → Option KeyView → Option KeyView → Option KeyView
key_after Key key before = key
key_after _ key before = before

-- the item's key so far
abbrev pub key_of : List LineView → Option KeyView
key_of [] = None
key_of (line ∷ earlier) = key_after line.kind (key_of_fields line.fields) (key_of earlier)

-- the name so far, after a line of this kind that gives the first of these
abbrev pub name_after : LineKind → Option (List ℕ) → Option (List ℕ) → Option (List ℕ)
name_after Id name before = name
name_after _ name before = before

-- the item's name so far
abbrev pub name_of : List LineView → Option (List ℕ)
name_of [] = None
name_of (line ∷ earlier) = name_after line.kind (name_of_fields line.fields) (name_of earlier)

-- the sentences

-- a key line in an item that has a key already, or an id line in an item that has a name
abbrev pub is_second : List LineView → LineView → Bool
is_second earlier line = (is_key line.kind && is_some (key_of earlier)) || (is_id line.kind && is_some (name_of earlier))

-- a key line that says no key
abbrev pub is_bad_key : LineView → Bool
is_bad_key line = is_key line.kind && is_none (key_of_fields line.fields)

-- an id line that gives no name
abbrev pub is_bad_id : LineView → Bool
is_bad_id line = is_id line.kind && is_none (name_of_fields line.fields)

-- the item ends without a key or without a name
abbrev pub ends_without : List LineView → LineView → Bool
ends_without earlier line = is_end line.kind && (is_none (key_of earlier) || is_none (name_of earlier))

-- the table of the faults, in its order
abbrev pub table : List LineView → LineView → List (ItemFaultKind × Bool)
table earlier line =
    (Twice, is_second earlier line)
    ∷ (BadKey, is_bad_key line)
    ∷ (BadId, is_bad_id line)
    ∷ (Missing, ends_without earlier line)
    ∷ []

-- the fault of a line: the first of the table whose sentence is true
abbrev pub fault_of : List LineView → LineView → Option ItemFaultKind
fault_of earlier line = first_true (table earlier line)

-- the number of a kind of fault
abbrev pub number_of_kind : ItemFaultKind → ℕ
number_of_kind BadKey = 1
number_of_kind BadId = 2
number_of_kind Twice = 3
number_of_kind Missing = 4
number_of_kind NoEnd = 5

-- the name of a kind of fault
abbrev pub name_of_kind : ItemFaultKind → List ℕ
name_of_kind BadKey = codes "BadKey"
name_of_kind BadId = codes "BadId"
name_of_kind Twice = codes "Twice"
name_of_kind Missing = codes "Missing"
name_of_kind NoEnd = codes "NoEnd"
