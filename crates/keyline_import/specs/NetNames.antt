-- The nets of a text have names.
use Rattle.std.specs.Prelude.{◌≡◌, ℕ, true, List, Option, Some, None, All}
use Rattle.line_text.specs.Names.{is_name}
use Rattle.keyline_import.specs.Items.{BodyView, Net, Faulty, ItemView, items_of}

-- if it is a net, there is a name, of the form of one
abbrev pub IsNamedAs : BodyView → Option (List ℕ) → Type 0
IsNamedAs (Net key) None = ⊥
IsNamedAs (Net key) (Some name) = is_name name ≡ true
IsNamedAs (Faulty fault) name = Unit {0}

-- the item is a net under a name, or it is faulty
abbrev pub IsNamed : ItemView → Type 0
IsNamed item = IsNamedAs item.body item.name

-- each item of a text that is a net has a name
abbrev pub NetsAreNamed : Type 0
NetsAreNamed = (text : List ℕ) → All IsNamed (items_of text)
