-- Where the reading of a text stands, and its first bad line.
use Rattle.std.specs.Prelude.{◌≡◌, ◌≢◌, ℕ, ◌+◌, List, [], ◌++◌, length, Option, None, Some}
use Rattle.periodic_net.specs.Graph.{Graph}
use Rattle.line_text.specs.Lines.{Place, IsAt, rows_text}
use Rattle.map_check.specs.declared.map.PeriodicMap.{PeriodicMap}
use Rattle.net_certificate.specs.Items.{ItemView, Maps, AreFormed}
use Rattle.net_certificate.specs.Rows.{Row, row_lines}
use Rattle.net_certificate.specs.Texts.{maps_text}
use Rattle.net_certificate.specs.Stages.{Stage, Start, Titled, Listed, Mapped, Drawing, drawing_of, image_count, MayEnd, Walk, NoneFollows}

-- rows that lead to this stage were passed
pub record IsIn (text : List ℕ) (stage : Stage) (place : Place) : Type 0 where
  pub rows : List Row
  pub walk : Walk Start rows stage
  pub at : IsAt text (row_lines rows) place

-- after the second graph of an item the map was read, without the end
pub record HasMap (text : List ℕ) (g : Drawing) (items : List ItemView) (h : Drawing) (place : Place) (M : PeriodicMap) : Type 0 where
  pub at : IsIn text (Mapped g items h M) place
  pub images : length M.images ≡ image_count g M
  pub base : length M.base ≡ g.size.dim

-- the line with this number is the first that may not stand where it stands, or the first that is missing
pub record HasBadLine (text : List ℕ) (n : ℕ) : Type 0 where
  pub rows : List Row
  pub stage : Stage
  pub left : List ℕ
  pub walk : Walk Start rows stage
  pub joined : text ≡ rows_text (row_lines rows) ++ left
  pub number : n ≡ length rows + 1
  pub none : NoneFollows stage left
  pub more : MayEnd stage → left ≢ []

-- the maps may stand in a text
abbrev pub MayStand : Option Maps → Type 0
MayStand None = Unit {0}
MayStand (Some maps) = AreFormed maps

-- the text is that of these maps
pub record IsTextOf (text : List ℕ) (maps : Option Maps) : Type 0 where
  pub formed : MayStand maps
  pub is : text ≡ maps_text maps

-- the first graph was read, and nothing else
abbrev pub IsBegun : Graph → List ℕ → Place → Type 0
IsBegun G text place = IsIn text (Listed (drawing_of G) []) place

-- in some text the first graph was read, and nothing else
abbrev pub HasBegun : Graph → Place → Type 0
HasBegun G place = (text : List ℕ) × IsBegun G text place

-- the text ends after these items
pub record HasItems (text : List ℕ) (G : Graph) (place : Place) (items : List ItemView) : Type 0 where
  pub at : IsIn text (Listed (drawing_of G) items) place
  pub none : place.rest ≡ []

-- the text ends after its first line
pub record HasNoGraph (text : List ℕ) (place : Place) : Type 0 where
  pub at : IsIn text Titled place
  pub none : place.rest ≡ []
