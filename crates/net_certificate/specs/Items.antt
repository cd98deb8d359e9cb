-- What a text of maps says: the first graph, and for each later one whether a map to it is written.
use Rattle.std.specs.Prelude.{ℕ, ◌<◌, ◌≤◌, ◌*◌, ◌^◌, ◌+◌, List, All, length, map, Option, None, Some}
use Rattle.periodic_net.specs.Graph.{Graph}
use Rattle.line_text.specs.Numbers.{IsWide}
use Rattle.quotient_graph.specs.AnyGraphs.{graph_view}
use Rattle.graph_rows.specs.declared.size.GraphSize.{GraphSize}
use Rattle.graph_rows.specs.Reading.{IsFormedGraph}
use Rattle.map_check.specs.Conditions.{SuitsGraphs, most_period, most_images}
use Rattle.map_check.specs.declared.map.PeriodicMap.{PeriodicMap}
use Rattle.net_certificate.specs.declared.items.MapsText.{MapsText}
use Rattle.net_certificate.specs.declared.items.NoMap.{NoMap}
use Rattle.net_certificate.specs.declared.items.NoMap.TheVariants.{Different, Long, Wide}
use Rattle.net_certificate.specs.declared.items.Item.{Item}
use Rattle.net_certificate.specs.declared.items.Item.TheVariants.{Without as WithoutMap, With as WithMap}

-- an item: why there is no map, or the second graph and a map to it
pub data ItemView : Type 0 where
  Without : NoMap → ItemView
  With : Graph → PeriodicMap → ItemView

-- an item in memory, as what it says
abbrev pub item_view : Item → ItemView
item_view (WithoutMap why) = Without why
item_view (WithMap graph map) = With (graph_view graph) map

-- the first graph, and the items of the later ones in their order
pub record Maps : Type 0 where
  pub first : Graph
  pub items : List ItemView

-- the numbers of 64 and of 128 bits that may be reported
abbrev pub IsTold : NoMap → Type 0
IsTold Different = Unit {0}
IsTold (Long entries) = entries < 2 ^ 64
IsTold (Wide value) = IsWide value

-- an item that can be written: the numbers have their bits, and the images are few
abbrev pub IsWritable : ItemView → Type 0
IsWritable (Without why) = IsTold why
IsWritable (With H map) = (1 ≤ map.m) × (map.m ≤ most_period) × (length map.images ≤ most_images)

-- a period of maps from graphs of this size that may be checked
pub record IsPeriod (s : GraphSize) (m : ℕ) : Type 0 where
  pub from : 1 ≤ m
  pub to : m ≤ most_period
  pub few : s.vertices * m ^ s.dim ≤ most_images

-- a second graph, and a map to it that may be checked
pub record IsFormedMap (G H : Graph) (map : PeriodicMap) : Type 0 where
  pub graph : IsFormedGraph H
  pub suits : SuitsGraphs G H map.m map.images map.base

-- an item that may stand in a text whose first graph is G
abbrev pub IsFormedItem : Graph → ItemView → Type 0
IsFormedItem G (Without why) = IsTold why
IsFormedItem G (With H map) = IsFormedMap G H map

-- what a text may say
pub record AreFormed (maps : Maps) : Type 0 where
  pub first : IsFormedGraph maps.first
  pub items : All (IsFormedItem maps.first) maps.items
  -- the numbers of all graphs have 32 bits
  pub few : length maps.items + 1 < 2 ^ 32

-- items in memory, as what they say
abbrev pub item_views : List Item → List ItemView
item_views items = map item_view items

-- a text that was read, as what it says
abbrev pub maps_view : MapsText → Maps
maps_view t = record { first = graph_view t.first; items = item_views t.items }

-- if there is a graph
abbrev pub maps_in : Option MapsText → Option Maps
maps_in None = None
maps_in (Some t) = Some (maps_view t)
