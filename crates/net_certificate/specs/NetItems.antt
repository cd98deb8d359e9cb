-- What a text of maps says of nets: of each net after the first, why there is no map to it from the first, or the map.
use Rattle.std.specs.Prelude.{◌≡◌, ◌↔◌, ℕ, ◌-◌, List, [], ◌∷◌, length, Option, None, Some}
use Rattle.periodic_net.specs.Graph.{Graph}
use Rattle.periodic_net.specs.Maps.{BareIso}
use Rattle.least_key.specs.KeyedNets.{KeyedNet}
use Rattle.map_check.specs.Conditions.{most_images}
use Rattle.net_certificate.specs.Items.{ItemView, Without, With, Maps, IsTold}
use Rattle.net_certificate.specs.Texts.{maps_text}
use Rattle.net_certificate.specs.declared.items.NoMap.TheVariants as why
use Rattle.net_certificate.specs.Answers.{IsMapAnswer}
use Rattle.net_certificate.specs.declared.maps.MapAnswer.{MapAnswer}
use Rattle.net_certificate.specs.declared.maps.MapAnswer.TheVariants.{Different, Found, LongMap, WideMap}

-- the item of a net with the graph H, by the answer to the first net and it
abbrev pub item_by : Graph → MapAnswer → ItemView
item_by H Different = Without why.Different
item_by H (LongMap entries) = Without (why.Long entries)
item_by H (WideMap value) = Without (why.Wide value)
item_by H (Found map) = With H map

-- the numbers that are reported if there is no map have 64 and 128 bits
abbrev pub HasItsBits : ItemView → Type 0
HasItsBits (Without why) = IsTold why
HasItsBits (With H map) = Unit {0}

-- the item of a net, if so many images may be printed
pub record IsItemOf (first : KeyedNet) (room : ℕ) (net : KeyedNet) (item : ItemView) : Type 0 where
  pub answer : MapAnswer
  pub is_answer : IsMapAnswer first net room answer
  pub item_is : item ≡ item_by net.placed.graph answer
  pub bits : HasItsBits item

-- the images that an item prints
abbrev pub images_in : ItemView → ℕ
images_in (Without why) = 0
images_in (With H map) = length map.images

-- the items of these nets in their order, if so many images may be printed; each image that is printed leaves room for one less
abbrev pub AreItemsOf : KeyedNet → ℕ → List KeyedNet → List ItemView → Type 0
AreItemsOf first room [] [] = Unit {0}
AreItemsOf first room (net ∷ nets) (item ∷ items) = IsItemOf first room net item × AreItemsOf first (room - images_in item) nets items
AreItemsOf first room nets items = ⊥

-- of each net it is said that it is different if and only if no bijection between the vertices of the first net and its own joins images exactly
-- if the vertices are joined
abbrev pub AreToldApart : KeyedNet → List KeyedNet → List ItemView → Type 0
AreToldApart first [] [] = Unit {0}
AreToldApart first (net ∷ nets) (item ∷ items) = ((item ≡ Without why.Different) ↔ (¬ BareIso first.placed.graph net.placed.graph))
    × AreToldApart first nets items
AreToldApart first nets items = ⊥

-- the graph of the first net, and the items of the others; at most 100,000 images are printed
pub record AreMapsFrom (first : KeyedNet) (nets : List KeyedNet) (maps : Maps) : Type 0 where
  pub first_is : maps.first ≡ first.placed.graph
  pub are_items : AreItemsOf first most_images nets maps.items
  pub apart : AreToldApart first nets maps.items

-- if there is no net there are none
abbrev pub AreMapsOf : List KeyedNet → Option Maps → Type 0
AreMapsOf [] None = Unit {0}
AreMapsOf (first ∷ nets) (Some maps) = AreMapsFrom first nets maps
AreMapsOf nets maps = ⊥

-- the text of the maps from the first of these nets to the others
pub record IsMapsTextOf (nets : List KeyedNet) (text : List ℕ) : Type 0 where
  pub maps : Option Maps
  pub are_maps : AreMapsOf nets maps
  pub text_is : text ≡ maps_text maps
