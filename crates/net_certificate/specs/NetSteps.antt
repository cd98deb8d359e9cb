-- What the steps of the code report of the items of nets.
use Rattle.std.specs.Prelude.{◌≡◌, ℕ, ◌-◌, List, ◌++◌}
use Rattle.line_text.specs.Lines.{rows_text}
use Rattle.least_key.specs.KeyedNets.{KeyedNet}
use Rattle.net_certificate.specs.Items.{ItemView}
use Rattle.net_certificate.specs.Rows.{row_lines}
use Rattle.net_certificate.specs.Texts.{item_rows, items_rows}
use Rattle.net_certificate.specs.NetItems.{IsItemOf, AreItemsOf, images_in}

-- the item of net k was put last, and so many images may be printed after it
pub record IsItemLast (first : KeyedNet) (k room : ℕ) (net : KeyedNet) (left : ℕ) (old new : List ℕ) : Type 0 where
  pub item : ItemView
  pub is_item : IsItemOf first room net item
  pub left_is : left ≡ room - images_in item
  pub text : new ≡ old ++ rows_text (row_lines (item_rows first.placed.graph.dimension k item))

-- the items of net k and of those after it were put last
pub record AreItemsLast (first : KeyedNet) (k room : ℕ) (nets : List KeyedNet) (old new : List ℕ) : Type 0 where
  pub items : List ItemView
  pub are_items : AreItemsOf first room nets items
  pub text : new ≡ old ++ rows_text (row_lines (items_rows first.placed.graph.dimension k items))
