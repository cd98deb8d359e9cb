-- What a refusal reports of a graph, and which refusals a step may report.
use Rattle.std.specs.Prelude.{◌≡◌, ℕ}
use Rattle.integers.specs.Vectors.{Vector}
use Rattle.periodic_net.specs.Graph.{Graph, IsConnected}
use Rattle.key_theory.specs.Frames.{IsWorkPast}
use Rattle.key_theory.specs.Key.{Shape}
use Rattle.quotient_graph.specs.PlacedNets.{PlacedNet}
use Rattle.net_translations.specs.Places.{IsFirstCollision}
use Rattle.connected_dim.specs.Refusals.{IsDisconnectedBy, IsDegenerateBy}
use Rattle.barycentre.specs.PlaceFaults.{IsWideOf}
use Rattle.barycentre.specs.Reached.{LacksModulus}
use Rattle.least_key.specs.Placings.{IsPlacedAs, IsSettledAs}
use Rattle.least_key.specs.declared.refusal.Refusal.{Refusal}
use Rattle.least_key.specs.declared.refusal.Refusal.TheVariants.{Disconnected, Degenerate, NoModulus, WidePlacement, Collision, TooMuch, NoMemory}

-- G is placed, and the first vertices that stand in one place are u in cell 0 and v in cell t, which has dim parts
pub record IsCollidingAt (G : Graph) (dim u v : ℕ) (t : Vector) : Type 0 where
  pub dimension : dim ≡ G.dimension
  pub net : PlacedNet
  pub placed : IsPlacedAs G net
  pub first : IsFirstCollision G net.placement u v t

-- G is placed and stable, and its key work passes the limit after `done` starts, with this count
pub record HasTooMuchWork (G : Graph) (done counted : ℕ) : Type 0 where
  pub net : PlacedNet
  pub settled : IsSettledAs G net
  pub shape : Shape G
  pub past : IsWorkPast shape.classes done counted

-- what the refusal says is true of G; running out of memory says nothing
abbrev pub IsTrueOf : Graph → Refusal → Type 0
IsTrueOf G (Disconnected split) = IsDisconnectedBy G split
IsTrueOf G (Degenerate split) = IsDegenerateBy G split
IsTrueOf G (NoModulus first second third) = IsConnected G × LacksModulus G first second third
IsTrueOf G (WidePlacement w) = IsConnected G × IsWideOf G w w.site
IsTrueOf G (Collision dim u v t) = IsCollidingAt G dim u v t
IsTrueOf G (TooMuch done counted) = HasTooMuchWork G done counted
IsTrueOf G NoMemory = Unit {0}

-- it may be reported if a net is tested for connectedness alone
abbrev pub IsOfConnecting : Refusal → Type 0
IsOfConnecting (Disconnected split) = Unit {0}
IsOfConnecting (Degenerate split) = Unit {0}
IsOfConnecting (NoModulus first second third) = ⊥
IsOfConnecting (WidePlacement w) = ⊥
IsOfConnecting (Collision dim u v t) = ⊥
IsOfConnecting (TooMuch done counted) = ⊥
IsOfConnecting NoMemory = Unit {0}

-- it may be reported if a net is placed, and its key is not asked for
abbrev pub IsOfPlacing : Refusal → Type 0
IsOfPlacing (Disconnected split) = Unit {0}
IsOfPlacing (Degenerate split) = Unit {0}
IsOfPlacing (NoModulus first second third) = Unit {0}
IsOfPlacing (WidePlacement w) = Unit {0}
IsOfPlacing (Collision dim u v t) = ⊥
IsOfPlacing (TooMuch done counted) = ⊥
IsOfPlacing NoMemory = Unit {0}
