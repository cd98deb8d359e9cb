-- What a search in breadth has found of the images.
use Rattle.std.specs.Prelude.{◌≡◌, ◌≢◌, ◌⊎◌, ℕ, ◌-◌, ◌<◌, List, [], ◌∷◌, ◌++◌, length, slice_index_or, All, Contains}
use Rattle.periodic_net.specs.Graph.{Graph, Arc, IsArc, IsQuotientVertex}
use Rattle.periodic_net.specs.Limits.{most_vertices}
use Rattle.standard_map.specs.Ends.{End, IsEnd, IsNear}
use Rattle.standard_map.specs.Sides.{NetSide}

-- one of the ends is over u
pub record HasEnd (es : List End) (u : ℕ) : Type 0 where
  pub end : End
  pub is_in : Contains es end
  pub over : end.over ≡ u

-- none is
abbrev pub HasNoEnd : List End → ℕ → Type 0
HasNoEnd es u = All (λ e. e.over ≢ u) es

-- the ends that were found, in order: no two are over one vertex, and the one at place k was found by a walk of k arcs at most
pub record IsSearch (S T : NetSide) (es : List End) : Type 0 where
  pub each : All (IsEnd S T) es
  pub near : (k : ℕ) (d : End) → k < length es → IsNear k (slice_index_or es k d)
  pub apart : (j k : ℕ) (d : End) → j < k → k < length es → (slice_index_or es j d).over ≢ (slice_index_or es k d).over

-- each arc from u leads to a vertex over which there is an end
abbrev pub LeadToEnds : Graph → List End → ℕ → Type 0
LeadToEnds G es u = (a : Arc) → IsArc G a → a.from ≡ u → HasEnd es a.to

-- a search that found more
pub record Grows (S T : NetSide) (es es' : List End) : Type 0 where
  pub search : IsSearch S T es'
  pub rest : List End
  pub is : es' ≡ es ++ rest

-- an end over u was found before, or it comes last now, by a walk of k arcs at most
pub record IsWithHead (S T : NetSide) (es : List End) (u k : ℕ) (es' : List End) : Type 0 where
  pub which : ((es' ≡ es) × HasEnd es u)
      ⊎ ((e : End) × (es' ≡ es ++ e ∷ []) × (e.over ≡ u) × IsEnd S T e × IsNear k e × HasNoEnd es u)

-- a search that began at the origin, and whose first i vertices lead to ends alone
pub record IsSearchedTo (S T : NetSide) (es : List End) (i : ℕ) : Type 0 where
  pub search : IsSearch S T es
  pub first : HasEnd es S.origin
  pub done : (k : ℕ) (d : End) → k < i → LeadToEnds S.net.graph es (slice_index_or es k d).over

-- ends over all vertices of the quotient graph
pub record AreEnds (S T : NetSide) (es : List End) : Type 0 where
  pub each : All (IsEnd S T) es
  pub near : All (IsNear (most_vertices - 1)) es
  pub every : (u : ℕ) → IsQuotientVertex S.net.graph u → HasEnd es u
