-- The eight base nets that a workload is made of, by their edges.
use Rattle.std.specs.Prelude.{ℕ, ℤ, pos, negsuc, Bool, ◌&&◌, List, [], ◌∷◌, nat_lt, if◌then◌else◌, slice_index_or, unsigned_abs}
use Rattle.workload.specs.declared.edge.Edge.{Edge}

-- an edge from u to v with a shift of two parts
abbrev pub flat : ℕ → ℕ → ℤ → ℤ → Edge
flat u v x y = record { u = u; v = v; x = x; y = y; z = pos 0 }

-- an edge from u to v with a shift of three parts
abbrev pub space : ℕ → ℕ → ℤ → ℤ → ℤ → Edge
space u v x y z = record { u = u; v = v; x = x; y = y; z = z }

abbrev pub sql : List Edge
sql = flat 1 1 (pos 1) (pos 0) ∷ flat 1 1 (pos 0) (pos 1) ∷ []

abbrev pub hxl : List Edge
hxl = flat 1 1 (pos 1) (pos 0) ∷ flat 1 1 (pos 0) (pos 1) ∷ flat 1 1 (pos 1) (pos 1) ∷ []

abbrev pub hcb : List Edge
hcb = flat 1 2 (pos 0) (pos 0) ∷ flat 1 2 (pos 1) (pos 0) ∷ flat 1 2 (pos 0) (pos 1) ∷ []

abbrev pub pcu : List Edge
pcu = space 1 1 (pos 1) (pos 0) (pos 0) ∷ space 1 1 (pos 0) (pos 1) (pos 0) ∷ space 1 1 (pos 0) (pos 0) (pos 1) ∷ []

abbrev pub bcu : List Edge
bcu = space 1 1 (pos 1) (pos 0) (pos 0) ∷ space 1 1 (pos 0) (pos 1) (pos 0) ∷ space 1 1 (pos 0) (pos 0) (pos 1) ∷ space 1 1 (pos 1) (pos 1) (pos 1) ∷ []

abbrev pub fcu : List Edge
fcu = space 1 1 (pos 1) (pos 0) (pos 0) ∷ space 1 1 (pos 0) (pos 1) (pos 0) ∷ space 1 1 (pos 0) (pos 0) (pos 1)
    ∷ space 1 1 (pos 1) (negsuc 0) (pos 0) ∷ space 1 1 (pos 0) (pos 1) (negsuc 0) ∷ space 1 1 (negsuc 0) (pos 0) (pos 1) ∷ []

abbrev pub dia : List Edge
dia = space 1 2 (pos 0) (pos 0) (pos 0) ∷ space 1 2 (pos 1) (pos 0) (pos 0) ∷ space 1 2 (pos 0) (pos 1) (pos 0) ∷ space 1 2 (pos 0) (pos 0) (pos 1) ∷ []

abbrev pub srs : List Edge
srs = space 1 2 (pos 0) (pos 0) (pos 0) ∷ space 1 3 (pos 0) (pos 0) (pos 0) ∷ space 1 4 (pos 0) (pos 0) (pos 0)
    ∷ space 2 3 (pos 1) (pos 0) (pos 0) ∷ space 2 4 (pos 0) (pos 1) (pos 0) ∷ space 3 4 (pos 0) (pos 0) (pos 1) ∷ []

-- the edges of the base nets, which are numbered from 0
unfoldable pub base_nets : List (List Edge)
base_nets = sql ∷ hxl ∷ hcb ∷ pcu ∷ bcu ∷ fcu ∷ dia ∷ srs ∷ []

-- the edges of base net b
abbrev pub base_edges : ℕ → List Edge
base_edges b = slice_index_or base_nets b []

-- the dimension of base net b: the first three are plane
abbrev pub dimension : ℕ → ℕ
dimension b = if nat_lt b 3 then 2 else 3

-- a shift part from -1 to 1
abbrev pub is_unit : ℤ → Bool
is_unit part = nat_lt (unsigned_abs part) 2

-- at most four vertices, and shift parts from -1 to 1
abbrev pub is_base_edge : Edge → Bool
is_base_edge e = nat_lt 0 e.u && (nat_lt e.u 5 && (nat_lt 0 e.v && (nat_lt e.v 5 && (is_unit e.x && (is_unit e.y && is_unit e.z)))))
