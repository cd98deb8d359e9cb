-- What a search has found, with more points.
use Rattle.std.specs.Prelude.{Bool, ◌&&◌, ◌==◌, List, [], ◌∷◌, ◌++◌, cond}
use Rattle.std.specs.List.{list_any}
use Rattle.std.specs.Ordering.{int_eq}
use Rattle.coordination.specs.declared.point.Point.{Point}

-- whether p and q are one point
abbrev pub same_point : Point → Point → Bool
same_point p q = p.class == q.class && (int_eq p.x q.x && (int_eq p.y q.y && int_eq p.z q.z))

-- whether p was found
abbrev pub is_found : List Point → Point → Bool
is_found found p = list_any (same_point p) found

-- what is found, with p
abbrev pub found_with : List Point → Point → List Point
found_with found p = cond (is_found found p) found (found ++ p ∷ [])

-- what is new, with p
abbrev pub new_with : List Point → List Point → Point → List Point
new_with found next p = cond (is_found found p) next (next ++ p ∷ [])

-- what is found, with each of these points
abbrev pub all_found : List Point → List Point → List Point
all_found found [] = found
all_found found (p ∷ ps) = all_found (found_with found p) ps

-- what is new, with each of these points
abbrev pub all_new : List Point → List Point → List Point → List Point
all_new found next [] = next
all_new found next (p ∷ ps) = all_new (found_with found p) (new_with found next p) ps
