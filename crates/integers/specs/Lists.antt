-- The sum of a function over the members of a list, and lists whose members correspond, one by one.
use Rattle.std.specs.Prelude.{ℤ, pos, ◌+ℤ◌, List, [], ◌∷◌}

-- the sum of g over the list
abbrev pub total : {X : Type 0} → (X → ℤ) → List X → ℤ
total g [] = pos 0
total g (x ∷ xs) = g x +ℤ total g xs

-- R holds of the members of the two lists, one by one
abbrev pub AreMatched : {X Y : Type 0} → (X → Y → Type 0) → List X → List Y → Type 0
AreMatched R [] [] = Unit {0}
AreMatched R [] (y ∷ ys) = ⊥
AreMatched R (x ∷ xs) [] = ⊥
AreMatched R (x ∷ xs) (y ∷ ys) = R x y × AreMatched R xs ys
