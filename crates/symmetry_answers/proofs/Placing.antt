-- The line of the next vertex of a primitive graph, after the lines up to this one.
use Rattle.std.proofs.Common.{◌≡◌, ℕ, ◌+◌, List, ◌++◌, sym, ap, ◌∙◌, add-one, append_assoc}
use Rattle.quotient_graph.specs.PlacedNets.{PlacedNet}
use Rattle.symmetry_answers.specs.Texts.{place_text, places_text}

pub places_more : (p : PlacedNet) (n : ℕ) (text before after : List ℕ) → before ≡ text ++ places_text p n → after ≡ before ++ place_text p (n + 1)
    → after ≡ text ++ places_text p (n + 1)
places_more p n text before after e f =
    f ∙ ap (λ (t : List ℕ). t ++ place_text p (n + 1)) e ∙ append_assoc text (places_text p n) (place_text p (n + 1))
    ∙ ap (λ (k : ℕ). text ++ (places_text p n ++ place_text p k)) (add-one n) ∙ sym (ap (λ (k : ℕ). text ++ places_text p k) (add-one n))
