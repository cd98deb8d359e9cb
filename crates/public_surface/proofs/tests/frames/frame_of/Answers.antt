use Rattle.std.proofs.Common.{List, ◌∷◌, inl, inr, refl, sym, subst}
use Rattle.std.specs.List.{Contains}
use Rattle.integers.proofs.lists.Members.{contains_from_in, is_in}
use Rattle.periodic_net.specs.Classes.{ClassArc}
use Rattle.public_surface.proofs.tests.frames.frame_of.Goals as goal

pub loop-frame-preserved : goal.loop-frame-preserved
loop-frame-preserved g c = λ f i.
    let left = c.next.new.self in let all = c.in-Some.frame ∷ left in
    c.loop-frame.invariant f (subst (λ (fs : List (List ClassArc)). Contains fs f) (sym c.in-Some.ensures) (contains_from_in all f (inr (is_in left f i))))

pub returns-then-has_legs : goal.returns-then-has_legs
returns-then-has_legs g c =
    let frame = c.in-Some.frame in let all = frame ∷ c.next.new.self in
    c.loop-frame.invariant frame (subst (λ (fs : List (List ClassArc)). Contains fs frame) (sym c.in-Some.ensures) (contains_from_in all frame (inl refl)))
