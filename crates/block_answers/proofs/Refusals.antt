-- A refusal of a net holds whatever cell shows the net: as an infinite graph it is no net with a key.
use Rattle.std.proofs.Common.{ℕ, subst}
use Rattle.integers.specs.Vectors.{Vector}
use Rattle.periodic_net.specs.{Graph.Graph, Graph.IsConnected, Graph.IsGraph, Maps.BareIso, Placement.HasNoCollision, Placement.IsStable}
use Rattle.periodic_net.proofs.CallerLemmas.{bare_turned, one_placement, split_shows_not_connected, stable_told}
use Rattle.key_theory.{specs.Key.IsKeyable, proofs.CallerLemmas.work_not_past}
use Rattle.quotient_graph.specs.Splits.{split_view}
use Rattle.least_key.specs.{Truths.IsOfConnecting, Truths.IsTrueOf, declared.refusal.Refusal.Refusal}
use Rattle.least_key.specs.declared.refusal.Refusal.TheVariants.{Disconnected, Degenerate, Collision, TooMuch}
use Rattle.net_report.specs.declared.command.Command.{Command}
use Rattle.block_answers.specs.{Deciding.IsOfNet, Laws.RefusalsTell, Outcomes.MayTell}

-- a colouring shows that the net is not connected
pub refused_parted : (G : Graph) (refusal : Refusal) → IsGraph G → IsTrueOf G refusal → IsOfNet refusal → IsOfConnecting refusal → ¬ IsConnected G
refused_parted G (Disconnected split) g t r early c = split_shows_not_connected G (split_view split) g t.1 c
refused_parted G (Degenerate split) g t r early c = split_shows_not_connected G (split_view split) g t.1 c
refused_parted G (Collision dim u v t) g h r early c = absurd early
refused_parted G (TooMuch done counted) g h r early c = absurd early
refused_parted G refusal g t r early c = absurd r

-- if a command asks no further than for the placement, it reports no collision and no key work, so a refusal of the net is such a colouring
pub told_early : (command : Command) → ((dim u v : ℕ) (t : Vector) → ¬ MayTell command (Collision dim u v t))
    → ((done counted : ℕ) → ¬ MayTell command (TooMuch done counted)) → (refusal : Refusal) → MayTell command refusal → IsOfNet refusal
    → IsOfConnecting refusal
told_early command collides works (Disconnected split) m r = tt
told_early command collides works (Degenerate split) m r = tt
told_early command collides works (Collision dim u v t) m r = absurd (collides dim u v t m)
told_early command collides works (TooMuch done counted) m r = absurd (works done counted m)
told_early command collides works refusal m r = absurd r

-- what is keyable is stable
stable_of : (H : Graph) → IsKeyable H → IsStable H
stable_of H k = (k.shape.placement, k.shape.stable)

-- a net that is that of a stable one is stable; so it is connected, and its normal placement, which is one, has no collision
pub refusals_tell : RefusalsTell
refusals_tell G H (Disconnected split) g h t r k e =
    refused_parted G (Disconnected split) g t r tt (stable_told.stable H G h g (bare_turned G H e) (stable_of H k)).1.connected
refusals_tell G H (Degenerate split) g h t r k e =
    refused_parted G (Degenerate split) g t r tt (stable_told.stable H G h g (bare_turned G H e) (stable_of H k)).1.connected
refusals_tell G H (Collision dim u v t) g h c r k e =
    let s = stable_told.stable H G h g (bare_turned G H e) (stable_of H k) in
    let same = one_placement G g c.placed.connected s.0 c.net.placement s.1.placement c.placed.normal in
    subst (HasNoCollision G) same s.1.no_collision u v t c.first.collision
-- it is isomorphic to the stable net, so its key work is the same
refusals_tell G H (TooMuch done counted) g h t r k e =
    work_not_past H G h g (stable_told.onto G H g h (stable_of H k) e).0 k.shape t.shape k.work done counted k.is_work k.work_limit t.past
refusals_tell G H refusal g h t r k e = absurd r
