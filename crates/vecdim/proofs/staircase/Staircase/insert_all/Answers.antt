use Rattle.std.proofs.Common.{sym, subst, ap, List, ◌∷◌, drop, ◌+◌, ◌∙◌}
use Rattle.std.proofs.lemmas.List.{drop_more, drop_all}
use Rattle.integers.specs.Vectors.{Vector}
use Rattle.vecdim.{specs.Lattices.Members, specs.Lattices.IsWith, proofs.Adding.with_more, proofs.Adding.with_nothing}
use Rattle.vecdim.proofs.staircase.Staircase.insert_all.Goals as goal

pub loop-v-preserved : goal.loop-v-preserved
loop-v-preserved g c T h =
    c.loop-v.invariant T
    (subst (λ (vs : List Vector). IsWith (Members g.row.D c.loop-v.self) vs (Members g.row.D T))
    (sym (drop_more c.args.vs.now c.loop-v.v-index c.v-item.result c.loop-v-test.true
    ∙ ap (λ (v : Vector). v ∷ drop (c.loop-v.v-index + 1) c.args.vs.now) (sym c.v-item.is)))
    (with_more (Members g.row.D c.loop-v.self) (Members g.row.D c.insert.new.self) (Members g.row.D T) c.v-item.result
    (drop (c.loop-v.v-index + 1) c.args.vs.now) c.insert.ensures h))

pub returns : goal.returns
returns g c =
    c.loop-v.invariant c.loop-v.self
    (subst (λ (vs : List Vector). IsWith (Members g.row.D c.loop-v.self) vs (Members g.row.D c.loop-v.self))
    (sym (drop_all c.loop-v.v-index c.args.vs.now c.loop-v-test.false)) (with_nothing (Members g.row.D c.loop-v.self)))
