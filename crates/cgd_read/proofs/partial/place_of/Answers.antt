use Rattle.std.proofs.Common.{ap, ◌∙◌, map, List, ℕ, Bor}
use Rattle.cgd_read.proofs.Places.{names_insert, place_of}
use Rattle.cgd_read.proofs.partial.place_of.Goals as goal

pub returns-in-Ok-clause-names : goal.returns-in-Ok-clause-names
returns-in-Ok-clause-names c = ap (λ (ks : List (Bor (List ℕ))). map (λ (b : Bor (List ℕ)). b.now) ks) c.in-Ok.ensures.keys
    ∙ names_insert c.args.name c.args.names.now.keys

pub returns-in-Ok-clause-place : goal.returns-in-Ok-clause-place
returns-in-Ok-clause-place c = c.in-Ok.ensures.index ∙ place_of c.args.name c.args.names.now.keys
