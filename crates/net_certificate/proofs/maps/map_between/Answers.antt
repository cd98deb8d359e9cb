-- Of `map_between`: what it ensures.
use Rattle.net_certificate.proofs.maps.map_between.Goals as goal

pub returns-in-Flat-Flat : goal.returns-in-Flat-Flat
returns-in-Flat-Flat c =
    let flat = c.in-Flat-Flat in let o = c.answer_to.ensures in
    record { answer = rw (flat.is-0, flat.is-1) o.answer; verified = rw (flat.is-0, flat.is-1) o.verified }

pub returns-in-Space-Space : goal.returns-in-Space-Space
returns-in-Space-Space c =
    let space = c.in-Space-Space in let o = c.answer_to-in-Space-Space.ensures in
    record { answer = rw (space.is-0, space.is-1) o.answer; verified = rw (space.is-0, space.is-1) o.verified }

pub returns-in-Flat-Space : goal.returns-in-Flat-Space
returns-in-Flat-Space c =
    let two = c.in-Flat-Space in let o = c.answer_apart.ensures in
    record { answer = rw (two.is-0, two.is-1) o.answer; verified = rw (two.is-0, two.is-1) o.verified }

pub returns-in-Space-Flat : goal.returns-in-Space-Flat
returns-in-Space-Flat c =
    let two = c.in-Space-Flat in let o = c.answer_apart-in-Space-Flat.ensures in
    record { answer = rw (two.is-0, two.is-1) o.answer; verified = rw (two.is-0, two.is-1) o.verified }
