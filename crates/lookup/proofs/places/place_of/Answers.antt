use Rattle.std.proofs.Common.{None, ◌∙◌, refl}
use Rattle.lookup.proofs.NotedLaws.{noted_at}
use Rattle.lookup.proofs.places.place_of.Goals as goal

pub returns-in-Some : goal.returns-in-Some
returns-in-Some c =
    let there = c.in-Some.ensures.lookup.3 in
    there.1 None ∙ noted_at c.args.s.now _ c.args.places.now _ c.requires there.0 ∙ rw c.from.ensures refl
